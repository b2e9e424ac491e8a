-- What the machine sends within its bounds may be sent.
use Rattle.std.proofs.Common.{◌≡◌, ℕ, ◌<◌, ◌≤◌, ◌^◌, List, [], ◌∷◌, length, arith}
use Rattle.std.specs.Prelude.{Option, Some, None}
use Rattle.machine.specs.Octets.{AreOctets}
use Rattle.machine.specs.Keys.{Every}
use Rattle.machine.specs.Sent.{Rejection, SentComponent, Insert, Cancel, UpdateResult, PurgeResult, RouteResult, SentError, Why, NoCause, Cause, Refusing, SentMessage, SentBegin, SentContinue, SentEnd, SentAbort}
use Rattle.machine.specs.Bounds.{IfThere, AreDigits, RejectInBounds, SentComponentInBounds, WhyInBounds, SentInBounds}
use Rattle.x690.specs.declared.limits.TheConstants.{MAX_OCTETS}
use Rattle.frames.specs.Sane.{AreDecimal, SaneComponent, SaneRejection, SaneWhy, SaneContent, Sane, HasIds}
use Rattle.frames.specs.SentTrees.{octets_of_sent}
use Rattle.frames_laws.proofs.SizeLaws.{sent_size}

-- ---- values

digits_sane : (digits : List ℕ) → Every (λ d. d < 10) digits → AreDecimal digits
digits_sane [] h = tt
digits_sane (d ∷ ds) h = (h.0, digits_sane ds h.1)

digits_if : (digits : Option (List ℕ)) → IfThere AreDigits digits → IfThere AreDecimal digits
digits_if None h = tt
digits_if (Some digits) h = digits_sane digits h.0

lmsi_if : (lmsi : Option (List ℕ)) → IfThere (λ l. AreOctets l × (length l ≡ 4)) lmsi → IfThere AreOctets lmsi
lmsi_if None h = tt
lmsi_if (Some lmsi) h = h.0

-- ---- components

component_sane : (c : SentComponent) → SentComponentInBounds c → SaneComponent c
component_sane (Insert id imsi msisdn codes) h = (h.0, digits_if imsi h.1, digits_if msisdn h.2, h.3)
component_sane (Cancel id imsi cancellation) h = (h.0, digits_sane imsi h.1.0)
component_sane (UpdateResult id hlr) h = (h.0, digits_sane hlr h.1.0)
component_sane (PurgeResult id freeze) h = h
component_sane (RouteResult id imsi msc lmsi) h = (h.0, digits_sane imsi h.1.0, digits_sane msc h.2.0, lmsi_if lmsi h.3)
component_sane (SentError id code) h = h

components_sane : (cs : List SentComponent) → Every SentComponentInBounds cs → Every SaneComponent cs
components_sane [] h = tt
components_sane (c ∷ cs) h = (component_sane c h.0, components_sane cs h.1)

reject_sane : (r : Rejection) → RejectInBounds r → SaneRejection r
reject_sane r h = h

rejects_sane : (rs : List Rejection) → Every RejectInBounds rs → Every SaneRejection rs
rejects_sane [] h = tt
rejects_sane (r ∷ rs) h = (reject_sane r h.0, rejects_sane rs h.1)

-- ---- messages

why_sane : (why : Why) → WhyInBounds why → SaneWhy why
why_sane NoCause h = tt
why_sane (Cause cause) h = h
why_sane (Refusing name) h = h.0

content_sane : (m : SentMessage) → SentInBounds m → SaneContent m
content_sane (SentBegin origin context components) h = ((h.0).octets, components_sane components h.1.0)
content_sane (SentContinue origin destination context rejects components) h =
    ((h.0).octets, (h.1).octets, rejects_sane rejects h.2.0, components_sane components h.3.0)
content_sane (SentEnd destination context rejects components) h =
    ((h.0).octets, rejects_sane rejects h.1.0, components_sane components h.2.0)
content_sane (SentAbort destination why) h = ((h.0).octets, why_sane why h.1)

ids_sane : (m : SentMessage) → SentInBounds m → HasIds m
ids_sane (SentBegin origin context components) h = (h.0).count
ids_sane (SentContinue origin destination context rejects components) h = ((h.0).count, (h.1).count)
ids_sane (SentEnd destination context rejects components) h = (h.0).count
ids_sane (SentAbort destination why) h = (h.0).count

pub sent_sane : (m : SentMessage) → SentInBounds m → Sane m × HasIds m
sent_sane m h = let short = sent_size m h in (record { content = content_sane m h; size = small short }, ids_sane m h)
  where
    small : length (octets_of_sent m) ≤ MAX_OCTETS → length (octets_of_sent m) < 2 ^ 32
    small short = omega arith
