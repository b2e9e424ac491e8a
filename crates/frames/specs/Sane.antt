-- What may be sent: the conditions under which its octets are octets, determine what was sent, and are read as that.
use Rattle.std.specs.Prelude.{ℕ, ◌<◌, ◌≤◌, ◌^◌, List, [], length}
use Rattle.std.specs.List.{AllByRecursion}
use Rattle.machine.specs.Octets.{IsOctet, AreOctets, HasIdLength}
use Rattle.x690.specs.Tree.{Tree}
use Rattle.machine.specs.Bounds.{IfThere, IsInvokeId}
use Rattle.machine.specs.Keys.{Every}
use Rattle.machine.specs.Sent.{Rejection, SentComponent, Insert, Cancel, UpdateResult, PurgeResult, RouteResult, SentError, Why, NoCause, Cause, Refusing, SentMessage, SentBegin, SentContinue, SentEnd, SentAbort}
use Rattle.machine.specs.declared.numbers.TheConstants.{MAX_COMPONENTS}
use Rattle.x690.specs.declared.limits.TheConstants.{MAX_OCTETS}
use Rattle.frames.specs.SentTrees.{component_trees, octets_of_sent}

-- digits 0 to 9
abbrev pub AreDecimal : List ℕ → Type 0
AreDecimal digits = AllByRecursion (λ digit. digit < 10) digits

abbrev pub SaneComponent : SentComponent → Type 0
SaneComponent (Insert id imsi msisdn codes) = IsInvokeId id × IfThere AreDecimal imsi × IfThere AreDecimal msisdn × AreOctets codes
SaneComponent (Cancel id imsi cancellation) = IsInvokeId id × AreDecimal imsi
SaneComponent (UpdateResult id hlr) = IsInvokeId id × AreDecimal hlr
SaneComponent (PurgeResult id freeze) = IsInvokeId id
SaneComponent (RouteResult id imsi msc lmsi) = IsInvokeId id × AreDecimal imsi × AreDecimal msc × IfThere AreOctets lmsi
SaneComponent (SentError id code) = IsInvokeId id × IsOctet code

abbrev pub SaneRejection : Rejection → Type 0
SaneRejection r = IfThere IsInvokeId r.id × IsOctet r.problem

abbrev pub SaneWhy : Why → Type 0
SaneWhy NoCause = Unit {0}
SaneWhy (Cause cause) = IsOctet cause
SaneWhy (Refusing name) = AreOctets name

abbrev pub SaneContent : SentMessage → Type 0
SaneContent (SentBegin origin context components) = AreOctets origin × Every SaneComponent components
SaneContent (SentContinue origin destination context rejects components) =
    AreOctets origin × AreOctets destination × Every SaneRejection rejects × Every SaneComponent components
SaneContent (SentEnd destination context rejects components) = AreOctets destination × Every SaneRejection rejects × Every SaneComponent components
SaneContent (SentAbort destination why) = AreOctets destination × SaneWhy why

-- Octets are octets, digits are digits, an invoke id fits in one octet, and a length in four.
pub record Sane (m : SentMessage) : Type 0 where
  pub content : SaneContent m
  pub size : length (octets_of_sent m) < 2 ^ 32

-- transaction ids have 1 to 4 octets
abbrev pub HasIds : SentMessage → Type 0
HasIds (SentBegin origin context components) = HasIdLength origin
HasIds (SentContinue origin destination context rejects components) = HasIdLength origin × HasIdLength destination
HasIds (SentEnd destination context rejects components) = HasIdLength destination
HasIds (SentAbort destination why) = HasIdLength destination

abbrev pub trees_sent : SentMessage → List Tree
trees_sent (SentBegin origin context components) = component_trees [] components
trees_sent (SentContinue origin destination context rejects components) = component_trees rejects components
trees_sent (SentEnd destination context rejects components) = component_trees rejects components
trees_sent (SentAbort destination why) = []

-- Within the limits of what is read. What is sent may hold more components than that: a Reject for each one received, and
-- inserts of its own. A peer with this same profile would answer such a frame with an Abort.
pub record Readable (m : SentMessage) : Type 0 where
  pub content : SaneContent m
  pub ids : HasIds m
  pub few : length (trees_sent m) ≤ MAX_COMPONENTS
  pub short : length (octets_of_sent m) ≤ MAX_OCTETS
