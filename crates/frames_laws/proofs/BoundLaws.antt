-- What octets read to is within the bounds of the machine.
use Rattle.std.proofs.Common.{◌≡◌, ℕ, ℤ, ◌<◌, ◌≤◌, List, [], ◌∷◌, ◌++◌, length, refl, sym, subst, inl, inr, arith, lit<}
use Rattle.std.specs.Prelude.{Option, Some, None, option_to_list}
use Rattle.std.specs.Int.{w8}
use Rattle.std.specs.List.{AllByRecursion}
use Rattle.std.proofs.lemmas.Bool.{cases_lt}
use Rattle.std.proofs.Math.Facts.{sfits_to_z, Fits-of_lt}
use Rattle.machine.specs.Octets.{IsOctet, AreOctets, HasIdLength}
use Rattle.x690.specs.Tree.{Tree, Trees, Primitive, Constructed, Empty, More, trees, HasOctets, AllHaveOctets}
use Rattle.x690.specs.declared.Tag.{Tag}
use Rattle.x690.specs.Identifier.{identifier}
use Rattle.x690.specs.Spelling.{Spells, SpellsAll}
use Rattle.x690.proofs.Encoding.{AreOctets-front, AreOctets-back}
use Rattle.x690.proofs.Forests.{trees-list_of}
use Rattle.hlr_types.specs.Digits.{AreSomeDigits}
use Rattle.hlr_types.specs.Identities.{IsImsi, IsAddress, IsLmsi}
use Rattle.machine.specs.Keys.{Every}
use Rattle.machine.specs.Received.{Argument, BadValue, Update, Purge, Route, Parameter, Mistyped, Typed, Code, Number, Other, Component, Invoke, ResultLast, ResultNotLast, ReturnError, Reject, Bad, Ignored, Aarq, Message, Begin, Continue, End, Abort, Verdict}
use Rattle.machine.specs.Bounds.{IfThere, AreDigits, IsTransactionId, IsInvokeId, IsName, IsOfOperation, ArgumentInBounds, ParameterInBounds, ComponentInBounds, MessageInBounds, VerdictInBounds}
use Rattle.machine.specs.declared.numbers.TheConstants.{MAX_COMPONENTS}
use Rattle.frames.specs.declared.tags.TheConstants.{INTEGER, UPDATE_LMSI}
use Rattle.frames.specs.Messages as tc
use Rattle.frames.specs.Messages.{Portions, TcMessage, Unread, components_in}
use Rattle.frames.specs.MessageForms.{AreDialogue, AreComponents, ArePortions, IsMessage}
use Rattle.frames.specs.DialogueForms.{IsDialogue}
use Rattle.frames.specs.ComponentForms.{IsId, IsWellFormed, HasIdTag, BeginsWithId}
use Rattle.frames.specs.ArgumentForms.{optional_element, AreIfThere, Arg, IsParameter}
use Rattle.frames.specs.Heard.{IsHeard, AreHeard}
use Rattle.frames.specs.Points.{HasOrigin, Point, IsUnidirectional, IsAnotherMessage, LacksOrigin, LacksDestination, BreaksItsForm, HasUnreadablePortion, HasTooManyComponents, points, IsAnswer, cause_of, IsSaidFirst, NoneFits}
use Rattle.frames.specs.Verdicts.{verdict_on}
use Rattle.frames.specs.Frames.{IsPortion, Reads, IsJudged, IsVerdict}

-- ---- octets of a tree

mutual
  spells_octets : (octets : List ℕ) (t : Tree) → AreOctets octets → Spells octets t → HasOctets t
  spells_octets octets (Primitive tag contents) are (is, (size, l, e)) =
      AreOctets-back size contents (AreOctets-back (identifier tag) (size ++ contents) (subst AreOctets e are))
  spells_octets octets (Constructed tag ts) are (is, contents, all, inl (size, l, e)) =
      all_spell_octets contents ts (AreOctets-back size contents (AreOctets-back (identifier tag) (size ++ contents) (subst AreOctets e are))) all
  spells_octets octets (Constructed tag ts) are (is, contents, all, inr e) =
      all_spell_octets contents ts (AreOctets-front contents (0 ∷ 0 ∷ [])
      (AreOctets-back (identifier tag) (128 ∷ (contents ++ 0 ∷ 0 ∷ [])) (subst AreOctets e are)).1) all

  all_spell_octets : (octets : List ℕ) (ts : Trees) → AreOctets octets → SpellsAll octets ts → AllHaveOctets ts
  all_spell_octets octets Empty are e = tt
  all_spell_octets octets (More t ts) are (front, back, s, all, e) =
      let split : AreOctets (front ++ back) = subst AreOctets e are in
      (spells_octets front t (AreOctets-front front back split) s, all_spell_octets back ts (AreOctets-back front back split) all)

-- the elements of a list
abbrev ListOctets : List Tree → Type 0
ListOctets ts = AllHaveOctets (trees ts)

list_back : (ts us : List Tree) → ListOctets (ts ++ us) → ListOctets us
list_back [] us h = h
list_back (t ∷ ts) us h = list_back ts us h.1

list_front : (ts us : List Tree) → ListOctets (ts ++ us) → ListOctets ts
list_front [] us h = tt
list_front (t ∷ ts) us h = (h.0, list_front ts us h.1)

digits_are : (ds : List ℕ) → AllByRecursion (λ d. d < 10) ds → Every (λ d. d < 10) ds
digits_are [] h = tt
digits_are (d ∷ ds) h = (h.0, digits_are ds h.1)

some_digits : (ds : List ℕ) → AreSomeDigits ds → AreDigits ds
some_digits ds h = (digits_are ds h.each, h.most)

-- ---- ids

transaction_id : (id : List ℕ) → AreOctets id → HasIdLength id → IsTransactionId id
transaction_id id are fits = record { octets = are; count = fits }

invoke_id : (i : Tree) (id : ℤ) → HasOctets i → IsId INTEGER i id → IsInvokeId id
invoke_id i id h (n, is, same) = let are = subst HasOctets is h in subst IsInvokeId same (sfits_to_z {w = w8} (Fits-of_lt {w = w8} are.0))

-- ---- parameters

imsi_digits : (octets ds : List ℕ) → IsImsi octets ds → AreDigits ds
imsi_digits octets ds h = some_digits ds h.spelled.some

address_digits : (octets ds : List ℕ) → IsAddress octets ds → AreDigits ds
address_digits octets ds h = some_digits ds h.spelled.some

address_if : (octets ds : Option (List ℕ)) → AreIfThere IsAddress octets ds → IfThere AreDigits ds
address_if None None h = tt
address_if (Some octets) None h = absurd h
address_if None (Some ds) h = absurd h
address_if (Some octets) (Some ds) h = address_digits octets ds h

lmsi_if : (octets lmsi : Option (List ℕ)) → ((o : List ℕ) → octets ≡ Some o → AreOctets o) → AreIfThere IsLmsi octets lmsi
    → IfThere (λ l. AreOctets l × (length l ≡ 4)) lmsi
lmsi_if None None are h = tt
lmsi_if (Some o) None are h = absurd h
lmsi_if None (Some l) are h = absurd h
lmsi_if (Some o) (Some l) are h = (subst AreOctets h.same (are o refl), h.count)

optional_octets : (tag : Tag) (o : Option (List ℕ)) (rest : List Tree) → ListOctets (optional_element tag o ++ rest) → (octets : List ℕ) → o ≡ Some octets
    → AreOctets octets
optional_octets tag None rest h octets e = absurd cc
optional_octets tag (Some own) rest h octets e = let same : own ≡ octets = cc in subst AreOctets same h.0

argument_within : (operation : ℕ) (t : Tree) (a : Argument) → HasOctets t → Arg operation t a → ArgumentInBounds a × IsOfOperation (Number operation) a
argument_within operation t (Update imsi register) h (of, c, has, i, m, v, l) =
    let inner = subst HasOctets has.spelled h in (
      (
        imsi_digits c.imsi imsi i,
        record {
          vlr = address_digits c.vlr register.vlr v;
          msc = address_digits c.msc register.msc m;
          lmsi = lmsi_if c.lmsi register.lmsi
              (optional_octets UPDATE_LMSI c.lmsi has.further inner.1.1.1) l;
        },
      ),
      of,
    )
argument_within operation t (Purge imsi vlr) h (of, c, has, i, v) = ((imsi_digits c.imsi imsi i, address_if c.vlr vlr v), of)
argument_within operation t (Route msisdn) h (of, octets, has, a) = (address_digits octets msisdn a, of)
argument_within operation t BadValue h is = absurd is

parameter_within : (code : Code) (t : Tree) (p : Parameter) → HasOctets t → IsParameter code t p → ParameterInBounds code (Some p)
parameter_within (Number operation) t Mistyped h is = tt
parameter_within (Number operation) t (Typed BadValue) h is = (tt, tt)
parameter_within (Number operation) t (Typed (Update imsi register)) h is = argument_within operation t (Update imsi register) h is
parameter_within (Number operation) t (Typed (Purge imsi vlr)) h is = argument_within operation t (Purge imsi vlr) h is
parameter_within (Number operation) t (Typed (Route msisdn)) h is = argument_within operation t (Route msisdn) h is
parameter_within Other t Mistyped h is = tt
parameter_within Other t (Typed a) h is = absurd is

-- ---- components

-- the first id, and the parameter of an Invoke
invoke_parts : (t : Tree) (id : ℤ) (linked : Option ℤ) (code : Code) (p : Option Tree) → HasOctets t → IsWellFormed t (Invoke id linked code p)
    → IsInvokeId id × ListOctets (option_to_list p)
invoke_parts t id linked code p h (i, is_id, ls, are_linked, cs, (u, is_code, coded), is) =
    let inner = subst HasOctets is h in
    let rest = list_back ls cs inner.1 in
    (invoke_id i id inner.0 is_id, (subst ListOctets coded rest).1)

front_id : (t : Tree) (ts : List Tree) (id : ℤ) → HasOctets t → HasIdTag t ts → BeginsWithId ts id → IsInvokeId id
front_id t ts id h (inl is) (i, rest, is_id, e) = invoke_id i id (subst ListOctets e (subst HasOctets is h)).0 is_id
front_id t ts id h (inr (inl is)) (i, rest, is_id, e) = invoke_id i id (subst ListOctets e (subst HasOctets is h)).0 is_id
front_id t ts id h (inr (inr (inl is))) (i, rest, is_id, e) = invoke_id i id (subst ListOctets e (subst HasOctets is h)).0 is_id
front_id t ts id h (inr (inr (inr is))) (i, rest, is_id, e) = invoke_id i id (subst ListOctets e (subst HasOctets is h)).0 is_id

-- the problem of an ill-formed component
bad_problem : (t : Tree) (id : Option ℤ) (problem : ℕ) → IsHeard t (Bad id problem) → IsOctet problem
bad_problem t None problem (inl another) = subst IsOctet (sym another.0) (lit< tt)
bad_problem t None problem (inr mistyped) = subst IsOctet (sym mistyped.0) (lit< tt)
bad_problem t (Some id) problem mistyped = subst IsOctet (sym mistyped.0) (lit< tt)

component_within : (t : Tree) (c : Component) → HasOctets t → IsHeard t c → ComponentInBounds c
component_within t (Invoke id linked code None) h is = ((invoke_parts t id linked code None h is).0, tt)
component_within t (Invoke id linked code (Some parameter)) h (p, is, reads) =
    let parts = invoke_parts t id linked code (Some p) h is in
    (parts.0, parameter_within code p parameter parts.1.0 reads)
component_within t (ResultLast id) h (i, is_id, ts, are, is) = invoke_id i id (subst HasOctets is h).0 is_id
component_within t (ResultNotLast id) h (i, is_id, ts, are, is) = invoke_id i id (subst HasOctets is h).0 is_id
component_within t (ReturnError id code) h (i, is_id, cs, p, are, is) = invoke_id i id (subst HasOctets is h).0 is_id
component_within t (Reject id side problem) h is = tt
component_within t (Bad None problem) h is = (tt, bad_problem t None problem is)
component_within t (Bad (Some id) problem) h is = (front_id t is.1 id h is.2 is.3, bad_problem t (Some id) problem is)
component_within t Ignored h is = tt

components_within : (ts : List Tree) (cs : List Component) → ListOctets ts → AreHeard ts cs → Every ComponentInBounds cs × (length cs ≡ length ts)
components_within [] [] h are = (tt, refl)
components_within [] (c ∷ cs) h are = absurd are
components_within (t ∷ ts) [] h are = absurd are
components_within (t ∷ ts) (c ∷ cs) h are =
    let rest = components_within ts cs h.1 are.1 in
    let len = rest.1 in
    ((component_within t c h.0 are.0, rest.0), omega arith)

-- ---- portions

portions_octets : (ts : List Tree) (p : Portions) → ListOctets ts → ArePortions ts p
    → ((d : Tree) → p.dialogue ≡ Some d → HasOctets d) × ListOctets p.components
portions_octets ts p h are =
    let inner = subst ListOctets are.whole h in
    (dialogue are.ds p.dialogue (list_front are.ds are.cs inner) are.dialogue, components are.cs p.components (list_back are.ds are.cs inner) are.components)
  where
    dialogue : (ds : List Tree) (o : Option Tree) → ListOctets ds → AreDialogue ds o → (d : Tree) → o ≡ Some d → HasOctets d
    dialogue ds None k is d e = absurd cc
    dialogue ds (Some u) k is d e = let same : u ≡ d = cc in subst HasOctets same (subst ListOctets is.0 k).0

    components : (cs us : List Tree) → ListOctets cs → AreComponents cs us → ListOctets us
    components cs us k (inl (e, f)) = subst ListOctets (sym f) tt
    components cs us k (inr e) = (subst ListOctets e k).0

name_within : (d : Tree) (name : List ℕ) → HasOctets d → IsDialogue d (Aarq name) → IsName name
name_within d name h (inner, (vs, versions, c, (is, some, most), us, information, e), around) =
    let outer = subst HasOctets around h in
    let apdu : HasOctets inner = outer.0.1.0.0 in
    let rest = list_back vs (c ∷ us) (subst HasOctets e apdu) in
    ((subst HasOctets is rest.0).0, most)

asked_within : (o : Option Tree) (name : Option (List ℕ)) → ((d : Tree) → o ≡ Some d → HasOctets d) → IsPortion (λ n. Aarq n) o name → IfThere IsName name
asked_within None None h is = tt
asked_within None (Some name) h is = absurd is
asked_within (Some d) None h is = absurd is
asked_within (Some d) (Some name) h is = name_within d name (h d refl) is

-- ---- messages

few_of : (t : Tree) (m : TcMessage) → NoneFits points t → IsMessage t m → length (components_in m) ≤ MAX_COMPONENTS
few_of t m none is = elim (cases_lt MAX_COMPONENTS (length (components_in m))) [
  | inl many ↦ absurd (none.1.1.1.1.1.1.0 (m, is, many))
  | inr few ↦ few
]

message_within : (t : Tree) (m : Message) → HasOctets t → NoneFits points t → Reads t m → MessageInBounds m
message_within t (Begin origin context components) h none (p, is, holds, are) =
    let few = few_of t (tc.Begin origin p) none is in
    let (ts, portions, fits, e) = is in
    let inner = subst HasOctets e h in
    let parts = portions_octets ts p inner.1 portions in
    let each = components_within p.components components parts.1 are in
    let len = each.1 in
    (transaction_id origin inner.0 fits, asked_within p.dialogue context parts.0 holds, (each.0, omega arith))
message_within t (Continue origin destination response components) h none (p, is, holds, are) =
    let few = few_of t (tc.Continue origin destination p) none is in
    let (ts, portions, fits, fits', e) = is in
    let inner = subst HasOctets e h in
    let parts = portions_octets ts p inner.1.1 portions in
    let each = components_within p.components components parts.1 are in
    let len = each.1 in
    (transaction_id origin inner.0 fits, (each.0, omega arith))
message_within t (End destination response components) h none reads = tt
message_within t (Abort destination) h none reads = tt

children_octets : (t : Tree) → HasOctets t → (origin : List ℕ) → HasOrigin t origin → AreOctets origin
children_octets (Primitive tag contents) h origin has = let e = has.spelled in absurd cc
children_octets (Constructed tag ts) h origin has = (subst ListOctets has.spelled (subst AllHaveOctets (sym (trees-list_of ts)) h)).0

-- ---- verdicts

abbrev UnreadWithin : Unread → Type 0
UnreadWithin u = VerdictInBounds (verdict_on u)

cause_within : (p : Point) → IfThere IsOctet (cause_of p)
cause_within IsUnidirectional = tt
cause_within IsAnotherMessage = lit< tt
cause_within LacksOrigin = tt
cause_within LacksDestination = lit< tt
cause_within BreaksItsForm = lit< tt
cause_within HasUnreadablePortion = lit< tt
cause_within HasTooManyComponents = lit< tt

answer_within : (t : Tree) (cause : Option ℕ) (u : Unread) → HasOctets t → IfThere IsOctet cause → IsAnswer t cause u → UnreadWithin u
answer_within t None u h c e = subst UnreadWithin (sym e) tt
answer_within t (Some cause) u h c (inl (origin, may, e)) = subst UnreadWithin (sym e) (transaction_id origin (children_octets t h origin may.0) may.0.fits, c)
answer_within t (Some cause) u h c (inr (none, e)) = subst UnreadWithin (sym e) tt

said_within : (ps : List Point) (t : Tree) (u : Unread) → HasOctets t → IsSaidFirst ps t u → UnreadWithin u
said_within [] t u h said = absurd said
said_within (p ∷ ps) t u h (inl a) = answer_within t (cause_of p) u h (cause_within p) a.1
said_within (p ∷ ps) t u h (inr a) = said_within ps t u h a.1

judged_within : (t : Tree) (v : Verdict) → HasOctets t → IsJudged t v → VerdictInBounds v
judged_within t v h (inl (u, said, e)) = subst VerdictInBounds (sym e) (said_within points t u h said)
judged_within t v h (inr (none, (m, reads, e))) = subst VerdictInBounds (sym e) (message_within t m h none reads)

pub verdict_within : (octets : List ℕ) (v : Verdict) → IsVerdict octets v → VerdictInBounds v
verdict_within octets v (inl (none, e)) = subst VerdictInBounds (sym e) tt
verdict_within octets v (inr (t, frame, judged)) = judged_within t v (spells_octets octets t frame.are frame.spelled) judged
