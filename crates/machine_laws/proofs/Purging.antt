-- A purge that names no register, or another than the serving one, changes nothing.
use Rattle.std.proofs.Common.{◌≡◌, ℕ, ℤ, List, [], ◌∷◌, Bool, true, false, cond, refl, sym, ap, ◌∙◌, subst, Option, Some, None}
use Rattle.machine.specs.Received.{Argument, Begin, Component, Purge, Read, Register}
use Rattle.machine.specs.Begins.{Initiator, end_of_begin, begins, begins_in, begins_named, begun, first_argument, offer_in, purge, purge_at}
use Rattle.machine.specs.Contexts.{accepted}
use Rattle.machine.specs.Effect.{effect}
use Rattle.machine.specs.Events.{Event, Frame}
use Rattle.machine.specs.Holders.{served_by, serving}
use Rattle.machine.specs.Keys.{put, same}
use Rattle.machine.specs.declared.numbers.TheConstants.{UNKNOWN_SUBSCRIBER}
use Rattle.machine.specs.Outcome.{Outcome, unchanged}
use Rattle.machine.specs.Routing.{named_in, route}
use Rattle.machine.specs.Sent.{Context, Out, PurgeResult, SentError}
use Rattle.machine.specs.State.{Local, State, Subscriber, local_of}
use Rattle.machine.specs.Step.{Answer, Full, Moves, Step, Taken, moved, new_opens, outcome, outcome_in, seen, taken}
use Rattle.machine.specs.Turns.{Begins, Turn, concern}
use Rattle.machine_laws.proofs.Keys.{put_again}

-- the record stays, and no dialogue opens
record IsStill (L : Local) (o : Outcome) : Type 0 where
  after : o.after ≡ L.record_of
  opens : o.opens ≡ None

-- the number, if any, is not that of the serving register
abbrev IsForeign : Option (List ℕ) → Option Subscriber → Type 0
IsForeign vlr found = (v : List ℕ) → vlr ≡ Some v → serving found v ≡ false

module _ (L : Local) (new : List ℕ) where
  answers : (sent : List Out) → IsStill L (unchanged L sent)
  answers sent = record { after = refl; opens = refl }

  still_at : (initiator : Initiator) (k : ℤ) (s : Subscriber) (v : List ℕ) (g : Option Register) → served_by g v ≡ false
      → IsStill L (purge_at L initiator k s v g)
  still_at initiator k s v None other = answers _
  still_at initiator k s v (Some g) other = by (same g.vlr v) other
    where
      by : (b : Bool) → b ≡ false
          → IsStill L (cond b
          (record { after = Some (record s { purged = true }); stays = None; opens = None; sent = end_of_begin initiator (PurgeResult k true ∷ []) })
          (unchanged L (end_of_begin initiator (PurgeResult k false ∷ []))))
      by true e = cc
      by false e = answers _

  still_purge : (initiator : Initiator) (k : ℤ) (vlr : Option (List ℕ)) (found : Option Subscriber) → IsForeign vlr found
      → IsStill L (purge L initiator k vlr found)
  still_purge initiator k None found other = answers _
  still_purge initiator k (Some v) None other = answers _
  still_purge initiator k (Some v) (Some s) other = by s.withdrawn
    where
      by : (b : Bool)
          → IsStill L (cond b (unchanged L (end_of_begin initiator (SentError k UNKNOWN_SUBSCRIBER ∷ []))) (purge_at L initiator k s v s.register))
      by true = answers _
      by false = still_at initiator k s v s.register (other v refl)

  module _ (imsi : List ℕ) (vlr : Option (List ℕ)) (other : IsForeign vlr L.record_of) where
    still_begun : (initiator : Initiator) (started : Option ℤ) (p : Option Argument) → p ≡ Some (Purge imsi vlr)
        → IsStill L (begun L initiator started p new)
    still_begun initiator None p e = answers _
    still_begun initiator (Some k) p e =
        subst (λ q. IsStill L (begun L initiator (Some k) q new)) (sym e) (still_purge initiator k vlr L.record_of other)

    still_in : (from origin : List ℕ) (c : Context) (cs : List Component) → first_argument cs ≡ Some (Purge imsi vlr)
        → IsStill L (begins_in L from origin c cs new)
    still_in from origin c [] e = answers _
    still_in from origin c (k ∷ ks) e =
        let rejects = (effect L.clock (offer_in c (k ∷ ks)) [] (k ∷ ks)).rejects in
        still_begun (record { from = from; origin = origin; context = c; rejects = rejects })
        (effect L.clock (offer_in c (k ∷ ks)) [] (k ∷ ks)).started (first_argument (k ∷ ks)) e

    still_named : (from origin name : List ℕ) (c : Option Context) (cs : List Component) → first_argument cs ≡ Some (Purge imsi vlr)
        → IsStill L (begins_named L from origin name c cs new)
    still_named from origin name None cs e = answers _
    still_named from origin name (Some c) cs e = still_in from origin c cs e

    still_begin : (from origin : List ℕ) (name : Option (List ℕ)) (cs : List Component) → first_argument cs ≡ Some (Purge imsi vlr)
        → IsStill L (begins L from origin name cs new)
    still_begin from origin None cs e = answers _
    still_begin from origin (Some name) cs e = still_named from origin name (accepted name) cs e

-- such an outcome leaves the state
still_moved : (S : State) (n : ℕ) (imsi new : List ℕ) (o : Outcome) → IsStill (local_of S n imsi) o → moved S (Some imsi) None new o ≡ S
unfolding local_of
still_moved S n imsi new o still =
    ap (λ p. record S { records = put S.records imsi p; dialogues = new_opens new o.opens S.dialogues }) still.after
    ∙ ap (λ p. record S { records = put S.records imsi (S.records imsi); dialogues = new_opens new p S.dialogues }) still.opens
    ∙ ap (λ records. record S { records = records }) (put_again S.records imsi)

pub foreign_purge : (S : State) (from origin : List ℕ) (name : Option (List ℕ)) (cs : List Component) (imsi : List ℕ)
    (vlr : Option (List ℕ)) (T : State) (a : Answer)
    → Step S (Frame from (Read (Begin origin name cs))) T a → first_argument cs ≡ Some (Purge imsi vlr) → IsForeign vlr (S.records imsi)
    → (T ≡ S) × (a.id ≡ None)
unfolding local_of
foreign_purge S from origin name cs imsi vlr T a (Full turn new turns t) argument other = (t.state, t.id)
foreign_purge S from origin name cs imsi vlr T a (Taken turn new turns m) argument other =
    let e : Event = Frame from (Read (Begin origin name cs)) in
    let n : ℕ = route S.directory e in
    let b : Turn = Begins from origin name cs in
    let w : Moves S n b new (outcome_in S n b new) T a = subst (λ k. Moves S n k new (outcome_in S n k new) T a) turns m in
    let concerned : concern S.directory b ≡ Some imsi = ap (λ p. named_in S.directory p) argument in
    let Q : Option (List ℕ) → Type 0 = λ c.
    (T ≡ moved S c None new (outcome (seen S n c) b new)) × (a.id ≡ taken new (outcome (seen S n c) b new).opens) in
    let is : Q (Some imsi) = subst Q concerned (w.state, w.id) in
    let L : Local = local_of S n imsi in
    let still : IsStill L (begins L from origin name cs new) = still_begin L new imsi vlr other from origin name cs argument in
    (is.0 ∙ still_moved S n imsi new _ still, is.1 ∙ ap (λ d. taken new d) still.opens)
