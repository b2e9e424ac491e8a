-- No event changes who is a subscriber, or a subscriber's MSISDN.
use Rattle.std.proofs.Common.{◌≡◌, ℕ, ℤ, List, [], ◌∷◌, Bool, true, false, cond, refl, sym, ap, ◌∙◌, Option, Some, None}
use Rattle.machine.specs.Step.{Answer, Full, Moves, Step, Taken, outcome, outcome_in, ticked}
use Rattle.machine.specs.Received.{Argument, BadValue, Component, Purge, Register, Route, Update}
use Rattle.machine.specs.Begins.{Initiator, begins, begins_in, begins_named, begun, is_allowed, procedure, purge, purge_at, update_begins}
use Rattle.machine.specs.Turns.{Begins, Changes, Closes, Continues, Dismissed, Expires, Ticks, Turn, concern}
use Rattle.machine.specs.Sent.{Context, Out, Rejection}
use Rattle.machine.specs.State.{Cancels, Data, Dialogue, Kind, Local, OperationSent, State, Subscriber, Updates, WaitForReject, Was, local_of}
use Rattle.machine.specs.Events.{Change, Codes, Event, Withdraw}
use Rattle.machine.specs.Effect.{Conclusion, Effect, GoesOn, HasFailed, HasSucceeded, effect}
use Rattle.machine.specs.Outcome.{Outcome, is_marked, unmarked}
use Rattle.machine.specs.Contexts.{accepted}
use Rattle.machine.specs.Changes.{change_to, changes, codes_to, withdraw_from}
use Rattle.machine.specs.Dialogues.{continues_as, offer_to, other_continues, update_completes, update_continues, update_done}
use Rattle.machine.specs.Expiries.{expires, sent_expires}
use Rattle.machine.specs.Routing.{route}
use Rattle.machine.specs.Keys.{same}
use Rattle.machine_laws.specs.Numbers.{msisdn_in, msisdn_of}
use Rattle.machine_laws.proofs.Keys.{put_cases}
use Rattle.machine_laws.proofs.Steps.{state_none, state_of}

-- either way of a test
either : (P : Outcome → Type 0) (b : Bool) (o p : Outcome) → P o → P p → P (cond b o p)
either P true o p h g = h
either P false o p h g = g

-- the outcome leaves the number
abbrev pub Numbered : Local → Outcome → Type 0
Numbered L o = msisdn_of o.after ≡ msisdn_of L.record_of

unmarked_number : (i : List ℕ) (R : Option Subscriber) → msisdn_of (unmarked i R) ≡ msisdn_of R
unmarked_number i None = refl
unmarked_number i (Some s) = by (is_marked s.current i)
  where
    by : (b : Bool) → msisdn_of (Some (cond b (record s { current = None }) s)) ≡ Some s.msisdn
    by true = refl
    by false = refl

module _ (L : Local) (new : List ℕ) where
  -- a record that is there, with its number
  kept : (s : Subscriber) (o : Outcome) → L.record_of ≡ Some s → msisdn_of o.after ≡ Some s.msisdn → Numbered L o
  kept s o r e = e ∙ sym (ap msisdn_of r)

  of_update : (a : Initiator) (k : ℤ) (reg : Register) (R : Option Subscriber) → L.record_of ≡ R → Numbered L (update_begins L a k reg R new)
  of_update a k reg None r = refl
  of_update a k reg (Some s) r =
      either (Numbered L) s.withdrawn _ _ refl (either (Numbered L) (is_allowed s.roam reg.vlr) _ _ (sym (ap msisdn_of r)) refl)

  of_purge : (a : Initiator) (k : ℤ) (vlr : Option (List ℕ)) (R : Option Subscriber) → L.record_of ≡ R → Numbered L (purge L a k vlr R)
  of_purge a k None R r = refl
  of_purge a k (Some vlr) None r = refl
  of_purge a k (Some vlr) (Some s) r = either (Numbered L) s.withdrawn _ _ refl (at_register s.register)
    where
      at_register : (g : Option Register) → Numbered L (purge_at L a k s vlr g)
      at_register None = refl
      at_register (Some reg) = either (Numbered L) (same reg.vlr vlr) _ _ (sym (ap msisdn_of r)) refl

  of_procedure : (a : Initiator) (k : ℤ) (p : Argument) → Numbered L (procedure L a k p new)
  of_procedure a k (Update imsi reg) = of_update a k reg L.record_of refl
  of_procedure a k (Purge imsi vlr) = of_purge a k vlr L.record_of refl
  of_procedure a k (Route msisdn) = refl
  of_procedure a k BadValue = refl

  of_begun : (a : Initiator) (s : Option ℤ) (p : Option Argument) → Numbered L (begun L a s p new)
  of_begun a None p = refl
  of_begun a (Some k) None = refl
  of_begun a (Some k) (Some p) = of_procedure a k p

  of_begins_in : (from r : List ℕ) (c : Context) (cs : List Component) → Numbered L (begins_in L from r c cs new)
  of_begins_in from r c [] = refl
  of_begins_in from r c (k ∷ ks) = of_begun _ _ _

  of_named : (from r name : List ℕ) (c : Option Context) (cs : List Component) → Numbered L (begins_named L from r name c cs new)
  of_named from r name None cs = refl
  of_named from r name (Some c) cs = of_begins_in from r c cs

  of_begins : (from r : List ℕ) (p : Option (List ℕ)) (cs : List Component) → Numbered L (begins L from r p cs new)
  of_begins from r None cs = refl
  of_begins from r (Some name) cs = of_named from r name (accepted name) cs

  of_completes : (i : List ℕ) (d : Dialogue) (reg : Register) (k : ℤ) (rejects : List Rejection) (R : Option Subscriber) → L.record_of ≡ R
      → Numbered L (update_completes L i d reg k rejects new R)
  of_completes i d reg k rejects None r = unmarked_number i L.record_of
  of_completes i d reg k rejects (Some s) r =
      either (Numbered L) (is_marked s.current i) _ _ (done _ s.register) (unmarked_number i L.record_of)
    where
      done : (out : List Out) (g : Option Register) → Numbered L (update_done L reg s out new g)
      done out None = sym (ap msisdn_of r)
      done out (Some old) = sym (ap msisdn_of r)

  of_part : (i : List ℕ) (d : Dialogue) (kind : Kind) (e : Effect) → Numbered L (continues_as L i d kind e new)
  of_part i d (Updates reg k) e = by e.conclusion
    where
      by : (c : Conclusion) → Numbered L (update_continues L i d reg k e c new)
      by HasFailed = unmarked_number i L.record_of
      by HasSucceeded = of_completes i d reg k e.rejects L.record_of refl
      by GoesOn = refl
  of_part i d (Cancels vlr attempt cancellation) e = by e.conclusion
    where
      by : (c : Conclusion) → Numbered L (other_continues L i d e c)
      by HasFailed = refl
      by HasSucceeded = refl
      by GoesOn = refl
  of_part i d Data e = by e.conclusion
    where
      by : (c : Conclusion) → Numbered L (other_continues L i d e c)
      by HasFailed = refl
      by HasSucceeded = refl
      by GoesOn = refl

  of_expires : (i : List ℕ) (d : Dialogue) (j : ℤ) (was : Was) → Numbered L (expires L i d j was new)
  of_expires i d j WaitForReject = refl
  of_expires i d j OperationSent = by d.kind
    where
      by : (kind : Kind) → Numbered L (sent_expires L i d kind new)
      by (Updates reg k) = unmarked_number i L.record_of
      by (Cancels vlr attempt cancellation) = refl
      by Data = refl

  of_changes : (c : Change) (R : Option Subscriber) → L.record_of ≡ R → Numbered L (changes L c R new)
  of_changes c None r = refl
  of_changes c (Some s) r = either (Numbered L) s.withdrawn _ _ refl (of c)
    where
      codes : (cs : List ℕ) (g : Option Register) → Numbered L (codes_to L s cs new g)
      codes cs None = sym (ap msisdn_of r)
      codes cs (Some reg) = sym (ap msisdn_of r)

      gone : (g : Option Register) → Numbered L (withdraw_from L s new g)
      gone None = sym (ap msisdn_of r)
      gone (Some reg) = sym (ap msisdn_of r)

      of : (k : Change) → Numbered L (change_to L s k new)
      of (Codes cs) = codes cs s.register
      of Withdraw = gone s.register

  of_turn : (turn : Turn) → Numbered L (outcome L turn new)
  of_turn (Dismissed out) = refl
  of_turn (Ticks n now) = refl
  of_turn (Begins from r p cs) = of_begins from r p cs
  of_turn (Continues i d cs) = of_part i d d.kind (effect L.clock (offer_to d.kind) d.invocations cs)
  of_turn (Closes i d) = unmarked_number i L.record_of
  of_turn (Expires i d j was) = of_expires i d j was
  of_turn (Changes y k) = of_changes k L.record_of refl

ticked_number : (S : State) (y : List ℕ) (turn : Turn) → msisdn_in (ticked turn S) y ≡ msisdn_in S y
ticked_number S y (Dismissed out) = refl
ticked_number S y (Ticks n now) = refl
ticked_number S y (Begins from r p cs) = refl
ticked_number S y (Continues i d cs) = refl
ticked_number S y (Closes i d) = refl
ticked_number S y (Expires i d j was) = refl
ticked_number S y (Changes x k) = refl

here_number : (S : State) (n : ℕ) (x new : List ℕ) (turn : Turn) → msisdn_of (outcome (local_of S n x) turn new).after ≡ msisdn_in S x
unfolding local_of
here_number S n x new turn = of_turn (local_of S n x) new turn

moved_number : (S : State) (e : Event) (T : State) (a : Answer) (turn : Turn) (new y : List ℕ) (c : Option (List ℕ)) → concern S.directory turn ≡ c
    → Moves S (route S.directory e) turn new (outcome_in S (route S.directory e) turn new) T a → msisdn_in T y ≡ msisdn_in S y
moved_number S e T a turn new y None c m =
    ap (λ (U : State). msisdn_in U y) (state_none S e turn new T a c m) ∙ ticked_number S y turn
moved_number S e T a turn new y (Some x) c m =
    let o = outcome (local_of S (route S.directory e) x) turn new in
    ap (λ (U : State). msisdn_in U y) (state_of S e turn x new T a c m)
    ∙ put_cases S.records x o.after y (λ (R : Option Subscriber). msisdn_of R ≡ msisdn_in S y)
    (λ is. here_number S (route S.directory e) x new turn ∙ ap (msisdn_in S) is) (λ other. refl)

pub number_stays : (S : State) (e : Event) (T : State) (a : Answer) (imsi : List ℕ) → Step S e T a → msisdn_in T imsi ≡ msisdn_in S imsi
number_stays S e T a imsi (Taken turn new c m) = moved_number S e T a turn new imsi (concern S.directory turn) refl m
number_stays S e T a imsi (Full turn new c t) = ap (λ (U : State). msisdn_in U imsi) t.state
