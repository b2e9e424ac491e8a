-- What is received, with all that is known of it.
use Rattle.std.proofs.Common.{◌≡◌, ℕ, ℤ, List, [], Bool, true, false, cond, refl, sym, ap, subst, Option, Some, None, is_some, IsTrue}
use Rattle.machine.specs.Received.{Abort, Begin, Component, Continue, Discard, End, Message, Read, Refuse, Response, Verdict}
use Rattle.machine.specs.Turns.{Begins, Changes, Closes, Continues, Dismissed, Expires, Expiry, IsDue, IsLeast, NoneDue, OneDue, Ticks, Turn, TurnsTo, close_at, continue_at, continue_for, for_it, turn_of_message, turn_of_verdict}
use Rattle.machine.specs.Sent.{Cause, Out, SentAbort}
use Rattle.machine.specs.Events.{Change, Clock, Event, Expire, Frame, Operator}
use Rattle.machine.specs.Transactions.{ContinueComes, ForIt, Unassigned, continue_row, row, transact}
use Rattle.machine.specs.State.{Dialogue, Invocation, State, Transaction}
use Rattle.machine.specs.Holders.{names, vlr_of}
use Rattle.machine.specs.Routing.{route, shard_named}
use Rattle.machine.specs.Keys.{same}
use Rattle.machine.specs.Outcome.{send}
use Rattle.machine_laws.proofs.Keys.{none_some, some_inj}
use Rattle.machine_laws.proofs.Outcomes.{Quiet}

pub data View (S : State) (e : Event) : Turn → Type 0 where
  Idly : (out : List Out) → Quiet out → View S e (Dismissed out)
  Ticking : (n now : ℕ) → e ≡ Clock n now → View S e (Ticks n now)
  Beginning : (from r : List ℕ) (p : Option (List ℕ)) (cs : List Component) → e ≡ Frame from (Read (Begin r p cs)) → View S e (Begins from r p cs)
  Continuing : (i : List ℕ) (d : Dialogue) (t : Transaction) (cs : List Component) → S.dialogues i ≡ Some d → IsTrue (is_some t.remote)
      → vlr_of e ≡ None → names e ≡ Some i → route S.directory e ≡ shard_named i → View S e (Continues i (record d { transaction = t }) cs)
  Closing : (i : List ℕ) (d : Dialogue) → S.dialogues i ≡ Some d → vlr_of e ≡ None → names e ≡ Some i → route S.directory e ≡ shard_named i
      → View S e (Closes i d)
  Expiring : (n : ℕ) (i : List ℕ) (d : Dialogue) (j : ℤ) (v : Invocation) → e ≡ Expire n → IsDue S n i d j v → IsLeast S n v.deadline i j
      → View S e (Expires i d j v.was)
  Changing : (x : List ℕ) (c : Change) → e ≡ Operator x c → View S e (Changes x c)

quiet_none : Quiet []
quiet_none y is_y b h w = refl

quiet_abort : (from r : List ℕ) (c : ℕ) → Quiet (send from (SentAbort r (Cause c)))
quiet_abort from r c y is_y b h w = refl

active_after : (t u : Transaction) (from r : List ℕ) → for_it (transact (Some t) (ContinueComes from r)) ≡ Some u → IsTrue (is_some u.remote)
active_after t u from r e = go t.remote refl e
  where
    matches : (known : List ℕ) (q : Bool) → t.remote ≡ Some known → for_it (cond q (row (Some t) ForIt) (row (Some t) Unassigned)) ≡ Some u
        → IsTrue (is_some u.remote)
    matches known true m f = subst (λ (v : Transaction). IsTrue (is_some v.remote)) (some_inj t u _ refl f) (ap (λ o. is_some o) m)
    matches known false m f = absurd (none_some u None refl f)

    go : (o : Option (List ℕ)) → t.remote ≡ o → for_it (continue_row t o from r) ≡ Some u → IsTrue (is_some u.remote)
    go None m f = subst (λ (v : Transaction). IsTrue (is_some v.remote)) (some_inj _ u _ refl f) refl
    go (Some known) m f = matches known (same known r) m f

view_continue : (S : State) (from r i : List ℕ) (p : Option Response) (cs : List Component) (o : Option Dialogue) → S.dialogues i ≡ o
    → View S (Frame from (Read (Continue r i p cs))) (continue_at from r i cs o)
view_continue S from r i p cs None q = Idly _ (quiet_abort from r 1)
view_continue S from r i p cs (Some d) q = go (for_it (transact (Some d.transaction) (ContinueComes from r))) refl
  where
    go : (t : Option Transaction) → for_it (transact (Some d.transaction) (ContinueComes from r)) ≡ t
        → View S (Frame from (Read (Continue r i p cs))) (continue_for from r i cs d t)
    go None e = Idly _ (quiet_abort from r 1)
    go (Some t) e = Continuing i d t cs q (active_after d.transaction t from r e) refl refl refl

view_close : (S : State) (e : Event) (i : List ℕ) (o : Option Dialogue) → S.dialogues i ≡ o → vlr_of e ≡ None → names e ≡ Some i
    → route S.directory e ≡ shard_named i → View S e (close_at i o)
view_close S e i None q v n r = Idly [] quiet_none
view_close S e i (Some d) q v n r = Closing i d q v n r

view_message : (S : State) (from : List ℕ) (m : Message) → View S (Frame from (Read m)) (turn_of_message S.dialogues from m)
view_message S from (Begin r p cs) = Beginning from r p cs refl
view_message S from (Continue r i p cs) = view_continue S from r i p cs (S.dialogues i) refl
view_message S from (End i p cs) = view_close S _ i (S.dialogues i) refl refl refl refl
view_message S from (Abort i) = view_close S _ i (S.dialogues i) refl refl refl refl

view_verdict : (S : State) (from : List ℕ) (v : Verdict) → View S (Frame from v) (turn_of_verdict S.dialogues from v)
view_verdict S from Discard = Idly [] quiet_none
view_verdict S from (Refuse r cause) = Idly _ (quiet_abort from r cause)
view_verdict S from (Read m) = view_message S from m

view_expiry : (S : State) (n : ℕ) (turn : Turn) → Expiry S n turn → View S (Expire n) turn
view_expiry S n turn (OneDue i d j v due least is) = let P : Turn → Type 0 = λ c. View S (Expire n) c in subst P (sym is) (Expiring n i d j v refl due least)
view_expiry S n turn (NoneDue none is) = let P : Turn → Type 0 = λ c. View S (Expire n) c in subst P (sym is) (Idly [] quiet_none)

pub view : (S : State) (e : Event) (turn : Turn) → TurnsTo S e turn → View S e turn
view S (Frame from v) turn c = let P : Turn → Type 0 = λ k. View S (Frame from v) k in subst P (sym c) (view_verdict S from v)
view S (Clock n now) turn c = let P : Turn → Type 0 = λ k. View S (Clock n now) k in subst P (sym c) (Ticking n now refl)
view S (Expire n) turn c = view_expiry S n turn c
view S (Operator x k) turn c = let P : Turn → Type 0 = λ u. View S (Operator x k) u in subst P (sym c) (Changing x k refl)
