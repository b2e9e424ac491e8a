-- Every step moves transactions and invocations by rows of their tables.
use Rattle.std.proofs.Common.{◌≡◌, ℕ, ℤ, List, [], ◌∷◌, Bool, true, false, cond, refl, sym, ap, ◌∙◌, subst, Option, Some, None, is_some, IsTrue, int_eq}
use Rattle.machine.specs.Step.{Answer, Full, Moves, Step, Taken, moved, named_stays, new_opens, outcome, outcome_in, seen, taken, ticked}
use Rattle.machine.specs.Turns.{Begins, Changes, Closes, Continues, Dismissed, Expires, IsDue, IsLeast, OneDue, Ticks, Turn, TurnsTo, close_at, concern, continue_at, continue_for, for_it, invocation_of, named}
use Rattle.machine.specs.State.{Cancels, Data, Dialogue, Invocation, Kind, Local, OperationSent, State, Subscriber, Transaction, Updates, WaitForReject, Was, local_of, local_of_nobody}
use Rattle.machine.specs.Sent.{Cause, Out, Rejection, SentAbort, UpdateResult}
use Rattle.machine.specs.Transactions.{CloseComes, ContinueComes, ForIt, Nothing, Unassigned, continue_row, row, transact}
use Rattle.machine.specs.Tables.{CloseMoves, ContinueMoves, Does, DoesFirst, DoesNothing, ExpiryMoves, ForDialogue, ForNone, OpeningMoves, TimedOut, transaction_of}
use Rattle.machine.specs.Received.{Component, Continue, Read, Register, Response}
use Rattle.machine.specs.Effect.{Conclusion, GoesOn, HasFailed, HasSucceeded, effect, invocations_after}
use Rattle.machine.specs.Events.{Event, Expire, Frame}
use Rattle.machine.specs.Keys.{Every, put, same}
use Rattle.machine.specs.Invocations.{NoReply, TimesOut, invocation}
use Rattle.machine.specs.Outcome.{Outcome, end_in_dialogue, is_marked, send}
use Rattle.machine.specs.Sound.{Sound}
use Rattle.machine.specs.Dialogues.{closes, continues, continues_as, goes_on, offer_to, other_continues, update_completes, update_continues, update_done, update_fails}
use Rattle.machine.specs.Expiries.{expires, sent_expires, without}
use Rattle.machine.specs.Routing.{route, shard_named}
use Rattle.machine.specs.Rows.{standing_of}
use Rattle.machine.specs.declared.numbers.TheConstants.{UNRECOGNIZED_TRANSACTION_ID}
use Rattle.machine_laws.proofs.Keys.{none_some, some_inj, put-same}
use Rattle.machine_laws.proofs.Rising.{int_is, IsMap, rising_map, every_one}
use Rattle.machine_laws.proofs.Views.{view}
use Rattle.machine_laws.proofs.Soundness.{opens_other}
use Rattle.machine_laws.proofs.Naming.{ticked_there}
use Rattle.machine_laws.proofs.Determined.{expiry_one}
use Rattle.machine_laws.proofs.Holding.{Bare, bare_came}
use Rattle.machine_laws.proofs.Answering.{begins_for}
use Rattle.machine_laws.proofs.Ruling.{AreKept, Ruled, ruled_unchanged, ruled_begins, ruled_continues, ruled_expires, ruled_changes}

-- the named transaction once the frame is received
abbrev received : Turn → Option Transaction
received (Continues i d cs) = Some d.transaction
received (Expires i d j was) = Some d.transaction
received _ = None

-- the Rejects of what was received
abbrev rejected : ℕ → Turn → List Rejection
rejected now (Continues i d cs) = (effect now (offer_to d.kind) d.invocations cs).rejects
rejected now _ = []

ruled_closes : (L : Local) (new i : List ℕ) → Ruled L.clock (Some i) None [] new (closes L i)
ruled_closes L new i = record {
  first = [];
  second = [];
  both = refl;
  named = λ j q kept. DoesNothing refl refl refl;
  opened = λ d q. absurd (none_some d None refl q);
  alone = λ q. refl;
}

ruled : (L : Local) (turn : Turn) (new : List ℕ) → Ruled L.clock (named turn) (received turn) (rejected L.clock turn) new (outcome L turn new)
ruled L (Dismissed out) new = ruled_unchanged L.clock L new None _ refl
ruled L (Ticks n now) new = ruled_unchanged L.clock L new None _ refl
ruled L (Begins from r p cs) new = ruled_begins L new from r p cs
ruled L (Continues i d cs) new = ruled_continues L new i d cs
ruled L (Closes i d) new = ruled_closes L new i
ruled L (Expires i d j was) new = ruled_expires L new i d j was
ruled L (Changes x c) new = ruled_changes L new c L.record_of

seen_clock : (S : State) (n : ℕ) (o : Option (List ℕ)) → (seen S n o).clock ≡ S.clocks n
unfolding local_of local_of_nobody
seen_clock S n None = refl
seen_clock S n (Some x) = refl

ruled_in : (S : State) (n : ℕ) (turn : Turn) (new : List ℕ) → Ruled (S.clocks n) (named turn) (received turn) (rejected (S.clocks n) turn) new
    (outcome_in S n turn new)
ruled_in S n turn new = subst (λ t. Ruled t (named turn) (received turn) (rejected t turn) new (outcome_in S n turn new))
    (seen_clock S n (concern S.directory turn)) (ruled (seen S n (concern S.directory turn)) turn new)

-- the dialogue that is named, after the step
after_named : (S : State) (turn : Turn) (new j x : List ℕ) (o : Outcome) → concern S.directory turn ≡ Some x → named turn ≡ Some j
    → (IsTrue (is_some o.opens) → new ≡ j → ⊥) → (ticked turn (moved S (concern S.directory turn) (named turn) new o)).dialogues j ≡ o.stays
after_named S turn new j x o c n h =
    ap (λ (f : List ℕ → Option Dialogue). f j) (ticked_there _ turn)
    ∙ ap (λ (q : Option (List ℕ)). (moved S q (named turn) new o).dialogues j) c
    ∙ ap (λ (q : Option (List ℕ)). new_opens new o.opens (named_stays q o.stays S.dialogues) j) n
    ∙ opens_other (put S.dialogues j o.stays) new o.opens j h
    ∙ put-same S.dialogues j o.stays

-- and the one that opens
after_opened : (S : State) (turn : Turn) (new x : List ℕ) (o : Outcome) (d : Dialogue) → concern S.directory turn ≡ Some x → o.opens ≡ Some d
    → (ticked turn (moved S (concern S.directory turn) (named turn) new o)).dialogues new ≡ Some d
after_opened S turn new x o d c q =
    ap (λ (f : List ℕ → Option Dialogue). f new) (ticked_there _ turn)
    ∙ ap (λ (q : Option (List ℕ)). (moved S q (named turn) new o).dialogues new) c
    ∙ ap (λ p. new_opens new p (named_stays (named turn) o.stays S.dialogues) new) q
    ∙ put-same _ new (Some d)

module _ (S : State) (e : Event) (turn : Turn) (new : List ℕ) (T : State) (a : Answer)
    (m : Moves S (route S.directory e) turn new (outcome_in S (route S.directory e) turn new) T a) where
  taken_none : (o : Option Dialogue) → (outcome_in S (route S.directory e) turn new).opens ≡ o → a.id ≡ None → o ≡ None
  taken_none None q h = refl
  taken_none (Some d) q h = absurd (none_some new _ h (m.id ∙ ap (λ p. taken new p) q))

  -- the named dialogue, open before
  does_first : (j x : List ℕ) (d : Dialogue) → S.dialogues j ≡ Some d → concern S.directory turn ≡ Some x → named turn ≡ Some j
      → AreKept (received turn) (rejected (S.clocks (route S.directory e)) turn)
      → DoesFirst j (received turn) (rejected (S.clocks (route S.directory e)) turn) a.sent a.id (T.dialogues j)
  does_first j x d there c n kept =
      let r : Ruled (S.clocks (route S.directory e)) (named turn) (received turn) (rejected (S.clocks (route S.directory e)) turn) new
      (outcome_in S (route S.directory e) turn new) = ruled_in S (route S.directory e) turn new in
      let after : T.dialogues j ≡ (outcome_in S (route S.directory e) turn new).stays = ap (λ (U : State). U.dialogues j) m.state
      ∙ after_named S turn new j x _ c n (λ t nj. none_some d _ (ap S.dialogues (sym nj) ∙ (m.opens t).is_new) there) in
      record {
        first = r.first;
        second = r.second;
        both = m.sent ∙ r.both;
        does = subst (λ o. Does j (received turn) (rejected (S.clocks (route S.directory e)) turn) r.first (transaction_of o)) (sym after) (r.named j n kept);
        alone = λ h. r.alone (taken_none _ refl h);
      }

  after_is : (j x : List ℕ) (d : Dialogue) → S.dialogues j ≡ Some d → concern S.directory turn ≡ Some x → named turn ≡ Some j
      → T.dialogues j ≡ (outcome_in S (route S.directory e) turn new).stays
  after_is j x d there c n = ap (λ (U : State). U.dialogues j) m.state
      ∙ after_named S turn new j x _ c n (λ t nj. none_some d _ (ap S.dialogues (sym nj) ∙ (m.opens t).is_new) there)

  open_moves : (x : List ℕ) (d : Dialogue) → TurnsTo S e turn → concern S.directory turn ≡ Some x → (outcome_in S (route S.directory e) turn new).opens ≡ Some d
      → OpeningMoves S e (route S.directory e) new T a
  open_moves x d turns c q =
      let r : Ruled (S.clocks (route S.directory e)) (named turn) (received turn) (rejected (S.clocks (route S.directory e)) turn) new
      (outcome_in S (route S.directory e) turn new) = ruled_in S (route S.directory e) turn new in
      let after : T.dialogues new ≡ Some d = ap (λ (U : State). U.dialogues new) m.state ∙ after_opened S turn new x _ d c q in
      record {
        dialogue = d;
        is_open = after;
        does = record {
          first = r.first;
          second = r.second;
          both = m.sent ∙ r.both;
          rejects = (r.opened d q).rejects;
          does = (r.opened d q).does;
          invoked = (r.opened d q).invoked;
          ids = (r.opened d q).ids;
        };
        begun = λ from origin name components is.
            let same : turn ≡ Begins from origin name components = subst (λ k. TurnsTo S k turn) is turns in
            begins_for (seen S (route S.directory e) (concern S.directory turn)) new from origin name components d
            (ap (λ k. (outcome (seen S (route S.directory e) (concern S.directory turn)) k new).opens) (sym same) ∙ q);
      }

-- a dialogue that opens
pub opening_moves : (S : State) (e : Event) (T : State) (a : Answer) (i : List ℕ) → Step S e T a → a.id ≡ Some i → OpeningMoves S e (route S.directory e) i T a
opening_moves S e T a i (Full turn new turns t) h = absurd (none_some i _ t.id h)
opening_moves S e T a i (Taken turn new turns m) h = by_concern (concern S.directory turn) refl (outcome_in S (route S.directory e) turn new).opens refl
  where
    by_concern : (c : Option (List ℕ)) → concern S.directory turn ≡ c → (o : Option Dialogue) → (outcome_in S (route S.directory e) turn new).opens ≡ o
        → OpeningMoves S e (route S.directory e) i T a
    by_concern c q None p = absurd (none_some i _ (m.id ∙ ap (λ o. taken new o) p) h)
    by_concern None q (Some d) p =
        let bare : Bare (outcome (local_of_nobody S (route S.directory e)) turn new) = bare_came S e turn (route S.directory e) new (view S e turn turns) q in
        absurd (none_some d _ bare.opens (ap (λ o. (outcome (seen S (route S.directory e) o) turn new).opens) (sym q) ∙ p))
    by_concern (Some x) q (Some d) p =
        let same_id : new ≡ i = some_inj new i _ (m.id ∙ ap (λ o. taken new o) p) h in
        subst (λ (k : List ℕ). OpeningMoves S e (route S.directory e) k T a) same_id (open_moves S e turn new T a m x d turns q p)

-- a dismissed turn changes nothing and sends this
dismissed : (S : State) (e : Event) (T : State) (a : Answer) (out : List Out) (turn : Turn) → turn ≡ Dismissed out → (new : List ℕ)
    → Moves S (route S.directory e) turn new (outcome_in S (route S.directory e) turn new) T a → (T ≡ S) × (a.sent ≡ out)
dismissed S e T a out turn is new m =
    let P : Turn → Type 0 = λ k. Moves S (route S.directory e) k new (outcome_in S (route S.directory e) k new) T a in
    let w : Moves S (route S.directory e) (Dismissed out) new (outcome_in S (route S.directory e) (Dismissed out) new) T a = subst P is m in
    (w.state, w.sent)

-- a received Continue

continue_no_begin : (S : State) (from r i : List ℕ) (cs : List Component) (from' r' : List ℕ) (p : Option (List ℕ)) (cs' : List Component) (o : Option Dialogue)
    → continue_at from r i cs o ≡ Begins from' r' p cs' → ⊥
continue_no_begin S from r i cs from' r' p cs' None q = cc
continue_no_begin S from r i cs from' r' p cs' (Some d) q = by (for_it (transact (Some d.transaction) (ContinueComes from r))) q
  where
    by : (o : Option Transaction) → continue_for from r i cs d o ≡ Begins from' r' p cs' → ⊥
    by None h = cc
    by (Some t) h = cc

goes_on_with : (S : State) (n : ℕ) (L : Local) (i : List ℕ) (d : Dialogue) (cs : List Component) (new : List ℕ) (f : Dialogue)
    → (continues L i d cs new).stays ≡ Some f → f.invocations ≡ invocations_after L.clock cs d.invocations
unfolding effect
goes_on_with S n L i d cs new f h = by_kind d.kind h
  where
    vs : List Invocation
    vs = invocations_after L.clock cs d.invocations

    gone : (None ≡ Some f) → f.invocations ≡ invocations_after L.clock cs d.invocations
    gone q = absurd (none_some f None refl q)

    goes : (rejects : List Rejection) → (goes_on L i d rejects (invocations_after L.clock cs d.invocations)).stays ≡ Some f
        → f.invocations ≡ invocations_after L.clock cs d.invocations
    goes rejects q = ap (λ (g : Dialogue). g.invocations) (sym (some_inj _ f _ refl q))

    completes : (register : Register) (k : ℤ) (rejects : List Rejection) (R : Option Subscriber)
        → (update_completes L i d register k rejects new R).stays ≡ Some f → f.invocations ≡ invocations_after L.clock cs d.invocations
    completes register k rejects None q = gone q
    completes register k rejects (Some s) q = by (is_marked s.current i) q
      where
        done : (old : Option Register) → (update_done L register s
            (end_in_dialogue d.transaction d.transaction.remote rejects (UpdateResult k L.hlr ∷ [])) new old).stays ≡ Some f
            → f.invocations ≡ invocations_after L.clock cs d.invocations
        done None r = gone r
        done (Some old) r = gone r

        by : (b : Bool) → (cond b (update_done L register s (end_in_dialogue d.transaction d.transaction.remote rejects
            (UpdateResult k L.hlr ∷ [])) new s.register) (update_fails L i d k rejects)).stays ≡ Some f
            → f.invocations ≡ invocations_after L.clock cs d.invocations
        by true r = done s.register r
        by false r = gone r

    by_kind : (kind : Kind) → (continues_as L i d kind (effect L.clock (offer_to d.kind) d.invocations cs) new).stays ≡ Some f
        → f.invocations ≡ invocations_after L.clock cs d.invocations
    by_kind (Updates register k) q = by (effect L.clock (offer_to d.kind) d.invocations cs).conclusion q
      where
        by : (c : Conclusion) → (update_continues L i d register k (effect L.clock (offer_to d.kind) d.invocations cs) c new).stays ≡ Some f
            → f.invocations ≡ invocations_after L.clock cs d.invocations
        by HasFailed r = gone r
        by HasSucceeded r = completes register k (effect L.clock (offer_to d.kind) d.invocations cs).rejects L.record_of r
        by GoesOn r = goes (effect L.clock (offer_to d.kind) d.invocations cs).rejects r
    by_kind (Cancels vlr attempt cause) q = by (effect L.clock (offer_to d.kind) d.invocations cs).conclusion q
      where
        by : (c : Conclusion) → (other_continues L i d (effect L.clock (offer_to d.kind) d.invocations cs) c).stays ≡ Some f
            → f.invocations ≡ invocations_after L.clock cs d.invocations
        by HasFailed r = gone r
        by HasSucceeded r = gone r
        by GoesOn r = goes (effect L.clock (offer_to d.kind) d.invocations cs).rejects r
    by_kind Data q = by (effect L.clock (offer_to d.kind) d.invocations cs).conclusion q
      where
        by : (c : Conclusion) → (other_continues L i d (effect L.clock (offer_to d.kind) d.invocations cs) c).stays ≡ Some f
            → f.invocations ≡ invocations_after L.clock cs d.invocations
        by HasFailed r = gone r
        by HasSucceeded r = gone r
        by GoesOn r = goes (effect L.clock (offer_to d.kind) d.invocations cs).rejects r

pub continue_moves : (S : State) (from r i : List ℕ) (portion : Option Response) (cs : List Component) (T : State) (a : Answer)
    → Step S (Frame from (Read (Continue r i portion cs))) T a → ContinueMoves S from r i cs T a
continue_moves S from r i portion cs T a (Full turn new turns t) = absurd
    (continue_no_begin S from r i cs t.from t.origin t.name t.components (S.dialogues i) (sym turns ∙ t.begins))
continue_moves S from r i portion cs T a (Taken turn new turns m) = by (S.dialogues i) refl
  where
    e : Event
    e = Frame from (Read (Continue r i portion cs))

    none : transact (transaction_of (S.dialogues i)) (ContinueComes from r) ≡ row (transaction_of (S.dialogues i)) Unassigned
        → turn ≡ Dismissed (send from (SentAbort r (Cause UNRECOGNIZED_TRANSACTION_ID))) → ContinueMoves S from r i cs T a
    none row_is is = let h : (T ≡ S) × (a.sent ≡ send from (SentAbort r (Cause UNRECOGNIZED_TRANSACTION_ID))) = dismissed S
        (Frame from (Read (Continue r i portion cs))) T a _ turn is new m in ForNone
        (row_is ∙ ap (λ (U : State). row (transaction_of (U.dialogues i)) Unassigned) (sym h.0)) h.0 h.1

    found : (d : Dialogue) (t : Transaction) → (t.remote ≡ None → ⊥) → S.dialogues i ≡ Some d
        → transact (Some d.transaction) (ContinueComes from r) ≡ row (Some t) ForIt → turn ≡ Continues i (record d { transaction = t }) cs
        → ContinueMoves S from r i cs T a
    found d t known there row_is is =
        let P : Turn → Type 0 = λ k. Moves S (shard_named i) k new (outcome_in S (shard_named i) k new) T a in
        let w : Moves S (shard_named i) (Continues i (record d { transaction = t }) cs) new
        (outcome_in S (shard_named i) (Continues i (record d { transaction = t }) cs) new) T a = subst P is m in
        let does : DoesFirst i (Some t) (effect (S.clocks (shard_named i)) (offer_to d.kind) d.invocations cs).rejects a.sent a.id (T.dialogues i) =
        does_first S (Frame from (Read (Continue r i portion cs))) (Continues i (record d { transaction = t }) cs) new T a w i d.subscriber d there refl refl
        (λ u q none. absurd (known (ap (λ (v : Transaction). v.remote) (some_inj t u _ refl q) ∙ none))) in
        let after : T.dialogues i ≡ (continues (local_of S (shard_named i) d.subscriber) i (record d { transaction = t }) cs new).stays = after_is S
        (Frame from (Read (Continue r i portion cs))) (Continues i (record d { transaction = t }) cs) new T a w i d.subscriber d there refl refl in
        ForDialogue d t there row_is does (λ f q. goes_on_with S (shard_named i) (local_of S (shard_named i) d.subscriber) i
        (record d { transaction = t }) cs new f (sym after ∙ q)
        ∙ ap (λ now. invocations_after now cs d.invocations) (seen_clock S (shard_named i) (Some d.subscriber)))

    by : (o : Option Dialogue) → S.dialogues i ≡ o → ContinueMoves S from r i cs T a
    by None q = none (ap (λ o. transact (transaction_of o) (ContinueComes from r)) q ∙ ap (λ o. row (transaction_of o) Unassigned) (sym q))
        (turns ∙ ap (λ o. continue_at from r i cs o) q)
    by (Some d) q = at_remote d.transaction.remote refl
      where
        turn_is : turn ≡ continue_for from r i cs d (for_it (transact (Some d.transaction) (ContinueComes from r)))
        turn_is = turns ∙ ap (λ o. continue_at from r i cs o) q

        at_remote : (o : Option (List ℕ)) → d.transaction.remote ≡ o → ContinueMoves S from r i cs T a
        at_remote None p =
            let row_is : transact (Some d.transaction) (ContinueComes from r)
            ≡ row (Some (record { peer = from; remote = Some r })) ForIt = ap (λ o. continue_row d.transaction o from r) p in
            found d (record { peer = from; remote = Some r }) (λ none. none_some r _ none refl) q row_is
            (turn_is ∙ ap (λ w. continue_for from r i cs d (for_it w)) row_is)
        at_remote (Some known) p = matches (same known r) refl
          where
            matches : (b : Bool) → same known r ≡ b → ContinueMoves S from r i cs T a
            matches true z =
                let row_is : transact (Some d.transaction) (ContinueComes from r)
                ≡ row (Some d.transaction) ForIt = ap (λ o. continue_row d.transaction o from r) p
                ∙ ap (λ b. cond b (row (Some d.transaction) ForIt) (row (Some d.transaction) Unassigned)) z in
                found d d.transaction (λ none. none_some known _ none p) q row_is (turn_is ∙ ap (λ w. continue_for from r i cs d (for_it w)) row_is)
            matches false z =
                let row_is : transact (Some d.transaction) (ContinueComes from r)
                ≡ row (Some d.transaction) Unassigned = ap (λ o. continue_row d.transaction o from r) p
                ∙ ap (λ b. cond b (row (Some d.transaction) ForIt) (row (Some d.transaction) Unassigned)) z in
                none (ap (λ o. transact (transaction_of o) (ContinueComes from r)) q ∙ row_is ∙ ap (λ o. row (transaction_of o) Unassigned) (sym q))
                (turn_is ∙ ap (λ w. continue_for from r i cs d (for_it w)) row_is)

-- a received End or Abort

close_no_begin : (i from r : List ℕ) (p : Option (List ℕ)) (cs : List Component) (o : Option Dialogue) → close_at i o ≡ Begins from r p cs → ⊥
close_no_begin i from r p cs None q = cc
close_no_begin i from r p cs (Some d) q = cc

pub close_moves : (S : State) (e : Event) (i : List ℕ) (T : State) (a : Answer) → ((turn : Turn) → TurnsTo S e turn → turn ≡ close_at i (S.dialogues i))
    → Step S e T a → CloseMoves S i T a
close_moves S e i T a is (Full turn new turns t) = absurd (close_no_begin i t.from t.origin t.name t.components (S.dialogues i)
    (sym (is turn turns) ∙ t.begins))
close_moves S e i T a is (Taken turn new turns m) = by (S.dialogues i) refl
  where
    by : (o : Option Dialogue) → S.dialogues i ≡ o → CloseMoves S i T a
    by None q =
        let h : (T ≡ S) × (a.sent ≡ []) = dismissed S e T a [] turn (is turn turns ∙ ap (λ o. close_at i o) q) new m in
        record {
          disposition = Nothing;
          closed = ap (λ o. transact (transaction_of o) CloseComes) q
              ∙ sym (ap (λ o. row (transaction_of o) Nothing) (ap (λ (U : State). U.dialogues i) h.0 ∙ q));
          silent = h.1;
        }
    by (Some d) q =
        let P : Turn → Type 0 = λ k. Moves S (route S.directory e) k new (outcome_in S (route S.directory e) k new) T a in
        let w : Moves S (route S.directory e) (Closes i d) new (outcome_in S (route S.directory e) (Closes i d) new) T a = subst P
        (is turn turns ∙ ap (λ o. close_at i o) q) m in
        let after : T.dialogues i ≡ None = after_is S e (Closes i d) new T a w i d.subscriber d q refl refl in
        record {
          disposition = ForIt;
          closed = ap (λ o. transact (transaction_of o) CloseComes) q ∙ sym (ap (λ o. row (transaction_of o) ForIt) after);
          silent = w.sent;
        }

-- an expiry

standing_there : (j : ℤ) (vs : List Invocation) (v : Invocation) → invocation_of j vs ≡ Some v → standing_of j vs ≡ Some (v.was, v.deadline)
standing_there j [] v e = absurd (none_some v None refl e)
standing_there j (u ∷ vs) v e = by (int_eq u.id j) e (standing_there j vs v)
  where
    by : (b : Bool) → cond b (Some u) (invocation_of j vs) ≡ Some v → (invocation_of j vs ≡ Some v → standing_of j vs ≡ Some (v.was, v.deadline))
        → cond b (Some (u.was, u.deadline)) (standing_of j vs) ≡ Some (v.was, v.deadline)
    by true q next = ap (λ (w : Invocation). Some (w.was, w.deadline)) (some_inj u v _ refl q)
    by false q next = next q

none_standing : (j : ℤ) (vs : List Invocation) → Every (λ (u : Invocation). int_eq u.id j ≡ false) vs → standing_of j vs ≡ None
none_standing j [] h = refl
none_standing j (v ∷ vs) h = ap (λ b. cond b (Some (v.was, v.deadline)) (standing_of j vs)) h.0 ∙ none_standing j vs h.1

standing_gone : (j : ℤ) (vs : List Invocation) → IsMap vs → standing_of j (without j vs) ≡ None
standing_gone j [] m = refl
standing_gone j (v ∷ vs) m = by (int_eq v.id j) refl (standing_gone j vs m.1)
  where
    by : (b : Bool) → int_eq v.id j ≡ b → standing_of j (without j vs) ≡ None → standing_of j (cond b vs (v ∷ without j vs)) ≡ None
    by true q ih = none_standing j vs (every_one (λ u. int_eq u.id v.id ≡ false) (λ u. int_eq u.id j ≡ false)
        (λ u r. subst (λ i. int_eq u.id i ≡ false) (int_is v.id j q) r) vs m.0)
    by false q ih = ap (λ b. cond b (Some (v.was, v.deadline)) (standing_of j (without j vs))) q ∙ ih

standing_else : (j k : ℤ) (vs : List Invocation) → int_eq j k ≡ false → standing_of k (without j vs) ≡ standing_of k vs
standing_else j k [] h = refl
standing_else j k (v ∷ vs) h = by (int_eq v.id j) refl (standing_else j k vs h)
  where
    by : (b : Bool) → int_eq v.id j ≡ b → standing_of k (without j vs) ≡ standing_of k vs
        → standing_of k (cond b vs (v ∷ without j vs)) ≡ cond (int_eq v.id k) (Some (v.was, v.deadline)) (standing_of k vs)
    by true q ih = sym (ap (λ b. cond b (Some (v.was, v.deadline)) (standing_of k vs)) (ap (λ i. int_eq i k) (int_is v.id j q) ∙ h))
    by false q ih = ap (λ o. cond (int_eq v.id k) (Some (v.was, v.deadline)) o) ih

pub expiry_moves : (S : State) (n : ℕ) (i : List ℕ) (d : Dialogue) (j : ℤ) (v : Invocation) (T : State) (a : Answer) → Sound S → IsDue S n i d j v
    → IsLeast S n v.deadline i j → Step S (Expire n) T a → ExpiryMoves S n i d j T a
expiry_moves S n i d j v T a sound due least (Full turn new turns t) =
    let is : turn ≡ Expires i d j v.was = expiry_one S n turn (Expires i d j v.was) turns (OneDue i d j v due least refl) in
    let one : Expires i d j v.was ≡ Begins t.from t.origin t.name t.components = sym is ∙ t.begins in cc
expiry_moves S n i d j v T a sound due least (Taken turn new turns m) =
    let is : turn ≡ Expires i d j v.was = expiry_one S n turn (Expires i d j v.was) turns (OneDue i d j v due least refl) in
    let P : Turn → Type 0 = λ k. Moves S n k new (outcome_in S n k new) T a in
    let w : Moves S n (Expires i d j v.was) new (outcome_in S n (Expires i d j v.was) new) T a = subst P is m in
    let after : T.dialogues i ≡ (expires (local_of S n d.subscriber) i d j v.was new).stays = after_is S (Expire n)
    (Expires i d j v.was) new T a w i d.subscriber d due.is_open refl refl in
    record {
      does = does_first S (Expire n) (Expires i d j v.was) new T a w i d.subscriber d due.is_open refl refl (λ u q none. refl);
      invocations = λ f q. timed v.was refl f (sym after ∙ q);
    }
  where
    gone : (L : Local) (kind : Kind) (new : List ℕ) → (sent_expires L i d kind new).stays ≡ None
    gone L (Updates register k) new = refl
    gone L (Cancels vlr attempt cause) new = refl
    gone L Data new = refl

    timed : (was : Was) → v.was ≡ was → (f : Dialogue) → (expires (local_of S n d.subscriber) i d j was new).stays ≡ Some f
        → TimedOut (S.clocks n) j d.invocations f.invocations
    timed OperationSent w f q = absurd (none_some f _ (gone (local_of S n d.subscriber) d.kind new) q)
    timed WaitForReject w f q =
        let f_is : f.invocations ≡ without j d.invocations = ap (λ (g : Dialogue). g.invocations) (sym (some_inj _ f _ refl q)) in
        let map_of : IsMap d.invocations = rising_map d.invocations (sound.dialogues i d due.is_open).rising in
        record {
          reply = NoReply;
          row = ap (λ s. invocation s TimesOut (S.clocks n)) (standing_there j d.invocations v due.stands ∙ ap (λ was. Some (was, v.deadline)) w)
              ∙ ap (λ s. Some (s, NoReply)) (sym (standing_gone j d.invocations map_of) ∙ sym (ap (λ vs. standing_of j vs) f_is));
          others = λ k h. ap (λ vs. standing_of k vs) f_is ∙ standing_else j k d.invocations h;
        }
