-- The id that is taken is a step's only free choice.
use Rattle.std.proofs.Common.{◌≡◌, ◌≢◌, ◌+◌, ℕ, ℤ, List, [], ◌∷◌, Bool, true, false, cond, refl, sym, ap, ◌∙◌, subst, Option, Some, None, is_some, IsTrue, nat_cmp, int_cmp, is_gt, Ordering, Less, Equal, Greater}
use Rattle.std.specs.Ordering.{ordering_then, ordering_reverse}
use Rattle.std.specs.Cmp.{nat_cmp_total, int_cmp_total}
use Rattle.std.specs.Cmp.Lexicographic.{slice_cmp, nat_list_cmp_total}
use Rattle.std.specs.FinMap.{nat_cmp-IsAntisymmetric, int_cmp-IsAntisymmetric, slice_cmp-IsAntisymmetric}
use Rattle.std.proofs.lemmas.Bool.{both_ways}
use Rattle.machine.specs.Step.{Answer, Full, Moves, Step, Taken, TurnedAway, moved, named_stays, new_opens, outcome, outcome_in, seen, taken, ticked}
use Rattle.machine.specs.Received.{Argument, BadValue, Component, Purge, Register, Route, Update}
use Rattle.machine.specs.Begins.{Initiator, end_of_begin, begins, begins_in, begins_named, begun, is_allowed, procedure, update_begins, update_opened}
use Rattle.machine.specs.Turns.{Begins, Changes, Closes, Continues, Dismissed, Expires, Expiry, NoneDue, OneDue, Ticks, Turn, TurnsTo, concern, invocation_of, named, triple_cmp}
use Rattle.machine.specs.Sent.{CancellationType, Cause, Context, Rejection, SentAbort, SentError, UpdateProcedure, UpdateResult}
use Rattle.machine.specs.State.{Cancels, Data, Dialogue, Invocation, Kind, Local, OperationSent, State, Subscriber, Updates, WaitForReject, Was}
use Rattle.machine.specs.Events.{Change, Clock, Codes, Event, Expire, Frame, Operator, Withdraw}
use Rattle.machine.specs.Effect.{Conclusion, Effect, GoesOn, HasFailed, HasSucceeded, effect}
use Rattle.machine.specs.Outcome.{Outcome, cancel, end_in_dialogue, is_marked, send, unchanged}
use Rattle.machine.specs.Contexts.{accepted}
use Rattle.machine.specs.Expiries.{cancel_expires, expires, is_repeated, sent_expires}
use Rattle.machine.specs.Changes.{change_to, changes, codes_to, data_to, withdraw_from}
use Rattle.machine.specs.Dialogues.{continues_as, offer_to, update_completes, update_continues, update_done, update_fails}
use Rattle.machine.specs.declared.numbers.TheConstants.{RESOURCE_LIMITATION, ROAMING_NOT_ALLOWED, UNKNOWN_SUBSCRIBER}
use Rattle.machine.specs.Keys.{put, same}
use Rattle.machine.specs.Routing.{route}
use Rattle.machine_laws.proofs.Keys.{none_some, put-other, some_inj}

-- two outcomes with two new ids: both open a dialogue or neither does, the named dialogue stays so in both, and if none opens they are equal

pub record Free (o p : Outcome) : Type 0 where
  pub opens : is_some o.opens ≡ is_some p.opens
  pub stays : o.stays ≡ p.stays
  pub alike : o.opens ≡ None → o ≡ p

one : (o p : Outcome) → o ≡ p → Free o p
one o p e = record { opens = ap (λ (q : Outcome). is_some q.opens) e; stays = ap (λ (q : Outcome). q.stays) e; alike = λ n. e }

both_open : (o p : Outcome) (d f : Dialogue) → o.opens ≡ Some d → p.opens ≡ Some f → o.stays ≡ p.stays → Free o p
both_open o p d f q r s = record { opens = ap (λ x. is_some x) q ∙ sym (ap (λ x. is_some x) r); stays = s; alike = λ n. absurd (none_some d _ n q) }

module _ (L : Local) (new old : List ℕ) where
  free_update : (a : Initiator) (k : ℤ) (reg : Register) (R : Option Subscriber) → Free (update_begins L a k reg R new) (update_begins L a k reg R old)
  free_update a k reg None = one _ _ refl
  free_update a k reg (Some s) = by s.withdrawn (is_allowed s.roam reg.vlr)
    where
      by : (w t : Bool) → Free
          (cond w (unchanged L (end_of_begin a (SentError k UNKNOWN_SUBSCRIBER ∷ [])))
          (cond t (update_opened L a k reg s new) (unchanged L (end_of_begin a (SentError k ROAMING_NOT_ALLOWED ∷ [])))))
          (cond w (unchanged L (end_of_begin a (SentError k UNKNOWN_SUBSCRIBER ∷ [])))
          (cond t (update_opened L a k reg s old) (unchanged L (end_of_begin a (SentError k ROAMING_NOT_ALLOWED ∷ [])))))
      by true t = one _ _ refl
      by false true = both_open _ _ _ _ refl refl refl
      by false false = one _ _ refl

  free_procedure : (a : Initiator) (k : ℤ) (p : Argument) → Free (procedure L a k p new) (procedure L a k p old)
  free_procedure a k (Update imsi reg) = free_update a k reg L.record_of
  free_procedure a k (Purge imsi vlr) = one _ _ refl
  free_procedure a k (Route msisdn) = one _ _ refl
  free_procedure a k BadValue = one _ _ refl

  free_begun : (a : Initiator) (s : Option ℤ) (p : Option Argument) → Free (begun L a s p new) (begun L a s p old)
  free_begun a None p = one _ _ refl
  free_begun a (Some k) None = one _ _ refl
  free_begun a (Some k) (Some p) = free_procedure a k p

  free_begins_in : (from r : List ℕ) (c : Context) (cs : List Component) → Free (begins_in L from r c cs new) (begins_in L from r c cs old)
  free_begins_in from r c [] = one _ _ refl
  free_begins_in from r c (k ∷ ks) = free_begun _ _ _

  free_named : (from r name : List ℕ) (c : Option Context) (cs : List Component)
      → Free (begins_named L from r name c cs new) (begins_named L from r name c cs old)
  free_named from r name None cs = one _ _ refl
  free_named from r name (Some c) cs = free_begins_in from r c cs

  free_begins : (from r : List ℕ) (p : Option (List ℕ)) (cs : List Component) → Free (begins L from r p cs new) (begins L from r p cs old)
  free_begins from r None cs = one _ _ refl
  free_begins from r (Some name) cs = free_named from r name (accepted name) cs

  free_completes : (i : List ℕ) (d : Dialogue) (reg : Register) (k : ℤ) (rejects : List Rejection) (R : Option Subscriber)
      → Free (update_completes L i d reg k rejects new R) (update_completes L i d reg k rejects old R)
  free_completes i d reg k rejects None = one _ _ refl
  free_completes i d reg k rejects (Some s) = by (is_marked s.current i)
    where
      done : (g : Option Register) → Free (update_done L reg s (end_in_dialogue d.transaction d.transaction.remote rejects (UpdateResult k L.hlr ∷ [])) new g)
          (update_done L reg s (end_in_dialogue d.transaction d.transaction.remote rejects (UpdateResult k L.hlr ∷ [])) old g)
      done None = one _ _ refl
      done (Some g) = same_digits (same g.vlr reg.vlr) refl
        where
          same_digits : (t : Bool) → same g.vlr reg.vlr ≡ t → Free
              (update_done L reg s (end_in_dialogue d.transaction d.transaction.remote rejects (UpdateResult k L.hlr ∷ [])) new (Some g))
              (update_done L reg s (end_in_dialogue d.transaction d.transaction.remote rejects (UpdateResult k L.hlr ∷ [])) old (Some g))
          same_digits true q = one _ _ (rw q refl)
          same_digits false q = both_open _ _ _ _ (ap (λ b. cond b None (Some (cancel L g.vlr 1 UpdateProcedure))) q)
              (ap (λ b. cond b None (Some (cancel L g.vlr 1 UpdateProcedure))) q) refl

      by : (t : Bool) → Free
          (cond t (update_done L reg s (end_in_dialogue d.transaction d.transaction.remote rejects (UpdateResult k L.hlr ∷ [])) new s.register)
          (update_fails L i d k rejects))
          (cond t (update_done L reg s (end_in_dialogue d.transaction d.transaction.remote rejects (UpdateResult k L.hlr ∷ [])) old s.register)
          (update_fails L i d k rejects))
      by true = done s.register
      by false = one _ _ refl

  free_part : (i : List ℕ) (d : Dialogue) (kind : Kind) (e : Effect) → Free (continues_as L i d kind e new) (continues_as L i d kind e old)
  free_part i d (Updates reg k) e = by e.conclusion
    where
      by : (c : Conclusion) → Free (update_continues L i d reg k e c new) (update_continues L i d reg k e c old)
      by HasFailed = one _ _ refl
      by HasSucceeded = free_completes i d reg k e.rejects L.record_of
      by GoesOn = one _ _ refl
  free_part i d (Cancels vlr attempt cancellation) e = one _ _ refl
  free_part i d Data e = one _ _ refl

  free_expires : (i : List ℕ) (d : Dialogue) (j : ℤ) (was : Was) → Free (expires L i d j was new) (expires L i d j was old)
  free_expires i d j WaitForReject = one _ _ refl
  free_expires i d j OperationSent = by d.kind
    where
      again : (vlr : List ℕ) (attempt : ℕ) (cancellation : CancellationType) (t : Bool) → (is_repeated L vlr attempt) ≡ t
          → Free (cancel_expires L d vlr attempt cancellation new) (cancel_expires L d vlr attempt cancellation old)
      again vlr attempt cancellation true q = both_open _ _ _ _ (ap (λ b. cond b (Some (cancel L vlr (attempt + 1) cancellation)) None) q)
          (ap (λ b. cond b (Some (cancel L vlr (attempt + 1) cancellation)) None) q) refl
      again vlr attempt cancellation false q = one _ _ (rw q refl)

      by : (kind : Kind) → Free (sent_expires L i d kind new) (sent_expires L i d kind old)
      by (Updates reg k) = one _ _ refl
      by (Cancels vlr attempt cancellation) = again vlr attempt cancellation (is_repeated L vlr attempt) refl
      by Data = one _ _ refl

  free_changes : (c : Change) (R : Option Subscriber) → Free (changes L c R new) (changes L c R old)
  free_changes c None = one _ _ refl
  free_changes c (Some s) = by s.withdrawn
    where
      codes : (cs : List ℕ) (g : Option Register) → Free (codes_to L s cs new g) (codes_to L s cs old g)
      codes cs None = one _ _ refl
      codes cs (Some reg) = at_purged s.purged refl
        where
          at_purged : (t : Bool) → s.purged ≡ t → Free (codes_to L s cs new (Some reg)) (codes_to L s cs old (Some reg))
          at_purged true q = one _ _ (rw q refl)
          at_purged false q = record { opens = refl; stays = refl; alike = λ n. absurd (none_some _ _ n (ap (λ b. cond b None (Some (data_to L reg cs))) q)) }

      gone : (g : Option Register) → Free (withdraw_from L s new g) (withdraw_from L s old g)
      gone None = one _ _ refl
      gone (Some reg) = both_open _ _ _ _ refl refl refl

      of : (k : Change) → Free (change_to L s k new) (change_to L s k old)
      of (Codes cs) = codes cs s.register
      of Withdraw = gone s.register

      by : (t : Bool) → Free (cond t (unchanged L []) (change_to L s c new)) (cond t (unchanged L []) (change_to L s c old))
      by true = one _ _ refl
      by false = of c

  pub free : (turn : Turn) → Free (outcome L turn new) (outcome L turn old)
  free (Dismissed out) = one _ _ refl
  free (Ticks n now) = one _ _ refl
  free (Begins from r p cs) = free_begins from r p cs
  free (Continues i d cs) = free_part i d d.kind (effect L.clock (offer_to d.kind) d.invocations cs)
  free (Closes i d) = one _ _ refl
  free (Expires i d j was) = free_expires i d j was
  free (Changes x c) = free_changes c L.record_of

-- one triple is the least

pub record Level (a : Ordering) (r s : Ordering) : Type 0 where
  pub equal : a ≡ Equal
  pub first : is_gt r ≡ false
  pub second : is_gt s ≡ false

level : (a b r s : Ordering) → a ≡ ordering_reverse b → is_gt (ordering_then a r) ≡ false → is_gt (ordering_then b s) ≡ false → Level a r s
level a Less r s e h g = absurd (both_ways _ h (ap (λ o. is_gt (ordering_then o r)) e))
level a Equal r s e h g = record { equal = e; first = sym (ap (λ o. is_gt (ordering_then o r)) e) ∙ h; second = g }
level a Greater r s e h g = absurd (both_ways _ g refl)

last : (a b : Ordering) → a ≡ ordering_reverse b → is_gt a ≡ false → is_gt b ≡ false → a ≡ Equal
last a Less e h g = absurd (both_ways _ h (ap (λ o. is_gt o) e))
last a Equal e h g = e
last a Greater e h g = absurd (both_ways _ g refl)

pub record SameTriple (t : ℕ) (i : List ℕ) (j : ℤ) (t' : ℕ) (i' : List ℕ) (j' : ℤ) : Type 0 where
  pub deadline : t ≡ t'
  pub id : i ≡ i'
  pub invoke : j ≡ j'

pub same_triple : (t : ℕ) (i : List ℕ) (j : ℤ) (t' : ℕ) (i' : List ℕ) (j' : ℤ) → is_gt (triple_cmp t i j t' i' j') ≡ false
    → is_gt (triple_cmp t' i' j' t i j) ≡ false → SameTriple t i j t' i' j'
same_triple t i j t' i' j' h g =
    let a : Level (nat_cmp t t') (ordering_then (slice_cmp nat_cmp i i') (int_cmp j j')) (ordering_then (slice_cmp nat_cmp i' i) (int_cmp j' j)) = level _ _ _ _
    (nat_cmp_total.antisymm t t') h g in
    let b : Level (slice_cmp nat_cmp i i') (int_cmp j j') (int_cmp j' j) = level _ _ _ _ (nat_list_cmp_total.antisymm i i') a.first a.second in
    record {
      deadline = nat_cmp-IsAntisymmetric t t' a.equal;
      id = slice_cmp-IsAntisymmetric nat_cmp-IsAntisymmetric i i' b.equal;
      invoke = int_cmp-IsAntisymmetric j j' (last _ _ (int_cmp_total.antisymm j j') b.first b.second);
    }

pub expiry_one : (S : State) (n : ℕ) (turn come : Turn) → Expiry S n turn → Expiry S n come → turn ≡ come
expiry_one S n turn come (OneDue i d j v due least is) (OneDue i' d' j' v' due' least' is') =
    let t : SameTriple v.deadline i j v'.deadline i' j' = same_triple v.deadline i j v'.deadline i' j' (least i' d' j' v' due') (least' i d j v due) in
    let same_dialogue : d ≡ d' = some_inj d d' _ due.is_open (ap S.dialogues t.id ∙ due'.is_open) in
    let same_invocation : v ≡ v' = some_inj v v' _ due.stands (ap (λ k. invocation_of k d.invocations) t.invoke
    ∙ ap (λ (f : Dialogue). invocation_of j' f.invocations) same_dialogue ∙ due'.stands) in
    is ∙ ap (λ k. Expires k d j v.was) t.id ∙ ap (λ f. Expires i' f j v.was) same_dialogue
    ∙ ap (λ k. Expires i' d' k v.was) t.invoke ∙ ap (λ (w : Invocation). Expires i' d' j' w.was) same_invocation ∙ sym is'
expiry_one S n turn come (OneDue i d j v due least is) (NoneDue none is') = absurd (none i d j v due)
expiry_one S n turn come (NoneDue none is) (OneDue i' d' j' v' due' least' is') = absurd (none i' d' j' v' due')
expiry_one S n turn come (NoneDue none is) (NoneDue none' is') = is ∙ sym is'

-- the turn of an event is determined
pub comes_one : (S : State) (e : Event) (turn come : Turn) → TurnsTo S e turn → TurnsTo S e come → turn ≡ come
comes_one S (Frame from v) turn come c d = c ∙ sym d
comes_one S (Clock n now) turn come c d = c ∙ sym d
comes_one S (Expire n) turn come c d = expiry_one S n turn come c d
comes_one S (Operator x k) turn come c d = c ∙ sym d

answer_is : (a b : Answer) → a.id ≡ b.id → a.subject ≡ b.subject → a.sent ≡ b.sent → a ≡ b
answer_is a b i s m = λ k. record { id = i k; subject = s k; sent = m k }

module _ (S : State) (e : Event) (turn : Turn) (new old : List ℕ) where
  free_here : Free (outcome_in S (route S.directory e) turn new) (outcome_in S (route S.directory e) turn old)
  free_here = free (seen S (route S.directory e) (concern S.directory turn)) new old turn

  -- if no dialogue opens, the new id does not matter
  moved_alike : (o : Outcome) → o.opens ≡ None → moved S (concern S.directory turn) (named turn) new o ≡ moved S (concern S.directory turn) (named turn) old o
  moved_alike o n = by (concern S.directory turn)
    where
      opens_alike : (opens : Option Dialogue) → opens ≡ None → new_opens new opens (named_stays (named turn) o.stays S.dialogues)
          ≡ new_opens old opens (named_stays (named turn) o.stays S.dialogues)
      opens_alike None q = refl
      opens_alike (Some d) q = absurd (none_some d _ q refl)

      by : (c : Option (List ℕ)) → moved S c (named turn) new o ≡ moved S c (named turn) old o
      by None = refl
      by (Some x) = λ k. record {
        records = put S.records x o.after;
        dialogues = opens_alike o.opens n k;
        clocks = S.clocks;
        directory = S.directory;
        hlr = S.hlr;
      }

  moves_one : (T U : State) (a b : Answer) → Moves S (route S.directory e) turn new (outcome_in S (route S.directory e) turn new) T a
      → Moves S (route S.directory e) turn old (outcome_in S (route S.directory e) turn old) U b → a.id ≡ b.id → (T ≡ U) × (a ≡ b)
  moves_one T U a b m w i = by (outcome_in S (route S.directory e) turn new).opens refl
    where
      o : Outcome
      o = outcome_in S (route S.directory e) turn new

      together : (outcome_in S (route S.directory e) turn new ≡ outcome_in S (route S.directory e) turn old)
          → (moved S (concern S.directory turn) (named turn) new (outcome_in S (route S.directory e) turn new)
          ≡ moved S (concern S.directory turn) (named turn) old (outcome_in S (route S.directory e) turn new)) → (T ≡ U) × (a ≡ b)
      together same_o same_moved = (
        m.state ∙ ap (λ V. ticked turn V) same_moved ∙ ap (λ p. ticked turn (moved S (concern S.directory turn) (named turn) old p)) same_o ∙ sym w.state,
        answer_is a b i (m.subject ∙ sym w.subject) (m.sent ∙ ap (λ (p : Outcome). p.sent) same_o ∙ sym w.sent),
      )

      some_both : (d : Dialogue) → (outcome_in S (route S.directory e) turn new).opens ≡ Some d → (q : Option Dialogue)
          → (outcome_in S (route S.directory e) turn old).opens ≡ q → new ≡ old
      some_both d q None r = absurd (both_ways _ (ap (λ x. is_some x) r) (sym free_here.opens ∙ ap (λ x. is_some x) q))
      some_both d q (Some f) r = some_inj new old _ (ap (λ p. taken new p) q) (sym (sym i ∙ m.id) ∙ w.id ∙ ap (λ p. taken old p) r)

      by : (q : Option Dialogue) → (outcome_in S (route S.directory e) turn new).opens ≡ q → (T ≡ U) × (a ≡ b)
      by None q = together (free_here.alike q) (moved_alike _ q)
      by (Some d) q =
          let same_id : new ≡ old = some_both d q (outcome_in S (route S.directory e) turn old).opens refl in
          together (ap (λ k. outcome_in S (route S.directory e) turn k) same_id)
          (ap (λ k. moved S (concern S.directory turn) (named turn) k (outcome_in S (route S.directory e) turn new)) same_id)

  -- what is turned away does not move
  not_both : (T U : State) (a b : Answer) → Moves S (route S.directory e) turn new (outcome_in S (route S.directory e) turn new) T a
      → TurnedAway S (route S.directory e) turn (outcome_in S (route S.directory e) turn old) U b → ⊥
  not_both T U a b m t = m.room (record { opens = free_here.opens ∙ t.overflows.opens; beside = t.overflows.beside; full = t.overflows.full })

  away_one : (T U : State) (a b : Answer) → TurnedAway S (route S.directory e) turn (outcome_in S (route S.directory e) turn new) T a
      → TurnedAway S (route S.directory e) turn (outcome_in S (route S.directory e) turn old) U b → (T ≡ U) × (a ≡ b)
  away_one T U a b t u =
      let same_begin : Begins t.from t.origin t.name t.components ≡ Begins u.from u.origin u.name u.components = sym t.begins ∙ u.begins in
      let same_from : t.from ≡ u.from = cc in
      let same_origin : t.origin ≡ u.origin = cc in (
        t.state ∙ sym u.state,
        answer_is a b (t.id ∙ sym u.id) (t.subject ∙ sym u.subject) (t.sent ∙ ap (λ (f : List ℕ). send f
            (SentAbort t.origin (Cause RESOURCE_LIMITATION))) same_from
            ∙ ap (λ (r : List ℕ). send u.from (SentAbort r (Cause RESOURCE_LIMITATION))) same_origin ∙ sym u.sent),
      )

-- with one id, a step has one state and one answer
pub determined : (S : State) (e : Event) (T U : State) (a b : Answer) → Step S e T a → Step S e U b → a.id ≡ b.id → (T ≡ U) × (a ≡ b)
determined S e T U a b (Taken turn new c m) (Taken come old d w) i =
    let same_came : come ≡ turn = comes_one S e come turn d c in
    let w' : Moves S (route S.directory e) turn old (outcome_in S (route S.directory e) turn old) U b =
    (let P : Turn → Type 0 = λ k. Moves S (route S.directory e) k old (outcome_in S (route S.directory e) k old) U b in subst P same_came w) in
    moves_one S e turn new old T U a b m w' i
determined S e T U a b (Taken turn new c m) (Full come old d t) i =
    let same_came : come ≡ turn = comes_one S e come turn d c in
    absurd (not_both S e turn new old T U a b m (let P : Turn → Type 0 = λ k. TurnedAway S (route S.directory e) k
    (outcome_in S (route S.directory e) k old) U b in subst P same_came t))
determined S e T U a b (Full turn new c t) (Taken come old d w) i =
    let same_came : turn ≡ come = comes_one S e turn come c d in
    absurd (not_both S e come old new U T b a w (let P : Turn → Type 0 = λ k. TurnedAway S (route S.directory e) k
    (outcome_in S (route S.directory e) k new) T a in subst P same_came t))
determined S e T U a b (Full turn new c t) (Full come old d u) i =
    let same_came : come ≡ turn = comes_one S e come turn d c in
    away_one S e turn new old T U a b t (let P : Turn → Type 0 = λ k. TurnedAway S (route S.directory e) k
    (outcome_in S (route S.directory e) k old) U b in subst P same_came u)

-- ---- what does not depend on the id

-- a step that takes an id has a new one
has_new : (S : State) (n : ℕ) (turn : Turn) (new : List ℕ) (o : Outcome) (T : State) (a : Answer) → Moves S n turn new o T a → (id : List ℕ)
    → S.dialogues id ≢ None → IsTrue (is_some o.opens) → new ≡ id → ⊥
has_new S n turn new o T a m id here opens same = here (ap S.dialogues (sym same) ∙ (m.opens opens).is_new)

-- a dialogue that was open is after the step as the named one stays
still_as : (S : State) (n : ℕ) (turn : Turn) (new : List ℕ) (o : Outcome) (T : State) (a : Answer) → Moves S n turn new o T a → (id : List ℕ)
    → S.dialogues id ≢ None
    → (T.dialogues id ≡ (moved S (concern S.directory turn) (named turn) new (record o { opens = None })).dialogues id)
still_as S n turn new o T a m id here =
    ap (λ (V : State). V.dialogues id) m.state ∙ unticked turn _ ∙ by (concern S.directory turn)
  where
    unticked : (t : Turn) (V : State) → (ticked t V).dialogues id ≡ V.dialogues id
    unticked (Ticks shard now) V = refl
    unticked (Dismissed out) V = refl
    unticked (Begins from r p cs) V = refl
    unticked (Continues i d cs) V = refl
    unticked (Closes i d) V = refl
    unticked (Expires i d j was) V = refl
    unticked (Changes x c) V = refl

    past : (q : Option Dialogue) (D : List ℕ → Option Dialogue) → (IsTrue (is_some q) → new ≡ id → ⊥) → new_opens new q D id ≡ D id
    past None D apart = refl
    past (Some d) D apart = put-other D new (Some d) id (apart refl)

    by : (c : Option (List ℕ)) → (moved S c (named turn) new o).dialogues id ≡ (moved S c (named turn) new (record o { opens = None })).dialogues id
    by None = refl
    by (Some x) = past o.opens (named_stays (named turn) o.stays S.dialogues) (λ opens. has_new S n turn new o T a m id here opens)

stays_alone : (S : State) (turn : Turn) (new old : List ℕ) (o p : Outcome) (id : List ℕ) → o.stays ≡ p.stays
    → (moved S (concern S.directory turn) (named turn) new (record o { opens = None })).dialogues id
    ≡ (moved S (concern S.directory turn) (named turn) old (record p { opens = None })).dialogues id
stays_alone S turn new old o p id same = by (concern S.directory turn)
  where
    by : (c : Option (List ℕ)) → (moved S c (named turn) new (record o { opens = None })).dialogues id
        ≡ (moved S c (named turn) old (record p { opens = None })).dialogues id
    by None = refl
    by (Some x) = ap (λ s. named_stays (named turn) s S.dialogues id) same

is_taken : (new : List ℕ) (q : Option Dialogue) → is_some (taken new q) ≡ is_some q
is_taken new None = refl
is_taken new (Some d) = refl

-- whether an id is taken
pub takes_alike : (S : State) (e : Event) (T U : State) (a b : Answer) → Step S e T a → Step S e U b → is_some a.id ≡ is_some b.id
takes_alike S e T U a b (Taken turn new c m) (Taken come old d w) =
    let same_came : come ≡ turn = comes_one S e come turn d c in
    let w' : Moves S (route S.directory e) turn old (outcome_in S (route S.directory e) turn old) U b =
    (let P : Turn → Type 0 = λ k. Moves S (route S.directory e) k old (outcome_in S (route S.directory e) k old) U b in subst P same_came w) in
    ap (λ o. is_some o) m.id ∙ is_taken new _ ∙ (free_here S e turn new old).opens ∙ sym (ap (λ o. is_some o) w'.id ∙ is_taken old _)
takes_alike S e T U a b (Taken turn new c m) (Full come old d t) =
    let same_came : come ≡ turn = comes_one S e come turn d c in
    absurd (not_both S e turn new old T U a b m (let P : Turn → Type 0 = λ k. TurnedAway S (route S.directory e) k
    (outcome_in S (route S.directory e) k old) U b in subst P same_came t))
takes_alike S e T U a b (Full turn new c t) (Taken come old d w) =
    let same_came : turn ≡ come = comes_one S e turn come c d in
    absurd (not_both S e come old new U T b a w (let P : Turn → Type 0 = λ k. TurnedAway S (route S.directory e) k
    (outcome_in S (route S.directory e) k new) T a in subst P same_came t))
takes_alike S e T U a b (Full turn new c t) (Full come old d u) = ap (λ o. is_some o) t.id ∙ sym (ap (λ o. is_some o) u.id)

-- which open dialogue closes
pub closes_alike : (S : State) (e : Event) (T U : State) (a b : Answer) → Step S e T a → Step S e U b → (id : List ℕ) → S.dialogues id ≢ None
    → T.dialogues id ≡ None → U.dialogues id ≡ None
closes_alike S e T U a b (Taken turn new c m) (Taken come old d w) id here gone =
    let same_came : come ≡ turn = comes_one S e come turn d c in
    let w' : Moves S (route S.directory e) turn old (outcome_in S (route S.directory e) turn old) U b =
    (let P : Turn → Type 0 = λ k. Moves S (route S.directory e) k old (outcome_in S (route S.directory e) k old) U b in subst P same_came w) in
    let o = outcome_in S (route S.directory e) turn new in
    let p = outcome_in S (route S.directory e) turn old in
    still_as S (route S.directory e) turn old p U b w' id here
    ∙ sym (stays_alone S turn new old o p id (free_here S e turn new old).stays)
    ∙ sym (still_as S (route S.directory e) turn new o T a m id here) ∙ gone
closes_alike S e T U a b (Taken turn new c m) (Full come old d t) id here gone =
    let same_came : come ≡ turn = comes_one S e come turn d c in
    absurd (not_both S e turn new old T U a b m (let P : Turn → Type 0 = λ k. TurnedAway S (route S.directory e) k
    (outcome_in S (route S.directory e) k old) U b in subst P same_came t))
closes_alike S e T U a b (Full turn new c t) step id here gone = absurd (here (ap (λ (V : State). V.dialogues id) (sym t.state) ∙ gone))
