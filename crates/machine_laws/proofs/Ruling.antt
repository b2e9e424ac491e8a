-- What the register does with transactions and invocations are rows of their tables, outcome by outcome.
use Rattle.std.proofs.Common.{◌≡◌, ◌+◌, ℕ, ℤ, pos, List, [], ◌∷◌, ◌++◌, map, Bool, true, false, cond, refl, sym, ap, ◌∙◌, subst, append-nil, Option, Some, None}
use Rattle.machine.specs.Tables.{AreInvoked, Does, DoesAnswer, DoesBegin, DoesClose, DoesContinue, DoesEnd, DoesNothing, invokes_in, invokes_of, transaction_of}
use Rattle.machine.specs.Received.{Argument, BadValue, Component, Purge, Register, Route, Update}
use Rattle.machine.specs.Begins.{Initiator, end_of_begin, begins, begins_in, begins_named, begun, is_allowed, procedure, purge, purge_at, update_begins, update_opened}
use Rattle.machine.specs.Sent.{CancellationType, Context, LocationCancellation, Out, PurgeResult, Rejection, SentBegin, SentComponent, SentContinue, SentError, SubscriberDataMngt, SubscriptionWithdraw, UpdateProcedure, UpdateResult}
use Rattle.machine.specs.State.{Cancels, Data, Dialogue, Invocation, Kind, Local, OperationSent, Subscriber, Transaction, Updates, WaitForReject, Was}
use Rattle.machine.specs.Events.{Change, Codes, Withdraw}
use Rattle.machine.specs.Effect.{Conclusion, Effect, GoesOn, HasFailed, HasSucceeded, effect}
use Rattle.machine.specs.Keys.{Every, same}
use Rattle.machine.specs.Transactions.{IsSent, Nothing, if_active, if_initiated, row}
use Rattle.machine.specs.Outcome.{Outcome, below, cancel, cancel_begin, continue_in_dialogue, end_in_dialogue, further, inserts, inserts_invoked, invoked, is_marked, send, unchanged}
use Rattle.machine.specs.Contexts.{accepted}
use Rattle.machine.specs.Changes.{change_to, changes, codes_to, data_to, withdraw_from}
use Rattle.machine.specs.Dialogues.{continues, continues_as, goes_on, offer_to, other_continues, update_completes, update_continues, update_done, update_fails}
use Rattle.machine.specs.Expiries.{expires, is_repeated, sent_expires, without}
use Rattle.machine.specs.declared.numbers.TheConstants.{ROAMING_NOT_ALLOWED, UNKNOWN_SUBSCRIBER}
use Rattle.machine_laws.proofs.Keys.{none_some, some_inj}

-- there are Rejects only if the peer's id is known
abbrev pub AreKept : Option Transaction → List Rejection → Type 0
AreKept received rejects = (t : Transaction) → received ≡ Some t → t.remote ≡ None → rejects ≡ []

-- what is done for a dialogue that opens
pub record Opens (now : ℕ) (new : List ℕ) (second : List Out) (d : Dialogue) : Type 0 where
  pub rejects : List Rejection
  pub does : Does new None rejects second (Some d.transaction)
  pub invoked : AreInvoked now d.invocations
  pub ids : invokes_of second ≡ map (λ (v : Invocation). v.id) d.invocations

-- of an outcome, with this transaction of the named dialogue once the frame is received, and these Rejects of what was
-- received
pub record Ruled (now : ℕ) (i : Option (List ℕ)) (received : Option Transaction) (rejects : List Rejection) (new : List ℕ) (o : Outcome) : Type 0 where
  pub first : List Out
  pub second : List Out
  pub both : o.sent ≡ first ++ second
  pub named : (j : List ℕ) → i ≡ Some j → AreKept received rejects → Does j received rejects first (transaction_of o.stays)
  pub opened : (d : Dialogue) → o.opens ≡ Some d → Opens now new second d
  pub alone : o.opens ≡ None → second ≡ []

nothing_opens : {X : Type 0} (d : X) (P : Type 0) → None ≡ Some d → P
nothing_opens d P e = absurd (none_some d None refl e)

-- nothing is named and nothing opens
pub ruled_unchanged : (now : ℕ) (L : Local) (new : List ℕ) (R : Option Transaction) (o : Outcome) → o.opens ≡ None → Ruled now None R [] new o
ruled_unchanged now L new R o e = record {
  first = o.sent;
  second = [];
  both = sym (append-nil o.sent);
  named = λ j q kept. absurd (none_some j None refl q);
  opened = λ d q. absurd (none_some d _ e q);
  alone = λ q. refl;
}

-- the inserts are invoked
every_map : (P : Invocation → Type 0) (f : ℕ → Invocation) → ((k : ℕ) → P (f k)) → (ks : List ℕ) → Every P (map f ks)
every_map P f h [] = tt
every_map P f h (k ∷ ks) = (h k, every_map P f h ks)

inserts_are_invoked : (now : ℕ) (codes : List ℕ) → AreInvoked now (inserts_invoked now codes)
inserts_are_invoked now codes = (refl, every_map _ (λ k. invoked now (pos (k + 2))) (λ k. refl) (below (further codes)))

-- each by an Invoke with its id
ids_map : (now : ℕ) (f : ℕ → SentComponent) → ((k : ℕ) (cs : List SentComponent) → invokes_in (f k ∷ cs) ≡ pos (k + 2) ∷ invokes_in cs) → (ks : List ℕ)
    → invokes_in (map f ks) ≡ map (λ (v : Invocation). v.id) (map (λ k. invoked now (pos (k + 2))) ks)
ids_map now f h [] = refl
ids_map now f h (k ∷ ks) = h k (map f ks) ∙ ap (λ ids. pos (k + 2) ∷ ids) (ids_map now f h ks)

inserts_have_ids : (now : ℕ) (imsi : Option (List ℕ)) (msisdn codes : List ℕ)
    → invokes_in (inserts imsi msisdn codes) ≡ map (λ (v : Invocation). v.id) (inserts_invoked now codes)
inserts_have_ids now imsi msisdn codes = ap (λ ids. pos 1 ∷ ids) (ids_map now _ (λ k cs. refl) (below (further codes)))

-- Begins

module _ (L : Local) (new : List ℕ) where
  ruled_update : (initiator : Initiator) (k : ℤ) (register : Register) (R : Option Subscriber)
      → Ruled L.clock None None [] new (update_begins L initiator k register R new)
  ruled_update initiator k register None = ruled_unchanged L.clock L new None _ refl
  ruled_update initiator k register (Some s) = by s.withdrawn (is_allowed s.roam register.vlr)
    where
      by : (w t : Bool) → Ruled L.clock None None [] new
          (cond w (unchanged L (end_of_begin initiator (SentError k UNKNOWN_SUBSCRIBER ∷ [])))
          (cond t (update_opened L initiator k register s new) (unchanged L (end_of_begin initiator (SentError k ROAMING_NOT_ALLOWED ∷ [])))))
      by true t = ruled_unchanged L.clock L new None _ refl
      by false false = ruled_unchanged L.clock L new None _ refl
      by false true = record {
        first = [];
        second = send initiator.from (SentContinue new initiator.origin (Some initiator.context) initiator.rejects (inserts None s.msisdn s.codes));
        both = refl;
        named = λ j q kept. absurd (none_some j None refl q);
        opened = λ d q. let P : Dialogue → Type 0 = Opens L.clock new
            (send initiator.from (SentContinue new initiator.origin (Some initiator.context) initiator.rejects (inserts None s.msisdn s.codes))) in
            subst P (some_inj _ _ _ refl q) (record {
              rejects = initiator.rejects;
              does = DoesAnswer initiator.from initiator.origin initiator.context _ refl refl;
              invoked = inserts_are_invoked L.clock s.codes;
              ids = append-nil _ ∙ inserts_have_ids L.clock None s.msisdn s.codes;
            });
        alone = λ q. absurd (none_some _ _ q refl);
      }

  ruled_purge : (initiator : Initiator) (k : ℤ) (vlr : Option (List ℕ)) (R : Option Subscriber) → Ruled L.clock None None [] new (purge L initiator k vlr R)
  ruled_purge initiator k vlr R = ruled_unchanged L.clock L new None _ (none_opens vlr R)
    where
      at_register : (s : Subscriber) (v : List ℕ) (g : Option Register) → (purge_at L initiator k s v g).opens ≡ None
      at_register s v None = refl
      at_register s v (Some g) = by (same g.vlr v)
        where
          by : (b : Bool) → (cond b (record {
            after = Some (record s { purged = true });
            stays = None;
            opens = None;
            sent = end_of_begin initiator
                (PurgeResult k true ∷ []);
          }) (unchanged L (end_of_begin initiator (PurgeResult k false ∷ [])))).opens ≡ None
          by true = refl
          by false = refl

      none_opens : (vlr : Option (List ℕ)) (R : Option Subscriber) → (purge L initiator k vlr R).opens ≡ None
      none_opens None R = refl
      none_opens (Some v) None = refl
      none_opens (Some v) (Some s) = by s.withdrawn
        where
          by : (b : Bool) → (cond b (unchanged L (end_of_begin initiator (SentError k UNKNOWN_SUBSCRIBER ∷ []))) (purge_at L initiator k s v s.register)).opens
              ≡ None
          by true = refl
          by false = at_register s v s.register

  ruled_procedure : (initiator : Initiator) (k : ℤ) (p : Argument) → Ruled L.clock None None [] new (procedure L initiator k p new)
  ruled_procedure initiator k BadValue = ruled_unchanged L.clock L new None _ refl
  ruled_procedure initiator k (Update imsi register) = ruled_update initiator k register L.record_of
  ruled_procedure initiator k (Purge imsi vlr) = ruled_purge initiator k vlr L.record_of
  ruled_procedure initiator k (Route msisdn) = ruled_unchanged L.clock L new None _ refl

  ruled_begun : (initiator : Initiator) (s : Option ℤ) (p : Option Argument) → Ruled L.clock None None [] new (begun L initiator s p new)
  ruled_begun initiator None p = ruled_unchanged L.clock L new None _ refl
  ruled_begun initiator (Some k) None = ruled_unchanged L.clock L new None _ refl
  ruled_begun initiator (Some k) (Some p) = ruled_procedure initiator k p

  ruled_begins_in : (from r : List ℕ) (c : Context) (cs : List Component) → Ruled L.clock None None [] new (begins_in L from r c cs new)
  ruled_begins_in from r c [] = ruled_unchanged L.clock L new None _ refl
  ruled_begins_in from r c (k ∷ ks) = ruled_begun _ _ _

  ruled_named : (from r name : List ℕ) (c : Option Context) (cs : List Component) → Ruled L.clock None None [] new (begins_named L from r name c cs new)
  ruled_named from r name None cs = ruled_unchanged L.clock L new None _ refl
  ruled_named from r name (Some c) cs = ruled_begins_in from r c cs

  pub ruled_begins : (from r : List ℕ) (p : Option (List ℕ)) (cs : List Component) → Ruled L.clock None None [] new (begins L from r p cs new)
  ruled_begins from r None cs = ruled_unchanged L.clock L new None _ refl
  ruled_begins from r (Some name) cs = ruled_named from r name (accepted name) cs

-- a dialogue that is open

does_end : (i : List ℕ) (t : Transaction) (rejects : List Rejection) (cs : List SentComponent) → (t.remote ≡ None → rejects ≡ [])
    → Does i (Some t) rejects (end_in_dialogue t t.remote rejects cs) None
does_end i t rejects cs kept = by t.remote refl
  where
    by : (r : Option (List ℕ)) → t.remote ≡ r → Does i (Some t) rejects (end_in_dialogue t r rejects cs) None
    by None q = DoesClose (ap (λ o. if_initiated o (row None Nothing)) q) (kept q) refl
    by (Some r) q = DoesEnd t r cs refl q (ap (λ o. if_active o (row None IsSent)) q) refl

does_continue : (i : List ℕ) (t : Transaction) (rejects : List Rejection) → (t.remote ≡ None → rejects ≡ [])
    → Does i (Some t) rejects (continue_in_dialogue i t t.remote rejects) (Some t)
does_continue i t rejects kept = by t.remote rejects kept refl
  where
    by : (r : Option (List ℕ)) (rejects : List Rejection) → (t.remote ≡ None → rejects ≡ []) → t.remote ≡ r
        → Does i (Some t) rejects (continue_in_dialogue i t r rejects) (Some t)
    by r [] k q = DoesNothing refl refl refl
    by None (c ∷ cs) k q = DoesNothing refl (k q) refl
    by (Some r) (c ∷ cs) k q = DoesContinue t r refl q (ap (λ o. if_active o (row (Some t) IsSent)) q) refl

module _ (L : Local) (new i : List ℕ) (d : Dialogue) where
  -- Rejects are there only if the peer's id is known
  abbrev Known : List Rejection → Type 0
  Known rejects = d.transaction.remote ≡ None → rejects ≡ []

  -- the named dialogue does this, and nothing opens
  ruled_alone : (rejects : List Rejection) (after : Option Subscriber) (stays : Option Dialogue) (out : List Out)
      → (Known rejects → Does i (Some d.transaction) rejects out (transaction_of stays))
      → Ruled L.clock (Some i) (Some d.transaction) rejects new (record { after = after; stays = stays; opens = None; sent = out })
  ruled_alone rejects after stays out h = record {
    first = out;
    second = [];
    both = sym (append-nil out);
    named = λ j q kept. subst (λ (k : List ℕ). Does k (Some d.transaction) rejects out (transaction_of stays)) (some_inj i j _ refl q)
        (h (λ none. kept d.transaction refl none));
    opened = λ f q. nothing_opens f _ q;
    alone = λ q. refl;
  }

  -- it ends, and a cancel opens
  ruled_cancel : (rejects : List Rejection) (after : Option Subscriber) (out : List Out) (vlr : List ℕ) (attempt : ℕ) (cause : CancellationType) (opens : Bool)
      → (Known rejects → Does i (Some d.transaction) rejects out None)
      → Ruled L.clock (Some i) (Some d.transaction) rejects new (record {
        after = after;
        stays = None;
        opens = cond opens
            (Some (cancel L vlr attempt cause)) None;
        sent = out ++ cond opens (cancel_begin L vlr cause new) [];
      })
  ruled_cancel rejects after out vlr attempt cause true h = record {
    first = out;
    second = cancel_begin L vlr cause new;
    both = refl;
    named = λ j q kept. subst (λ (k : List ℕ). Does k (Some d.transaction) rejects out None) (some_inj i j _ refl q) (h (λ none. kept d.transaction refl none));
    opened = λ f q. let P : Dialogue → Type 0 = Opens L.clock new (cancel_begin L vlr cause new) in
        subst P (some_inj _ _ _ refl q) (record { rejects = []; does = DoesBegin vlr LocationCancellation _ refl refl; invoked = (refl, tt); ids = refl });
    alone = λ q. absurd (none_some _ _ q refl);
  }
  ruled_cancel rejects after out vlr attempt cause false h = record {
    first = out;
    second = [];
    both = refl;
    named = λ j q kept. subst (λ (k : List ℕ). Does k (Some d.transaction) rejects out None) (some_inj i j _ refl q) (h (λ none. kept d.transaction refl none));
    opened = λ f q. nothing_opens f _ q;
    alone = λ q. refl;
  }

  ruled_fails : (k : ℤ) (rejects : List Rejection) → Ruled L.clock (Some i) (Some d.transaction) rejects new (update_fails L i d k rejects)
  ruled_fails k rejects = ruled_alone rejects _ None _ (does_end i d.transaction rejects _)

  ruled_done : (register : Register) (s : Subscriber) (k : ℤ) (rejects : List Rejection) (old : Option Register)
      → Ruled L.clock (Some i) (Some d.transaction) rejects new (update_done L register s
      (end_in_dialogue d.transaction d.transaction.remote rejects (UpdateResult k L.hlr ∷ [])) new old)
  ruled_done register s k rejects None = ruled_alone rejects _ None _ (does_end i d.transaction rejects _)
  ruled_done register s k rejects (Some old) = by (same old.vlr register.vlr)
    where
      by : (b : Bool) → Ruled L.clock (Some i) (Some d.transaction) rejects new (record {
        after = Some (record s { register = Some register; purged = false; current = None });
        stays = None;
        opens = cond b None (Some (cancel L old.vlr 1 UpdateProcedure));
        sent = end_in_dialogue d.transaction d.transaction.remote rejects (UpdateResult k L.hlr ∷ []) ++ cond b [] (cancel_begin L old.vlr UpdateProcedure new);
      })
      by true = ruled_cancel rejects _ _ old.vlr 1 UpdateProcedure false (does_end i d.transaction rejects _)
      by false = ruled_cancel rejects _ _ old.vlr 1 UpdateProcedure true (does_end i d.transaction rejects _)

  ruled_completes : (register : Register) (k : ℤ) (rejects : List Rejection) (R : Option Subscriber)
      → Ruled L.clock (Some i) (Some d.transaction) rejects new (update_completes L i d register k rejects new R)
  ruled_completes register k rejects None = ruled_fails k rejects
  ruled_completes register k rejects (Some s) = by (is_marked s.current i)
    where
      by : (b : Bool) → Ruled L.clock (Some i) (Some d.transaction) rejects new
          (cond b (update_done L register s (end_in_dialogue d.transaction d.transaction.remote rejects (UpdateResult k L.hlr ∷ [])) new s.register)
          (update_fails L i d k rejects))
      by true = ruled_done register s k rejects s.register
      by false = ruled_fails k rejects

  ruled_goes_on : (rejects : List Rejection) (vs : List Invocation) → Ruled L.clock (Some i) (Some d.transaction) rejects new (goes_on L i d rejects vs)
  ruled_goes_on rejects vs = ruled_alone rejects _ (Some (record d { invocations = vs })) _ (does_continue i d.transaction rejects)

  ruled_update_continues : (register : Register) (k : ℤ) (e : Effect) (c : Conclusion)
      → Ruled L.clock (Some i) (Some d.transaction) e.rejects new (update_continues L i d register k e c new)
  ruled_update_continues register k e HasFailed = ruled_fails k e.rejects
  ruled_update_continues register k e HasSucceeded = ruled_completes register k e.rejects L.record_of
  ruled_update_continues register k e GoesOn = ruled_goes_on e.rejects e.invocations

  ruled_other : (e : Effect) (c : Conclusion) → Ruled L.clock (Some i) (Some d.transaction) e.rejects new (other_continues L i d e c)
  ruled_other e HasFailed = ruled_alone e.rejects _ None _ (does_end i d.transaction e.rejects [])
  ruled_other e HasSucceeded = ruled_alone e.rejects _ None _ (does_end i d.transaction e.rejects [])
  ruled_other e GoesOn = ruled_goes_on e.rejects e.invocations

  ruled_as : (kind : Kind) (e : Effect) → Ruled L.clock (Some i) (Some d.transaction) e.rejects new (continues_as L i d kind e new)
  ruled_as (Updates register k) e = ruled_update_continues register k e e.conclusion
  ruled_as (Cancels vlr attempt cause) e = ruled_other e e.conclusion
  ruled_as Data e = ruled_other e e.conclusion

  pub ruled_continues : (cs : List Component) → Ruled L.clock (Some i) (Some d.transaction) (effect L.clock (offer_to d.kind) d.invocations cs).rejects new
      (continues L i d cs new)
  ruled_continues cs = ruled_as d.kind _

  ruled_sent_expires : (kind : Kind) → Ruled L.clock (Some i) (Some d.transaction) [] new (sent_expires L i d kind new)
  ruled_sent_expires (Updates register k) = ruled_fails k []
  ruled_sent_expires (Cancels vlr attempt cause) = ruled_cancel [] _ _ vlr (attempt + 1) cause (is_repeated L vlr attempt) (does_end i d.transaction [] [])
  ruled_sent_expires Data = ruled_alone [] _ None _ (does_end i d.transaction [] [])

  pub ruled_expires : (j : ℤ) (was : Was) → Ruled L.clock (Some i) (Some d.transaction) [] new (expires L i d j was new)
  ruled_expires j OperationSent = ruled_sent_expires d.kind
  ruled_expires j WaitForReject = ruled_alone [] _ (Some (record d { invocations = without j d.invocations })) [] (λ _. DoesNothing refl refl refl)

-- an operator's changes

module _ (L : Local) (new : List ℕ) where
  -- a dialogue opens with its Begin
  ruled_begin : (after : Option Subscriber) (d : Dialogue) (to : List ℕ) (context : Context) (cs : List SentComponent)
      → d.transaction ≡ record { peer = to; remote = None } → AreInvoked L.clock d.invocations
      → invokes_in cs ≡ map (λ (v : Invocation). v.id) d.invocations
      → Ruled L.clock None None [] new (record { after = after; stays = None; opens = Some d; sent = send to (SentBegin new context cs) })
  ruled_begin after d to context cs t v ids = record {
    first = [];
    second = send to (SentBegin new context cs);
    both = refl;
    named = λ j q kept. absurd (none_some j None refl q);
    opened = λ f q. let P : Dialogue → Type 0 = Opens L.clock new (send to (SentBegin new context cs)) in
        subst P (some_inj d f _ refl q) (record {
          rejects = [];
          does = DoesBegin to context cs
              (ap (λ (u : Transaction). row (Some u) IsSent) (sym t)) refl;
          invoked = v;
          ids = append-nil _ ∙ ids;
        });
    alone = λ q. absurd (none_some d _ q refl);
  }

  ruled_codes : (s : Subscriber) (codes : List ℕ) (g : Option Register) → Ruled L.clock None None [] new (codes_to L s codes new g)
  ruled_codes s codes None = ruled_unchanged L.clock L new None _ refl
  ruled_codes s codes (Some register) = by s.purged
    where
      by : (b : Bool) → Ruled L.clock None None [] new (record {
        after = Some (record s { codes = codes; current = None });
        stays = None;
        opens = cond b None (Some (data_to L register codes));
        sent = cond b [] (send register.vlr (SentBegin new SubscriberDataMngt (inserts (Some L.imsi) s.msisdn codes)));
      })
      by true = ruled_unchanged L.clock L new None _ refl
      by false = ruled_begin _ (data_to L register codes) register.vlr SubscriberDataMngt _ refl (inserts_are_invoked L.clock codes)
          (inserts_have_ids L.clock (Some L.imsi) s.msisdn codes)

  ruled_withdraw : (s : Subscriber) (g : Option Register) → Ruled L.clock None None [] new (withdraw_from L s new g)
  ruled_withdraw s None = ruled_unchanged L.clock L new None _ refl
  ruled_withdraw s (Some register) = ruled_begin _ (cancel L register.vlr 1 SubscriptionWithdraw) register.vlr LocationCancellation _ refl (refl, tt) refl

  pub ruled_changes : (change : Change) (R : Option Subscriber) → Ruled L.clock None None [] new (changes L change R new)
  ruled_changes change None = ruled_unchanged L.clock L new None _ refl
  ruled_changes change (Some s) = by s.withdrawn
    where
      of : (c : Change) → Ruled L.clock None None [] new (change_to L s c new)
      of (Codes codes) = ruled_codes s codes s.register
      of Withdraw = ruled_withdraw s s.register

      by : (b : Bool) → Ruled L.clock None None [] new (cond b (unchanged L []) (change_to L s change new))
      by true = ruled_unchanged L.clock L new None _ refl
      by false = of change
