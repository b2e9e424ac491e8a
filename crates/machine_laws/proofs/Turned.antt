-- An entry with a subject sends an Abort with cause 4 only if an update met a full shard.
use Rattle.std.proofs.Common.{◌≡◌, ℕ, ℤ, List, [], ◌∷◌, ◌++◌, Bool, true, false, cond, ◌&&◌, refl, sym, ap, ◌∙◌, subst, Option, Some, None}
use Rattle.std.proofs.lemmas.Bool.{both_ways, and_parts}
use Rattle.machine.specs.Step.{Answer, Full, Step, Taken, outcome, seen}
use Rattle.machine.specs.Received.{Argument, BadValue, Component, Purge, Register, Route, Update}
use Rattle.machine.specs.Begins.{Initiator, end_of_begin, begins, begins_in, begins_named, begun, is_allowed, procedure, purge, purge_at, update_begins, update_opened}
use Rattle.machine.specs.Turns.{Begins, Changes, Closes, Continues, Dismissed, Expires, Ticks, Turn, concern}
use Rattle.machine.specs.Sent.{CancellationType, Context, PurgeResult, Rejection, SentBegin, SentComponent, SentError, SubscriberDataMngt, UpdateProcedure, UpdateResult}
use Rattle.machine.specs.State.{Cancels, Data, Dialogue, Kind, Local, OperationSent, State, Subscriber, Transaction, Updates, WaitForReject, Was}
use Rattle.machine.specs.Events.{Change, Codes, Event, Withdraw}
use Rattle.machine.specs.Effect.{Conclusion, Effect, GoesOn, HasFailed, HasSucceeded, effect}
use Rattle.machine.specs.Isolation.{MetFullShard, is_turned_away}
use Rattle.machine.specs.Outcome.{Outcome, cancel_begin, continue_in_dialogue, end_in_dialogue, inserts, is_marked, send, unchanged}
use Rattle.machine.specs.Contexts.{accepted}
use Rattle.machine.specs.Changes.{change_to, changes, codes_to, withdraw_from}
use Rattle.machine.specs.Dialogues.{continues_as, offer_to, other_continues, update_completes, update_continues, update_done}
use Rattle.machine.specs.Expiries.{expires, is_repeated, sent_expires}
use Rattle.machine.specs.Holders.{is_subject}
use Rattle.machine.specs.declared.numbers.TheConstants.{ROAMING_NOT_ALLOWED, SYSTEM_FAILURE}
use Rattle.machine.specs.Routing.{route}
use Rattle.machine.specs.Keys.{same}
use Rattle.machine_laws.proofs.Keys.{none_some, same_is}
use Rattle.machine_laws.proofs.Refusing.{away_is}
use Rattle.machine_laws.proofs.Subjects.{subject_concern}

-- either way of a test
either : (P : Outcome → Type 0) (b : Bool) (o p : Outcome) → P o → P p → P (cond b o p)
either P true o p h g = h
either P false o p h g = g

abbrev Still : Outcome → Type 0
Still o = is_turned_away o.sent ≡ false

module _ (L : Local) (new : List ℕ) where
  still_update : (a : Initiator) (k : ℤ) (reg : Register) (R : Option Subscriber) → Still (update_begins L a k reg R new)
  still_update a k reg None = refl
  still_update a k reg (Some s) = either Still s.withdrawn _ _ refl
      (either Still (is_allowed s.roam reg.vlr) (update_opened L a k reg s new)
      (unchanged L (end_of_begin a (SentError k ROAMING_NOT_ALLOWED ∷ []))) refl refl)

  still_purge : (a : Initiator) (k : ℤ) (vlr : Option (List ℕ)) (R : Option Subscriber) → Still (purge L a k vlr R)
  still_purge a k None R = refl
  still_purge a k (Some vlr) None = refl
  still_purge a k (Some vlr) (Some s) = either Still s.withdrawn _ _ refl (at_register s.register)
    where
      at_register : (g : Option Register) → Still (purge_at L a k s vlr g)
      at_register None = refl
      at_register (Some reg) = either Still (same reg.vlr vlr) _ (unchanged L (end_of_begin a (PurgeResult k false ∷ []))) refl refl

  still_procedure : (a : Initiator) (k : ℤ) (p : Argument) → Still (procedure L a k p new)
  still_procedure a k (Update imsi reg) = still_update a k reg L.record_of
  still_procedure a k (Purge imsi vlr) = still_purge a k vlr L.record_of
  still_procedure a k (Route msisdn) = refl
  still_procedure a k BadValue = refl

  still_begun : (a : Initiator) (s : Option ℤ) (p : Option Argument) → Still (begun L a s p new)
  still_begun a None p = refl
  still_begun a (Some k) None = refl
  still_begun a (Some k) (Some p) = still_procedure a k p

  still_begins_in : (from r : List ℕ) (c : Context) (cs : List Component) → Still (begins_in L from r c cs new)
  still_begins_in from r c [] = refl
  still_begins_in from r c (k ∷ ks) = still_begun _ _ _

  still_named : (from r name : List ℕ) (c : Option Context) (cs : List Component) → Still (begins_named L from r name c cs new)
  still_named from r name None cs = refl
  still_named from r name (Some c) cs = still_begins_in from r c cs

  still_begins : (from r : List ℕ) (p : Option (List ℕ)) (cs : List Component) → Still (begins L from r p cs new)
  still_begins from r None cs = refl
  still_begins from r (Some name) cs = still_named from r name (accepted name) cs

  still_ended : (t : Transaction) (q : Option (List ℕ)) (rejects : List Rejection) (cs : List SentComponent)
      → is_turned_away (end_in_dialogue t q rejects cs) ≡ false
  still_ended t None rejects cs = refl
  still_ended t (Some r) rejects cs = refl

  still_then : (t : Transaction) (q : Option (List ℕ)) (rejects : List Rejection) (cs : List SentComponent) (vlr : List ℕ) (cancellation : CancellationType)
      (b : Bool) → (is_turned_away (end_in_dialogue t q rejects cs ++ cond b [] (cancel_begin L vlr cancellation new)) ≡ false)
      × (is_turned_away (end_in_dialogue t q rejects cs ++ cond b (cancel_begin L vlr cancellation new) []) ≡ false)
  still_then t None rejects cs vlr cancellation true = (refl, refl)
  still_then t None rejects cs vlr cancellation false = (refl, refl)
  still_then t (Some r) rejects cs vlr cancellation b = (refl, refl)

  still_continued : (i : List ℕ) (t : Transaction) (q : Option (List ℕ)) (rejects : List Rejection)
      → is_turned_away (continue_in_dialogue i t q rejects) ≡ false
  still_continued i t q [] = refl
  still_continued i t None (r ∷ rs) = refl
  still_continued i t (Some s) (r ∷ rs) = refl

  still_completes : (i : List ℕ) (d : Dialogue) (reg : Register) (k : ℤ) (rejects : List Rejection) (R : Option Subscriber)
      → Still (update_completes L i d reg k rejects new R)
  still_completes i d reg k rejects None = still_ended d.transaction d.transaction.remote rejects (SentError k SYSTEM_FAILURE ∷ [])
  still_completes i d reg k rejects (Some s) = either Still (is_marked s.current i) _ _ (done s.register)
      (still_ended d.transaction d.transaction.remote rejects (SentError k SYSTEM_FAILURE ∷ []))
    where
      done : (g : Option Register) → Still (update_done L reg s (end_in_dialogue d.transaction d.transaction.remote rejects (UpdateResult k L.hlr ∷ [])) new g)
      done None = still_ended d.transaction d.transaction.remote rejects (UpdateResult k L.hlr ∷ [])
      done (Some old) = (still_then d.transaction d.transaction.remote rejects (UpdateResult k L.hlr ∷ []) old.vlr UpdateProcedure (same old.vlr reg.vlr)).0

  still_part : (i : List ℕ) (d : Dialogue) (kind : Kind) (e : Effect) → Still (continues_as L i d kind e new)
  still_part i d (Updates reg k) e = by e.conclusion
    where
      by : (c : Conclusion) → Still (update_continues L i d reg k e c new)
      by HasFailed = still_ended d.transaction d.transaction.remote e.rejects (SentError k SYSTEM_FAILURE ∷ [])
      by HasSucceeded = still_completes i d reg k e.rejects L.record_of
      by GoesOn = still_continued i d.transaction d.transaction.remote e.rejects
  still_part i d (Cancels vlr attempt cancellation) e = by e.conclusion
    where
      by : (c : Conclusion) → Still (other_continues L i d e c)
      by HasFailed = still_ended d.transaction d.transaction.remote e.rejects []
      by HasSucceeded = still_ended d.transaction d.transaction.remote e.rejects []
      by GoesOn = still_continued i d.transaction d.transaction.remote e.rejects
  still_part i d Data e = by e.conclusion
    where
      by : (c : Conclusion) → Still (other_continues L i d e c)
      by HasFailed = still_ended d.transaction d.transaction.remote e.rejects []
      by HasSucceeded = still_ended d.transaction d.transaction.remote e.rejects []
      by GoesOn = still_continued i d.transaction d.transaction.remote e.rejects

  still_expires : (i : List ℕ) (d : Dialogue) (j : ℤ) (was : Was) → Still (expires L i d j was new)
  still_expires i d j WaitForReject = refl
  still_expires i d j OperationSent = by d.kind
    where
      by : (kind : Kind) → Still (sent_expires L i d kind new)
      by (Updates reg k) = still_ended d.transaction d.transaction.remote [] (SentError k SYSTEM_FAILURE ∷ [])
      by (Cancels vlr attempt cancellation) = (still_then d.transaction d.transaction.remote [] [] vlr cancellation (is_repeated L vlr attempt)).1
      by Data = still_ended d.transaction d.transaction.remote [] []

  still_changes : (c : Change) (R : Option Subscriber) → Still (changes L c R new)
  still_changes c None = refl
  still_changes c (Some s) = either Still s.withdrawn _ _ refl (of c)
    where
      codes : (cs : List ℕ) (g : Option Register) → Still (codes_to L s cs new g)
      codes cs None = refl
      codes cs (Some reg) = by s.purged
        where
          by : (b : Bool) → is_turned_away (cond b [] (send reg.vlr (SentBegin new SubscriberDataMngt (inserts (Some L.imsi) s.msisdn cs)))) ≡ false
          by true = refl
          by false = refl

      gone : (g : Option Register) → Still (withdraw_from L s new g)
      gone None = refl
      gone (Some reg) = refl

      of : (k : Change) → Still (change_to L s k new)
      of (Codes cs) = codes cs s.register
      of Withdraw = gone s.register

  -- with a subscriber
  pub still : (directory : List ℕ → Option (List ℕ)) (turn : Turn) (x : List ℕ) → concern directory turn ≡ Some x → Still (outcome L turn new)
  still directory (Dismissed out) x c = absurd (none_some x None refl c)
  still directory (Ticks n now) x c = absurd (none_some x None refl c)
  still directory (Begins from r p cs) x c = still_begins from r p cs
  still directory (Continues i d cs) x c = still_part i d d.kind (effect L.clock (offer_to d.kind) d.invocations cs)
  still directory (Closes i d) x c = refl
  still directory (Expires i d j was) x c = still_expires i d j was
  still directory (Changes y k) x c = still_changes k L.record_of

-- an answer that says so is that of an update of its subject in a full shard
pub turned_exact : (S : State) (e : Event) (T : State) (a : Answer) (x : List ℕ) → Step S e T a → is_subject x a.subject && is_turned_away a.sent ≡ true
    → MetFullShard S e T a x
turned_exact S e T a x (Taken turn new c m) h =
    let p : (is_subject x a.subject ≡ true) × (is_turned_away a.sent ≡ true) = and_parts _ _ h in
    let y : concern S.directory turn ≡ Some x = subject_concern S x turn (sym (ap (λ o. is_subject x o) m.subject) ∙ p.0) in
    absurd (both_ways _ (ap (λ o. is_turned_away o) m.sent ∙ still (seen S (route S.directory e) (concern S.directory turn)) new S.directory turn x y) p.1)
turned_exact S e T a x (Full turn new c t) h =
    let away : (y : List ℕ) × MetFullShard S e T a y × (is_turned_away a.sent ≡ true) = away_is S e turn new T a c t in
    let same_one : away.0 ≡ x = same_is away.0 x (sym (ap (λ o. is_subject x o) away.1.subject) ∙ (and_parts _ _ h).0) in
    subst (λ (y : List ℕ). MetFullShard S e T a y) same_one away.1
