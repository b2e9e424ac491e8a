-- A Begin is answered by one frame, to its source and with its Rejects.
use Rattle.std.proofs.Common.{◌≡◌, ℕ, ℤ, List, [], ◌∷◌, Bool, true, false, cond, refl, sym, ap, ◌∙◌, subst, Option, Some, None}
use Rattle.machine.specs.Tables.{BeginMoves, IsAnswerTo, rejects_in, rejects_of_begin}
use Rattle.machine.specs.Received.{Argument, BadValue, Begin, Component, Purge, Read, Register, Route, Update}
use Rattle.machine.specs.Begins.{Initiator, end_of_begin, begins, begins_in, begins_named, begun, first_argument, is_allowed, offer_in, procedure, purge, purge_at, update_begins, update_opened}
use Rattle.machine.specs.Contexts.{accepted, refused_name}
use Rattle.machine.specs.Effect.{effect, rejects_after}
use Rattle.machine.specs.Events.{Frame}
use Rattle.machine.specs.Keys.{same}
use Rattle.machine.specs.declared.numbers.TheConstants.{RESOURCE_LIMITATION, ROAMING_NOT_ALLOWED, UNKNOWN_SUBSCRIBER}
use Rattle.machine.specs.Outcome.{Outcome, send, unchanged}
use Rattle.machine.specs.Routing.{route}
use Rattle.machine.specs.Sent.{Cause, Context, NoCause, PurgeResult, Refusing, Rejection, SentAbort, SentComponent, SentEnd, SentError, SentMessage}
use Rattle.machine.specs.State.{Dialogue, Local, State, Subscriber}
use Rattle.machine.specs.Step.{Answer, Full, Moves, Step, Taken, outcome, outcome_in, seen}
use Rattle.machine.specs.Turns.{Begins, Turn, concern}
use Rattle.machine_laws.proofs.Keys.{none_some, some_inj}

-- an outcome that is one answer, and whose dialogue, if one opens, is the asker's
record IsAnswered (from origin : List ℕ) (rejects : List Rejection) (o : Outcome) : Type 0 where
  message : SentMessage
  sent : o.sent ≡ send from message
  answers : IsAnswerTo origin rejects message
  opened : (d : Dialogue) → o.opens ≡ Some d → d.transaction ≡ record { peer = from; remote = Some origin }

module _ (L : Local) (new : List ℕ) where
  aborted : (from origin : List ℕ) (rejects : List Rejection) (message : SentMessage) → IsAnswerTo origin rejects message
      → IsAnswered from origin rejects (unchanged L (send from message))
  aborted from origin rejects message is = record { message = message; sent = refl; answers = is; opened = λ d q. absurd (none_some d None refl q) }

  ended_by : (initiator : Initiator) (components : List SentComponent)
      → IsAnswered initiator.from initiator.origin initiator.rejects (unchanged L (end_of_begin initiator components))
  ended_by initiator components = aborted initiator.from initiator.origin initiator.rejects
      (SentEnd initiator.origin (Some initiator.context) initiator.rejects components) (refl, refl)

  by_update : (initiator : Initiator) (k : ℤ) (register : Register) (R : Option Subscriber)
      → IsAnswered initiator.from initiator.origin initiator.rejects (update_begins L initiator k register R new)
  by_update initiator k register None = ended_by initiator _
  by_update initiator k register (Some s) = by s.withdrawn (is_allowed s.roam register.vlr)
    where
      by : (w t : Bool) → IsAnswered initiator.from initiator.origin initiator.rejects
          (cond w (unchanged L (end_of_begin initiator (SentError k UNKNOWN_SUBSCRIBER ∷ [])))
          (cond t (update_opened L initiator k register s new) (unchanged L (end_of_begin initiator (SentError k ROAMING_NOT_ALLOWED ∷ [])))))
      by true t = ended_by initiator _
      by false false = ended_by initiator _
      by false true = record {
        message = _;
        sent = refl;
        answers = (refl, refl);
        opened = λ d q. sym (ap (λ (f : Dialogue). f.transaction) (some_inj _ d _ refl q));
      }

  by_purge : (initiator : Initiator) (k : ℤ) (vlr : Option (List ℕ)) (R : Option Subscriber)
      → IsAnswered initiator.from initiator.origin initiator.rejects (purge L initiator k vlr R)
  by_purge initiator k None R = ended_by initiator _
  by_purge initiator k (Some v) None = ended_by initiator _
  by_purge initiator k (Some v) (Some s) = by s.withdrawn
    where
      at_register : (g : Option Register) → IsAnswered initiator.from initiator.origin initiator.rejects (purge_at L initiator k s v g)
      at_register None = ended_by initiator _
      at_register (Some g) = of (same g.vlr v)
        where
          of : (b : Bool) → IsAnswered initiator.from initiator.origin initiator.rejects
              (cond b (record {
                after = Some (record s { purged = true });
                stays = None;
                opens = None;
                sent = end_of_begin initiator
                    (PurgeResult k true ∷ []);
              }) (unchanged L (end_of_begin initiator (PurgeResult k false ∷ []))))
          of true = record { message = _; sent = refl; answers = (refl, refl); opened = λ d q. absurd (none_some d None refl q) }
          of false = ended_by initiator _

      by : (b : Bool) → IsAnswered initiator.from initiator.origin initiator.rejects
          (cond b (unchanged L (end_of_begin initiator (SentError k UNKNOWN_SUBSCRIBER ∷ []))) (purge_at L initiator k s v s.register))
      by true = ended_by initiator _
      by false = at_register s.register

  by_procedure : (initiator : Initiator) (k : ℤ) (p : Argument) → IsAnswered initiator.from initiator.origin initiator.rejects (procedure L initiator k p new)
  by_procedure initiator k BadValue = ended_by initiator _
  by_procedure initiator k (Update imsi register) = by_update initiator k register L.record_of
  by_procedure initiator k (Purge imsi vlr) = by_purge initiator k vlr L.record_of
  by_procedure initiator k (Route msisdn) = ended_by initiator _

  by_start : (initiator : Initiator) (s : Option ℤ) (p : Option Argument)
      → IsAnswered initiator.from initiator.origin initiator.rejects (begun L initiator s p new)
  by_start initiator None p = ended_by initiator []
  by_start initiator (Some k) None = ended_by initiator []
  by_start initiator (Some k) (Some p) = by_procedure initiator k p

  by_context : (from origin : List ℕ) (c : Context) (cs : List Component) → IsAnswered from origin (rejects_in (Some c) cs) (begins_in L from origin c cs new)
  unfolding effect
  by_context from origin c [] = aborted from origin [] (SentAbort origin NoCause) refl
  by_context from origin c (k ∷ ks) =
      by_start (record { from = from; origin = origin; context = c; rejects = rejects_after (offer_in c (k ∷ ks)) [] [] (k ∷ ks) })
      (effect L.clock (offer_in c (k ∷ ks)) [] (k ∷ ks)).started (first_argument (k ∷ ks))

  by_name : (from origin name : List ℕ) (c : Option Context) (cs : List Component)
      → IsAnswered from origin (rejects_in c cs) (begins_named L from origin name c cs new)
  by_name from origin name None cs = aborted from origin [] (SentAbort origin (Refusing (refused_name name))) refl
  by_name from origin name (Some c) cs = by_context from origin c cs

  by_begin : (from origin : List ℕ) (name : Option (List ℕ)) (cs : List Component)
      → IsAnswered from origin (rejects_of_begin name cs) (begins L from origin name cs new)
  by_begin from origin None cs = aborted from origin [] (SentAbort origin NoCause) refl
  by_begin from origin (Some name) cs = by_name from origin name (accepted name) cs

pub begins_for : (L : Local) (new from origin : List ℕ) (name : Option (List ℕ)) (cs : List Component) (d : Dialogue)
    → (outcome L (Begins from origin name cs) new).opens ≡ Some d → d.transaction ≡ record { peer = from; remote = Some origin }
begins_for L new from origin name cs d q = (by_begin L new from origin name cs).opened d q

-- the same Begin
same_begin : (from origin : List ℕ) (name : Option (List ℕ)) (cs : List Component) (from' origin' : List ℕ) (name' : Option (List ℕ)) (cs' : List Component)
    → Begins from origin name cs ≡ Begins from' origin' name' cs' → (from ≡ from') × (origin ≡ origin')
same_begin from origin name cs from' origin' name' cs' q = (cc, cc)

pub begin_moves : (S : State) (from origin : List ℕ) (name : Option (List ℕ)) (cs : List Component) (T : State) (a : Answer)
    → Step S (Frame from (Read (Begin origin name cs))) T a → BeginMoves from origin name cs a
begin_moves S from origin name cs T a (Full turn new turns t) =
    let one : (t.from ≡ from) × (t.origin ≡ origin) = same_begin t.from t.origin t.name t.components from origin name cs (sym t.begins ∙ turns) in
    record {
      message = SentAbort t.origin (Cause RESOURCE_LIMITATION);
      sent = t.sent ∙ ap (λ to. send to (SentAbort t.origin (Cause RESOURCE_LIMITATION))) one.0;
      answers = one.1;
    }
begin_moves S from origin name cs T a (Taken turn new turns m) =
    let n = route S.directory (Frame from (Read (Begin origin name cs))) in
    let P : Turn → Type 0 = λ k. Moves S n k new (outcome_in S n k new) T a in
    let w : Moves S n (Begins from origin name cs) new (outcome_in S n (Begins from origin name cs) new) T a = subst P turns m in
    let h = by_begin (seen S n (concern S.directory (Begins from origin name cs))) new from origin name cs in
    record { message = h.message; sent = w.sent ∙ h.sent; answers = h.answers }
