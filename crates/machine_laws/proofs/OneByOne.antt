-- One component moves one invocation by a row of its table, and no other.
use Rattle.std.proofs.Common.{◌≡◌, ℕ, ℤ, List, [], ◌∷◌, ◌++◌, Bool, true, false, cond, ◌&&◌, refl, sym, ap, ◌∙◌, subst, ◌⊎◌, inl, inr, Option, Some, None, int_eq}
use Rattle.std.specs.Cmp.{int_eq_equiv}
use Rattle.machine.specs.Received.{Bad, Code, ComponentOf, General, Ignored, Invoke, OfError, OfInvoke, OfResult, Reject, ResultLast, ResultNotLast, ReturnError, Side}
use Rattle.machine.specs.Keys.{Every}
use Rattle.machine.specs.Invocations.{Failed, GetsError, GetsReject, GetsResultLast, GetsResultNotLast, Happening, NoReply, Rejected, Reply, Standing, Succeeded, ends_it, invocation}
use Rattle.machine.specs.State.{Invocation, OperationSent, WaitForReject, Was, is_sent}
use Rattle.machine.specs.Rows.{MovesByRow, happening, is_failed, rejected_by, standing_of}
use Rattle.machine.specs.Effect.{Offer, any_failed, concluded, concluded_by, concludes, concluding, in_sent, invocations_after, is_failure, reject_answer, reject_of}
use Rattle.machine.specs.Sent.{Rejection}
use Rattle.machine.specs.Transactions.{row}
use Rattle.machine_laws.proofs.Keys.{none_some, some_inj}
use Rattle.machine_laws.proofs.Rising.{int_is, IsMap, every_one, every_concluded}

abbrev first_standing : List Invocation → Standing
first_standing [] = None
first_standing (v ∷ vs) = Some (v.was, v.deadline)

standing_past : (j : ℤ) (us ws : List Invocation) → Every (λ (u : Invocation). int_eq u.id j ≡ false) us → standing_of j (us ++ ws) ≡ standing_of j ws
standing_past j [] ws h = refl
standing_past j (u ∷ us) ws h = ap (λ b. cond b (Some (u.was, u.deadline)) (standing_of j (us ++ ws))) h.0 ∙ standing_past j us ws h.1

int_same : (j : ℤ) → int_eq j j ≡ true
int_same j = int_eq_equiv.refl j

other_way : (j i : ℤ) → int_eq i j ≡ false → int_eq j i ≡ false
other_way j i q = int_eq_equiv.symm j i ∙ q

abbrev one_of : ℤ → Was → ℕ → Invocation
one_of j was t = record { id = j; was = was; deadline = t }

module _ {P : Type 0} (now : ℕ) (c : ComponentOf P) (j : ℤ) where
  -- what the component does not conclude stays
  stays_one : (v : Invocation) → concludes v.id c ≡ false → concluded now (c ∷ []) v ≡ v ∷ []
  stays_one v e = by (is_sent v.was)
    where
      by : (b : Bool) → cond b (concluded_by now v (cond (concludes v.id c) (Some c) None)) (v ∷ []) ≡ v ∷ []
      by true = ap (λ t. concluded_by now v (cond t (Some c) None)) e
      by false = refl

  fails_not : (v : Invocation) → concludes v.id c ≡ false → (is_sent v.was && is_failure (concluding v.id (c ∷ []))) ≡ false
  fails_not v e = by (is_sent v.was)
    where
      by : (b : Bool) → (b && is_failure (cond (concludes v.id c) (Some c) None)) ≡ false
      by true = ap (λ t. is_failure (cond t (Some c) None)) e
      by false = refl

  -- an invocation that the component does not name
  pub standing_stays : concludes j c ≡ false → (vs : List Invocation) → standing_of j (invocations_after now (c ∷ []) vs) ≡ standing_of j vs
  standing_stays e [] = refl
  standing_stays e (v ∷ vs) = by (int_eq v.id j) refl (standing_stays e vs)
    where
      here : int_eq v.id j ≡ true → concluded now (c ∷ []) v ≡ v ∷ []
      here q = stays_one v (ap (λ i. concludes i c) (int_is v.id j q) ∙ e)

      by : (b : Bool) → int_eq v.id j ≡ b → standing_of j (invocations_after now (c ∷ []) vs) ≡ standing_of j vs
          → standing_of j (concluded now (c ∷ []) v ++ invocations_after now (c ∷ []) vs) ≡ cond b (Some (v.was, v.deadline)) (standing_of j vs)
      by true q ih = ap (λ us. standing_of j (us ++ invocations_after now (c ∷ []) vs)) (here q)
          ∙ ap (λ b. cond b (Some (v.was, v.deadline)) (standing_of j (invocations_after now (c ∷ []) vs))) q
      by false q ih = standing_past j (concluded now (c ∷ []) v) _ (every_concluded (λ i. int_eq i j ≡ false) now (c ∷ []) v q) ∙ ih

  module _ (hit : Bool) (is_hit : concludes j c ≡ hit) (others : (i : ℤ) → int_eq i j ≡ false → concludes i c ≡ false) where
    -- the invocation is not there
    record Absent (vs : List Invocation) : Type 0 where
      pub before : standing_of j vs ≡ None
      pub sent : in_sent j vs ≡ false
      pub after : standing_of j (invocations_after now (c ∷ []) vs) ≡ None
      pub failed : any_failed (c ∷ []) vs ≡ false

    record Present (vs : List Invocation) : Type 0 where
      pub was : Was
      pub deadline : ℕ
      pub before : standing_of j vs ≡ Some (was, deadline)
      pub sent : in_sent j vs ≡ is_sent was
      pub after : standing_of j (invocations_after now (c ∷ []) vs)
          ≡ first_standing (cond (is_sent was) (concluded_by now (one_of j was deadline) (cond hit (Some c) None)) (one_of j was deadline ∷ []))
      pub failed : any_failed (c ∷ []) vs ≡ (is_sent was && is_failure (cond hit (Some c) None))

    absent : (vs : List Invocation) → Every (λ (u : Invocation). int_eq u.id j ≡ false) vs → Absent vs
    absent [] h = record { before = refl; sent = refl; after = refl; failed = refl }
    absent (v ∷ vs) h =
        let rest : Absent vs = absent vs h.1 in
        record {
          before = ap (λ b. cond b (Some (v.was, v.deadline)) (standing_of j vs)) h.0 ∙ rest.before;
          sent = ap (λ b. cond b (is_sent v.was) (in_sent j vs)) h.0 ∙ rest.sent;
          after = standing_past j (concluded now (c ∷ []) v) _ (every_concluded (λ i. int_eq i j ≡ false) now (c ∷ []) v h.0) ∙ rest.after;
          failed = ap (λ b. cond b true (any_failed (c ∷ []) vs)) (fails_not v (others v.id h.0)) ∙ rest.failed;
        }

    present : (v : Invocation) (vs : List Invocation) → v.id ≡ j → Every (λ (u : Invocation). int_eq u.id j ≡ false) vs → int_eq v.id j ≡ true
        → Present (v ∷ vs)
    present v vs e h q =
        let rest : Absent vs = absent vs h in
        let v_is : v ≡ one_of j v.was v.deadline = (λ k. record { id = e k; was = v.was; deadline = v.deadline }) in
        let concl : concluding v.id (c ∷ []) ≡ cond hit (Some c) None = ap (λ i. concluding i (c ∷ [])) e ∙ ap (λ b. cond b (Some c) None) is_hit in
        record {
          was = v.was;
          deadline = v.deadline;
          before = ap (λ b. cond b (Some (v.was, v.deadline)) (standing_of j vs)) q;
          sent = ap (λ b. cond b (is_sent v.was) (in_sent j vs)) q;
          after = ap (λ us. standing_of j (us ++ invocations_after now (c ∷ []) vs)) (shape v_is concl)
              ∙ first (is_sent v.was) (cond hit (Some c) None) rest.after;
          failed = off (is_sent v.was && is_failure (concluding v.id (c ∷ []))) rest.failed ∙ ap (λ o. is_sent v.was && is_failure o) concl;
        }
      where
        shape : v ≡ one_of j v.was v.deadline → concluding v.id (c ∷ []) ≡ cond hit (Some c) None
            → concluded now (c ∷ []) v ≡ cond (is_sent v.was) (concluded_by now (one_of j v.was v.deadline) (cond hit (Some c) None))
            (one_of j v.was v.deadline ∷ [])
        shape v_is concl = ap (λ o. cond (is_sent v.was) (concluded_by now v o) (v ∷ [])) concl
            ∙ ap (λ u. cond (is_sent v.was) (concluded_by now u (cond hit (Some c) None)) (u ∷ [])) v_is

        off : (b : Bool) → any_failed (c ∷ []) vs ≡ false → cond b true (any_failed (c ∷ []) vs) ≡ b
        off true r = refl
        off false r = r

        named : (u : Invocation) → u.id ≡ j → standing_of j (u ∷ invocations_after now (c ∷ []) vs) ≡ Some (u.was, u.deadline)
        named u r = ap (λ b. cond b (Some (u.was, u.deadline)) (standing_of j (invocations_after now (c ∷ []) vs))) (ap (λ i. int_eq i j) r ∙ int_same j)

        first : (b : Bool) (o : Option (ComponentOf P)) → standing_of j (invocations_after now (c ∷ []) vs) ≡ None
            → standing_of j (cond b (concluded_by now (one_of j v.was v.deadline) o) (one_of j v.was v.deadline ∷ []) ++ invocations_after now (c ∷ []) vs)
            ≡ first_standing (cond b (concluded_by now (one_of j v.was v.deadline) o) (one_of j v.was v.deadline ∷ []))
        first false o r = named (one_of j v.was v.deadline) refl
        first true None r = named (one_of j v.was v.deadline) refl
        first true (Some (Reject id side problem)) r = r
        first true (Some (ResultLast id)) r = named _ refl
        first true (Some (ResultNotLast id)) r = named _ refl
        first true (Some (ReturnError id error)) r = named _ refl
        first true (Some (Invoke id linked operation p)) r = named _ refl
        first true (Some (Bad id problem)) r = named _ refl
        first true (Some Ignored) r = named _ refl

    either : (vs : List Invocation) → IsMap vs → Absent vs ⊎ Present vs
    either [] m = inl (absent [] tt)
    either (v ∷ vs) m = by (int_eq v.id j) refl (either vs m.1)
      where
        by : (b : Bool) → int_eq v.id j ≡ b → Absent vs ⊎ Present vs → Absent (v ∷ vs) ⊎ Present (v ∷ vs)
        by true q ih =
            let e : v.id ≡ j = int_is v.id j q in
            inr (present v vs e (every_one (λ u. int_eq u.id v.id ≡ false) (λ u. int_eq u.id j ≡ false)
            (λ u r. subst (λ i. int_eq u.id i ≡ false) e r) vs m.0) q)
        by false q (inl rest) = inl (record {
          before = ap (λ b. cond b (Some (v.was, v.deadline)) (standing_of j vs)) q ∙ rest.before;
          sent = ap (λ b. cond b (is_sent v.was) (in_sent j vs)) q ∙ rest.sent;
          after = standing_past j (concluded now (c ∷ []) v) _ (every_concluded (λ i. int_eq i j ≡ false) now (c ∷ []) v q) ∙ rest.after;
          failed = ap (λ b. cond b true (any_failed (c ∷ []) vs)) (fails_not v (others v.id q)) ∙ rest.failed;
        })
        by false q (inr rest) = inr (record {
          was = rest.was;
          deadline = rest.deadline;
          before = ap (λ b. cond b (Some (v.was, v.deadline)) (standing_of j vs)) q ∙ rest.before;
          sent = ap (λ b. cond b (is_sent v.was) (in_sent j vs)) q ∙ rest.sent;
          after = standing_past j (concluded now (c ∷ []) v) _ (every_concluded (λ i. int_eq i j ≡ false) now (c ∷ []) v q) ∙ rest.after;
          failed = ap (λ b. cond b true (any_failed (c ∷ []) vs)) (fails_not v (others v.id q)) ∙ rest.failed;
        })

    -- the row, whether the invocation is there or not
    row_of : (offer : Offer) (vs : List Invocation) → IsMap vs → (x : Happening) (reply : Was → Reply) (idle : Reply) (rejects : Bool → List Rejection)
        → ((was : Was) (t : ℕ) → invocation (Some (was, t)) x now
        ≡ Some (first_standing (cond (is_sent was) (concluded_by now (one_of j was t) (cond hit (Some c) None)) (one_of j was t ∷ [])), reply was))
        → invocation None x now ≡ Some (None, idle)
        → reject_of offer vs [] c ≡ rejects (in_sent j vs) → ((was : Was) → rejects (is_sent was) ≡ rejected_by j (reply was))
        → rejects false ≡ rejected_by j idle
        → ((was : Was) → (is_sent was && is_failure (cond hit (Some c) None)) ≡ is_failed (reply was)) → false ≡ is_failed idle
        → MovesByRow now offer vs c j x
    row_of offer vs m x reply idle rejects moves rests is rejects_there rejects_idle fails fails_idle = go (either vs m)
      where
        go : Absent vs ⊎ Present vs → MovesByRow now offer vs c j x
        go (inl a) = record {
          reply = idle;
          row = ap (λ s. invocation s x now) a.before ∙ rests ∙ ap (λ s. Some (s, idle)) (sym a.after);
          rejects = is ∙ ap rejects a.sent ∙ rejects_idle;
          failed = a.failed ∙ fails_idle;
        }
        go (inr p) = record {
          reply = reply p.was;
          row = ap (λ s. invocation s x now) p.before ∙ moves p.was p.deadline ∙ ap (λ s. Some (s, reply p.was)) (sym p.after);
          rejects = is ∙ ap rejects p.sent ∙ rejects_there p.was;
          failed = p.failed ∙ fails p.was;
        }

-- the rows, by component

abbrev last_reply : Was → Reply
last_reply OperationSent = Succeeded
last_reply WaitForReject = Rejected OfResult

abbrev error_reply : Was → Reply
error_reply OperationSent = Failed
error_reply WaitForReject = Rejected OfError

abbrev part_reply : Was → Reply
part_reply OperationSent = NoReply
part_reply WaitForReject = Rejected OfResult

abbrev reject_reply : Side → Was → Reply
reject_reply General OperationSent = Failed
reject_reply OfInvoke OperationSent = Failed
reject_reply side was = NoReply

none_happens : (x : Happening) (Q : Type 0) → None ≡ Some x → Q
none_happens x Q e = absurd (none_some x None refl e)

module _ {P : Type 0} (now : ℕ) (offer : Offer) (vs : List Invocation) (m : IsMap vs) (j : ℤ) where
  row_last : MovesByRow {P = P} now offer vs (ResultLast j) j GetsResultLast
  row_last = row_of {P = P} now (ResultLast j) j true (int_same j) (other_way j) offer vs m GetsResultLast last_reply (Rejected OfResult)
      (λ b. reject_answer j OfResult (b && true)) moves refl refl there refl fails refl
    where
      moves : (was : Was) (t : ℕ) → invocation (Some (was, t)) GetsResultLast now
          ≡ Some (first_standing (cond (is_sent was) (concluded_by {P = P} now (one_of j was t) (Some (ResultLast j))) (one_of j was t ∷ [])), last_reply was)
      moves OperationSent t = refl
      moves WaitForReject t = refl

      there : (was : Was) → reject_answer j OfResult (is_sent was && true) ≡ rejected_by j (last_reply was)
      there OperationSent = refl
      there WaitForReject = refl

      fails : (was : Was) → (is_sent was && false) ≡ is_failed (last_reply was)
      fails OperationSent = refl
      fails WaitForReject = refl

  row_error : (error : Code) → MovesByRow {P = P} now offer vs (ReturnError j error) j GetsError
  row_error error = row_of {P = P} now (ReturnError j error) j true (int_same j) (other_way j) offer vs m GetsError error_reply (Rejected OfError)
      (λ b. reject_answer j OfError (b && true)) moves refl refl there refl fails refl
    where
      moves : (was : Was) (t : ℕ) → invocation (Some (was, t)) GetsError now
          ≡ Some (
            first_standing (cond (is_sent was) (concluded_by {P = P} now (one_of j was t) (Some (ReturnError j error)))
                (one_of j was t ∷ [])),
            error_reply was,
          )
      moves OperationSent t = refl
      moves WaitForReject t = refl

      there : (was : Was) → reject_answer j OfError (is_sent was && true) ≡ rejected_by j (error_reply was)
      there OperationSent = refl
      there WaitForReject = refl

      fails : (was : Was) → (is_sent was && true) ≡ is_failed (error_reply was)
      fails OperationSent = refl
      fails WaitForReject = refl

  row_not_last : MovesByRow {P = P} now offer vs (ResultNotLast j) j GetsResultNotLast
  row_not_last = row_of {P = P} now (ResultNotLast j) j false refl (λ i q. refl) offer vs m GetsResultNotLast part_reply (Rejected OfResult)
      (λ b. reject_answer j OfResult (b && true)) moves refl refl there refl fails refl
    where
      moves : (was : Was) (t : ℕ) → invocation (Some (was, t)) GetsResultNotLast now
          ≡ Some (first_standing (cond (is_sent was) (concluded_by {P = P} now (one_of j was t) None) (one_of j was t ∷ [])), part_reply was)
      moves OperationSent t = refl
      moves WaitForReject t = refl

      there : (was : Was) → reject_answer j OfResult (is_sent was && true) ≡ rejected_by j (part_reply was)
      there OperationSent = refl
      there WaitForReject = refl

      fails : (was : Was) → (is_sent was && false) ≡ is_failed (part_reply was)
      fails OperationSent = refl
      fails WaitForReject = refl

  row_reject : (side : Side) (problem : ℕ) → MovesByRow {P = P} now offer vs (Reject (Some j) side problem) j (GetsReject side)
  row_reject side problem = row_of {P = P} now (Reject (Some j) side problem) j (ends_it side) (ap (λ b. b && ends_it side) (int_same j))
      (λ i q. ap (λ b. b && ends_it side) (other_way j i q)) offer vs m (GetsReject side) (reject_reply side) NoReply (λ b. []) (moves side) refl refl
      (there side) refl (fails side) refl
    where
      moves : (side : Side) (was : Was) (t : ℕ) → invocation (Some (was, t)) (GetsReject side) now
          ≡ Some (
            first_standing (cond (is_sent was) (concluded_by {P = P} now (one_of j was t)
                (cond (ends_it side) (Some (Reject (Some j) side problem)) None)) (one_of j was t ∷ [])),
            reject_reply side was,
          )
      moves General OperationSent t = refl
      moves OfInvoke OperationSent t = refl
      moves OfResult OperationSent t = refl
      moves OfError OperationSent t = refl
      moves General WaitForReject t = refl
      moves OfInvoke WaitForReject t = refl
      moves OfResult WaitForReject t = refl
      moves OfError WaitForReject t = refl

      there : (side : Side) (was : Was) → [] ≡ rejected_by j (reject_reply side was)
      there General OperationSent = refl
      there OfInvoke OperationSent = refl
      there OfResult OperationSent = refl
      there OfError OperationSent = refl
      there General WaitForReject = refl
      there OfInvoke WaitForReject = refl
      there OfResult WaitForReject = refl
      there OfError WaitForReject = refl

      fails : (side : Side) (was : Was) → (is_sent was && is_failure {P = P} (cond (ends_it side) (Some (Reject (Some j) side problem)) None))
          ≡ is_failed (reject_reply side was)
      fails General OperationSent = refl
      fails OfInvoke OperationSent = refl
      fails OfResult OperationSent = refl
      fails OfError OperationSent = refl
      fails General WaitForReject = refl
      fails OfInvoke WaitForReject = refl
      fails OfResult WaitForReject = refl
      fails OfError WaitForReject = refl

  -- the component whose id this is
  by_id : (id : ℤ) (y x : Happening) (C : ℤ → ComponentOf P) → MovesByRow {P = P} now offer vs (C j) j y → cond (int_eq id j) (Some y) None ≡ Some x
      → MovesByRow {P = P} now offer vs (C id) j x
  by_id id y x C row h = go (int_eq id j) refl h
    where
      go : (b : Bool) → int_eq id j ≡ b → cond b (Some y) None ≡ Some x → MovesByRow {P = P} now offer vs (C id) j x
      go true q e =
          let here : MovesByRow {P = P} now offer vs (C j) j x = subst (λ z. MovesByRow {P = P} now offer vs (C j) j z) (some_inj y x _ refl e) row in
          subst (λ i. MovesByRow {P = P} now offer vs (C i) j x) (sym (int_is id j q)) here
      go false q e = none_happens x _ e

  pub moves_by_row : (c : ComponentOf P) (x : Happening) → happening j c ≡ Some x → MovesByRow now offer vs c j x
  moves_by_row (ResultLast id) x h = by_id id GetsResultLast x (λ i. ResultLast i) row_last h
  moves_by_row (ResultNotLast id) x h = by_id id GetsResultNotLast x (λ i. ResultNotLast i) row_not_last h
  moves_by_row (ReturnError id error) x h = by_id id GetsError x (λ i. ReturnError i error) (row_error error) h
  moves_by_row (Reject (Some id) side problem) x h = by_id id (GetsReject side) x (λ i. Reject (Some i) side problem) (row_reject side problem) h
  moves_by_row (Reject None side problem) x h = none_happens x _ h
  moves_by_row (Invoke id linked operation p) x h = none_happens x _ h
  moves_by_row (Bad id problem) x h = none_happens x _ h
  moves_by_row Ignored x h = none_happens x _ h

-- a component that means nothing for an invocation does not conclude it
not_concluded : {P : Type 0} (j : ℤ) (c : ComponentOf P) → happening j c ≡ None → concludes j c ≡ false
not_concluded j (ResultLast id) h = of (int_eq id j) GetsResultLast h
  where
    of : (b : Bool) (y : Happening) → cond b (Some y) None ≡ None → b ≡ false
    of true y e = absurd (none_some y _ e refl)
    of false y e = refl
not_concluded j (ReturnError id error) h = of (int_eq id j) GetsError h
  where
    of : (b : Bool) (y : Happening) → cond b (Some y) None ≡ None → b ≡ false
    of true y e = absurd (none_some y _ e refl)
    of false y e = refl
not_concluded j (Reject (Some id) side problem) h = of (int_eq id j) h
  where
    of : (b : Bool) → cond b (Some (GetsReject side)) None ≡ None → b && ends_it side ≡ false
    of true e = absurd (none_some (GetsReject side) _ e refl)
    of false e = refl
not_concluded j (ResultNotLast id) h = refl
not_concluded j (Reject None side problem) h = refl
not_concluded j (Invoke id linked operation p) h = refl
not_concluded j (Bad id problem) h = refl
not_concluded j Ignored h = refl

pub other_standing : {P : Type 0} (now : ℕ) (vs : List Invocation) (c : ComponentOf P) (j : ℤ) → happening j c ≡ None
    → standing_of j (invocations_after now (c ∷ []) vs) ≡ standing_of j vs
other_standing now vs c j h = standing_stays now c j (not_concluded j c h) vs
