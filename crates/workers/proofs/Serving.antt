-- What a worker's pass has taken, from message to message.
use Rattle.std.proofs.Common.{◌≡◌, ℕ, ◌+◌, Bool, true, false, true≢false, List, [], ◌∷◌, ◌++◌, map, sym, refl, ap, ◌∙◌, append_assoc, append-nil, subst, Result, Ok, Err, arith, zero-add}
use Rattle.std.specs.Prelude.{OnOk, OnErr}
use Rattle.std.specs.Result.{is_err}
use Rattle.frames.specs.Account.{Job}
use Rattle.workers.specs.declared.lot.Lot.{Lot}
use Rattle.workers.specs.declared.rule.Work.{Work}
use Rattle.workers.specs.declared.rule.Work.TheVariants.{Do, Stop}
use Rattle.workers.specs.declared.rule.Hand.{Hand}
use Rattle.workers.specs.Hands.{hand}
use Rattle.workers.specs.Lots.{jobs_at}
use Rattle.workers.specs.Batch.{numbers_of, stops_in, HasTaken}

pub numbers_of-append : (jobs : List Job) (xs ys : List Work) → numbers_of jobs (xs ++ ys) ≡ numbers_of jobs xs ++ numbers_of jobs ys
numbers_of-append jobs [] ys = refl
numbers_of-append jobs (Do lot ∷ xs) ys =
    let ns : List ℕ = map (λ j. j.number) (jobs_at jobs lot) in
    ap (λ l. ns ++ l) (numbers_of-append jobs xs ys) ∙ sym (append_assoc ns (numbers_of jobs xs) (numbers_of jobs ys))
numbers_of-append jobs (Stop ∷ xs) ys = numbers_of-append jobs xs ys

pub stops_in-append : (xs ys : List Work) → stops_in (xs ++ ys) ≡ stops_in xs + stops_in ys
stops_in-append [] ys = sym (zero-add (stops_in ys))
stops_in-append (Do lot ∷ xs) ys = stops_in-append xs ys
stops_in-append (Stop ∷ xs) ys = let rest = stops_in-append xs ys in omega arith

pub begins : (jobs : List Job) → HasTaken jobs 0 (hand false 1 [] []) [] false
begins jobs = record { own = refl; stopped = refl; answered = (([], refl), λ _. refl) }

-- the view after x was taken
after : (v w : Hand) (x : Work) → v ≡ hand false 1 [] v.taken → w ≡ hand v.sends v.shares v.sent (v.taken ++ x ∷ [])
    → (w ≡ hand false 1 [] w.taken) × (w.taken ≡ v.taken ++ x ∷ [])
after v w x only is =
    let taken : w.taken ≡ v.taken ++ x ∷ [] = ap (λ (u : Hand). u.taken) is in
    let same : hand v.sends v.shares v.sent (v.taken ++ x ∷ []) ≡ hand false 1 [] (v.taken ++ x ∷ []) = ap
    (λ (u : Hand). hand u.sends u.shares u.sent (v.taken ++ x ∷ [])) only in
    (is ∙ same ∙ ap (hand false 1 []) (sym taken), taken)

-- a `Stop` was taken
pub stopped : (jobs : List Job) (stops : ℕ) (v w : Hand) (x : Work) (receipts : List ℕ) (refused : Bool) → HasTaken jobs stops v receipts refused
    → w ≡ hand v.sends v.shares v.sent (v.taken ++ x ∷ []) → x ≡ Stop → HasTaken jobs (stops + 1) w receipts refused
stopped jobs stops v w x receipts refused h is stop =
    let now = after v w Stop h.own (is ∙ ap (λ y. hand v.sends v.shares v.sent (v.taken ++ y ∷ [])) stop) in
    let numbers : numbers_of jobs w.taken ≡ numbers_of jobs v.taken = ap (numbers_of jobs) now.1
    ∙ numbers_of-append jobs v.taken (Stop ∷ []) ∙ append-nil (numbers_of jobs v.taken) in
    record {
      own = now.0;
      stopped = let a = ap stops_in now.1 in let b = stops_in-append v.taken (Stop ∷ []) in let c = h.stopped in omega arith;
      answered = ((h.answered.0.0, numbers ∙ h.answered.0.1), λ fine. h.answered.1 fine ∙ sym numbers);
    }

-- the numbers after a lot was taken
with_lot : (jobs : List Job) (v w : Hand) (lot : Lot) → w.taken ≡ v.taken ++ Do lot ∷ []
    → numbers_of jobs w.taken ≡ numbers_of jobs v.taken ++ map (λ j. j.number) (jobs_at jobs lot)
with_lot jobs v w lot now =
    ap (numbers_of jobs) now ∙ numbers_of-append jobs v.taken (Do lot ∷ [])
    ∙ ap (λ l. numbers_of jobs v.taken ++ l) (append-nil (map (λ j. j.number) (jobs_at jobs lot)))

-- a lot was taken, and there is no memory for its receipts
pub passed : (jobs : List Job) (stops : ℕ) (v w : Hand) (x : Work) (lot : Lot) (receipts : List ℕ) (refused : Bool) → HasTaken jobs stops v receipts refused
    → w ≡ hand v.sends v.shares v.sent (v.taken ++ x ∷ []) → x ≡ Do lot → HasTaken jobs stops w receipts true
passed jobs stops v w x lot receipts refused h is does =
    let now = after v w (Do lot) h.own (is ∙ ap (λ y. hand v.sends v.shares v.sent (v.taken ++ y ∷ [])) does) in
    let more : List ℕ = map (λ j. j.number) (jobs_at jobs lot) in
    record {
      own = now.0;
      stopped = let a = ap stops_in now.1 in let b = stops_in-append v.taken (Do lot ∷ []) in let c = h.stopped in omega arith;
      answered = (
        (h.answered.0.0 ++ more, with_lot jobs v w lot now.1 ∙ ap (λ l. l ++ more) h.answered.0.1 ∙ append_assoc receipts h.answered.0.0 more),
        λ fine. absurd (true≢false fine),
      );
    }

-- a lot was taken, and its jobs have their receipts
pub received : (jobs : List Job) (stops : ℕ) (v w : Hand) (x : Work) (lot : Lot) (receipts : List ℕ) → HasTaken jobs stops v receipts false
    → w ≡ hand v.sends v.shares v.sent (v.taken ++ x ∷ []) → x ≡ Do lot → HasTaken jobs stops w (receipts ++ map (λ j. j.number) (jobs_at jobs lot)) false
received jobs stops v w x lot receipts h is does =
    let now = after v w (Do lot) h.own (is ∙ ap (λ y. hand v.sends v.shares v.sent (v.taken ++ y ∷ [])) does) in
    let more : List ℕ = map (λ j. j.number) (jobs_at jobs lot) in
    let all : receipts ++ more ≡ numbers_of jobs w.taken = ap (λ l. l ++ more) (h.answered.1 refl) ∙ sym (with_lot jobs v w lot now.1) in
    record {
      own = now.0;
      stopped = let a = ap stops_in now.1 in let b = stops_in-append v.taken (Do lot ∷ []) in let c = h.stopped in omega arith;
      answered = (([], sym all ∙ sym (append-nil (receipts ++ more))), λ _. all);
    }

-- a lot was taken, and its jobs have their receipts, or there is no memory for these
pub answered : {A E : Type 0} (result : Result A E) (jobs these : List Job) (v w : Hand) (x : Work) (lot : Lot) (before after : List ℕ) (was refused : Bool)
    → these ≡ jobs_at jobs lot → HasTaken jobs 0 v before was → was ≡ false → w ≡ hand v.sends v.shares v.sent (v.taken ++ x ∷ []) → x ≡ Do lot
    → OnOk result (after ≡ before ++ map (λ j. j.number) these) → OnErr result (after ≡ before) → refused ≡ is_err result → HasTaken jobs 0 w after refused
answered (Ok _) jobs these v w x lot before after was refused of h fine is does ok err now =
    let done = received jobs 0 v w x lot before (subst (HasTaken jobs 0 v before) fine h) is does in
    let mine : after ≡ before ++ map (λ j. j.number) (jobs_at jobs lot) = ok ∙ ap (λ (l : List Job). before ++ map (λ j. j.number) l) of in
    subst (λ (r : List ℕ × Bool). HasTaken jobs 0 w r.0 r.1) (λ i. (sym mine i, sym now i)) done
answered (Err _) jobs these v w x lot before after was refused of h fine is does ok err now =
    subst (λ (r : List ℕ × Bool). HasTaken jobs 0 w r.0 r.1) (λ i. (sym err i, sym now i)) (passed jobs 0 v w x lot before was h is does)
