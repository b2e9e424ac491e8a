-- What the scans of the jobs and the receipts find for one number.
use Rattle.std.proofs.Common.{◌≡◌, ℕ, eqb, List, [], ◌∷◌, filter, sym, ap, ◌∙◌, subst, Some, Bool}
use Rattle.std.specs.Prelude.{IsTrue}
use Rattle.frames.specs.Octets.{RawEntry}
use Rattle.frames.specs.Account.{Job, Receipt, Place, Account, Answers}
use Rattle.receipts.specs.Only.{only}
use Rattle.receipts.proofs.Onlys.{only_is}

same_first : {X : Type 0} (xs : List X) (x y : X) → xs ≡ x ∷ [] → xs ≡ y ∷ [] → x ≡ y
same_first xs x y a b = cc

pub accounted : (journals : List (List RawEntry)) (jobs : List Job) (receipts : List Receipt) (n : ℕ) (job : Job) (receipt : Receipt) (place : Place) (b : Bool)
    → Some job ≡ only (filter (λ j. eqb j.number n) jobs) → Some receipt ≡ only (filter (λ r. eqb r.job n) receipts) → receipt.place ≡ Some place
    → (IsTrue b → Answers journals receipts job place) → (Answers journals receipts job place → IsTrue b)
    → (IsTrue b → Account journals jobs receipts n) × (Account journals jobs receipts n → IsTrue b)
accounted journals jobs receipts n job receipt place b one_job one_receipt is_ok true_then then_true =
    let j = only_is (filter (λ (x : Job). eqb x.number n) jobs) job one_job in
    let r = only_is (filter (λ (x : Receipt). eqb x.job n) receipts) receipt one_receipt in (
      (λ h. record {
        job = job;
        receipt = receipt;
        place = place;
        one_job = j;
        one_receipt = r;
        is_ok = is_ok;
        answers = true_then h;
      }),
      λ h.
          let job_is : h.job ≡ job = same_first (filter (λ (x : Job). eqb x.number n) jobs) h.job job h.one_job j in
          let receipt_is : h.receipt ≡ receipt = same_first (filter (λ (x : Receipt). eqb x.job n) receipts) h.receipt receipt h.one_receipt r in
          let oks : Some h.place ≡ Some place = sym h.is_ok ∙ ap (λ (x : Receipt). x.place) receipt_is ∙ is_ok in
          let place_is : h.place ≡ place = cc in
          then_true (subst (λ (p : Job × Place). Answers journals receipts p.0 p.1) (λ i. (job_is i, place_is i)) h.answers),
    )
