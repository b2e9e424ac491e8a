-- Jobs and receipts in pairs account for their numbers.
use Rattle.std.proofs.Common.{◌≡◌, ℕ, zero, suc, ◌+◌, ◌<◌, eqb, cond, Bool, true, false, true≢false, List, [], ◌∷◌, ◌++◌, length, map, filter, take, drop, get_or, sym, refl, ap, ap₂, ◌∙◌, subst, arith}
use Rattle.std.specs.Prelude.{All}
use Rattle.std.proofs.lemmas.List.{take-append-drop, take_more}
use Rattle.std.proofs.lemmas.List.Elements.{All-append}
use Rattle.frames.specs.Octets.{RawEntry}
use Rattle.frames.specs.Account.{Job, Receipt, Account, Reconciles}
use Rattle.receipts.specs.Numbers.{AreApart}
use Rattle.receipts.specs.Pairs.{IsPair, ArePairs, EachNamedOnce}
use Rattle.frames_laws.proofs.Counts.{count, one_at, count-cons, one_at-same}

abbrev number_of : Job → ℕ
number_of j = j.number

abbrev job_of : Receipt → ℕ
job_of r = r.job

abbrev jobs_at : ℕ → List Job → List Job
jobs_at n jobs = filter (λ j. eqb j.number n) jobs

abbrev receipts_at : ℕ → List Receipt → List Receipt
receipts_at n receipts = filter (λ r. eqb r.job n) receipts

-- how many jobs have a number
length_put : (n : ℕ) (j : Job) (jobs : List Job) (b : Bool) → eqb j.number n ≡ b → length (jobs_at n jobs) ≡ count n (map number_of jobs)
    → length (jobs_at n (j ∷ jobs)) ≡ count n (map number_of (j ∷ jobs))
length_put n j jobs true is rest =
    let a = count-cons n j.number (map number_of jobs) in let one : one_at n j.number ≡ 1 = ap (λ b. cond b 1 0) is in
    let b : length (jobs_at n (j ∷ jobs)) ≡ suc (length (jobs_at n jobs)) = ap (λ c. length (cond c (j ∷ jobs_at n jobs) (jobs_at n jobs))) is in omega arith
length_put n j jobs false is rest =
    let a = count-cons n j.number (map number_of jobs) in let none : one_at n j.number ≡ 0 = ap (λ b. cond b 1 0) is in
    let b : length (jobs_at n (j ∷ jobs)) ≡ length (jobs_at n jobs) = ap (λ c. length (cond c (j ∷ jobs_at n jobs) (jobs_at n jobs))) is in omega arith

length_at : (n : ℕ) (jobs : List Job) → length (jobs_at n jobs) ≡ count n (map number_of jobs)
length_at n [] = refl
length_at n (j ∷ jobs) = length_put n j jobs (eqb j.number n) refl (length_at n jobs)

-- a number of a list is counted there
counted_at : (ns : List ℕ) (k d : ℕ) → k < length ns → 0 < count (get_or ns k d) ns
counted_at [] k d low = absurd (omega arith)
counted_at (n ∷ ns) zero d low = let a = count-cons n n ns in let b = one_at-same n in omega arith
counted_at (n ∷ ns) (suc k) d low = let a = count-cons (get_or ns k d) n ns in let b = counted_at ns k d (omega arith) in omega arith

module _ (journals : List (List RawEntry)) where
  -- some pairs, and more of them
  pub pairs_join : (jobs more : List Job) (receipts others : List Receipt) → ArePairs journals jobs receipts → ArePairs journals more others
      → ArePairs journals (jobs ++ more) (receipts ++ others)
  pairs_join [] more [] others h k = k
  pairs_join [] more (y ∷ receipts) others h k = absurd h
  pairs_join (x ∷ jobs) more [] others h k = absurd h
  pairs_join (x ∷ jobs) more (y ∷ receipts) others h k = (h.0, pairs_join jobs more receipts others h.1 k)

  -- the pairs of both halves
  pub pairs_of_halves : (jobs first more : List Job) (receipts theirs others : List Receipt) (n m : ℕ) → first ≡ take n jobs → more ≡ drop n jobs
      → theirs ≡ take m receipts → others ≡ drop m receipts → ArePairs journals first theirs → ArePairs journals more others
      → ArePairs journals jobs receipts
  pairs_of_halves jobs first more receipts theirs others n m first_is more_is theirs_is others_is h k =
      let whole : first ++ more ≡ jobs = ap₂ ◌++◌ first_is more_is ∙ take-append-drop n jobs in
      let all : theirs ++ others ≡ receipts = ap₂ ◌++◌ theirs_is others_is ∙ take-append-drop m receipts in
      subst (λ (p : List Job × List Receipt). ArePairs journals p.0 p.1) (λ i. (whole i, all i)) (pairs_join first more theirs others h k)

  -- one more pair
  pub pairs_more : (jobs : List Job) (receipts : List Receipt) (i : ℕ) (j : Job) (r : Receipt) → i < length jobs → i < length receipts → j ≡ get_or jobs i j
      → r ≡ get_or receipts i r
      → ArePairs journals (take i jobs) (take i receipts) → IsPair journals j r → ArePairs journals (take (i + 1) jobs) (take (i + 1) receipts)
  pairs_more jobs receipts i j r low too job_is receipt_is h one =
      let a : take (i + 1) jobs ≡ take i jobs ++ j ∷ [] = take_more jobs i j low ∙ ap (λ x. take i jobs ++ x ∷ []) (sym job_is) in
      let b : take (i + 1) receipts ≡ take i receipts ++ r ∷ [] = take_more receipts i r too ∙ ap (λ x. take i receipts ++ x ∷ []) (sym receipt_is) in
      subst (λ (p : List Job × List Receipt). ArePairs journals p.0 p.1) (λ i. (sym a i, sym b i)) (pairs_join (take i jobs) (j ∷ []) (take i receipts) (r ∷ []) h (one, tt))

  pairs_put : (a b : Bool) (j : Job) (r : Receipt) (jobs : List Job) (receipts : List Receipt) → b ≡ a → IsPair journals j r → ArePairs journals jobs receipts
      → ArePairs journals (cond a (j ∷ jobs) jobs) (cond b (r ∷ receipts) receipts)
  pairs_put true true j r jobs receipts is one rest = (one, rest)
  pairs_put true false j r jobs receipts is one rest = absurd (true≢false (sym is))
  pairs_put false true j r jobs receipts is one rest = absurd (true≢false is)
  pairs_put false false j r jobs receipts is one rest = rest

  -- those of one number are pairs
  pairs_at : (n : ℕ) (jobs : List Job) (receipts : List Receipt) → ArePairs journals jobs receipts → ArePairs journals (jobs_at n jobs) (receipts_at n receipts)
  pairs_at n [] [] h = tt
  pairs_at n [] (r ∷ receipts) h = absurd h
  pairs_at n (j ∷ jobs) [] h = absurd h
  pairs_at n (j ∷ jobs) (r ∷ receipts) h =
      pairs_put (eqb j.number n) (eqb r.job n) j r (jobs_at n jobs) (receipts_at n receipts) (ap (λ m. eqb m n) h.0.number) h.0 (pairs_at n jobs receipts h.1)

  record IsOnly (jobs : List Job) (receipts : List Receipt) : Type 0 where
    job : Job
    receipt : Receipt
    one_job : jobs ≡ job ∷ []
    one_receipt : receipts ≡ receipt ∷ []
    pair : IsPair journals job receipt

  only_pair : (jobs : List Job) (receipts : List Receipt) → length jobs ≡ 1 → ArePairs journals jobs receipts → IsOnly jobs receipts
  only_pair [] receipts one h = absurd (omega arith)
  only_pair (j ∷ []) [] one h = absurd h
  only_pair (j ∷ []) (r ∷ []) one h = record { job = j; receipt = r; one_job = refl; one_receipt = refl; pair = h.0 }
  only_pair (j ∷ []) (r ∷ s ∷ receipts) one h = absurd h.1
  only_pair (j ∷ k ∷ jobs) receipts one h = absurd (omega arith)

  same_numbers : (jobs : List Job) (receipts : List Receipt) → ArePairs journals jobs receipts → map number_of jobs ≡ map job_of receipts
  same_numbers [] [] h = refl
  same_numbers [] (r ∷ receipts) h = absurd h
  same_numbers (j ∷ jobs) [] h = absurd h
  same_numbers (j ∷ jobs) (r ∷ receipts) h = ap₂ ◌∷◌ (sym h.0.number) (same_numbers jobs receipts h.1)

  accounted : (jobs : List Job) (receipts : List Receipt) (n : ℕ) → AreApart (map number_of jobs) → ArePairs journals jobs receipts
      → EachNamedOnce journals receipts
      → 0 < count n (map number_of jobs) → Account journals jobs receipts n
  accounted jobs receipts n apart pairs once some =
      let most = apart n in let len = length_at n jobs in
      let o = only_pair (jobs_at n jobs) (receipts_at n receipts) (omega arith) (pairs_at n jobs receipts pairs) in
      let p = o.pair in record {
        job = o.job;
        receipt = o.receipt;
        place = p.place;
        one_job = o.one_job;
        one_receipt = o.one_receipt;
        is_ok = p.is_ok;
        answers = record { entry = p.entry; stands = p.stands; event = p.event; outs = p.outs; alone = once p.place.shard p.place.position p.entry p.stands };
      }

  -- numbers that are apart, pairs, and places that are named once account for the journals
  pub reconciles : (jobs : List Job) (receipts : List Receipt) → AreApart (map number_of jobs) → ArePairs journals jobs receipts
      → EachNamedOnce journals receipts → Reconciles journals jobs receipts
  reconciles jobs receipts apart pairs once =
      let P : ℕ → Type 0 = Account journals jobs receipts in
      let each : All P (map number_of jobs) = λ k d low. accounted jobs receipts (get_or (map number_of jobs) k d) apart pairs once
      (counted_at (map number_of jobs) k d low) in
      record {
        each = All-append P (map number_of jobs) (map job_of receipts) each (subst (All P) (same_numbers jobs receipts pairs) each);
        none_stray = λ shard position s. let one = once shard position s.entry s.stands in let none = s.unnamed in omega arith;
      }
