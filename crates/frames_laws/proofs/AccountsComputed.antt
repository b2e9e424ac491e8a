-- The worked examples of accounts.
use Rattle.std.proofs.Common.{◌≡◌, ℕ, zero, suc, ◌<◌, ◌≤◌, ⊎_elim, eqb, eq-eqb, false, List, [], ◌∷◌, filter, refl, sym, ap, ◌∙◌, subst, arith, Some, None}
use Rattle.std.specs.Prelude.{◌==◌}
use Rattle.std.proofs.lemmas.Bool.{both_ways, ltb-true}
use Rattle.std.proofs.lemmas.List.Elements.{All-nil, All-cons, All-head, Contains-push, Contains-append_left}
use Rattle.frames.specs.Octets.{RawClock, RawEntry}
use Rattle.frames.specs.Account.{Job, Place, Receipt, Answers, Account, IsStray}
use Rattle.frames_laws.specs.AccountExamples.{Accounts, jobs, journals, clock_job, clock_entry, receipt_at, sent_abort, receipt_of_abort}

-- two numbers that are not the same
differ : (a b : ℕ) → a ≡ b → eqb a b ≡ false → ⊥
differ a b same other = both_ways (eqb a b) other (eq-eqb a b same)

times_of : (a b : ℕ) → RawClock 0 a ≡ RawClock 0 b → a ≡ b
times_of a b same = cc

-- a number that the two receipts account for
abbrev Counted : ℕ → Type 0
Counted = Account journals jobs (receipt_at 2 1 ∷ receipt_at 1 0 ∷ [])

-- the account of the first job, and of the second
first : Counted 1
first = record {
  job = clock_job 1 5;
  receipt = receipt_at 1 0;
  place = record { shard = 0; position = 0; outs = [] };
  one_job = refl;
  one_receipt = refl;
  is_ok = refl;
  answers = record { entry = clock_entry 5; stands = refl; event = refl; outs = refl; alone = refl };
}

second : Counted 2
second = record {
  job = clock_job 2 7;
  receipt = receipt_at 2 1;
  place = record { shard = 0; position = 1; outs = [] };
  one_job = refl;
  one_receipt = refl;
  is_ok = refl;
  answers = record { entry = clock_entry 7; stands = refl; event = refl; outs = refl; alone = refl };
}

no_stray : (shard position : ℕ) → IsStray journals (receipt_at 2 1 ∷ receipt_at 1 0 ∷ []) shard position → ⊥
no_stray zero zero stray = differ 1 0 stray.unnamed refl
no_stray zero (suc zero) stray = differ 1 0 stray.unnamed refl
no_stray zero (suc (suc position)) stray = let none : None ≡ Some stray.entry = stray.stands in absurd (cc none)
no_stray (suc shard) position stray = let none : None ≡ Some stray.entry = stray.stands in absurd (cc none)

-- the one of a list of one
only_of : {X : Type 0} (x y : X) → x ∷ [] ≡ y ∷ [] → x ≡ y
only_of x y same = cc

some_of : {X : Type 0} (x y : X) → Some x ≡ Some y → x ≡ y
some_of x y same = cc

-- An account of the number 1, of a job at 5 and a receipt with this place, has the entry there with the job's event and the
-- receipt's octets, and no other receipt names the place.
at_five : (entries : List (List RawEntry)) (all : List Job) (receipts : List Receipt) (receipt : Receipt) (place : Place)
    → filter (λ j. j.number == 1) all ≡ clock_job 1 5 ∷ [] → filter (λ r. r.job == 1) receipts ≡ receipt ∷ [] → receipt.place ≡ Some place
    → Account entries all receipts 1 → Answers entries receipts (clock_job 1 5) place
at_five entries all receipts receipt place job at is account =
    let same_job : account.job ≡ clock_job 1 5 = only_of account.job (clock_job 1 5) (sym account.one_job ∙ job) in
    let same_receipt : account.receipt ≡ receipt = only_of account.receipt receipt (sym account.one_receipt ∙ at) in
    let same_place : account.place ≡ place = some_of account.place place (sym account.is_ok ∙ ap (λ (r : Receipt). r.place) same_receipt ∙ is) in
    subst (λ (p : Job × Place). Answers entries receipts p.0 p.1) (λ i. (same_job i, same_place i)) account.answers

-- without receipts, a number below 1 would be accounted for
abbrev Before : ℕ → Type 0
Before m = m < 1 → Account journals jobs [] m

pub accounts : Accounts
accounts = record {
  all = record {
    each = All-cons Counted 1 (2 ∷ 2 ∷ 1 ∷ []) first (All-cons Counted 2 (2 ∷ 1 ∷ []) second
        (All-cons Counted 2 (1 ∷ []) second (All-cons Counted 1 [] first (All-nil Counted))));
    none_stray = no_stray;
  };
  another_event = λ a.
      let b = at_five journals jobs (receipt_at 1 1 ∷ receipt_at 2 0 ∷ []) (receipt_at 1 1) (record { shard = 0; position = 1; outs = [] }) refl refl refl a in
      let same : RawClock 0 7 ≡ RawClock 0 5 = ap (λ (e : RawEntry). e.event) (some_of _ _ b.stands) ∙ b.event in
      differ 7 5 (times_of 7 5 same) refl;
  other_octets = λ a.
      let b = at_five journals jobs (receipt_of_abort 1 0 ∷ receipt_at 2 1 ∷ []) (receipt_of_abort 1 0)
      (record { shard = 0; position = 0; outs = sent_abort ∷ [] }) refl refl refl a in
      let same : [] ≡ sent_abort ∷ [] = ap (λ (e : RawEntry). e.outs) (some_of _ _ b.stands) ∙ b.outs in absurd (cc same);
  place_named_twice = λ a.
      let b = at_five journals jobs (receipt_at 1 0 ∷ receipt_at 2 0 ∷ []) (receipt_at 1 0) (record { shard = 0; position = 0; outs = [] }) refl refl refl a in
      differ 2 1 b.alone refl;
  no_entry_there = λ a.
      let b = at_five journals jobs (receipt_at 1 2 ∷ []) (receipt_at 1 2) (record { shard = 0; position = 2; outs = [] }) refl refl refl a in
      let none : None ≡ Some b.entry = b.stands in absurd (cc none);
  two_receipts = λ a. let two : receipt_at 1 0 ∷ receipt_at 1 0 ∷ [] ≡ a.receipt ∷ [] = a.one_receipt in absurd (cc two);
  two_jobs = λ a. let two : clock_job 1 5 ∷ clock_job 1 5 ∷ [] ≡ a.job ∷ [] = a.one_job in absurd (cc two);
  refused = λ a.
      let same : a.receipt ≡ record { job = 1; place = None } = only_of a.receipt (record { job = 1; place = None }) (sym a.one_receipt) in
      let none : None ≡ Some a.place = sym (ap (λ (r : Receipt). r.place) same) ∙ a.is_ok in absurd (cc none);
  no_receipts = record {
    among = Contains-append_left (1 ∷ []) (2 ∷ []) 1 (Contains-push [] 1);
    fails = λ a. let none : [] ≡ a.receipt ∷ [] = a.one_receipt in absurd (cc none);
    least = All-cons Before 1 (2 ∷ []) (λ low. absurd (omega arith)) (All-cons Before 2 [] (λ low. absurd (omega arith)) (All-nil Before));
  };
  no_receipts_not = λ a.
      let first_too : 1 < 2 → Account journals jobs [] 1 = All-head (λ m. m < 2 → Account journals jobs [] m) 1 (2 ∷ []) a.least in
      let b = first_too (ltb-true 1 2 refl) in
      let none : [] ≡ b.receipt ∷ [] = b.one_receipt in absurd (cc none);
  entry_left_over = λ a. a.none_stray 0 1 (record { entry = clock_entry 7; stands = refl; unnamed = refl });
  number_0 = λ u. ⊎_elim
      (λ fault. let low : 1 ≤ 0 = fault.0 in absurd (omega (arith, low)))
      (λ stray.
      let b : Account journals (clock_job 0 5 ∷ []) [] 0 = All-head (Account journals (clock_job 0 5 ∷ []) []) 0 [] stray.1 in
      let none : [] ≡ b.receipt ∷ [] = b.one_receipt in absurd (cc none))
      u;
}
