-- In journals that are accounted for, each entry is that of one job and of no other.
use Rattle.std.proofs.Common.{◌≡◌, ℕ, eqb, eq-eqb, true, List, [], ◌∷◌, map, filter, sym, refl, ap, ap₂, ◌∙◌, subst, inl, ⊎_elim, arith, ◌<◌, ◌&&◌, Some}
use Rattle.std.specs.Prelude.{count_by}
use Rattle.std.proofs.lemmas.Bool.{eqb-true}
use Rattle.x690.proofs.Readings.{both_true}
use Rattle.frames.specs.Account.{Job, Place, Receipt, Account, is_place, names_place, numbers}
use Rattle.frames_laws.specs.AccountLaws.{EntriesAreOneJob}
use Rattle.frames_laws.proofs.Amongs.{Among, all_among, among_right, among_map, in_filter, of_filter, some_counted, one_counted}

-- a receipt that names a place has it
named : (r : Receipt) (place : Place) (shard position : ℕ) → r.place ≡ Some place → names_place shard position r ≡ true
    → (place.shard ≡ shard) × (place.position ≡ position)
named r place shard position is h =
    let h' = both_true (eqb place.shard shard) (eqb place.position position) (sym (ap (is_place shard position) is) ∙ h) in
    (eqb-true place.shard shard h'.0, eqb-true place.position position h'.1)

names_it : (r : Receipt) (place : Place) (shard position : ℕ) → r.place ≡ Some place → place.shard ≡ shard → place.position ≡ position
    → names_place shard position r ≡ true
names_it r place shard position is a b =
    ap (is_place shard position) is ∙ ap₂ ◌&&◌ (eq-eqb place.shard shard a) (eq-eqb place.position position b)

-- the only receipt for a number
only_one : (receipts : List Receipt) (n : ℕ) (r x : Receipt) → filter (λ y. eqb y.job n) receipts ≡ r ∷ [] → Among receipts x → x.job ≡ n → r ≡ x
only_one receipts n r x one at is =
    let among = subst (λ l. Among l x) one (in_filter (λ (y : Receipt). eqb y.job n) receipts x (eq-eqb x.job n is) at) in
    ⊎_elim (λ e. e) (λ none. absurd none) among

is_there : (receipts : List Receipt) (n : ℕ) (r : Receipt) → filter (λ y. eqb y.job n) receipts ≡ r ∷ [] → Among receipts r × (r.job ≡ n)
is_there receipts n r one =
    let h = of_filter (λ (y : Receipt). eqb y.job n) receipts r (subst (λ l. Among l r) (sym one) (inl refl)) in (h.0, eqb-true r.job n h.1)

pub entries_are_one_job : EntriesAreOneJob
entries_are_one_job journals jobs receipts h = record {
  some = λ shard position e at.
      let some : 0 < count_by (names_place shard position) receipts =
      let none : count_by (names_place shard position) receipts ≡ 0
      → ⊥ = λ z. h.none_stray shard position (record { entry = e; stands = at; unnamed = z }) in omega arith in
      let found = some_counted (names_place shard position) receipts some in
      let r = found.0 in
      let account : Account journals jobs receipts r.job = all_among (Account journals jobs receipts) (numbers jobs receipts) r.job h.each
      (among_right (map (λ (j : Job). j.number) jobs) (map (λ (x : Receipt). x.job) receipts) r.job (among_map (λ (x : Receipt). x.job) receipts r found.1)) in
      let same : account.receipt ≡ r = only_one receipts r.job account.receipt r account.one_receipt found.1 refl in
      let place = named r account.place shard position (ap (λ (x : Receipt). x.place) (sym same) ∙ account.is_ok) found.2 in
      (r.job, record { account = account; shard_is = place.0; position_is = place.1 });
  one = λ n m shard position a b.
      let r = a.account.receipt in let s = b.account.receipt in
      let at = is_there receipts n r a.account.one_receipt in let too = is_there receipts m s b.account.one_receipt in
      let one : count_by (names_place shard position) receipts ≡ 1 = subst (λ (p : ℕ × ℕ). count_by (names_place p.0 p.1) receipts ≡ 1)
      (λ i. (a.shard_is i, a.position_is i)) a.account.answers.alone in
      let same : r ≡ s = one_counted (names_place shard position) receipts r s one
      (names_it r a.account.place shard position a.account.is_ok a.shard_is a.position_is)
      (names_it s b.account.place shard position b.account.is_ok b.shard_is b.position_is) at.0 too.0 in
      sym at.1 ∙ ap (λ (x : Receipt). x.job) same ∙ too.1;
}
