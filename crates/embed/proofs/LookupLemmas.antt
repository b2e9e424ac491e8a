-- What is looked up in the shards is what the whole state has.
use Rattle.std.proofs.Common.{◌≡◌, ◌<◌, ◌≤◌, ◌+◌, ℕ, List, Bool, true, false, not, cond, IsTrue, length, refl, sym, ap, subst, ◌∙◌, arith, rules, tests, inl, inr}
use denote.Ref.{Bor}
use Rattle.std.specs.Prelude.{◌⊎◌, ◌↔◌, Option, Some, None, is_some, min, nat_lt, option_copied, option_map, slice_get}
use Rattle.std.specs.FinMap as map
use Rattle.std.proofs.lemmas.Bool.{cases_lt}
use Rattle.std.proofs.Math.Nat.{min-eq_left, min-eq_right}
use Rattle.machine.specs.Deadlines.{HasDue, IsFirst, IsTimer}
use Rattle.machine.specs.Keys.{shard_of as machine_shard_of, shard_of_id}
use Rattle.machine.specs.Parts.{union}
use Rattle.machine.specs.State as machine
use Rattle.machine_laws.proofs.Deadlines.{due_alike, first_alike, timer_alike}
use Rattle.machine_laws.proofs.Merging.{part_agrees}
use Rattle.machine_laws.proofs.Parts.{AgreeOn, agree_sym}
use Rattle.records.specs.Maps.{DirectoryMap, RecordMap, shard_of}
use Rattle.records.specs.Subscriber.{Subscriber}
use Rattle.smroute.specs.Seen.{machine_subscriber}
use Rattle.hlrcore.specs.Shards.{ShardState, state_of}
use Rattle.shardlog.specs.Log.{Log}
use Rattle.wholenode.specs.Keeping.{NodeKeeps}
use Rattle.wholenode.specs.Nodes.{NodeState, state_at, states, whole}
use Rattle.wholenode.proofs.Places.{there}
use Rattle.embed.specs.Lookups.{IsTimerOf, TimerBelow, earlier, record_by_number, record_if, record_in, record_of}

-- ---- the timers of one shard

module _ (node : NodeState) (keeps : NodeKeeps node) (n : ℕ) (l : Log) (at : slice_get node.shards n ≡ Some l) where
  agree : AgreeOn n (whole node.shards) (state_of l.state)
  agree = subst (AgreeOn n (whole node.shards)) (keeps.parts n l at) (part_agrees n (whole node.shards))

  own : l.state.shard ≡ n
  own = (keeps.shards.each n l at).state_is.shard_is

  pub due_in : HasDue (whole node.shards) n → HasDue (state_of l.state) l.state.shard
  due_in due = subst (HasDue (state_of l.state)) (sym own) (due_alike n (whole node.shards) (state_of l.state) agree due)

  pub due_from : HasDue (state_of l.state) l.state.shard → HasDue (whole node.shards) n
  due_from due =
      due_alike n (state_of l.state) (whole node.shards) (agree_sym n (whole node.shards) (state_of l.state) agree)
      (subst (HasDue (state_of l.state)) own due)

  pub timer_in : (t : ℕ) → IsTimer (whole node.shards) n t → IsTimer (state_of l.state) l.state.shard t
  timer_in t is =
      subst (λ k. IsTimer (state_of l.state) k t) (sym own) (timer_alike n (whole node.shards) (state_of l.state) agree t is)

  pub timer_from : (t : ℕ) → IsTimer (state_of l.state) l.state.shard t → IsTimer (whole node.shards) n t
  timer_from t is =
      timer_alike n (state_of l.state) (whole node.shards) (agree_sym n (whole node.shards) (state_of l.state) agree) t
      (subst (λ k. IsTimer (state_of l.state) k t) own is)

  -- whether none is due
  pub nothing_due : (b : Bool) → IsTrue b ↔ HasDue (state_of l.state) l.state.shard → IsTrue (not b) ↔ (HasDue (whole node.shards) n → ⊥)
  nothing_due true is = (λ e. λ due. (let x : false ≡ true = e in cc), λ none. absurd (none (due_from (is.0 refl))))
  nothing_due false is = (λ e. λ due. let x : false ≡ true = is.1 (due_in due) in cc, λ none. refl)

-- ---- the first of all timers

pub none_below : (shards : List Log) → IsFirst (TimerBelow shards 0) None
none_below shards t is = absurd (omega (arith, is.1))

first_of_both : (P Q R : ℕ → Type 0) → ((t : ℕ) → P t → R t) → ((t : ℕ) → Q t → R t) → ((t : ℕ) → R t → P t ⊎ Q t) → (one other : Option ℕ)
    → IsFirst P one → IsFirst Q other → IsFirst R (earlier one other)
first_of_both P Q R p q either None None none no_other = λ t r. elim (either t r) [ inl x ↦ none t x | inr y ↦ no_other t y ]
first_of_both P Q R p q either None (Some b) none is = (
  q b is.0,
  λ t r. elim (either t r) [ inl x ↦ absurd (none t x) | inr y ↦ is.1 t y ],
)
first_of_both P Q R p q either (Some a) None is none = (
  p a is.0,
  λ t r. elim (either t r) [ inl x ↦ is.1 t x | inr y ↦ absurd (none t y) ],
)
first_of_both P Q R p q either (Some a) (Some b) is also = elim (cases_lt b a) [
  | inl lt ↦
      let le : b ≤ a = omega (arith, lt) in
      let least : min a b ≡ b = min-eq_right le in
      subst (λ k. IsFirst R (Some k)) (sym least)
      (q b also.0, λ t r. elim (either t r) [ inl x ↦ (let far : a ≤ t = is.1 t x in omega (arith, le, far)) | inr y ↦ also.1 t y ])
  | inr le ↦
      let least : min a b ≡ a = min-eq_left le in
      subst (λ k. IsFirst R (Some k)) (sym least)
      (p a is.0, λ t r. elim (either t r) [ inl x ↦ is.1 t x | inr y ↦ (let far : b ≤ t = also.1 t y in omega (arith, le, far)) ])
]

pub one_below : (shards : List Log) (i : ℕ) (l : Log) (first next : Option ℕ) → slice_get shards i ≡ Some l → IsFirst (TimerBelow shards i) first
    → IsFirst (IsTimer (state_of l.state) l.state.shard) next → IsFirst (TimerBelow shards (i + 1)) (earlier first next)
one_below shards i l first next at is also =
    first_of_both (TimerBelow shards i) (IsTimer (state_of l.state) l.state.shard) (TimerBelow shards (i + 1))
    (λ t p. (p.0, omega (arith, p.1), p.2, p.3, p.4)) (λ t q. (i, omega arith, l, at, q)) either first next is also
  where
    either : (t : ℕ) → TimerBelow shards (i + 1) t → TimerBelow shards i t ⊎ IsTimer (state_of l.state) l.state.shard t
    either t (n, lt, m, stands, timer) = elim (cases_lt n i) [
      | inl below ↦ inl (n, below, m, stands, timer)
      | inr above ↦
          let last : n ≡ i = omega (arith, lt, above) in
          let same : m ≡ l = cc (ap (slice_get shards) last) in
          inr (subst (λ (k : Log). IsTimer (state_of k.state) k.state.shard t) same timer)
    ]

-- an open dialogue is of a shard that there is
small : (node : NodeState) (n t : ℕ) → IsTimer (whole node.shards) n t → n < 16
unfolding union
small node n t is = subst (λ k. k < 16) is.of_shard (by (shard_of_id is.id) is.is_open)
  where
    by : (k : ℕ) → cond (nat_lt k 16) ((states node.shards k).dialogues is.id) None ≡ Some is.dialogue → k < 16
    by k e = elim (cases_lt k 16) [
      | inl lt ↦ lt
      | inr le ↦
          let no : nat_lt k 16 ≡ false = search (rules, tests) in
          let none : None ≡ Some is.dialogue = sym (ap (λ b. cond b ((states node.shards k).dialogues is.id) None) no) ∙ e in
          absurd cc
    ]

pub all_below : (node : NodeState) → NodeKeeps node → (i : ℕ) → i ≡ length node.shards → (o : Option ℕ) → IsFirst (TimerBelow node.shards i) o
    → IsFirst (IsTimerOf node) o
all_below node keeps i all o is = first_alike (TimerBelow node.shards i) (IsTimerOf node)
    (λ t p. (p.0, timer_from node keeps p.0 p.2 p.3 t p.4))
    (λ t (n, timer).
    let lt : n < length node.shards = omega (arith, small node n t timer, keeps.shards.count) in
    let at = there node.shards n lt in
    (n, omega (arith, lt, all), at.0, at.1, timer_in node keeps n at.0 at.1 t timer)) o is

-- ---- records

pub same_shard : (imsi : List ℕ) → machine_shard_of imsi ≡ shard_of imsi
unfolding machine_shard_of shard_of
same_shard imsi = refl

whole_record : (shards : List Log) (imsi : List ℕ) → (whole shards).records imsi ≡ (states shards (machine_shard_of imsi)).records imsi
unfolding union
whole_record shards imsi = refl

pub state_record : (s : ShardState) (imsi : List ℕ) → (state_of s).records imsi ≡ option_map machine_subscriber (map.get s.records imsi)
unfolding state_of
state_record s imsi = refl

module _ (node : NodeState) (imsi : List ℕ) (number : ℕ) (l : Log) (records : RecordMap) (r : Option (Bor Subscriber))
    (number_is : number ≡ shard_of imsi) (at : slice_get node.shards number ≡ Some l) (are : records ≡ l.state.records)
    (found : option_copied r ≡ map.get records imsi) where
  here : slice_get node.shards (shard_of imsi) ≡ Some l
  here = ap (slice_get node.shards) (sym number_is) ∙ at

  pub record_found : option_copied r ≡ record_of node imsi
  record_found =
      found ∙ ap (λ (m : RecordMap). map.get m imsi) are ∙ sym (ap (λ (o : Option Log). record_in o imsi) here)

  pub record_whole : option_map (λ x. machine_subscriber x.now) r ≡ (whole node.shards).records imsi
  record_whole =
      by r ∙ ap (option_map machine_subscriber) (found ∙ ap (λ (m : RecordMap). map.get m imsi) are)
      ∙ sym (whole_record node.shards imsi ∙ ap (λ n. (states node.shards n).records imsi) (same_shard imsi)
      ∙ ap (λ (o : Option Log). (state_at o).records imsi) here ∙ state_record l.state imsi)
    where
      by : (r : Option (Bor Subscriber)) → option_map (λ x. machine_subscriber x.now) r ≡ option_map machine_subscriber (option_copied r)
      by None = refl
      by (Some x) = refl

-- whether there is no record
pub unknown : (r : Option (Bor Subscriber)) (b : Bool) (m : Option machine.Subscriber) → option_map (λ x. machine_subscriber x.now) r ≡ m
    → is_some r ≡ not b → IsTrue b ↔ (m ≡ None)
unknown None b m is e = (λ _. sym is, λ _. by b e)
  where
    by : (b : Bool) → false ≡ not b → b ≡ true
    by true e = refl
    by false e = e
unknown (Some x) b m is e = (λ t. absurd (by b e t), λ none. absurd cc)
  where
    by : (b : Bool) → true ≡ not b → b ≡ true → ⊥
    by true e t = cc
    by false e t = cc

-- the subscriber with an MSISDN
pub by_number : (node : NodeState) (msisdn : List ℕ) (l : Log) (directory : DirectoryMap) (o : Option (List ℕ)) (r : Option Subscriber)
    → NodeKeeps node → slice_get node.shards 0 ≡ Some l → directory ≡ l.state.directory → o ≡ map.get directory msisdn → r ≡ record_if node o
    → r ≡ record_by_number node msisdn
by_number node msisdn l directory o r keeps at is found record_is =
    record_is ∙ ap (record_if node) (found ∙ ap (λ (d : DirectoryMap). map.get d msisdn) (is ∙ (keeps.shards.each 0 l at).state_is.directory_is))
