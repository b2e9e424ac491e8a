-- How the shards of a register go on while a batch is handled.
use Rattle.std.proofs.Common.{◌≡◌, ℕ, zero, suc, ◌+◌, ◌<◌, ◌++◌, ◌⊎◌, List, [], ◌∷◌, get_or, length, map, set, drop, inl, inr, Result, Ok, Err, refl, sym, ap, subst, ◌∙◌, add-one, append_assoc, arith, Some}
use Rattle.std.specs.Prelude.{All, IfOk, IsOk, IsOkAnd, OnErr, OnOk, slice_get}
use Rattle.std.specs.List.Sorted.{IsPermutation, IsStrictlyIncreasing}
use Rattle.std.proofs.lemmas.List.{append-nil, length-map, length-set}
use Rattle.std.proofs.lemmas.List.Sorted.{IsPermutation-trans}
use Rattle.std.proofs.lemmas.Option.{same_Some, slice_get-get_or, slice_get_within}
use Rattle.frames.specs.Account.{Job, Receipt, Reconciles}
use Rattle.frames.specs.Octets.{RawEntry, RawEvent}
use Rattle.records.specs.Loaded.{Subscribers}
use Rattle.records.specs.Maps.{DirectoryMap}
use Rattle.hlrcore.specs.Shards.{IsSameShard, ShardState, state_of}
use Rattle.shardlog.specs.declared.entry.Handled.{Handled}
use Rattle.shardlog.specs.declared.keep.Keep.{Keep}
use Rattle.shardlog.specs.declared.keep.Keep.TheVariants.{Entries, Nothing}
use Rattle.shardlog.specs.Handling.{Handles, recorded}
use Rattle.shardlog.specs.Log.{Log, LogKeeps, cut_log}
use Rattle.wholenode.specs.Keeping.{AreShards, NodeKeeps}
use Rattle.wholenode.specs.Nodes.{NodeState}
use Rattle.wholenode.specs.Opening.{AreOpening}
use Rattle.wholenode.proofs.BaseLemmas.{log_base, shards_of_bases}
use Rattle.wholenode.proofs.Places.{set_or_not}
use Rattle.receipts.specs.Journals.{journal_list}
use Rattle.receipts.specs.Numbers.{AreApart}
use Rattle.receipts.proofs.Rising.{apart_moved}
use Rattle.workers.specs.Shared.{AreSettled}
use Rattle.workers.specs.Going.{Follow, HasGoneOn, HaveGoneOn, KeepEntries, StandsIn, bases_of}
use Rattle.workers.proofs.Runs.{run_join}

-- ---- one shard

still_same : (s : ShardState) → IsSameShard s s
still_same s = record { shard = refl; directory = refl; hlr = refl }

still_one : (l : Log) → HasGoneOn l l
still_one l = record {
  keep_is = refl;
  same = still_same l.state;
  entries = [];
  run = refl;
  kept = λ _. record { base_is = refl; entries_are = sym (append-nil l.entries) };
}

pub same_one : (l m : Log) → m ≡ l → HasGoneOn l m
same_one l m is = subst (HasGoneOn l) (sym is) (still_one l)

pub on_from : (k l m : Log) → HasGoneOn k l → HasGoneOn l m → HasGoneOn k m
on_from k l m first next = record {
  keep_is = next.keep_is ∙ first.keep_is;
  same = record {
    shard = next.same.shard ∙ first.same.shard;
    directory = next.same.directory ∙ first.same.directory;
    hlr = next.same.hlr ∙ first.same.hlr;
  };
  entries = first.entries ++ next.entries;
  run = run_join (state_of k.state) (state_of l.state) (state_of m.state) first.entries next.entries first.run next.run;
  kept = λ entries.
      let a = first.kept entries in let b = next.kept (first.keep_is ∙ entries) in
      record {
        base_is = b.base_is ∙ a.base_is;
        entries_are = b.entries_are ∙ ap (λ (es : List RawEntry). es ++ next.entries) a.entries_are ∙ append_assoc k.entries first.entries next.entries;
      };
}

not_entries : Nothing ≡ Entries → ⊥
not_entries is = absurd (cc is)

recorded_follow : (keep : Keep) (l m : Log) (entry : RawEntry) → l.keep ≡ keep → m ≡ recorded keep l entry m.state → l.keep ≡ Entries
    → Follow l (entry ∷ []) m
recorded_follow Entries l m entry keeps is entries =
    record { base_is = ap (λ (k : Log). k.base) is; entries_are = ap (λ (k : Log). k.entries) is }
recorded_follow Nothing l m entry keeps is entries = absurd (not_entries (sym keeps ∙ entries))

recorded_keep : (keep : Keep) (l : Log) (entry : RawEntry) (state : ShardState) → (recorded keep l entry state).keep ≡ keep
recorded_keep Entries l entry state = refl
recorded_keep Nothing l entry state = refl

pub handled_on : (l m : Log) (raw : RawEvent) (handled : Handled) → Handles l raw handled m → HasGoneOn l m
handled_on l m raw handled is = record {
  keep_is = ap (λ (k : Log). k.keep) is.new_is ∙ recorded_keep l.keep l is.entry m.state;
  same = is.same;
  entries = is.entry ∷ [];
  run = (state_of m.state, is.step, refl);
  kept = recorded_follow l.keep l m is.entry refl is.new_is;
}

pub answered_on : {F : Type 0} (l m : Log) (raw : RawEvent) (answer : Result Handled F) → IfOk answer (λ handled. Handles l raw handled m)
    → OnErr answer (m ≡ l)
    → HasGoneOn l m
answered_on l m raw (Ok handled) handles same = handled_on l m raw handled handles
answered_on l m raw (Err fault) handles same = same_one l m same

-- ---- a shard behind a lock

pub stands_first : (began : NodeState) (n : ℕ) (l : Log) → AreShards began.directory began.shards → slice_get began.shards n ≡ Some l → StandsIn began l
stands_first began n l are at =
    let is = are.each n l at in
    record {
      first = l;
      stood = ap (slice_get began.shards) is.state_is.shard_is ∙ at;
      gone_on = still_one l;
      directory_is = is.state_is.directory_is;
      keeps = is.keeps;
    }

pub stands_on : (began : NodeState) (l m : Log) → StandsIn began l → HasGoneOn l m → LogKeeps m → StandsIn began m
stands_on began l m stands on keeps = record {
  first = stands.first;
  stood = ap (slice_get began.shards) on.same.shard ∙ stands.stood;
  gone_on = on_from stands.first l m stands.gone_on on;
  directory_is = on.same.directory ∙ stands.directory_is;
  keeps = keeps;
}

-- ---- all shards

pub still : (shards now : List Log) → now ≡ shards → HaveGoneOn shards now
still shards now is = record {
  count = ap length is;
  each = λ n l m was there. same_one l m (same_Some m l (sym there ∙ ap (λ (ls : List Log). slice_get ls n) is ∙ was));
}

stands_there : (shards : List Log) (n : ℕ) → n < length shards → (l : Log) × (slice_get shards n ≡ Some l)
stands_there [] n low = absurd (omega (arith, low))
stands_there (l ∷ shards) zero low = (l, refl)
stands_there (l ∷ shards) (suc n) low = stands_there shards n (omega (arith, low))

pub on_further : (before now later : List Log) → HaveGoneOn before now → HaveGoneOn now later → HaveGoneOn before later
on_further before now later first next = record {
  count = next.count ∙ first.count;
  each = λ n l m was there.
      let k = stands_there now n (omega (arith, first.count, slice_get_within before n l was)) in
      on_from l k.0 m (first.each n l k.0 was k.1) (next.each n k.0 m k.1 there);
}

-- what is left of a list
first_of : (shards rest : List Log) (l : Log) (n : ℕ) → l ∷ rest ≡ drop n shards → (slice_get shards n ≡ Some l) × (rest ≡ drop (suc n) shards)
first_of [] rest l zero is = absurd (cc is)
first_of [] rest l (suc n) is = absurd (cc is)
first_of (k ∷ shards) rest l zero is = (cc is, cc is)
first_of (k ∷ shards) rest l (suc n) is = first_of shards rest l n is

pub first_left : (shards rest : List Log) (l : Log) (n : ℕ) → l ∷ rest ≡ drop n shards → (slice_get shards n ≡ Some l) × (rest ≡ drop (n + 1) shards)
first_left shards rest l n is = let first = first_of shards rest l n is in (first.0, rw add-one first.1)

pub on_at : (before now : List Log) (i : ℕ) (l m : Log) → HaveGoneOn before now → slice_get now i ≡ Some l → HasGoneOn l m → HaveGoneOn before (set now i m)
on_at before now i l m on at more = record {
  count = length-set now i m ∙ on.count;
  each = λ n k x was there. elim (set_or_not now i n m x there) [
    | inl h ↦ subst (HasGoneOn k) h.1
        (on_from k l m (on.each i k l (subst (λ (p : ℕ). slice_get before p ≡ Some k) h.0 was) at) more)
    | inr h ↦ on.each n k x was h
  ];
}

-- Each of these shards stands at its own place for the one there.
abbrev pub AreInPlace : NodeState → List Log → Type 0
AreInPlace began shards = (n : ℕ) (l : Log) → slice_get shards n ≡ Some l → (l.state.shard ≡ n) × StandsIn began l

-- one more
last_or : (shards : List Log) (l m : Log) (n : ℕ) → slice_get (shards ++ l ∷ []) n ≡ Some m → ((n ≡ length shards) × (l ≡ m)) ⊎ (slice_get shards n ≡ Some m)
last_or [] l m zero is = inl (refl, same_Some l m is)
last_or [] l m (suc n) is = absurd (cc is)
last_or (k ∷ shards) l m zero is = inr is
last_or (k ∷ shards) l m (suc n) is = elim (last_or shards l m n is) [
  | inl h ↦ inl (ap suc h.0, h.1)
  | inr h ↦ inr h
]

pub in_place_more : (began : NodeState) (shards more : List Log) (l : Log) → AreInPlace began shards → l.state.shard ≡ length shards → StandsIn began l
    → more ≡ shards ++ l ∷ []
    → AreInPlace began more
in_place_more began shards more l are here stands is = subst (AreInPlace began) (sym is) (λ n m there. elim (last_or shards l m n there) [
  | inl h ↦ subst (λ (p : ℕ × Log). (p.1.state.shard ≡ p.0) × StandsIn began p.1) (λ i. (sym h.0 i, h.1 i)) (here, stands)
  | inr h ↦ are n m h
])

pub all_in_place : (began : NodeState) (shards : List Log) → AreShards began.directory began.shards → length shards ≡ 16 → AreInPlace began shards
    → AreShards began.directory shards
all_in_place began shards are sixteen placed = record {
  hlr = are.hlr;
  count = sixteen;
  each = λ n l there.
      let at = placed n l there in
      let first = are.each n at.1.first (ap (slice_get began.shards) (sym at.0) ∙ at.1.stood) in
      record {
        keeps = at.1.keeps;
        state_is = record {
          shard_is = at.0;
          directory_is = at.1.directory_is;
          hlr_is = at.1.gone_on.same.hlr ∙ first.state_is.hlr_is;
        };
      };
}

pub all_on : (began : NodeState) (shards : List Log) → AreShards began.directory began.shards → length shards ≡ 16 → AreInPlace began shards
    → HaveGoneOn began.shards shards
all_on began shards are sixteen placed = record {
  count = sixteen ∙ sym are.count;
  each = λ n l m was there.
      let at = placed n m there in
      let first : at.1.first ≡ l = same_Some at.1.first l (sym at.1.stood ∙ ap (slice_get began.shards) at.0 ∙ was) in
      subst (λ (k : Log). HasGoneOn k m) first at.1.gone_on;
}

-- ---- the bases

-- lists with the same elements
same_list : (xs ys : List ShardState) → length xs ≡ length ys → ((n : ℕ) (x y : ShardState) → slice_get xs n ≡ Some x → slice_get ys n ≡ Some y → x ≡ y) → xs ≡ ys
same_list [] [] long same = refl
same_list [] (y ∷ ys) long same = absurd (omega (arith, long))
same_list (x ∷ xs) [] long same = absurd (omega (arith, long))
same_list (x ∷ xs) (y ∷ ys) long same =
    let head : x ≡ y = same 0 x y refl refl in
    let rest : xs ≡ ys = same_list xs ys (omega (arith, long)) (λ n a b. same (suc n) a b) in
    λ i. head i ∷ rest i

-- the element of a mapped list is mapped
base_there : (shards : List Log) (n : ℕ) (x : ShardState) → slice_get (bases_of shards) n ≡ Some x → (l : Log) × (slice_get shards n ≡ Some l) × (l.base ≡ x)
base_there [] n x is = absurd (cc is)
base_there (l ∷ shards) zero x is = (l, refl, same_Some l.base x is)
base_there (l ∷ shards) (suc n) x is = base_there shards n x is

pub same_bases : (before now : List Log) → HaveGoneOn before now → KeepEntries before → bases_of now ≡ bases_of before
same_bases before now on keep =
    same_list (bases_of now) (bases_of before) (length-map now log_base ∙ on.count ∙ sym (length-map before log_base)) (λ n x y is was.
    let m = base_there now n x is in let l = base_there before n y was in
    sym m.2 ∙ ((on.each n l.0 m.0 l.1 m.1).kept (keep n l.0 l.1)).base_is ∙ l.2)

pub keep_on : (before now : List Log) → HaveGoneOn before now → KeepEntries before → KeepEntries now
keep_on before now on keep n m there =
    let l = stands_there before n (omega (arith, on.count, slice_get_within now n m there)) in
    (on.each n l.0 m l.1 there).keep_is ∙ keep n l.0 l.1

pub keep_cut : (shards now : List Log) → now ≡ map cut_log shards → KeepEntries shards → KeepEntries now
keep_cut shards now is keep n m there =
    let l = cut_there shards n m (ap (λ (ls : List Log). slice_get ls n) (sym is) ∙ there) in
    ap (λ (k : Log). k.keep) (sym l.2) ∙ keep n l.0 l.1
  where
    cut_there : (shards : List Log) (n : ℕ) (m : Log) → slice_get (map cut_log shards) n ≡ Some m → (l : Log) × (slice_get shards n ≡ Some l) × (cut_log l ≡ m)
    cut_there [] n m is = absurd (cc is)
    cut_there (l ∷ shards) zero m is = (l, refl, same_Some (cut_log l) m is)
    cut_there (l ∷ shards) (suc n) m is = cut_there shards n m is

pub keep_opening : (loaded : Subscribers) (start count : ℕ) (shards : List Log) → AreOpening loaded Entries start count shards → KeepEntries shards
keep_opening loaded start count shards are n l there = ap (λ (k : Log). k.keep) (are.each n l there).begins

-- ---- the invariant of each

pub all_keep : (directory : DirectoryMap) (shards : List Log) → AreShards directory shards → All LogKeeps shards
all_keep directory shards are n d low = (are.each n (get_or shards n d) (slice_get-get_or shards n d low)).keeps

-- ---- jobs and receipts account for the journals

pub settles_node : {V F : Type 0} (node : NodeState) (jobs : List Job) (receipts : List Receipt) (answer : Result V F)
    → (IsOk answer → Reconciles (journal_list node.shards) jobs receipts) → NodeKeeps node
    → OnOk answer (AreSettled (bases_of node.shards) jobs receipts node.shards)
settles_node node jobs receipts (Ok x) account keeps = record {
  same = refl;
  account = account refl;
  one_register = λ directory are. shards_of_bases directory node.shards (bases_of node.shards) refl (all_keep node.directory node.shards keeps.shards) are;
}
settles_node node jobs receipts (Err e) account keeps = tt

-- ---- receipts by number

pub moved_on : {V E : Type 0} (numbers : List ℕ) (answered : V → List ℕ) (some sorted : Result V E) → IfOk some (λ v. IsPermutation numbers (answered v))
    → IfOk sorted (λ w. IsOkAnd some (λ v. IsPermutation (answered v) (answered w)))
    → IfOk sorted (λ w. IsPermutation numbers (answered w))
moved_on numbers answered some (Err e) one_each moved = tt
moved_on numbers answered (Err e) (Ok w) one_each moved = absurd moved
moved_on numbers answered (Ok v) (Ok w) one_each moved = IsPermutation-trans numbers (answered v) (answered w) one_each moved

pub rises_on : {V E : Type 0} (numbers : List ℕ) (answered : V → List ℕ) (some sorted : Result V E) → AreApart numbers
    → IfOk some (λ v. IsPermutation numbers (answered v))
    → IfOk sorted (λ w. IsOkAnd some (λ v. AreApart (answered v) → IsStrictlyIncreasing (answered w)))
    → IfOk sorted (λ w. IsStrictlyIncreasing (answered w))
rises_on numbers answered some (Err e) apart one_each rises = tt
rises_on numbers answered (Err e) (Ok w) apart one_each rises = absurd rises
rises_on numbers answered (Ok v) (Ok w) apart one_each rises = rises (apart_moved numbers (answered v) one_each apart)
