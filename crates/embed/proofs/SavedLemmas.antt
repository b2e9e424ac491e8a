-- The saved file of a register is a records file, from which its records are loaded again.
use Rattle.std.proofs.Common.{◌≡◌, ◌<◌, ◌+◌, ◌==◌, ◌∷◌, ◌++◌, ℕ, zero, suc, List, [], Bool, true, false, cond, Option, Some, None, inl, inr, length, refl, sym, ap, ◌∙◌, subst, arith, eqb-true}
use Rattle.std.specs.Prelude.{Ok, map as each, option_map, slice_get}
use Rattle.std.specs.FinMap as map
use Rattle.std.specs.List.{AllByRecursion, IsDistinct, flat_map}
use Rattle.std.specs.Ordering.{eq_by_cmp}
use Rattle.std.proofs.lemmas.Map.Keys.{IsDistinct-from_sorted}
use Rattle.std.proofs.lemmas.Option.{same_Some}
use Rattle.machine.specs.Keys.{shard_of as machine_shard_of}
use Rattle.machine.specs.Opening.{opening}
use Rattle.machine.specs.Parts.{union}
use Rattle.machine_laws.specs.Numbers.{msisdn_in, msisdn_of}
use Rattle.records.specs.File.{AreApart, Contents, File, Share}
use Rattle.records.specs.Loaded.{Subscribers, by_imsi, by_msisdn, imsi_entry, loaded_from}
use Rattle.records.specs.Maps.{DirectoryMap, RecordMap, digits_cmp, shard_of}
use Rattle.records.specs.Ordered.{AreDistinct}
use Rattle.records.specs.Subscriber.{Subscriber, unmarked}
use Rattle.records.specs.Written.{saved_contents}
use Rattle.records.proofs.AgainFiles.{file_again}
use Rattle.records.proofs.InOrder.{keys_are}
use Rattle.records.proofs.MapLemmas.{digits_exact, digits_tie, digits_total, same_digits}
use Rattle.records.proofs.MovedLemmas.{view_moved}
use Rattle.images.specs.Again.{IsReadAgain}
use Rattle.shardlog.specs.declared.keep.Keep.{Keep}
use Rattle.shardlog.specs.Log.{Log}
use Rattle.audit.specs.Listing.{records_in}
use Rattle.audit.specs.Saving.{Saves, SavesUnder}
use Rattle.audit.proofs.Saving.{apart_in_order}
use Rattle.wholenode.specs.Keeping.{NodeKeeps}
use Rattle.wholenode.specs.Nodes.{NodeState, state_at, states, whole}
use Rattle.embed.specs.Images.{AreImages, AreListed, GoesOnFrom, HasRecordsOf, IsAsBefore, IsSaved}
use Rattle.embed.specs.Lookups.{record_in, record_of}
use Rattle.embed.specs.Numbers.{AreNumbered}
use Rattle.embed.specs.Registers.{RegisterState}
use Rattle.embed.proofs.ImageLemmas.{elsewhere, goes_on}
use Rattle.embed.proofs.LookupLemmas.{same_shard, state_record}
use Rattle.embed.proofs.NumberLemmas.{apart_numbered, number_at, seen_number, untied}

-- ---- lists

each_one : {X : Type 0} (P Q : X → Type 0) → ((x : X) → P x → Q x) → (xs : List X) → AllByRecursion P xs → AllByRecursion Q xs
each_one P Q f [] h = tt
each_one P Q f (x ∷ xs) h = (f x h.0, each_one P Q f xs h.1)

both_lists : {X : Type 0} (P : X → Type 0) (xs ys : List X) → AllByRecursion P xs → AllByRecursion P ys → AllByRecursion P (xs ++ ys)
both_lists P [] ys h g = g
both_lists P (x ∷ xs) ys h g = (h.0, both_lists P xs ys h.1 g)

same_by : {X : Type 0} (o p : Option X) → ((x : X) → o ≡ Some x → p ≡ Some x) → ((x : X) → p ≡ Some x → o ≡ Some x) → o ≡ p
same_by None None there back = refl
same_by None (Some x) there back = back x refl
same_by (Some x) p there back = sym (there x refl)

-- ---- records of which no two have one IMSI

-- no record before has the IMSI of one after it
abbrev pub AreOwn : List Subscriber → Type 0
AreOwn [] = Unit {0}
AreOwn (s ∷ ss) = AllByRecursion (λ (t : Subscriber). eq_by_cmp digits_cmp s.imsi t.imsi ≡ false) ss × AreOwn ss

own_of_keys : (ss : List Subscriber) → IsDistinct (eq_by_cmp digits_cmp) (each (λ (s : Subscriber). s.imsi) ss) → AreOwn ss
unfolding IsDistinct
own_of_keys [] h = tt
own_of_keys (s ∷ ss) h = (heads ss h.0, own_of_keys ss h.1)
  where
    heads : (ts : List Subscriber) → AllByRecursion (λ k. eq_by_cmp digits_cmp s.imsi k ≡ false) (each (λ (t : Subscriber). t.imsi) ts)
        → AllByRecursion (λ (t : Subscriber). eq_by_cmp digits_cmp s.imsi t.imsi ≡ false) ts
    heads [] g = tt
    heads (t ∷ ts) g = (g.0, heads ts g.1)

keys_of_own : (ss : List Subscriber) → AreOwn ss → IsDistinct (eq_by_cmp digits_cmp) (each (λ (s : Subscriber). s.imsi) ss)
unfolding IsDistinct
keys_of_own [] h = tt
keys_of_own (s ∷ ss) h = (heads ss h.0, keys_of_own ss h.1)
  where
    heads : (ts : List Subscriber) → AllByRecursion (λ (t : Subscriber). eq_by_cmp digits_cmp s.imsi t.imsi ≡ false) ts
        → AllByRecursion (λ k. eq_by_cmp digits_cmp s.imsi k ≡ false) (each (λ (t : Subscriber). t.imsi) ts)
    heads [] g = tt
    heads (t ∷ ts) g = (g.0, heads ts g.1)

own_entries : (ss : List Subscriber) → AreOwn ss → AreDistinct (each imsi_entry ss)
own_entries ss h = subst (λ (ks : List (List ℕ)). IsDistinct (eq_by_cmp digits_cmp) ks) (sym (keys_are ss)) (keys_of_own ss h)

both_own : (ss ts : List Subscriber) → AreOwn ss → AreOwn ts
    → AllByRecursion (λ (s : Subscriber). AllByRecursion (λ (t : Subscriber). eq_by_cmp digits_cmp s.imsi t.imsi ≡ false) ts) ss → AreOwn (ss ++ ts)
both_own [] ts h g cross = g
both_own (s ∷ ss) ts h g cross = (both_lists _ ss ts h.0 cross.0, both_own ss ts h.1 g cross.1)

-- each is found under its IMSI
own_found : (ss : List Subscriber) → AreOwn ss → AllByRecursion (λ (s : Subscriber). map.get (by_imsi ss) s.imsi ≡ Some s) ss
own_found [] h = tt
own_found (s ∷ ss) h = (
  map.get-insert digits_total (by_imsi ss) s.imsi s s.imsi ∙ ap (λ b. cond b (Some s) (map.get (by_imsi ss) s.imsi)) (digits_tie s.imsi),
  later ss h.0 (own_found ss h.1),
)
  where
    other : (t : Subscriber) → eq_by_cmp digits_cmp s.imsi t.imsi ≡ false → (b : Bool) → eq_by_cmp digits_cmp t.imsi s.imsi ≡ b → b ≡ false
    other t apart true tie = absurd (untied s.imsi t.imsi apart (sym (same_digits t.imsi s.imsi tie)))
    other t apart false tie = refl

    later : (ts : List Subscriber) → AllByRecursion (λ (t : Subscriber). eq_by_cmp digits_cmp s.imsi t.imsi ≡ false) ts
        → AllByRecursion (λ (t : Subscriber). map.get (by_imsi ss) t.imsi ≡ Some t) ts
        → AllByRecursion (λ (t : Subscriber). map.get (by_imsi (s ∷ ss)) t.imsi ≡ Some t) ts
    later [] apart found = tt
    later (t ∷ ts) apart found = (
      map.get-insert digits_total (by_imsi ss) s.imsi s t.imsi
          ∙ ap (λ b. cond b (Some s) (map.get (by_imsi ss) t.imsi)) (other t apart.0 (eq_by_cmp digits_cmp t.imsi s.imsi) refl) ∙ found.0,
      later ts apart.1 found.1,
    )

-- with a directory that has the MSISDN of each, no two share an IMSI or an MSISDN
apart_by : (directory : DirectoryMap) (ss : List Subscriber) → AllByRecursion (λ (s : Subscriber). map.get directory s.msisdn ≡ Some s.imsi) ss
    → AreOwn ss → AreApart ss
apart_by directory [] found h = tt
apart_by directory (s ∷ ss) found h = (heads ss found.1 h.0, apart_by directory ss found.1 h.1)
  where
    heads : (ts : List Subscriber) → AllByRecursion (λ (t : Subscriber). map.get directory t.msisdn ≡ Some t.imsi) ts
        → AllByRecursion (λ (t : Subscriber). eq_by_cmp digits_cmp s.imsi t.imsi ≡ false) ts → AllByRecursion (λ t. ¬ (Share s t)) ts
    heads [] there apart = tt
    heads (t ∷ ts) there apart = (by, heads ts there.1 apart.1)
      where
        by : ¬ (Share s t)
        by (inl same) = untied s.imsi t.imsi apart.0 same
        by (inr same) =
            untied s.imsi t.imsi apart.0 (same_Some s.imsi t.imsi (sym found.0 ∙ ap (map.get directory) same ∙ there.0))

-- ---- without the marks of current updates

apart_unmarked : (ss : List Subscriber) → AreApart ss → AreApart (each unmarked ss)
apart_unmarked [] h = tt
apart_unmarked (s ∷ ss) h = (heads ss h.0, apart_unmarked ss h.1)
  where
    heads : (ts : List Subscriber) → AllByRecursion (λ t. ¬ (Share s t)) ts → AllByRecursion (λ t. ¬ (Share (unmarked s) t)) (each unmarked ts)
    heads [] g = tt
    heads (t ∷ ts) g = (g.0, heads ts g.1)

unmarked_found : (ss : List Subscriber) (x : List ℕ) → map.get (by_imsi (each unmarked ss)) x ≡ option_map unmarked (map.get (by_imsi ss) x)
unmarked_found [] x = map.get-empty digits_cmp x ∙ sym (ap (option_map unmarked) (map.get-empty digits_cmp x))
unmarked_found (s ∷ ss) x =
    map.get-insert digits_total (by_imsi (each unmarked ss)) s.imsi (unmarked s) x
    ∙ by (unmarked_found ss x) (eq_by_cmp digits_cmp x s.imsi)
    ∙ sym (ap (option_map unmarked) (map.get-insert digits_total (by_imsi ss) s.imsi s x))
  where
    by : map.get (by_imsi (each unmarked ss)) x ≡ option_map unmarked (map.get (by_imsi ss) x) → (b : Bool)
        → cond b (Some (unmarked s)) (map.get (by_imsi (each unmarked ss)) x) ≡ option_map unmarked (cond b (Some s) (map.get (by_imsi ss) x))
    by later true = refl
    by later false = later

-- ---- records of one list after those of another

abbrev first_of : {X : Type 0} → Option X → Option X → Option X
first_of None other = other
first_of (Some x) other = Some x

in_either : (ss ts : List Subscriber) (x : List ℕ) → map.get (by_imsi (ss ++ ts)) x ≡ first_of (map.get (by_imsi ss) x) (map.get (by_imsi ts) x)
in_either [] ts x = sym (ap (λ o. first_of o (map.get (by_imsi ts) x)) (map.get-empty digits_cmp x))
in_either (s ∷ ss) ts x =
    map.get-insert digits_total (by_imsi (ss ++ ts)) s.imsi s x
    ∙ by (in_either ss ts x) (eq_by_cmp digits_cmp x s.imsi)
    ∙ sym (ap (λ o. first_of o (map.get (by_imsi ts) x)) (map.get-insert digits_total (by_imsi ss) s.imsi s x))
  where
    by : map.get (by_imsi (ss ++ ts)) x ≡ first_of (map.get (by_imsi ss) x) (map.get (by_imsi ts) x) → (b : Bool)
        → cond b (Some s) (map.get (by_imsi (ss ++ ts)) x) ≡ first_of (cond b (Some s) (map.get (by_imsi ss) x)) (map.get (by_imsi ts) x)
    by later true = refl
    by later false = later

or_none : {X : Type 0} (o : Option X) → first_of o None ≡ o
or_none None = refl
or_none (Some x) = refl

-- ---- the records of all shards

module _ (node : NodeState) (keeps : NodeKeeps node) (listed : (n : ℕ) (l : Log) → slice_get node.shards n ≡ Some l → AreListed l.state.records) where
  -- the shards from this place on
  abbrev From : ℕ → List Log → Type 0
  From k ls = (j : ℕ) (l : Log) → slice_get ls j ≡ Some l → slice_get node.shards (k + j) ≡ Some l

  at_first : (k : ℕ) (l : Log) (ls : List Log) → From k (l ∷ ls) → slice_get node.shards k ≡ Some l
  at_first k l ls stand = ap (slice_get node.shards) (here k) ∙ stand 0 l refl
    where
      here : (i : ℕ) → i ≡ i + 0
      here i = omega arith

  after_first : (k : ℕ) (l : Log) (ls : List Log) → From k (l ∷ ls) → From (k + 1) ls
  after_first k l ls stand j m e = ap (slice_get node.shards) (later j) ∙ stand (suc j) m e
    where
      later : (i : ℕ) → k + 1 + i ≡ k + suc i
      later i = omega arith

  own_part : (n : ℕ) (l : Log) → slice_get node.shards n ≡ Some l → (x : List ℕ)
      → map.get (by_imsi (map.values l.state.records)) x ≡ map.get l.state.records x
  own_part n l at x = ap (λ (m : RecordMap). map.get m x) (listed n l at).whole

  not_here : (n : ℕ) (l : Log) → slice_get node.shards n ≡ Some l → (x : List ℕ) → (shard_of x ≡ n → ⊥) → map.get l.state.records x ≡ None
  not_here n l at x other = elsewhere node keeps n l at x (by (shard_of x == n) refl)
    where
      by : (b : Bool) → shard_of x == n ≡ b → b ≡ false
      by true e = absurd (other (eqb-true _ _ e))
      by false e = refl

  -- nobody of an earlier shard is there
  none_before : (k : ℕ) (ls : List Log) → From k ls → (x : List ℕ) → shard_of x < k → map.get (by_imsi (records_in ls)) x ≡ None
  none_before k [] stand x lt = map.get-empty digits_cmp x
  none_before k (l ∷ ls) stand x lt =
      let at = at_first k l ls stand in
      let gone : shard_of x ≡ k → ⊥ = λ same. omega (arith, same, lt) in
      in_either (map.values l.state.records) (records_in ls) x
      ∙ ap (λ o. first_of o (map.get (by_imsi (records_in ls)) x)) (own_part k l at x ∙ not_here k l at x gone)
      ∙ none_before (k + 1) ls (after_first k l ls stand) x (omega (arith, lt))

  found_at : (k : ℕ) (ls : List Log) → From k ls → (j : ℕ) (x : List ℕ) → shard_of x ≡ k + j
      → map.get (by_imsi (records_in ls)) x ≡ record_in (slice_get ls j) x
  found_at k [] stand zero x is = map.get-empty digits_cmp x
  found_at k [] stand (suc j) x is = map.get-empty digits_cmp x
  found_at k (l ∷ ls) stand zero x is =
      let at = at_first k l ls stand in
      in_either (map.values l.state.records) (records_in ls) x
      ∙ ap (first_of (map.get (by_imsi (map.values l.state.records)) x))
      (none_before (k + 1) ls (after_first k l ls stand) x (omega (arith, is)))
      ∙ or_none _ ∙ own_part k l at x
  found_at k (l ∷ ls) stand (suc j) x is =
      let at = at_first k l ls stand in
      let gone : shard_of x ≡ k → ⊥ = λ same. omega (arith, same, is) in
      in_either (map.values l.state.records) (records_in ls) x
      ∙ ap (λ o. first_of o (map.get (by_imsi (records_in ls)) x)) (own_part k l at x ∙ not_here k l at x gone)
      ∙ found_at (k + 1) ls (after_first k l ls stand) j x (omega (arith, is))

  all_from : From 0 node.shards
  all_from j l e = ap (slice_get node.shards) (here j) ∙ e
    where
      here : (i : ℕ) → 0 + i ≡ i
      here i = omega arith

  pub found : (x : List ℕ) → map.get (by_imsi (records_in node.shards)) x ≡ record_of node x
  found x = found_at 0 node.shards all_from (shard_of x) x (here (shard_of x))
    where
      here : (i : ℕ) → i ≡ 0 + i
      here i = omega arith

  -- ---- no two have one IMSI

  part_own : (n : ℕ) (l : Log) → slice_get node.shards n ≡ Some l → AreOwn (map.values l.state.records)
  part_own n l at = own_of_keys (map.values l.state.records) (IsDistinct-from_sorted digits_cmp _ (listed n l at).order)

  part_shard : (n : ℕ) (l : Log) → slice_get node.shards n ≡ Some l → AllByRecursion (λ (s : Subscriber). shard_of s.imsi ≡ n) (map.values l.state.records)
  part_shard n l at =
      each_one (λ (s : Subscriber). map.get (by_imsi (map.values l.state.records)) s.imsi ≡ Some s) (λ (s : Subscriber). shard_of s.imsi ≡ n) here
      (map.values l.state.records) (own_found (map.values l.state.records) (part_own n l at))
    where
      here : (s : Subscriber) → map.get (by_imsi (map.values l.state.records)) s.imsi ≡ Some s → shard_of s.imsi ≡ n
      here s e = by (shard_of s.imsi == n) refl
        where
          by : (b : Bool) → shard_of s.imsi == n ≡ b → shard_of s.imsi ≡ n
          by true is = eqb-true _ _ is
          by false is =
              let none : None ≡ Some s = sym (own_part n l at s.imsi ∙ elsewhere node keeps n l at s.imsi is) ∙ e in absurd cc

  rest_shards : (k : ℕ) (ls : List Log) → From k ls → AllByRecursion (λ (s : Subscriber). k < shard_of s.imsi + 1) (records_in ls)
  rest_shards k [] stand = tt
  rest_shards k (l ∷ ls) stand =
      both_lists _ (map.values l.state.records) (records_in ls)
      (each_one (λ (s : Subscriber). shard_of s.imsi ≡ k) (λ (s : Subscriber). k < shard_of s.imsi + 1) (λ s e. omega (arith, e))
      (map.values l.state.records) (part_shard k l (at_first k l ls stand)))
      (each_one (λ (s : Subscriber). k + 1 < shard_of s.imsi + 1) (λ (s : Subscriber). k < shard_of s.imsi + 1) (λ s lt. omega (arith, lt))
      (records_in ls) (rest_shards (k + 1) ls (after_first k l ls stand)))

  shards_own : (k : ℕ) (ls : List Log) → From k ls → AreOwn (records_in ls)
  shards_own k [] stand = tt
  shards_own k (l ∷ ls) stand =
      let at = at_first k l ls stand in
      let later = after_first k l ls stand in
      both_own (map.values l.state.records) (records_in ls) (part_own k l at) (shards_own (k + 1) ls later)
      (each_one (λ (s : Subscriber). shard_of s.imsi ≡ k)
      (λ (s : Subscriber). AllByRecursion (λ (t : Subscriber). eq_by_cmp digits_cmp s.imsi t.imsi ≡ false) (records_in ls))
      (λ s here. each_one (λ (t : Subscriber). k + 1 < shard_of t.imsi + 1) (λ (t : Subscriber). eq_by_cmp digits_cmp s.imsi t.imsi ≡ false)
      (λ t there. other s t here there (eq_by_cmp digits_cmp s.imsi t.imsi) refl) (records_in ls) (rest_shards (k + 1) ls later))
      (map.values l.state.records) (part_shard k l at))
    where
      other : (s t : Subscriber) → shard_of s.imsi ≡ k → k + 1 < shard_of t.imsi + 1 → (b : Bool) → eq_by_cmp digits_cmp s.imsi t.imsi ≡ b → b ≡ false
      other s t here there true tie =
          let same : shard_of s.imsi ≡ shard_of t.imsi = ap shard_of (same_digits s.imsi t.imsi tie) in absurd (omega (arith, same, here, there))
      other s t here there false tie = refl

  pub all_own : AreOwn (records_in node.shards)
  all_own = shards_own 0 node.shards all_from

  -- ---- with their numbers

  module _ (numbered : AreNumbered node) where
    of_option : (o : Option Log) (x : List ℕ) → msisdn_of ((state_at o).records x) ≡ option_map (λ (s : Subscriber). s.msisdn) (record_in o x)
    unfolding opening
    of_option None x = refl
    of_option (Some l) x = ap msisdn_of (state_record l.state x) ∙ seen_number (map.get l.state.records x)

    whole_record : (x : List ℕ) → msisdn_in (whole node.shards) x ≡ msisdn_of ((states node.shards (machine_shard_of x)).records x)
    unfolding union
    whole_record x = refl

    whole_number : (x : List ℕ) → msisdn_in (whole node.shards) x ≡ option_map (λ (s : Subscriber). s.msisdn) (record_of node x)
    whole_number x =
        whole_record x ∙ ap (λ n. msisdn_of ((states node.shards n).records x)) (same_shard x)
        ∙ of_option (slice_get node.shards (shard_of x)) x

    in_directory : AllByRecursion (λ (s : Subscriber). map.get node.directory s.msisdn ≡ Some s.imsi) (records_in node.shards)
    in_directory =
        each_one (λ (s : Subscriber). map.get (by_imsi (records_in node.shards)) s.imsi ≡ Some s)
        (λ (s : Subscriber). map.get node.directory s.msisdn ≡ Some s.imsi)
        (λ s e. (numbered s.msisdn s.imsi).1
        (whole_number s.imsi ∙ ap (option_map (λ (t : Subscriber). t.msisdn)) (sym (found s.imsi) ∙ e)))
        (records_in node.shards) (own_found (records_in node.shards) all_own)

    all_apart : AreApart (records_in node.shards)
    all_apart = apart_by node.directory (records_in node.shards) in_directory all_own

    module _ (l : Log) (at : slice_get node.shards 0 ≡ Some l) (text : List ℕ) (under : SavesUnder l.state.hlr node.shards text) where
      abbrev ss : List Subscriber
      ss = each unmarked under.records

      record_again : (x : List ℕ) → map.get (by_imsi ss) x ≡ option_map unmarked (record_of node x)
      record_again x =
          unmarked_found under.records x
          ∙ ap (option_map unmarked)
          (ap (λ (m : RecordMap). map.get m x)
          (view_moved (records_in node.shards) under.records under.ordered.same (own_entries (records_in node.shards) all_own))
          ∙ found x)

      number_again : (x : List ℕ) → number_at (by_imsi ss) x ≡ msisdn_in (whole node.shards) x
      number_again x =
          ap (option_map (λ (s : Subscriber). s.msisdn)) (record_again x) ∙ twice (record_of node x) ∙ sym (whole_number x)
        where
          twice : (o : Option Subscriber) → option_map (λ (s : Subscriber). s.msisdn) (option_map unmarked o) ≡ option_map (λ (s : Subscriber). s.msisdn) o
          twice None = refl
          twice (Some s) = refl

      apart_again : AreApart ss
      apart_again = apart_unmarked under.records (apart_in_order (records_in node.shards) under.records under.ordered.same all_apart)

      directory_again : by_msisdn ss ≡ node.directory
      directory_again = map.same_map digits_total digits_exact (by_msisdn ss) node.directory (λ m.
          same_by (map.get (by_msisdn ss) m) (map.get node.directory m)
          (λ x e. (numbered m x).1 (sym (number_again x) ∙ (apart_numbered ss apart_again m x).0 e))
          (λ x e. (apart_numbered ss apart_again m x).1 (number_again x ∙ (numbered m x).0 e)))

      has_again : HasRecordsOf node (loaded_from (saved_contents l.state.hlr under.records))
      has_again = record {
        directory = directory_again;
        records = record_again;
        hlr = λ n m e. (keeps.shards.each n m e).state_is.hlr_is ∙ sym (keeps.shards.each 0 l at).state_is.hlr_is;
      }

    saved_as : (shards : List Log) (text : List ℕ) → node.shards ≡ shards → Saves shards text → IsSaved node text
    saved_as [] text are saves = let none : 16 ≡ 0 = sym keeps.shards.count ∙ ap length are in absurd (omega (arith, none))
    saved_as (l ∷ ls) text are saves =
        let at : slice_get node.shards 0 ≡ Some l = ap (λ z. slice_get z 0) are in
        let under : SavesUnder l.state.hlr node.shards text = subst (λ z. SavesUnder l.state.hlr z text) (sym are) saves in record {
          saves = subst (λ z. Saves z text) (sym are) saves;
          contents = saved_contents l.state.hlr under.records;
          file = under.again all_apart;
          has = has_again l at text under;
        }

    pub saved : (text : List ℕ) → Saves node.shards text → IsSaved node text
    saved text saves = saved_as node.shards text refl saves

-- ---- and restored

one_loaded : (text : List ℕ) (contents others : Contents) → File text contents → File text others → loaded_from contents ≡ loaded_from others
one_loaded text contents others file also =
    let both : Ok contents ≡ Ok others = sym (file_again text contents file) ∙ file_again text others also in
    let same : contents ≡ others = cc in
    ap loaded_from same

pub goes_on_saved : (r again : RegisterState) (text : List ℕ) (contents : Contents) (keep : Keep) (texts : List (List ℕ)) → NodeKeeps r.node
    → IsSaved r.node text → File text contents → AreImages r.node texts
    → ((n : ℕ) (l : Log) → slice_get r.node.shards n ≡ Some l → IsReadAgain l.state)
    → GoesOnFrom contents keep (flat_map (λ t. t) texts) again → IsAsBefore r.node again.node
goes_on_saved r again text contents keep texts keeps is file images reads on =
    goes_on r again contents keep texts keeps
    (subst (λ (loaded : Subscribers). HasRecordsOf r.node loaded) (one_loaded text is.contents contents is.file file) is.has) images reads on
