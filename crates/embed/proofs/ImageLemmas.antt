-- A register that is restored from its images goes on as it was.
use Rattle.std.proofs.Common.{◌≡◌, ◌<◌, ◌+◌, ◌==◌, ◌∷◌, ◌++◌, ℕ, zero, suc, List, [], Bool, true, false, cond, Option, Some, None, inl, inr, length, refl, sym, ap, ap₂, ◌∙◌, subst, arith, eqb-true}
use Rattle.std.specs.Prelude.{map as each, option_map, slice_get}
use Rattle.std.specs.FinMap as map
use Rattle.std.specs.List.{AllByRecursion, flat_map, range_with_len}
use Rattle.std.proofs.lemmas.Bool.{cases_lt}
use Rattle.std.proofs.lemmas.Option.{same_Some}
use Rattle.machine.specs.Parts.{part}
use Rattle.machine.specs.State as machine
use Rattle.records.specs.File.{Contents}
use Rattle.records.specs.Loaded.{Subscribers, loaded_from}
use Rattle.records.specs.Maps.{shard_of}
use Rattle.records.specs.Subscriber.{Subscriber, unmarked}
use Rattle.records.proofs.MapLemmas.{digits_exact}
use Rattle.smroute.specs.Seen.{machine_subscriber}
use Rattle.hlrcore.specs.Shards.{ShardState, state_of}
use Rattle.image_lines.specs.Lines.{IsLine}
use Rattle.images.specs.Again.{AreReadAgain, BeginsAs, EachIsReadAgain, IsReadAgain}
use Rattle.images.specs.Beginnings.{beginning, beginnings}
use Rattle.images.specs.Texts.{IsImage}
use Rattle.images.specs.Written.{image_text, shard_lines, shard_text}
use Rattle.images.proofs.AgainLemmas.{head_or, image_of, one_image, tail_of}
use Rattle.shardlog.specs.declared.keep.Keep.{Keep}
use Rattle.shardlog.specs.Log.{Log, fresh}
use Rattle.wholenode.specs.Keeping.{NodeKeeps}
use Rattle.wholenode.specs.Nodes.{NodeState, whole}
use Rattle.wholenode.specs.Replaying.{AreAlikeAt}
use Rattle.embed.specs.Images.{AreImages, GoesOnFrom, HasRecordsOf, IsAsBefore, states_in}
use Rattle.embed.specs.Lookups.{record_in}
use Rattle.embed.specs.Registers.{RegisterState}
use Rattle.embed.proofs.LookupLemmas.{same_shard, state_record}

-- It holds of the shards before this place.
abbrev pub AllBelow : (P : ShardState → Type 0) → List Log → ℕ → Type 0
AllBelow P shards i = (n : ℕ) (l : Log) → n < i → slice_get shards n ≡ Some l → P l.state

pub none_below : (P : ShardState → Type 0) (shards : List Log) → AllBelow P shards 0
none_below P shards n l lt e = absurd (omega (arith, lt))

pub within : (shards : List Log) (n : ℕ) (l : Log) → slice_get shards n ≡ Some l → n < length shards
within [] zero l e = absurd cc
within [] (suc n) l e = absurd cc
within (m ∷ shards) zero l e = omega arith
within (m ∷ shards) (suc n) l e = let below : n < length shards = within shards n l e in omega (arith, below)

pub one_more : (P : ShardState → Type 0) (shards : List Log) (i : ℕ) (l : Log) → slice_get shards i ≡ Some l → AllBelow P shards i → P l.state
    → AllBelow P shards (i + 1)
one_more P shards i l at before again n m lt e = elim (cases_lt n i) [
  | inl below ↦ before n m below e
  | inr above ↦
      let last : i ≡ n = omega (arith, lt, above) in
      let same : l ≡ m = same_Some l m (sym at ∙ ap (slice_get shards) last ∙ e) in
      subst (λ (z : Log). P z.state) same again
]

-- ---- what is restored has these states

states_back : (keep : Keep) (shards : List ShardState) → each (λ (l : Log). l.state) (each (fresh keep) shards) ≡ shards
states_back keep [] = refl
states_back keep (s ∷ ss) = ap (λ z. s ∷ z) (states_back keep ss)

-- ---- a shard of the file begins as the register's

no_record : (o : Option Subscriber) → option_map machine_subscriber o ≡ None → o ≡ None
no_record None e = refl
no_record (Some s) e = absurd cc

part_record : (S : machine.State) (n : ℕ) (x : List ℕ) → shard_of x == n ≡ false → (part S n).records x ≡ None
unfolding part
part_record S n x e = ap (λ k. cond (k == n) (S.records x) None) (same_shard x) ∙ ap (λ b. cond b (S.records x) None) e

pub elsewhere : (node : NodeState) → NodeKeeps node → (n : ℕ) (l : Log) → slice_get node.shards n ≡ Some l → (x : List ℕ) → shard_of x == n ≡ false
    → map.get l.state.records x ≡ None
elsewhere node keeps n l at x e =
    no_record _ (sym (state_record l.state x) ∙ ap (λ (S : machine.State). S.records x) (sym (keeps.parts n l at))
    ∙ part_record (whole node.shards) n x e)

module _ (node : NodeState) (keeps : NodeKeeps node) (loaded : Subscribers) (has : HasRecordsOf node loaded) where
  module _ (n : ℕ) (l : Log) (at : slice_get node.shards n ≡ Some l) where
    found : (x : List ℕ) (b : Bool) → shard_of x == n ≡ b → cond b (map.get loaded.records x) None ≡ option_map unmarked (map.get l.state.records x)
    found x true e =
        has.records x
        ∙ ap (option_map unmarked) (ap (λ k. record_in (slice_get node.shards k) x) (eqb-true _ _ e) ∙ ap (λ (o : Option Log). record_in o x) at)
    found x false e = sym (ap (option_map unmarked) (elsewhere node keeps n l at x e))

    begins_as : BeginsAs l.state (beginning loaded n)
    begins_as = record {
      shard = sym (keeps.shards.each n l at).state_is.shard_is;
      directory = has.directory ∙ sym (keeps.shards.each n l at).state_is.directory_is;
      hlr = sym (has.hlr n l at);
      records = λ x.
          map.get-retain_keys loaded.records (λ y. shard_of y == n) x (λ y tie. ap (λ z. shard_of z == n) (sym (digits_exact x y tie)))
          ∙ found x (shard_of x == n) refl;
    }

  -- ---- all of them

  module _ (texts : List (List ℕ)) (images : AreImages node texts) (reads : (n : ℕ) (l : Log) → slice_get node.shards n ≡ Some l → IsReadAgain l.state) where
    -- the text of a shard, if it has an image
    image_at : (n : ℕ) (l : Log) (t : List ℕ) → slice_get node.shards n ≡ Some l → slice_get texts n ≡ Some t
        → (t ≡ shard_text l.state) × AllByRecursion IsLine (shard_lines l.state)
    image_at n l t at there =
        let is = images.each n t there in
        let same : is.shard ≡ l = same_Some is.shard l (sym is.stands ∙ at) in
        let P : Log → Type 0 = λ z. (t ≡ shard_text z.state) × AllByRecursion IsLine (shard_lines z.state) in
        subst P same (is.text_is, is.lines)

    -- from this place on
    from_here : (n : ℕ) (shards : List Log) (left : List (List ℕ)) → length left ≡ length shards
        → ((k : ℕ) (l : Log) → slice_get shards k ≡ Some l → slice_get node.shards (n + k) ≡ Some l)
        → ((k : ℕ) (t : List ℕ) → slice_get left k ≡ Some t → slice_get texts (n + k) ≡ Some t)
        → EachIsReadAgain (each (λ (l : Log). l.state) shards) (each (beginning loaded) (range_with_len n (length shards)))
        × (flat_map (λ t. t) left ≡ image_text (each (λ (l : Log). l.state) shards))
    from_here n [] [] as_many stand are = (tt, refl)
    from_here n [] (t ∷ left) as_many stand are = absurd cc
    from_here n (l ∷ shards) [] as_many stand are = absurd cc
    from_here n (l ∷ shards) (t ∷ left) as_many stand are =
        let first : n + 0 ≡ n = omega arith in
        let at : slice_get node.shards n ≡ Some l = ap (slice_get node.shards) (sym first) ∙ stand 0 l refl in
        let there : slice_get texts n ≡ Some t = ap (slice_get texts) (sym first) ∙ are 0 t refl in
        let image = image_at n l t at there in
        let later : (k : ℕ) → n + suc k ≡ n + 1 + k = λ k. omega arith in
        let rest = from_here (n + 1) shards left (omega (arith, as_many))
        (λ k m e. ap (slice_get node.shards) (sym (later k)) ∙ stand (suc k) m e)
        (λ k u e. ap (slice_get texts) (sym (later k)) ∙ are (suc k) u e) in (
          ((begins_as n l at, reads n l at, image.1), rest.0),
          ap₂ (λ front more. front ++ more) image.0 rest.1,
        )

    each_read : EachIsReadAgain (states_in node) (beginnings loaded) × (flat_map (λ t. t) texts ≡ image_text (states_in node))
    each_read =
        let P : ℕ → Type 0 = λ k. EachIsReadAgain (states_in node) (each (beginning loaded) (range_with_len 0 k))
        × (flat_map (λ t. t) texts ≡ image_text (states_in node)) in
        subst P keeps.shards.count
        (from_here 0 node.shards texts (images.sixteen ∙ sym keeps.shards.count) (λ k l e. ap (slice_get node.shards) (none k) ∙ e)
        (λ k t e. ap (slice_get texts) (none k) ∙ e))
      where
        none : (k : ℕ) → 0 + k ≡ k
        none k = omega arith

    are_read : AreReadAgain (states_in node) (beginnings loaded)
    are_read = some (states_in node) each_read.0
      where
        some : (ss : List ShardState) → EachIsReadAgain ss (beginnings loaded) → AreReadAgain ss (beginnings loaded)
        some [] h = absurd h
        some (s ∷ ss) h = h

    pub same_states : (keep : Keep) (shards : List ShardState) (again : NodeState) → IsImage (flat_map (λ t. t) texts) (beginnings loaded) shards
        → again.shards ≡ each (fresh keep) shards → states_in again ≡ states_in node
    same_states keep shards again is are =
        let P : List ℕ → Type 0 = λ z. IsImage z (beginnings loaded) shards in
        let same : shards ≡ states_in node =
        one_image (image_text (states_in node)) (beginnings loaded) (states_in node) shards (image_of (states_in node) (beginnings loaded) are_read)
        (subst P each_read.1 is) in
        ap (each (λ (l : Log). l.state)) are ∙ states_back keep shards ∙ same

-- ---- and no event tells the two apart

alike_at : (ls ms : List Log) → each (λ (l : Log). l.state) ms ≡ each (λ (l : Log). l.state) ls → (n : ℕ)
    → AreAlikeAt (slice_get ls n) (slice_get ms n)
alike_at [] [] e zero = tt
alike_at [] [] e (suc n) = tt
alike_at [] (m ∷ ms) e n = absurd cc
alike_at (l ∷ ls) [] e n = absurd cc
alike_at (l ∷ ls) (m ∷ ms) e zero =
    let same : m.state ≡ l.state = ap (head_or m.state) e in record {
      state = ap state_of (sym same);
      shard = ap (λ (s : ShardState). s.dialogues.shard) (sym same);
      supply = ap (λ (s : ShardState). s.dialogues.supply) (sym same);
    }
alike_at (l ∷ ls) (m ∷ ms) e (suc n) = alike_at ls ms (ap tail_of e) n

pub goes_on : (r again : RegisterState) (contents : Contents) (keep : Keep) (texts : List (List ℕ)) → NodeKeeps r.node
    → HasRecordsOf r.node (loaded_from contents) → AreImages r.node texts
    → ((n : ℕ) (l : Log) → slice_get r.node.shards n ≡ Some l → IsReadAgain l.state)
    → GoesOnFrom contents keep (flat_map (λ t. t) texts) again → IsAsBefore r.node again.node
goes_on r again contents keep texts keeps has images reads on =
    let loaded = loaded_from contents in
    let same = same_states r.node keeps loaded has texts images reads keep on.restores.shards again.node on.restores.is_image on.restores.shards_are in
    record {
      states = same;
      alike = record { directory = sym (on.restores.directory_is ∙ has.directory); shards = alike_at r.node.shards again.node.shards same };
    }
