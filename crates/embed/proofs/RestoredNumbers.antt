-- An image changes no number: the directory is that of the records also in a register that goes on from one.
use Rattle.std.proofs.Common.{◌≡◌, ◌<◌, ◌+◌, ◌==◌, arith, ℕ, List, [], ◌∷◌, ◌++◌, Bool, true, false, cond, Option, Some, None, inl, inr, append_assoc, refl, sym, ap, ap₂, ◌∙◌, eq-eqb}
use Rattle.std.proofs.Math.Path.{fun_ext}
use Rattle.std.specs.Prelude.{map as each, option_map, slice_get}
use Rattle.std.specs.FinMap as map
use Rattle.std.specs.FinSet as set
use Rattle.std.specs.List.{range_with_len}
use Rattle.std.specs.Ordering.{eq_by_cmp}
use Rattle.std.proofs.lemmas.List.FromFn.{get_or-range_with_len}
use Rattle.std.proofs.lemmas.Option.{slice_get-get_or, slice_get-map}
use Rattle.machine.specs.Keys.{shard_of as machine_shard_of}
use Rattle.machine.specs.Opening.{opening}
use Rattle.machine.specs.Parts.{union}
use Rattle.machine.specs.State.{Dialogue, Invocation}
use Rattle.machine_laws.specs.Numbers.{msisdn_in, msisdn_of}
use Rattle.machine_laws.proofs.Steps.{shard_small}
use Rattle.records.specs.File.{AreApart, Contents}
use Rattle.records.specs.Loaded.{Subscribers, loaded_from}
use Rattle.records.specs.Maps.{RecordMap, digits_cmp, shard_of}
use Rattle.records.specs.Subscriber.{Subscriber}
use Rattle.records.proofs.MapLemmas.{digits_exact, digits_total, same_digits}
use Rattle.hlrcore.specs.Resuming.{marked, reopened, with_current}
use Rattle.hlrcore.specs.Shards.{ShardState}
use Rattle.image_lines.specs.Lines.{Line, Shard, Used, Freed, Opened, Waits, End}
use Rattle.images.specs.Beginnings.{beginning, beginnings}
use Rattle.images.specs.Reading.{Begins, Ends, HasIds, HasOpened, Image, IsWhole, OpensAt, Reading, Stage, Takes, TakesLine, TakesLines, Whole, reading, with_ids}
use Rattle.images.specs.Texts.{IsImage}
use Rattle.shardlog.specs.declared.keep.Keep.{Keep}
use Rattle.shardlog.specs.Log.{Log, fresh}
use Rattle.wholenode.specs.Nodes.{NodeState, state_at, states, whole}
use Rattle.restoring.specs.Restoring.{Restores}
use Rattle.embed.specs.Numbers.{AreNumbered}
use Rattle.embed.proofs.LookupLemmas.{same_shard, state_record}
use Rattle.embed.proofs.NumberLemmas.{loaded_numbered, number_at, seen_number}

-- who is a subscriber of the shard, and under which number
abbrev numbers_of : ShardState → List ℕ → Option (List ℕ)
numbers_of s = number_at s.records

-- ---- a line of an image

marked_number : (records : RecordMap) (imsi id : List ℕ) (found : Option Subscriber) → map.get records imsi ≡ found → (x : List ℕ)
    → number_at (marked imsi id found records) x ≡ number_at records x
marked_number records imsi id None at x = refl
marked_number records imsi id (Some r) at x =
    ap number (map.get-insert digits_total records imsi (with_current id r) x) ∙ by (eq_by_cmp digits_cmp x imsi) refl
  where
    number : Option Subscriber → Option (List ℕ)
    number o = option_map (λ (s : Subscriber). s.msisdn) o

    by : (b : Bool) → eq_by_cmp digits_cmp x imsi ≡ b → number (cond b (Some (with_current id r)) (map.get records x)) ≡ number (map.get records x)
    by true tie = sym (ap number (ap (map.get records) (same_digits x imsi tie) ∙ at))
    by false other = refl

reopened_numbers : (s : ShardState) (is_current : Bool) (d : Dialogue) → numbers_of (reopened s is_current d) ≡ numbers_of s
reopened_numbers s false d = refl
reopened_numbers s true d =
    fun_ext (λ x. marked_number s.records d.subscriber _ (map.get s.records d.subscriber) refl x)

abbrev Same : ShardState → Reading → Type 0
Same s r = numbers_of r.state ≡ numbers_of s

reopened_read : (s : ShardState) (mark : Bool) (d : Dialogue) (left : ℕ) (r : Reading) → r ≡ reading (reopened s mark d) (HasOpened left []) → Same s r
reopened_read s mark d left r is = ap (λ (z : Reading). numbers_of z.state) is ∙ reopened_numbers s mark d

opened : (s : ShardState) (left : ℕ) (vs : List Invocation) (line : Line) (r : Reading) → OpensAt s left vs line r → Same s r
opened s left vs (Waits v) r p = ap (λ (z : Reading). numbers_of z.state) p.1
opened s left vs (Opened id mark d) r p = reopened_read s mark _ _ r p.3
opened s left vs (Shard n clock first) r p = absurd p
opened s left vs (Used id) r p = absurd p
opened s left vs (Freed id) r p = absurd p
opened s left vs End r p = ap (λ (z : Reading). numbers_of z.state) p.2

taken : (s : ShardState) (stage : Stage) (line : Line) (r : Reading) → Takes (reading s stage) line r → Same s r
taken s Begins (Shard n clock first) r p = ap (λ (z : Reading). numbers_of z.state) p.1
taken s Begins (Used id) r p = absurd p
taken s Begins (Freed id) r p = absurd p
taken s Begins (Opened id mark d) r p = absurd p
taken s Begins (Waits v) r p = absurd p
taken s Begins End r p = absurd p
taken s (HasIds clock ids) (Shard n later first) r p = absurd p
taken s (HasIds clock ids) (Used id) r p = ap (λ (z : Reading). numbers_of z.state) p.2
taken s (HasIds clock ids) (Freed id) r p = ap (λ (z : Reading). numbers_of z.state) p.1
taken s (HasIds clock ids) (Opened id mark d) r p = opened (with_ids s clock ids) (set.len ids.live) [] (Opened id mark d) r p
taken s (HasIds clock ids) (Waits v) r p = opened (with_ids s clock ids) (set.len ids.live) [] (Waits v) r p
taken s (HasIds clock ids) End r p = opened (with_ids s clock ids) (set.len ids.live) [] End r p
taken s (HasOpened left vs) line r p = opened s left vs line r p
taken s Whole line r p = absurd p

ended : (s : ShardState) (stage : Stage) (t : ShardState) → Ends (reading s stage) t → numbers_of t ≡ numbers_of s
ended s Begins t p = absurd p
ended s (HasIds clock ids) t p = absurd p
ended s (HasOpened left vs) t p = absurd p
ended s Whole t p = ap numbers_of p

-- ---- all shards

-- those of each shard: of those that are whole, of the one that is read, and of those that begin later
abbrev all_numbers : Image → List (List ℕ → Option (List ℕ))
all_numbers im = each numbers_of (im.done ++ im.now.state ∷ im.later)

in_front : (done xs ys : List ShardState) → each numbers_of xs ≡ each numbers_of ys → each numbers_of (done ++ xs) ≡ each numbers_of (done ++ ys)
in_front [] xs ys h = h
in_front (d ∷ done) xs ys h = ap (λ z. numbers_of d ∷ z) (in_front done xs ys h)

taken_line : (before : Image) (line : Line) (after : Image) → TakesLine before line after → all_numbers after ≡ all_numbers before
taken_line before line after (inl p) =
    ap all_numbers p.2
    ∙ in_front before.done _ _ (ap (λ z. z ∷ each numbers_of before.later) (taken before.now.state before.now.stage line p.0 p.1))
taken_line before line after (inr (t, s, left, r, ends, later, takes, is)) =
    ap all_numbers is
    ∙ ap (each numbers_of) (append_assoc before.done (t ∷ []) (r.state ∷ left))
    ∙ in_front before.done (t ∷ r.state ∷ left) (before.now.state ∷ s ∷ left)
    (ap₂ (λ y z. y ∷ z ∷ each numbers_of left) (ended before.now.state before.now.stage t ends) (taken s Begins line r takes))
    ∙ ap (λ z. each numbers_of (before.done ++ before.now.state ∷ z)) (sym later)

taken_lines : (lines : List Line) (before after : Image) → TakesLines before lines after → all_numbers after ≡ all_numbers before
taken_lines [] before after e = ap all_numbers (sym e)
taken_lines (line ∷ rest) before after t = taken_lines rest t.0 after t.2 ∙ taken_line before line t.0 t.1

whole_numbers : (im : Image) (shards : List ShardState) → IsWhole im shards → each numbers_of shards ≡ all_numbers im
whole_numbers im shards w =
    ap (each numbers_of) w.3
    ∙ in_front im.done (w.0 ∷ []) (im.now.state ∷ []) (ap (λ z. z ∷ []) (ended im.now.state im.now.stage w.0 w.1))
    ∙ ap (λ z. each numbers_of (im.done ++ im.now.state ∷ z)) (sym w.2)

image_numbers : (written : List ℕ) (begin shards : List ShardState) → IsImage written begin shards → each numbers_of shards ≡ each numbers_of begin
image_numbers written [] shards im = absurd im.starts
image_numbers written (s ∷ later) shards im =
    whole_numbers im.end shards im.whole ∙ taken_lines im.these im.start im.end im.takes ∙ ap all_numbers im.starts

-- ---- the register

module _ (x : List ℕ) where
  abbrev number_in : Option (List ℕ → Option (List ℕ)) → Option (List ℕ)
  number_in None = None
  number_in (Some f) = f x

  of_state : (keep : Keep) (o : Option ShardState) → msisdn_of ((state_at (option_map (fresh keep) o)).records x) ≡ number_in (option_map numbers_of o)
  unfolding opening
  of_state keep None = refl
  of_state keep (Some s) = ap msisdn_of (state_record s x) ∙ seen_number (map.get s.records x)

  whole_number : (shards : List Log) → msisdn_in (whole shards) x ≡ msisdn_of ((states shards (machine_shard_of x)).records x)
  unfolding union
  whole_number shards = refl

  in_shards : (keep : Keep) (ss : List ShardState) → msisdn_in (whole (each (fresh keep) ss)) x
      ≡ number_in (slice_get (each numbers_of ss) (machine_shard_of x))
  in_shards keep ss =
      let n = machine_shard_of x in
      whole_number (each (fresh keep) ss)
      ∙ ap (λ (o : Option Log). msisdn_of ((state_at o).records x)) (slice_get-map (fresh keep) ss n)
      ∙ of_state keep (slice_get ss n) ∙ ap number_in (sym (slice_get-map numbers_of ss n))

  beginning_at : (loaded : Subscribers) (n : ℕ) → n < 16 → slice_get (beginnings loaded) n ≡ Some (beginning loaded n)
  beginning_at loaded n lt =
      slice_get-map (beginning loaded) (range_with_len 0 16) n
      ∙ ap (option_map (beginning loaded)) (slice_get-get_or (range_with_len 0 16) n 0 lt ∙ ap Some (get_or-range_with_len 0 16 n 0 lt ∙ here n))
    where
      here : (k : ℕ) → 0 + k ≡ k
      here k = omega arith

  part_number : (records : RecordMap) (n : ℕ) → shard_of x ≡ n → number_at (map.retain_keys records (λ y. shard_of y == n)) x ≡ number_at records x
  part_number records n is =
      ap (option_map (λ (s : Subscriber). s.msisdn))
      (map.get-retain_keys records (λ y. shard_of y == n) x (λ y tie. ap (λ z. shard_of z == n) (sym (digits_exact x y tie)))
      ∙ ap (λ b. cond b (map.get records x) None) (eq-eqb (shard_of x) n is))

  in_beginnings : (loaded : Subscribers) → number_in (slice_get (each numbers_of (beginnings loaded)) (machine_shard_of x)) ≡ number_at loaded.records x
  in_beginnings loaded =
      let n = machine_shard_of x in
      ap number_in (slice_get-map numbers_of (beginnings loaded) n ∙ ap (option_map numbers_of) (beginning_at loaded n (shard_small x)))
      ∙ part_number loaded.records n (sym (same_shard x))

pub restored_numbered : (contents : Contents) (keep : Keep) (image : List ℕ) (node : NodeState) → AreApart contents.records
    → Restores (loaded_from contents) keep image node → AreNumbered node
restored_numbered contents keep image node apart restores =
    let loaded = loaded_from contents in
    loaded_numbered contents node apart restores.directory_is (λ x.
    ap (λ z. msisdn_in (whole z) x) restores.shards_are
    ∙ in_shards x keep restores.shards
    ∙ ap (λ z. number_in x (slice_get z (machine_shard_of x))) (image_numbers image (beginnings loaded) restores.shards restores.is_image)
    ∙ in_beginnings x loaded)
