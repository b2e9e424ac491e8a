-- The shards of a register that goes on where an image was made.
use Rattle.std.proofs.Common.{◌≡◌, ◌≢◌, ◌+◌, ◌∷◌, ℕ, zero, suc, List, [], length, refl, sym, ap, ap₂, ◌∙◌, subst, arith}
use Rattle.std.specs.Prelude.{Some, map as each, slice_get}
use Rattle.std.specs.List.{AllByRecursion, range_with_len}
use Rattle.std.proofs.lemmas.Option.{same_Some}
use Rattle.records.specs.Loaded.{Subscribers}
use Rattle.records.specs.Maps.{DirectoryMap}
use Rattle.hlrcore.specs.Shards.{IsSameShard, ShardState}
use Rattle.images.specs.Beginnings.{beginning, beginnings}
use Rattle.images.specs.Fits.{NoneOpen}
use Rattle.images.specs.Same.{AreSameShards}
use Rattle.images.proofs.BeginLemmas.{beginning_is}
use Rattle.wholenode.specs.Keeping.{AreStates}
use Rattle.wholenode.specs.Opening.{AreBeginning}

-- ---- as they begin

from_here : (loaded : Subscribers) (n : ℕ) (states : List ShardState)
    → ((k : ℕ) (s : ShardState) → slice_get states k ≡ Some s → s ≡ beginning loaded (n + k))
    → states ≡ each (beginning loaded) (range_with_len n (length states))
from_here loaded n [] are = refl
from_here loaded n (s ∷ ss) are =
    let first : n + 0 ≡ n = omega arith in
    let later : (k : ℕ) → n + suc k ≡ n + 1 + k = λ k. omega arith in
    ap₂ (λ z zs. z ∷ zs) (are 0 s refl ∙ ap (beginning loaded) first)
    (from_here loaded (n + 1) ss (λ k t e. are (suc k) t e ∙ ap (beginning loaded) (later k)))

pub are_beginnings : (loaded : Subscribers) (states : List ShardState) → AreBeginning loaded 0 16 states → states ≡ beginnings loaded
are_beginnings loaded states begin =
    from_here loaded 0 states (λ k s e. beginning_is loaded k s (begin.each k s e).opens_as (begin.each k s e).own ∙ ap (beginning loaded) (here k))
    ∙ ap (λ n. each (beginning loaded) (range_with_len 0 n)) begin.length_is
  where
    here : (k : ℕ) → k ≡ 0 + k
    here k = omega arith

all_places : (states : List ShardState) → ((k : ℕ) (s : ShardState) → slice_get states k ≡ Some s → NoneOpen s) → AllByRecursion NoneOpen states
all_places [] are = tt
all_places (s ∷ ss) are = (are 0 s refl, all_places ss (λ k. are (suc k)))

pub none_is_open : (loaded : Subscribers) (start : ℕ) (states : List ShardState) → AreBeginning loaded start 16 states → AllByRecursion NoneOpen states
none_is_open loaded start states begin = all_places states (λ k s e. (begin.each k s e).opens_as.none_open)

pub there_are : (loaded : Subscribers) (start : ℕ) (states : List ShardState) → AreBeginning loaded start 16 states → states ≢ []
there_are loaded start states begin none = let few : length states ≡ 0 = ap length none in absurd (omega (arith, few, begin.length_is))

-- ---- as they go on

same_many : (ss ts : List ShardState) → AreSameShards ss ts → length ts ≡ length ss
same_many [] [] h = refl
same_many [] (t ∷ ts) h = absurd h
same_many (s ∷ ss) [] h = absurd h
same_many (s ∷ ss) (t ∷ ts) h = ap suc (same_many ss ts h.1)

same_place : (ss ts : List ShardState) → AreSameShards ss ts → (n : ℕ) (t : ShardState) → slice_get ts n ≡ Some t
    → (s : ShardState) × (slice_get ss n ≡ Some s) × IsSameShard s t
same_place [] [] h zero t e = absurd cc
same_place [] [] h (suc n) t e = absurd cc
same_place [] (u ∷ ts) h n t e = absurd h
same_place (s ∷ ss) [] h n t e = absurd h
same_place (s ∷ ss) (u ∷ ts) h zero t e = (s, refl, subst (IsSameShard s) (same_Some u t e) h.0)
same_place (s ∷ ss) (u ∷ ts) h (suc n) t e = same_place ss ts h.1 n t e

pub restored_states : (loaded : Subscribers) (start : ℕ) (directory : DirectoryMap) (begin whole : List ShardState)
    → directory ≡ loaded.directory → AreBeginning loaded start 16 begin → AreSameShards begin whole → AreStates directory whole
restored_states loaded start directory begin whole same beginning same_ones = record {
  hlr = loaded.hlr;
  count = same_many begin whole same_ones ∙ beginning.length_is;
  each = λ n s e.
      let was = same_place begin whole same_ones n s e in
      let is = (beginning.each n was.0 was.1).opens_as in record {
        shard_is = was.2.shard ∙ is.shard_is;
        directory_is = was.2.directory ∙ is.directory_is ∙ sym same;
        hlr_is = was.2.hlr ∙ is.hlr_is;
      };
}
