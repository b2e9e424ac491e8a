-- A line goes on with a shard, or begins the next one.
use Rattle.std.proofs.Common.{◌≡◌, ◌∷◌, inl, inr, List, [], Option, Some, None, Result, Ok, Err, refl, ap, subst, Bor, suc, ◌≤◌, length, arith}
use Rattle.std.specs.List.{AllByRecursion}
use Rattle.std.specs.Slice.{IsItemAt}
use Rattle.hlrcore.specs.Shards.{ShardState}
use Rattle.image_lines.specs.Lines.{Line}
use Rattle.images.specs.declared.so_far.Reading as code
use Rattle.images.specs.declared.so_far.Image as code_image
use Rattle.images.specs.Fits.{NoneOpen}
use Rattle.images.specs.Reading.{Begins, BeginsNext, Ends, GoesOn, HasIds, HasOpened, Whole, Image, Reading, Stage, Takes, TakesLine, reading}
use Rattle.images.specs.Seen.{EndsIf, TakesIf, TakesNext}

-- ---- what cannot follow

-- a whole shard takes no line
pub none_follows : (s : ShardState) (stage : Stage) (line : Line) (r : Reading) → stage ≡ Whole → Takes (reading s stage) line r → ⊥
none_follows s Begins line r e h = absurd cc
none_follows s (HasIds clock ids) line r e h = absurd cc
none_follows s (HasOpened left vs) line r e h = absurd cc
none_follows s Whole line r e h = h

-- only after its last line a shard is whole
pub not_ended : (s : ShardState) (stage : Stage) (t : ShardState) → (stage ≡ Whole → ⊥) → Ends (reading s stage) t → ⊥
not_ended s Begins t never h = h
not_ended s (HasIds clock ids) t never h = h
not_ended s (HasOpened left vs) t never h = h
not_ended s Whole t never h = never refl

pub refuses : (Next : Reading → Type 0) (o : Option code.Reading) → ((x : code.Reading) → o ≡ Some x → ⊥) → TakesIf Next o → (r : Reading) → Next r → ⊥
refuses Next None never h r n = h r n
refuses Next (Some x) never h r n = never x refl

-- ---- one of the two

pub by_next : {E : Type 0} (before : Image) (line : Line) (r : Result (Option code_image.Image) E) → ((x : Reading) → Takes before.now line x → ⊥)
    → TakesNext (BeginsNext before line) r → TakesNext (TakesLine before line) r
by_next before line (Ok (Some im)) never h = (inr h.0, h.1)
by_next before line (Ok None) never h = λ im. elim [ inl g ↦ never g.0 g.1 | inr g ↦ h im g ]
by_next before line (Err e) never h = tt

pub by_same : {E : Type 0} (before : Image) (line : Line) (r : Result (Option code_image.Image) E) → ((t : ShardState) → Ends before.now t → ⊥)
    → TakesNext (GoesOn before line) r → TakesNext (TakesLine before line) r
by_same before line (Ok (Some im)) never h = (inl h.0, h.1)
by_same before line (Ok None) never h = λ im. elim [ inl g ↦ h im g | inr g ↦ never g.0 g.4 ]
by_same before line (Err e) never h = tt

-- ---- shards that begin later

abbrev head_or : ShardState → List ShardState → ShardState
head_or x [] = x
head_or x (y ∷ ys) = y

pub head_is : (s o : ShardState) (ss os : List ShardState) → s ∷ ss ≡ o ∷ os → s ≡ o
head_is s o ss os e = ap (head_or s) e

pub rest_begin : (later rest : List ShardState) (next : ShardState) → later ≡ next ∷ rest → AllByRecursion NoneOpen later
    → NoneOpen next × AllByRecursion NoneOpen rest
rest_begin later rest next e all = subst (AllByRecursion NoneOpen) e all

-- ---- nothing is left

pub nothing_there : {X : Type 0} (xs : List X) (o : Option (Bor X)) → ((x : Bor X) → o ≡ Some x → ⊥) → IsItemAt xs 0 o → xs ≡ []
nothing_there [] o never h = refl
nothing_there (x ∷ xs) None never h = absurd (let few : suc (length xs) ≤ 0 = h.3 in omega (arith, few))
nothing_there (x ∷ xs) (Some y) never h = absurd (never y refl)

pub not_whole : (Is : ShardState → Type 0) (o : Option ShardState) → ((x : ShardState) → o ≡ Some x → ⊥) → EndsIf (λ (t : ShardState). t) Is o
    → (t : ShardState) → Is t → ⊥
not_whole Is None never h t is = h t is
not_whole Is (Some x) never h t is = never x refl
