-- What was read of an image, as the code has it.
use Rattle.std.specs.Prelude.{◌≡◌, ◌⊎◌, [], Option, Some, None, Result, Ok, Err}
use Rattle.std.specs.FinSet as set
use Rattle.hlrcore.specs.Shards.{ShardState}
use Rattle.images.specs.declared.so_far.Stage as code
use Rattle.images.specs.declared.so_far.Stage.TheVariants as stages
use Rattle.images.specs.declared.so_far.Reading as code_reading
use Rattle.images.specs.declared.so_far.Opening as code_opening
use Rattle.images.specs.declared.so_far.Image as code_image
use Rattle.machine.specs.Effect.{AreRising}
use Rattle.images.specs.Fits.{IsFit, IsFitImage}
use Rattle.images.specs.Reading.{Begins, HasIds, HasOpened, Whole, Image, Reading, Stage, reading, with_ids}

abbrev pub stage_of : code.Stage → Stage
stage_of stages.Begins = Begins
stage_of (stages.HasIds clock ids) = HasIds clock ids
stage_of (stages.HasOpened left invocations) = HasOpened left invocations
stage_of stages.Whole = Whole

abbrev pub seen : code_reading.Reading → Reading
seen r = reading r.state (stage_of r.stage)

abbrev pub seen_opening : code_opening.Opening → Reading
seen_opening o = reading o.state (HasOpened o.left o.invocations)

-- What follows, or that nothing does, unless memory ran out.
abbrev pub TakesIf : (Reading → Type 0) → Option code_reading.Reading → Type 0
TakesIf Next (Some r) = Next (seen r) × IsFit r
TakesIf Next None = (r : Reading) → Next r → ⊥

abbrev pub TakesOne : {E : Type 0} → (Reading → Type 0) → Result (Option code_reading.Reading) E → Type 0
TakesOne Next (Ok taken) = TakesIf Next taken
TakesOne Next (Err e) = Unit {0}

-- The shard with all its ids, if its ids were read.
abbrev pub IsOpeningOf : ShardState → Stage → code_opening.Opening → Type 0
IsOpeningOf s Begins o = ⊥
IsOpeningOf s (HasIds clock ids) o = seen_opening o ≡ reading (with_ids s clock ids) (HasOpened (set.len ids.live) [])
IsOpeningOf s (HasOpened left vs) o = seen_opening o ≡ reading s (HasOpened left vs)
IsOpeningOf s Whole o = ⊥

abbrev pub OpensUp : {E : Type 0} → Reading → Result (Option code_opening.Opening) E → Type 0
OpensUp before (Ok (Some o)) = IsOpeningOf before.state before.stage o × AreRising o.invocations
OpensUp before (Ok None) = (before.stage ≡ Begins) ⊎ (before.stage ≡ Whole)
OpensUp before (Err e) = Unit {0}

-- What is whole, or that nothing is; the second, unless memory ran out.
abbrev pub EndsIf : {X S : Type 0} → (X → S) → (S → Type 0) → Option X → Type 0
EndsIf of Is (Some x) = Is (of x)
EndsIf {S = S} of Is None = (t : S) → Is t → ⊥

abbrev pub EndsAs : {E X S : Type 0} → (X → S) → (S → Type 0) → Result (Option X) E → Type 0
EndsAs of Is (Ok ended) = EndsIf of Is ended
EndsAs of Is (Err e) = Unit {0}

-- ---- all shards

abbrev pub seen_image : code_image.Image → Image
seen_image im = record { done = im.done.items; now = seen im.now; later = im.later.items }

abbrev pub TakesNext : {E : Type 0} → (Image → Type 0) → Result (Option code_image.Image) E → Type 0
TakesNext Next (Ok (Some im)) = Next (seen_image im) × IsFitImage im
TakesNext Next (Ok None) = (im : Image) → Next im → ⊥
TakesNext Next (Err e) = Unit {0}
