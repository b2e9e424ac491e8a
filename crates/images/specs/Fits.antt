-- What fits together of a shard that is read.
use Rattle.std.specs.Prelude.{◌≡◌, ◌≤◌, None}
use Rattle.machine.specs.declared.numbers.TheConstants.{MAX_CLOCK}
use Rattle.machine.specs.Effect.{AreRising}
use Rattle.dialogues.specs.Dialogues.{dialogues_of}
use Rattle.hlrcore.specs.Shards.{ShardState}
use Rattle.images.specs.declared.so_far.Stage as code
use Rattle.images.specs.declared.so_far.Stage.TheVariants as stages
use Rattle.images.specs.declared.so_far.Reading as code_reading
use Rattle.images.specs.declared.so_far.Image as code_image
use Rattle.std.specs.List.{AllByRecursion}

abbrev pub NoneOpen : ShardState → Type 0
NoneOpen s = dialogues_of s.dialogues ≡ (λ _. None)

-- Until its ids are all there, a shard has no open dialogue; the ids are its own, and the clock is one that a shard may have. The invocations of
-- the next dialogue ascend.
abbrev pub Fits : ShardState → code.Stage → Type 0
Fits s stages.Begins = NoneOpen s
Fits s (stages.HasIds clock ids) = NoneOpen s × (clock ≤ MAX_CLOCK) × (ids.shard ≡ s.shard)
Fits s (stages.HasOpened left invocations) = AreRising invocations
Fits s stages.Whole = Unit {0}

abbrev pub IsFit : code_reading.Reading → Type 0
IsFit r = Fits r.state r.stage

-- The shards that begin later have no open dialogue.
abbrev pub IsFitImage : code_image.Image → Type 0
IsFitImage im = IsFit im.now × AllByRecursion NoneOpen im.later.items
