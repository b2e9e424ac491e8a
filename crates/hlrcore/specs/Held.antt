-- Where the frames of a step are kept.
use Rattle.std.specs.Prelude.{List, [], ◌∷◌, map}
use Rattle.std.specs.Arc.{arc_value}
use Rattle.frames.specs.Octets.{RawOut}
use Rattle.hlrcore.specs.Frames.{raw_out}
use Rattle.hlrcore.specs.declared.out_list.Held.{Held}
use Rattle.hlrcore.specs.declared.out_list.Held.TheVariants.{Nothing, One, Two}

-- the frames, in order
abbrev pub frames_in : Held → List RawOut
frames_in Nothing = []
frames_in (One out) = raw_out (arc_value out) ∷ []
frames_in (Two outs) = map raw_out (arc_value outs)
