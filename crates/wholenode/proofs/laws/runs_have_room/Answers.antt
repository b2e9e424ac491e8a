use Rattle.wholenode.proofs.RoomLemmas.{runs_have_room}
use Rattle.wholenode.proofs.laws.runs_have_room.Goals as goal

pub returns : goal.returns
returns c = runs_have_room
