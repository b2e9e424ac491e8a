use Rattle.std.proofs.Common.{◌≡◌, ℕ, ◌<◌, [], slice_index_or}
use Rattle.dialogues.specs.Dialogues.{dialogues_of}
use Rattle.dialogues.proofs.same.same_in.Given as goal

abbrev pub invariant-loop-id : goal.invariant-loop-id
invariant-loop-id l = (k : ℕ) → k < l.id-index → dialogues_of l.left (slice_index_or l.ids k []) ≡ dialogues_of l.right (slice_index_or l.ids k [])
