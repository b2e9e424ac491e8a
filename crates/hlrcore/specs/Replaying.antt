-- What a shard comes to when the same events are handled again.
use Rattle.std.specs.Prelude.{◌≡◌, List, [], ◌∷◌}
use Rattle.frames.specs.Octets.{RawEvent}
use Rattle.hlrcore.specs.declared.answer.StepAnswer.{StepAnswer}
use Rattle.hlrcore.specs.Ids.{MovesIds}
use Rattle.hlrcore.specs.Leading.{Leads}
use Rattle.hlrcore.specs.Shards.{ShardState, state_of}

-- The events are handled one after the other, with these answers, and lead from one state to the other.
abbrev pub Runs : ShardState → List RawEvent → List StepAnswer → ShardState → Type 0
Runs s [] [] t = t ≡ s
Runs s (raw ∷ raws) (a ∷ answers) t = (m : ShardState) × Leads s raw a m × MovesIds s.dialogues a.id m.dialogues × Runs m raws answers t
Runs s _ _ t = ⊥

-- No event tells these two apart: they are the same state of the machine, and the same local ids come next.
pub record IsAlike (s t : ShardState) : Type 0 where
  pub state : state_of s ≡ state_of t
  pub shard : s.dialogues.shard ≡ t.dialogues.shard
  pub supply : s.dialogues.supply ≡ t.dialogues.supply
