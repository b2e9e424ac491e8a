-- What an event leads to in a shard.
use Rattle.std.specs.Prelude.{◌≡◌, ◌≢◌, ◌↔◌, Result, Err, IfOk, OnOk, OnErr}
use Rattle.machine.specs.Events.{Event}
use Rattle.machine.specs.Routing.{route}
use Rattle.machine.specs.Step.{HasNoRoom}
use Rattle.frames.specs.Octets.{RawEvent, IsEvent, IsRouted, StepOctets}
use Rattle.hlrcore.specs.declared.answer.StepAnswer.{StepAnswer}
use Rattle.hlrcore.specs.declared.fault.StepFault.{StepFault}
use Rattle.hlrcore.specs.declared.fault.StepFault.TheVariants.{NotMine, NoRoom}
use Rattle.hlrcore.specs.Answers.{entry_of}
use Rattle.hlrcore.specs.Ids.{MovesIds}
use Rattle.hlrcore.specs.Shards.{IsSameShard, ShardState, directory_of, state_of}

-- The event from outside is this event of the machine, and it is for this shard.
pub record IsMine (s : ShardState) (raw : RawEvent) (e : Event) : Type 0 where
  pub is_event : IsEvent raw e
  pub routed : route (directory_of s.directory) e ≡ s.shard

-- The shard handles the event with this answer: a step of the machine over octets.
abbrev pub Leads : ShardState → RawEvent → StepAnswer → ShardState → Type 0
Leads s raw a t = StepOctets (state_of s) (entry_of raw a) (state_of t)

-- A shard is given an event, and this is what comes of it. What it handles is a step of the machine over octets, for an event of its own. The
-- id that it takes is the next one.
-- It answers `NotMine` exactly to an event of another shard, and `NoRoom` only where the machine has no step; such an event is never
-- handled. On error nothing changes.
pub record Steps (s : ShardState) (raw : RawEvent) (e : Event) (result : Result StepAnswer StepFault) (t : ShardState) : Type 0 where
  pub stepped : IfOk result (λ a. Leads s raw a t)
  pub ids : IfOk result (λ a. MovesIds s.dialogues a.id t.dialogues)
  pub routed : OnOk result (IsRouted (directory_of s.directory) raw s.shard)
  pub not_mine : (result ≡ Err NotMine) ↔ (route (directory_of s.directory) e ≢ s.shard)
  pub no_room : result ≡ Err NoRoom → HasNoRoom (state_of s) e
  pub room : HasNoRoom (state_of s) e → OnOk result ⊥
  pub err : OnErr result (t ≡ s)
  pub same_shard : IsSameShard s t
