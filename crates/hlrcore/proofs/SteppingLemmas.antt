-- What comes of an event that a shard is given.
use Rattle.std.proofs.Common.{◌≡◌}
use Rattle.std.specs.Prelude.{Result, Ok, Err, IfOk, OnOk, OnErr}
use Rattle.machine.specs.Events.{Event}
use Rattle.machine.specs.Step.{HasNoRoom}
use Rattle.frames.specs.Octets.{RawEvent}
use Rattle.hlrcore.specs.declared.answer.StepAnswer.{StepAnswer}
use Rattle.hlrcore.specs.declared.fault.StepFault.{StepFault}
use Rattle.hlrcore.specs.declared.fault.StepFault.TheVariants.{NotMine, NoRoom}
use Rattle.hlrcore.specs.Leading.{IsMine, Leads, Steps}
use Rattle.hlrcore.specs.Ids.{MovesIds}
use Rattle.hlrcore.specs.Shards.{IsSameShard, ShardState, state_of}

on_ok : {A E X : Type 0} (r : Result A E) → X → OnOk r X
on_ok (Ok a) x = x
on_ok (Err e) x = tt

-- it is for this one
pub own : (s t : ShardState) (raw : RawEvent) (e : Event) (r : Result StepAnswer StepFault) → IsMine s raw e → (r ≡ Err NotMine → ⊥)
    → (r ≡ Err NoRoom → HasNoRoom (state_of s) e) → (HasNoRoom (state_of s) e → OnOk r ⊥) → IfOk r (λ a. Leads s raw a t)
    → IfOk r (λ a. MovesIds s.dialogues a.id t.dialogues) → OnErr r (t ≡ s) → IsSameShard s t → Steps s raw e r t
own s t raw e r mine here no_room room steps ids err same = record {
  stepped = steps;
  ids = ids;
  routed = on_ok r (e, mine.is_event, mine.routed);
  not_mine = ((λ is. absurd (here is)), (λ other. absurd (other mine.routed)));
  no_room = no_room;
  room = room;
  err = err;
  same_shard = same;
}

-- and it is handled, and is no change for which there is no room
pub handled : (s t : ShardState) (raw : RawEvent) (e : Event) (a : StepAnswer) → IsMine s raw e → (HasNoRoom (state_of s) e → ⊥) → Leads s raw a t
    → MovesIds s.dialogues a.id t.dialogues → IsSameShard s t → Steps s raw e (Ok a) t
handled s t raw e a mine room steps ids same =
    own s t raw e (Ok a) mine (λ e. cc) (λ e. cc) room steps ids tt same
