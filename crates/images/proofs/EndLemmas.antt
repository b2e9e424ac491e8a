-- What follows the ids of a shard, and what its dialogues.
use Rattle.std.proofs.Common.{ℕ, List, Bool, Option, Result, subst}
use Rattle.machine.specs.State.{Dialogue, Invocation}
use Rattle.hlrcore.specs.Shards.{ShardState}
use Rattle.image_lines.specs.Lines.{End, Opened, Waits}
use Rattle.images.specs.declared.so_far.Opening.{Opening}
use Rattle.images.specs.declared.so_far.Reading as code
use Rattle.images.specs.Reading.{Begins, HasIds, HasOpened, Whole, OpensAt, Stage, Takes, reading}
use Rattle.images.specs.Seen.{IsOpeningOf, TakesIf, TakesOne}

-- ---- a line of a dialogue, or of an invocation, or the last one follows the ids as it follows dialogues

pub takes_waits : {E : Type 0} (s : ShardState) (stage : Stage) (o : Opening) (v : Invocation) (r : Result (Option code.Reading) E) → IsOpeningOf s stage o
    → TakesOne (OpensAt o.state o.left o.invocations (Waits v)) r → TakesOne (Takes (reading s stage) (Waits v)) r
takes_waits s Begins o v r is h = absurd is
takes_waits s (HasIds clock ids) o v r is h = subst (λ z. TakesOne (Takes z (Waits v)) r) is h
takes_waits s (HasOpened left vs) o v r is h = subst (λ z. TakesOne (Takes z (Waits v)) r) is h
takes_waits s Whole o v r is h = absurd is

pub takes_dialogue : {E : Type 0} (s : ShardState) (stage : Stage) (o : Opening) (id : List ℕ) (mark : Bool) (d : Dialogue)
    (r : Result (Option code.Reading) E) → IsOpeningOf s stage o
    → TakesOne (OpensAt o.state o.left o.invocations (Opened id mark d)) r → TakesOne (Takes (reading s stage) (Opened id mark d)) r
takes_dialogue s Begins o id mark d r is h = absurd is
takes_dialogue s (HasIds clock ids) o id mark d r is h = subst (λ z. TakesOne (Takes z (Opened id mark d)) r) is h
takes_dialogue s (HasOpened left vs) o id mark d r is h = subst (λ z. TakesOne (Takes z (Opened id mark d)) r) is h
takes_dialogue s Whole o id mark d r is h = absurd is

pub takes_end : (s : ShardState) (stage : Stage) (o : Opening) (r : Option code.Reading) → IsOpeningOf s stage o
    → TakesIf (OpensAt o.state o.left o.invocations End) r → TakesIf (Takes (reading s stage) End) r
takes_end s Begins o r is h = absurd is
takes_end s (HasIds clock ids) o r is h = subst (λ z. TakesIf (Takes z End) r) is h
takes_end s (HasOpened left vs) o r is h = subst (λ z. TakesIf (Takes z End) r) is h
takes_end s Whole o r is h = absurd is
