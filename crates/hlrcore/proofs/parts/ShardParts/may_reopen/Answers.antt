use Rattle.std.proofs.Common.{◌≡◌, true, false, ap, sym, ◌∙◌, subst, true≢false, is_some}
use Rattle.std.specs.Arc.{arc_value}
use Rattle.hlrcore.specs.Resuming.{HasPlace}
use Rattle.hlrcore.specs.Shards.{ShardState, shard_of_fields}
use Rattle.hlrcore.proofs.ResumingLemmas.{has_place}
use Rattle.hlrcore.proofs.parts.ShardParts.may_reopen.Goals as goal
use Rattle.hlrcore.proofs.parts.ShardParts.may_reopen.Goals.{then-is_some, else-is_some}

pub returns-then-any_sent-clause-place : goal.returns-then-any_sent-clause-place
returns-then-any_sent-clause-place c = λ _.
    let i = c.self.inside in
    let s = shard_of_fields i.number i.clock i.records i.dialogues (arc_value i.directory) i.hlr in
    let some : is_some c.next_id.result ≡ true = elim c.if-is_some.branch [
      | then-is_some w ↦ sym c.is_some.ensures ∙ w.if-is_some.true
      | else-is_some w ↦ absurd (true≢false (sym c.if-any_sent.true ∙ w.value-is ∙ w.if-is_some.false))
    ] in
    subst (λ (z : ShardState). HasPlace z) c.self.view_is (has_place s c.self.invariant.dialogues c.next_id.result c.next_id.ensures.value c.next_id.ensures.is_new c.next_id.ensures.full some)
