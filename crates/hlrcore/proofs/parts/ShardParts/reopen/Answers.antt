use Rattle.std.proofs.Common.{◌≡◌, true, false, ap, sym, ◌∙◌, subst}
use Rattle.std.specs.Arc.{arc_value}
use Rattle.dialogues.specs.Seen.{dialogue_with}
use Rattle.hlrcore.specs.Resuming.{marked_if, reopened}
use Rattle.hlrcore.specs.Shards.{ShardState, shard_of_fields}
use Rattle.hlrcore.proofs.ResumingLemmas.{reopened_is}
use Rattle.hlrcore.proofs.parts.ShardParts.reopen.Goals as goal

pub returns-then-is_current-clause-opened : goal.returns-then-is_current-clause-opened
returns-then-is_current-clause-opened c = λ _.
    let i = c.self.inside in
    let d = dialogue_with c.args.left.now c.args.dialogue.now in
    let s = shard_of_fields i.number i.clock i.records i.dialogues (arc_value i.directory) i.hlr in
    let marks = c.mark.ensures ∙ ap (λ b. marked_if b d.subscriber c.in_ok-id.id i.records) (sym c.if-is_current.true) in
    subst (λ (z : ShardState). shard_of_fields i.number i.clock c.mark.new.records c.reopen.new.self (arc_value i.directory) i.hlr ≡ reopened z c.args.is_current d)
    c.self.view_is
    (reopened_is s c.reopen.new.self c.mark.new.records c.args.is_current c.in_ok-id.id d c.in_ok-id.ensures.next marks
    c.reopen.ensures.shard c.in_ok-id.ensures.used c.in_ok-id.ensures.opened)

pub returns-else-is_current-clause-opened : goal.returns-else-is_current-clause-opened
returns-else-is_current-clause-opened c = λ _.
    let i = c.self.inside in
    let d = dialogue_with c.args.left.now c.args.dialogue.now in
    let s = shard_of_fields i.number i.clock i.records i.dialogues (arc_value i.directory) i.hlr in
    let marks = ap (λ b. marked_if b d.subscriber c.in_ok-id.id i.records) (sym c.if-is_current.false) in
    subst (λ (z : ShardState). shard_of_fields i.number i.clock i.records c.reopen.new.self (arc_value i.directory) i.hlr ≡ reopened z c.args.is_current d)
    c.self.view_is
    (reopened_is s c.reopen.new.self i.records c.args.is_current c.in_ok-id.id d c.in_ok-id.ensures.next marks
    c.reopen.ensures.shard c.in_ok-id.ensures.used c.in_ok-id.ensures.opened)
