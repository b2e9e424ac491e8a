use Rattle.std.proofs.Common.{◌≡◌, ℕ, true, false, cond, ◌||◌, Option, Some, IsSome, refl, ap, sym, ◌∙◌, subst}
use Rattle.deadlines.specs.declared.timer.Timer.{Timer}
use Rattle.deadlines.specs.Timers.{TimerSet}
use Rattle.deadlines.specs.Index.{deadline_of, has, IsIndexBut, was}
use Rattle.deadlines.proofs.KeyLemmas.{own_invocation}
use Rattle.deadlines.proofs.IndexLemmas.{after_put, after_drop, taken_map, taken_index}
use Rattle.deadlines.proofs.SetLemmas.{has_remove}
use Rattle.deadlines.proofs.index.+put_each.Goals as goal

pub returns-in_default-put_each-clause-index : goal.returns-in_default-put_each-clause-index
returns-in_default-put_each-clause-index n c = λ stale is.
    let timer = c.first-item.result in
    let before = c.in_ok-deadline.field-0.deadline in
    let old = deadline_of c.args.by_invocation.now in
    let M = deadline_of c.put.new.by_invocation in
    let S = has c.put.new.by_deadline in
    let put = after_put stale old M (has c.args.by_deadline.now) S timer c.in_ok-deadline.ensures.map c.in_ok-deadline.ensures.index is in
    let but : IsIndexBut (λ (t : Timer). stale t || was before timer.invocation t) M S =
    subst (λ (o : Option ℕ). IsIndexBut (λ (t : Timer). stale t || was o timer.invocation t) M S) (sym c.in_ok-deadline.ensures.deadline) put in
    after_drop stale before timer.invocation (deadline_of c.put_each.new.by_invocation) (has c.put_each.new.by_deadline) (has c.drop_stale.new.by_deadline)
    c.drop_stale.ensures.kept c.drop_stale.ensures.gone c.drop_stale.ensures.stale
    (c.in_default-put_each.ensures.index (λ (t : Timer). stale t || was before timer.invocation t) but)

pub give_deadline-requires : goal.give_deadline-requires
give_deadline-requires n c =
    let timer = c.first-item.result in
    let there : deadline_of c.put_each.new.by_invocation timer.invocation ≡ Some timer.deadline =
    c.in-Err.ensures.err_map timer.invocation ∙ c.in_ok-deadline.ensures.map timer.invocation
    ∙ ap (λ b. cond b (Some timer.deadline) (deadline_of c.args.by_invocation.now timer.invocation)) (own_invocation timer.invocation timer.invocation refl) in
    subst (λ (o : Option ℕ). IsSome o) (sym there) refl

pub returns-then-is_new-clause-err_map : goal.returns-then-is_new-clause-err_map
returns-then-is_new-clause-err_map n c =
    let timer = c.first-item.result in
    taken_map timer.invocation timer.deadline c.in_ok-deadline.field-0.deadline (deadline_of c.args.by_invocation.now) (deadline_of c.put.new.by_invocation)
    (deadline_of c.put_each.new.by_invocation) (deadline_of c.give_deadline.new.by_invocation)
    c.in_ok-deadline.ensures.deadline c.in_ok-deadline.ensures.map c.in-Err.ensures.err_map c.give_deadline.ensures

pub returns-else-is_new-clause-err_map : goal.returns-else-is_new-clause-err_map
returns-else-is_new-clause-err_map n c =
    let timer = c.first-item.result in
    taken_map timer.invocation timer.deadline c.in_ok-deadline.field-0.deadline (deadline_of c.args.by_invocation.now) (deadline_of c.put.new.by_invocation)
    (deadline_of c.put_each.new.by_invocation) (deadline_of c.give_deadline.new.by_invocation)
    c.in_ok-deadline.ensures.deadline c.in_ok-deadline.ensures.map c.in-Err.ensures.err_map c.give_deadline.ensures

pub returns-then-is_new-clause-err_index : goal.returns-then-is_new-clause-err_index
returns-then-is_new-clause-err_index n c =
    let new : c.in_ok-deadline.field-0.is_new ≡ true = c.if-is_new.true in
    taken_index c.first-item.result true (has c.args.by_deadline.now) (has c.put.new.by_deadline) (has c.put_each.new.by_deadline) (has c.remove.new.self)
    (sym new ∙ c.in_ok-deadline.ensures.is_new) c.in_ok-deadline.ensures.index c.in-Err.ensures.err_index (λ t. ap (λ (s : TimerSet). has s t) c.remove.ensures ∙ has_remove c.put_each.new.by_deadline _ t)

pub returns-else-is_new-clause-err_index : goal.returns-else-is_new-clause-err_index
returns-else-is_new-clause-err_index n c =
    let new : c.in_ok-deadline.field-0.is_new ≡ false = c.if-is_new.false in
    taken_index c.first-item.result false (has c.args.by_deadline.now) (has c.put.new.by_deadline) (has c.put_each.new.by_deadline)
    (has c.put_each.new.by_deadline)
    (sym new ∙ c.in_ok-deadline.ensures.is_new) c.in_ok-deadline.ensures.index c.in-Err.ensures.err_index (λ t. refl)
