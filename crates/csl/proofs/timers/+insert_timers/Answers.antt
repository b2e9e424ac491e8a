use Rattle.std.proofs.Common.{◌≡◌, true, false, cond, not, ap, sym, ◌∙◌}
use Rattle.std.specs.FinSet as set
use Rattle.deadlines.specs.Timers.{TimerSet}
use Rattle.deadlines.specs.Index.{has, is_timer}
use Rattle.deadlines.proofs.SetLemmas.{has_insert, turned, unchanged, undone}
use Rattle.csl.specs.Tables.{is_of, timer_at}
use Rattle.csl.proofs.Places.{first_of, rest_of}
use Rattle.csl.proofs.Putting.{items_none}
use Rattle.csl.proofs.Timing.{of_more, of_none}
use Rattle.csl.proofs.timers.+insert_timers.Goals as goal

pub returns-then-is_empty-clause-ok : goal.returns-then-is_empty-clause-ok
returns-then-is_empty-clause-ok n c = λ t.
    let own = c.own-item.result in
    let rest = rest_of c.args.list.now in
    let had = cond (is_timer (timer_at c.args.id own) t) true (has c.args.timers.now t) in
    ap (λ (s : TimerSet). has s t) (c.in_ok-is_new.ensures.ok ∙ ap (set.insert c.args.timers.now) c.timer-timer.ensures)
    ∙ has_insert c.args.timers.now (timer_at c.args.id own) t ∙ of_none c.args.id t true had
    ∙ ap (λ vs. cond (is_of c.args.id vs t) true had) (sym (items_none rest (sym c.is_empty.ensures ∙ c.if-is_empty.true)))
    ∙ sym (of_more c.args.id own rest t true (has c.args.timers.now t))
    ∙ ap (λ vs. cond (is_of c.args.id vs t) true (has c.args.timers.now t))
    (sym (first_of c.args.list.now own c.in-len1-up.len_at_least c.own-item.is))

pub returns-in_default-insert_timers-clause-ok : goal.returns-in_default-insert_timers-clause-ok
returns-in_default-insert_timers-clause-ok n c = λ t.
    let own = c.own-item.result in
    let rest = rest_of c.args.list.now in
    c.in_default-insert_timers.ensures.ok t
    ∙ ap (cond (is_of c.args.id rest t) true)
    (ap (λ (s : TimerSet). has s t) (c.in_ok-is_new.ensures.ok ∙ ap (set.insert c.args.timers.now) c.timer-timer.ensures)
    ∙ has_insert c.args.timers.now (timer_at c.args.id own) t)
    ∙ sym (of_more c.args.id own rest t true (has c.args.timers.now t))
    ∙ ap (λ vs. cond (is_of c.args.id vs t) true (has c.args.timers.now t))
    (sym (first_of c.args.list.now own c.in-len1-up.len_at_least c.own-item.is))

pub returns-then-is_new-clause-err : goal.returns-then-is_new-clause-err
returns-then-is_new-clause-err n c =
    let timer = c.timer-timer.result in
    let new : not (has c.args.timers.now timer) ≡ true = sym c.in_ok-is_new.ensures.is_new ∙ c.if-is_new.true in
    c.remove.ensures ∙ ap (λ (s : TimerSet). set.remove s timer) (c.in-Err.ensures.err ∙ c.in_ok-is_new.ensures.ok)
    ∙ undone c.args.timers.now timer (turned _ _ new)

pub returns-else-is_new-clause-err : goal.returns-else-is_new-clause-err
returns-else-is_new-clause-err n c =
    let timer = c.timer-timer.result in
    let old : not (has c.args.timers.now timer) ≡ false = sym c.in_ok-is_new.ensures.is_new ∙ c.if-is_new.false in
    c.in-Err.ensures.err ∙ c.in_ok-is_new.ensures.ok ∙ unchanged c.args.timers.now timer (turned _ _ old)
