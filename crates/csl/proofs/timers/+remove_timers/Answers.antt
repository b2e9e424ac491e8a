use Rattle.std.proofs.Common.{false, cond, ap, sym, ◌∙◌}
use Rattle.std.specs.FinSet as set
use Rattle.deadlines.specs.Timers.{TimerSet}
use Rattle.deadlines.specs.Index.{has}
use Rattle.deadlines.proofs.SetLemmas.{has_remove}
use Rattle.csl.specs.Tables.{is_only, timer_at}
use Rattle.csl.proofs.Places.{first_of, rest_of}
use Rattle.csl.proofs.Timing.{only_kept, only_more}
use Rattle.csl.proofs.timers.+remove_timers.Goals as goal
use Rattle.csl.proofs.timers.+remove_timers.Goals.{then-not-has_timer, else-not-has_timer}

pub returns : goal.returns
returns n c = λ t.
    let own = c.own-item.result in
    let rest = rest_of c.args.list.now in
    let whole = ap (λ vs. cond (is_only c.args.id vs c.args.others.now t) false (has c.args.timers.now t))
    (sym (first_of c.args.list.now own c.in-len1-up.len_at_least c.own-item.is)) in
    elim c.if-not-has_timer.branch [
      | then-not-has_timer w ↦
          c.remove_timers.ensures t
          ∙ ap (cond (is_only c.args.id rest c.args.others.now t) false)
          (ap (λ (s : TimerSet). has s t) (w.timers-is ∙ w.remove.ensures ∙ ap (set.remove c.args.timers.now) w.timer.ensures)
          ∙ has_remove c.args.timers.now (timer_at c.args.id own) t)
          ∙ sym (only_more c.args.id own rest t c.args.others.now false (has c.args.timers.now t) (sym c.has_timer.ensures ∙ w.if-not-has_timer.true))
          ∙ whole
      | else-not-has_timer w ↦
          c.remove_timers.ensures t
          ∙ ap (λ (s : TimerSet). cond (is_only c.args.id rest c.args.others.now t) false (has s t)) w.timers-is
          ∙ ap (λ b. cond b false (has c.args.timers.now t)) (sym (only_kept c.args.id own rest t c.args.others.now
          (sym c.has_timer.ensures ∙ w.if-not-has_timer.false)))
          ∙ whole
    ]
