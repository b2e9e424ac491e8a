use Rattle.std.proofs.Common.{◌≡◌, true, false, cond, refl, ap, sym, ◌∙◌}
use Rattle.deadlines.specs.Timers.{TimerSet}
use Rattle.deadlines.specs.Index.{deadline_of, has}
use Rattle.deadlines.proofs.IndexLemmas.{was_same, stands_still, drop_kept, drop_gone}
use Rattle.deadlines.proofs.KeyLemmas.{own_timer}
use Rattle.deadlines.proofs.SetLemmas.{has_remove}
use Rattle.deadlines.proofs.index.drop_stale.Goals as goal

pub returns-then-has_deadline-clause-stale : goal.returns-then-has_deadline-clause-stale
returns-then-has_deadline-clause-stale c = λ t w h.
    stands_still (deadline_of c.args.by_invocation.now) c.in-Some.deadline c.args.invocation t
    (was_same c.args.before c.in-Some.deadline c.args.invocation t c.in-Some.is w) (c.if-has_deadline.ensures.0 refl)

pub returns-clause-kept : goal.returns-clause-kept
returns-clause-kept c =
    drop_kept (deadline_of c.args.by_invocation.now) (record { deadline = c.in-Some.deadline; invocation = c.args.invocation }) (has c.args.by_deadline.now)
    (has c.remove.new.self)
    (λ t. ap (λ (s : TimerSet). has s t) c.remove.ensures ∙ has_remove c.args.by_deadline.now _ t) (λ e. let x : false ≡ true = c.if-has_deadline.ensures.1 e in cc)

pub returns-clause-gone : goal.returns-clause-gone
returns-clause-gone c =
    drop_gone (record { deadline = c.in-Some.deadline; invocation = c.args.invocation }) (has c.args.by_deadline.now)
    (has c.remove.new.self) (λ t. ap (λ (s : TimerSet). has s t) c.remove.ensures ∙ has_remove c.args.by_deadline.now _ t)

pub returns-clause-stale : goal.returns-clause-stale
returns-clause-stale c = λ t w h.
    let gone = ap (λ (s : TimerSet). has s t) c.remove.ensures ∙ has_remove c.args.by_deadline.now _ t
    ∙ ap (λ b. cond b false (has c.args.by_deadline.now t))
    (own_timer _ t (was_same c.args.before c.in-Some.deadline c.args.invocation t c.in-Some.is w)) in
    let x : false ≡ true = sym gone ∙ h in
    cc
