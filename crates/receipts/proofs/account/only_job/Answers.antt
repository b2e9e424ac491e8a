use Rattle.std.proofs.Common.{rules, eqb, eq-eqb, sym, ap, ◌∙◌}
use Rattle.frames.specs.Account.{Job}
use Rattle.receipts.proofs.Onlys.{not_only}
use Rattle.receipts.proofs.account.only_job.Goals as goal

pub returns-then-is_some : goal.returns-then-is_some
returns-then-is_some c =
    not_only (λ x. eqb x.number c.args.number) c.args.jobs.now c.loop-job.job-index c.job-item.result c.loop-job.found
    (search rules) c.job-item.is (eq-eqb _ _ (ap (λ (j : Job). j.number) (sym c.job.view_is)
    ∙ sym c.get.ensures.value ∙ c.if-get-number.true)) (sym c.is_some.ensures ∙ c.if-is_some.true) c.loop-job.invariant
