use Rattle.std.proofs.Common.{◌≡◌, ◌-◌, List, Some, ap, arith, drop, length, length-drop, rules, subst, sym, take, ◌∙◌}
use Rattle.std.specs.List.Sorted.{IsPermutation}
use Rattle.std.proofs.lemmas.List.{take_all}
use Rattle.frames.specs.Account.{Job}
use Rattle.receipts.specs.Numbers.{AreApart}
use Rattle.std.specs.Prelude.{IfSome}
use Rattle.workers.specs.Going.{KeepEntries}
use Rattle.workers.specs.Shared.{bases_in, jobs_of_receipts, numbers_of_jobs, shared_state}
use Rattle.workers.proofs.GoingLemmas.{keep_on, same_bases}
use Rattle.workers.proofs.shared.SharedRegister.run_jobs.Goals as goal

-- the rest of a list, as the slice has it
rest_is : (jobs : List Job) (from : _) → take (length jobs - from) (drop from jobs) ≡ drop from jobs
rest_is jobs from = take_all (length jobs - from) (drop from jobs) (omega (arith, length-drop from jobs))

pub run_batch-requires-clause-distinct : goal.run_batch-requires-clause-distinct
run_batch-requires-clause-distinct g c κs within =
    let jobs : c.deref.result.now ≡ c.args.self.now.jobs = search rules in
    subst AreApart (ap (λ js. numbers_of_jobs (drop c.args.from js)) (sym jobs) ∙ ap numbers_of_jobs (sym (rest_is c.deref.result.now c.args.from)))
    c.requires.distinct

pub returns-clause-one_each : goal.returns-clause-one_each
returns-clause-one_each g c =
    let jobs : c.deref.result.now ≡ c.args.self.now.jobs = search rules in
    let each : IsPermutation (numbers_of_jobs (take (length c.deref.result.now - c.args.from) (drop c.args.from c.deref.result.now)))
    (jobs_of_receipts c.in_ok-done-2.field-0.items) = search rules in
    subst (λ numbers. IsPermutation numbers (jobs_of_receipts c.in_ok-done-2.field-0.items))
    (ap numbers_of_jobs (rest_is c.deref.result.now c.args.from) ∙ ap (λ js. numbers_of_jobs (drop c.args.from js)) jobs) each

pub invariant_of-self-in_err-done-2 : goal.invariant_of-self-in_err-done-2
invariant_of-self-in_err-done-2 g c =
    let was : c.self.inside.node ≡ Some c.in-Some.node = search rules in
    keep_on c.in-Some.node.shards c.in_ok-done.done.node.shards c.in_ok-done.ensures.gone_on
    (subst (λ o. IfSome o (λ n. KeepEntries n.shards)) was c.self.invariant)

pub invariant_of-self-2 : goal.invariant_of-self-2
invariant_of-self-2 g c =
    let was : c.self.inside.node ≡ Some c.in-Some.node = search rules in
    keep_on c.in-Some.node.shards c.in_ok-done.done.node.shards c.in_ok-done.ensures.gone_on
    (subst (λ o. IfSome o (λ n. KeepEntries n.shards)) was c.self.invariant)

pub returns-clause-same : goal.returns-clause-same
returns-clause-same g c =
    let was : Some c.in-Some.node ≡ c.self.inside.node = search rules in
    let keep = subst (λ o. IfSome o (λ n. KeepEntries n.shards)) (sym was) c.self.invariant in
    ap (λ bases. shared_state bases c.self.inside.jobs.items c.self.inside.receipts.items)
    (same_bases c.in-Some.node.shards c.in_ok-done.done.node.shards c.in_ok-done.ensures.gone_on keep ∙ ap bases_in was)
    ∙ c.self.view_is
