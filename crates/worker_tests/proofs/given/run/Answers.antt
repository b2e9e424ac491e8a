use Rattle.worker_tests.proofs.given.run.Goals as goal

pub run_batch-done-requires-clause-distinct : goal.run_batch-done-requires-clause-distinct
run_batch-done-requires-clause-distinct g c = λ lifetimes outlive. c.numbers_rise.ensures.apart c.if-not-numbers_rise.false
