use Rattle.growth_tests.proofs.batches.run.Goals as goal

pub run_batch-requires-clause-distinct : goal.run_batch-requires-clause-distinct
run_batch-requires-clause-distinct g c = λ lifetimes outlive. c.numbers_rise.ensures.apart c.if-not-numbers_rise.false
