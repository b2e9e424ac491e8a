use Rattle.std.proofs.Common.{◌≡◌, ◌+◌, ◌≤◌, length, map, take}
use Rattle.std.specs.Prelude.{vec_len, vec_capacity}
use Rattle.wholenode.specs.Keeping.{AreShards}
use Rattle.workers.specs.Going.{HaveGoneOn}
use Rattle.workers.proofs.caller.answer_each.Given as goal

abbrev pub invariant-loop-job : goal.invariant-loop-job
invariant-loop-job g l = record {
  room : vec_len l.receipts + length l.jobs ≤ vec_capacity l.receipts + l.job-index;
  are : AreShards l.directory l.shards;
  gone_on : HaveGoneOn l.fn.shards l.shards;
  answered : map (λ r. r.job) l.receipts.items ≡ map (λ j. j.number) (take l.job-index l.jobs);
}
