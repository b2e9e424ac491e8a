use Rattle.std.proofs.Common.{◌≡◌, ◌+◌, ◌++◌, ◌≤◌, length, map, take}
use Rattle.std.specs.Prelude.{vec_len, vec_capacity}
use Rattle.workers.proofs.worker.answer_lot.Given as goal

abbrev pub invariant-loop-place : goal.invariant-loop-place
invariant-loop-place g l = record {
  room : vec_len l.receipts + length l.jobs ≤ vec_capacity l.receipts + l.place;
  tasks : l.tasks.items ≡ l.jobs;
  answered : map (λ r. r.job) l.receipts.items ≡ map (λ r. r.job) l.initial.receipts.items ++ map (λ j. j.number) (take l.place l.jobs);
}
