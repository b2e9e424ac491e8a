use Rattle.workers.proofs.batch.in_any_order.Given as goal

-- the register that the batch begins with
abbrev pub ghosts-behind_locks : goal.ghosts-behind_locks
ghosts-behind_locks g a = record { began = a.node }
