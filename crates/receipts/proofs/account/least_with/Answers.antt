use Rattle.std.proofs.Common.{◌≡◌, ◌<◌, ◌++◌, ◌∷◌, [], ℕ, Some, arith, sym, refl, subst, true≢false}
use Rattle.receipts.specs.Least.{LeastAmong}
use Rattle.receipts.specs.Journals.{journal_list}
use Rattle.receipts.proofs.Leasts.{keeps, falls}
use Rattle.receipts.proofs.account.least_with.Goals as goal
use Rattle.receipts.proofs.account.least_with.Goals.{in_default-via-in-Some+else-n-number, in_default-via-in_default}

pub returns-then-is_accounted-clause-least : goal.returns-then-is_accounted-clause-least
returns-then-is_accounted-clause-least c = λ ns h.
    let same : c.in_default.least ≡ c.args.least = elim c.in_default.branch [
      | in_default-via-in-Some+else-n-number w ↦ cc
      | in_default-via-in_default w ↦ cc
    ] in
    subst (LeastAmong (journal_list c.args.shards.now) c.args.jobs.now c.args.receipts.now (ns ++ c.args.number ∷ [])) (sym same)
    (keeps (journal_list c.args.shards.now) c.args.jobs.now c.args.receipts.now c.args.least c.args.number (c.if-is_accounted.ensures.0 refl) ns h)

pub returns-else-is_accounted-clause-least : goal.returns-else-is_accounted-clause-least
returns-else-is_accounted-clause-least c = λ ns h.
    let below : (m : ℕ) → c.args.least ≡ Some m → c.args.number < m = λ m is. elim c.in_default.branch [
      | in_default-via-in-Some+else-n-number w ↦ (let e : w.in-Some.n ≡ m = cc in omega arith)
      | in_default-via-in_default w ↦ absurd (w.in_default.not-Some m is)
    ] in
    falls (journal_list c.args.shards.now) c.args.jobs.now c.args.receipts.now c.args.least c.args.number
    (λ a. true≢false (sym (c.if-is_accounted.ensures.1 a))) below ns h
