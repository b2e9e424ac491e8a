use Rattle.std.proofs.Common.{◌++◌, sym, ap, subst, ◌∙◌, List, ℕ}
use Rattle.records.specs.Subscriber.{IsRecord, unmarked}
use Rattle.records.specs.Spelling.{IsRecordLine}
use Rattle.records.specs.Written.{record_line}
use Rattle.records.proofs.SavedLaws.{is_record_line}
use Rattle.records.proofs.write.write_line.Goals as goal

pub returns-clause-again : goal.returns-clause-again
returns-clause-again c = λ may.
    let facts : IsRecord c.args.subscriber.now = subst IsRecord c.subscriber.view_is c.subscriber.invariant in
    subst (λ (line : List ℕ). IsRecordLine c.args.version line (unmarked c.args.subscriber.now))
    (sym (c.in_ok-push_line.ensures ∙ ap (λ (b : List ℕ). b ++ record_line c.args.version c.args.subscriber.now) c.new-line.ensures.bytes))
    (is_record_line c.args.version c.args.subscriber.now facts may)
