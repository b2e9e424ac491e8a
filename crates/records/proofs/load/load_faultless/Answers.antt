use Rattle.records.proofs.FaultlessLemmas.{lines_are_fresh, loaded_answers}
use Rattle.records.proofs.load.load_faultless.Goals as goal

pub of_records-requires : goal.of_records-requires
of_records-requires c = record { fresh = lines_are_fresh c.args.version _ c.in-Some.all.items (rw c.in-Some.is at c.in_ok-all.ensures) }

pub returns : goal.returns
returns c =
    loaded_answers c.args.version c.args.hlr _ c.in-Some.all.items (rw c.in-Some.is at c.in_ok-all.ensures) c.of_records.result c.of_records.ensures.value
    c.of_records.ensures.apart
