use Rattle.std.proofs.Common.{inl, inr}
use Rattle.hlr_input.specs.Script.{line_of}
use Rattle.embed.proofs.LogLineLemmas.{read_has}
use Rattle.embed.proofs.log_line.read_log_line.Goals as goal

pub returns-in-Some-clause-found : goal.returns-in-Some-clause-found
returns-in-Some-clause-found c =
    read_has c.args.line.now (line_of c.in-Some.item) c.of_item.result c.in-Some.ensures.found c.of_item.ensures.found

pub returns-in-None-clause-event : goal.returns-in-None-clause-event
returns-in-None-clause-event c = λ raw line. elim line [
  | inl said ↦ absurd (c.in-None.ensures.only said.0 said.1)
  | inr expiry ↦ c.read_expiry.ensures.only raw expiry
]
