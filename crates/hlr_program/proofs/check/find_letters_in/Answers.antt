use Rattle.std.proofs.Common.{sym, ◌∙◌}
use Rattle.std.proofs.lemmas.Bool.{false≢true}
use Rattle.hlr_input.proofs.OctetLaws.{known_of}
use Rattle.hlr_program.proofs.check.find_letters_in.Goals as goal

pub returns-clause-bad : goal.returns-clause-bad
returns-clause-bad c = λ groups is.
    false≢true (sym c.if-are_octets-2.false ∙ c.are_octets-2.ensures.known groups is ∙ known_of c.args.octets.now groups is)
