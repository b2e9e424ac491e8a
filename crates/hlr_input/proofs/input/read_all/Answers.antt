use Rattle.std.proofs.Common.{ap, arith}
use Rattle.hlr_input.proofs.InputLaws.{read_up_to}
use Rattle.hlr_input.proofs.input.read_all.Goals as goal

pub returns-clause-whole : goal.returns-clause-whole
returns-clause-whole g c =
    let n = c.len.ensures in
    let most = c.if-len-gt-MAX_FILE_OCTETS.false in
    let same_reader = ap (λ reader. g.R.Read.remaining reader.now) c.take.ensures.inner in
    read_up_to _ _ _ 16777217 _ _ c.in_ok-read_to_end.ensures.bytes same_reader c.take.ensures.limit c.new-text.ensures.items (omega (arith, n, most))
