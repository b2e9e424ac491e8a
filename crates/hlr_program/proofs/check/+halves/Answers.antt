use Rattle.std.proofs.Common.{◌+◌, refl, rules}
use Rattle.hlr_program.proofs.HalfLemmas.{AreHalves, first_is_bad, halves_of, second_is_bad}
use Rattle.hlr_program.specs.Checked.{IsFirstBad, IsSeen}
use Rattle.hlr_program.proofs.check.+halves.Goals as goal

pub returns-in-Ok-Err-clause-bad : goal.returns-in-Ok-Err-clause-bad
returns-in-Ok-Err-clause-bad g t c =
    let front = c.split_at.result.0.now in let back = c.split_at.result.1.now in
    let halves : AreHalves c.args.text.now front back =
    halves_of c.args.text.now front back c.end_of_line.result c.end_of_line.ensures.cut c.split_at.ensures.front c.split_at.ensures.back in
    let seen : IsSeen front c.in-Ok-Err.first = search rules in
    let bad : IsFirstBad back c.in-Ok-Err.number = search rules in
    second_is_bad c.args.text.now front back c.in-Ok-Err.first c.in-Ok-Err.number (c.in-Ok-Err.first.lines + c.in-Ok-Err.number) halves seen bad refl

pub returns-in-Err-default-clause-bad : goal.returns-in-Err-default-clause-bad
returns-in-Err-default-clause-bad g t c =
    let front = c.split_at.result.0.now in let back = c.split_at.result.1.now in
    let halves : AreHalves c.args.text.now front back =
    halves_of c.args.text.now front back c.end_of_line.result c.end_of_line.ensures.cut c.split_at.ensures.front c.split_at.ensures.back in
    let bad : IsFirstBad front c.in-Err-default.number = search rules in
    first_is_bad c.args.text.now front back c.in-Err-default.number halves bad
