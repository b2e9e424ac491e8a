use Rattle.std.proofs.Common.{ap}
use Rattle.hlr_input.specs.Script.{line_of}
use Rattle.hlr_program.proofs.CheckLaws.{frame_good, frame_lacks}
use Rattle.hlr_program.proofs.check.find_letters.Goals as goal

pub returns-in-Frame-clause-good : goal.returns-in-Frame-clause-good
returns-in-Frame-clause-good c =
    frame_good c.args.line.now c.in-Frame.from c.in-Frame.octets.now (line_of c.in-Some.item) c.find_letters_in.result (ap line_of c.in-Frame.is)
    c.in-Some.ensures.found c.find_letters_in.ensures.good

pub returns-in-Frame-clause-lettered : goal.returns-in-Frame-clause-lettered
returns-in-Frame-clause-lettered c =
    frame_lacks c.args.line.now c.in-Frame.from c.in-Frame.octets.now (line_of c.in-Some.item) c.find_letters_in.result (ap line_of c.in-Frame.is)
    c.in-Some.ensures.found c.find_letters_in.ensures.good c.find_letters_in.ensures.lettered
