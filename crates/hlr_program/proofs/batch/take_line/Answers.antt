use Rattle.std.proofs.Common.{subst, sym}
use Rattle.std.specs.Prelude.{option_map}
use Rattle.hlr_input.specs.Octets.{ids_in}
use Rattle.hlr_input.specs.Script.{IsLine, Line, line_of}
use Rattle.hlr_program.specs.Gathering.{progress}
use Rattle.hlr_program.proofs.GatherLemmas.{item_events, line_stops}
use Rattle.hlr_program.proofs.ListLemmas.{else_on, then_on}
use Rattle.hlr_program.proofs.batch.take_line.Goals as goal

pub unreachable-requires : goal.unreachable-requires
unreachable-requires g c = c.in_default.ensures.only c.requires.good.0 c.requires.good.1.0

pub take_said-requires-clause-known : goal.take_said-requires-clause-known
take_said-requires-clause-known g c = λ lifetimes lives. item_events (ids_in (option_map (λ i. i.now) c.args.ids)) c.args.line.now
    (line_of c.in-Some.item) c.requires.good c.requires.known c.in-Some.ensures.only

pub returns-clause-adds : goal.returns-clause-adds
returns-clause-adds g c =
    let said : Line = line_of c.in-Some.item in
    let is : IsLine c.args.line.now said = subst (IsLine c.args.line.now)
    (sym (c.in-Some.ensures.only c.requires.good.0 c.requires.good.1.0)) c.requires.good.1.0 in
    then_on c.take_said.result c.take_said.ensures.adds (λ adds. (said, is, adds))

pub returns-clause-stops : goal.returns-clause-stops
returns-clause-stops g c =
    let said : Line = line_of c.in-Some.item in
    let is : IsLine c.args.line.now said = subst (IsLine c.args.line.now)
    (sym (c.in-Some.ensures.only c.requires.good.0 c.requires.good.1.0)) c.requires.good.1.0 in
    else_on _ _ c.take_said.result c.take_said.ensures.stops
    (λ fault stops. line_stops (ids_in (option_map (λ i. i.now) c.args.ids)) c.args.line.now said (progress c.args.register.now c.args.answers.now) fault is stops)
