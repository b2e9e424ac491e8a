use Rattle.std.proofs.Common.{◌+◌, ◌*◌, ◌/◌, ◌%◌, ◌^◌, ◌<◌, ◌∙◌, take, sym, subst, arith}
use Rattle.std.specs.Str.{IsAscii}
use Rattle.std.proofs.lemmas.Grind.{common_steps}
use Rattle.hlr_types.specs.Digits.{AreSomeDigits}
use Rattle.hlr_types.proofs.TextLemmas.{is_ascii}
use Rattle.hlr_types.proofs.PaddingLemmas.{filled_room, one_filled}
use Rattle.hlr_types.proofs.PrintLemmas.{IsPrinted, print_next, all_printed}
use Rattle.hlr_types.proofs.digits.Digits.text.Goals as goal

pub bounds-items-count : goal.bounds-items-count
bounds-items-count c =
    filled_room 16 c.loop-rest.items c.loop-rest.count c.loop-rest.invariant.padded
    (print_next c.loop-rest.rest (take c.loop-rest.count c.loop-rest.items) c.args.self.now c.loop-rest.invariant.printed c.loop-rest-test.true).room

pub loop-rest-smaller : goal.loop-rest-smaller
loop-rest-smaller c =
    let room : c.loop-rest.count < 16 = filled_room 16 c.loop-rest.items c.loop-rest.count c.loop-rest.invariant.padded
    (print_next c.loop-rest.rest (take c.loop-rest.count c.loop-rest.items) c.args.self.now c.loop-rest.invariant.printed c.loop-rest-test.true).room in
    omega (arith, room)

pub loop-rest-preserved : goal.loop-rest-preserved
loop-rest-preserved c =
    let next = print_next c.loop-rest.rest (take c.loop-rest.count c.loop-rest.items) c.args.self.now c.loop-rest.invariant.printed c.loop-rest-test.true in
    let filled = one_filled 16 c.loop-rest.items c.loop-rest.count (c.loop-rest.rest / 2 ^ 60 + 47) c.loop-rest.invariant.padded
    (filled_room 16 c.loop-rest.items c.loop-rest.count c.loop-rest.invariant.padded next.room) in
    record {
      padded = filled.0;
      printed = subst (λ t. IsPrinted (c.loop-rest.rest * 16 % 2 ^ 64) t c.args.self.now) (sym filled.1) next.next;
    }

pub returns-clause-value : goal.returns-clause-value
returns-clause-value c =
    c.of_parts.ensures
    ∙ all_printed c.loop-rest.rest (take c.loop-rest.count c.loop-rest.items) c.args.self.now c.loop-rest.invariant.printed (grind (arith, common_steps))

pub returns-clause-ascii : goal.returns-clause-ascii
returns-clause-ascii c =
    subst IsAscii (sym (returns-clause-value c)) (is_ascii c.args.self.now (subst AreSomeDigits c.self.view_is c.self.invariant.digits))
