use Rattle.std.proofs.Common.{◌<◌, ◌∙◌, take, arith}
use Rattle.std.proofs.lemmas.Grind.{common_steps}
use Rattle.hlr_types.specs.Words.{in_word}
use Rattle.hlr_types.proofs.PackLemmas.{pair, none_unwritten}
use Rattle.hlr_types.proofs.PaddingLemmas.{filled_room, one_filled}
use Rattle.hlr_types.proofs.tbcd.octets_of.Goals as goal

pub bounds-items-count : goal.bounds-items-count
bounds-items-count c =
    let pos : 0 < c.loop-rest.rest = grind (arith, common_steps) in
    filled_room 8 c.loop-rest.items c.loop-rest.count c.loop-rest.invariant.padded
    (pair c.loop-rest.rest (take c.loop-rest.count c.loop-rest.items) (in_word c.args.word) c.loop-rest.invariant.written pos).room

pub loop-rest-smaller : goal.loop-rest-smaller
loop-rest-smaller c =
    let pos : 0 < c.loop-rest.rest = grind (arith, common_steps) in
    let room : c.loop-rest.count < 8 = filled_room 8 c.loop-rest.items c.loop-rest.count c.loop-rest.invariant.padded
    (pair c.loop-rest.rest (take c.loop-rest.count c.loop-rest.items) (in_word c.args.word) c.loop-rest.invariant.written pos).room in
    omega (arith, room)

pub loop-rest-preserved : goal.loop-rest-preserved
loop-rest-preserved c =
    let pos : 0 < c.loop-rest.rest = grind (arith, common_steps) in
    let next = pair c.loop-rest.rest (take c.loop-rest.count c.loop-rest.items) (in_word c.args.word) c.loop-rest.invariant.written pos in
    let filled = one_filled 8 c.loop-rest.items c.loop-rest.count c.octet_of.result c.loop-rest.invariant.padded
    (filled_room 8 c.loop-rest.items c.loop-rest.count c.loop-rest.invariant.padded next.room) in
    record {
      padded = filled.0;
      written = rw (filled.1, c.octet_of.ensures) next.next;
    }

pub returns : goal.returns
returns c =
    let pos = c.loop-rest.invariant.written in
    c.of_parts.ensures
    ∙ none_unwritten c.loop-rest.rest (take c.loop-rest.count c.loop-rest.items) (in_word c.args.word) pos (grind (arith, common_steps))
