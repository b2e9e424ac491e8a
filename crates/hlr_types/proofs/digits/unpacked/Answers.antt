use Rattle.std.proofs.Common.{◌≡◌, ◌<◌, subst, sym, arith, rules}
use Rattle.std.proofs.lemmas.Grind.{common_steps}
use Rattle.hlr_types.specs.Digits.{AreSomeDigits}
use Rattle.hlr_types.specs.Words.{in_word}
use Rattle.hlr_types.proofs.PackLemmas.{next, none_left}
use Rattle.hlr_types.proofs.digits.unpacked.Goals as goal

pub overflow_sub-rest : goal.overflow_sub-rest
overflow_sub-rest c =
    let pos : 0 < c.loop-rest.rest = grind (arith, common_steps) in
    (next c.loop-rest.rest c.loop-rest.list (in_word c.args.word) c.loop-rest.invariant c.requires.digits pos).least

pub push-requires : goal.push-requires
push-requires c =
    let pos : 0 < c.loop-rest.rest = grind (arith, common_steps) in
    let room = (next c.loop-rest.rest c.loop-rest.list (in_word c.args.word) c.loop-rest.invariant c.requires.digits pos).room in
    search (rules, room)

pub loop-rest-smaller : goal.loop-rest-smaller
loop-rest-smaller c =
    let pos : 0 < c.loop-rest.rest = grind (arith, common_steps) in
    let room = (next c.loop-rest.rest c.loop-rest.list (in_word c.args.word) c.loop-rest.invariant c.requires.digits pos).room in
    grind (arith, common_steps, room)

pub returns-clause-value : goal.returns-clause-value
returns-clause-value c = none_left c.loop-rest.rest c.loop-rest.list (in_word c.args.word) c.loop-rest.invariant (grind (arith, common_steps))

pub returns-clause-digits : goal.returns-clause-digits
returns-clause-digits c =
    let whole : c.loop-rest.list ≡ in_word c.args.word = none_left c.loop-rest.rest c.loop-rest.list (in_word c.args.word) c.loop-rest.invariant
    (grind (arith, common_steps)) in
    subst AreSomeDigits (sym whole) c.requires.digits
