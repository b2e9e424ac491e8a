use Rattle.std.proofs.Common.{map, refl}
use Rattle.hlrcore.specs.Events.{raw_event}
use Rattle.hlr_program.specs.Gathered.{with_part}
use Rattle.hlr_program.specs.Shards.{event_for}
use Rattle.hlr_program.proofs.ListLemmas.{else_on, then_on}
use Rattle.hlr_program.proofs.LotLemmas.{one_adding_stops, one_adds}
use Rattle.hlr_program.proofs.alone.Alone.take_for.Goals as goal

pub invariant_of-self : goal.invariant_of-self
invariant_of-self c = (c.handle_for.ensures.ready c.self.inside.keep c.begin_part.new.ahead.room c.begin_part.ensures.ready, c.self.invariant.1)

pub returns-clause-adds : goal.returns-clause-adds
returns-clause-adds c =
    then_on c.handle_for.result c.handle_for.ensures.sends
    (λ (sent, ran, prints). one_adds c.args.self.now (with_part c.handle_for.new.node (map raw_event c.self.inside.gathered.items)) c.self.inside.node
    c.begin_part.new.node c.args.answers.now c.handle_for.new.answers (map raw_event c.self.inside.gathered.items) (event_for c.args.said c.args.shard) sent
    c.self.view_is c.requires refl c.begin_part.ensures.ran ran prints)

pub returns-clause-stops : goal.returns-clause-stops
returns-clause-stops c =
    else_on _ _ c.handle_for.result c.handle_for.ensures.stops
    (λ fault stops. one_adding_stops c.args.self.now c.self.inside.node c.begin_part.new.node c.args.answers.now
    (map raw_event c.self.inside.gathered.items) (event_for c.args.said c.args.shard) fault c.self.view_is c.requires c.begin_part.ensures.ran stops)
