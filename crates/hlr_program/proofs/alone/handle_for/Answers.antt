use Rattle.std.proofs.Common.{List, subst}
use Rattle.frames.specs.Octets.{RawOut}
use Rattle.hlr_program.specs.Answered.{so_far}
use Rattle.hlr_program.specs.Printed.{Prints}
use Rattle.hlr_program.specs.Shards.{event_for}
use Rattle.hlr_program.proofs.PartLemmas.{not_full, one_ready, one_sends}
use Rattle.hlr_program.proofs.alone.handle_for.Goals as goal

pub stopped-requires : goal.stopped-requires
stopped-requires c =
    not_full c.requires.0 c.args.node.now (event_for c.args.said c.args.shard) c.in-Err.cause 0 c.requires.1 c.in-Err.ensures.refused

pub returns-in_err-push_all-in-Ok-clause-ready : goal.returns-in_err-push_all-in-Ok-clause-ready
returns-in_err-push_all-in-Ok-clause-ready c = λ keep more h.
    one_ready keep c.args.node.now (event_for c.args.said c.args.shard) c.in-Ok.handled c.tick_or_expire.new.node more c.tick_or_expire.ensures.keeps
    c.in-Ok.ensures.takes h

pub returns-in_ok-push_all-in-Ok-clause-sends : goal.returns-in_ok-push_all-in-Ok-clause-sends
returns-in_ok-push_all-in-Ok-clause-sends c = (
  c.in-Ok.handled.outs,
  one_sends c.requires.0 c.args.node.now (event_for c.args.said c.args.shard) c.in-Ok.handled c.tick_or_expire.new.node 1 c.requires.1
      c.tick_or_expire.ensures.keeps c.in-Ok.ensures.takes,
  subst (λ (frames : List RawOut). Prints (so_far c.args.answers.now) frames (so_far c.push_all.new.self)) c.as_slice.ensures c.in_ok-push_all-in-Ok.ensures,
)

pub returns-in_ok-push_all-in-Ok-clause-ready : goal.returns-in_ok-push_all-in-Ok-clause-ready
returns-in_ok-push_all-in-Ok-clause-ready c = λ keep more h.
    one_ready keep c.args.node.now (event_for c.args.said c.args.shard) c.in-Ok.handled c.tick_or_expire.new.node more c.tick_or_expire.ensures.keeps
    c.in-Ok.ensures.takes h
