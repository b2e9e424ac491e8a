use Rattle.std.proofs.Common.{rules, refl}
use Rattle.hlrcore.specs.Answers.{entry_of}
use Rattle.hlrcore.specs.Events.{raw_event}
use Rattle.shardlog.proofs.LogLemmas.{entries_after, entry_is}
use Rattle.shardlog.proofs.shard.append.Goals as goal

pub returns-clause-put : goal.returns-clause-put
returns-clause-put c =
    entries_after c.args.entries.now.items c.push_reserved.new.self.items
    (record { event = c.args.event; id = c.args.answer.id; subject = c.args.answer.subject; outs = c.into_both-outs.result.1 })
    (entry_of (raw_event c.args.event) c.args.answer) (search rules)
    (entry_is c.args.event (raw_event c.args.event) c.args.answer c.into_both-outs.result.1 refl c.into_both-outs.ensures.kept)
