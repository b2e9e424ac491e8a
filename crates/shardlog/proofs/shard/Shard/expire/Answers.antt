use Rattle.std.proofs.Common.{◌≡◌, refl, rules}
use Rattle.machine.specs.Events.{Expire}
use Rattle.frames.specs.Octets.{RawExpire}
use Rattle.shardlog.proofs.LogLemmas.{IsRoomy, entry_handles, entry_held, held_keeps, held_same, nothing_handles, nothing_held, own_route, own_step, seen_keeps, still_keeps}
use Rattle.shardlog.proofs.shard.Shard.expire.Goals as goal

pub returns-in_err-own-clause-keeps : goal.returns-in_err-own-clause-keeps
returns-in_err-own-clause-keeps c = seen_keeps _ _ _ _ _ c.self.view_is c.self.invariant

pub invariant_of-self : goal.invariant_of-self
invariant_of-self c = held_same _ _ _ _ _ _ c.self.invariant c.in_err-make_room.ensures.entries c.in_err-make_room.ensures.err

pub returns-in_err-make_room-clause-keeps : goal.returns-in_err-make_room-clause-keeps
returns-in_err-make_room-clause-keeps c = held_keeps _ _ _ _ (invariant_of-self c)

pub returns-in_err-answer-clause-keeps : goal.returns-in_err-answer-clause-keeps
returns-in_err-answer-clause-keeps c =
    let roomy : IsRoomy c.self.inside.keep c.self.inside.base c.make_room.new.base c.self.inside.state c.self.inside.entries.items
    c.make_room.new.entries.items = record {
      held = c.self.invariant;
      entries = c.in_ok-make_room.ensures.entries;
      kept = c.in_ok-make_room.ensures.kept;
      left = c.in_ok-make_room.ensures.base;
    } in
    still_keeps c.self.inside.keep c.self.inside.base c.make_room.new.base c.self.inside.state c.self.inside.entries.items
    c.make_room.new.entries.items roomy
    c.expire.new.self c.in_err-answer.ensures.err

pub invariant_of-self-in-Entries : goal.invariant_of-self-in-Entries
invariant_of-self-in-Entries c =
    let roomy : IsRoomy c.self.inside.keep c.self.inside.base c.make_room.new.base c.self.inside.state c.self.inside.entries.items
    c.make_room.new.entries.items = record {
      held = c.self.invariant;
      entries = c.in_ok-make_room.ensures.entries;
      kept = c.in_ok-make_room.ensures.kept;
      left = c.in_ok-make_room.ensures.base;
    } in
    let own : c.args.shard ≡ c.self.inside.state.shard = search rules in
    entry_held c.self.inside.keep c.self.inside.base c.make_room.new.base c.self.inside.state c.self.inside.entries.items
    c.make_room.new.entries.items roomy
    c.args.self.now c.expire.new.self (RawExpire c.args.shard) c.in_ok-answer.answer c.self.view_is
    (own_route RawExpire c.args.shard c.self.inside.state own (Expire c.args.shard, refl, refl))
    (own_step RawExpire c.args.shard c.self.inside.state c.expire.new.self c.in_ok-answer.answer own c.in_ok-answer.ensures.stepped)
    c.in_ok-answer.ensures.same_shard
    c.append.new.entries.items c.in-Entries.is (c.in_ok-make_room.ensures.few c.in-Entries.is) c.append.ensures.put

pub invariant_of-self-in-Nothing : goal.invariant_of-self-in-Nothing
invariant_of-self-in-Nothing c =
    let roomy : IsRoomy c.self.inside.keep c.self.inside.base c.make_room.new.base c.self.inside.state c.self.inside.entries.items
    c.make_room.new.entries.items = record {
      held = c.self.invariant;
      entries = c.in_ok-make_room.ensures.entries;
      kept = c.in_ok-make_room.ensures.kept;
      left = c.in_ok-make_room.ensures.base;
    } in
    let own : c.args.shard ≡ c.self.inside.state.shard = search rules in
    nothing_held c.self.inside.keep c.self.inside.base c.make_room.new.base c.self.inside.state c.self.inside.entries.items
    c.make_room.new.entries.items roomy
    c.args.self.now c.expire.new.self (RawExpire c.args.shard) c.in_ok-answer.answer c.self.view_is
    (own_route RawExpire c.args.shard c.self.inside.state own (Expire c.args.shard, refl, refl))
    (own_step RawExpire c.args.shard c.self.inside.state c.expire.new.self c.in_ok-answer.answer own c.in_ok-answer.ensures.stepped)
    c.in_ok-answer.ensures.same_shard
    c.in-Nothing.is

pub returns-in-Entries-clause-handles : goal.returns-in-Entries-clause-handles
returns-in-Entries-clause-handles c =
    let roomy : IsRoomy c.self.inside.keep c.self.inside.base c.make_room.new.base c.self.inside.state c.self.inside.entries.items
    c.make_room.new.entries.items = record {
      held = c.self.invariant;
      entries = c.in_ok-make_room.ensures.entries;
      kept = c.in_ok-make_room.ensures.kept;
      left = c.in_ok-make_room.ensures.base;
    } in
    let own : c.args.shard ≡ c.self.inside.state.shard = search rules in
    entry_handles c.self.inside.keep c.self.inside.base c.make_room.new.base c.self.inside.state c.self.inside.entries.items
    c.make_room.new.entries.items roomy
    c.args.self.now c.expire.new.self (RawExpire c.args.shard) c.in_ok-answer.answer c.self.view_is
    (own_route RawExpire c.args.shard c.self.inside.state own (Expire c.args.shard, refl, refl))
    (own_step RawExpire c.args.shard c.self.inside.state c.expire.new.self c.in_ok-answer.answer own c.in_ok-answer.ensures.stepped)
    c.in_ok-answer.ensures.same_shard c.in_ok-answer.ensures.ids
    c.append.new.entries.items c.append.result c.in-Entries.is c.append.ensures.put c.append.ensures.outs c.append.ensures.position c.append.ensures.subject

pub returns-in-Entries-clause-keeps : goal.returns-in-Entries-clause-keeps
returns-in-Entries-clause-keeps c = held_keeps _ _ _ _ (invariant_of-self-in-Entries c)

pub returns-in-Nothing-clause-handles : goal.returns-in-Nothing-clause-handles
returns-in-Nothing-clause-handles c =
    let roomy : IsRoomy c.self.inside.keep c.self.inside.base c.make_room.new.base c.self.inside.state c.self.inside.entries.items
    c.make_room.new.entries.items = record {
      held = c.self.invariant;
      entries = c.in_ok-make_room.ensures.entries;
      kept = c.in_ok-make_room.ensures.kept;
      left = c.in_ok-make_room.ensures.base;
    } in
    let own : c.args.shard ≡ c.self.inside.state.shard = search rules in
    nothing_handles c.self.inside.keep c.self.inside.base c.make_room.new.base c.self.inside.state c.self.inside.entries.items
    c.make_room.new.entries.items roomy
    c.args.self.now c.expire.new.self (RawExpire c.args.shard) c.in_ok-answer.answer c.self.view_is
    (own_route RawExpire c.args.shard c.self.inside.state own (Expire c.args.shard, refl, refl))
    (own_step RawExpire c.args.shard c.self.inside.state c.expire.new.self c.in_ok-answer.answer own c.in_ok-answer.ensures.stepped)
    c.in_ok-answer.ensures.same_shard c.in_ok-answer.ensures.ids
    c.sent.result c.in-Nothing.is c.sent.ensures.outs c.sent.ensures.position c.sent.ensures.subject

pub returns-in-Nothing-clause-keeps : goal.returns-in-Nothing-clause-keeps
returns-in-Nothing-clause-keeps c = held_keeps _ _ _ _ (invariant_of-self-in-Nothing c)
