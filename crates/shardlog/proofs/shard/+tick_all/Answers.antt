use Rattle.std.proofs.Common.{◌≡◌, ◌∷◌, List, ap, refl, subst, sym, rules}
use Rattle.std.specs.Prelude.{Err}
use Rattle.shardlog.specs.Log.{Log, log, base_of}
use Rattle.shardlog.specs.Entries.{raw_entries}
use Rattle.shardlog.specs.Ticking.{AreTicked}
use Rattle.shardlog.proofs.LogLemmas.{IsRoomy, held_same, still_held, still_seen}
use Rattle.shardlog.proofs.TickLemmas.{entry_ticked, entry_ticks, hinders_first, hinders_later, none_changed, nothing_ticked, nothing_ticks, told}
use Rattle.shardlog.proofs.shard.+tick_all.Goals as goal

pub invariant_of-first : goal.invariant_of-first
invariant_of-first n c = held_same _ _ _ _ _ _ c.first.invariant c.in_err-make_room.ensures.entries c.in_err-make_room.ensures.err

pub returns-in_err-make_room-clause-hinders : goal.returns-in_err-make_room-clause-hinders
returns-in_err-make_room-clause-hinders n c =
    let is : c.from_residual.result ≡ Err c.in_err-make_room.field-0.0 = search rules in
    told c.from_residual.result c.in_err-make_room.field-0.0 (c.in-Some.first.now ∷ c.in-Some.rest.now) c.args.shards.now is
    c.in-Some.ensures.cases.0
    (hinders_first c.first.inside.keep (base_of c.first.inside.base c.first.inside.state) c.first.inside.state c.first.inside.entries.items
    c.in-Some.first.now c.in-Some.rest.now c.in_err-make_room.field-0.0 c.first.view_is c.in_err-make_room.ensures.only
    (λ full. c.in_err-make_room.ensures.full.0 (ap (λ f. Err f) full)) c.in_err-make_room.ensures.enough)

pub returns-in_err-tick_all-clause-hinders : goal.returns-in_err-tick_all-clause-hinders
returns-in_err-tick_all-clause-hinders n c =
    let is : c.from_residual-in_err-tick_all.result ≡ Err c.in_err-tick_all.field-0.0 = search rules in
    told c.from_residual-in_err-tick_all.result c.in_err-tick_all.field-0.0 (c.in-Some.first.now ∷ c.in-Some.rest.now) c.args.shards.now is
    c.in-Some.ensures.cases.0
    (hinders_later c.in-Some.first.now c.in-Some.rest.now c.in_err-tick_all.field-0.0 c.in_err-tick_all.ensures.hinders)

pub invariant_of-first-in-Break-branch-2 : goal.invariant_of-first-in-Break-branch-2
invariant_of-first-in-Break-branch-2 n c =
    let roomy : IsRoomy c.first.inside.keep c.first.inside.base c.make_room.new.base c.first.inside.state c.first.inside.entries.items
    c.make_room.new.entries.items = record {
      held = c.first.invariant;
      entries = c.in_ok-make_room.ensures.entries;
      kept = c.in_ok-make_room.ensures.kept;
      left = c.in_ok-make_room.ensures.base;
    } in
    still_held _ _ _ _ _ _ roomy c.first.inside.state refl

pub returns-in_err-tick_all-clause-err : goal.returns-in_err-tick_all-clause-err
returns-in_err-tick_all-clause-err n c =
    let roomy : IsRoomy c.first.inside.keep c.first.inside.base c.make_room.new.base c.first.inside.state c.first.inside.entries.items
    c.make_room.new.entries.items = record {
      held = c.first.invariant;
      entries = c.in_ok-make_room.ensures.entries;
      kept = c.in_ok-make_room.ensures.kept;
      left = c.in_ok-make_room.ensures.base;
    } in
    none_changed c.from_residual-in_err-tick_all.result c.in-Some.first.now _ c.in-Some.rest.now c.tick_all.new.shards c.args.shards.now
    (still_seen _ _ _ _ _ _ roomy c.in-Some.first.now c.first.inside.state c.first.view_is refl) c.in_err-tick_all.ensures.err
    c.in-Some.ensures.cases.0

pub invariant_of-first-in-Entries : goal.invariant_of-first-in-Entries
invariant_of-first-in-Entries n c =
    let roomy : IsRoomy c.first.inside.keep c.first.inside.base c.make_room.new.base c.first.inside.state c.first.inside.entries.items
    c.make_room.new.entries.items = record {
      held = c.first.invariant;
      entries = c.in_ok-make_room.ensures.entries;
      kept = c.in_ok-make_room.ensures.kept;
      left = c.in_ok-make_room.ensures.base;
    } in
    let own : c.unwrap-shard.result ≡ c.first.inside.state.shard = search rules in
    entry_ticked c.first.inside.keep c.first.inside.base c.make_room.new.base c.first.inside.state c.first.inside.entries.items
    c.make_room.new.entries.items roomy c.in-Some.first.now c.tick-answer.new.self c.args.now c.tick-answer.result c.first.view_is
    c.tick-answer.ensures.stepped c.tick-answer.ensures.same_shard
    c.append.new.entries.items c.unwrap-shard.result own c.in-Entries.is (c.in_ok-make_room.ensures.few c.in-Entries.is) c.append.ensures.put

pub invariant_of-first-in-Nothing : goal.invariant_of-first-in-Nothing
invariant_of-first-in-Nothing n c =
    let roomy : IsRoomy c.first.inside.keep c.first.inside.base c.make_room.new.base c.first.inside.state c.first.inside.entries.items
    c.make_room.new.entries.items = record {
      held = c.first.invariant;
      entries = c.in_ok-make_room.ensures.entries;
      kept = c.in_ok-make_room.ensures.kept;
      left = c.in_ok-make_room.ensures.base;
    } in
    nothing_ticked c.first.inside.keep c.first.inside.base c.make_room.new.base c.first.inside.state c.first.inside.entries.items
    c.make_room.new.entries.items roomy c.in-Some.first.now c.tick-answer.new.self c.args.now c.tick-answer.result c.first.view_is
    c.tick-answer.ensures.stepped c.tick-answer.ensures.same_shard c.in-Nothing.is

pub returns-in-Entries-clause-ticks : goal.returns-in-Entries-clause-ticks
returns-in-Entries-clause-ticks n c =
    let roomy : IsRoomy c.first.inside.keep c.first.inside.base c.make_room.new.base c.first.inside.state c.first.inside.entries.items
    c.make_room.new.entries.items = record {
      held = c.first.invariant;
      entries = c.in_ok-make_room.ensures.entries;
      kept = c.in_ok-make_room.ensures.kept;
      left = c.in_ok-make_room.ensures.base;
    } in
    let own : c.unwrap-shard.result ≡ c.first.inside.state.shard = search rules in
    let after : Log = log c.first.inside.keep (base_of c.make_room.new.base c.tick-answer.new.self) (raw_entries c.append.new.entries.items)
    c.tick-answer.new.self in
    subst (λ (ls : List Log). AreTicked c.args.now ls (after ∷ c.tick_all.new.shards)) (sym c.in-Some.ensures.cases.0) (
      entry_ticks c.first.inside.keep c.first.inside.base c.make_room.new.base c.first.inside.state c.first.inside.entries.items
          c.make_room.new.entries.items roomy c.in-Some.first.now c.tick-answer.new.self c.args.now c.tick-answer.result c.first.view_is
          c.tick-answer.ensures.stepped c.tick-answer.ensures.same_shard
          c.append.new.entries.items c.unwrap-shard.result own c.in-Entries.is (c.in_ok-make_room.ensures.few c.in-Entries.is) c.append.ensures.put
          c.tick-answer.ensures.ids,
      c.in_ok-tick_all.ensures.ticks,
    )

pub returns-in-Nothing-clause-ticks : goal.returns-in-Nothing-clause-ticks
returns-in-Nothing-clause-ticks n c =
    let roomy : IsRoomy c.first.inside.keep c.first.inside.base c.make_room.new.base c.first.inside.state c.first.inside.entries.items
    c.make_room.new.entries.items = record {
      held = c.first.invariant;
      entries = c.in_ok-make_room.ensures.entries;
      kept = c.in_ok-make_room.ensures.kept;
      left = c.in_ok-make_room.ensures.base;
    } in
    let after : Log = log c.first.inside.keep (base_of c.make_room.new.base c.tick-answer.new.self) (raw_entries c.make_room.new.entries.items)
    c.tick-answer.new.self in
    subst (λ (ls : List Log). AreTicked c.args.now ls (after ∷ c.tick_all.new.shards)) (sym c.in-Some.ensures.cases.0) (
      nothing_ticks c.first.inside.keep c.first.inside.base c.make_room.new.base c.first.inside.state c.first.inside.entries.items
          c.make_room.new.entries.items roomy c.in-Some.first.now c.tick-answer.new.self c.args.now c.tick-answer.result c.first.view_is
          c.tick-answer.ensures.stepped c.tick-answer.ensures.same_shard c.in-Nothing.is c.tick-answer.ensures.ids,
      c.in_ok-tick_all.ensures.ticks,
    )
