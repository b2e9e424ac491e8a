use Rattle.std.proofs.Common.{◌≡◌, ◌<◌, ◌+◌, ℕ, length, get_or, refl, sym, subst, rules, arith}
use Rattle.std.specs.Prelude.{Option}
use Rattle.std.proofs.lemmas.Option.{slice_get_read}
use Rattle.machine.specs.Deadlines.{IsFirst, IsTimer}
use Rattle.hlrcore.specs.Shards.{ShardState, state_of}
use Rattle.embed.specs.Lookups.{TimerBelow}
use Rattle.embed.proofs.LookupLemmas.{none_below, one_below}
use Rattle.embed.proofs.lookups.first_in.Goals as goal

pub loop-shard-init : goal.loop-shard-init
loop-shard-init c = none_below c.args.shards.now

pub loop-shard-preserved : goal.loop-shard-preserved
loop-shard-preserved c =
    let shards = c.args.shards.now in
    let it = c.shard-item.result in
    let lt : c.loop-shard.shard-index < length shards = search rules in
    let is : it ≡ get_or shards c.loop-shard.shard-index it = search rules in
    let at = slice_get_read shards (length shards) c.loop-shard.shard-index it refl lt is in
    let next : IsFirst (IsTimer (state_of it.state) it.state.shard) c.first_deadline.result =
    subst (λ (s : ShardState). IsFirst (IsTimer (state_of s) s.shard) c.first_deadline.result) c.state.ensures c.first_deadline.ensures in
    subst (λ (o : Option ℕ). IsFirst (TimerBelow shards (c.loop-shard.shard-index + 1)) o) (sym c.earlier-first.ensures)
    (one_below shards c.loop-shard.shard-index it c.loop-shard.first c.first_deadline.result at c.loop-shard.invariant next)

pub returns : goal.returns
returns c =
    let shards = c.args.shards.now in
    let all : c.loop-shard.shard-index ≡ length shards = omega arith in
    subst (λ (n : ℕ). IsFirst (TimerBelow shards n) c.loop-shard.first) all c.loop-shard.invariant
