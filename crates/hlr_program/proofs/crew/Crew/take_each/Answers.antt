use Rattle.std.proofs.Common.{◌≡◌, ℕ, ◌∷◌, [], map, rules, subst, arith}
use Rattle.std.specs.List.{range_with_len}
use Rattle.frames.specs.Octets.{RawEvent}
use Rattle.hlr_program.specs.declared.register.Register.TheVariants.{Shared}
use Rattle.hlr_program.specs.Gathering.{Adds, AddingStops, Progress, progress}
use Rattle.hlr_program.specs.Shards.{event_for, events_for}
use Rattle.hlr_program.proofs.GatherLemmas.{adds_none, each_more, each_stops, passed_on}
use Rattle.hlr_program.proofs.crew.Crew.take_each.Goals as goal

pub loop-number-init : goal.loop-number-init
loop-number-init g c = adds_none (progress (Shared c.args.self.now) c.args.answers.now)

pub loop-number-preserved : goal.loop-number-preserved
loop-number-preserved g c =
    let same : c.unwrap-shard.result ≡ c.loop-number.number = search rules in
    let here : Progress = progress (Shared c.loop-number.self) c.loop-number.answers in
    let next : Progress = progress (Shared c.take.new.self) c.take.new.answers in
    each_more (λ n. event_for c.args.said n) c.loop-number.number c.unwrap-shard.result (progress (Shared c.args.self.now) c.args.answers.now)
    here next c.loop-number.invariant same (subst (λ (raw : RawEvent). Adds here (raw ∷ []) next) c.of.ensures c.in_ok-take.ensures.adds)

pub returns-clause-adds : goal.returns-clause-adds
returns-clause-adds g c =
    let all : c.loop-number.number ≡ 16 = omega arith in
    subst (λ (k : ℕ). Adds (progress (Shared c.args.self.now) c.args.answers.now) (map (λ n. event_for c.args.said n) (range_with_len 0 k))
    (progress (Shared c.loop-number.self) c.loop-number.answers)) all c.loop-number.invariant

pub returns-in_err-take-clause-stops : goal.returns-in_err-take-clause-stops
returns-in_err-take-clause-stops g c =
    let same : c.unwrap-shard.result ≡ c.loop-number.number = search rules in
    let start : Progress = progress (Shared c.args.self.now) c.args.answers.now in
    let here : Progress = progress (Shared c.loop-number.self) c.loop-number.answers in
    passed_on c.from_residual.result c.in_err-take.field-0.0 (AddingStops start (events_for c.args.said)) c.from_residual.ensures.1
    (each_stops (λ n. event_for c.args.said n) c.loop-number.number c.unwrap-shard.result start here c.in_err-take.field-0.0 (omega arith)
    c.loop-number.invariant same
    (subst (λ (raw : RawEvent). AddingStops here (raw ∷ []) c.in_err-take.field-0.0) c.of.ensures c.in_err-take.ensures.stops))
