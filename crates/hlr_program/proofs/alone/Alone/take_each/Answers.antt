use Rattle.std.proofs.Common.{◌≡◌, ℕ, [], map, rules, subst, arith}
use Rattle.std.specs.List.{range_with_len}
use Rattle.hlr_program.specs.declared.register.Register.TheVariants.{Alone}
use Rattle.hlr_program.specs.Gathering.{Adds, AddingStops, Progress, progress}
use Rattle.hlr_program.specs.Shards.{event_for, events_for}
use Rattle.hlr_program.proofs.GatherLemmas.{each_more, each_stops, passed_on, stops_longer}
use Rattle.hlr_program.proofs.alone.Alone.take_each.Goals as goal

pub loop-number-init : goal.loop-number-init
loop-number-init c = (c.in_ok-run.ensures.adds, c.in_ok-run.ensures.none)

pub take_for-requires : goal.take_for-requires
take_for-requires c = c.loop-number.invariant.1

pub loop-number-preserved : goal.loop-number-preserved
loop-number-preserved c =
    let same : c.unwrap-shard.result ≡ c.loop-number.number = search rules in (
      each_more (λ n. event_for c.args.said n) c.loop-number.number c.unwrap-shard.result (progress (Alone c.args.self.now) c.args.answers.now)
          (progress (Alone c.loop-number.self) c.loop-number.answers) (progress (Alone c.take_for.new.self) c.take_for.new.answers)
          c.loop-number.invariant.0 same c.in_ok-take_for.ensures.adds,
      c.take_for.ensures.none,
    )

pub returns-clause-adds : goal.returns-clause-adds
returns-clause-adds c =
    let all : c.loop-number.number ≡ 16 = omega arith in
    subst (λ (k : ℕ). Adds (progress (Alone c.args.self.now) c.args.answers.now) (map (λ n. event_for c.args.said n) (range_with_len 0 k))
    (progress (Alone c.loop-number.self) c.loop-number.answers)) all c.loop-number.invariant.0

pub returns-in_err-run-clause-stops : goal.returns-in_err-run-clause-stops
returns-in_err-run-clause-stops c =
    let start : Progress = progress (Alone c.args.self.now) c.args.answers.now in
    passed_on c.from_residual.result c.in_err-run.field-0.0 (AddingStops start (events_for c.args.said)) c.from_residual.ensures.1
    (stops_longer start [] (events_for c.args.said) c.in_err-run.field-0.0 c.in_err-run.ensures.stops)

pub returns-in_err-take_for-clause-stops : goal.returns-in_err-take_for-clause-stops
returns-in_err-take_for-clause-stops c =
    let same : c.unwrap-shard.result ≡ c.loop-number.number = search rules in
    let start : Progress = progress (Alone c.args.self.now) c.args.answers.now in
    passed_on c.from_residual-in_err-take_for.result c.in_err-take_for.field-0.0 (AddingStops start (events_for c.args.said))
    c.from_residual-in_err-take_for.ensures.1
    (each_stops (λ n. event_for c.args.said n) c.loop-number.number c.unwrap-shard.result start
    (progress (Alone c.loop-number.self) c.loop-number.answers) c.in_err-take_for.field-0.0 (omega arith) c.loop-number.invariant.0 same
    c.in_err-take_for.ensures.stops)
