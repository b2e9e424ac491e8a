use Rattle.std.proofs.Common.{◌≡◌, ◌∙◌, [], List, ap, subst}
use Rattle.frames.specs.Octets.{RawOut}
use Rattle.texts.specs.Lines.{lines}
use Rattle.std.specs.Prelude.{option_map}
use Rattle.hlr_input.specs.Octets.{ids_in}
use Rattle.hlr_program.specs.declared.register.Register.{Register}
use Rattle.hlr_program.specs.Answered.{so_far}
use Rattle.hlr_program.specs.Registers.{part_of, state_known}
use Rattle.hlr_program.specs.Batches.{batch_of}
use Rattle.hlr_program.specs.Gathering.{Handles, progress}
use Rattle.hlr_program.specs.Printed.{Prints}
use Rattle.hlr_program.specs.Stopping.{BatchStops}
use Rattle.hlr_program.proofs.GatherLemmas.{batch_stops, handles, last_stops, passed_on}
use Rattle.hlr_program.proofs.batch.handle_batch.Goals as goal

pub returns-in_err-behind-clause-stops : goal.returns-in_err-behind-clause-stops
returns-in_err-behind-clause-stops g c =
    let ls = batch_of (lines c.args.from.rest.now) in
    let none : part_of c.begin_batch.new.register ≡ [] = ap part_of c.begin_batch.ensures ∙ c.requires.none in
    passed_on c.from_residual-in_err-behind.result c.in_err-behind.field-0.0
    (BatchStops (ids_in (option_map (λ i. i.now) c.args.ids)) c.args.from.before (state_known c.args.register.now) ls) c.from_residual-in_err-behind.ensures.1
    (subst (λ (r : Register). BatchStops (ids_in (option_map (λ i. i.now) c.args.ids)) c.args.from.before (state_known r) ls c.in_err-behind.field-0.0) c.begin_batch.ensures
    (batch_stops (ids_in (option_map (λ i. i.now) c.args.ids)) c.args.from.before (progress c.begin_batch.new.register c.args.answers.now) ls c.in_err-behind.field-0.0
    none c.in_ok-check_letters.ensures.known c.in_err-behind.ensures.stops))

pub returns-in_err-end_batch-clause-stops : goal.returns-in_err-end_batch-clause-stops
returns-in_err-end_batch-clause-stops g c =
    let start = progress c.begin_batch.new.register c.args.answers.now in
    let here = progress c.take_lines.new.register c.take_lines.new.answers in
    let ls = batch_of (lines c.args.from.rest.now) in
    let none : part_of c.begin_batch.new.register ≡ [] = ap part_of c.begin_batch.ensures ∙ c.requires.none in
    passed_on c.from_residual-in_err-end_batch.result c.in_err-end_batch.field-0.0
    (BatchStops (ids_in (option_map (λ i. i.now) c.args.ids)) c.args.from.before (state_known c.args.register.now) ls) c.from_residual-in_err-end_batch.ensures.1
    (subst (λ (r : Register). BatchStops (ids_in (option_map (λ i. i.now) c.args.ids)) c.args.from.before (state_known r) ls c.in_err-end_batch.field-0.0) c.begin_batch.ensures
    (batch_stops (ids_in (option_map (λ i. i.now) c.args.ids)) c.args.from.before start ls c.in_err-end_batch.field-0.0
    none c.in_ok-check_letters.ensures.known
    (last_stops (ids_in (option_map (λ i. i.now) c.args.ids)) start here ls c.in_err-end_batch.field-0.0 c.in_ok-behind.ensures.adds c.in_err-end_batch.ensures.stops)))

pub returns-clause-handles : goal.returns-clause-handles
returns-clause-handles g c =
    let ls = batch_of (lines c.args.from.rest.now) in
    let none : part_of c.begin_batch.new.register ≡ [] = ap part_of c.begin_batch.ensures ∙ c.requires.none in
    subst (λ (r : Register). (sent : List RawOut) × Handles (ids_in (option_map (λ i. i.now) c.args.ids)) r ls sent c.end_batch.new.self
    × Prints (so_far c.args.answers.now) sent (so_far c.end_batch.new.answers)) c.begin_batch.ensures
    (handles (ids_in (option_map (λ i. i.now) c.args.ids)) (progress c.begin_batch.new.register c.args.answers.now) (progress c.take_lines.new.register c.take_lines.new.answers)
    (progress c.end_batch.new.self c.end_batch.new.answers) ls none c.in_ok-behind.ensures.adds c.in_ok-end_batch.ensures.adds
    c.in_ok-end_batch.ensures.none)
