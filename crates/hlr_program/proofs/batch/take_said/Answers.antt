use Rattle.std.proofs.Common.{[], ap, refl, subst, sym}
use Rattle.std.specs.Prelude.{option_map}
use Rattle.hlr_input.specs.Octets.{ids_in}
use Rattle.hlr_input.specs.Script.{Batch, Clock, Expire, Line, line_of}
use Rattle.hlr_program.specs.declared.each.Each.TheVariants as each
use Rattle.hlr_program.specs.Gathering.{AddsSaid, SaidStops, progress}
use Rattle.hlr_program.specs.Shards.{events_for}
use Rattle.hlr_program.proofs.GatherLemmas.{adds_none, adds_said, said_stops}
use Rattle.hlr_program.proofs.ListLemmas.{else_on, then_on}
use Rattle.hlr_program.proofs.batch.take_said.Goals as goal

pub returns-in-Frame-clause-adds : goal.returns-in-Frame-clause-adds
returns-in-Frame-clause-adds g c = then_on c.take_frame.result c.take_frame.ensures.adds
    (λ adds. subst (λ (said : Line). AddsSaid (ids_in (option_map (λ i. i.now) c.args.ids)) (progress c.args.register.now c.args.answers.now) said
    (progress c.take_frame.new.register c.take_frame.new.answers)) (sym (ap line_of c.in-Frame.is)) adds)

pub returns-in-Frame-clause-stops : goal.returns-in-Frame-clause-stops
returns-in-Frame-clause-stops g c = else_on _ _ c.take_frame.result c.take_frame.ensures.stops
    (λ fault stops. subst (λ (said : Line). SaidStops (ids_in (option_map (λ i. i.now) c.args.ids)) (progress c.args.register.now c.args.answers.now) said fault)
    (sym (ap line_of c.in-Frame.is)) stops)

pub returns-in-Batch-clause-adds : goal.returns-in-Batch-clause-adds
returns-in-Batch-clause-adds g c =
    let here = progress c.args.register.now c.args.answers.now in
    adds_said (ids_in (option_map (λ i. i.now) c.args.ids)) (line_of c.args.item) Batch [] here here (ap line_of c.in-Batch.is) refl (adds_none here)

pub returns-in-Clock-clause-adds : goal.returns-in-Clock-clause-adds
returns-in-Clock-clause-adds g c = then_on c.take_each.result c.take_each.ensures.adds
    (λ adds. adds_said (ids_in (option_map (λ i. i.now) c.args.ids)) (line_of c.args.item) (Clock c.in-Clock.now) (events_for (each.Clock c.in-Clock.now)) (progress c.args.register.now c.args.answers.now)
    (progress c.take_each.new.self c.take_each.new.answers) (ap line_of c.in-Clock.is) refl adds)

pub returns-in-Clock-clause-stops : goal.returns-in-Clock-clause-stops
returns-in-Clock-clause-stops g c = else_on _ _ c.take_each.result c.take_each.ensures.stops
    (λ fault stops. said_stops (ids_in (option_map (λ i. i.now) c.args.ids)) (line_of c.args.item) (Clock c.in-Clock.now) (events_for (each.Clock c.in-Clock.now)) (progress c.args.register.now c.args.answers.now) fault (ap line_of c.in-Clock.is) refl stops)

pub returns-in-Expire-clause-adds : goal.returns-in-Expire-clause-adds
returns-in-Expire-clause-adds g c = then_on c.take_each-in-Expire.result c.take_each-in-Expire.ensures.adds
    (λ adds. adds_said (ids_in (option_map (λ i. i.now) c.args.ids)) (line_of c.args.item) Expire (events_for each.Expiry) (progress c.args.register.now c.args.answers.now)
    (progress c.take_each-in-Expire.new.self c.take_each-in-Expire.new.answers) (ap line_of c.in-Expire.is) refl adds)

pub returns-in-Expire-clause-stops : goal.returns-in-Expire-clause-stops
returns-in-Expire-clause-stops g c = else_on _ _ c.take_each-in-Expire.result c.take_each-in-Expire.ensures.stops
    (λ fault stops. said_stops (ids_in (option_map (λ i. i.now) c.args.ids)) (line_of c.args.item) Expire (events_for each.Expiry) (progress c.args.register.now c.args.answers.now) fault (ap line_of c.in-Expire.is) refl stops)
