use Rattle.std.proofs.Common.{◌+◌, ◌++◌, ◌||◌, [], false, map, take, refl, sym, ap, ◌∙◌}
use Rattle.std.specs.List.{list_any}
use Rattle.machine.specs.State.{Invocation, is_sent}
use Rattle.machine.specs.Effect.{starts}
use Rattle.machine_laws.proofs.Rising.{rising_after}
use Rattle.q773_comp.specs.Seen.{rejection}
use Rattle.csl.specs.Seen.{heard}
use Rattle.csl.specs.Effects.{offered, reject_now}
use Rattle.csl.proofs.Places.{first_of, none_first, rest_of}
use Rattle.csl.proofs.Hearing.{all_heard, heard_effect, later_one, none_heard, rejections_push}
use Rattle.csl.proofs.effect.receive_each.Goals as goal

pub returns-in_default : goal.returns-in_default
returns-in_default g c =
    rw (none_first c.args.components.now c.in_default.len_below)
    (heard_effect {P = g.row.P.Denot} c.args.now (offered c.args.offer.now) c.args.list.items [] _ c.args.list.items false _
    (rw c.effect_of_none.ensures.rejects (none_heard c.args.now (offered c.args.offer.now) c.args.list.items)) c.effect_of_none.ensures.started
    c.effect_of_none.ensures.left c.effect_of_none.ensures.conclusion refl)

pub conclude-has_failed-requires-in-loop-component-clause-rising : goal.conclude-has_failed-requires-in-loop-component-clause-rising
conclude-has_failed-requires-in-loop-component-clause-rising g c = rw c.loop-component.invariant.moved
    (rising_after {P = g.row.P.Denot} c.args.now (map heard (take (c.loop-component.component-index + 1) c.args.components.now)) c.args.list.items
    c.requires.rising)

pub loop-component-preserved : goal.loop-component-preserved
loop-component-preserved g c =
    let started = c.first_heard-started.result.0 in
    let whole = first_of c.args.components.now c.first-item.result c.in-len1-up.len_at_least c.first-item.is in
    later_one c.args.now (offered c.args.offer.now) c.args.list.items c.requires.rising c.args.components.now c.first-item.result
    (rest_of c.args.components.now) whole c.loop-component.component-index c.component-item.result c.loop-component-test.true c.component-item.is
    started (rw c.deref.ensures at c.first_heard-started.ensures.started) _ _ _ c.loop-component.invariant _ _ _
    c.conclude-has_failed-in-loop-component.ensures.after
    (ap (map rejection) c.in_ok-push_rejection-2.ensures ∙ rejections_push c.loop-component.rejects.items c.rejection_of-rejection.result
    ∙ ap (λ rs. map rejection c.loop-component.rejects.items ++ rs) (c.rejection_of-rejection.ensures
    ∙ ap (λ vs. reject_now (offered c.args.offer.now) vs started false (heard c.component-item.result)) c.deref-in-loop-component.ensures))
    (ap (λ b. c.loop-component.has_failed || b) c.conclude-has_failed-in-loop-component.ensures.failed)

pub returns : goal.returns
returns g c =
    let whole = first_of c.args.components.now c.first-item.result c.in-len1-up.len_at_least c.first-item.is in
    heard_effect c.args.now (offered c.args.offer.now) c.args.list.items (map heard c.args.components.now) _ _ _ _
    (all_heard c.args.now (offered c.args.offer.now) c.args.list.items c.requires.rising c.args.components.now c.first-item.result
    (rest_of c.args.components.now) whole c.loop-component.component-index _ _ _ c.loop-component.invariant c.loop-component-test.false)
    ((rw c.deref.ensures at c.first_heard-started.ensures.started)
    ∙ sym (ap (λ xs. starts (offered c.args.offer.now) c.args.list.items (map (heard {P = g.row.P.Denot}) xs)) whole))
    c.of.ensures c.conclusion_of.ensures (c.any_sent-still_sent.ensures ∙ ap (list_any (λ (own : Invocation). is_sent own.was)) c.deref-2.ensures)

pub of-requires : goal.of-requires
of-requires g c = rw c.loop-component.invariant.moved
    (rising_after {P = g.row.P.Denot} c.args.now (map heard (take (c.loop-component.component-index + 1) c.args.components.now)) c.args.list.items
    c.requires.rising)
