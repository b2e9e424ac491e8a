use Rattle.std.proofs.Common.{◌≡◌, ◌+◌, ◌++◌, ◌∷◌, [], List, length, map, append-nil, append_assoc, length-append, arith, rules, sym, ap, subst, ◌∙◌}
use Rattle.std.specs.Vec.Iter.{drain_items}
use Rattle.std.proofs.lemmas.List.{length-map, map-append}
use Rattle.frames.specs.Octets.{RawEvent as Raw}
use Rattle.hlrcore.specs.declared.event.RawEvent.{RawEvent}
use Rattle.hlrcore.specs.Events.{raw_event}
use Rattle.workers.specs.Shared.{AddsJobs}
use Rattle.workers.proofs.NumberingLemmas.{adds_more}
use Rattle.workers.proofs.part.number_jobs.Goals as goal

pub loop-event-preserved : goal.loop-event-preserved
loop-event-preserved c =
    let at = c.loop-event.invariant in
    let left : drain_items c.loop-event.event-iterator ≡ c.in-Some.event ∷ drain_items c.next.new.self = search rules in
    let number : c.in_ok-number.number ≡ c.args.first + length (map raw_event c.loop-event.yielded) =
    search rules ∙ ap (λ k. c.args.first + k) (sym (length-map c.loop-event.yielded raw_event)) in
    let more : c.in_ok-next.next ≡ c.loop-event.next + 1 = search rules in
    record {
      next = omega (arith, more, at.next, length-append c.loop-event.yielded (c.in-Some.event ∷ []));
      left = append_assoc c.loop-event.yielded (c.in-Some.event ∷ []) (drain_items c.next.new.self)
          ∙ ap (λ (l : List RawEvent). c.loop-event.yielded ++ l) (sym left) ∙ at.left;
      added = subst (λ (events : List Raw). AddsJobs c.args.first events c.args.jobs.now.items c.push.new.self.items)
          (sym (map-append raw_event c.loop-event.yielded (c.in-Some.event ∷ [])))
          (adds_more c.args.first c.in_ok-number.number (raw_event c.in-Some.event) (map raw_event c.loop-event.yielded) c.args.jobs.now.items
          c.loop-event.jobs.items c.push.new.self.items at.added number (search rules));
    }

pub returns-clause-adds : goal.returns-clause-adds
returns-clause-adds c =
    let none : drain_items c.loop-event.event-iterator ≡ [] = search rules in
    let whole : c.loop-event.yielded ≡ c.args.events.now.items =
    sym (append-nil c.loop-event.yielded) ∙ ap (λ (l : List RawEvent). c.loop-event.yielded ++ l) (sym none) ∙ c.loop-event.invariant.left in
    subst (λ (events : List RawEvent). AddsJobs c.args.first (map raw_event events) c.args.jobs.now.items c.loop-event.jobs.items) whole
    c.loop-event.invariant.added
