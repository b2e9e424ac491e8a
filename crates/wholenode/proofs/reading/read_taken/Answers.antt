use Rattle.std.proofs.Common.{◌≡◌, ◌++◌, ◌∷◌, [], List, map, rules, sym, ap, subst, ◌∙◌, append_assoc}
use Rattle.std.specs.Vec.Iter.{drain_items}
use Rattle.hlrcore.specs.declared.event.Event.{Event}
use Rattle.hlrcore.specs.declared.event.RawEvent.{RawEvent}
use Rattle.hlrcore.specs.Events.{raw_event}
use Rattle.wholenode.specs.declared.fault.Cause.{Cause}
use Rattle.wholenode.specs.declared.fault.Cause.TheVariants.{Memory}
use Rattle.wholenode.specs.Handling.{Refuses}
use Rattle.wholenode.specs.Reading.{AreRead}
use Rattle.wholenode.proofs.ReadLemmas.{has_unread, read_next, unread_refuses}
use Rattle.wholenode.proofs.reading.read_taken.Goals as goal

pub loop-raw-preserved : goal.loop-raw-preserved
loop-raw-preserved c =
    let at = c.loop-raw.invariant in
    let left : drain_items c.loop-raw.raw-iterator ≡ c.in-Some.raw ∷ drain_items c.next.new.self = search rules in
    let put : c.push_reserved.new.self.items ≡ c.loop-raw.read.items ++ c.in-Ok.event ∷ [] = search rules in
    record {
      whole = append_assoc c.loop-raw.yielded (c.in-Some.raw ∷ []) (drain_items c.next.new.self)
          ∙ ap (λ (l : List RawEvent). c.loop-raw.yielded ++ l) (sym left) ∙ at.whole;
      read = subst (λ (es : List Event). AreRead (map raw_event (c.loop-raw.yielded ++ c.in-Some.raw ∷ [])) es) (sym put)
          (read_next c.loop-raw.yielded c.loop-raw.read.items c.in-Some.raw c.in-Ok.event at.read c.in-Ok.ensures.same c.in-Ok.ensures.read);
    }

pub returns-then-is_err-clause-unread : goal.returns-then-is_err-clause-unread
returns-then-is_err-clause-unread c =
    let left : drain_items c.loop-raw.raw-iterator ≡ c.in-Some.raw ∷ drain_items c.next.new.self = search rules in
    has_unread c.args.events.now.items c.loop-raw.yielded (drain_items c.next.new.self) c.in-Some.raw Memory
    (ap (λ (l : List RawEvent). c.loop-raw.yielded ++ l) (sym left) ∙ c.loop-raw.invariant.whole) (λ node. tt)

pub returns-in-Err-clause-unread : goal.returns-in-Err-clause-unread
returns-in-Err-clause-unread c =
    let left : drain_items c.loop-raw.raw-iterator ≡ c.in-Some.raw ∷ drain_items c.next.new.self = search rules in
    has_unread c.args.events.now.items c.loop-raw.yielded (drain_items c.next.new.self) c.in-Some.raw c.unread.result
    (ap (λ (l : List RawEvent). c.loop-raw.yielded ++ l) (sym left) ∙ c.loop-raw.invariant.whole)
    (λ node. subst (λ (cause : Cause). Refuses node (raw_event c.in-Some.raw) cause) (sym c.unread.ensures)
    (unread_refuses node c.in-Err.fault (raw_event c.in-Some.raw) c.in-Err.ensures.refused))
