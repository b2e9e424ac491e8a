use Rattle.std.proofs.Common.{◌≡◌, sym, ap, subst, ◌∙◌}
use Rattle.std.specs.FinMap as map
use Rattle.std.proofs.lemmas.Bool.{eq-eqb, ne_eqb}
use Rattle.records.specs.Subscriber.{Subscriber}
use Rattle.records.specs.Maps.{shard_of}
use Rattle.records.specs.Ordered.{AreInOrder, IsAbove}
use Rattle.records.proofs.TakenLemmas.{is_of, none_kept, above_taken, takes, passes}
use Rattle.records.proofs.records.Records.part.Goals as goal
use Rattle.records.proofs.records.Records.part.Goals.{then-shard_of-shard+in_ok-clone+in_ok-push, else-shard_of-shard}

pub loop-found-init : goal.loop-found-init
loop-found-init c = c.in_ok-part.ensures ∙ none_kept (is_of c.args.shard)

pub push-requires : goal.push-requires
push-requires c =
    let ss = c.deref-found-items.result.now in
    let s = c.found-item.result in
    let ordered : AreInOrder ss = rw c.deref-found-items.ensures.value c.self.invariant in
    subst (λ (t : Subscriber). IsAbove c.loop-found.part t.imsi) (sym c.in_ok-clone.ensures.cases)
    (above_taken ss c.loop-found.found-index s c.args.shard ordered c.loop-found-test.true c.found-item.is c.loop-found.part c.loop-found.invariant)

pub loop-found-preserved : goal.loop-found-preserved
loop-found-preserved c =
    let ss = c.deref-found-items.result.now in
    let s = c.found-item.result in
    let ordered : AreInOrder ss = rw c.deref-found-items.ensures.value c.self.invariant in
    let own : shard_of s.imsi ≡ c.shard_of.result = ap (λ (t : Subscriber). shard_of t.imsi) (sym c.found.view_is) ∙ sym c.shard_of.ensures.value in
    elim c.if-shard_of-shard.branch [
      | then-shard_of-shard+in_ok-clone+in_ok-push w ↦
          w.part-is ∙ takes ss c.loop-found.found-index s c.args.shard ordered c.loop-found-test.true c.found-item.is c.loop-found.part w.push.new.self
          (eq-eqb (shard_of s.imsi) c.args.shard (own ∙ w.if-shard_of-shard.true)) c.loop-found.invariant
          (w.in_ok-push.ensures ∙ ap (λ (t : Subscriber). map.insert c.loop-found.part t.imsi t) w.in_ok-clone.ensures.cases)
      | else-shard_of-shard w ↦
          w.part-is ∙ passes ss c.loop-found.found-index s c.args.shard ordered c.loop-found-test.true c.found-item.is c.loop-found.part
          (ne_eqb (shard_of s.imsi) c.args.shard (λ here. w.if-shard_of-shard.false (sym own ∙ here))) c.loop-found.invariant
    ]
