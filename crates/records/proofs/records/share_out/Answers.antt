use Rattle.std.proofs.Common.{◌≡◌, ◌++◌, ◌∷◌, [], List, length, take, drop, refl, sym, ap, subst, ◌∙◌, append_assoc, rules, arith}
use Rattle.std.proofs.Math.Seq.{take-append_seam}
use Rattle.std.specs.Vec.Iter.{into_iter_items}
use Rattle.records.specs.Subscriber.{Subscriber}
use Rattle.records.specs.Maps.{shard_of}
use Rattle.records.specs.Loaded.{by_imsi}
use Rattle.records.specs.Parts.{AreParts}
use Rattle.records.proofs.TakenLemmas.{parts_begin, parts_take, parts_end, above_own, shard_small, none_left}
use Rattle.records.proofs.records.share_out.Goals as goal

pub loop-found-init : goal.loop-found-init
loop-found-init c = record { whole = search rules; taken = parts_begin c.in_ok-parts.parts.items c.in_ok-parts.ensures }

pub add_to_own-requires-clause-sixteen : goal.add_to_own-requires-clause-sixteen
add_to_own-requires-clause-sixteen c = c.loop-found.invariant.taken.sixteen

pub add_to_own-requires-clause-above : goal.add_to_own-requires-clause-above
add_to_own-requires-clause-above c =
    let at = c.loop-found.invariant in
    let left : into_iter_items c.loop-found.found-iterator ≡ c.in-Some.found ∷ into_iter_items c.next.new.self = search rules in
    above_own c.args.in_order.items c.loop-found.yielded c.loop-found.parts.items c.loop-found.parts.items at.taken
    c.in-Some.found (into_iter_items c.next.new.self) c.requires
    (ap (λ (l : List Subscriber). c.loop-found.yielded ++ l) (sym left) ∙ at.whole) (shard_of c.in-Some.found.imsi) (shard_small c.in-Some.found.imsi)

pub loop-found-preserved : goal.loop-found-preserved
loop-found-preserved c =
    let at = c.loop-found.invariant in
    let left : into_iter_items c.loop-found.found-iterator ≡ c.in-Some.found ∷ into_iter_items c.next.new.self = search rules in
    let whole = ap (λ (l : List Subscriber). c.loop-found.yielded ++ l) (sym left) ∙ at.whole in
    record {
      whole = append_assoc c.loop-found.yielded (c.in-Some.found ∷ []) (into_iter_items c.next.new.self) ∙ whole;
      taken = parts_take c.args.in_order.items c.loop-found.yielded c.loop-found.parts.items c.add_to_own.new.parts.items at.taken
          c.in-Some.found (into_iter_items c.next.new.self) c.requires
          whole c.in_ok-add_to_own.ensures;
    }

pub returns : goal.returns
returns c =
    let at = c.loop-found.invariant in
    let none : length (into_iter_items c.loop-found.found-iterator) ≡ 0 = search rules in
    let parts = c.loop-found.parts in
    let made = c.make_all_starts.new.parts in
    let same : made ≡ parts.items = c.make_all_starts.ensures ∙ c.deref_mut.ensures.value in
    let many : parts.len ≡ length made = omega (arith, ap length same) in
    let behind = drop (length made) parts.items in
    let back : take parts.len (made ++ behind) ≡ parts.items = rw many (take-append_seam made behind ∙ same) in
    subst (AreParts (by_imsi c.args.in_order.items)) (sym back)
    (parts_end c.args.in_order.items c.loop-found.yielded parts.items (by_imsi c.args.in_order.items) at.taken
    (none_left c.loop-found.yielded (into_iter_items c.loop-found.found-iterator) c.args.in_order.items at.whole none) refl)
