use Rattle.std.proofs.Common.{rules, ◌≡◌, ◌+◌, List, ◌∷◌, ◌++◌, length, length-append, arith, sym, ap, subst, ◌∙◌, refl}
use Rattle.std.specs.Arc.{arc_value}
use Rattle.std.proofs.lemmas.List.{length_push}
use Rattle.records.specs.Parts.{AreParts}
use Rattle.records.specs.Maps.{RecordMap}
use Rattle.hlrcore.proofs.SoundLemmas.{part_fresh}
use Rattle.wholenode.specs.Opening.{AreBeginning}
use Rattle.wholenode.proofs.OpeningLemmas.{begins_as, next_own, no_state, one_state_more, part_taken}
use Rattle.wholenode.proofs.opening.opening_states.Goals as goal

pub loop-records-init : goal.loop-records-init
loop-records-init c =
    let same : c.into_iter-records-iterator.result.rest.items ≡ c.in_ok-parts.parts.items = search rules in (
      tt,
      tt,
      refl,
      no_state c.args.loaded c.args.start c.in_ok-states.states.items c.in_ok-states.ensures.items,
      subst (AreParts c.args.loaded.records)
          (sym same) c.in_ok-parts.ensures.parts,
    )

pub opening_state-requires-clause-own : goal.opening_state-requires-clause-own
opening_state-requires-clause-own c =
    let left : c.loop-records.records-iterator.rest.items ≡ c.in-Some.records ∷ c.next.new.self.rest.items = search rules in
    let at = c.loop-records.invariant in (
      c.args.loaded.records,
      next_own c.args.loaded.records c.loop-records.yielded _ c.next.new.self.rest.items c.in-Some.records
          c.loop-records.number at.4 left at.2,
    )

pub opening_state-requires-clause-fresh : goal.opening_state-requires-clause-fresh
unfolding opening_state-requires-clause-own
opening_state-requires-clause-fresh c = part_fresh c.args.loaded.records c.in-Some.records c.loop-records.number c.in_ok-parts.ensures.fresh
    (opening_state-requires-clause-own c).1

pub loop-records-preserved : goal.loop-records-preserved
loop-records-preserved c =
    let at = c.loop-records.invariant in
    let left : c.loop-records.records-iterator.rest.items ≡ c.in-Some.records ∷ c.next.new.self.rest.items = search rules in
    let parts : AreParts c.args.loaded.records (c.loop-records.yielded ++ c.in-Some.records ∷ c.next.new.self.rest.items) =
    subst (λ (ps : List RecordMap). AreParts c.args.loaded.records (c.loop-records.yielded ++ ps)) left at.4 in
    let own = next_own c.args.loaded.records c.loop-records.yielded _ c.next.new.self.rest.items c.in-Some.records c.loop-records.number
    at.4 left at.2 in
    let shared : arc_value c.in_ok-directory-2.directory ≡ c.args.loaded.directory = search rules in
    let number : c.hlr-hlr.result.now ≡ c.args.loaded.hlr = search rules in (
      tt,
      tt,
      ap (λ n. n + 1) at.2 ∙ sym (length_push c.loop-records.yielded c.in-Some.records),
      one_state_more c.args.loaded c.args.start c.loop-records.number _ _ c.in_ok-opening_state.field-0 at.3
          (begins_as c.args.loaded c.loop-records.number c.in-Some.records _ _ c.args.start c.in_ok-opening_state.field-0 own shared number
          c.in_ok-opening_state.ensures) c.in_ok-push.ensures.items,
      part_taken c.args.loaded.records c.loop-records.yielded c.next.new.self.rest.items c.in-Some.records parts,
    )

pub returns : goal.returns
returns c =
    let at = c.loop-records.invariant in
    let none_left : length c.loop-records.records-iterator.rest.items ≡ 0 = search rules in
    let all : c.loop-records.number ≡ 16 = omega (
      arith,
      at.2,
      at.4.sixteen,
      length-append c.loop-records.yielded
          c.loop-records.records-iterator.rest.items,
      none_left,
    ) in
    subst (λ n. AreBeginning c.args.loaded c.args.start n c.loop-records.states.items) all at.3
