use Rattle.std.proofs.Common.{◌≡◌, ◌<◌, ℕ, List, [], ◌∷◌, ◌++◌, length, get_or, map, sym, ap, ◌∙◌, subst}
use Rattle.std.specs.Prelude.{None, Some, option_map}
use Rattle.std.specs.FinMap as finite
use Rattle.std.proofs.lemmas.List.{map-append}
use Rattle.dialogues.specs.Dialogues.{dialogues_of, invocations_in}
use Rattle.dialogues.specs.Seen.{dialogue_with}
use Rattle.audit.specs.Gathered.{opened, told_back}
use Rattle.audit.specs.Listing.{Open}
use Rattle.images.proofs.OpenEntries.{is_open}
use Rattle.audit.proofs.Entries.{pushed_open}
use Rattle.audit.proofs.gathered.push_open.Goals as goal

pub unreachable-requires : goal.unreachable-requires
unreachable-requires c =
    let d = c.args.dialogues.now in
    let id = c.id-item.result in
    let keys : c.deref-id-items.result.now ≡ finite.keys d.open_ones = c.deref-id-items.ensures.value ∙ c.in_ok-ids.ensures in
    let lt : c.loop-id.id-index < length (finite.keys d.open_ones) = subst (λ (xs : List (List ℕ)). c.loop-id.id-index < length xs) keys
    c.loop-id-test.true in
    let is : id ≡ get_or (finite.keys d.open_ones) c.loop-id.id-index id = c.id-item.is
    ∙ ap (λ (xs : List (List ℕ)). get_or xs c.loop-id.id-index id) keys in
    let none : dialogues_of d id ≡ None = sym c.get.ensures
    ∙ ap (option_map (dialogue_with (invocations_in (dialogues_of d id)))) c.in_default.is in
    is_open d c.loop-id.id-index id lt is none

pub loop-id-preserved : goal.loop-id-preserved
loop-id-preserved c =
    let d = c.args.dialogues.now in
    let id = c.id-item.result in
    let keys : c.deref-id-items.result.now ≡ finite.keys d.open_ones = c.deref-id-items.ensures.value ∙ c.in_ok-ids.ensures in
    let lt : c.loop-id.id-index < length (finite.keys d.open_ones) = subst (λ (xs : List (List ℕ)). c.loop-id.id-index < length xs) keys
    c.loop-id-test.true in
    let is : id ≡ get_or (finite.keys d.open_ones) c.loop-id.id-index id = c.id-item.is
    ∙ ap (λ (xs : List (List ℕ)). get_or xs c.loop-id.id-index id) keys in
    let there : Some (dialogue_with (invocations_in (dialogues_of d id)) c.in-Some.dialogue) ≡ dialogues_of d id =
    sym (ap (option_map (dialogue_with (invocations_in (dialogues_of d id)))) c.in-Some.is) ∙ c.get.ensures in
    let one : List Open = (id, dialogue_with (map told_back c.in_ok-invocations.invocations.items) c.in-Some.dialogue) ∷ [] in
    let pushed : map opened c.push.new.self.items ≡ map opened c.loop-id.all.items ++ one = ap (map opened) c.in_ok-push.ensures.items
    ∙ map-append opened c.loop-id.all.items _ in
    pushed_open d c.loop-id.id-index id c.in-Some.dialogue c.in_ok-invocations.invocations.items (map opened c.args.all.now.items)
    (map opened c.loop-id.all.items)
    (map opened c.push.new.self.items) lt is there c.in_ok-invocations.ensures c.loop-id.invariant pushed
