use Rattle.std.proofs.Common.{map, sym, ◌∙◌, subst, List, ℕ, arith}
use Rattle.std.specs.Prelude.{string_bytes}
use Rattle.std.proofs.lemmas.List.{take_all}
use Rattle.image_lines.specs.Lines.{Used}
use Rattle.tidalloc.specs.Resumed.{used_ids}
use Rattle.images.specs.Appended.{GoesOnWith}
use Rattle.images.proofs.SlotsUsed.{have_slots}
use Rattle.images.proofs.WriteLemmas.{used_more}
use Rattle.images.proofs.write.push_used.Goals as goal

pub loop-slot-preserved : goal.loop-slot-preserved
loop-slot-preserved c =
    let ids = c.args.ids.now in
    used_more ids.shard c.loop-slot.slot ids.supply.generations c.in-Some.id (string_bytes c.args.text.now) (string_bytes c.loop-slot.text)
    (string_bytes c.push_line.new.text) (sym c.id_of_slot.ensures ∙ c.in-Some.is) c.loop-slot.invariant.1 c.in_ok-push_line.ensures.text
    (c.in_ok-push_line.ensures.is_line tt)

pub returns : goal.returns
returns c =
    let gs = c.args.ids.now.supply.generations in
    let few = (have_slots c.args.ids.now c.law_resumed.ensures).few in
    let last = c.loop-slot-test.false in
    subst (λ (xs : List ℕ). GoesOnWith (map (λ id. Used id) (used_ids c.args.ids.now.shard 0 xs)) (string_bytes c.args.text.now)
    (string_bytes c.loop-slot.text)) (take_all c.loop-slot.slot gs (omega (arith, few, last))) c.loop-slot.invariant.1
