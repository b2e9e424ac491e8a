use Rattle.std.proofs.Common.{◌≡◌, ◌∙◌, List, [], ap, length, map, rules, sym}
use Rattle.std.proofs.lemmas.List.{length-map}
use Rattle.frames.specs.Octets.{RawEvent}
use Rattle.hlrcore.specs.Events.{raw_event}
use Rattle.workers.specs.Shared.{GoesOn, sent_for}
use Rattle.hlr_program.specs.declared.register.Register.TheVariants.{Shared}
use Rattle.hlr_program.specs.Gathering.{progress}
use Rattle.hlr_program.proofs.GatherLemmas.{adds_none}
use Rattle.hlr_program.proofs.LotLemmas.{last_are, one_receipt_each, part_adds}
use Rattle.hlr_program.proofs.crew.Crew.run.Goals as goal

pub returns-then-is_empty-clause-adds : goal.returns-then-is_empty-clause-adds
returns-then-is_empty-clause-adds g c = adds_none (progress (Shared c.args.self.now) c.args.answers.now)

pub returns-clause-adds : goal.returns-clause-adds
returns-clause-adds g c =
    let register = c.self.inside.register in let after = c.run_part.new.self in
    let raws : List RawEvent = map raw_event c.self.inside.part.items in
    let receipts = c.in_ok-run_part.ensures.handles.0 in
    let ran : GoesOn register raws (sent_for receipts) after = c.in_ok-run_part.ensures.handles.1 in
    let none : map raw_event c.run_part.new.part.items ≡ [] = ap (map raw_event) c.in_ok-run_part.ensures.emptied in
    let long : c.len-count.result ≡ length c.self.inside.part.items = search rules in
    let count : c.len-count.result ≡ length raws = long ∙ sym (length-map c.self.inside.part.items raw_event) in
    part_adds c.args.self.now register after raws (map raw_event c.run_part.new.part.items) receipts c.last_receipts.result.now c.args.answers.now
    c.push_receipts.new.self c.self.view_is ran none
    (last_are after receipts c.len-count.result c.last_receipts.result.now c.in_ok-run_part.ensures.handles.2
    (one_receipt_each register after raws receipts c.len-count.result ran count) c.last_receipts.ensures)
    c.in_ok-push_receipts.ensures
