use Rattle.std.proofs.Common.{◌≢◌, List, ℕ, Option, None, sym, subst}
use Rattle.std.specs.Prelude.{IfSome}
use Rattle.dialogues.specs.Dialogues.{dialogues_of}
use Rattle.hlrcore.proofs.IdsLemmas.{named_closes, named_goes_on, one_opens}
use Rattle.hlrcore.proofs.changing.change.Goals as goal

pub returns-in_ok-open-in-Opens-clause-ids : goal.returns-in_ok-open-in-Opens-clause-ids
returns-in_ok-open-in-Opens-clause-ids c =
    let before = c.args.dialogues.now in
    let is_open = subst (λ (o : Option (List ℕ)). IfSome o (λ id. dialogues_of before id ≢ None)) (sym c.id.ensures) c.requires.is_open in
    let opens = c.in_ok-open-in-Opens.ensures in
    one_opens before c.open.new.dialogues c.id.result c.in_ok-open-in-Opens.field-0 _ is_open opens.opened opens.other opens.shard opens.taken opens.used

pub returns-in-Closes-clause-ids : goal.returns-in-Closes-clause-ids
returns-in-Closes-clause-ids c =
    let before = c.args.dialogues.now in
    let is_open = subst (λ (o : Option (List ℕ)). IfSome o (λ id. dialogues_of before id ≢ None)) (sym c.id-in-Closes.ensures) c.requires.is_open in
    named_closes before c.close.new.dialogues c.id-in-Closes.result is_open c.close.ensures.closed c.close.ensures.shard c.close.ensures.freed

pub returns-in_ok-go_on-in-GoesOn-clause-ids : goal.returns-in_ok-go_on-in-GoesOn-clause-ids
returns-in_ok-go_on-in-GoesOn-clause-ids c =
    let goes = c.in_ok-go_on-in-GoesOn.ensures in
    named_goes_on c.args.dialogues.now c.go_on.new.dialogues goes.ids _ c.args.named goes.ok

pub returns-in-Forgets-clause-ids : goal.returns-in-Forgets-clause-ids
returns-in-Forgets-clause-ids c =
    named_goes_on c.args.dialogues.now c.forget.new.dialogues c.forget.ensures.ids _ c.args.named c.forget.ensures.forgotten
