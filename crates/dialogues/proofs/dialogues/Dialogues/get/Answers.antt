use Rattle.std.proofs.Common.{ap, sym, ◌∙◌}
use Rattle.std.proofs.lemmas.List.{get_or_read}
use Rattle.std.specs.List.{slice_index_or}
use Rattle.dialogues.specs.Joined.{no_talk}
use Rattle.tsl.specs.Transactions.{transaction_of}
use Rattle.dialogues.proofs.ChangeLemmas.{some≢none}
use Rattle.dialogues.proofs.JoinLemmas.{nothing_got, dialogue_got}
use Rattle.dialogues.proofs.dialogues.Dialogues.get.Goals as goal

pub returns-in_default : goal.returns-in_default
returns-in_default c =
    let i = c.self.inside in
    nothing_got i.transactions i.invocations i.talks.items c.args.self.now c.args.id c.self.view_is (sym c.in_default.ensures.value)

pub returns : goal.returns
returns c =
    let i = c.self.inside in
    let there = sym c.in-Some.ensures.value in
    let talk = c.index-talk.result.now in
    let read = get_or_read i.talks.items c.slot_of.result talk (rw c.slot_of.ensures
    (c.self.invariant.have_talks c.args.id (λ n. some≢none (transaction_of c.in-Some.transaction) (sym there ∙ n)))) c.index-talk.ensures no_talk in
    dialogue_got i.transactions i.invocations i.talks.items c.args.self.now c.args.id c.self.view_is
    (transaction_of c.in-Some.transaction) talk c.self.invariant there
    (read ∙ ap (λ n. slice_index_or i.talks.items n no_talk) c.slot_of.ensures)
