use Rattle.std.proofs.Common.{◌≡◌, ◌<◌, ◌≤◌, ◌+◌, ◌-◌, ℕ, List, length, arith, ap, ◌∙◌, subst}
use Rattle.csl.specs.Tables.{InvocationLists, first_invoked, invocations_at, put_list}
use Rattle.tidalloc.specs.LiveIds.{after_taking, slot_of}
use Rattle.tsl.specs.Transactions.{OpenTransactions, count, transaction_of}
use Rattle.dialogues.specs.Dialogues.{OpenDialogues}
use Rattle.dialogues.specs.Joined.{talk_in}
use Rattle.dialogues.proofs.ChangeLemmas.{invocations-put}
use Rattle.dialogues.proofs.StepLemmas.{on_err, still, tied_still, begun_next, dialogues_opened, tied_opened}
use Rattle.dialogues.proofs.dialogues.Dialogues.open.Goals as goal

pub returns-in_err-id-clause-err : goal.returns-in_err-id-clause-err
returns-in_err-id-clause-err c =
    let i = c.self.inside in
    on_err c.from_residual.result
    (still i.transactions c.place_for.new.transactions i.invocations i.talks.items c.place_for.new.talks.items
    c.args.self.now c.self.invariant c.self.view_is c.place_for.ensures.ok c.place_for.ensures.kept)

pub returns-in_err-invoke_each-clause-err : goal.returns-in_err-invoke_each-clause-err
returns-in_err-invoke_each-clause-err c =
    let i = c.self.inside in
    on_err c.from_residual-in_err-invoke_each.result
    (rw c.in_err-invoke_each.ensures.err
    (still i.transactions c.place_for.new.transactions i.invocations i.talks.items c.place_for.new.talks.items
    c.args.self.now c.self.invariant c.self.view_is c.place_for.ensures.ok c.place_for.ensures.kept))

pub invariant_of-self-2 : goal.invariant_of-self-2
invariant_of-self-2 c =
    let i = c.self.inside in
    let id = c.begin.result in
    let x = transaction_of c.args.dialogue.now.transaction in
    let vs = first_invoked c.args.now (c.args.invokes - 1) in
    let one = begun_next i.transactions c.place_for.new.transactions c.begin.new.transactions c.in_ok-id.id id x
    c.in_ok-id.ensures.next c.place_for.ensures.ok c.begin.ensures.begun in
    let invoked = subst (λ (k : List ℕ). c.invoke_each.new.self ≡ put_list i.invocations k vs) one c.in_ok-invoke_each.ensures.ok in
    let roomy = subst (λ (n : ℕ). n < length c.place_for.new.talks.items) (ap slot_of one) c.in_ok-id.ensures.room in
    let place : count i.transactions + 1 ≤ 4096 = omega (arith, c.in_ok-id.ensures.few, c.self.invariant.few) in
    tied_opened id i.transactions c.place_for.new.transactions c.begin.new.transactions i.invocations c.invoke_each.new.self
    i.talks.items c.place_for.new.talks.items c.begin.new.talks.items x vs
    (talk_in c.args.dialogue.now) c.place_for.ensures.ok c.begin.ensures.begun c.begin.ensures.own_slots c.begin.ensures.kept
    (λ q. ap (λ (l : InvocationLists). invocations_at l q) invoked ∙ invocations-put i.invocations id vs q)
    c.self.invariant place roomy c.place_for.ensures.longer c.place_for.ensures.kept

pub returns-clause-opened : goal.returns-clause-opened
returns-clause-opened c =
    let i = c.self.inside in
    let id = c.begin.result in
    let x = transaction_of c.args.dialogue.now.transaction in
    let vs = first_invoked c.args.now (c.args.invokes - 1) in
    let one = begun_next i.transactions c.place_for.new.transactions c.begin.new.transactions c.in_ok-id.id id x
    c.in_ok-id.ensures.next c.place_for.ensures.ok c.begin.ensures.begun in
    let invoked = subst (λ (k : List ℕ). c.invoke_each.new.self ≡ put_list i.invocations k vs) one c.in_ok-invoke_each.ensures.ok in
    let roomy = subst (λ (n : ℕ). n < length c.place_for.new.talks.items) (ap slot_of one) c.in_ok-id.ensures.room in
    let place : count i.transactions + 1 ≤ 4096 = omega (arith, c.in_ok-id.ensures.few, c.self.invariant.few) in
    dialogues_opened id i.transactions c.place_for.new.transactions c.begin.new.transactions i.invocations c.invoke_each.new.self
    i.talks.items c.place_for.new.talks.items c.begin.new.talks.items x vs
    (talk_in c.args.dialogue.now) c.place_for.ensures.ok c.begin.ensures.begun c.begin.ensures.own_slots c.begin.ensures.kept
    (λ q. ap (λ (l : InvocationLists). invocations_at l q) invoked ∙ invocations-put i.invocations id vs q)
    c.self.invariant place roomy c.place_for.ensures.longer c.place_for.ensures.kept c.args.self.now c.self.view_is

pub returns-clause-used : goal.returns-clause-used
returns-clause-used c =
    ap (λ (u : OpenTransactions). u.supply) c.begin.ensures.begun.after
    ∙ ap (λ (u : OpenTransactions). after_taking u.supply) c.place_for.ensures.ok
    ∙ ap (λ (d : OpenDialogues). after_taking d.supply) c.self.view_is

pub invariant_of-self-in_err-invoke_each : goal.invariant_of-self-in_err-invoke_each
invariant_of-self-in_err-invoke_each c =
    let i = c.self.inside in
    rw c.in_err-invoke_each.ensures.err
    (tied_still i.transactions c.place_for.new.transactions i.invocations i.talks.items c.place_for.new.talks.items
    c.args.self.now c.self.invariant c.self.view_is c.place_for.ensures.ok c.place_for.ensures.kept c.place_for.ensures.longer)
