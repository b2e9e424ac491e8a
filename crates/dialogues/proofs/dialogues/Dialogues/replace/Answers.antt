use Rattle.std.proofs.Common.{◌≡◌, ◌<◌, ◌-◌, ℕ, List, [], Option, Some, length, ap, sym, ◌∙◌, subst, refl}
use Rattle.machine.specs.Keys.{put}
use Rattle.machine.specs.State as machine
use Rattle.csl.specs.Tables.{put_list, first_invoked}
use Rattle.tidalloc.specs.LiveIds.{after_freeing, after_taking, next_id, slot_of}
use Rattle.tsl.specs.Transactions.{OpenTransactions, MayBegin, closed, next_of, transaction_of}
use Rattle.dialogues.specs.Dialogues.{OpenDialogues}
use Rattle.dialogues.specs.Joined.{dialogue_from, joined, talk_in}
use Rattle.dialogues.proofs.StepLemmas.{on_err, still, open_here, begun_next, next_apart, place_after, invocations_replaced, dialogues_closed, tied_closed, dialogues_opened, tied_opened}
use Rattle.dialogues.proofs.dialogues.Dialogues.replace.Goals as goal

pub next_after-next-requires : goal.next_after-next-requires
next_after-next-requires c =
    let i = c.self.inside in
    open_here i.transactions i.invocations i.talks.items c.args.self.now c.args.id c.self.view_is c.requires.is_open

pub returns-in_err-make_room-clause-err : goal.returns-in_err-make_room-clause-err
returns-in_err-make_room-clause-err c =
    let i = c.self.inside in
    on_err c.from_residual.result
    (still i.transactions i.transactions i.invocations i.talks.items c.make_room.new.talks.items
    c.args.self.now c.self.invariant c.self.view_is refl c.make_room.ensures.kept)

pub returns-in_err-invoke_each-clause-err : goal.returns-in_err-invoke_each-clause-err
returns-in_err-invoke_each-clause-err c =
    let i = c.self.inside in
    on_err c.from_residual-in_err-invoke_each.result
    (rw c.in_err-invoke_each.ensures.err
    (still i.transactions i.transactions i.invocations i.talks.items c.make_room.new.talks.items
    c.args.self.now c.self.invariant c.self.view_is refl c.make_room.ensures.kept))

pub close-requires : goal.close-requires
close-requires c =
    let i = c.self.inside in
    open_here i.transactions i.invocations i.talks.items c.args.self.now c.args.id c.self.view_is c.requires.is_open

pub invariant_of-self-2 : goal.invariant_of-self-2
invariant_of-self-2 c =
    let i = c.self.inside in
    let id = c.begin.result in
    let x = transaction_of c.args.dialogue.now.transaction in
    let vs = first_invoked c.args.now (c.args.invokes - 1) in
    let t = c.close.new.transactions in
    let next = ap next_of c.close.ensures.closed ∙ c.next_after-next.ensures.next in
    let one = begun_next t t c.begin.new.transactions c.next_after-next.result id x next refl c.begin.ensures.begun in
    let invoked = subst (λ (k : List ℕ). c.invoke_each.new.self ≡ put_list i.invocations k vs) one c.in_ok-invoke_each.ensures.ok in
    let apart = next_apart i.transactions c.args.id id (subst (λ
    (k : List ℕ). MayBegin (closed i.transactions c.args.id) k) one c.next_after-next.ensures.may) in
    let roomy = subst (λ (n : ℕ). n < length c.make_room.new.talks.items) (c.slot_of.ensures ∙ ap slot_of one) c.in_ok-make_room.ensures.room in
    let some = open_here i.transactions i.invocations i.talks.items c.args.self.now c.args.id c.self.view_is c.requires.is_open in
    let place = place_after c.args.id i.transactions t i.invocations
    (put_list i.invocations c.args.id []) i.talks.items c.close.ensures.closed refl c.self.invariant some in
    let tied = tied_closed c.args.id i.transactions t i.invocations
    (put_list i.invocations c.args.id []) i.talks.items c.close.ensures.closed refl c.self.invariant some in
    tied_opened id t t c.begin.new.transactions
    (put_list i.invocations c.args.id []) c.close.new.invocations i.talks.items c.make_room.new.talks.items c.begin.new.talks.items x vs
    (talk_in c.args.dialogue.now) refl c.begin.ensures.begun c.begin.ensures.own_slots c.begin.ensures.kept
    (invocations_replaced c.args.id id apart vs i.invocations c.invoke_each.new.self c.close.new.invocations invoked c.close.ensures.forgotten)
    tied place roomy c.make_room.ensures.longer c.make_room.ensures.kept

pub returns-clause-replaced : goal.returns-clause-replaced
returns-clause-replaced c =
    let i = c.self.inside in
    let id = c.begin.result in
    let x = transaction_of c.args.dialogue.now.transaction in
    let vs = first_invoked c.args.now (c.args.invokes - 1) in
    let t = c.close.new.transactions in
    let next = ap next_of c.close.ensures.closed ∙ c.next_after-next.ensures.next in
    let one = begun_next t t c.begin.new.transactions c.next_after-next.result id x next refl c.begin.ensures.begun in
    let invoked = subst (λ (k : List ℕ). c.invoke_each.new.self ≡ put_list i.invocations k vs) one c.in_ok-invoke_each.ensures.ok in
    let apart = next_apart i.transactions c.args.id id (subst (λ
    (k : List ℕ). MayBegin (closed i.transactions c.args.id) k) one c.next_after-next.ensures.may) in
    let roomy = subst (λ (n : ℕ). n < length c.make_room.new.talks.items) (c.slot_of.ensures ∙ ap slot_of one) c.in_ok-make_room.ensures.room in
    let some = open_here i.transactions i.invocations i.talks.items c.args.self.now c.args.id c.self.view_is c.requires.is_open in
    let place = place_after c.args.id i.transactions t i.invocations
    (put_list i.invocations c.args.id []) i.talks.items c.close.ensures.closed refl c.self.invariant some in
    let tied = tied_closed c.args.id i.transactions t i.invocations
    (put_list i.invocations c.args.id []) i.talks.items c.close.ensures.closed refl c.self.invariant some in
    let first = dialogues_closed c.args.id i.transactions t i.invocations
    (put_list i.invocations c.args.id []) i.talks.items c.close.ensures.closed refl c.args.self.now c.self.view_is in
    dialogues_opened id t t c.begin.new.transactions
    (put_list i.invocations c.args.id []) c.close.new.invocations i.talks.items c.make_room.new.talks.items c.begin.new.talks.items x vs
    (talk_in c.args.dialogue.now) refl c.begin.ensures.begun c.begin.ensures.own_slots c.begin.ensures.kept
    (invocations_replaced c.args.id id apart vs i.invocations c.invoke_each.new.self c.close.new.invocations invoked c.close.ensures.forgotten)
    tied place roomy c.make_room.ensures.longer c.make_room.ensures.kept (joined t (put_list i.invocations c.args.id []) i.talks.items) refl
    ∙ ap (λ (D : List ℕ → Option machine.Dialogue). put D id (Some (dialogue_from (talk_in c.args.dialogue.now) vs x))) first

pub returns-clause-after : goal.returns-clause-after
returns-clause-after c =
    let x = transaction_of c.args.dialogue.now.transaction in
    let t = c.close.new.transactions in
    let next = ap next_of c.close.ensures.closed ∙ c.next_after-next.ensures.next in
    let one = begun_next t t c.begin.new.transactions c.next_after-next.result c.begin.result x next refl c.begin.ensures.begun in
    ap (λ (d : OpenDialogues). next_id d.shard (after_freeing d.supply c.args.id)) (sym c.self.view_is) ∙ c.next_after-next.ensures.next ∙ ap Some one

pub returns-clause-used : goal.returns-clause-used
returns-clause-used c =
    ap (λ (u : OpenTransactions). u.supply) c.begin.ensures.begun.after
    ∙ ap (λ (u : OpenTransactions). after_taking u.supply) c.close.ensures.closed
    ∙ ap (λ (d : OpenDialogues). after_taking (after_freeing d.supply c.args.id)) c.self.view_is

pub returns-clause-other : goal.returns-clause-other
returns-clause-other c =
    let x = transaction_of c.args.dialogue.now.transaction in
    let t = c.close.new.transactions in
    let next = ap next_of c.close.ensures.closed ∙ c.next_after-next.ensures.next in
    let one = begun_next t t c.begin.new.transactions c.next_after-next.result c.begin.result x next refl c.begin.ensures.begun in
    let apart = next_apart c.self.inside.transactions c.args.id c.begin.result (subst (λ
    (k : List ℕ). MayBegin (closed c.self.inside.transactions c.args.id) k) one c.next_after-next.ensures.may) in
    λ same. apart (sym same)
