use Rattle.std.proofs.Common.{◌≡◌, ◌∷◌, [], Some, map, ap, sym, ◌∙◌, ℕ, List}
use Rattle.machine.specs.State as machine
use Rattle.machine.specs.Sent.{UpdateResult}
use Rattle.machine.specs.Outcome.{end_in_dialogue}
use Rattle.machine.specs.Dialogues.{update_done}
use Rattle.q773_comp.specs.Seen.{rejection}
use Rattle.mapargs_loc.specs.Seen.{register as register_of}
use Rattle.smroute.specs.Seen.{machine_subscriber}
use Rattle.dialogues.specs.Seen.{dialogue_with}
use Rattle.location.specs.Seen.{known}
use Rattle.location.proofs.UpdateLemmas.{completes_marked, completes_none, completes_other}
use Rattle.location.proofs.update_end.update_completes.Goals.{in_default-via-in-Some+else-is_marked, in_default-via-in_default}
use Rattle.location.proofs.update_end.update_completes.Goals as goal

pub returns-in-Some-clause-leaves : goal.returns-in-Some-clause-leaves
returns-in-Some-clause-leaves c = λ here named vs own hlr is.
    let d = dialogue_with vs c.args.dialogue.now in
    let s : machine.Subscriber = machine_subscriber c.in-Some.found.now in
    let found : known c.args.subscriber ≡ Some s = ap known c.in-Some.is in
    c.update_done.ensures.leaves here named own (is ∙ found)
    ∙ ap (λ (h : List ℕ). update_done here (register_of c.args.update.register) s
    (end_in_dialogue d.transaction d.transaction.remote (map rejection c.args.rejects.items)
    (UpdateResult c.args.update.invoke h ∷ [])) c.args.new s.register) (sym hlr)
    ∙ completes_marked here c.args.id d (register_of c.args.update.register) c.args.update.invoke (map rejection c.args.rejects.items) c.args.new
    (known c.args.subscriber) s found (sym c.is_marked.ensures.value ∙ c.if-is_marked.true)

pub returns-in_default-clause-leaves : goal.returns-in_default-clause-leaves
returns-in_default-clause-leaves c = λ here named vs own hlr is.
    let d = dialogue_with vs c.args.dialogue.now in
    c.update_fails.ensures.leaves here named vs is
    ∙ elim c.in_default.branch [
      | in_default-via-in-Some+else-is_marked w ↦ completes_other here c.args.id d (register_of c.args.update.register) c.args.update.invoke
          (map rejection c.args.rejects.items) c.args.new (known c.args.subscriber)
          (machine_subscriber w.in-Some.found.now) (ap known w.in-Some.is) (sym w.is_marked.ensures.value ∙ w.if-is_marked.false)
      | in_default-via-in_default w ↦ completes_none here c.args.id d (register_of c.args.update.register) c.args.update.invoke
          (map rejection c.args.rejects.items) c.args.new (known c.args.subscriber) (ap known w.in_default.is)
    ]
