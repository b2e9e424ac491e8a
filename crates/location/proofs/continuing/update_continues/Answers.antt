use Rattle.std.proofs.Common.{Some, map, ap, sym, ◌∙◌}
use Rattle.machine.specs.Dialogues.{update_completes, update_continues}
use Rattle.q773_comp.specs.Seen.{rejection}
use Rattle.mapargs_loc.specs.Seen.{register as register_of}
use Rattle.csl.specs.declared.offer.Conclusion.{Conclusion}
use Rattle.csl.specs.Effects.{concluded}
use Rattle.dialogues.specs.Seen.{dialogue_with}
use Rattle.location.specs.Seen.{effect_of}
use Rattle.location.proofs.continuing.update_continues.Goals as goal

pub returns-in-HasFailed-clause-leaves : goal.returns-in-HasFailed-clause-leaves
returns-in-HasFailed-clause-leaves c = λ here vs own hlr is.
    c.update_fails.ensures.leaves here (Some (dialogue_with vs c.args.dialogue.now)) vs is
    ∙ ap (λ (k : Conclusion). update_continues here c.args.id (dialogue_with vs c.args.dialogue.now) (register_of c.args.update.register) c.args.update.invoke
    (effect_of c.args.effect) (concluded k) c.args.new) (sym c.in-HasFailed.is)

pub returns-in-HasSucceeded-clause-leaves : goal.returns-in-HasSucceeded-clause-leaves
returns-in-HasSucceeded-clause-leaves c = λ here vs own hlr is.
    c.update_completes.ensures.leaves here (Some (dialogue_with vs c.args.dialogue.now)) vs own hlr is
    ∙ ap (update_completes here c.args.id (dialogue_with vs c.args.dialogue.now) (register_of c.args.update.register) c.args.update.invoke
    (map rejection c.args.effect.rejects.items) c.args.new) (sym is)
    ∙ ap (λ (k : Conclusion). update_continues here c.args.id (dialogue_with vs c.args.dialogue.now) (register_of c.args.update.register) c.args.update.invoke
    (effect_of c.args.effect) (concluded k) c.args.new) (sym c.in-HasSucceeded.is)
