use Rattle.dialogues.specs.Seen.{dialogue_with}
use Rattle.hlrcore.proofs.ResumingLemmas.{sound_reopened}
use Rattle.hlrcore.proofs.state.State.reopen.Goals as goal

pub invariant_of-self : goal.invariant_of-self
invariant_of-self c =
    sound_reopened c.reopen.result c.self.inside.parts c.reopen.new.self c.args.is_current (dialogue_with c.args.left.now c.args.dialogue.now)
    c.self.invariant c.requires.rising c.reopen.ensures.may c.reopen.ensures.opened c.reopen.ensures.same c.reopen.ensures.place
