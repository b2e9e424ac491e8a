use Rattle.std.proofs.Common.{None, sym, ◌∙◌, ap, subst, ◌≡◌}
use Rattle.dialogues.specs.Dialogues.{dialogues_of}
use Rattle.hlrcore.specs.Shards.{ShardState}
use Rattle.hlrcore.proofs.ResumingLemmas.{sound_resumed}
use Rattle.hlrcore.proofs.state.State.resume.Goals as goal

pub invariant_of-self : goal.invariant_of-self
invariant_of-self c =
    sound_resumed c.resume.result c.self.inside.parts c.resume.new.self c.args.clock c.args.ids c.self.invariant
    (ap (λ (s : ShardState). dialogues_of s.dialogues) c.self.view_is ∙ c.requires.none_open) c.resume.ensures.ok c.resume.ensures.err
