use Rattle.std.proofs.Common.{rules, ◌≡◌, ◌∙◌}
use Rattle.frames.specs.Dialogues.{dialogue_of}
use Rattle.frames.proofs.DialogueLaws.{dialogue_again}
use Rattle.bertree.specs.Nodes.{tree}
use Rattle.q773_dlg.specs.Seen.{answer}
use Rattle.q773_dlg.proofs.reading.read_dialogue.Goals as goal

pub returns-clause-only : goal.returns-clause-only
returns-clause-only c =
    let exact : answer c.ok_or.result ≡ dialogue_of (tree c.args.node.now) = grind rules in
    λ apdu is. exact ∙ dialogue_again (tree c.args.node.now) apdu is
