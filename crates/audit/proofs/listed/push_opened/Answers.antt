use Rattle.std.proofs.Common.{List, map}
use Rattle.std.specs.List.{flat_map}
use Rattle.std.specs.Prelude.{string_bytes}
use Rattle.machine.specs.State.{Invocation}
use Rattle.dialogues.specs.Seen.{dialogue_with}
use Rattle.audit.specs.Gathered.{told_back}
use Rattle.audit.specs.Lines.{dialogue_line, invocation_text}
use Rattle.audit.proofs.Texts.{first_then}
use Rattle.audit.proofs.listed.push_opened.Goals as goal

pub returns : goal.returns
returns c =
    let vs : List Invocation = map told_back c.args.one.now.invocations.items in
    let told = rw c.deref.ensures.value at c.in_ok-push_invocations.ensures in
    first_then (string_bytes c.args.text.now) (dialogue_line c.args.one.now.id (dialogue_with vs c.args.one.now.dialogue))
    (flat_map invocation_text vs)
    (string_bytes c.push_dialogue.new.text) (string_bytes c.push_invocations.new.text) (c.in_ok-push_dialogue.ensures vs) told
