use Rattle.std.proofs.Common.{[], Ok, Option, subst, sym, ap}
use Rattle.std.specs.declared.alloc.AllocError.{AllocError}
use Rattle.machine.specs.Effect.{AreRising}
use Rattle.csl.specs.Seen.{invocation_of}
use Rattle.dialogues.specs.Seen.{dialogue_with}
use Rattle.image_lines.specs.Seen.{line_of}
use Rattle.image_lines.specs.Lines.{IsLine, Waits}
use Rattle.std.specs.Int.{w8}
use Rattle.std.specs.Prelude.{FitsSigned}
use Rattle.std.proofs.lemmas.Int.{to_z-of_z}
use Rattle.images.specs.declared.so_far.Opening.{Opening}
use Rattle.images.specs.Reading.{OpensAt, Takes}
use Rattle.images.specs.Seen.{IsOpeningOf, OpensUp, TakesIf, TakesOne, seen, stage_of}
use Rattle.images.proofs.EndLemmas.{takes_dialogue, takes_end, takes_waits}
use Rattle.images.proofs.so_far.Reading.take.Goals as goal

pub returns-in-Some : goal.returns-in-Some
returns-in-Some c =
    let P : Option Opening → Type 0 = λ z. OpensUp {E = AllocError} (seen c.args.self) (Ok z) in
    let o = c.in-Some.opening in
    let opens : IsOpeningOf c.args.self.state (stage_of c.args.self.stage) o × AreRising o.invocations =
    subst P c.in-Some.is c.in_ok-opening-in-Waits.ensures in
    let v = invocation_of c.in-Waits.invoke c.in-Waits.was c.in-Waits.deadline in
    let is_line : IsLine (Waits v) = subst (λ z. IsLine (line_of z)) c.in-Waits.is c.requires.line in
    let fits : FitsSigned w8 c.in-Waits.invoke = is_line.0 in
    let waits : TakesOne (OpensAt o.state o.left o.invocations (Waits v)) c.wait.result = simp to_z-of_z at c.wait.ensures in
    subst (λ z. TakesOne (Takes (seen c.args.self) z) c.wait.result) (ap line_of (sym c.in-Waits.is))
    (takes_waits c.args.self.state (stage_of c.args.self.stage) o v c.wait.result opens.0 waits)

pub returns-in-Some-2 : goal.returns-in-Some-2
returns-in-Some-2 c =
    let P : Option Opening → Type 0 = λ z. OpensUp {E = AllocError} (seen c.args.self) (Ok z) in
    let o = c.in-Some-2.opening in
    let opens : IsOpeningOf c.args.self.state (stage_of c.args.self.stage) o × AreRising o.invocations =
    subst P c.in-Some-2.is c.in_ok-opening-in-Opened.ensures in
    let d = dialogue_with [] c.in-Opened.dialogue in
    subst (λ z. TakesOne (Takes (seen c.args.self) z) c.open.result) (ap line_of (sym c.in-Opened.is))
    (takes_dialogue c.args.self.state (stage_of c.args.self.stage) o c.in-Opened.id c.in-Opened.is_current d c.open.result opens.0 c.open.ensures)

pub returns-in-Some-3 : goal.returns-in-Some-3
returns-in-Some-3 c =
    let P : Option Opening → Type 0 = λ z. OpensUp {E = AllocError} (seen c.args.self) (Ok z) in
    let o = c.in-Some-3.opening in
    let opens : IsOpeningOf c.args.self.state (stage_of c.args.self.stage) o × AreRising o.invocations =
    subst P c.in-Some-3.is c.in_ok-opening-in-End.ensures in
    subst (λ z. TakesIf (Takes (seen c.args.self) z) c.end.result) (ap line_of (sym c.in-End.is))
    (takes_end c.args.self.state (stage_of c.args.self.stage) o c.end.result opens.0 c.end.ensures)
