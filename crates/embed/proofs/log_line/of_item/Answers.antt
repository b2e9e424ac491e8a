use Rattle.std.proofs.Common.{sym, subst}
use Rattle.std.specs.Prelude.{IfOk, IsSomeAnd}
use Rattle.frames.specs.Octets.{RawEvent}
use Rattle.hlr_input.specs.declared.item.Item.{Item}
use Rattle.hlr_input.specs.Script.{Frame, line_of}
use Rattle.embed.specs.LogLines.{IsThis, Means}
use Rattle.embed.proofs.log_line.of_item.Goals as goal

pub returns-in-Frame-clause-event : goal.returns-in-Frame-clause-event
returns-in-Frame-clause-event c = λ raw means.
    let told : Means (Frame c.in-Frame.from c.in-Frame.octets.now) raw = subst (λ (i : Item). Means (line_of i) raw) c.in-Frame.is means in
    subst (λ (r : RawEvent). IfOk c.frame_of.result (λ read. IsSomeAnd read (IsThis r))) (sym told.2) (c.frame_of.ensures.only told.0 told.1)
