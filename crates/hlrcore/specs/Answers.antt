-- The answer of a step, as in an entry of a journal.
use Rattle.std.specs.Prelude.{◌≡◌, ℕ, List, Option, map}
use Rattle.machine.specs.Sent as machine
use Rattle.frames.specs.Octets as frames
use Rattle.hlrcore.specs.declared.answer.StepAnswer.{StepAnswer}
pub use Rattle.hlrcore.specs.Frames.{raw_out}

-- The journal entry of an event and its answer.
abbrev pub entry_of : frames.RawEvent → StepAnswer → frames.RawEntry
entry_of raw a = record { event = raw; id = a.id; subject = a.subject; outs = a.outs }

-- The answer has this id, this subject, and these frames in this order.
pub record Says (a : StepAnswer) (id subject : Option (List ℕ)) (sent : List machine.Out) : Type 0 where
  pub id_is : a.id ≡ id
  pub subject_is : a.subject ≡ subject
  pub outs : a.outs ≡ map frames.spelled_out sent
