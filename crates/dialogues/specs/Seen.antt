-- A dialogue of the code, as the machine has it.
use Rattle.std.specs.Prelude.{List}
use Rattle.machine.specs.State as machine
use Rattle.mapargs_loc.specs.Seen.{register, cancellation}
use Rattle.tsl.specs.Transactions.{transaction_of}
use Rattle.dialogues.specs.declared.kind.Kind.{Kind}
use Rattle.dialogues.specs.declared.kind.Kind.TheVariants.{Update, Cancel, Data}
use Rattle.dialogues.specs.declared.dialogue.Dialogue.{Dialogue}

abbrev pub kind_of : Kind → machine.Kind
kind_of (Update of invoke) = machine.Updates (register of) invoke
kind_of (Cancel vlr attempt why) = machine.Cancels vlr attempt (cancellation why)
kind_of Data = machine.Data

-- The dialogue with these invocations.
abbrev pub dialogue_with : List machine.Invocation → Dialogue → machine.Dialogue
dialogue_with invocations d = record {
  subscriber = d.subscriber;
  transaction = transaction_of d.transaction;
  invocations = invocations;
  kind = kind_of d.kind;
}
