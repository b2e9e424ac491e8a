-- What trees read to, and what octets spell, computed.
use Rattle.std.proofs.Common.{refl}
use Rattle.x690.specs.Identifier.{identifier, number_octets}
use Rattle.frames.specs.Components.{coded, invoke, outcome, error, reject, component_of}
use Rattle.frames.specs.Dialogues.{dialogue_of}
use Rattle.frames.specs.Messages.{begin_of, abort_of, message_of}
use Rattle.frames.specs.Verdicts.{verdict_of}
use Rattle.frames_laws.specs.Reader.{read_tree}
use Rattle.frames_laws.specs.TreeExamples as example

pub messages_read : example.MessagesRead
unfolding verdict_of message_of begin_of abort_of dialogue_of
messages_read = record {
  abort = refl;
  abort_and_cause = refl;
  abort_and_portion = refl;
  abort_and_components = refl;
  begin = refl;
  unreadable_portion = refl;
}

pub components_read : example.ComponentsRead
unfolding component_of coded invoke outcome error reject
components_read = record {
  result = refl;
  part_of_a_result = refl;
  ill_formed_result = refl;
  reject_of_a_result = refl;
  reject_of_an_error = refl;
  ill_formed_reject = refl;
}

pub read_under_its_tag : example.ReadUnderItsTag
read_under_its_tag = record {
  universal = refl;
  application = refl;
  context_specific = refl;
  private = refl;
  other_class = refl;
  other_kind = refl;
  other_number = refl;
}

pub indefinite_lengths : example.IndefiniteLengths
unfolding identifier number_octets read_tree verdict_of message_of abort_of
indefinite_lengths = record {
  constructed = refl;
  of_length_0 = refl;
  primitive = refl;
  primitive_and_end = refl;
  abort = refl;
  abort_of_that_length = refl;
}
