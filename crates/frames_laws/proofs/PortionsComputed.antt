-- The worked examples of portions, computed in the same way.
use Rattle.std.proofs.Common.{◌≡◌, [], ◌∷◌, refl}
use Rattle.x690.specs.Identifier.{identifier, number_octets}
use Rattle.x690.specs.Length.{length_octets}
use Rattle.frames.specs.Components.{coded, invoke, outcome, error, reject, component_of}
use Rattle.frames.specs.Dialogues.{request_of, response_of, dialogue_abort_of, dialogue_of}
use Rattle.frames.specs.Messages.{begin_of, continue_of, end_of, abort_of, message_of}
use Rattle.frames.specs.Arguments.{update_typed, update_value, purge_typed, purge_value, route_typed, route_value, parameter_of}
use Rattle.frames.specs.Verdicts.{verdict_of}
use Rattle.frames.specs.SentTrees.{octets_of_sent}
use Rattle.frames_laws.specs.Reader.{read_tree}
use Rattle.frames_laws.specs.PortionExamples as example
use Rattle.frames_laws.proofs.VerdictLaws.{verdict_is}

pub user_information : example.UserInformation
unfolding identifier number_octets verdict_of message_of begin_of continue_of end_of abort_of dialogue_of request_of response_of dialogue_abort_of component_of coded invoke outcome error reject parameter_of update_typed update_value purge_typed purge_value route_typed route_value read_tree
user_information = record {
  in_a_request = verdict_is _ _ refl;
  in_a_response = verdict_is _ _ refl;
  another_tag = verdict_is _ _ refl;
  primitive = verdict_is _ _ refl;
  twice = verdict_is _ _ refl;
}

pub names_of_contexts : example.NamesOfContexts
unfolding identifier number_octets verdict_of message_of begin_of continue_of end_of abort_of dialogue_of request_of response_of dialogue_abort_of component_of coded invoke outcome error reject parameter_of update_typed update_value purge_typed purge_value route_typed route_value read_tree
names_of_contexts = record {
  shortest = verdict_is _ _ refl;
  longest = verdict_is _ _ refl;
}

pub versions : example.Versions
unfolding identifier number_octets verdict_of message_of begin_of continue_of end_of abort_of dialogue_of request_of response_of dialogue_abort_of component_of coded invoke outcome error reject parameter_of update_typed update_value purge_typed purge_value route_typed route_value read_tree
versions = record {
  left_out = verdict_is _ _ refl;
  two_bits = verdict_is _ _ refl;
  nine_bits = verdict_is _ _ refl;
  eight_bits_unused = verdict_is _ _ refl;
  no_bits = verdict_is _ _ refl;
  no_octets = verdict_is _ _ refl;
  without_its_bit = verdict_is _ _ refl;
}

pub dialogue_aborts : example.DialogueAborts
unfolding octets_of_sent identifier number_octets length_octets verdict_of message_of begin_of continue_of end_of abort_of dialogue_of request_of response_of dialogue_abort_of component_of coded invoke outcome error reject parameter_of update_typed update_value purge_typed purge_value route_typed route_value read_tree
dialogue_aborts = record {
  octets = refl;
  by_the_user = refl;
  by_the_provider = refl;
  by_neither = refl;
}

pub codes_of_components : example.CodesOfComponents
unfolding octets_of_sent identifier number_octets length_octets verdict_of message_of begin_of continue_of end_of abort_of dialogue_of request_of response_of dialogue_abort_of component_of coded invoke outcome error reject parameter_of update_typed update_value purge_typed purge_value route_typed route_value read_tree
codes_of_components = record {
  empty = verdict_is _ _ refl;
  signed = verdict_is _ _ refl;
  signed_as_sent = refl;
}

pub long_tag_numbers : example.LongTagNumbers
unfolding identifier number_octets verdict_of message_of begin_of continue_of end_of abort_of dialogue_of request_of response_of dialogue_abort_of component_of coded invoke outcome error reject parameter_of update_typed update_value purge_typed purge_value route_typed route_value read_tree
long_tag_numbers = record {
  four_octets = verdict_is _ _ refl;
  greatest = verdict_is _ _ refl;
}

pub sent_address : example.SentAddress
unfolding octets_of_sent identifier number_octets length_octets
sent_address = record {
  out = refl;
}

pub events_from_outside : example.EventsFromOutside
events_from_outside = record {
  clock = (refl, refl);
  exchanged = λ same. let other : 5 ≡ 1 = same.0 in cc other;
  expiry = refl;
  change = (refl, refl);
  another_event = λ none. none;
  another_source = λ e. let other : [] ≡ 1 ∷ [] = e.0 in absurd (cc other);
}
