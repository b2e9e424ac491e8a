-- The worked examples, computed from the definitions: octets that are sent, and the verdict that the reader of octets gives on received
-- ones. What a computation looks into stands after `unfolding`.
use Rattle.std.proofs.Common.{refl}
use Rattle.x690.specs.Identifier.{identifier, number_octets}
use Rattle.x690.specs.Length.{length_octets}
use Rattle.frames.specs.Components.{coded, invoke, outcome, error, reject, component_of}
use Rattle.frames.specs.Dialogues.{request_of, response_of, dialogue_abort_of, dialogue_of}
use Rattle.frames.specs.Messages.{begin_of, continue_of, end_of, abort_of, message_of}
use Rattle.frames.specs.Arguments.{update_typed, update_value, purge_typed, purge_value, route_typed, route_value, parameter_of}
use Rattle.frames.specs.Verdicts.{verdict_of}
use Rattle.frames.specs.SentTrees.{octets_of_sent}
use Rattle.frames_laws.specs.Reader.{read_tree}
use Rattle.frames_laws.specs.Examples as example
use Rattle.frames_laws.proofs.VerdictLaws.{verdict_is}

pub first_route : example.FirstRoute
unfolding octets_of_sent identifier number_octets length_octets verdict_of message_of begin_of continue_of end_of abort_of dialogue_of request_of response_of dialogue_abort_of component_of coded invoke outcome error reject parameter_of update_typed update_value purge_typed purge_value route_typed route_value read_tree
first_route = record {
  received = verdict_is _ _ refl;
  answer = refl;
  with_lmsi = refl;
}

pub indefinite_route : example.IndefiniteRoute
unfolding identifier number_octets verdict_of message_of begin_of continue_of end_of abort_of dialogue_of request_of response_of dialogue_abort_of component_of coded invoke outcome error reject parameter_of update_typed update_value purge_typed purge_value route_typed route_value read_tree
indefinite_route = record {
  received = verdict_is _ _ refl;
}

pub route_errors : example.RouteErrors
unfolding octets_of_sent identifier number_octets length_octets
route_errors = record {
  absent = refl;
  not_provisioned = refl;
  unknown = refl;
}

pub badly_formed_transactions : example.BadlyFormedTransactions
unfolding octets_of_sent identifier number_octets length_octets verdict_of message_of begin_of continue_of end_of abort_of dialogue_of request_of response_of dialogue_abort_of component_of coded invoke outcome error reject parameter_of update_typed update_value purge_typed purge_value route_typed route_value read_tree
badly_formed_transactions = record {
  another_type = verdict_is _ _ refl;
  answer = refl;
  no_origin = verdict_is _ _ refl;
  another_child = verdict_is _ _ refl;
  answer_to_it = refl;
  an_end_with_it = verdict_is _ _ refl;
  unidirectional = verdict_is _ _ refl;
}

pub unknown_dialogues : example.UnknownDialogues
unfolding octets_of_sent identifier number_octets length_octets verdict_of message_of begin_of continue_of end_of abort_of dialogue_of request_of response_of dialogue_abort_of component_of coded invoke outcome error reject parameter_of update_typed update_value purge_typed purge_value route_typed route_value read_tree
unknown_dialogues = record {
  a_continue = verdict_is _ _ refl;
  answer = refl;
  an_end = verdict_is _ _ refl;
  an_abort = verdict_is _ _ refl;
  no_destination = verdict_is _ _ refl;
}

pub short_ids : example.ShortIds
unfolding octets_of_sent identifier number_octets length_octets verdict_of message_of begin_of continue_of end_of abort_of dialogue_of request_of response_of dialogue_abort_of component_of coded invoke outcome error reject parameter_of update_typed update_value purge_typed purge_value route_typed route_value read_tree
short_ids = record {
  received = verdict_is _ _ refl;
  answer = refl;
  to_a_short_id = refl;
}

pub two_inserts : example.TwoInserts
unfolding octets_of_sent identifier number_octets length_octets verdict_of message_of begin_of continue_of end_of abort_of dialogue_of request_of response_of dialogue_abort_of component_of coded invoke outcome error reject parameter_of update_typed update_value purge_typed purge_value route_typed route_value read_tree
two_inserts = record {
  sent = refl;
  result = verdict_is _ _ refl;
  without_codes = refl;
}

pub whole_update : example.WholeUpdate
unfolding octets_of_sent identifier number_octets length_octets verdict_of message_of begin_of continue_of end_of abort_of dialogue_of request_of response_of dialogue_abort_of component_of coded invoke outcome error reject parameter_of update_typed update_value purge_typed purge_value route_typed route_value read_tree
whole_update = record {
  update = verdict_is _ _ refl;
  insert = refl;
  insert_result = verdict_is _ _ refl;
  update_result = refl;
  cancel = refl;
  cancel_result = verdict_is _ _ refl;
}

pub repeated_cancel : example.RepeatedCancel
unfolding octets_of_sent identifier number_octets length_octets
repeated_cancel = record {
  again = refl;
}

pub overtaken_update : example.OvertakenUpdate
unfolding octets_of_sent identifier number_octets length_octets
overtaken_update = record {
  failed = refl;
}

pub purge : example.PurgeAnswered
unfolding octets_of_sent identifier number_octets length_octets verdict_of message_of begin_of continue_of end_of abort_of dialogue_of request_of response_of dialogue_abort_of component_of coded invoke outcome error reject parameter_of update_typed update_value purge_typed purge_value route_typed route_value read_tree
purge = record {
  received = verdict_is _ _ refl;
  frozen = refl;
  not_frozen = refl;
  without_number = verdict_is _ _ refl;
  data_missing = refl;
}

pub refused_contexts : example.RefusedContexts
unfolding octets_of_sent identifier number_octets length_octets verdict_of message_of begin_of continue_of end_of abort_of dialogue_of request_of response_of dialogue_abort_of component_of coded invoke outcome error reject parameter_of update_typed update_value purge_typed purge_value route_typed route_value read_tree
refused_contexts = record {
  version_2 = verdict_is _ _ refl;
  refused_version = refl;
  refused_context = refl;
  no_portion = verdict_is _ _ refl;
  no_components = verdict_is _ _ refl;
  answer = refl;
  short_name = refl;
  long_name = refl;
  empty_name = verdict_is _ _ refl;
  too_long_name = verdict_is _ _ refl;
}

pub result_of_unknown_invoke : example.ResultOfUnknownInvoke
unfolding octets_of_sent identifier number_octets length_octets verdict_of message_of begin_of continue_of end_of abort_of dialogue_of request_of response_of dialogue_abort_of component_of coded invoke outcome error reject parameter_of update_typed update_value purge_typed purge_value route_typed route_value read_tree
result_of_unknown_invoke = record {
  received = verdict_is _ _ refl;
  answer = refl;
}

pub second_invoke_refused : example.SecondInvokeRefused
unfolding octets_of_sent identifier number_octets length_octets verdict_of message_of begin_of continue_of end_of abort_of dialogue_of request_of response_of dialogue_abort_of component_of coded invoke outcome error reject parameter_of update_typed update_value purge_typed purge_value route_typed route_value read_tree
second_invoke_refused = record {
  received = verdict_is _ _ refl;
  answer = refl;
}

pub insert_error : example.InsertError
unfolding octets_of_sent identifier number_octets length_octets verdict_of message_of begin_of continue_of end_of abort_of dialogue_of request_of response_of dialogue_abort_of component_of coded invoke outcome error reject parameter_of update_typed update_value purge_typed purge_value route_typed route_value read_tree
insert_error = record {
  received = verdict_is _ _ refl;
  failed = refl;
}

pub late_and_linked_components : example.LateAndLinkedComponents
unfolding octets_of_sent identifier number_octets length_octets verdict_of message_of begin_of continue_of end_of abort_of dialogue_of request_of response_of dialogue_abort_of component_of coded invoke outcome error reject parameter_of update_typed update_value purge_typed purge_value route_typed route_value read_tree
late_and_linked_components = record {
  late = refl;
  duplicate = verdict_is _ _ refl;
  duplicate_rejected = refl;
  linked = verdict_is _ _ refl;
  linked_rejected = refl;
}

pub refused_updates : example.RefusedUpdates
unfolding octets_of_sent identifier number_octets length_octets verdict_of message_of begin_of continue_of end_of abort_of dialogue_of request_of response_of dialogue_abort_of component_of coded invoke outcome error reject parameter_of update_typed update_value purge_typed purge_value route_typed route_value read_tree
refused_updates = record {
  no_parameter = verdict_is _ _ refl;
  mistyped_rejected = refl;
  another_type = verdict_is _ _ refl;
  short_imsi = verdict_is _ _ refl;
  unexpected_value = refl;
  roaming_not_allowed = refl;
  another_operation = verdict_is _ _ refl;
  operation_rejected = refl;
}

pub same_digits_other_kind : example.SameDigitsOtherKind
unfolding identifier number_octets verdict_of message_of begin_of continue_of end_of abort_of dialogue_of request_of response_of dialogue_abort_of component_of coded invoke outcome error reject parameter_of update_typed update_value purge_typed purge_value route_typed route_value read_tree
same_digits_other_kind = record {
  national = verdict_is _ _ refl;
  extended = verdict_is _ _ refl;
}

pub optional_elements : example.OptionalElements
unfolding identifier number_octets verdict_of message_of begin_of continue_of end_of abort_of dialogue_of request_of response_of dialogue_abort_of component_of coded invoke outcome error reject parameter_of update_typed update_value purge_typed purge_value route_typed route_value read_tree
optional_elements = record {
  with_lmsi = verdict_is _ _ refl;
  short_lmsi = verdict_is _ _ refl;
  constructed_lmsi = verdict_is _ _ refl;
  constructed_vlr_number = verdict_is _ _ refl;
  constructed_sgsn_number = verdict_is _ _ refl;
  sgsn_number = verdict_is _ _ refl;
}

pub codes_changed : example.CodesChanged
unfolding octets_of_sent identifier number_octets length_octets
codes_changed = record {
  sent = refl;
}

pub withdrawn : example.Withdrawn
unfolding octets_of_sent identifier number_octets length_octets
withdrawn = record {
  cancel = refl;
  unknown = refl;
}

pub full_shard : example.FullShard
unfolding octets_of_sent identifier number_octets length_octets
full_shard = record {
  sent = refl;
}

pub most_components : example.MostComponents
unfolding octets_of_sent identifier number_octets length_octets verdict_of message_of begin_of continue_of end_of abort_of dialogue_of request_of response_of dialogue_abort_of component_of coded invoke outcome error reject parameter_of update_typed update_value purge_typed purge_value route_typed route_value read_tree
most_components = record {
  seventeen = verdict_is _ _ refl;
  answer = refl;
  sixteen = verdict_is _ _ refl;
  answer_to_sixteen = refl;
  an_end = verdict_is _ _ refl;
  sent_reject = refl;
}

pub components : example.Components
unfolding identifier number_octets verdict_of message_of begin_of continue_of end_of abort_of dialogue_of request_of response_of dialogue_abort_of component_of coded invoke outcome error reject parameter_of update_typed update_value purge_typed purge_value route_typed route_value read_tree
components = record {
  results = verdict_is _ _ refl;
  errors = verdict_is _ _ refl;
  rejects = verdict_is _ _ refl;
  codes_of_invokes = verdict_is _ _ refl;
  faults = verdict_is _ _ refl;
}

pub dialogue_portions : example.DialoguePortions
unfolding identifier number_octets verdict_of message_of begin_of continue_of end_of abort_of dialogue_of request_of response_of dialogue_abort_of component_of coded invoke outcome error reject parameter_of update_typed update_value purge_typed purge_value route_typed route_value read_tree
dialogue_portions = record {
  of_user = verdict_is _ _ refl;
  of_provider = verdict_is _ _ refl;
  in_an_end = verdict_is _ _ refl;
  version_without_its_bit = verdict_is _ _ refl;
  an_abrt = verdict_is _ _ refl;
  an_aare_in_a_begin = verdict_is _ _ refl;
  an_aarq_in_an_end = verdict_is _ _ refl;
  an_empty_portion = verdict_is _ _ refl;
  in_an_abort_unread = verdict_is _ _ refl;
}

pub hostile_spellings : example.HostileSpellings
unfolding identifier number_octets verdict_of message_of begin_of continue_of end_of abort_of dialogue_of request_of response_of dialogue_abort_of component_of coded invoke outcome error reject parameter_of update_typed update_value purge_typed purge_value route_typed route_value read_tree
hostile_spellings = record {
  long_length = verdict_is _ _ refl;
  long_number = verdict_is _ _ refl;
  five_length_octets = verdict_is _ _ refl;
  open_primitive = verdict_is _ _ refl;
  small_long_number = verdict_is _ _ refl;
  zero_first_group = verdict_is _ _ refl;
  octet_after_tree = verdict_is _ _ refl;
}

pub largest_frame : example.LargestFrame
unfolding identifier number_octets verdict_of message_of begin_of continue_of end_of abort_of dialogue_of request_of response_of dialogue_abort_of component_of coded invoke outcome error reject parameter_of update_typed update_value purge_typed purge_value route_typed route_value read_tree
largest_frame = record {
  largest = verdict_is _ _ refl;
  one_octet_more = verdict_is _ _ refl;
  empty = verdict_is _ _ refl;
}

pub deepest_tree : example.DeepestTree
unfolding identifier number_octets verdict_of message_of begin_of continue_of end_of abort_of dialogue_of request_of response_of dialogue_abort_of component_of coded invoke outcome error reject parameter_of update_typed update_value purge_typed purge_value route_typed route_value read_tree
deepest_tree = record {
  deepest = verdict_is _ _ refl;
  one_level_more = verdict_is _ _ refl;
}
