-- Tags, numbers and single elements, computed.
use Rattle.std.proofs.Common.{refl}
use Rattle.x690.specs.Identifier.{identifier, number_octets}
use Rattle.frames.specs.Dialogues.{request_of, response_of, dialogue_abort_of, dialogue_of}
use Rattle.frames.specs.Arguments.{update_typed, update_value, purge_typed, purge_value, route_typed, route_value, parameter_of}
use Rattle.frames.specs.Messages.{continue_of, message_of}
use Rattle.frames.specs.Verdicts.{verdict_of}
use Rattle.frames_laws.specs.TagExamples as example

pub tag_octets : example.TagOctets
unfolding identifier number_octets
tag_octets = record {
  integer = refl;
  octet_string = refl;
  null = refl;
  object_identifier = refl;
  external = refl;
  enumerated = refl;
  sequence = refl;
  unidirectional = refl;
  begin = refl;
  end = refl;
  continue = refl;
  abort = refl;
  origin = refl;
  destination = refl;
  abort_cause = refl;
  dialogue_portion = refl;
  component_portion = refl;
  single_asn1_type = refl;
  aarq = refl;
  aare = refl;
  abrt = refl;
  version = refl;
  context_name = refl;
  result = refl;
  result_source = refl;
  diagnostic_of_user = refl;
  diagnostic_of_provider = refl;
  abort_source = refl;
  user_information = refl;
  invoke = refl;
  result_last = refl;
  return_error = refl;
  reject = refl;
  result_not_last = refl;
  linked_id = refl;
  general_problem = refl;
  invoke_problem = refl;
  result_problem = refl;
  error_problem = refl;
  update_msc_number = refl;
  update_lmsi = refl;
  insert_imsi = refl;
  insert_msisdn = refl;
  subscriber_status = refl;
  teleservice_list = refl;
  cancel_argument = refl;
  purge_argument = refl;
  purge_vlr_number = refl;
  purge_sgsn_number = refl;
  freeze_tmsi = refl;
  route_msisdn = refl;
  sm_rp_pri = refl;
  service_centre = refl;
  location_info = refl;
  network_node_number = refl;
}

pub numbers_of_frames : example.NumbersOfFrames
unfolding identifier number_octets
numbers_of_frames = record {
  dialogue_as_id = refl;
  version_1 = refl;
  max_octets = refl;
  max_levels = refl;
  max_components = refl;
  max_context_name = refl;
  unrecognized_message_type = refl;
  badly_formatted_transaction_portion = refl;
  incorrect_transaction_portion = refl;
  resource_limitation = refl;
  unrecognized_component = refl;
  mistyped_component = refl;
  accepted = refl;
  reject_permanent = refl;
  no_diagnostic = refl;
  context_name_not_supported = refl;
  update_location = refl;
  cancel_location = refl;
  insert_subscriber_data = refl;
  send_routing_info_for_sm = refl;
  purge_ms = refl;
  roaming_not_allowed = refl;
  plmn_roaming_not_allowed = refl;
  service_granted = refl;
  update_procedure = refl;
  subscription_withdraw = refl;
}

pub elements_read : example.ElementsRead
unfolding request_of response_of dialogue_abort_of dialogue_of update_typed update_value purge_typed purge_value route_typed route_value parameter_of verdict_of message_of continue_of
elements_read = record {
  version = refl;
  eight_bits_unused = refl;
  first_bit_not_set = refl;
  no_bits = refl;
  number = refl;
  long_number = refl;
  no_number = refl;
  object = refl;
  empty_object = refl;
  longest_name = refl;
  longer_name = refl;
  empty_name = refl;
  syntax = refl;
  other_syntax = refl;
  priority = refl;
  long_priority = refl;
  no_priority = refl;
  no_destination = refl;
}
