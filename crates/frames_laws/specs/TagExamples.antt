-- The tags and numbers of frames, each as the octet or the number that the standards print (X.680, Q.773, TS 29.002), and what
-- single elements read to.
use Rattle.std.specs.Prelude.{◌≡◌, ℕ, List, [], ◌∷◌, true, false, Some, None, replicate}
use Rattle.x690.specs.Identifier.{identifier}
use Rattle.x690.specs.Tree.{Tree, Primitive, element}
use Rattle.machine.specs.Received.{Route, Mistyped, Typed, Number, Other, Abrt, Refuse}
use Rattle.frames.specs.declared.tags.TheConstants.{INTEGER, OCTET_STRING, NULL, OBJECT_IDENTIFIER, EXTERNAL, ENUMERATED, SEQUENCE, UNIDIRECTIONAL, BEGIN, END, CONTINUE, ABORT, ORIGIN, DESTINATION, ABORT_CAUSE, DIALOGUE_PORTION, COMPONENT_PORTION, SINGLE_ASN1_TYPE, AARQ, AARE, ABRT, VERSION, CONTEXT_NAME, RESULT, RESULT_SOURCE, DIAGNOSTIC_OF_USER, DIAGNOSTIC_OF_PROVIDER, ABORT_SOURCE, USER_INFORMATION, INVOKE, RESULT_LAST, RETURN_ERROR, REJECT, RESULT_NOT_LAST, LINKED_ID, GENERAL_PROBLEM, INVOKE_PROBLEM, RESULT_PROBLEM, ERROR_PROBLEM, UPDATE_MSC_NUMBER, UPDATE_LMSI, INSERT_IMSI, INSERT_MSISDN, SUBSCRIBER_STATUS, TELESERVICE_LIST, CANCEL_ARGUMENT, PURGE_ARGUMENT, PURGE_VLR_NUMBER, PURGE_SGSN_NUMBER, FREEZE_TMSI, ROUTE_MSISDN, SM_RP_PRI, SERVICE_CENTRE, LOCATION_INFO, NETWORK_NODE_NUMBER}
use Rattle.machine.specs.declared.numbers.TheConstants.{MAX_COMPONENTS, MAX_CONTEXT_NAME, RESOURCE_LIMITATION, UPDATE_LOCATION, SEND_ROUTING_INFO_FOR_SM, PURGE_MS, ROAMING_NOT_ALLOWED}
use Rattle.x690.specs.declared.limits.TheConstants.{MAX_OCTETS, MAX_LEVELS}
use Rattle.frames.specs.declared.numbers.TheConstants.{DIALOGUE_AS_ID, VERSION_1, UNRECOGNIZED_MESSAGE_TYPE, BADLY_FORMATTED_TRANSACTION_PORTION, INCORRECT_TRANSACTION_PORTION, UNRECOGNIZED_COMPONENT, MISTYPED_COMPONENT, ACCEPTED, REJECT_PERMANENT, NO_DIAGNOSTIC, CONTEXT_NAME_NOT_SUPPORTED, CANCEL_LOCATION, INSERT_SUBSCRIBER_DATA, PLMN_ROAMING_NOT_ALLOWED, SERVICE_GRANTED, UPDATE_PROCEDURE, SUBSCRIPTION_WITHDRAW}
use Rattle.frames.specs.Components.{code_of}
use Rattle.frames.specs.Dialogues.{is_version, context_of, dialogue_of}
use Rattle.frames.specs.Arguments.{parameter_of}
use Rattle.frames.specs.Verdicts.{verdict_of}
use Rattle.frames.specs.SentTrees.{abrt_tree}
use Rattle.frames_laws.specs.Written.{hex, digits}

-- The identifier octet of each tag.
pub record TagOctets : Type 0 where
  -- universal types (X.680).
  pub integer : identifier INTEGER ≡ 0x02 ∷ []
  pub octet_string : identifier OCTET_STRING ≡ 0x04 ∷ []
  pub null : identifier NULL ≡ 0x05 ∷ []
  pub object_identifier : identifier OBJECT_IDENTIFIER ≡ 0x06 ∷ []
  pub external : identifier EXTERNAL ≡ 0x28 ∷ []
  pub enumerated : identifier ENUMERATED ≡ 0x0A ∷ []
  pub sequence : identifier SEQUENCE ≡ 0x30 ∷ []
  -- messages and their parts (Q.773).
  pub unidirectional : identifier UNIDIRECTIONAL ≡ 0x61 ∷ []
  pub begin : identifier BEGIN ≡ 0x62 ∷ []
  pub end : identifier END ≡ 0x64 ∷ []
  pub continue : identifier CONTINUE ≡ 0x65 ∷ []
  pub abort : identifier ABORT ≡ 0x67 ∷ []
  pub origin : identifier ORIGIN ≡ 0x48 ∷ []
  pub destination : identifier DESTINATION ≡ 0x49 ∷ []
  pub abort_cause : identifier ABORT_CAUSE ≡ 0x4A ∷ []
  pub dialogue_portion : identifier DIALOGUE_PORTION ≡ 0x6B ∷ []
  pub component_portion : identifier COMPONENT_PORTION ≡ 0x6C ∷ []
  -- dialogue portions (Q.773).
  pub single_asn1_type : identifier SINGLE_ASN1_TYPE ≡ 0xA0 ∷ []
  pub aarq : identifier AARQ ≡ 0x60 ∷ []
  pub aare : identifier AARE ≡ 0x61 ∷ []
  pub abrt : identifier ABRT ≡ 0x64 ∷ []
  pub version : identifier VERSION ≡ 0x80 ∷ []
  pub context_name : identifier CONTEXT_NAME ≡ 0xA1 ∷ []
  pub result : identifier RESULT ≡ 0xA2 ∷ []
  pub result_source : identifier RESULT_SOURCE ≡ 0xA3 ∷ []
  pub diagnostic_of_user : identifier DIAGNOSTIC_OF_USER ≡ 0xA1 ∷ []
  pub diagnostic_of_provider : identifier DIAGNOSTIC_OF_PROVIDER ≡ 0xA2 ∷ []
  pub abort_source : identifier ABORT_SOURCE ≡ 0x80 ∷ []
  pub user_information : identifier USER_INFORMATION ≡ 0xBE ∷ []
  -- components and their parts (Q.773).
  pub invoke : identifier INVOKE ≡ 0xA1 ∷ []
  pub result_last : identifier RESULT_LAST ≡ 0xA2 ∷ []
  pub return_error : identifier RETURN_ERROR ≡ 0xA3 ∷ []
  pub reject : identifier REJECT ≡ 0xA4 ∷ []
  pub result_not_last : identifier RESULT_NOT_LAST ≡ 0xA7 ∷ []
  pub linked_id : identifier LINKED_ID ≡ 0x80 ∷ []
  pub general_problem : identifier GENERAL_PROBLEM ≡ 0x80 ∷ []
  pub invoke_problem : identifier INVOKE_PROBLEM ≡ 0x81 ∷ []
  pub result_problem : identifier RESULT_PROBLEM ≡ 0x82 ∷ []
  pub error_problem : identifier ERROR_PROBLEM ≡ 0x83 ∷ []
  -- UpdateLocationArg (TS 29.002, 17.7.1).
  pub update_msc_number : identifier UPDATE_MSC_NUMBER ≡ 0x81 ∷ []
  pub update_lmsi : identifier UPDATE_LMSI ≡ 0x8A ∷ []
  -- InsertSubscriberDataArg (TS 29.002, 17.7.1).
  pub insert_imsi : identifier INSERT_IMSI ≡ 0x80 ∷ []
  pub insert_msisdn : identifier INSERT_MSISDN ≡ 0x81 ∷ []
  pub subscriber_status : identifier SUBSCRIBER_STATUS ≡ 0x83 ∷ []
  pub teleservice_list : identifier TELESERVICE_LIST ≡ 0xA6 ∷ []
  -- CancelLocationArg (TS 29.002, 17.7.1).
  pub cancel_argument : identifier CANCEL_ARGUMENT ≡ 0xA3 ∷ []
  -- PurgeMS-Arg and PurgeMS-Res (TS 29.002, 17.7.1).
  pub purge_argument : identifier PURGE_ARGUMENT ≡ 0xA3 ∷ []
  pub purge_vlr_number : identifier PURGE_VLR_NUMBER ≡ 0x80 ∷ []
  pub purge_sgsn_number : identifier PURGE_SGSN_NUMBER ≡ 0x81 ∷ []
  pub freeze_tmsi : identifier FREEZE_TMSI ≡ 0x80 ∷ []
  -- RoutingInfoForSM-Arg and RoutingInfoForSM-Res (TS 29.002, 17.7.6).
  pub route_msisdn : identifier ROUTE_MSISDN ≡ 0x80 ∷ []
  pub sm_rp_pri : identifier SM_RP_PRI ≡ 0x81 ∷ []
  pub service_centre : identifier SERVICE_CENTRE ≡ 0x82 ∷ []
  pub location_info : identifier LOCATION_INFO ≡ 0xA0 ∷ []
  pub network_node_number : identifier NETWORK_NODE_NUMBER ≡ 0x81 ∷ []

-- The numbers and octet strings of the standards and of the profile.
pub record NumbersOfFrames : Type 0 where
  pub dialogue_as_id : DIALOGUE_AS_ID ≡ hex "00 11 86 05 01 01 01"
  pub version_1 : VERSION_1 ≡ hex "07 80"
  pub max_octets : MAX_OCTETS ≡ 4096
  pub max_levels : MAX_LEVELS ≡ 32
  pub max_components : MAX_COMPONENTS ≡ 16
  pub max_context_name : MAX_CONTEXT_NAME ≡ 32
  pub unrecognized_message_type : UNRECOGNIZED_MESSAGE_TYPE ≡ 0
  pub badly_formatted_transaction_portion : BADLY_FORMATTED_TRANSACTION_PORTION ≡ 2
  pub incorrect_transaction_portion : INCORRECT_TRANSACTION_PORTION ≡ 3
  pub resource_limitation : RESOURCE_LIMITATION ≡ 4
  pub unrecognized_component : UNRECOGNIZED_COMPONENT ≡ 0
  pub mistyped_component : MISTYPED_COMPONENT ≡ 1
  pub accepted : ACCEPTED ≡ 0
  pub reject_permanent : REJECT_PERMANENT ≡ 1
  pub no_diagnostic : NO_DIAGNOSTIC ≡ 0
  pub context_name_not_supported : CONTEXT_NAME_NOT_SUPPORTED ≡ 2
  pub update_location : UPDATE_LOCATION ≡ 2
  pub cancel_location : CANCEL_LOCATION ≡ 3
  pub insert_subscriber_data : INSERT_SUBSCRIBER_DATA ≡ 7
  pub send_routing_info_for_sm : SEND_ROUTING_INFO_FOR_SM ≡ 45
  pub purge_ms : PURGE_MS ≡ 67
  pub roaming_not_allowed : ROAMING_NOT_ALLOWED ≡ 8
  pub plmn_roaming_not_allowed : PLMN_ROAMING_NOT_ALLOWED ≡ 0
  pub service_granted : SERVICE_GRANTED ≡ 0
  pub update_procedure : UPDATE_PROCEDURE ≡ 0
  pub subscription_withdraw : SUBSCRIPTION_WITHDRAW ≡ 1

-- a dialogue abort as an EXTERNAL of this syntax
abbrev pub in_syntax : (name : List ℕ) → Tree
in_syntax name = element DIALOGUE_PORTION (element EXTERNAL (Primitive OBJECT_IDENTIFIER name ∷ element SINGLE_ASN1_TYPE (abrt_tree 0 ∷ []) ∷ []) ∷ [])

-- the parameter of a sendRoutingInfoForSM with these octets as its sm-RP-PRI
abbrev pub route_with : (priority : List ℕ) → Tree
route_with priority = element SEQUENCE (Primitive ROUTE_MSISDN (hex "91 21") ∷ Primitive SM_RP_PRI priority ∷ Primitive SERVICE_CENTRE (hex "91 43") ∷ [])

-- What single elements read to: versions, codes, names, the syntax of a dialogue portion, and the priority of a route's parameter.
pub record ElementsRead : Type 0 where
  pub version : is_version (hex "07 80") ≡ true
  pub eight_bits_unused : is_version (hex "08 80") ≡ false
  pub first_bit_not_set : is_version (hex "07 7F") ≡ false
  pub no_bits : is_version (hex "07") ≡ false
  pub number : code_of (Primitive INTEGER (45 ∷ [])) ≡ Some (Number 45)
  pub long_number : code_of (Primitive INTEGER (0 ∷ 45 ∷ [])) ≡ Some Other
  pub no_number : code_of (Primitive INTEGER []) ≡ None
  pub object : code_of (Primitive OBJECT_IDENTIFIER (5 ∷ [])) ≡ Some Other
  pub empty_object : code_of (Primitive OBJECT_IDENTIFIER []) ≡ None
  pub longest_name : context_of (element CONTEXT_NAME (Primitive OBJECT_IDENTIFIER (replicate 32 5) ∷ [])) ≡ Some (replicate 32 5)
  pub longer_name : context_of (element CONTEXT_NAME (Primitive OBJECT_IDENTIFIER (replicate 33 5) ∷ [])) ≡ None
  pub empty_name : context_of (element CONTEXT_NAME (Primitive OBJECT_IDENTIFIER [] ∷ [])) ≡ None
  pub syntax : dialogue_of (in_syntax (hex "00 11 86 05 01 01 01")) ≡ Some (Abrt 0)
  pub other_syntax : dialogue_of (in_syntax (hex "00 11 86 05 01 02 01")) ≡ None
  pub priority : parameter_of (Number 45) (route_with (hex "FF")) ≡ Typed (Route (digits "12"))
  pub long_priority : parameter_of (Number 45) (route_with (hex "FF 00")) ≡ Mistyped
  pub no_priority : parameter_of (Number 45) (route_with []) ≡ Mistyped
  pub no_destination : verdict_of (element CONTINUE (Primitive ORIGIN (hex "00 00 00 07") ∷ [])) ≡ Refuse (hex "00 00 00 07") 2
