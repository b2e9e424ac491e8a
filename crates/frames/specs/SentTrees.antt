-- The trees of what is sent (Q.773; TS 29.002, 17.7), and its octets.
use Rattle.std.specs.Prelude.{ℕ, ℤ, List, [], ◌∷◌, ◌++◌, map, true, false, Option, Some, None, ◌==◌, if◌then◌else◌, option_map, option_to_list}
use Rattle.std.specs.Int.{w8, cast_unsigned}
use Rattle.x690.specs.Tree.{Tree, Primitive, element}
use Rattle.x690.specs.Spelling.{enc}
use Rattle.hlr_types.specs.Tbcd.{tbcd}
use Rattle.hlr_types.specs.Identities.{address_octets}
use Rattle.machine.specs.Received.{Diagnostic, OfUser}
use Rattle.machine.specs.Sent.{Context, Rejection, CancellationType, UpdateProcedure, SubscriptionWithdraw, SentComponent, Insert, Cancel, UpdateResult, PurgeResult, RouteResult, SentError, Why, NoCause, Cause, Refusing, SentMessage, SentBegin, SentContinue, SentEnd, SentAbort}
use Rattle.machine.specs.Contexts.{name_of}
use Rattle.frames.specs.declared.tags.TheConstants.{INTEGER, NULL, OBJECT_IDENTIFIER, SEQUENCE, OCTET_STRING, ENUMERATED, INVOKE, RESULT_LAST, RETURN_ERROR, REJECT, INSERT_IMSI, INSERT_MSISDN, SUBSCRIBER_STATUS, TELESERVICE_LIST, CANCEL_ARGUMENT, FREEZE_TMSI, LOCATION_INFO, NETWORK_NODE_NUMBER, BEGIN, END, CONTINUE, ABORT, ORIGIN, DESTINATION, ABORT_CAUSE, COMPONENT_PORTION, AARQ, AARE, ABRT, VERSION, CONTEXT_NAME, RESULT, ABORT_SOURCE}
use Rattle.machine.specs.declared.numbers.TheConstants.{ROAMING_NOT_ALLOWED, UPDATE_LOCATION, SEND_ROUTING_INFO_FOR_SM, PURGE_MS}
use Rattle.frames.specs.declared.numbers.TheConstants.{VERSION_1, SERVICE_GRANTED, UPDATE_PROCEDURE, SUBSCRIPTION_WITHDRAW, PLMN_ROAMING_NOT_ALLOWED, CANCEL_LOCATION, INSERT_SUBSCRIBER_DATA, ACCEPTED, REJECT_PERMANENT, NO_DIAGNOSTIC, CONTEXT_NAME_NOT_SUPPORTED}
use Rattle.frames.specs.ComponentForms.{problem_tag}
use Rattle.frames.specs.DialogueForms.{octet_in, diagnostic_tree, portion_tree}

-- ---- components (Q.773, component portion)

abbrev pub id_tree : ℤ → Tree
id_tree id = Primitive INTEGER (cast_unsigned w8 id ∷ [])

abbrev pub code_tree : ℕ → Tree
code_tree code = Primitive INTEGER (code ∷ [])

abbrev pub invoke_tree : (id : ℤ) → (operation : ℕ) → (parameter : Tree) → Tree
invoke_tree id operation parameter = element INVOKE (id_tree id ∷ code_tree operation ∷ parameter ∷ [])

abbrev pub result_tree : (id : ℤ) → (operation : ℕ) → (parameter : Tree) → Tree
result_tree id operation parameter = element RESULT_LAST (id_tree id ∷ element SEQUENCE (code_tree operation ∷ parameter ∷ []) ∷ [])

abbrev pub empty_result_tree : (id : ℤ) → Tree
empty_result_tree id = element RESULT_LAST (id_tree id ∷ [])

abbrev pub error_tree : (id : ℤ) → (code : ℕ) → (parameter : Option Tree) → Tree
error_tree id code parameter = element RETURN_ERROR (id_tree id ∷ code_tree code ∷ option_to_list parameter)

-- what is rejected: an id, or a NULL
abbrev pub rejected_tree : Option ℤ → Tree
rejected_tree None = Primitive NULL []
rejected_tree (Some id) = id_tree id

abbrev pub reject_tree : Rejection → Tree
reject_tree r = element REJECT (rejected_tree r.id ∷ Primitive (problem_tag r.side) (r.problem ∷ []) ∷ [])

-- ---- parameters (TS 29.002: MAP-MS-DataTypes, MAP-SM-DataTypes, MAP-ER-DataTypes)

-- serviceGranted accompanies the msisdn (profile)
abbrev pub subscriber_trees : Option (List ℕ) → List Tree
subscriber_trees None = []
subscriber_trees (Some msisdn) = Primitive INSERT_MSISDN (address_octets msisdn) ∷ Primitive SUBSCRIBER_STATUS (SERVICE_GRANTED ∷ []) ∷ []

-- no list if there are no codes
abbrev pub teleservice_tree : ℕ → Tree
teleservice_tree code = Primitive OCTET_STRING (code ∷ [])

abbrev pub teleservice_trees : List ℕ → List Tree
teleservice_trees [] = []
teleservice_trees (code ∷ codes) = element TELESERVICE_LIST (teleservice_tree code ∷ map teleservice_tree codes) ∷ []

-- InsertSubscriberDataArg
abbrev pub insert_tree : (imsi msisdn : Option (List ℕ)) → (codes : List ℕ) → Tree
insert_tree imsi msisdn codes =
    element SEQUENCE (option_to_list (option_map (λ digits. Primitive INSERT_IMSI (tbcd digits)) imsi) ++ (subscriber_trees msisdn ++ teleservice_trees codes))

abbrev pub cancellation_octet : CancellationType → ℕ
cancellation_octet UpdateProcedure = UPDATE_PROCEDURE
cancellation_octet SubscriptionWithdraw = SUBSCRIPTION_WITHDRAW

-- CancelLocationArg
abbrev pub cancel_tree : (imsi : List ℕ) → CancellationType → Tree
cancel_tree imsi cancellation = element CANCEL_ARGUMENT (Primitive OCTET_STRING (tbcd imsi) ∷ Primitive ENUMERATED (cancellation_octet cancellation ∷ []) ∷ [])

-- UpdateLocationRes
abbrev pub update_result_tree : (hlr : List ℕ) → Tree
update_result_tree hlr = element SEQUENCE (Primitive OCTET_STRING (address_octets hlr) ∷ [])

-- PurgeMS-Res
abbrev pub purge_result_tree : Tree
purge_result_tree = element SEQUENCE (Primitive FREEZE_TMSI [] ∷ [])

-- RoutingInfoForSM-Res
abbrev pub route_result_tree : (imsi msc : List ℕ) → Option (List ℕ) → Tree
route_result_tree imsi msc lmsi =
    element SEQUENCE (Primitive OCTET_STRING (tbcd imsi) ∷ element LOCATION_INFO
    (Primitive NETWORK_NODE_NUMBER (address_octets msc) ∷ option_to_list (option_map (Primitive OCTET_STRING) lmsi)) ∷ [])

-- only roamingNotAllowed has a parameter, RoamingNotAllowedParam: plmnRoamingNotAllowed (profile)
abbrev pub error_parameter : (code : ℕ) → Option Tree
error_parameter code = if code == ROAMING_NOT_ALLOWED then Some (element SEQUENCE (Primitive ENUMERATED (PLMN_ROAMING_NOT_ALLOWED ∷ []) ∷ [])) else None

abbrev pub component_tree : SentComponent → Tree
component_tree (Insert id imsi msisdn codes) = invoke_tree id INSERT_SUBSCRIBER_DATA (insert_tree imsi msisdn codes)
component_tree (Cancel id imsi cancellation) = invoke_tree id CANCEL_LOCATION (cancel_tree imsi cancellation)
component_tree (UpdateResult id hlr) = result_tree id UPDATE_LOCATION (update_result_tree hlr)
component_tree (PurgeResult id true) = result_tree id PURGE_MS purge_result_tree
component_tree (PurgeResult id false) = empty_result_tree id
component_tree (RouteResult id imsi msc lmsi) = result_tree id SEND_ROUTING_INFO_FOR_SM (route_result_tree imsi msc lmsi)
component_tree (SentError id code) = error_tree id code (error_parameter code)

-- ---- dialogue APDUs (Q.773, dialogue portion); what is sent has version 1 (profile)

abbrev pub version_tree : Tree
version_tree = Primitive VERSION VERSION_1

abbrev pub context_tree : List ℕ → Tree
context_tree name = element CONTEXT_NAME (Primitive OBJECT_IDENTIFIER name ∷ [])

abbrev pub aarq_tree : (name : List ℕ) → Tree
aarq_tree name = element AARQ (version_tree ∷ context_tree name ∷ [])

abbrev pub aare_tree : (name : List ℕ) → (outcome : ℕ) → Diagnostic → Tree
aare_tree name outcome diagnostic = element AARE (version_tree ∷ context_tree name ∷ octet_in RESULT outcome ∷ diagnostic_tree diagnostic ∷ [])

abbrev pub abrt_tree : (source : ℕ) → Tree
abrt_tree source = element ABRT (Primitive ABORT_SOURCE (source ∷ []) ∷ [])

-- the portions of what is sent: the request, the response that accepts, and the one that refuses
abbrev pub asking : Context → Tree
asking context = portion_tree (aarq_tree (name_of context))

abbrev pub accepting : Context → Tree
accepting context = portion_tree (aare_tree (name_of context) ACCEPTED (OfUser NO_DIAGNOSTIC))

abbrev pub refusing : (name : List ℕ) → Tree
refusing name = portion_tree (aare_tree name REJECT_PERMANENT (OfUser CONTEXT_NAME_NOT_SUPPORTED))

-- ---- messages (Q.773, transaction portion)

-- no component portion if there are no components
abbrev pub component_portion : List Tree → List Tree
component_portion [] = []
component_portion (c ∷ cs) = element COMPONENT_PORTION (c ∷ cs) ∷ []

abbrev pub portion_trees : (dialogue : Option Tree) → (components : List Tree) → List Tree
portion_trees dialogue components = option_to_list dialogue ++ component_portion components

abbrev pub begin_tree : (origin : List ℕ) → Option Tree → List Tree → Tree
begin_tree origin dialogue components = element BEGIN (Primitive ORIGIN origin ∷ portion_trees dialogue components)

abbrev pub continue_tree : (origin destination : List ℕ) → Option Tree → List Tree → Tree
continue_tree origin destination dialogue components =
    element CONTINUE (Primitive ORIGIN origin ∷ Primitive DESTINATION destination ∷ portion_trees dialogue components)

abbrev pub end_tree : (destination : List ℕ) → Option Tree → List Tree → Tree
end_tree destination dialogue components = element END (Primitive DESTINATION destination ∷ portion_trees dialogue components)

abbrev pub abort_tree : (destination : List ℕ) → (reason : Option Tree) → Tree
abort_tree destination reason = element ABORT (Primitive DESTINATION destination ∷ option_to_list reason)

abbrev pub cause_tree : (cause : ℕ) → Tree
cause_tree cause = Primitive ABORT_CAUSE (cause ∷ [])

-- the Rejects come first
abbrev pub component_trees : List Rejection → List SentComponent → List Tree
component_trees rejects components = map reject_tree rejects ++ map component_tree components

abbrev pub reason_tree : Why → Option Tree
reason_tree NoCause = None
reason_tree (Cause cause) = Some (cause_tree cause)
reason_tree (Refusing name) = Some (refusing name)

abbrev pub tree_of : SentMessage → Tree
tree_of (SentBegin origin context components) = begin_tree origin (Some (asking context)) (component_trees [] components)
tree_of (SentContinue origin destination context rejects components) =
    continue_tree origin destination (option_map accepting context) (component_trees rejects components)
tree_of (SentEnd destination context rejects components) = end_tree destination (option_map accepting context) (component_trees rejects components)
tree_of (SentAbort destination why) = abort_tree destination (reason_tree why)

-- The octets that are sent.
unfoldable pub octets_of_sent : SentMessage → List ℕ
octets_of_sent m = enc (tree_of m)
