-- What is sent has its form, and is read again as what was meant.
use Rattle.std.proofs.Common.{◌≡◌, ℕ, ℤ, ◌^◌, ◌<◌, ◌≤◌, true, false, List, [], ◌∷◌, length, refl, ap, subst, inl, inr, arith}
use Rattle.std.specs.Prelude.{Option, Some, None, map, option_map, option_to_list}
use Rattle.std.specs.Int.{w8, cast_unsigned}
use Rattle.std.proofs.lemmas.Bool.{leb-true}
use Rattle.x690.specs.Tree.{Tree, element}
use Rattle.machine.specs.Keys.{Every}
use Rattle.machine.specs.Received.{Number, Response, Aarq, Aare, Abrt, Read}
use Rattle.machine.specs.Sent.{Context, NetworkLocUp, LocationCancellation, SubscriberDataMngt, ShortMsgGateway, MsPurging, Rejection, SentComponent, Insert, Cancel, UpdateResult, PurgeResult, RouteResult, SentError, Why, NoCause, Cause, Refusing, SentMessage, SentBegin, SentContinue, SentEnd, SentAbort}
use Rattle.machine.specs.Contexts.{name_of}
use Rattle.frames.specs.declared.tags.TheConstants.{INTEGER, SEQUENCE}
use Rattle.machine.specs.declared.numbers.TheConstants.{UPDATE_LOCATION, PURGE_MS, SEND_ROUTING_INFO_FOR_SM, MAX_CONTEXT_NAME, MAX_COMPONENTS}
use Rattle.frames.specs.declared.numbers.TheConstants.{INSERT_SUBSCRIBER_DATA, CANCEL_LOCATION, VERSION_1}
use Rattle.frames.specs.Messages as tc
use Rattle.frames.specs.Messages.{Portions, TcMessage, components_in}
use Rattle.frames.specs.MessageForms.{AreComponents, ArePortions, AreReason, IsMessage}
use Rattle.frames.specs.DialogueForms.{AreVersion, IsDialogue, portion_tree}
use Rattle.frames.specs.ComponentForms.{IsId, AreCoded, AreOutcome, IsRejected, IsWellFormed}
use Rattle.frames.specs.Heard.{heard, heard_of, all_heard, AreHeard}
use Rattle.frames.specs.Frames.{IsPortion, Reads, IsVerdict}
use Rattle.machine.specs.Bounds.{IfThere, IsInvokeId}
use Rattle.frames.specs.Sane.{SaneComponent, SaneRejection, SaneContent, HasIds, trees_sent, Readable}
use Rattle.frames.specs.SentTrees.{insert_tree, cancel_tree, update_result_tree, purge_result_tree, route_result_tree, id_tree, code_tree, rejected_tree, reject_tree, component_tree, error_parameter, version_tree, context_tree, aarq_tree, aare_tree, abrt_tree, asking, accepting, component_portion, portion_trees, component_trees, reason_tree, tree_of, octets_of_sent}
use Rattle.frames.specs.SentHeard.{reject_meant, component_meant, components_heard, accepted_heard, message_heard}
use Rattle.frames.proofs.ComponentLaws.{well_formed_again}
use Rattle.frames.proofs.HeardLaws.{all_found}
use Rattle.frames.proofs.JudgingLaws.{reads_judged}
use Rattle.frames_laws.proofs.SentBack.{id_back}
use Rattle.frames_laws.proofs.SentShape.{sent_levels, sent_octets, sent_spells}

-- ---- components

id_is : (id : ℤ) → IsInvokeId id → IsId INTEGER (id_tree id) id
id_is id h = (cast_unsigned w8 id, refl, id_back id h)

coded_is : (code : ℕ) (parameter : Option Tree) → AreCoded (code_tree code ∷ option_to_list parameter) (Number code) parameter
coded_is code parameter = (code_tree code, refl, refl)

outcome_is : (code : ℕ) (parameter : Tree) → AreOutcome (element SEQUENCE (code_tree code ∷ parameter ∷ []) ∷ [])
outcome_is code parameter = inr (code_tree code ∷ parameter ∷ [], Number code, Some parameter, coded_is code (Some parameter), refl)

-- each component that is sent has the form of what was meant
pub component_is : (c : SentComponent) → SaneComponent c → IsWellFormed (component_tree c) (component_meant c)
component_is (Insert id imsi msisdn codes) h = (
  id_tree id,
  id_is id h.0,
  [],
  refl,
  _,
  coded_is INSERT_SUBSCRIBER_DATA
      (Some (insert_tree imsi msisdn codes)),
  refl,
)
component_is (Cancel id imsi cancellation) h = (id_tree id, id_is id h.0, [], refl, _, coded_is CANCEL_LOCATION (Some (cancel_tree imsi cancellation)), refl)
component_is (UpdateResult id hlr) h = (id_tree id, id_is id h.0, _, outcome_is UPDATE_LOCATION (update_result_tree hlr), refl)
component_is (PurgeResult id true) h = (id_tree id, id_is id h, _, outcome_is PURGE_MS purge_result_tree, refl)
component_is (PurgeResult id false) h = (id_tree id, id_is id h, [], inl refl, refl)
component_is (RouteResult id imsi msc lmsi) h = (id_tree id, id_is id h.0, _, outcome_is SEND_ROUTING_INFO_FOR_SM (route_result_tree imsi msc lmsi), refl)
component_is (SentError id code) h = (id_tree id, id_is id h.0, _, error_parameter code, coded_is code (error_parameter code), refl)

rejected_is : (i : Option ℤ) → IfThere IsInvokeId i → IsRejected (rejected_tree i) i
rejected_is None h = refl
rejected_is (Some id) h = id_is id h

pub reject_is : (r : Rejection) → SaneRejection r → IsWellFormed (reject_tree r) (reject_meant r)
reject_is r h = (rejected_tree r.id, rejected_is r.id h.0, refl)

component_heard : (c : SentComponent) → SaneComponent c → heard_of (component_tree c) ≡ heard (component_meant c)
component_heard c h = ap heard (well_formed_again (component_tree c) (component_meant c) (component_is c h))

reject_heard : (r : Rejection) → SaneRejection r → heard_of (reject_tree r) ≡ heard (reject_meant r)
reject_heard r h = ap heard (well_formed_again (reject_tree r) (reject_meant r) (reject_is r h))

alone_heard : (cs : List SentComponent) → Every SaneComponent cs → all_heard (map component_tree cs) ≡ map (λ c. heard (component_meant c)) cs
alone_heard [] h = refl
alone_heard (c ∷ cs) h = λ k. component_heard c h.0 k ∷ alone_heard cs h.1 k

trees_heard : (rs : List Rejection) (cs : List SentComponent) → Every SaneRejection rs → Every SaneComponent cs
    → all_heard (component_trees rs cs) ≡ components_heard rs cs
trees_heard [] cs hr hc = alone_heard cs hc
trees_heard (r ∷ rs) cs hr hc = λ k. reject_heard r hr.0 k ∷ trees_heard rs cs hr.1 hc k

are_heard : (rs : List Rejection) (cs : List SentComponent) → Every SaneRejection rs → Every SaneComponent cs
    → AreHeard (component_trees rs cs) (components_heard rs cs)
are_heard rs cs hr hc = subst (AreHeard (component_trees rs cs)) (trees_heard rs cs hr hc) (all_found (component_trees rs cs))

-- ---- portions

is_version_1 : AreVersion (version_tree ∷ [])
is_version_1 = inr (VERSION_1, refl, (7, 128, [], refl, leb-true 7 7 refl, leb-true 128 128 refl))

pub aarq_is : (name : List ℕ) → 1 ≤ length name → length name ≤ MAX_CONTEXT_NAME → IsDialogue (portion_tree (aarq_tree name)) (Aarq name)
aarq_is name some most = (aarq_tree name, (version_tree ∷ [], is_version_1, context_tree name, (refl, some, most), [], inl refl, refl), refl)

pub aare_is : (response : Response) → 1 ≤ length response.context → length response.context ≤ MAX_CONTEXT_NAME →
    IsDialogue (portion_tree (aare_tree response.context response.result response.diagnostic)) (Aare response)
aare_is response some most = (
  aare_tree response.context response.result response.diagnostic,
  (version_tree ∷ [], is_version_1, context_tree response.context, (refl, some, most), [], inl refl, refl),
  refl,
)

pub abrt_is : (source : ℕ) → source ≤ 1 → IsDialogue (portion_tree (abrt_tree source)) (Abrt source)
abrt_is source most = (abrt_tree source, ([], inl refl, most, refl), refl)

short_name : (c : Context) → (1 ≤ length (name_of c)) × (length (name_of c) ≤ MAX_CONTEXT_NAME)
short_name NetworkLocUp = (leb-true 1 7 refl, leb-true 7 MAX_CONTEXT_NAME refl)
short_name LocationCancellation = (leb-true 1 7 refl, leb-true 7 MAX_CONTEXT_NAME refl)
short_name SubscriberDataMngt = (leb-true 1 7 refl, leb-true 7 MAX_CONTEXT_NAME refl)
short_name ShortMsgGateway = (leb-true 1 7 refl, leb-true 7 MAX_CONTEXT_NAME refl)
short_name MsPurging = (leb-true 1 7 refl, leb-true 7 MAX_CONTEXT_NAME refl)

asking_is : (c : Context) → IsDialogue (asking c) (Aarq (name_of c))
asking_is c = let n = short_name c in aarq_is (name_of c) n.0 n.1

accepting_is : (c : Option Context) → IsPortion (λ r. Aare r) (option_map accepting c) (option_map accepted_heard c)
accepting_is None = tt
accepting_is (Some c) = let n = short_name c in aare_is (accepted_heard c) n.0 n.1

are_components : (ts : List Tree) → AreComponents (component_portion ts) ts
are_components [] = inl (refl, refl)
are_components (t ∷ ts) = inr refl

abbrev portions_with : Option Tree → List Tree → Portions
portions_with d ts = record { dialogue = d; components = ts }

asked_are : (c : Context) (ts : List Tree) → ArePortions (portion_trees (Some (asking c)) ts) (portions_with (Some (asking c)) ts)
asked_are c ts = record { ds = asking c ∷ []; cs = component_portion ts; whole = refl; dialogue = (refl, refl); components = are_components ts }

accepted_are : (c : Option Context) (ts : List Tree) → ArePortions (portion_trees (option_map accepting c) ts) (portions_with (option_map accepting c) ts)
accepted_are None ts = record { ds = []; cs = component_portion ts; whole = refl; dialogue = refl; components = are_components ts }
accepted_are (Some c) ts = record { ds = accepting c ∷ []; cs = component_portion ts; whole = refl; dialogue = (refl, refl); components = are_components ts }

reason_is : (why : Why) → AreReason (option_to_list (reason_tree why))
reason_is NoCause = inl refl
reason_is (Cause c) = inr (_, refl, inl refl)
reason_is (Refusing name) = inr (_, refl, inr refl)

-- ---- messages

abbrev message_sent : SentMessage → TcMessage
message_sent (SentBegin origin c cs) = tc.Begin origin (portions_with (Some (asking c)) (component_trees [] cs))
message_sent (SentContinue origin destination c rs cs) = tc.Continue origin destination (portions_with (option_map accepting c) (component_trees rs cs))
message_sent (SentEnd destination c rs cs) = tc.End destination (portions_with (option_map accepting c) (component_trees rs cs))
message_sent (SentAbort destination why) = tc.Abort destination

sent_is : (m : SentMessage) → HasIds m → IsMessage (tree_of m) (message_sent m)
sent_is (SentBegin origin c cs) ids = (_, asked_are c (component_trees [] cs), ids, refl)
sent_is (SentContinue origin destination c rs cs) ids = (_, accepted_are c (component_trees rs cs), ids.0, ids.1, refl)
sent_is (SentEnd destination c rs cs) ids = (_, accepted_are c (component_trees rs cs), ids, refl)
sent_is (SentAbort destination why) ids = (_, reason_is why, ids, refl)

pub sent_reads : (m : SentMessage) → SaneContent m → HasIds m → Reads (tree_of m) (message_heard m)
sent_reads (SentBegin origin c cs) h ids = (_, sent_is (SentBegin origin c cs) ids, asking_is c, are_heard [] cs tt h.1)
sent_reads (SentContinue origin destination c rs cs) h ids = (_, sent_is (SentContinue origin destination c rs cs) ids, accepting_is c, are_heard rs cs h.2 h.3)
sent_reads (SentEnd destination c rs cs) h ids = (_, sent_is (SentEnd destination c rs cs) ids, accepting_is c, are_heard rs cs h.1 h.2)
sent_reads (SentAbort destination why) h ids = sent_is (SentAbort destination why) ids

few_sent : (m : SentMessage) → length (trees_sent m) ≤ MAX_COMPONENTS → length (components_in (message_sent m)) ≤ MAX_COMPONENTS
few_sent (SentBegin origin c cs) h = h
few_sent (SentContinue origin destination c rs cs) h = h
few_sent (SentEnd destination c rs cs) h = h
few_sent (SentAbort destination why) h = h

-- what is sent is read as what was meant
pub sent_is_read : (m : SentMessage) → Readable m → IsVerdict (octets_of_sent m) (Read (message_heard m))
sent_is_read m h =
    let short = h.short in
    let levels = sent_levels m h.content in
    let size : length (octets_of_sent m) < 2 ^ 32 = omega arith in
    inr (
      tree_of m,
      record { are = sent_octets m h.content; spelled = sent_spells m h.content size; short = h.short; shallow = omega arith },
      reads_judged (tree_of m) (message_sent m) (message_heard m) (sent_is m h.ids) (sent_reads m h.content h.ids) (few_sent m h.few),
    )
