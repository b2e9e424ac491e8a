-- What the machine sends is short.
use Rattle.std.proofs.Common.{◌≡◌, ℕ, ℤ, ◌+◌, ◌*◌, ◌≤◌, Bool, true, false, eqb, cond, List, [], ◌∷◌, ◌++◌, length, arith, length-append}
use Rattle.std.specs.Prelude.{Option, Some, None, map, option_map, option_to_list}
use Rattle.x690.specs.Tree.{Tree, Trees, Primitive, Constructed, Empty, More, trees, element}
use Rattle.x690.specs.Spelling.{enc, enc_all}
use Rattle.x690.proofs.Spellings.{definite-bound}
use Rattle.hlr_types.specs.Tbcd.{tbcd}
use Rattle.hlr_types.proofs.TbcdLemmas.{length_tbcd}
use Rattle.machine.specs.Keys.{Every}
use Rattle.machine.specs.Received.{OfUser}
use Rattle.machine.specs.Sent.{Context, NetworkLocUp, LocationCancellation, SubscriberDataMngt, ShortMsgGateway, MsPurging, Rejection, SentComponent, Insert, Cancel, UpdateResult, PurgeResult, RouteResult, SentError, NoCause, Cause, Refusing, SentMessage, SentBegin, SentContinue, SentEnd, SentAbort}
use Rattle.machine.specs.Contexts.{name_of}
use Rattle.machine.specs.Octets.{AreOctets}
use Rattle.machine.specs.Bounds.{AreDigits, IfThere, SentComponentInBounds, OwnInBounds, SentInBounds}
use Rattle.machine.specs.declared.numbers.TheConstants.{UPDATE_LOCATION, SEND_ROUTING_INFO_FOR_SM, ROAMING_NOT_ALLOWED}
use Rattle.x690.specs.declared.limits.TheConstants.{MAX_OCTETS}
use Rattle.frames.specs.declared.numbers.TheConstants.{INSERT_SUBSCRIBER_DATA, CANCEL_LOCATION, ACCEPTED, NO_DIAGNOSTIC, REJECT_PERMANENT, CONTEXT_NAME_NOT_SUPPORTED, PLMN_ROAMING_NOT_ALLOWED}
use Rattle.frames.specs.declared.tags.TheConstants.{SEQUENCE, ENUMERATED, OCTET_STRING, INSERT_IMSI}
use Rattle.frames.specs.DialogueForms.{portion_tree}
use Rattle.frames.specs.SentTrees.{invoke_tree, result_tree, cancel_tree, update_result_tree, route_result_tree, rejected_tree, reject_tree, subscriber_trees, teleservice_tree, teleservice_trees, insert_tree, error_parameter, component_tree, aare_tree, asking, accepting, component_portion, portion_trees, component_trees, tree_of, octets_of_sent}

-- ---- no element takes more than eleven octets besides its contents

abbrev mutual
  weight : Tree → ℕ
  weight (Primitive tag contents) = length contents + 11
  weight (Constructed tag ts) = weights ts + 11

  weights : Trees → ℕ
  weights Empty = 0
  weights (More t ts) = weight t + weights ts

mutual
  enc_weight : (t : Tree) → length (enc t) ≤ weight t
  enc_weight (Primitive tag contents) = definite-bound tag contents
  enc_weight (Constructed tag ts) = let a = definite-bound tag (enc_all ts) in let b = all_weight ts in omega arith

  all_weight : (ts : Trees) → length (enc_all ts) ≤ weights ts
  all_weight Empty = omega arith
  all_weight (More t ts) = let a = enc_weight t in let b = all_weight ts in omega (arith, length-append (enc t) (enc_all ts))

abbrev list_weight : List Tree → ℕ
list_weight ts = weights (trees ts)

weight_append : (ts us : List Tree) → list_weight (ts ++ us) ≤ list_weight ts + list_weight us
weight_append [] us = omega arith
weight_append (t ∷ ts) us = let a = weight_append ts us in omega arith

-- ---- components

digits_size : (ds : List ℕ) → AreDigits ds → length (tbcd ds) ≤ 8
digits_size ds h = let a = length_tbcd ds in let b = h.1 in omega arith

codes_weight : (codes : List ℕ) → list_weight (map teleservice_tree codes) ≤ 12 * length codes
codes_weight [] = omega arith
codes_weight (c ∷ codes) = let a = codes_weight codes in omega arith

list_size : (codes : List ℕ) → length codes ≤ 8 → list_weight (teleservice_trees codes) ≤ 107
list_size [] h = omega arith
list_size (c ∷ codes) h = let a = codes_weight codes in omega arith

subscriber_size : (msisdn : Option (List ℕ)) → IfThere AreDigits msisdn → list_weight (subscriber_trees msisdn) ≤ 32
subscriber_size None h = omega arith
subscriber_size (Some ds) h = let a = digits_size ds h in omega arith

abbrev imsi_trees : Option (List ℕ) → List Tree
imsi_trees imsi = option_to_list (option_map (λ ds. Primitive INSERT_IMSI (tbcd ds)) imsi)

imsi_size : (imsi : Option (List ℕ)) → IfThere AreDigits imsi → list_weight (imsi_trees imsi) ≤ 19
imsi_size None h = omega arith
imsi_size (Some ds) h = let a = digits_size ds h in omega arith

insert_size : (imsi msisdn : Option (List ℕ)) (codes : List ℕ) → IfThere AreDigits imsi → IfThere AreDigits msisdn → length codes ≤ 8
    → weight (insert_tree imsi msisdn codes) ≤ 169
insert_size imsi msisdn codes i m c =
    let a = imsi_size imsi i in
    let b = subscriber_size msisdn m in
    let d = list_size codes c in
    let e = weight_append (imsi_trees imsi) (subscriber_trees msisdn ++ teleservice_trees codes) in
    let f = weight_append (subscriber_trees msisdn) (teleservice_trees codes) in
    omega arith

invoke_size : (id : ℤ) (operation : ℕ) (p : Tree) → weight (invoke_tree id operation p) ≡ weight p + 35
invoke_size id operation p = omega arith

result_size : (id : ℤ) (operation : ℕ) (p : Tree) → weight (result_tree id operation p) ≡ weight p + 46
result_size id operation p = omega arith

lmsi_size : (lmsi : Option (List ℕ)) → IfThere (λ l. AreOctets l × (length l ≡ 4)) lmsi
    → list_weight (option_to_list (option_map (Primitive OCTET_STRING) lmsi)) ≤ 15
lmsi_size None h = omega arith
lmsi_size (Some l) h = let a = h.1 in omega arith

error_size : (code : ℕ) → list_weight (option_to_list (error_parameter code)) ≤ 23
error_size code = go (eqb code ROAMING_NOT_ALLOWED)
  where
    go : (b : Bool) → list_weight (option_to_list (cond b (Some (element SEQUENCE (Primitive ENUMERATED (PLMN_ROAMING_NOT_ALLOWED ∷ []) ∷ []))) None)) ≤ 23
    go true = omega arith
    go false = omega arith

component_size : (c : SentComponent) → SentComponentInBounds c → weight (component_tree c) ≤ 240
component_size (Insert id imsi msisdn codes) h = let a = insert_size imsi msisdn codes h.1 h.2 h.4 in let b = invoke_size id INSERT_SUBSCRIBER_DATA
    (insert_tree imsi msisdn codes) in omega arith
component_size (Cancel id imsi cancellation) h = let a = digits_size imsi h.1 in let b = invoke_size id CANCEL_LOCATION
    (cancel_tree imsi cancellation) in omega arith
component_size (UpdateResult id hlr) h = let a = digits_size hlr h.1 in let b = result_size id UPDATE_LOCATION (update_result_tree hlr) in omega arith
component_size (PurgeResult id true) h = omega arith
component_size (PurgeResult id false) h = omega arith
component_size (RouteResult id imsi msc lmsi) h =
    let a = digits_size imsi h.1 in
    let b = digits_size msc h.2 in
    let c = lmsi_size lmsi h.3 in
    let d = result_size id SEND_ROUTING_INFO_FOR_SM (route_result_tree imsi msc lmsi) in
    omega arith
component_size (SentError id code) h = let a = error_size code in omega arith

rejected_size : (i : Option ℤ) → weight (rejected_tree i) ≤ 12
rejected_size None = omega arith
rejected_size (Some id) = omega arith

reject_size : (r : Rejection) → weight (reject_tree r) ≤ 35
reject_size r = let a = rejected_size r.id in omega arith

own_size : (cs : List SentComponent) → Every SentComponentInBounds cs → list_weight (map component_tree cs) ≤ 240 * length cs
own_size [] h = omega arith
own_size (c ∷ cs) h = let a = component_size c h.0 in let b = own_size cs h.1 in omega arith

rejects_size : (rs : List Rejection) → list_weight (map reject_tree rs) ≤ 35 * length rs
rejects_size [] = omega arith
rejects_size (r ∷ rs) = let a = reject_size r in let b = rejects_size rs in omega arith

components_size : (rs : List Rejection) (cs : List SentComponent) → length rs ≤ 16 → OwnInBounds cs → list_weight (component_trees rs cs) ≤ 1520
components_size rs cs few own =
    let a = rejects_size rs in
    let b = own_size cs own.0 in
    let c = weight_append (map reject_tree rs) (map component_tree cs) in
    let d = own.1 in
    omega arith

-- ---- portions

component_portion_size : (ts : List Tree) → list_weight (component_portion ts) ≤ list_weight ts + 11
component_portion_size [] = omega arith
component_portion_size (t ∷ ts) = omega arith

portions_size : (d : Option Tree) (ts : List Tree) → list_weight (portion_trees d ts) ≤ list_weight (option_to_list d) + list_weight ts + 11
portions_size d ts = let a = weight_append (option_to_list d) (component_portion ts) in let b = component_portion_size ts in omega arith

name_size : (c : Context) → length (name_of c) ≤ 7
name_size NetworkLocUp = omega arith
name_size LocationCancellation = omega arith
name_size SubscriberDataMngt = omega arith
name_size ShortMsgGateway = omega arith
name_size MsPurging = omega arith

asking_size : (c : Context) → weight (asking c) ≤ 200
asking_size c = let a = name_size c in omega arith

response_size : (name : List ℕ) (r d : ℕ) → weight (portion_tree (aare_tree name r (OfUser d))) ≤ length name + 168
response_size name r d = omega arith

accepting_size : (c : Option Context) → list_weight (option_to_list (option_map accepting c)) ≤ 200
accepting_size None = omega arith
accepting_size (Some c) = let a = name_size c in let b = response_size (name_of c) ACCEPTED NO_DIAGNOSTIC in omega arith

-- ---- messages

sent_weight : (m : SentMessage) → SentInBounds m → weight (tree_of m) ≤ MAX_OCTETS
sent_weight (SentBegin origin c cs) h =
    let a = (h.0).count.most in
    let b = components_size [] cs (omega arith) h.1 in
    let d = portions_size (Some (asking c)) (component_trees [] cs) in
    let e = asking_size c in
    omega arith
sent_weight (SentContinue origin destination c rs cs) h =
    let a = (h.0).count.most in
    let a' = (h.1).count.most in
    let b = components_size rs cs h.2.1 h.3 in
    let d = portions_size (option_map accepting c) (component_trees rs cs) in
    let e = accepting_size c in
    omega arith
sent_weight (SentEnd destination c rs cs) h =
    let a = (h.0).count.most in
    let b = components_size rs cs h.1.1 h.2 in
    let d = portions_size (option_map accepting c) (component_trees rs cs) in
    let e = accepting_size c in
    omega arith
sent_weight (SentAbort destination NoCause) h = let a = (h.0).count.most in omega arith
sent_weight (SentAbort destination (Cause cause)) h = let a = (h.0).count.most in omega arith
sent_weight (SentAbort destination (Refusing name)) h =
    let a = (h.0).count.most in
    let b = response_size name REJECT_PERMANENT CONTEXT_NAME_NOT_SUPPORTED in
    let c = h.1.1 in
    omega arith

pub sent_size : (m : SentMessage) → SentInBounds m → length (octets_of_sent m) ≤ MAX_OCTETS
unfolding octets_of_sent
sent_size m h = let a = enc_weight (tree_of m) in let b = sent_weight m h in omega arith
