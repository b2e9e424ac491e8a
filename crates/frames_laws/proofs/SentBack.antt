-- What was sent, from its tree: each function undoes one of those that make the trees.
use Rattle.std.proofs.Common.{◌≡◌, ℕ, ℤ, true, false, cond, eqb, List, [], ◌∷◌, refl, ap, sym, ◌∙◌}
use Rattle.std.specs.Prelude.{Option, Some, None, map, option_map, option_to_list}
use Rattle.std.specs.Int.{w8, cast_signed, cast_unsigned}
use Rattle.std.proofs.lemmas.Int.{to_z-of_z}
use Rattle.x690.specs.declared.Tag.{Tag}
use Rattle.x690.specs.Tree.{Tree, Primitive, Constructed, trees, list_of, element}
use Rattle.x690.specs.Reading.{tag_of, children}
use Rattle.x690.proofs.Forests.{list_of-trees}
use Rattle.x690.proofs.Readings.{some_is}
use Rattle.hlr_types.specs.Tbcd.{unfilled}
use Rattle.hlr_types.proofs.TbcdLaws.{unfilled-tbcd}
use Rattle.machine.specs.Keys.{Every}
use Rattle.machine.specs.Received.{Side, General, OfInvoke, OfResult, OfError}
use Rattle.machine.specs.Sent.{Context, NetworkLocUp, LocationCancellation, SubscriberDataMngt, ShortMsgGateway, MsPurging, Rejection, CancellationType, UpdateProcedure, SubscriptionWithdraw, SentComponent, Insert, Cancel, UpdateResult, PurgeResult, RouteResult, SentError, Why, NoCause, Cause, Refusing, SentMessage, SentBegin, SentContinue, SentEnd, SentAbort}
use Rattle.machine.specs.Contexts.{name_of}
use Rattle.frames.specs.declared.tags.TheConstants.{NULL, DIALOGUE_PORTION, COMPONENT_PORTION}
use Rattle.machine.specs.declared.numbers.TheConstants.{UPDATE_LOCATION, PURGE_MS}
use Rattle.frames.specs.declared.numbers.TheConstants.{INSERT_SUBSCRIBER_DATA, UPDATE_PROCEDURE}
use Rattle.machine.specs.Bounds.{IfThere, IsInvokeId}
use Rattle.frames.specs.Sane.{SaneComponent, SaneRejection, SaneContent}
use Rattle.frames.specs.SentTrees.{error_tree, reject_tree, error_parameter, component_tree, teleservice_tree, asking, accepting, component_portion, portion_trees, component_trees, reason_tree, tree_of}

-- ---- parts of a tree

abbrev number : Tree → ℕ
number t = (tag_of t).number

abbrev content : Tree → List ℕ
content (Primitive tag octets) = octets
content (Constructed tag ts) = []

abbrev octet : List ℕ → ℕ
octet [] = 0
octet (n ∷ ns) = n

abbrev octet_in : Tree → ℕ
octet_in t = octet (content t)

abbrev nothing : Tree
nothing = Primitive NULL []

abbrev head : List Tree → Tree
head [] = nothing
head (t ∷ ts) = t

abbrev tail : List Tree → List Tree
tail [] = []
tail (t ∷ ts) = ts

-- the first with this number
abbrev find : ℕ → List Tree → Option Tree
find n [] = None
find n (t ∷ ts) = cond (eqb (number t) n) (Some t) (find n ts)

abbrev kids_of : Option Tree → List Tree
kids_of None = []
kids_of (Some t) = children t

-- ---- contents

abbrev id_from : Tree → ℤ
id_from t = cast_signed w8 (octet_in t)

abbrev address_from : List ℕ → List ℕ
address_from [] = []
address_from (n ∷ ns) = unfilled ns

abbrev codes_from : List Tree → List ℕ
codes_from ts = map octet_in ts

codes_back : (codes : List ℕ) → codes_from (list_of (trees (map teleservice_tree codes))) ≡ codes
codes_back codes = ap codes_from (list_of-trees (map teleservice_tree codes)) ∙ go codes
  where
    go : (cs : List ℕ) → codes_from (map teleservice_tree cs) ≡ cs
    go [] = refl
    go (c ∷ cs) = ap (λ (xs : List ℕ). c ∷ xs) (go cs)

pub id_back : (id : ℤ) → IsInvokeId id → cast_signed w8 (cast_unsigned w8 id) ≡ id
id_back id h = to_z-of_z w8 id h

-- ---- components

abbrev insert_from : ℤ → List Tree → SentComponent
insert_from id ts = Insert id (option_map (λ t. unfilled (content t)) (find 0 ts)) (option_map (λ t. address_from (content t)) (find 1 ts))
    (codes_from (kids_of (find 6 ts)))

abbrev cancellation_from : ℕ → CancellationType
cancellation_from n = cond (eqb n UPDATE_PROCEDURE) UpdateProcedure SubscriptionWithdraw

abbrev invoke_from : ℤ → ℕ → List Tree → SentComponent
invoke_from id code ts = cond (eqb code INSERT_SUBSCRIBER_DATA) (insert_from id ts)
    (Cancel id (unfilled (content (head ts))) (cancellation_from (octet_in (head (tail ts)))))

abbrev route_from : ℤ → List ℕ → List Tree → SentComponent
route_from id imsi ts = RouteResult id (unfilled imsi) (address_from (content (head ts))) (option_map content (find 4 (tail ts)))

abbrev result_from : ℤ → ℕ → List Tree → SentComponent
result_from id code ts =
    cond (eqb code UPDATE_LOCATION) (UpdateResult id (address_from (content (head ts))))
    (cond (eqb code PURGE_MS) (PurgeResult id true) (route_from id (content (head ts)) (children (head (tail ts)))))

abbrev outcome_from : ℤ → List Tree → SentComponent
outcome_from id [] = PurgeResult id false
outcome_from id (t ∷ ts) = result_from id (octet_in (head (children t))) (children (head (tail (children t))))

abbrev component_from : Tree → SentComponent
component_from t =
    let ts = children t in
    cond (eqb (number t) 1) (invoke_from (id_from (head ts)) (octet_in (head (tail ts))) (children (head (tail (tail ts)))))
    (cond (eqb (number t) 2) (outcome_from (id_from (head ts)) (tail ts)) (SentError (id_from (head ts)) (octet_in (head (tail ts)))))

pub component_back : (c : SentComponent) → SaneComponent c → component_from (component_tree c) ≡ c
component_back (Insert id None None []) h = λ k. Insert (id_back id h.0 k) (None) (None) []
component_back (Insert id None None (c ∷ cs)) h = λ k. Insert (id_back id h.0 k) (None) (None) (c ∷ codes_back cs k)
component_back (Insert id None (Some m) []) h = λ k. Insert (id_back id h.0 k) (None) (Some (unfilled-tbcd m h.2 k)) []
component_back (Insert id None (Some m) (c ∷ cs)) h = λ k. Insert (id_back id h.0 k) (None) (Some (unfilled-tbcd m h.2 k)) (c ∷ codes_back cs k)
component_back (Insert id (Some i) None []) h = λ k. Insert (id_back id h.0 k) (Some (unfilled-tbcd i h.1 k)) (None) []
component_back (Insert id (Some i) None (c ∷ cs)) h = λ k. Insert (id_back id h.0 k) (Some (unfilled-tbcd i h.1 k)) (None) (c ∷ codes_back cs k)
component_back (Insert id (Some i) (Some m) []) h = λ k. Insert (id_back id h.0 k) (Some (unfilled-tbcd i h.1 k)) (Some (unfilled-tbcd m h.2 k)) []
component_back (Insert id (Some i) (Some m) (c ∷ cs)) h = λ k. Insert (id_back id h.0 k) (Some (unfilled-tbcd i h.1 k)) (Some (unfilled-tbcd m h.2 k))
    (c ∷ codes_back cs k)
component_back (Cancel id imsi UpdateProcedure) h = λ k. Cancel (id_back id h.0 k) (unfilled-tbcd imsi h.1 k) UpdateProcedure
component_back (Cancel id imsi SubscriptionWithdraw) h = λ k. Cancel (id_back id h.0 k) (unfilled-tbcd imsi h.1 k) SubscriptionWithdraw
component_back (UpdateResult id hlr) h = λ k. UpdateResult (id_back id h.0 k) (unfilled-tbcd hlr h.1 k)
component_back (PurgeResult id true) h = λ k. PurgeResult (id_back id h k) true
component_back (PurgeResult id false) h = λ k. PurgeResult (id_back id h k) false
component_back (RouteResult id imsi msc None) h = λ k. RouteResult (id_back id h.0 k) (unfilled-tbcd imsi h.1 k) (unfilled-tbcd msc h.2 k) None
component_back (RouteResult id imsi msc (Some lmsi)) h = λ k. RouteResult (id_back id h.0 k) (unfilled-tbcd imsi h.1 k) (unfilled-tbcd msc h.2 k) (Some lmsi)
component_back (SentError id code) h = go (error_parameter code)
  where
    go : (p : Option Tree) → component_from (error_tree id code p) ≡ SentError id code
    go p = λ k. SentError (id_back id h.0 k) code

-- ---- Rejects

abbrev side_from : ℕ → Side
side_from n = cond (eqb n 0) General (cond (eqb n 1) OfInvoke (cond (eqb n 2) OfResult OfError))

abbrev rejected_from : Tree → Option ℤ
rejected_from t = cond (eqb (number t) 5) None (Some (id_from t))

abbrev reject_of : Tree → Tree → Rejection
reject_of r p = record { id = rejected_from r; side = side_from (number p); problem = octet_in p }

abbrev reject_from : Tree → Rejection
reject_from t = reject_of (head (children t)) (head (tail (children t)))

made : Option ℤ → Side → ℕ → Rejection
made i s p = record { id = i; side = s; problem = p }

pub reject_back : (r : Rejection) → SaneRejection r → reject_from (reject_tree r) ≡ r
reject_back r h = go r.id r.side r.problem h.0
  where
    go : (i : Option ℤ) (s : Side) (p : ℕ) → IfThere IsInvokeId i
        → reject_from (reject_tree (record { id = i; side = s; problem = p })) ≡ record { id = i; side = s; problem = p }
    go None General p h = refl
    go (Some id) General p h = λ k. record { id = Some (id_back id h k); side = General; problem = p }
    go None OfInvoke p h = refl
    go (Some id) OfInvoke p h = λ k. record { id = Some (id_back id h k); side = OfInvoke; problem = p }
    go None OfResult p h = refl
    go (Some id) OfResult p h = λ k. record { id = Some (id_back id h k); side = OfResult; problem = p }
    go None OfError p h = refl
    go (Some id) OfError p h = λ k. record { id = Some (id_back id h k); side = OfError; problem = p }

-- ---- lists of both

abbrev rejects_from : List Tree → List Rejection
rejects_from [] = []
rejects_from (t ∷ ts) = cond (eqb (number t) 4) (reject_from t ∷ rejects_from ts) (rejects_from ts)

abbrev components_from : List Tree → List SentComponent
components_from [] = []
components_from (t ∷ ts) = cond (eqb (number t) 4) (components_from ts) (component_from t ∷ components_from ts)

not_a_reject : (c : SentComponent) → eqb (number (component_tree c)) 4 ≡ false
not_a_reject (Insert id imsi msisdn codes) = refl
not_a_reject (Cancel id imsi cancellation) = refl
not_a_reject (UpdateResult id hlr) = refl
not_a_reject (PurgeResult id true) = refl
not_a_reject (PurgeResult id false) = refl
not_a_reject (RouteResult id imsi msc lmsi) = refl
not_a_reject (SentError id code) = refl

no_rejects : (cs : List SentComponent) → rejects_from (map component_tree cs) ≡ []
no_rejects [] = refl
no_rejects (c ∷ cs) = ap (λ b. cond b (reject_from (component_tree c) ∷ rejects_from (map component_tree cs)) (rejects_from (map component_tree cs)))
    (not_a_reject c) ∙ no_rejects cs

rejects_back : (rs : List Rejection) (cs : List SentComponent) → Every SaneRejection rs → rejects_from (component_trees rs cs) ≡ rs
rejects_back [] cs h = no_rejects cs
rejects_back (r ∷ rs) cs h = λ k. reject_back r h.0 k ∷ rejects_back rs cs h.1 k

alone_back : (cs : List SentComponent) → Every SaneComponent cs → components_from (map component_tree cs) ≡ cs
alone_back [] h = refl
alone_back (c ∷ cs) h =
    ap (λ b. cond b (components_from (map component_tree cs)) (component_from (component_tree c) ∷ components_from (map component_tree cs))) (not_a_reject c)
    ∙ (λ k. component_back c h.0 k ∷ alone_back cs h.1 k)

components_back : (rs : List Rejection) (cs : List SentComponent) → Every SaneComponent cs → components_from (component_trees rs cs) ≡ cs
components_back [] cs h = alone_back cs h
components_back (r ∷ rs) cs h = components_back rs cs h

-- ---- portions

abbrev context_from : List ℕ → Context
context_from (a ∷ b ∷ c ∷ d ∷ e ∷ x ∷ v) =
    cond (eqb x 0x01) NetworkLocUp (cond (eqb x 0x02) LocationCancellation (cond (eqb x 0x10) SubscriberDataMngt (cond (eqb x 0x14) ShortMsgGateway MsPurging)))
context_from _ = NetworkLocUp

-- the name in a dialogue portion
abbrev apdu_in : Tree → Tree
apdu_in t = head (children (head (tail (children (head (children t))))))

abbrev name_from : Tree → List ℕ
name_from t = content (head (children (head (tail (children (apdu_in t))))))

abbrev parts_from : List Tree → List Tree
parts_from ts = kids_of (find 12 ts)

abbrev accepted_from : List Tree → Option Context
accepted_from ts = option_map (λ t. context_from (name_from t)) (find 11 ts)

parts_back : (d : Option Tree) (ts : List Tree) → ((t : Tree) → d ≡ Some t → tag_of t ≡ DIALOGUE_PORTION) → parts_from (portion_trees d ts) ≡ ts
parts_back None [] h = refl
parts_back None (t ∷ ts) h = ap (λ (us : List Tree). t ∷ us) (list_of-trees ts)
parts_back (Some d) [] h = ap (λ (g : Tag). kids_of (cond (eqb g.number 12) (Some d) None)) (h d refl)
parts_back (Some d) (t ∷ ts) h =
    ap (λ (g : Tag). kids_of (cond (eqb g.number 12) (Some d) (Some (element COMPONENT_PORTION (t ∷ ts))))) (h d refl)
    ∙ ap (λ (us : List Tree). t ∷ us) (list_of-trees ts)

is_portion : (c : Option Context) (t : Tree) → option_map accepting c ≡ Some t → tag_of t ≡ DIALOGUE_PORTION
is_portion None t e = absurd cc
is_portion (Some c) t e = ap tag_of (sym (some_is e))

context_back : (c : Context) → context_from (name_of c) ≡ c
context_back NetworkLocUp = refl
context_back LocationCancellation = refl
context_back SubscriberDataMngt = refl
context_back ShortMsgGateway = refl
context_back MsPurging = refl

accepted_back : (c : Option Context) (ts : List Tree) → accepted_from (portion_trees (option_map accepting c) ts) ≡ c
accepted_back None [] = refl
accepted_back None (t ∷ ts) = refl
accepted_back (Some c) ts = ap Some (context_back c)

-- ---- messages

abbrev why_from : List Tree → Why
why_from [] = NoCause
why_from (t ∷ ts) = cond (eqb (number t) 10) (Cause (octet_in t)) (Refusing (name_from t))

why_back : (why : Why) → why_from (list_of (trees (option_to_list (reason_tree why)))) ≡ why
why_back NoCause = refl
why_back (Cause c) = refl
why_back (Refusing name) = refl

abbrev ending_from : List ℕ → List Tree → SentMessage
ending_from d ts = SentEnd d (accepted_from ts) (rejects_from (parts_from ts)) (components_from (parts_from ts))

abbrev going_from : List ℕ → List ℕ → List Tree → SentMessage
going_from o d ts = SentContinue o d (accepted_from ts) (rejects_from (parts_from ts)) (components_from (parts_from ts))

abbrev beginning_from : List ℕ → Tree → List Tree → SentMessage
beginning_from o t ts = SentBegin o (context_from (name_from t)) (components_from (parts_from ts))

abbrev message_from : Tree → SentMessage
message_from t =
    let ts = children t in
    cond (eqb (number t) 2) (beginning_from (content (head ts)) (head (tail ts)) (tail (tail ts)))
    (cond (eqb (number t) 5) (going_from (content (head ts)) (content (head (tail ts))) (tail (tail ts)))
    (cond (eqb (number t) 4) (ending_from (content (head ts)) (tail ts))
    (SentAbort (content (head ts)) (why_from (tail ts)))))

ending_back : (d : List ℕ) (c : Option Context) (rs : List Rejection) (cs : List SentComponent) → Every SaneRejection rs → Every SaneComponent cs
    → ending_from d (portion_trees (option_map accepting c) (component_trees rs cs)) ≡ SentEnd d c rs cs
ending_back d c rs cs hr hc =
    let ts = component_trees rs cs in
    let parts = parts_back (option_map accepting c) ts (is_portion c) in
    λ k. SentEnd d (accepted_back c ts k) ((ap rejects_from parts ∙ rejects_back rs cs hr) k) ((ap components_from parts ∙ components_back rs cs hc) k)

going_back : (o d : List ℕ) (c : Option Context) (rs : List Rejection) (cs : List SentComponent) → Every SaneRejection rs → Every SaneComponent cs
    → going_from o d (portion_trees (option_map accepting c) (component_trees rs cs)) ≡ SentContinue o d c rs cs
going_back o d c rs cs hr hc =
    let ts = component_trees rs cs in
    let parts = parts_back (option_map accepting c) ts (is_portion c) in
    λ k. SentContinue o d (accepted_back c ts k) ((ap rejects_from parts ∙ rejects_back rs cs hr) k) ((ap components_from parts ∙ components_back rs cs hc) k)

no_portion : (t : Tree) → None ≡ Some t → tag_of t ≡ DIALOGUE_PORTION
no_portion t e = absurd cc

beginning_back : (o : List ℕ) (t : Tree) (c : Context) (cs : List SentComponent) → name_from t ≡ name_of c → Every SaneComponent cs
    → beginning_from o t (component_portion (component_trees [] cs)) ≡ SentBegin o c cs
beginning_back o t c cs e h =
    let ts = component_trees [] cs in
    λ k. SentBegin o ((ap context_from e ∙ context_back c) k) ((ap components_from (parts_back None ts no_portion) ∙ components_back [] cs h) k)

pub message_back : (m : SentMessage) → SaneContent m → message_from (tree_of m) ≡ m
message_back (SentBegin o c cs) h = ap (beginning_from o (asking c)) (list_of-trees (component_portion (component_trees [] cs)))
    ∙ beginning_back o (asking c) c cs refl h.1
message_back (SentContinue o d c rs cs) h = ap (going_from o d) (list_of-trees (portion_trees (option_map accepting c) (component_trees rs cs)))
    ∙ going_back o d c rs cs h.2 h.3
message_back (SentEnd d c rs cs) h = ap (ending_from d) (list_of-trees (portion_trees (option_map accepting c) (component_trees rs cs)))
    ∙ ending_back d c rs cs h.1 h.2
message_back (SentAbort d why) h = ap (SentAbort d) (why_back why)

-- one tree was sent for one message
pub one_tree_sent : (m n : SentMessage) → SaneContent m → SaneContent n → tree_of m ≡ tree_of n → m ≡ n
one_tree_sent m n h k e = sym (message_back m h) ∙ ap message_from e ∙ message_back n k
