-- What is sent has tags that elements can have, octets as contents, and at most eight levels. So its octets are octets, they
-- spell it, and they determine what was sent.
use Rattle.std.proofs.Common.{◌≡◌, ℕ, ℤ, ◌-◌, ◌^◌, ◌<◌, ◌≤◌, Bool, true, false, ◌&&◌, ltb, leb, max, cond, eqb, List, [], ◌∷◌, ◌++◌, length, refl, sym, subst, arith}
use Rattle.std.specs.Prelude.{Option, Some, None, map, option_map, option_to_list}
use Rattle.std.specs.Int.{w8, cast_unsigned}
use Rattle.std.proofs.lemmas.Bool.{ltb-true, leb-true}
use Rattle.std.proofs.Math.Facts.{Fits-of_z, Fits-lt-pow}
use Rattle.x690.specs.declared.Tag.{Tag}
use Rattle.x690.specs.Identifier.{IsTag, leading}
use Rattle.x690.specs.Tags.{same_bool}
use Rattle.machine.specs.Octets.{AreOctets}
use Rattle.x690.specs.Tree.{Tree, Trees, Primitive, Constructed, Empty, More, element, trees, levels, levels_of_all, HasTags, AllHaveTags, HasOctets, AllHaveOctets}
use Rattle.x690.specs.Spelling.{Spells}
use Rattle.x690.proofs.Encoding.{enc_is_octets}
use Rattle.x690.proofs.Readings.{both_true}
use Rattle.x690.proofs.Spellings.{enc_spells, Spells-unique}
use Rattle.hlr_types.specs.Tbcd.{tbcd}
use Rattle.hlr_types.specs.Identities.{address_octets}
use Rattle.machine.specs.Keys.{Every}
use Rattle.machine.specs.Received.{Side, General, OfInvoke, OfResult, OfError, OfUser}
use Rattle.machine.specs.Sent.{Context, NetworkLocUp, LocationCancellation, SubscriberDataMngt, ShortMsgGateway, MsPurging, Rejection, UpdateProcedure, SubscriptionWithdraw, SentComponent, Insert, Cancel, UpdateResult, PurgeResult, RouteResult, SentError, NoCause, Cause, Refusing, SentMessage, SentBegin, SentContinue, SentEnd, SentAbort}
use Rattle.machine.specs.Contexts.{name_of}
use Rattle.frames.specs.declared.tags.TheConstants.{OCTET_STRING, ENUMERATED, INSERT_IMSI, SEQUENCE}
use Rattle.machine.specs.declared.numbers.TheConstants.{UPDATE_LOCATION, PURGE_MS, SEND_ROUTING_INFO_FOR_SM, ROAMING_NOT_ALLOWED}
use Rattle.frames.specs.declared.numbers.TheConstants.{SERVICE_GRANTED, INSERT_SUBSCRIBER_DATA, CANCEL_LOCATION, UPDATE_PROCEDURE, SUBSCRIPTION_WITHDRAW, DIALOGUE_AS_ID, VERSION_1, PLMN_ROAMING_NOT_ALLOWED, ACCEPTED, REJECT_PERMANENT, NO_DIAGNOSTIC, CONTEXT_NAME_NOT_SUPPORTED}
use Rattle.machine.specs.Bounds.{IfThere, IsInvokeId}
use Rattle.frames.specs.Sane.{AreDecimal, SaneComponent, SaneRejection, SaneContent, Sane}
use Rattle.frames.specs.SentTrees.{rejected_tree, reject_tree, subscriber_trees, teleservice_tree, teleservice_trees, error_parameter, component_tree, aare_tree, asking, accepting, component_portion, portion_trees, component_trees, tree_of, octets_of_sent}
use Rattle.frames.specs.DialogueForms.{portion_tree}
use Rattle.frames_laws.proofs.SentBack.{one_tree_sent}
use Rattle.frames_laws.proofs.VerdictLaws.{written}

-- ---- one element

abbrev pub is_tag : Bool → Tag → Bool
is_tag c tag = same_bool tag.constructed c && (ltb tag.number (2 ^ 28) && ltb 0 (leading tag tag.number))

-- with at most this many levels
abbrev mutual
  Fine : Tree → ℕ → Type 0
  Fine (Primitive tag octets) most = (is_tag false tag ≡ true) × AreOctets octets × (leb 1 most ≡ true)
  Fine (Constructed tag ts) most = (is_tag true tag ≡ true) × (leb 1 most ≡ true) × AllFine ts (most - 1)

  AllFine : Trees → ℕ → Type 0
  AllFine Empty most = Unit {0}
  AllFine (More t ts) most = Fine t most × AllFine ts most

abbrev ListFine : ℕ → List Tree → Type 0
ListFine most ts = AllFine (trees ts) most

same_is : (a b : Bool) → same_bool a b ≡ true → a ≡ b
same_is true true e = refl
same_is true false e = absurd cc
same_is false true e = absurd cc
same_is false false e = refl

pub tag_is : (c : Bool) (tag : Tag) → is_tag c tag ≡ true → IsTag c tag
tag_is c tag e =
    let (kind, rest) = both_true (same_bool tag.constructed c) (ltb tag.number (2 ^ 28) && ltb 0 (leading tag tag.number)) e in
    let (small, some) = both_true (ltb tag.number (2 ^ 28)) (ltb 0 (leading tag tag.number)) rest in
    record { kind = same_is tag.constructed c kind; small = ltb-true _ _ small; no_end = ltb-true _ _ some }

mutual
  fine_tags : (t : Tree) (k : ℕ) → Fine t k → HasTags t
  fine_tags (Primitive tag octets) k h = tag_is false tag h.0
  fine_tags (Constructed tag ts) k h = (tag_is true tag h.0, all_tags ts (k - 1) h.2)

  all_tags : (ts : Trees) (k : ℕ) → AllFine ts k → AllHaveTags ts
  all_tags Empty k h = tt
  all_tags (More t ts) k h = (fine_tags t k h.0, all_tags ts k h.1)

mutual
  fine_octets : (t : Tree) (k : ℕ) → Fine t k → HasOctets t
  fine_octets (Primitive tag octets) k h = h.1
  fine_octets (Constructed tag ts) k h = all_octets ts (k - 1) h.2

  all_octets : (ts : Trees) (k : ℕ) → AllFine ts k → AllHaveOctets ts
  all_octets Empty k h = tt
  all_octets (More t ts) k h = (fine_octets t k h.0, all_octets ts k h.1)

max_most : (a b k : ℕ) → a ≤ k → b ≤ k → max a b ≤ k
max_most a b k h g = omega arith

mutual
  fine_levels : (t : Tree) (k : ℕ) → Fine t k → levels t ≤ k
  fine_levels (Primitive tag octets) k h = leb-true 1 k h.2
  fine_levels (Constructed tag ts) k h = let one = leb-true 1 k h.1 in let rest = all_levels ts (k - 1) h.2 in omega arith

  all_levels : (ts : Trees) (k : ℕ) → AllFine ts k → levels_of_all ts ≤ k
  all_levels Empty k h = omega arith
  all_levels (More t ts) k h = max_most (levels t) (levels_of_all ts) k (fine_levels t k h.0) (all_levels ts k h.1)

-- ---- lists

fine_append : (k : ℕ) (ts us : List Tree) → ListFine k ts → ListFine k us → ListFine k (ts ++ us)
fine_append k [] us h g = g
fine_append k (t ∷ ts) us h g = (h.0, fine_append k ts us h.1 g)

fine_map : {A : Type 0} (k : ℕ) (P : A → Type 0) (f : A → Tree) → ((a : A) → P a → Fine (f a) k) → (xs : List A) → Every P xs → ListFine k (map f xs)
fine_map k P f fine [] h = tt
fine_map k P f fine (a ∷ xs) h = (fine a h.0, fine_map k P f fine xs h.1)

-- ---- contents

one : (n : ℕ) → n < 256 → AreOctets (n ∷ [])
one n h = (h, tt)

id_octet : (id : ℤ) → IsInvokeId id → cast_unsigned w8 id < 256
id_octet id h = Fits-lt-pow {w = w8} (Fits-of_z {w = w8} {z = id} h)

id_octets : (id : ℤ) → IsInvokeId id → AreOctets (cast_unsigned w8 id ∷ [])
id_octets id h = (id_octet id h, tt)

tbcd_octets : (ds : List ℕ) → AreDecimal ds → AreOctets (tbcd ds)
tbcd_octets [] h = tt
tbcd_octets (d ∷ []) h = let a = h.0 in (omega arith, tt)
tbcd_octets (d ∷ e ∷ ds) h = let a = h.0 in let b = h.1.0 in (omega arith, tbcd_octets ds h.1.1)

address_are : (ds : List ℕ) → AreDecimal ds → AreOctets (address_octets ds)
address_are ds h = (ltb-true _ 256 refl, tbcd_octets ds h)

-- ---- components

teleservices_fine : (codes : List ℕ) → AreOctets codes → ListFine 3 (map teleservice_tree codes)
teleservices_fine [] h = tt
teleservices_fine (code ∷ codes) h = ((refl, one code h.0, refl), teleservices_fine codes h.1)

list_fine : (codes : List ℕ) → AreOctets codes → ListFine 4 (teleservice_trees codes)
list_fine [] h = tt
list_fine (code ∷ codes) h = ((refl, refl, ((refl, one code h.0, refl), teleservices_fine codes h.1)), tt)

subscriber_fine : (msisdn : Option (List ℕ)) → IfThere AreDecimal msisdn → ListFine 4 (subscriber_trees msisdn)
subscriber_fine None h = tt
subscriber_fine (Some ds) h = ((refl, address_are ds h, refl), ((refl, written (SERVICE_GRANTED ∷ []) refl, refl), tt))

abbrev imsi_trees : Option (List ℕ) → List Tree
imsi_trees imsi = option_to_list (option_map (λ digits. Primitive INSERT_IMSI (tbcd digits)) imsi)

imsi_fine : (imsi : Option (List ℕ)) → IfThere AreDecimal imsi → ListFine 4 (imsi_trees imsi)
imsi_fine None h = tt
imsi_fine (Some ds) h = ((refl, tbcd_octets ds h, refl), tt)

insert_fine : (imsi msisdn : Option (List ℕ)) (codes : List ℕ) → IfThere AreDecimal imsi → IfThere AreDecimal msisdn → AreOctets codes
    → ListFine 4 (imsi_trees imsi ++ (subscriber_trees msisdn ++ teleservice_trees codes))
insert_fine imsi msisdn codes i m c = fine_append 4 (imsi_trees imsi) (subscriber_trees msisdn ++ teleservice_trees codes) (imsi_fine imsi i)
    (fine_append 4 (subscriber_trees msisdn) (teleservice_trees codes) (subscriber_fine msisdn m) (list_fine codes c))

lmsi_fine : (lmsi : Option (List ℕ)) → IfThere AreOctets lmsi → ListFine 2 (option_to_list (option_map (Primitive OCTET_STRING) lmsi))
lmsi_fine None h = tt
lmsi_fine (Some octets) h = ((refl, h, refl), tt)

error_fine : (code : ℕ) → ListFine 5 (option_to_list (error_parameter code))
error_fine code = go (eqb code ROAMING_NOT_ALLOWED)
  where
    go : (b : Bool) → ListFine 5 (option_to_list (cond b (Some (element SEQUENCE (Primitive ENUMERATED (PLMN_ROAMING_NOT_ALLOWED ∷ []) ∷ []))) None))
    go true = ((refl, refl, ((refl, written (PLMN_ROAMING_NOT_ALLOWED ∷ []) refl, refl), tt)), tt)
    go false = tt

component_fine : (c : SentComponent) → SaneComponent c → Fine (component_tree c) 6
component_fine (Insert id imsi msisdn codes) h = (
  refl,
  refl,
  (
    (refl, id_octets id h.0, refl),
    ((refl, written (INSERT_SUBSCRIBER_DATA ∷ []) refl, refl), ((refl, refl, insert_fine imsi msisdn codes h.1 h.2 h.3), tt)),
  ),
)
component_fine (Cancel id imsi UpdateProcedure) h = (
  refl,
  refl,
  (
    (refl, id_octets id h.0, refl),
    (
      (refl, written (CANCEL_LOCATION ∷ []) refl, refl),
      ((refl, refl, ((refl, tbcd_octets imsi h.1, refl), ((refl, written (UPDATE_PROCEDURE ∷ []) refl, refl), tt))), tt),
    ),
  ),
)
component_fine (Cancel id imsi SubscriptionWithdraw) h = (
  refl,
  refl,
  (
    (refl, id_octets id h.0, refl),
    (
      (refl, written (CANCEL_LOCATION ∷ []) refl, refl),
      ((refl, refl, ((refl, tbcd_octets imsi h.1, refl), ((refl, written (SUBSCRIPTION_WITHDRAW ∷ []) refl, refl), tt))), tt),
    ),
  ),
)
component_fine (UpdateResult id hlr) h = (
  refl,
  refl,
  (
    (refl, id_octets id h.0, refl),
    ((refl, refl, ((refl, written (UPDATE_LOCATION ∷ []) refl, refl), ((refl, refl, ((refl, address_are hlr h.1, refl), tt)), tt))), tt),
  ),
)
component_fine (PurgeResult id true) h = (
  refl,
  refl,
  (
    (refl, id_octets id h, refl),
    ((refl, refl, ((refl, written (PURGE_MS ∷ []) refl, refl), ((refl, refl, ((refl, tt, refl), tt)), tt))), tt),
  ),
)
component_fine (PurgeResult id false) h = (refl, refl, ((refl, id_octets id h, refl), tt))
component_fine (RouteResult id imsi msc lmsi) h = (
  refl,
  refl,
  (
    (refl, id_octets id h.0, refl),
    (
      (
        refl,
        refl,
        (
          (refl, written (SEND_ROUTING_INFO_FOR_SM ∷ []) refl, refl),
          ((refl, refl, ((refl, tbcd_octets imsi h.1, refl), ((refl, refl, ((refl, address_are msc h.2, refl), lmsi_fine lmsi h.3)), tt))), tt),
        ),
      ),
      tt,
    ),
  ),
)
component_fine (SentError id code) h = (refl, refl, ((refl, id_octets id h.0, refl), ((refl, one code h.1, refl), error_fine code)))

rejected_fine : (i : Option ℤ) → IfThere IsInvokeId i → Fine (rejected_tree i) 5
rejected_fine None h = (refl, tt, refl)
rejected_fine (Some id) h = (refl, id_octets id h, refl)

reject_fine : (r : Rejection) → SaneRejection r → Fine (reject_tree r) 6
reject_fine r h = go r.side
  where
    go : (s : Side) → Fine (reject_tree (record { id = r.id; side = s; problem = r.problem })) 6
    go General = (refl, refl, (rejected_fine r.id h.0, ((refl, one r.problem h.1, refl), tt)))
    go OfInvoke = (refl, refl, (rejected_fine r.id h.0, ((refl, one r.problem h.1, refl), tt)))
    go OfResult = (refl, refl, (rejected_fine r.id h.0, ((refl, one r.problem h.1, refl), tt)))
    go OfError = (refl, refl, (rejected_fine r.id h.0, ((refl, one r.problem h.1, refl), tt)))

components_fine : (rs : List Rejection) (cs : List SentComponent) → Every SaneRejection rs → Every SaneComponent cs → ListFine 6 (component_trees rs cs)
components_fine rs cs hr hc = fine_append 6 (map reject_tree rs) (map component_tree cs) (fine_map 6 SaneRejection reject_tree reject_fine rs hr)
    (fine_map 6 SaneComponent component_tree component_fine cs hc)

-- ---- portions

component_portion_fine : (ts : List Tree) → ListFine 6 ts → ListFine 7 (component_portion ts)
component_portion_fine [] h = tt
component_portion_fine (t ∷ ts) h = ((refl, refl, h), tt)

name_octets : (c : Context) → AreOctets (name_of c)
name_octets NetworkLocUp = written (name_of NetworkLocUp) refl
name_octets LocationCancellation = written (name_of LocationCancellation) refl
name_octets SubscriberDataMngt = written (name_of SubscriberDataMngt) refl
name_octets ShortMsgGateway = written (name_of ShortMsgGateway) refl
name_octets MsPurging = written (name_of MsPurging) refl

asking_fine : (c : Context) → Fine (asking c) 7
asking_fine c = (
  refl,
  refl,
  (
    (
      refl,
      refl,
      (
        (refl, written DIALOGUE_AS_ID refl, refl),
        ((refl, refl, ((refl, refl, ((refl, written VERSION_1 refl, refl), ((refl, refl, ((refl, name_octets c, refl), tt)), tt))), tt)), tt),
      ),
    ),
    tt,
  ),
)

response_fine : (name : List ℕ) (r d : ℕ) → AreOctets name → r < 256 → d < 256 → Fine (portion_tree (aare_tree name r (OfUser d))) 7
response_fine name r d h small small' = (
  refl,
  refl,
  (
    (
      refl,
      refl,
      (
        (refl, written DIALOGUE_AS_ID refl, refl),
        (
          (
            refl,
            refl,
            (
              (
                refl,
                refl,
                (
                  (refl, written VERSION_1 refl, refl),
                  (
                    (refl, refl, ((refl, h, refl), tt)),
                    (
                      (refl, refl, ((refl, one r small, refl), tt)),
                      ((refl, refl, ((refl, refl, ((refl, one d small', refl), tt)), tt)), tt),
                    ),
                  ),
                ),
              ),
              tt,
            ),
          ),
          tt,
        ),
      ),
    ),
    tt,
  ),
)

accepting_fine : (c : Option Context) → ListFine 7 (option_to_list (option_map accepting c))
accepting_fine None = tt
accepting_fine (Some c) = (response_fine (name_of c) ACCEPTED NO_DIAGNOSTIC (name_octets c) (ltb-true ACCEPTED 256 refl) (ltb-true NO_DIAGNOSTIC 256 refl), tt)

portions_fine : (c : Option Context) (rs : List Rejection) (cs : List SentComponent) → Every SaneRejection rs → Every SaneComponent cs
    → ListFine 7 (portion_trees (option_map accepting c) (component_trees rs cs))
portions_fine c rs cs hr hc =
    fine_append 7 (option_to_list (option_map accepting c)) (component_portion (component_trees rs cs)) (accepting_fine c)
    (component_portion_fine (component_trees rs cs) (components_fine rs cs hr hc))

-- ---- messages

sent_fine : (m : SentMessage) → SaneContent m → Fine (tree_of m) 8
sent_fine (SentBegin origin c cs) h = (
  refl,
  refl,
  (
    (refl, h.0, refl),
    (asking_fine c, component_portion_fine (component_trees [] cs) (components_fine [] cs tt h.1)),
  ),
)
sent_fine (SentContinue origin destination c rs cs) h = (refl, refl, ((refl, h.0, refl), ((refl, h.1, refl), portions_fine c rs cs h.2 h.3)))
sent_fine (SentEnd destination c rs cs) h = (refl, refl, ((refl, h.0, refl), portions_fine c rs cs h.1 h.2))
sent_fine (SentAbort destination NoCause) h = (refl, refl, ((refl, h.0, refl), tt))
sent_fine (SentAbort destination (Cause cause)) h = (refl, refl, ((refl, h.0, refl), ((refl, one cause h.1, refl), tt)))
sent_fine (SentAbort destination (Refusing name)) h = (
  refl,
  refl,
  (
    (refl, h.0, refl),
    (
      response_fine name REJECT_PERMANENT CONTEXT_NAME_NOT_SUPPORTED h.1 (ltb-true REJECT_PERMANENT 256 refl)
          (ltb-true CONTEXT_NAME_NOT_SUPPORTED 256 refl),
      tt,
    ),
  ),
)

-- what is sent has at most eight levels
pub sent_levels : (m : SentMessage) → SaneContent m → levels (tree_of m) ≤ 8
sent_levels m h = fine_levels (tree_of m) 8 (sent_fine m h)

-- what is sent consists of octets
pub sent_octets : (m : SentMessage) → SaneContent m → AreOctets (octets_of_sent m)
unfolding octets_of_sent
sent_octets m h = enc_is_octets (tree_of m) (fine_octets (tree_of m) 8 (sent_fine m h))

-- what is sent spells its tree
pub sent_spells : (m : SentMessage) → SaneContent m → length (octets_of_sent m) < 2 ^ 32 → Spells (octets_of_sent m) (tree_of m)
unfolding octets_of_sent
sent_spells m h size = enc_spells (tree_of m) (fine_tags (tree_of m) 8 (sent_fine m h)) size

-- its octets determine what was sent
pub octets_tell : (m n : SentMessage) → Sane m → Sane n → octets_of_sent m ≡ octets_of_sent n → m ≡ n
octets_tell m n h k e =
    let a = sent_spells m h.content h.size in
    let b : Spells (octets_of_sent m) (tree_of n) = subst (λ (o : List ℕ). Spells o (tree_of n)) (sym e) (sent_spells n k.content k.size) in
    one_tree_sent m n h.content k.content (Spells-unique (octets_of_sent m) (tree_of m) (tree_of n) a b)
