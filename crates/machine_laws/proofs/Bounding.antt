-- Steps keep the bounds of values, and their answers are within them.
use Rattle.std.proofs.Common.{◌≡◌, ◌+◌, ◌*◌, ◌<◌, ◌≤◌, min, ℕ, zero, suc, ℤ, pos, List, [], ◌∷◌, ◌++◌, ◌&&◌, map, take, drop, length, Bool, true, false, cond, refl, subst, Option, Some, None, is_some, IsTrue, arith, lit<, length-take, ltb-true}
use Rattle.std.specs.Int.{w8}
use Rattle.std.proofs.lemmas.Int.{fits_signed_from_abs}
use Rattle.std.proofs.lemmas.List.{length-map}
use Rattle.std.proofs.lemmas.Bool.{both_ways, and_parts}
use Rattle.machine.specs.Octets.{IsOctet, AreOctets}
use Rattle.machine.specs.Bounds.{AreCodes, AreDigits, ArgumentInBounds, ChangeInBounds, ComponentInBounds, ComponentsInBounds, DialogueInBounds, IfThere, IsInvokeId, IsName, IsRegister, IsTransactionId, KindInBounds, OutInBounds, OwnInBounds, RecordInBounds, RejectInBounds, RejectsInBounds, SentComponentInBounds, WhyInBounds}
use Rattle.machine.specs.Received.{Argument, Bad, BadValue, Code, Component, Ignored, Invoke, Mistyped, OfError, OfResult, Parameter, Purge, Register, Reject, ResultLast, ResultNotLast, ReturnError, Route, Side, Typed, Update}
use Rattle.machine.specs.Begins.{Initiator, end_of_begin, begins, begins_in, begins_named, begun, first_argument, is_allowed, offer_in, procedure, purge, purge_at, route_component, update_begins, update_opened}
use Rattle.machine.specs.Sent.{CancellationType, Context, Insert, LocationCancellation, MsPurging, NetworkLocUp, NoCause, Out, PurgeResult, Refusing, Rejection, SentAbort, SentBegin, SentComponent, SentError, ShortMsgGateway, SubscriberDataMngt, UpdateProcedure, UpdateResult, Why}
use Rattle.machine.specs.State.{Cancels, Data, Dialogue, Invocation, Kind, Local, OperationSent, Subscriber, Updates, WaitForReject, Was}
use Rattle.machine.specs.Events.{Change, Codes, Withdraw}
use Rattle.machine.specs.Effect.{Conclusion, Effect, GoesOn, HasFailed, HasSucceeded, Offer, effect, is_empty, is_id, is_open_id, is_operation, linked_to, problem_of, reject_answer, reject_invoke, reject_of, rejects_after}
use Rattle.machine.specs.Keys.{Every, same}
use Rattle.machine.specs.Contexts.{Known, Named, OtherVersion, Unknown, accepted, context_of, name_of, refused_as, refused_name}
use Rattle.machine.specs.SmRoute.{NoRoute, has_short_messages, route_by, sm_route}
use Rattle.machine.specs.Outcome.{Outcome, below, cancel, cancel_begin, continue_in_dialogue, end_in_dialogue, further, inserts, inserts_invoked, invoked, is_marked, send, unchanged, unmarked}
use Rattle.machine.specs.Changes.{change_to, changes, codes_to, data_to, withdraw_from}
use Rattle.machine.specs.Dialogues.{closes, continues, continues_as, ends, goes_on, offer_to, other_continues, update_completes, update_continues, update_done, update_fails}
use Rattle.machine.specs.declared.numbers.TheConstants.{DATA_MISSING, MISTYPED_PARAMETER, INVOKE_RESOURCE_LIMITATION, ROAMING_NOT_ALLOWED, SYSTEM_FAILURE, TELESERVICE_NOT_PROVISIONED, UNEXPECTED_DATA_VALUE, UNKNOWN_SUBSCRIBER, UNRECOGNIZED_OPERATION}
use Rattle.machine.specs.Expiries.{expires, is_repeated, sent_expires}
use Rattle.machine_laws.proofs.Keys.{none_some, some_inj}
use Rattle.machine_laws.proofs.Rising.{every_after, every_without}

-- lists

every_append : {X : Type 0} (P : X → Type 0) (xs ys : List X) → Every P xs → Every P ys → Every P (xs ++ ys)
every_append P [] ys h g = g
every_append P (x ∷ xs) ys h g = (h.0, every_append P xs ys h.1 g)

every_map_if : {X : Type 0} (Q : ℕ → Type 0) (P : X → Type 0) (f : ℕ → X) → ((k : ℕ) → Q k → P (f k)) → (ks : List ℕ) → Every Q ks → Every P (map f ks)
every_map_if Q P f h [] q = tt
every_map_if Q P f h (k ∷ ks) q = (h k q.0, every_map_if Q P f h ks q.1)

octets_take : (n : ℕ) (xs : List ℕ) → AreOctets xs → AreOctets (take n xs)
octets_take zero xs h = tt
octets_take (suc n) [] h = tt
octets_take (suc n) (x ∷ xs) h = (h.0, octets_take n xs h.1)

octets_drop : (n : ℕ) (xs : List ℕ) → AreOctets xs → AreOctets (drop n xs)
octets_drop zero xs h = h
octets_drop (suc n) [] h = tt
octets_drop (suc n) (x ∷ xs) h = octets_drop n xs h.1

length_append : {X : Type 0} (xs ys : List X) → length (xs ++ ys) ≡ length xs + length ys
length_append [] ys = omega arith
length_append (x ∷ xs) ys = let ih : length (xs ++ ys) ≡ length xs + length ys = length_append xs ys in omega arith

below_length : (n : ℕ) → length (below n) ≡ n
below_length zero = refl
below_length (suc n) = let ih : length (below n) ≡ n = below_length n in let more : length (below n ++ n ∷ [])
    ≡ length (below n) + 1 = length_append (below n) (n ∷ []) in omega arith

every_less_than : (m n : ℕ) → m ≤ n → Every (λ k. k < n) (below m)
every_less_than zero n h = tt
every_less_than (suc m) n h = every_append (λ k. k < n) (below m) (m ∷ []) (every_less_than m n (omega arith)) (omega arith, tt)

take_short : (n : ℕ) (xs : List ℕ) → length (take n xs) ≤ n
take_short n xs = let e : length (take n xs) ≡ min n (length xs) = length-take n xs in omega arith

-- ids

id_small : (n : ℕ) → n < 128 → IsInvokeId (pos n)
id_small n h = fits_signed_from_abs w8 (pos n) h

few_inserts : (codes : List ℕ) → AreCodes codes → further codes ≤ 3
few_inserts codes h = let most : length codes ≤ 32 = h.most in omega arith

inserts_ids : (now : ℕ) (codes : List ℕ) → AreCodes codes → Every (λ (v : Invocation). IsInvokeId v.id) (inserts_invoked now codes)
inserts_ids now codes h = (
  id_small 1 (lit< tt),
  every_map_if (λ k. k < further codes) (λ (v : Invocation). IsInvokeId v.id) (λ k. invoked now (pos (k + 2)))
      (λ k q. let most : further codes ≤ 3 = few_inserts codes h in id_small (k + 2) (omega arith)) (below (further codes))
      (every_less_than (further codes) (further codes) (omega arith)),
)

inserts_bounded : (imsi : Option (List ℕ)) (msisdn codes : List ℕ) → IfThere AreDigits imsi → AreDigits msisdn → AreCodes codes
    → OwnInBounds (inserts imsi msisdn codes)
inserts_bounded imsi msisdn codes x m h = (
  (
    (id_small 1 (lit< tt), x, m, octets_take 8 codes h.octets, take_short 8 codes),
    every_map_if (λ k. k < further codes) SentComponentInBounds (λ k. Insert (pos (k + 2)) imsi None (take 8 (drop (8 * (k + 1)) codes)))
        (λ k q. (
          let most : further codes ≤ 3 = few_inserts codes h in id_small (k + 2) (omega arith),
          x,
          tt,
          octets_take 8 (drop (8 * (k + 1)) codes)
              (octets_drop (8 * (k + 1)) codes h.octets),
          take_short 8 (drop (8 * (k + 1)) codes),
        ))
        (below (further codes)) (every_less_than (further codes) (further codes) (omega arith)),
  ),
  (
      let most : further codes ≤ 3 = few_inserts codes h in
      let mapped : length (map (λ k. Insert (pos (k + 2)) imsi None (take 8 (drop (8 * (k + 1)) codes))) (below (further codes)))
      ≡ length (below (further codes)) = length-map (below (further codes)) (λ k. Insert (pos (k + 2)) imsi None (take 8 (drop (8 * (k + 1)) codes))) in
      let below_is : length (below (further codes)) ≡ further codes = below_length (further codes) in
      omega arith
      ),
)

-- the Rejects of components

-- the problems of an Invoke are octets
problem_small : (offer : Offer) (is_open : Bool) (linked : Option Bool) (code : Code) (is_first : Bool)
    → IfThere IsOctet (problem_of offer is_open linked code is_first)
problem_small offer true linked code is_first = lit< tt
problem_small offer false (Some true) code is_first = lit< tt
problem_small offer false (Some false) code is_first = lit< tt
problem_small offer false None code is_first = by (is_operation offer.operation code) (is_first && offer.may_start) offer.typed
  where
    by : (b f t : Bool) → IfThere IsOctet (cond b (cond f (cond t None (Some MISTYPED_PARAMETER)) (Some INVOKE_RESOURCE_LIMITATION))
        (Some UNRECOGNIZED_OPERATION))
    by true true true = tt
    by true true false = lit< tt
    by true false t = lit< tt
    by false f t = lit< tt

abbrev AreRejects : List Rejection → Type 0
AreRejects rs = Every RejectInBounds rs

invoke_rejected : (id : ℤ) (p : Option ℕ) → IsInvokeId id → IfThere IsOctet p → AreRejects (reject_invoke id p) × (length (reject_invoke id p) ≤ 1)
invoke_rejected id None h g = (tt, omega arith)
invoke_rejected id (Some p) h g = (((h, g), tt), omega arith)

answer_rejected : (id : ℤ) (side : Side) (b : Bool) → IsInvokeId id → AreRejects (reject_answer id side b) × (length (reject_answer id side b) ≤ 1)
answer_rejected id side true h = (tt, omega arith)
answer_rejected id side false h = (((h, lit< tt), tt), omega arith)

one_rejected : (offer : Offer) (vs : List Invocation) (earlier : List Component) (c : Component) → ComponentInBounds c
    → AreRejects (reject_of offer vs earlier c) × (length (reject_of offer vs earlier c) ≤ 1)
one_rejected offer vs earlier (Invoke id linked operation parameter) h = invoke_rejected id _ h.0
    (problem_small offer (is_open_id offer vs earlier id) (linked_to vs earlier linked) operation (is_empty earlier))
one_rejected offer vs earlier (ResultLast id) h = answer_rejected id OfResult _ h
one_rejected offer vs earlier (ResultNotLast id) h = answer_rejected id OfResult _ h
one_rejected offer vs earlier (ReturnError id error) h = answer_rejected id OfError _ h
one_rejected offer vs earlier (Reject id side problem) h = (tt, omega arith)
one_rejected offer vs earlier (Bad id problem) h = ((h, tt), omega arith)
one_rejected offer vs earlier Ignored h = (tt, omega arith)

all_rejected : (offer : Offer) (vs : List Invocation) (earlier cs : List Component) → Every ComponentInBounds cs
    → AreRejects (rejects_after offer vs earlier cs) × (length (rejects_after offer vs earlier cs) ≤ length cs)
all_rejected offer vs earlier [] h = (tt, omega arith)
all_rejected offer vs earlier (c ∷ cs) h =
    let one : AreRejects (reject_of offer vs earlier c) × (length (reject_of offer vs earlier c) ≤ 1) = one_rejected offer vs earlier c h.0 in
    let rest : AreRejects (rejects_after offer vs (earlier ++ c ∷ []) cs)
    × (length (rejects_after offer vs (earlier ++ c ∷ []) cs) ≤ length cs) = all_rejected offer vs (earlier ++ c ∷ []) cs h.1 in
    let both : length (reject_of offer vs earlier c ++ rejects_after offer vs (earlier ++ c ∷ []) cs)
    ≡ length (reject_of offer vs earlier c) + length (rejects_after offer vs (earlier ++ c ∷ []) cs) = length_append (reject_of offer vs earlier c)
    (rejects_after offer vs (earlier ++ c ∷ []) cs) in
    let few_here : length (reject_of offer vs earlier c) ≤ 1 = one.1 in
    let few_more : length (rejects_after offer vs (earlier ++ c ∷ []) cs) ≤ length cs = rest.1 in
    (every_append RejectInBounds (reject_of offer vs earlier c) (rejects_after offer vs (earlier ++ c ∷ []) cs) one.0 rest.0, omega arith)

pub effect_rejects : (now : ℕ) (offer : Offer) (vs : List Invocation) (cs : List Component) → ComponentsInBounds cs
    → RejectsInBounds (effect now offer vs cs).rejects
unfolding effect
effect_rejects now offer vs cs h =
    let all : AreRejects (rejects_after offer vs [] cs) × (length (rejects_after offer vs [] cs) ≤ length cs) = all_rejected offer vs [] cs h.0 in
    let most : length (rejects_after offer vs [] cs) ≤ length cs = all.1 in
    let few : length cs ≤ 16 = h.1 in
    (all.0, omega arith)

effect_ids : (now : ℕ) (offer : Offer) (vs : List Invocation) (cs : List Component) → Every (λ (v : Invocation). IsInvokeId v.id) vs
    → Every (λ (v : Invocation). IsInvokeId v.id) (effect now offer vs cs).invocations
unfolding effect
effect_ids now offer vs cs h = every_after IsInvokeId now cs vs h

effect_starts : (now : ℕ) (offer : Offer) (vs : List Invocation) (cs : List Component) → Every ComponentInBounds cs → (k : ℤ)
    → (effect now offer vs cs).started ≡ Some k → IsInvokeId k
unfolding effect
effect_starts now offer vs [] h k e = absurd (none_some k None refl e)
effect_starts now offer vs (Invoke id linked operation parameter ∷ cs) h k e = by
    (is_some (problem_of offer (is_id offer.open_id id) (linked_to {P = Parameter} vs [] linked) operation true)) e
  where
    by : (b : Bool) → cond b None (Some id) ≡ Some k → IsInvokeId k
    by true q = absurd (none_some k None refl q)
    by false q = subst IsInvokeId (some_inj id k _ refl q) h.0.0
effect_starts now offer vs (ResultLast id ∷ cs) h k e = absurd (none_some k None refl e)
effect_starts now offer vs (ResultNotLast id ∷ cs) h k e = absurd (none_some k None refl e)
effect_starts now offer vs (ReturnError id error ∷ cs) h k e = absurd (none_some k None refl e)
effect_starts now offer vs (Reject id side problem ∷ cs) h k e = absurd (none_some k None refl e)
effect_starts now offer vs (Bad id problem ∷ cs) h k e = absurd (none_some k None refl e)
effect_starts now offer vs (Ignored ∷ cs) h k e = absurd (none_some k None refl e)

-- outcomes

pub record LocalInBounds (L : Local) : Type 0 where
  pub known : (s : Subscriber) → L.record_of ≡ Some s → AreDigits L.imsi × RecordInBounds s
  pub hlr : AreDigits L.hlr

pub record Bounded (L : Local) (new : List ℕ) (o : Outcome) : Type 0 where
  pub after : (s : Subscriber) → o.after ≡ Some s → AreDigits L.imsi × RecordInBounds s
  pub stays : (d : Dialogue) → o.stays ≡ Some d → DialogueInBounds d
  pub opens : (d : Dialogue) → o.opens ≡ Some d → DialogueInBounds d
  pub sent : (IsTrue (is_some o.opens) → IsTransactionId new) → Every OutInBounds o.sent

no_dialogue : (d : Dialogue) → None ≡ Some d → DialogueInBounds d
no_dialogue d e = absurd (none_some d None refl e)

-- a record with another mark, flag or register
remarked : (s : Subscriber) (c : Option (List ℕ)) → RecordInBounds s → RecordInBounds (record s { current = c })
remarked s c h = record { msisdn = h.msisdn; codes = h.codes; roam = h.roam; register = h.register }

module _ (L : Local) (new : List ℕ) (here : LocalInBounds L) where
  pub bounded_unchanged : (out : List Out) → Every OutInBounds out → Bounded L new (unchanged L out)
  bounded_unchanged out h = record { after = here.known; stays = no_dialogue; opens = no_dialogue; sent = λ t. h }

  -- the record is this, in bounds, and nothing opens
  bounded_record : (s t : Subscriber) (stays : Option Dialogue) (out : List Out) → L.record_of ≡ Some s → RecordInBounds t
      → ((d : Dialogue) → stays ≡ Some d → DialogueInBounds d) → Every OutInBounds out
      → Bounded L new (record { after = Some t; stays = stays; opens = None; sent = out })
  bounded_record s t stays out r h k m = record {
    after = λ u e. ((here.known s r).0, subst (λ v. RecordInBounds v) (some_inj t u _ refl e) h);
    stays = k;
    opens = no_dialogue;
    sent = λ q. m;
  }

  -- Begins

  record InitiatorInBounds (initiator : Initiator) : Type 0 where
    pub from : AreDigits initiator.from
    pub origin : IsTransactionId initiator.origin
    pub rejects : RejectsInBounds initiator.rejects

  answer_in : (initiator : Initiator) (c : SentComponent) → InitiatorInBounds initiator → SentComponentInBounds c
      → Every OutInBounds (end_of_begin initiator (c ∷ []))
  answer_in initiator c a h = ((a.from, (a.origin, a.rejects, ((h, tt), lit≤1))), tt)
    where
      lit≤1 : 1 ≤ 4
      lit≤1 = omega arith

  bare_in : (initiator : Initiator) → InitiatorInBounds initiator → Every OutInBounds (end_of_begin initiator [])
  bare_in initiator a = ((a.from, (a.origin, a.rejects, (tt, few))), tt)
    where
      few : 0 ≤ 4
      few = omega arith

  bounded_opened : (initiator : Initiator) (k : ℤ) (register : Register) (s : Subscriber) → InitiatorInBounds initiator → IsInvokeId k → IsRegister register
      → L.record_of ≡ Some s → Bounded L new (update_opened L initiator k register s new)
  bounded_opened initiator k register s a i g r = let known : AreDigits L.imsi × RecordInBounds s = here.known s r in record {
    after = λ u e. (known.0, subst (λ v. RecordInBounds v) (some_inj _ u _ refl e) (remarked s (Some new) known.1));
    stays = no_dialogue;
    opens = λ d e. subst (λ v. DialogueInBounds v) (some_inj _ d _ refl e) (record {
      subscriber = known.0;
      peer = a.from;
      remote = a.origin;
      invocations = inserts_ids L.clock s.codes known.1.codes;
      kind = (g, i, refl);
    });
    sent = λ t. ((a.from, (t refl, a.origin, a.rejects, inserts_bounded None s.msisdn s.codes tt known.1.msisdn known.1.codes)), tt);
  }

  bounded_update : (initiator : Initiator) (k : ℤ) (register : Register) (R : Option Subscriber) → InitiatorInBounds initiator → IsInvokeId k
      → IsRegister register → L.record_of ≡ R → Bounded L new (update_begins L initiator k register R new)
  bounded_update initiator k register None a i g r = bounded_unchanged _ (answer_in initiator (SentError k UNKNOWN_SUBSCRIBER) a (i, lit< tt))
  bounded_update initiator k register (Some s) a i g r = by s.withdrawn (is_allowed s.roam register.vlr)
    where
      by : (w t : Bool) → Bounded L new
          (cond w (unchanged L (end_of_begin initiator (SentError k UNKNOWN_SUBSCRIBER ∷ [])))
          (cond t (update_opened L initiator k register s new) (unchanged L (end_of_begin initiator (SentError k ROAMING_NOT_ALLOWED ∷ [])))))
      by true t = bounded_unchanged _ (answer_in initiator (SentError k UNKNOWN_SUBSCRIBER) a (i, lit< tt))
      by false true = bounded_opened initiator k register s a i g r
      by false false = bounded_unchanged _ (answer_in initiator (SentError k ROAMING_NOT_ALLOWED) a (i, lit< tt))

  bounded_purge : (initiator : Initiator) (k : ℤ) (vlr : Option (List ℕ)) (R : Option Subscriber) → InitiatorInBounds initiator → IsInvokeId k → L.record_of ≡ R
      → Bounded L new (purge L initiator k vlr R)
  bounded_purge initiator k None R a i r = bounded_unchanged _ (answer_in initiator (SentError k DATA_MISSING) a (i, lit< tt))
  bounded_purge initiator k (Some vlr) None a i r = bounded_unchanged _ (answer_in initiator (SentError k UNKNOWN_SUBSCRIBER) a (i, lit< tt))
  bounded_purge initiator k (Some vlr) (Some s) a i r = by s.withdrawn
    where
      digits : (b : Bool) → Bounded L new (cond b (record {
        after = Some (record s { purged = true });
        stays = None;
        opens = None;
        sent = end_of_begin initiator
            (PurgeResult k true ∷ []);
      }) (unchanged L (end_of_begin initiator (PurgeResult k false ∷ []))))
      digits true = let h : RecordInBounds s = (here.known s r).1 in bounded_record s (record s { purged = true }) None _ r
          (record { msisdn = h.msisdn; codes = h.codes; roam = h.roam; register = h.register }) no_dialogue (answer_in initiator (PurgeResult k true) a i)
      digits false = bounded_unchanged _ (answer_in initiator (PurgeResult k false) a i)

      at_register : (g : Option Register) → Bounded L new (purge_at L initiator k s vlr g)
      at_register None = bounded_unchanged _ (answer_in initiator (PurgeResult k false) a i)
      at_register (Some g) = digits (same g.vlr vlr)

      by : (b : Bool) → Bounded L new (cond b (unchanged L (end_of_begin initiator (SentError k UNKNOWN_SUBSCRIBER ∷ [])))
          (purge_at L initiator k s vlr s.register))
      by true = bounded_unchanged _ (answer_in initiator (SentError k UNKNOWN_SUBSCRIBER) a (i, lit< tt))
      by false = at_register s.register

  route_bounded : (k : ℤ) (R : Option Subscriber) → IsInvokeId k → L.record_of ≡ R → SentComponentInBounds (route_component k (sm_route L.imsi R))
  route_bounded k None i r = (i, lit< tt)
  route_bounded k (Some s) i r = by s.withdrawn (has_short_messages s.codes)
    where
      at_register : (g : Option Register) → IfThere IsRegister g → (purged : Bool) → SentComponentInBounds (route_component k (route_by L.imsi purged g))
      at_register None h purged = (i, lit< tt)
      at_register (Some g) h true = (i, lit< tt)
      at_register (Some g) h false = (i, (here.known s r).0, h.msc, h.lmsi)

      by : (w t : Bool) → SentComponentInBounds (route_component k
          (cond w (NoRoute UNKNOWN_SUBSCRIBER) (cond t (route_by L.imsi s.purged s.register) (NoRoute TELESERVICE_NOT_PROVISIONED))))
      by true t = (i, lit< tt)
      by false true = at_register s.register (here.known s r).1.register s.purged
      by false false = (i, lit< tt)

  bounded_procedure : (initiator : Initiator) (k : ℤ) (p : Argument) → InitiatorInBounds initiator → IsInvokeId k → ArgumentInBounds p
      → Bounded L new (procedure L initiator k p new)
  bounded_procedure initiator k BadValue a i h = bounded_unchanged _ (answer_in initiator (SentError k UNEXPECTED_DATA_VALUE) a (i, lit< tt))
  bounded_procedure initiator k (Update imsi register) a i h = bounded_update initiator k register L.record_of a i h.1 refl
  bounded_procedure initiator k (Purge imsi vlr) a i h = bounded_purge initiator k vlr L.record_of a i refl
  bounded_procedure initiator k (Route msisdn) a i h = bounded_unchanged _
      (answer_in initiator (route_component k (sm_route L.imsi L.record_of)) a (route_bounded k L.record_of i refl))

  argument_bounded : (cs : List Component) (p : Argument) → Every ComponentInBounds cs → first_argument cs ≡ Some p → ArgumentInBounds p
  argument_bounded [] p h e = absurd (none_some p None refl e)
  argument_bounded (Invoke id linked operation (Some (Typed q)) ∷ cs) p h e = subst (λ v. ArgumentInBounds v) (some_inj q p _ refl e) h.0.1.0
  argument_bounded (Invoke id linked operation (Some Mistyped) ∷ cs) p h e = absurd (none_some p None refl e)
  argument_bounded (Invoke id linked operation None ∷ cs) p h e = absurd (none_some p None refl e)
  argument_bounded (ResultLast id ∷ cs) p h e = absurd (none_some p None refl e)
  argument_bounded (ResultNotLast id ∷ cs) p h e = absurd (none_some p None refl e)
  argument_bounded (ReturnError id error ∷ cs) p h e = absurd (none_some p None refl e)
  argument_bounded (Reject id side problem ∷ cs) p h e = absurd (none_some p None refl e)
  argument_bounded (Bad id problem ∷ cs) p h e = absurd (none_some p None refl e)
  argument_bounded (Ignored ∷ cs) p h e = absurd (none_some p None refl e)

  bounded_begun : (initiator : Initiator) (s : Option ℤ) (p : Option Argument) → InitiatorInBounds initiator → ((k : ℤ) → s ≡ Some k → IsInvokeId k)
      → ((q : Argument) → p ≡ Some q → ArgumentInBounds q) → Bounded L new (begun L initiator s p new)
  bounded_begun initiator None p a i h = bounded_unchanged _ (bare_in initiator a)
  bounded_begun initiator (Some k) None a i h = bounded_unchanged _ (bare_in initiator a)
  bounded_begun initiator (Some k) (Some p) a i h = bounded_procedure initiator k p a (i k refl) (h p refl)

  abort_in : (from r : List ℕ) (why : Why) → AreDigits from → IsTransactionId r → WhyInBounds why → Every OutInBounds (send from (SentAbort r why))
  abort_in from r why f t w = ((f, (t, w)), tt)

  bounded_begins_in : (from r : List ℕ) (c : Context) (cs : List Component) → AreDigits from → IsTransactionId r → ComponentsInBounds cs
      → Bounded L new (begins_in L from r c cs new)
  bounded_begins_in from r c [] f t h = bounded_unchanged _ (abort_in from r NoCause f t tt)
  bounded_begins_in from r c (k ∷ ks) f t h = bounded_begun _ _ (first_argument (k ∷ ks))
      (record { from = f; origin = t; rejects = effect_rejects L.clock (offer_in c (k ∷ ks)) [] (k ∷ ks) h })
      (λ id e. effect_starts L.clock (offer_in c (k ∷ ks)) [] (k ∷ ks) h.0 id e)
      (λ p e. argument_bounded (k ∷ ks) p h.0 e)

  named_is : (name : List ℕ) → IsName name → IsName (refused_name name)
  unfolding refused_name
  named_is name h = by (context_of name)
    where
      name_in : (c : Context) → IsName (name_of c)
      name_in NetworkLocUp = ((lit< tt, (lit< tt, (lit< tt, (lit< tt, (lit< tt, (lit< tt, (lit< tt, tt))))))), omega arith)
      name_in LocationCancellation = ((lit< tt, (lit< tt, (lit< tt, (lit< tt, (lit< tt, (lit< tt, (lit< tt, tt))))))), omega arith)
      name_in SubscriberDataMngt = ((lit< tt, (lit< tt, (lit< tt, (lit< tt, (lit< tt, (lit< tt, (lit< tt, tt))))))), omega arith)
      name_in ShortMsgGateway = ((lit< tt, (lit< tt, (lit< tt, (lit< tt, (lit< tt, (lit< tt, (lit< tt, tt))))))), omega arith)
      name_in MsPurging = ((lit< tt, (lit< tt, (lit< tt, (lit< tt, (lit< tt, (lit< tt, (lit< tt, tt))))))), omega arith)

      by : (n : Named) → IsName (refused_as name n)
      by (Known c) = h
      by (OtherVersion c) = name_in c
      by Unknown = h

  bounded_named : (from r name : List ℕ) (c : Option Context) (cs : List Component) → AreDigits from → IsTransactionId r → IsName name → ComponentsInBounds cs
      → Bounded L new (begins_named L from r name c cs new)
  bounded_named from r name None cs f t n h = bounded_unchanged _ (abort_in from r (Refusing (refused_name name)) f t (named_is name n))
  bounded_named from r name (Some c) cs f t n h = bounded_begins_in from r c cs f t h

  pub bounded_begins : (from r : List ℕ) (p : Option (List ℕ)) (cs : List Component) → AreDigits from → IsTransactionId r → IfThere IsName p
      → ComponentsInBounds cs → Bounded L new (begins L from r p cs new)
  bounded_begins from r None cs f t n h = bounded_unchanged _ (abort_in from r NoCause f t tt)
  bounded_begins from r (Some name) cs f t n h = bounded_named from r name (accepted name) cs f t n h

  -- a dialogue that is open

  few_one : 1 ≤ 4
  few_one = omega arith

  few_none : 0 ≤ 4
  few_none = omega arith

  module _ (i : List ℕ) (d : Dialogue) (at : IsTransactionId i) (bounds : DialogueInBounds d) where
    ended_in : (r : Option (List ℕ)) (rejects : List Rejection) (cs : List SentComponent) → IfThere IsTransactionId r → RejectsInBounds rejects → OwnInBounds cs
        → Every OutInBounds (end_in_dialogue d.transaction r rejects cs)
    ended_in None rejects cs t h g = tt
    ended_in (Some r) rejects cs t h g = ((bounds.peer, (t, h, g)), tt)

    continued_in : (r : Option (List ℕ)) (rejects : List Rejection) → IfThere IsTransactionId r → RejectsInBounds rejects
        → Every OutInBounds (continue_in_dialogue i d.transaction r rejects)
    continued_in r [] t h = tt
    continued_in None (c ∷ cs) t h = tt
    continued_in (Some r) (c ∷ cs) t h = ((bounds.peer, (at, t, h, (tt, few_none))), tt)

    unmarked_in : (s : Subscriber) → unmarked i L.record_of ≡ Some s → AreDigits L.imsi × RecordInBounds s
    unmarked_in s e = by L.record_of refl e
      where
        by : (R : Option Subscriber) → L.record_of ≡ R → unmarked i R ≡ Some s → AreDigits L.imsi × RecordInBounds s
        by None r q = absurd (none_some s None refl q)
        by (Some u) r q = off (is_marked u.current i) q
          where
            off : (b : Bool) → Some (cond b (record u { current = None }) u) ≡ Some s → AreDigits L.imsi × RecordInBounds s
            off true z = ((here.known u r).0, subst (λ v. RecordInBounds v) (some_inj _ s _ refl z) (remarked u None (here.known u r).1))
            off false z = ((here.known u r).0, subst (λ v. RecordInBounds v) (some_inj u s _ refl z) (here.known u r).1)

    bounded_ends : (out : List Out) → Every OutInBounds out → Bounded L new (ends L i out)
    bounded_ends out h = record { after = unmarked_in; stays = no_dialogue; opens = no_dialogue; sent = λ t. h }

    bounded_fails : (k : ℤ) (rejects : List Rejection) → IsInvokeId k → RejectsInBounds rejects → Bounded L new (update_fails L i d k rejects)
    bounded_fails k rejects j h = bounded_ends _ (ended_in d.transaction.remote rejects (SentError k SYSTEM_FAILURE ∷ []) bounds.remote h
        (((j, lit< tt), tt), few_one))

    cancel_in : (vlr : List ℕ) (attempt : ℕ) (cause : CancellationType) → AreDigits L.imsi → AreDigits vlr → 0 < attempt → attempt ≤ 3
        → DialogueInBounds (cancel L vlr attempt cause)
    cancel_in vlr attempt cause x v some most = record {
      subscriber = x;
      peer = v;
      remote = tt;
      invocations = (id_small 1 (lit< tt), tt);
      kind =
          (v, some, most);
    }

    cancel_sent : (vlr : List ℕ) (cause : CancellationType) → AreDigits L.imsi → AreDigits vlr → IsTransactionId new
        → Every OutInBounds (cancel_begin L vlr cause new)
    cancel_sent vlr cause x v t = ((v, (t, (((id_small 1 (lit< tt), x), tt), few_one))), tt)

    -- a cancel may open beside what is sent
    bounded_cancel : (after : Option Subscriber) (out : List Out) (vlr : List ℕ) (attempt : ℕ) (cause : CancellationType) (opens : Bool)
        → ((s : Subscriber) → after ≡ Some s → AreDigits L.imsi × RecordInBounds s) → Every OutInBounds out
        → (opens ≡ true → AreDigits L.imsi × AreDigits vlr × (0 < attempt) × (attempt ≤ 3))
        → Bounded L new (record {
          after = after;
          stays = None;
          opens = cond opens (Some (cancel L vlr attempt cause)) None;
          sent = out
              ++ cond opens (cancel_begin L vlr cause new) [];
        })
    bounded_cancel after out vlr attempt cause true a h g = record {
      after = a;
      stays = no_dialogue;
      opens = λ f e. subst (λ v. DialogueInBounds v) (some_inj _ f _ refl e) (cancel_in vlr attempt cause (g refl).0 (g refl).1 (g refl).2 (g refl).3);
      sent = λ t. every_append OutInBounds out _ h (cancel_sent vlr cause (g refl).0 (g refl).1 (t refl));
    }
    bounded_cancel after out vlr attempt cause false a h g =
        record { after = a; stays = no_dialogue; opens = no_dialogue; sent = λ t. every_append OutInBounds out [] h tt }

    served_in : (s : Subscriber) (register : Register) → L.record_of ≡ Some s → IsRegister register → (u : Subscriber)
        → Some (record s { register = Some register; purged = false; current = None }) ≡ Some u → AreDigits L.imsi × RecordInBounds u
    served_in s register r g u e = let h : RecordInBounds s = (here.known s r).1 in (
      (here.known s r).0,
      subst (λ v. RecordInBounds v) (some_inj _ u _ refl e)
          (record { msisdn = h.msisdn; codes = h.codes; roam = h.roam; register = g }),
    )

    bounded_done : (register : Register) (s : Subscriber) (k : ℤ) (rejects : List Rejection) (old : Option Register) → L.record_of ≡ Some s
        → IsRegister register → IfThere IsRegister old → IsInvokeId k → RejectsInBounds rejects
        → Bounded L new (update_done L register s (end_in_dialogue d.transaction d.transaction.remote rejects (UpdateResult k L.hlr ∷ [])) new old)
    bounded_done register s k rejects None r g o j h =
        record {
          after = served_in s register r g;
          stays = no_dialogue;
          opens = no_dialogue;
          sent = λ t. ended_in d.transaction.remote rejects (UpdateResult k L.hlr ∷ []) bounds.remote h (((j, here.hlr), tt), few_one);
        }
    bounded_done register s k rejects (Some old) r g o j h = by (same old.vlr register.vlr)
      where
        by : (b : Bool) → Bounded L new (record {
          after = Some (record s { register = Some register; purged = false; current = None });
          stays = None;
          opens = cond b None (Some (cancel L old.vlr 1 UpdateProcedure));
          sent = end_in_dialogue d.transaction d.transaction.remote rejects (UpdateResult k L.hlr ∷ [])
              ++ cond b [] (cancel_begin L old.vlr UpdateProcedure new);
        })
        by true = bounded_cancel _ _ old.vlr 1 UpdateProcedure false (served_in s register r g)
            (ended_in d.transaction.remote rejects (UpdateResult k L.hlr ∷ []) bounds.remote h (((j, here.hlr), tt), few_one))
            (λ q. absurd (both_ways _ refl q))
        by false = bounded_cancel _ _ old.vlr 1 UpdateProcedure true (served_in s register r g)
            (ended_in d.transaction.remote rejects (UpdateResult k L.hlr ∷ []) bounds.remote h (((j, here.hlr), tt), few_one))
            (λ q. ((here.known s r).0, o.vlr, omega arith, omega arith))

    bounded_completes : (register : Register) (k : ℤ) (rejects : List Rejection) (R : Option Subscriber) → L.record_of ≡ R → IsRegister register → IsInvokeId k
        → RejectsInBounds rejects → Bounded L new (update_completes L i d register k rejects new R)
    bounded_completes register k rejects None r g j h = bounded_fails k rejects j h
    bounded_completes register k rejects (Some s) r g j h = by (is_marked s.current i)
      where
        by : (b : Bool) → Bounded L new (cond b (update_done L register s
            (end_in_dialogue d.transaction d.transaction.remote rejects (UpdateResult k L.hlr ∷ [])) new s.register) (update_fails L i d k rejects))
        by true = bounded_done register s k rejects s.register r g (here.known s r).1.register j h
        by false = bounded_fails k rejects j h

    bounded_goes_on : (rejects : List Rejection) (vs : List Invocation) → RejectsInBounds rejects → Every (λ (v : Invocation). IsInvokeId v.id) vs
        → Bounded L new (goes_on L i d rejects vs)
    bounded_goes_on rejects vs h g = record {
      after = here.known;
      stays = λ f e. subst (λ v. DialogueInBounds v) (some_inj _ f _ refl e)
          (record { subscriber = bounds.subscriber; peer = bounds.peer; remote = bounds.remote; invocations = g; kind = bounds.kind });
      opens = no_dialogue;
      sent = λ t. continued_in d.transaction.remote rejects bounds.remote h;
    }

    bounded_over : (out : List Out) → Every OutInBounds out → Bounded L new (record { after = L.record_of; stays = None; opens = None; sent = out })
    bounded_over out h = record { after = here.known; stays = no_dialogue; opens = no_dialogue; sent = λ t. h }

    bounded_other : (e : Effect) (c : Conclusion) → RejectsInBounds e.rejects → Every (λ (v : Invocation). IsInvokeId v.id) e.invocations
        → Bounded L new (other_continues L i d e c)
    bounded_other e HasFailed h g = bounded_over _ (ended_in d.transaction.remote e.rejects [] bounds.remote h (tt, few_none))
    bounded_other e HasSucceeded h g = bounded_over _ (ended_in d.transaction.remote e.rejects [] bounds.remote h (tt, few_none))
    bounded_other e GoesOn h g = bounded_goes_on e.rejects e.invocations h g

    bounded_update_continues : (register : Register) (k : ℤ) (e : Effect) (c : Conclusion) → IsRegister register → IsInvokeId k → RejectsInBounds e.rejects
        → Every (λ (v : Invocation). IsInvokeId v.id) e.invocations → Bounded L new (update_continues L i d register k e c new)
    bounded_update_continues register k e HasFailed g j h w = bounded_fails k e.rejects j h
    bounded_update_continues register k e HasSucceeded g j h w = bounded_completes register k e.rejects L.record_of refl g j h
    bounded_update_continues register k e GoesOn g j h w = bounded_goes_on e.rejects e.invocations h w

    bounded_as : (kind : Kind) (e : Effect) → KindInBounds kind d.transaction → RejectsInBounds e.rejects
        → Every (λ (v : Invocation). IsInvokeId v.id) e.invocations → Bounded L new (continues_as L i d kind e new)
    bounded_as (Updates register k) e b h w = bounded_update_continues register k e e.conclusion b.0 b.1 h w
    bounded_as (Cancels vlr attempt cause) e b h w = bounded_other e e.conclusion h w
    bounded_as Data e b h w = bounded_other e e.conclusion h w

    pub bounded_continues : (cs : List Component) → ComponentsInBounds cs → Bounded L new (continues L i d cs new)
    bounded_continues cs h = bounded_as d.kind _ bounds.kind (effect_rejects L.clock (offer_to d.kind) d.invocations cs h)
        (effect_ids L.clock (offer_to d.kind) d.invocations cs bounds.invocations)

    pub bounded_closes : Bounded L new (closes L i)
    bounded_closes = bounded_ends [] tt

    no_rejects : RejectsInBounds []
    no_rejects = (tt, omega arith)

    bounded_sent_expires : (kind : Kind) → KindInBounds kind d.transaction → d.subscriber ≡ L.imsi → Bounded L new (sent_expires L i d kind new)
    bounded_sent_expires (Updates register k) b x = bounded_fails k [] b.1 no_rejects
    bounded_sent_expires (Cancels vlr attempt cause) b x = bounded_cancel L.record_of _ vlr (attempt + 1) cause (is_repeated L vlr attempt) here.known
        (ended_in d.transaction.remote [] [] bounds.remote no_rejects (tt, few_none))
        (λ q. let less : attempt < 3 = ltb-true attempt 3 (and_parts _ _ q).0 in
        (let P : List ℕ → Type 0 = λ y. AreDigits y in subst P x bounds.subscriber, b.0, omega arith, omega arith))
    bounded_sent_expires Data b x = bounded_over _ (ended_in d.transaction.remote [] [] bounds.remote no_rejects (tt, few_none))

    pub bounded_expires : (j : ℤ) (was : Was) → d.subscriber ≡ L.imsi → Bounded L new (expires L i d j was new)
    bounded_expires j OperationSent x = bounded_sent_expires d.kind bounds.kind x
    bounded_expires j WaitForReject x = record {
      after = here.known;
      stays = λ f e. subst (λ v. DialogueInBounds v) (some_inj _ f _ refl e)
          (record {
            subscriber = bounds.subscriber;
            peer = bounds.peer;
            remote = bounds.remote;
            invocations = every_without
                (λ (v : Invocation). IsInvokeId v.id) j d.invocations bounds.invocations;
            kind = bounds.kind;
          });
      opens = no_dialogue;
      sent = λ t. tt;
    }

  -- an operator's changes

  bounded_codes : (s : Subscriber) (codes : List ℕ) (g : Option Register) → L.record_of ≡ Some s → AreCodes codes → IfThere IsRegister g
      → Bounded L new (codes_to L s codes new g)
  bounded_codes s codes g r h k = at_register g k
    where
      changed : RecordInBounds (record s { codes = codes; current = None })
      changed = let b : RecordInBounds s = (here.known s r).1 in record { msisdn = b.msisdn; codes = h; roam = b.roam; register = b.register }

      at_register : (g : Option Register) → IfThere IsRegister g → Bounded L new (codes_to L s codes new g)
      at_register None k = bounded_record s (record s { codes = codes; current = None }) None [] r changed no_dialogue tt
      at_register (Some register) k = by s.purged
        where
          by : (b : Bool) → Bounded L new (record {
            after = Some (record s { codes = codes; current = None });
            stays = None;
            opens = cond b None (Some (data_to L register codes));
            sent = cond b [] (send register.vlr (SentBegin new SubscriberDataMngt (inserts (Some L.imsi) s.msisdn codes)));
          })
          by true = bounded_record s (record s { codes = codes; current = None }) None [] r changed no_dialogue tt
          by false = record {
            after = λ u e. ((here.known s r).0, subst (λ v. RecordInBounds v) (some_inj _ u _ refl e) changed);
            stays = no_dialogue;
            opens = λ d e. subst (λ v. DialogueInBounds v) (some_inj _ d _ refl e)
                (record { subscriber = (here.known s r).0; peer = k.vlr; remote = tt; invocations = inserts_ids L.clock codes h; kind = tt });
            sent = λ t. ((k.vlr, (t refl, inserts_bounded (Some L.imsi) s.msisdn codes (here.known s r).0 (here.known s r).1.msisdn h)), tt);
          }

  bounded_withdraw : (s : Subscriber) (g : Option Register) → L.record_of ≡ Some s → IfThere IsRegister g → Bounded L new (withdraw_from L s new g)
  bounded_withdraw s g r k = at_register g k
    where
      gone : RecordInBounds (record s { register = None; purged = false; current = None; withdrawn = true })
      gone = let b : RecordInBounds s = (here.known s r).1 in record { msisdn = b.msisdn; codes = b.codes; roam = b.roam; register = tt }

      at_register : (g : Option Register) → IfThere IsRegister g → Bounded L new (withdraw_from L s new g)
      at_register None k = bounded_record s (record s { register = None; purged = false; current = None; withdrawn = true }) None [] r gone no_dialogue tt
      at_register (Some register) k = record {
        after = λ u e. ((here.known s r).0, subst (λ v. RecordInBounds v) (some_inj _ u _ refl e) gone);
        stays = no_dialogue;
        opens = λ d e. subst (λ v. DialogueInBounds v) (some_inj _ d _ refl e)
            (record {
              subscriber = (here.known s r).0;
              peer = k.vlr;
              remote = tt;
              invocations = (id_small 1 (lit< tt), tt);
              kind =
                  (k.vlr, omega arith, omega arith);
            });
        sent = λ t. ((k.vlr, (t refl, (((id_small 1 (lit< tt), (here.known s r).0), tt), few_one))), tt);
      }

  pub bounded_changes : (change : Change) (R : Option Subscriber) → L.record_of ≡ R → ChangeInBounds change → Bounded L new (changes L change R new)
  bounded_changes change None r h = bounded_unchanged [] tt
  bounded_changes change (Some s) r h = by s.withdrawn
    where
      of : (c : Change) → ChangeInBounds c → Bounded L new (change_to L s c new)
      of (Codes codes) g = bounded_codes s codes s.register r g (here.known s r).1.register
      of Withdraw g = bounded_withdraw s s.register r (here.known s r).1.register

      by : (b : Bool) → Bounded L new (cond b (unchanged L []) (change_to L s change new))
      by true = bounded_unchanged [] tt
      by false = of change h
