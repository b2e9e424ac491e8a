-- A full shard, with the subscribers of the worked examples.
use Rattle.std.proofs.Common.{◌≡◌, ℕ, pos, List, [], ◌∷◌, false, refl, sym, ap, ◌∙◌, Some, None, is_some, IsTrue}
use Rattle.std.proofs.lemmas.Bool.{both_ways}
use Rattle.machine.specs.Step.{Answer, Full, HasNoRoom, Step, Taken, if_known, outcome, outcome_in, seen}
use Rattle.machine.specs.Turns.{Begins, turn_of_message}
use Rattle.machine.specs.Sent.{Cause, NetworkLocUp, RouteResult, SentAbort, SentEnd, ShortMsgGateway}
use Rattle.machine.specs.Events.{Frame, Operator, Withdraw}
use Rattle.machine.specs.State.{IsFull, State, local_of}
use Rattle.machine.specs.Received.{Message, Read}
use Rattle.machine.specs.Contexts.{accepted, context_of, name_of}
use Rattle.machine_laws.specs.Worked.{at_a, at_b, begin_in, first_imsi, first_msisdn, first_record, gateway, one, route_of, theirs, update_of, vlr_b}
use Rattle.machine.specs.Begins.{route_component, update_begins}
use Rattle.machine.specs.Changes.{changes}
use Rattle.machine.specs.Effect.{effect}
use Rattle.machine_laws.specs.Play.{play}
use Rattle.machine.specs.Routing.{route, shard_of_subject}
use Rattle.machine.specs.Outcome.{send}
use Rattle.machine.specs.Keys.{shard_of}
use Rattle.machine.specs.SmRoute.{sm_route}

the_update : Message
the_update = begin_in NetworkLocUp (update_of first_imsi at_b ∷ [])

-- it would open a dialogue
update_opens : (S : State) (new : List ℕ) → S.records first_imsi ≡ Some first_record
    → IsTrue (is_some (outcome_in S 1 (turn_of_message S.dialogues vlr_b (begin_in NetworkLocUp (update_of first_imsi at_b ∷ []))) new).opens)
unfolding local_of effect accepted context_of
update_opens S new r = ap (λ R. is_some (update_begins (local_of S 1 first_imsi)
    (record { from = vlr_b; origin = theirs; context = NetworkLocUp; rejects = [] }) (pos 1) at_b R new).opens) r

pub update_away : (S : State) → IsFull S 1 → S.records first_imsi ≡ Some first_record
    → Step S (Frame vlr_b (Read (begin_in NetworkLocUp (update_of first_imsi at_b ∷ [])))) S (record {
      id = None;
      subject = Some first_imsi;
      sent = one vlr_b
          (SentAbort theirs (Cause 4));
    })
unfolding shard_of
update_away S full r = Full (turn_of_message S.dialogues vlr_b (begin_in NetworkLocUp (update_of first_imsi at_b ∷ []))) [] refl (record {
  from = vlr_b;
  origin = theirs;
  name = Some (name_of NetworkLocUp);
  components = update_of first_imsi at_b ∷ [];
  begins = refl;
  overflows = record { opens = update_opens S [] r; beside = refl; full = full };
  state = refl;
  id = refl;
  subject = sym (ap (λ R. if_known first_imsi R) r);
  sent = refl;
})

pub withdrawal_without_room : (S : State) → IsFull S 1 → S.records first_imsi ≡ Some first_record → HasNoRoom S (Operator first_imsi Withdraw)
unfolding shard_of local_of
withdrawal_without_room S full r = (
  [],
  record {
    opens = ap (λ R. is_some
        (changes (local_of S 1 first_imsi) Withdraw R []).opens) r;
    beside = refl;
    full = full;
  },
)

pub route_answered : (S : State) → IsFull S 1 → S.records first_imsi ≡ Some first_record → S.directory first_msisdn ≡ Some first_imsi
    → (T : State) × (a : Answer) × Step S (Frame gateway (Read (begin_in ShortMsgGateway (route_of first_msisdn ∷ [])))) T a
    × (a.sent ≡ one gateway (SentEnd theirs (Some ShortMsgGateway) [] (RouteResult (pos 1) first_imsi at_a.msc None ∷ [])))
unfolding local_of effect accepted context_of
route_answered S full r d = (
  (play S (route S.directory (Frame gateway (Read (begin_in ShortMsgGateway (route_of first_msisdn ∷ [])))))
      (Begins gateway theirs (Some (name_of ShortMsgGateway)) (route_of first_msisdn ∷ [])) []).state,
  (play S (route S.directory (Frame gateway (Read (begin_in ShortMsgGateway (route_of first_msisdn ∷ [])))))
      (Begins gateway theirs (Some (name_of ShortMsgGateway)) (route_of first_msisdn ∷ [])) []).answer,
  Taken (Begins gateway theirs (Some (name_of ShortMsgGateway)) (route_of first_msisdn ∷ [])) [] refl (record {
    opens = λ t. absurd (both_ways false refl t);
    room = λ w. both_ways false refl w.opens;
    state = refl;
    id = refl;
    subject = refl;
    sent = refl;
  }),
  ap (λ o. (outcome (seen S (shard_of_subject (S.directory first_msisdn)) o)
      (Begins gateway theirs (Some (name_of ShortMsgGateway)) (route_of first_msisdn ∷ [])) []).sent) d
      ∙ ap (λ R. send gateway (SentEnd theirs (Some ShortMsgGateway) [] (route_component (pos 1) (sm_route first_imsi R) ∷ []))) r,
)
