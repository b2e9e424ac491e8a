-- A plan that is carried out, as a step of the machine over octets; and one for which there is no room.
use Rattle.std.proofs.Common.{◌≡◌, ◌≢◌, ℕ, List, Option, Some, None, is_some, IsTrue, refl, sym, ap, ◌∙◌, subst}
use Rattle.std.specs.Prelude.{IfSome}
use Rattle.machine.specs.Received.{Component}
use Rattle.machine.specs.Sent.{SentAbort, Cause}
use Rattle.machine.specs.Events.{Change, Event, Operator}
use Rattle.machine.specs.State.{IsIdOf, State}
use Rattle.machine.specs.Outcome.{Outcome, send}
use Rattle.machine.specs.Turns.{Turn, Begins, Changes, TurnsTo, concern}
use Rattle.machine.specs.Keys.{shard_of}
use Rattle.machine.specs.Routing.{route}
use Rattle.machine.specs.Step.{Answer, Full, HasNoRoom, IsNewId, WouldOverflow, moved, outcome_in, taken, ticked}
use Rattle.frames.specs.Octets.{RawEvent}
use Rattle.dialogues.specs.Dialogues.{IsNew, next_of}
use Rattle.location.specs.declared.outcome.DialogueChange.{DialogueChange}
use Rattle.location.specs.declared.outcome.DialogueChange.TheVariants.{Closes, Opens, GoesOn, Forgets}
use Rattle.location.specs.Seen.{opens_of}
use Rattle.hlrcore.specs.declared.answer.StepAnswer.{StepAnswer}
use Rattle.hlrcore.specs.declared.plan.Plan.{Plan}
use Rattle.hlrcore.specs.declared.plan.Named.{Named}
use Rattle.hlrcore.specs.declared.plan.Named.TheVariants.{Nothing, Open, Continued}
use Rattle.hlrcore.specs.Answers.{Says}
use Rattle.hlrcore.specs.Plans.{HasRoom, IsNextId, IsOpening, Overflows, id_of, plan_outcome, state_after_plan}
use Rattle.hlrcore.specs.Shards.{ShardState, directory_of, state_of}
use Rattle.hlrcore.specs.Planning.{IsPlan}
use Rattle.hlrcore.specs.Leading.{IsMine, Leads}
use Rattle.hlrcore.proofs.TakenLemmas.{routed_here, taken_step}
use Rattle.hlrcore.proofs.TurnLemmas.{IsForOpen}

-- ---- whether a dialogue opens

opens_in : (clock : ℕ) (stays : DialogueChange) → IsTrue (is_some (opens_of clock stays)) → IsOpening stays
opens_in clock Closes e = absurd cc
opens_in clock (Opens o) e = tt
opens_in clock (GoesOn left) e = absurd cc
opens_in clock (Forgets invoke) e = absurd cc

opens_out : (clock : ℕ) (stays : DialogueChange) → IsOpening stays → IsTrue (is_some (opens_of clock stays))
opens_out clock Closes e = absurd e
opens_out clock (Opens o) e = cc
opens_out clock (GoesOn left) e = absurd e
opens_out clock (Forgets invoke) e = absurd e

-- ---- the id that it takes is new

next_new : (s : ShardState) (named : Named) (new : List ℕ) → IsNextId s named new → (id_of named ≡ None → next_of s.dialogues ≢ None) → IsNew s.dialogues new
next_new s Nothing new is room = at (next_of s.dialogues) is (room refl)
  where
    at : (o : Option (List ℕ)) → IfSome o (λ id. (id ≡ new) × IsNew s.dialogues id) → o ≢ None → IsNew s.dialogues new
    at None is some = absurd (some refl)
    at (Some id) is some = subst (IsNew s.dialogues) is.0 is.1
next_new s (Open id) new is room = is.1
next_new s (Continued id peer remote) new is room = is.1

new_here : (s : ShardState) (new : List ℕ) → s.dialogues.shard ≡ s.shard → IsNew s.dialogues new → IsNewId (state_of s) s.shard new
unfolding state_of
new_here s new own is = record { of_shard = subst (λ n. IsIdOf n new) own is.of_shard; is_new = is.not_open }

-- ---- what is settled

concern_here : (s : ShardState) (turn : Turn) (c : Option (List ℕ)) → concern (directory_of s.directory) turn ≡ c → concern (state_of s).directory turn ≡ c
unfolding state_of
concern_here s turn c e = e

pub settled_step : (s t : ShardState) (raw : RawEvent) (e : Event) (turn : Turn) (plan : Plan) (a : StepAnswer)
    → IsMine s raw e → TurnsTo (state_of s) e turn → s.dialogues.shard ≡ s.shard → ((S : State) → ticked turn S ≡ S)
    → IsPlan s turn plan → HasRoom s plan → (Overflows s plan → ⊥)
    → state_of t ≡ state_after_plan s plan → Says a (taken plan.new (plan_outcome s plan).opens) plan.subject (plan_outcome s plan).sent
    → Leads s raw a t
settled_step s t raw e turn plan a mine turns own still is room not_over after says =
    let concerned : concern (state_of s).directory turn ≡ plan.imsi = concern_here s turn plan.imsi is.concern_is in
    taken_step (state_of s) (state_of t) s.shard raw e turn plan.new (plan_outcome s plan) a mine.is_event (routed_here s e mine.routed) turns is.leaves
    (λ some. new_here s plan.new own (next_new s plan.named plan.new is.can.next_id (room (opens_in _ plan.outcome.dialogue some))))
    (λ over. not_over (record { opens = opens_in _ plan.outcome.dialogue over.opens; beside = sym is.named_is ∙ over.beside; full = over.full }))
    (after ∙ (λ i. moved (state_of s) (sym concerned i) (sym is.named_is i) plan.new (plan_outcome s plan)) ∙ sym (still _))
    (subst (λ (x : Option (List ℕ)). Says a (taken plan.new (plan_outcome s plan).opens) x (plan_outcome s plan).sent) is.subject_is says)

-- ---- no room

overflows_at : (s : ShardState) (n : ℕ) (turn : Turn) (plan : Plan) → n ≡ s.shard → IsPlan s turn plan
    → Overflows s plan
    → WouldOverflow (state_of s) n turn (outcome_in (state_of s) n turn plan.new)
overflows_at s n turn plan here is over =
    subst (λ m. WouldOverflow (state_of s) m turn (outcome_in (state_of s) m turn plan.new)) (sym here)
    (subst (λ (o : Outcome). WouldOverflow (state_of s) s.shard turn o) (sym is.leaves)
    (record { opens = opens_out _ plan.outcome.dialogue over.opens; beside = is.named_is ∙ over.beside; full = over.full }))

-- A Begin that is turned away.
pub turned_step : (s : ShardState) (raw : RawEvent) (e : Event) (from origin : List ℕ) (name : Option (List ℕ)) (components : List Component) (plan : Plan)
    (a : StepAnswer)
    → IsMine s raw e → TurnsTo (state_of s) e (Begins from origin name components)
    → IsPlan s (Begins from origin name components) plan → Overflows s plan
    → Says a None plan.subject (send from (SentAbort origin (Cause 4))) → Leads s raw a s
turned_step s raw e from origin name components plan a mine turns is over says =
    let answer : Answer = record { id = None; subject = plan.subject; sent = send from (SentAbort origin (Cause 4)) } in (
      record { event = e; answer = answer },
      record { event = mine.is_event; id = says.id_is; subject = says.subject_is; outs = says.outs },
      Full (Begins from origin name components) plan.new turns (record {
        from = from;
        origin = origin;
        name = name;
        components = components;
        begins = refl;
        overflows = overflows_at s (route (state_of s).directory e) (Begins from origin name components) plan (routed_here s e mine.routed) is over;
        state = refl;
        id = refl;
        subject = is.subject_is;
        sent = refl;
      }),
    )

-- A change that is refused.
pub no_room : (s : ShardState) (imsi : List ℕ) (change : Change) (plan : Plan) → shard_of imsi ≡ s.shard
    → IsPlan s (Changes imsi change) plan → Overflows s plan → HasNoRoom (state_of s) (Operator imsi change)
no_room s imsi change plan here is over = (plan.new, overflows_at s (shard_of imsi) (Changes imsi change) plan here is over)

-- An event for an open dialogue has room.
opens_not : (clock : ℕ) (stays : DialogueChange) → opens_of clock stays ≡ None → IsOpening stays → ⊥
opens_not clock Closes e o = o
opens_not clock (Opens p) e o = absurd cc
opens_not clock (GoesOn left) e o = o
opens_not clock (Forgets invoke) e o = o

pub open_has_room : (s : ShardState) (turn : Turn) (plan : Plan) → IsPlan s turn plan → IsForOpen turn
    → HasRoom s plan
open_has_room s turn plan is for opens beside =
    absurd (opens_not _ plan.outcome.dialogue (sym (ap (λ (o : Outcome). o.opens) is.leaves) ∙ for (is.named_is ∙ beside) (state_of s) s.shard plan.new) opens)

pub open_never_overflows : (s : ShardState) (turn : Turn) (plan : Plan) → IsPlan s turn plan → IsForOpen turn
    → Overflows s plan → ⊥
open_never_overflows s turn plan is for over =
    opens_not _ plan.outcome.dialogue (sym (ap (λ (o : Outcome). o.opens) is.leaves) ∙ for (is.named_is ∙ over.beside) (state_of s) s.shard plan.new) over.opens
