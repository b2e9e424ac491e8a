-- A turn as a step of the machine over octets.
use Rattle.std.proofs.Common.{◌≡◌, ℕ, List, [], cond, Option, Some, None, is_some, IsTrue, refl, sym, ap, ◌∙◌, subst}
use Rattle.std.specs.Prelude.{Result, Ok, Err, IfOk, min, max, ◌==◌}
use Rattle.std.proofs.Common.{inl, inr, eq-eqb}
use Rattle.std.proofs.lemmas.Bool.{cases_eq, ne_eqb}
use Rattle.machine.specs.Keys.{put_at}
use Rattle.machine.specs.declared.numbers.TheConstants.{MAX_CLOCK}
use Rattle.machine_laws.proofs.Transfer.{put_at_same, put_at_other}
use Rattle.machine.specs.Sent.{Out}
use Rattle.machine.specs.Events.{Event, Clock}
use Rattle.machine.specs.State.{Dialogue, State, local_of_nobody}
use Rattle.machine.specs.Outcome.{Outcome, unchanged}
use Rattle.machine.specs.Turns.{Turn, Dismissed, Ticks, TurnsTo, concern, named}
use Rattle.machine.specs.Routing.{route}
use Rattle.machine.specs.Step.{Answer, IsNewId, Moves, Taken, WouldOverflow, moved, outcome_in, subject_of, taken, ticked}
use Rattle.frames.specs.Octets.{RawEvent, RawClock, IsEvent, StepOctets}
use Rattle.hlrcore.specs.declared.answer.StepAnswer.{StepAnswer}
use Rattle.hlrcore.specs.Answers.{Says, entry_of}
use Rattle.hlrcore.specs.Shards.{ShardState, state_of, records_of, directory_of}
use Rattle.dialogues.specs.Dialogues.{dialogues_of}
use Rattle.hlrcore.specs.Leading.{IsMine, Leads}

pub then_ok : {A E : Type 0} {P Q : A → Type 0} (r : Result A E) → ((a : A) → P a → Q a) → IfOk r P → IfOk r Q
then_ok (Ok a) f h = f a h
then_ok (Err e) f h = tt

nothing_opens : (o : Option Dialogue) → o ≡ None → IsTrue (is_some o) → ⊥
nothing_opens None e t = absurd cc
nothing_opens (Some d) e t = absurd cc

-- A turn of a shard with its outcome.
pub taken_step : (S T : State) (n : ℕ) (raw : RawEvent) (e : Event) (turn : Turn) (new : List ℕ) (o : Outcome) (a : StepAnswer)
    → IsEvent raw e → route S.directory e ≡ n → TurnsTo S e turn → outcome_in S n turn new ≡ o
    → (IsTrue (is_some o.opens) → IsNewId S n new) → (WouldOverflow S n turn o → ⊥)
    → T ≡ ticked turn (moved S (concern S.directory turn) (named turn) new o)
    → Says a (taken new o.opens) (subject_of S turn) o.sent
    → StepOctets S (entry_of raw a) T
taken_step S T n raw e turn new o a is_event routed turns is_o opens room after says =
    let answer : Answer = record { id = taken new o.opens; subject = subject_of S turn; sent = o.sent } in
    let moves : Moves S n turn new o T answer = record { opens = opens; room = room; state = after; id = refl; subject = refl; sent = refl } in
    let own : Moves S n turn new (outcome_in S n turn new) T answer = subst (λ (p : Outcome). Moves S n turn new p T answer) (sym is_o) moves in
    let there : Moves S (route S.directory e) turn new (outcome_in S (route S.directory e) turn new) T answer
    = subst (λ (m : ℕ). Moves S m turn new (outcome_in S m turn new) T answer) (sym routed) own in (
      record { event = e; answer = answer },
      record { event = is_event; id = says.id_is; subject = says.subject_is; outs = says.outs },
      Taken turn new turns there,
    )

pub routed_here : (s : ShardState) (e : Event) → route (directory_of s.directory) e ≡ s.shard → route (state_of s).directory e ≡ s.shard
unfolding state_of
routed_here s e is = is

-- What is answered without a change of state.
pub dismissed_step : (s : ShardState) (raw : RawEvent) (e : Event) (sent : List Out) (a : StepAnswer) → IsMine s raw e
    → TurnsTo (state_of s) e (Dismissed sent) → Says a None None sent → Leads s raw a s
dismissed_step s raw e sent a mine turns says =
    taken_step (state_of s) (state_of s) s.shard raw e (Dismissed sent) [] (unchanged (local_of_nobody (state_of s) s.shard) sent) a
    mine.is_event (routed_here s e mine.routed) turns refl (λ some. absurd (nothing_opens None refl some))
    (λ over. nothing_opens None refl over.opens) refl says

-- ---- clocks

clock_at : (shard clock k m : ℕ) → cond (m == shard) (max clock k) 0 ≡ put_at (λ j. cond (j == shard) clock 0) shard (max (cond (shard == shard) clock 0) k) m
clock_at shard clock k m = elim (cases_eq shard m) [
  | inl e ↦
      ap (λ b. cond b (max clock k) 0) (eq-eqb m shard (sym e))
      ∙ sym (put_at_same (λ j. cond (j == shard) clock 0) shard (max (cond (shard == shard) clock 0) k) m e
      ∙ ap (λ b. max (cond b clock 0) k) (eq-eqb shard shard refl))
  | inr differ ↦
      ap (λ b. cond b (max clock k) 0) (ne_eqb m shard (λ e. differ (sym e)))
      ∙ sym (put_at_other (λ j. cond (j == shard) clock 0) shard (max (cond (shard == shard) clock 0) k) m differ
      ∙ ap (λ b. cond b clock 0) (ne_eqb m shard (λ e. differ (sym e))))
]

ticks_here : (s : ShardState) (now : ℕ) → state_of (record s { clock = max s.clock (min now MAX_CLOCK) }) ≡ ticked (Ticks s.shard now) (state_of s)
unfolding state_of
ticks_here s now = λ i. record {
  records = records_of s.records;
  dialogues = dialogues_of s.dialogues;
  clocks = λ m. clock_at s.shard s.clock (min now MAX_CLOCK) m i;
  directory = directory_of s.directory;
  hlr = s.hlr;
}

-- a clock value for this shard
tick_step : (s : ShardState) (now : ℕ) (a : StepAnswer) → Says a None None []
    → Leads s (RawClock s.shard now) a (record s { clock = max s.clock (min now MAX_CLOCK) })
tick_step s now a says =
    taken_step (state_of s) (state_of (record s { clock = max s.clock (min now MAX_CLOCK) })) s.shard
    (RawClock s.shard now) (Clock s.shard now) (Ticks s.shard now) []
    (unchanged (local_of_nobody (state_of s) s.shard) []) a (refl, refl) refl refl refl
    (λ some. absurd (nothing_opens None refl some)) (λ over. nothing_opens None refl over.opens) (ticks_here s now) says

pub ticked_step : (s t : ShardState) (now : ℕ) (a : StepAnswer) → t ≡ record s { clock = max s.clock (min now MAX_CLOCK) } → Says a None None []
    → Leads s (RawClock s.shard now) a t
ticked_step s t now a is says = subst (Leads s (RawClock s.shard now) a) (sym is) (tick_step s now a says)
