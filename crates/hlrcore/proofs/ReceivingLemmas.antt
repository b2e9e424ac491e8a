-- A received frame, by the turn of its verdict.
use Rattle.std.proofs.Common.{◌≡◌, ℕ, List, [], map, Bool, true, false, Option, Some, None, refl, sym, ap, ◌∙◌, subst}
use Rattle.std.specs.Prelude.{Result, Ok, Err, IfOk, OnOk}
use Rattle.machine.specs.Received.{Component, Verdict, Read, Begin}
use Rattle.machine.specs.Sent.{Out, SentAbort, Cause}
use Rattle.machine.specs.Events.{Frame, Expire, Operator, Change}
use Rattle.machine.specs.State.{Dialogue}
use Rattle.machine.specs.Outcome.{send}
use Rattle.machine.specs.Turns.{Turn, Begins, Changes, Dismissed, Expiry, TurnsTo, close_at, continue_at, turn_of_verdict}
use Rattle.machine.specs.Step.{taken}
use Rattle.frames.specs.Octets.{RawFrame, RawExpire, RawChange}
use Rattle.q773_comp.specs.declared.component.Component as code
use Rattle.q773_comp.specs.Seen.{component}
use Rattle.msgarena.specs.declared.parameter.Parameter.{Parameter}
use Rattle.msgarena.specs.Seen.{parameter}
use Rattle.msgarena.specs.JudgedFrame.{JudgedFrame}
use Rattle.dialogues.specs.Dialogues.{dialogues_of}
use Rattle.location.specs.Asking.{IsBeginOf}
use Rattle.hlrcore.specs.declared.answer.StepAnswer.{StepAnswer}
use Rattle.hlrcore.specs.declared.plan.Plan.{Plan}
use Rattle.hlrcore.specs.Answers.{Says}
use Rattle.hlrcore.specs.Plans.{CanSettle, HasRoom, Overflows, plan_outcome, state_after_plan}
use Rattle.hlrcore.specs.Shards.{ShardState, state_of}
use Rattle.hlrcore.specs.Planning.{IsExpiry, IsPlan, IsPlanOr}
use Rattle.hlrcore.specs.Receiving.{Receives, IsClosing, IsContinueOf, IsForMe}
use Rattle.hlrcore.specs.Leading.{IsMine, Leads}
use Rattle.hlrcore.proofs.TakenLemmas.{dismissed_step}
use Rattle.hlrcore.proofs.SettledLemmas.{open_has_room, open_never_overflows, settled_step, turned_step}
use Rattle.hlrcore.proofs.TurnLemmas.{close_for_open, close_still, continue_for_open, continue_still, expiry_for_open, expiry_still}

-- what is settled
abbrev pub IsSettled : (s t : ShardState) → Plan → StepAnswer → Type 0
IsSettled s t plan a =
    (state_of t ≡ state_after_plan s plan) × Says a (taken plan.new (plan_outcome s plan).opens) plan.subject (plan_outcome s plan).sent

pub both_ok : {A E X : Type 0} {P Q : A → Type 0} (r : Result A E) → ((a : A) → X → P a → Q a) → OnOk r X → IfOk r P → IfOk r Q
both_ok (Ok a) f x p = f a x p
both_ok (Err e) f x p = tt

pub has_no : (b : Bool) {X : Type 0} → b ≡ true → (X → b ≡ false) → X → ⊥
has_no b e f x = let t = e in let u = f x in absurd cc

mine_frame : (s : ShardState) (h : JudgedFrame) → IsForMe s h → IsMine s (RawFrame h.from h.octets) (Frame h.from h.verdict)
mine_frame s h mine = record { is_event = (refl, mine.judged); routed = mine.routed }

-- the turn of a verdict in a shard
turned : (s : ShardState) (from : List ℕ) (v : Verdict) (turn : Turn) → turn ≡ turn_of_verdict (dialogues_of s.dialogues) from v
    → TurnsTo (state_of s) (Frame from v) turn
unfolding state_of
turned s from v turn e = e

-- a frame that is answered without a change of state
pub received_as : (s : ShardState) (h : JudgedFrame) (w : Verdict) (sent : List Out) (a : StepAnswer) → IsForMe s h → h.verdict ≡ w
    → ((dialogues : List ℕ → Option Dialogue) → turn_of_verdict dialogues h.from w ≡ Dismissed sent) → Says a None None sent → Receives s h a s
received_as s h w sent a mine e turns says =
    dismissed_step s (RawFrame h.from h.octets) (Frame h.from h.verdict) sent a (mine_frame s h mine)
    (turned s h.from h.verdict (Dismissed sent) (sym (ap (turn_of_verdict (dialogues_of s.dialogues) h.from) e ∙ turns (dialogues_of s.dialogues)))) says

-- ---- a Begin

abbrev IsBeginPlan : ShardState → JudgedFrame → (origin : List ℕ) → List Component → Plan → Type 0
IsBeginPlan s h origin cs plan =
    (name : Option (List ℕ)) → h.verdict ≡ Read (Begin origin name cs) → IsPlan s (Begins h.from origin name cs) plan

pub begin_settled : (s t : ShardState) (h : JudgedFrame) (origin : List ℕ) (cs : List Component) (plan : Plan) (a : StepAnswer) → IsForMe s h
    → IsBeginOf h.verdict origin cs
    → IsBeginPlan s h origin cs plan → s.dialogues.shard ≡ s.shard → HasRoom s plan → (Overflows s plan → ⊥)
    → IsSettled s t plan a → Receives s h a t
begin_settled s t h origin cs plan a mine begin is own room never done =
    let (name, e) = begin in
    settled_step s t (RawFrame h.from h.octets) (Frame h.from h.verdict) (Begins h.from origin name cs) plan a (mine_frame s h mine)
    (turned s h.from h.verdict (Begins h.from origin name cs) (sym (ap (turn_of_verdict (dialogues_of s.dialogues) h.from) e))) own (λ S. refl)
    (is name e) room never done.0 done.1

pub begin_turned_away : (s : ShardState) (h : JudgedFrame) (origin : List ℕ) (cs : List Component) (plan : Plan) (a : StepAnswer) → IsForMe s h
    → IsBeginOf h.verdict origin cs
    → IsBeginPlan s h origin cs plan → Overflows s plan → Says a None plan.subject (send h.from (SentAbort origin (Cause 4))) → Receives s h a s
begin_turned_away s h origin cs plan a mine begin is over says =
    let (name, e) = begin in
    turned_step s (RawFrame h.from h.octets) (Frame h.from h.verdict) h.from origin name cs plan a (mine_frame s h mine)
    (turned s h.from h.verdict (Begins h.from origin name cs) (sym (ap (turn_of_verdict (dialogues_of s.dialogues) h.from) e))) (is name e) over says

-- ---- what is for an open dialogue

abbrev seen : List (code.Component Parameter) → List Component
seen cs = map (component parameter) cs

pub continue_settled : (s t : ShardState) (h : JudgedFrame) (origin destination : List ℕ) (cs : List (code.Component Parameter)) (plan : Plan) (a : StepAnswer)
    → IsForMe s h
    → IsContinueOf h.verdict origin destination (seen cs)
    → IsPlan s (continue_at h.from origin destination (seen cs) (dialogues_of s.dialogues destination)) plan → s.dialogues.shard ≡ s.shard
    → IsSettled s t plan a → Receives s h a t
continue_settled s t h origin destination cs plan a mine continue is own done =
    let d = dialogues_of s.dialogues destination in
    let turn = continue_at h.from origin destination (seen cs) d in
    let for = continue_for_open h.from origin destination (seen cs) d in
    settled_step s t (RawFrame h.from h.octets) (Frame h.from h.verdict) turn plan a (mine_frame s h mine)
    (turned s h.from h.verdict turn (sym (ap (turn_of_verdict (dialogues_of s.dialogues) h.from) continue.1))) own
    (continue_still h.from origin destination (seen cs) d) is
    (open_has_room s turn plan is for) (open_never_overflows s turn plan is for) done.0 done.1

pub continue_room : (s : ShardState) (from origin destination : List ℕ) (cs : List (code.Component Parameter)) (plan : Plan)
    → IsPlan s (continue_at from origin destination (seen cs) (dialogues_of s.dialogues destination)) plan → HasRoom s plan
continue_room s from origin destination cs plan is =
    open_has_room s _ plan is (continue_for_open from origin destination (seen cs) (dialogues_of s.dialogues destination))

pub continue_dismissed : (s : ShardState) (h : JudgedFrame) (origin destination : List ℕ) (cs : List (code.Component Parameter)) (sent : List Out)
    (a : StepAnswer) → IsForMe s h
    → IsContinueOf h.verdict origin destination (seen cs)
    → continue_at h.from origin destination (seen cs) (dialogues_of s.dialogues destination) ≡ Dismissed sent → Says a None None sent → Receives s h a s
continue_dismissed s h origin destination cs sent a mine continue is says =
    dismissed_step s (RawFrame h.from h.octets) (Frame h.from h.verdict) sent a (mine_frame s h mine)
    (turned s h.from h.verdict (Dismissed sent) (sym (ap (turn_of_verdict (dialogues_of s.dialogues) h.from) continue.1 ∙ is))) says

pub close_settled : (s t : ShardState) (h : JudgedFrame) (destination : List ℕ) (plan : Plan) (a : StepAnswer) → IsForMe s h → IsClosing h.verdict destination
    → IsPlan s (close_at destination (dialogues_of s.dialogues destination)) plan → s.dialogues.shard ≡ s.shard → IsSettled s t plan a → Receives s h a t
close_settled s t h destination plan a mine closing is own done =
    let d = dialogues_of s.dialogues destination in
    let for = close_for_open destination d in
    settled_step s t (RawFrame h.from h.octets) (Frame h.from h.verdict) (close_at destination d) plan a (mine_frame s h mine)
    (turned s h.from h.verdict (close_at destination d) (sym (closing (dialogues_of s.dialogues) h.from))) own (close_still destination d) is
    (open_has_room s (close_at destination d) plan is for) (open_never_overflows s (close_at destination d) plan is for) done.0 done.1

pub close_room : (s : ShardState) (destination : List ℕ) (plan : Plan) → IsPlan s (close_at destination (dialogues_of s.dialogues destination)) plan
    → HasRoom s plan
close_room s destination plan is = open_has_room s _ plan is (close_for_open destination (dialogues_of s.dialogues destination))

pub close_dismissed : (s : ShardState) (h : JudgedFrame) (destination : List ℕ) (a : StepAnswer) → IsForMe s h → IsClosing h.verdict destination
    → close_at destination (dialogues_of s.dialogues destination) ≡ Dismissed [] → Says a None None [] → Receives s h a s
close_dismissed s h destination a mine closing is says =
    dismissed_step s (RawFrame h.from h.octets) (Frame h.from h.verdict) [] a (mine_frame s h mine)
    (turned s h.from h.verdict (Dismissed []) (sym (closing (dialogues_of s.dialogues) h.from ∙ is))) says

-- ---- an expiry

pub expiry_settled : (s t : ShardState) (plan : Plan) (a : StepAnswer) → IsExpiry s (Some plan) → s.dialogues.shard ≡ s.shard → IsSettled s t plan a
    → Leads s (RawExpire s.shard) a t
expiry_settled s t plan a is own done =
    let for = expiry_for_open (state_of s) s.shard is.turn is.expiry in
    settled_step s t (RawExpire s.shard) (Expire s.shard) is.turn plan a (record { is_event = refl; routed = refl }) is.expiry own
    (expiry_still (state_of s) s.shard is.turn is.expiry) is.planned (open_has_room s is.turn plan is.planned for)
    (open_never_overflows s is.turn plan is.planned for)
    done.0 done.1

pub expiry_room : (s : ShardState) (plan : Plan) → IsExpiry s (Some plan) → HasRoom s plan
expiry_room s plan is = open_has_room s is.turn plan is.planned (expiry_for_open (state_of s) s.shard is.turn is.expiry)

pub expiry_dismissed : (s : ShardState) (a : StepAnswer) → IsExpiry s None → Says a None None [] → Leads s (RawExpire s.shard) a s
expiry_dismissed s a is says =
    dismissed_step s (RawExpire s.shard) (Expire s.shard) [] a (record { is_event = refl; routed = refl })
    (subst (Expiry (state_of s) s.shard) is.planned is.expiry) says

-- ---- an operator's change

pub change_settled : (s t : ShardState) (imsi : List ℕ) (change : Change) (plan : Plan) (a : StepAnswer)
    → IsMine s (RawChange imsi change) (Operator imsi change)
    → IsPlan s (Changes imsi change) plan → s.dialogues.shard ≡ s.shard → HasRoom s plan → (Overflows s plan → ⊥) → IsSettled s t plan a
    → Leads s (RawChange imsi change) a t
change_settled s t imsi change plan a mine is own room never done =
    settled_step s t (RawChange imsi change) (Operator imsi change) (Changes imsi change) plan a mine refl own (λ S. refl) is room never done.0 done.1

-- ---- the same, of the state that the shard is part of, and of what was found

pub begin_taken : (s0 s t : ShardState) (h : JudgedFrame) (origin : List ℕ) (cs : List Component) (plan : Plan) (a : StepAnswer) → s0 ≡ s → IsForMe s h
    → IsBeginOf h.verdict origin cs → IsBeginPlan s0 h origin cs plan → s0.dialogues.shard ≡ s0.shard → HasRoom s0 plan → (Overflows s0 plan → ⊥)
    → IsSettled s0 t plan a → Receives s h a t
begin_taken s0 s t h origin cs plan a view mine begin is own room never done =
    subst (λ x. Receives x h a t) view (begin_settled s0 t h origin cs plan a (subst (λ x. IsForMe x h) (sym view) mine) begin is own room never done)

pub begin_refused : (s0 s : ShardState) (h : JudgedFrame) (from origin : List ℕ) (cs : List Component) (plan : Plan) (a : StepAnswer) → s0 ≡ s → IsForMe s h
    → IsBeginOf h.verdict origin cs → from ≡ h.from → IsBeginPlan s0 h origin cs plan → Overflows s0 plan
    → Says a None plan.subject (send from (SentAbort origin (Cause 4))) → Receives s h a s
begin_refused s0 s h from origin cs plan a view mine begin source is over says =
    subst (λ x. Receives x h a x) view (begin_turned_away s0 h origin cs plan a (subst (λ x. IsForMe x h) (sym view) mine) begin is over
    (subst (λ to. Says a None plan.subject (send to (SentAbort origin (Cause 4)))) source says))

-- the turn of a Continue from this source
abbrev pub IsFound : (s : ShardState) → (from origin destination : List ℕ) → List (code.Component Parameter) → Option Plan → Type 0
IsFound s from origin destination cs found = IsPlanOr s (continue_at from origin destination (seen cs) (dialogues_of s.dialogues destination))
    (send from (SentAbort origin (Cause 1))) found

pub found_can : (s : ShardState) (from origin destination : List ℕ) (cs : List (code.Component Parameter)) (found : Option Plan) (plan : Plan)
    → IsFound s from origin destination cs found → found ≡ Some plan → CanSettle s plan
found_can s from origin destination cs found plan is e = (subst (IsFound s from origin destination cs) e is).can

pub found_room : (s : ShardState) (from origin destination : List ℕ) (cs : List (code.Component Parameter)) (found : Option Plan) (plan : Plan)
    → IsFound s from origin destination cs found → found ≡ Some plan → HasRoom s plan
found_room s from origin destination cs found plan is e = continue_room s from origin destination cs plan (subst (IsFound s from origin destination cs) e is)

pub continue_taken : (s0 s t : ShardState) (h : JudgedFrame) (from origin destination : List ℕ) (cs : List (code.Component Parameter)) (found : Option Plan)
    (plan : Plan) (a : StepAnswer)
    → s0 ≡ s → IsForMe s h → IsContinueOf h.verdict origin destination (seen cs) → from ≡ h.from → IsFound s0 from origin destination cs found
    → found ≡ Some plan
    → s0.dialogues.shard ≡ s0.shard → IsSettled s0 t plan a → Receives s h a t
continue_taken s0 s t h from origin destination cs found plan a view mine continue source is e own done =
    subst (λ x. Receives x h a t) view (continue_settled s0 t h origin destination cs plan a (subst (λ x. IsForMe x h) (sym view) mine) continue
    (subst (λ f. IsFound s0 f origin destination cs (Some plan)) source (subst (IsFound s0 from origin destination cs) e is)) own done)

pub continue_left : (s0 s : ShardState) (h : JudgedFrame) (from origin destination : List ℕ) (cs : List (code.Component Parameter)) (found : Option Plan)
    (a : StepAnswer)
    → s0 ≡ s → IsForMe s h → IsContinueOf h.verdict origin destination (seen cs) → from ≡ h.from → IsFound s0 from origin destination cs found → found ≡ None
    → Says a None None (send from (SentAbort origin (Cause 1))) → Receives s h a s
continue_left s0 s h from origin destination cs found a view mine continue source is e says =
    subst (λ x. Receives x h a x) view (continue_dismissed s0 h origin destination cs (send h.from (SentAbort origin (Cause 1))) a
    (subst (λ x. IsForMe x h) (sym view) mine) continue
    (subst (λ f. IsFound s0 f origin destination cs None) source (subst (IsFound s0 from origin destination cs) e is))
    (subst (λ to. Says a None None (send to (SentAbort origin (Cause 1)))) source says))

-- the turn of an End or an Abort
abbrev pub IsClosed : (s : ShardState) → (destination : List ℕ) → Option Plan → Type 0
IsClosed s destination found = IsPlanOr s (close_at destination (dialogues_of s.dialogues destination)) [] found

pub closed_can : (s : ShardState) (destination : List ℕ) (found : Option Plan) (plan : Plan) → IsClosed s destination found → found ≡ Some plan
    → CanSettle s plan
closed_can s destination found plan is e = (subst (IsClosed s destination) e is).can

pub closed_room : (s : ShardState) (destination : List ℕ) (found : Option Plan) (plan : Plan) → IsClosed s destination found → found ≡ Some plan
    → HasRoom s plan
closed_room s destination found plan is e = close_room s destination plan (subst (IsClosed s destination) e is)

pub close_taken : (s0 s t : ShardState) (h : JudgedFrame) (destination : List ℕ) (found : Option Plan) (plan : Plan) (a : StepAnswer) → s0 ≡ s → IsForMe s h
    → IsClosing h.verdict destination → IsClosed s0 destination found → found ≡ Some plan → s0.dialogues.shard ≡ s0.shard → IsSettled s0 t plan a
    → Receives s h a t
close_taken s0 s t h destination found plan a view mine closing is e own done =
    subst (λ x. Receives x h a t) view (close_settled s0 t h destination plan a (subst (λ x. IsForMe x h) (sym view) mine) closing
    (subst (IsClosed s0 destination) e is) own done)

pub close_left : (s0 s : ShardState) (h : JudgedFrame) (destination : List ℕ) (found : Option Plan) (a : StepAnswer) → s0 ≡ s → IsForMe s h
    → IsClosing h.verdict destination
    → IsClosed s0 destination found → found ≡ None → Says a None None [] → Receives s h a s
close_left s0 s h destination found a view mine closing is e says =
    subst (λ x. Receives x h a x) view (close_dismissed s0 h destination a (subst (λ x. IsForMe x h) (sym view) mine) closing
    (subst (IsClosed s0 destination) e is) says)

-- the turn of an expiry
pub expiry_can : (s : ShardState) (found : Option Plan) (plan : Plan) → IsExpiry s found → found ≡ Some plan → CanSettle s plan
expiry_can s found plan is e = (subst (IsExpiry s) e is).planned.can

pub expiry_has_room : (s : ShardState) (found : Option Plan) (plan : Plan) → IsExpiry s found → found ≡ Some plan → HasRoom s plan
expiry_has_room s found plan is e = expiry_room s plan (subst (IsExpiry s) e is)

pub expiry_taken : (s0 s t : ShardState) (found : Option Plan) (plan : Plan) (a : StepAnswer) → s0 ≡ s → IsExpiry s0 found → found ≡ Some plan
    → s0.dialogues.shard ≡ s0.shard → IsSettled s0 t plan a → Leads s (RawExpire s.shard) a t
expiry_taken s0 s t found plan a view is e own done =
    subst (λ x. Leads x (RawExpire x.shard) a t) view (expiry_settled s0 t plan a (subst (IsExpiry s0) e is) own done)

pub expiry_left : (s0 s : ShardState) (found : Option Plan) (a : StepAnswer) → s0 ≡ s → IsExpiry s0 found → found ≡ None → Says a None None []
    → Leads s (RawExpire s.shard) a s
expiry_left s0 s found a view is e says = subst (λ x. Leads x (RawExpire x.shard) a x) view (expiry_dismissed s0 a (subst (IsExpiry s0) e is) says)

pub change_taken : (s0 s t : ShardState) (imsi : List ℕ) (change : Change) (plan : Plan) (a : StepAnswer) → s0 ≡ s
    → IsMine s (RawChange imsi change) (Operator imsi change)
    → IsPlan s (Changes imsi change) plan → s0.dialogues.shard ≡ s0.shard → HasRoom s0 plan → (Overflows s0 plan → ⊥) → IsSettled s0 t plan a
    → Leads s (RawChange imsi change) a t
change_taken s0 s t imsi change plan a view mine is own room never done =
    subst (λ x. Leads x (RawChange imsi change) a t) view (change_settled s0 t imsi change plan a
    (subst (λ x. IsMine x (RawChange imsi change) (Operator imsi change)) (sym view) mine)
    (subst (λ x. IsPlan x (Changes imsi change) plan) (sym view) is) own room never done)
