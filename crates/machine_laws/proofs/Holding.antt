-- Holders is the register, along every run.
use Rattle.std.proofs.Common.{◌≡◌, ℕ, ℤ, List, [], ◌∷◌, Bool, false, refl, sym, ap, ◌∙◌, subst, ◌⊎◌, inl, inr, Option, Some, None, is_some, IsTrue}
use Rattle.std.proofs.Math.Path.{fun_ext}
use Rattle.std.proofs.lemmas.Bool.{both_ways}
use Rattle.machine.specs.Step.{Answer, Full, Moves, Step, Taken, if_known, known_in, moved, outcome, outcome_in, seen, taken, ticked}
use Rattle.machine.specs.Turns.{Begins, Changes, Closes, Continues, Dismissed, Expires, Ticks, Turn, concern, named}
use Rattle.machine.specs.State.{Dialogue, Local, State, Subscriber, Updates, local_of, local_of_nobody}
use Rattle.machine.specs.Legal.{Entry, answers_of, events_of}
use Rattle.machine.specs.Events.{Event}
use Rattle.machine.specs.Holders.{Holding, began_after, began_by, began_from, began_in, began_named, held_after, holders, holders_from, is_subject, names, serving, vlr_of, vlr_of_argument, vlr_of_dialogue, vlr_of_kind}
use Rattle.machine.specs.Outcome.{Outcome}
use Rattle.machine.specs.Received.{Register}
use Rattle.machine.specs.Run.{Run}
use Rattle.machine.specs.Sound.{Sound}
use Rattle.machine.specs.Begins.{first_argument}
use Rattle.machine.specs.Keys.{put, same}
use Rattle.machine.specs.Routing.{route}
use Rattle.machine_laws.proofs.Keys.{none_some, some_inj, put-other, put-at, cases_same, same_refl, not_same}
use Rattle.machine_laws.proofs.Outcomes.{Good, SoundBefore, good_begins, expires_any}
use Rattle.machine_laws.proofs.Views.{View, view, Idly, Ticking, Beginning, Continuing, Closing, Expiring, Changing}
use Rattle.machine_laws.proofs.Soundness.{From, from, Opened, Stayed, Was_there}
use Rattle.machine_laws.proofs.Steps.{Facts, facts, began_of, state_of, state_none, outcome_of, step_sound}
use Rattle.machine_laws.proofs.Subjects.{subject_known}

-- without a subscriber no dialogue opens, and what is sent changes no holder

pub record Bare (o : Outcome) : Type 0 where
  pub opens : o.opens ≡ None
  pub quiet : (y : List ℕ) (b : Option (List ℕ)) (h : Holding) (w : List ℕ) → held_after y false b o.sent h w ≡ h w

is_none : (o : Option Dialogue) → ((d : Dialogue) → o ≡ Some d → ⊥) → o ≡ None
is_none None h = refl
is_none (Some d) h = absurd (h d refl)

nobody_before : (S : State) (n : ℕ) → SoundBefore (local_of_nobody S n) S.dialogues
unfolding local_of_nobody
nobody_before S n s e = absurd (none_some s None refl e)

no_record : (S : State) (n : ℕ) → is_some (local_of_nobody S n).record_of ≡ false
unfolding local_of_nobody
no_record S n = refl

pub bare_came : (S : State) (e : Event) (turn : Turn) (n : ℕ) (new : List ℕ) → View S e turn → concern S.directory turn ≡ None
    → Bare (outcome (local_of_nobody S n) turn new)
bare_came S e _ n new (Idly out q) c = record { opens = refl; quiet = λ y b h w. q y false b h w }
bare_came S e _ n new (Ticking m now q) c = record { opens = refl; quiet = λ y b h w. refl }
bare_came S e _ n new (Beginning from r p cs q) c =
    let good : Good (local_of_nobody S n) S.dialogues None None (vlr_of_argument (first_argument cs)) new
    (outcome (local_of_nobody S n) (Begins from r p cs) new) = good_begins (local_of_nobody S n) S.dialogues None new (nobody_before S n) from r p cs in
    record {
      opens = is_none _ (λ d f. both_ways _ (no_record S n) (good.opens d f).1);
      quiet = λ y b h w. good.others y b h w (inr (no_record S n));
    }
bare_came S e _ n new (Continuing i d t cs there active v nm r) c = absurd (none_some d.subscriber _ c refl)
bare_came S e _ n new (Closing i d there v nm r) c = absurd (none_some d.subscriber _ c refl)
bare_came S e _ n new (Expiring m i d j v q due least) c = absurd (none_some d.subscriber _ c refl)
bare_came S e _ n new (Changing y k q) c = absurd (none_some y _ c refl)

-- the digits with which each open dialogue began
pub record BeganRight (S : State) (began : List ℕ → Option (List ℕ)) : Type 0 where
  pub each : (i : List ℕ) (d : Dialogue) → S.dialogues i ≡ Some d → began i ≡ vlr_of_kind d.kind

-- they are known of the dialogue that is named
began_came : (S : State) (e : Event) (began : List ℕ → Option (List ℕ)) (turn : Turn) (j : List ℕ) → View S e turn → BeganRight S began → named turn ≡ Some j
    → began j ≡ began_of turn
began_came S e began _ j (Idly out q) b n = absurd (none_some j None refl n)
began_came S e began _ j (Ticking m now q) b n = absurd (none_some j None refl n)
began_came S e began _ j (Beginning from r p cs q) b n = absurd (none_some j None refl n)
began_came S e began _ j (Continuing i d t cs there active v nm r) b n = ap began (some_inj j i _ n refl) ∙ b.each i d there
began_came S e began _ j (Closing i d there v nm r) b n = ap began (some_inj j i _ n refl) ∙ b.each i d there
began_came S e began _ j (Expiring m i d k v q due least) b n = ap began (some_inj j i _ n refl) ∙ b.each i d due.is_open
began_came S e began _ j (Changing y k q) b n = absurd (none_some j None refl n)

-- what an entry's frames do, with the digits that its frame's dialogue began with
held_came : (S : State) (e : Event) (began : List ℕ → Option (List ℕ)) (turn : Turn) (L : Local) (new y : List ℕ) (t : Bool) (h : Holding) (w : List ℕ)
    → View S e turn → BeganRight S began
    → held_after y t (began_named began (names e)) (outcome L turn new).sent h w ≡ held_after y t (began_of turn) (outcome L turn new).sent h w
held_came S e began _ L new y t h w (Idly out q) b = q y t _ h w ∙ sym (q y t None h w)
held_came S e began _ L new y t h w (Ticking m now q) b = refl
held_came S e began _ L new y t h w (Beginning from r p cs q) b = ap
    (λ f. held_after y t (began_named began (names f)) (outcome L (Begins from r p cs) new).sent h w) q
held_came S e began _ L new y t h w (Continuing i d u cs there active v nm r) b =
    ap (λ o. held_after y t (began_named began o) (outcome L (Continues i (record d { transaction = u }) cs) new).sent h w) nm
    ∙ ap (λ o. held_after y t o (outcome L (Continues i (record d { transaction = u }) cs) new).sent h w) (b.each i d there)
held_came S e began _ L new y t h w (Closing i d there v nm r) b = refl
held_came S e began _ L new y t h w (Expiring m i d k v q due least) b = expires_any L i d k v.was new y t _ _ h w
held_came S e began _ L new y t h w (Changing x k q) b = ap (λ f. held_after y t (began_named began (names f)) (outcome L (Changes x k) new).sent h w) q

known_subject : (x : List ℕ) (R : Option Subscriber) → is_subject x (if_known x R) ≡ is_some R
known_subject x None = refl
known_subject x (Some s) = same_refl x

other_subject : (x y : List ℕ) (R : Option Subscriber) → (y ≡ x → ⊥) → is_subject x (if_known y R) ≡ false
other_subject x y None ne = refl
other_subject x y (Some s) ne = not_same y x ne

record_is : (S : State) (n : ℕ) (x : List ℕ) → (local_of S n x).record_of ≡ S.records x
unfolding local_of
record_is S n x = refl

imsi_is : (S : State) (n : ℕ) (x : List ℕ) → (local_of S n x).imsi ≡ x
unfolding local_of
imsi_is S n x = refl

-- one step: who holds x, and the digits with which the dialogues began
pub record Holds (S T : State) (e : Event) (a : Answer) (x : List ℕ) (began : List ℕ → Option (List ℕ)) : Type 0 where
  pub held : (w : List ℕ) → held_after x (is_subject x a.subject) (began_named began (names e)) a.sent (serving (S.records x)) w ≡ serving (T.records x) w
  pub right : BeganRight T (began_by began e a.id)

pub ticked_records : (S : State) (turn : Turn) → (ticked turn S).records ≡ S.records
ticked_records S (Dismissed out) = refl
ticked_records S (Ticks n now) = refl
ticked_records S (Begins from r p cs) = refl
ticked_records S (Continues i d cs) = refl
ticked_records S (Closes i d) = refl
ticked_records S (Expires i d j was) = refl
ticked_records S (Changes y k) = refl

ticked_dialogues : (S : State) (turn : Turn) → (ticked turn S).dialogues ≡ S.dialogues
ticked_dialogues S (Dismissed out) = refl
ticked_dialogues S (Ticks n now) = refl
ticked_dialogues S (Begins from r p cs) = refl
ticked_dialogues S (Continues i d cs) = refl
ticked_dialogues S (Closes i d) = refl
ticked_dialogues S (Expires i d j was) = refl
ticked_dialogues S (Changes y k) = refl

module _ (S : State) (e : Event) (turn : Turn) (new x : List ℕ) (began : List ℕ → Option (List ℕ)) (sound : Sound S) (v : View S e turn)
    (right : BeganRight S began) where
  -- the turn has no subscriber
  held_none : (T : State) (a : Answer) → concern S.directory turn ≡ None
      → Moves S (route S.directory e) turn new (outcome_in S (route S.directory e) turn new) T a → Holds S T e a x began
  held_none T a c m =
      let n : ℕ = route S.directory e in
      let o_is : outcome_in S n turn new ≡ outcome (local_of_nobody S n) turn new = ap (λ (o : Option (List ℕ)). outcome (seen S n o) turn new) c in
      let bare : Bare (outcome (local_of_nobody S n) turn new) = bare_came S e turn n new v c in
      let state : T ≡ ticked turn S = state_none S e turn new T a c m in
      let no_id : a.id ≡ None = m.id ∙ ap (λ (o : Outcome). taken new o.opens) o_is ∙ ap (λ o. taken new o) bare.opens in
      let no_subject : is_subject x a.subject ≡ false = ap (λ o. is_subject x o) (m.subject ∙ subject_known S e turn sound v ∙ ap (λ o. known_in S o) c) in
      let sent : a.sent ≡ (outcome (local_of_nobody S n) turn new).sent = m.sent ∙ ap (λ (o : Outcome). o.sent) o_is in
      record {
        held = λ w. ap (λ t. held_after x t (began_named began (names e)) a.sent (serving (S.records x)) w) no_subject
            ∙ ap (λ s. held_after x false (began_named began (names e)) s (serving (S.records x)) w) sent
            ∙ bare.quiet x (began_named began (names e)) (serving (S.records x)) w
            ∙ sym (ap (λ (U : State). serving (U.records x) w) state ∙ ap (λ (r : List ℕ → Option Subscriber). serving (r x) w) (ticked_records S turn));
        right = record {
          each = λ i d there. ap (λ o. began_by began e o i) no_id
              ∙ right.each i d (sym (ap (λ (U : State). U.dialogues i) state ∙ ap (λ (r : List ℕ → Option Dialogue). r i) (ticked_dialogues S turn))
              ∙ there);
        };
      }

  -- the turn's subscriber is y
  module _ (y : List ℕ) (T : State) (a : Answer) (c : concern S.directory turn ≡ Some y)
      (m : Moves S (route S.directory e) turn new (outcome_in S (route S.directory e) turn new) T a) where
    n : ℕ
    n = route S.directory e

    o : Outcome
    o = outcome (local_of S (route S.directory e) y) turn new

    f : Facts S e turn y new (route S.directory e)
    f = facts S e turn y new (route S.directory e) sound v c

    o_is : outcome_in S (route S.directory e) turn new ≡ outcome (local_of S (route S.directory e) y) turn new
    o_is = outcome_of S (route S.directory e) turn y new c

    state : T ≡ moved S (Some y) (named turn) new (outcome (local_of S (route S.directory e) y) turn new)
    state = state_of S e turn y new T a c m

    id_is : a.id ≡ taken new (outcome (local_of S (route S.directory e) y) turn new).opens
    id_is = m.id ∙ ap (λ (q : Outcome). taken new q.opens) o_is

    sent_is : a.sent ≡ (outcome (local_of S (route S.directory e) y) turn new).sent
    sent_is = m.sent ∙ ap (λ (q : Outcome). q.sent) o_is

    subject_is : a.subject ≡ if_known y (S.records y)
    subject_is = m.subject ∙ subject_known S e turn sound v ∙ ap (λ q. known_in S q) c

    records_are : (z : List ℕ) → T.records z ≡ put S.records y (outcome (local_of S (route S.directory e) y) turn new).after z
    records_are z = ap (λ (U : State). U.records z) state

    held_at : (w : List ℕ) → held_after x (is_subject x a.subject) (began_named began (names e)) a.sent (serving (S.records x)) w ≡ serving (T.records x) w
    held_at w = go (cases_same y x)
      where
        start : (t : Bool) → is_subject x a.subject ≡ t → held_after x (is_subject x a.subject) (began_named began (names e)) a.sent (serving (S.records x)) w
            ≡ held_after x t (began_of turn) (outcome (local_of S (route S.directory e) y) turn new).sent (serving (S.records x)) w
        start t q = ap (λ b. held_after x b (began_named began (names e)) a.sent (serving (S.records x)) w) q
            ∙ ap (λ s. held_after x t (began_named began (names e)) s (serving (S.records x)) w) sent_is
            ∙ held_came S e began turn (local_of S (route S.directory e) y) new x t (serving (S.records x)) w v right

        go : (y ≡ x) ⊎ (y ≡ x → ⊥) → held_after x (is_subject x a.subject) (began_named began (names e)) a.sent (serving (S.records x)) w
            ≡ serving (T.records x) w
        go (inl yx) =
            start (is_some (S.records x)) (ap (λ q. is_subject x q) subject_is ∙ ap (λ (z : List ℕ). is_subject x (if_known z (S.records z))) yx
            ∙ known_subject x (S.records x))
            ∙ ap (λ (z : List ℕ). held_after z (is_some (S.records z)) (began_of turn) (outcome (local_of S (route S.directory e) y) turn new).sent
            (serving (S.records z)) w) (sym yx)
            ∙ ap (λ (z : List ℕ). held_after z (is_some (S.records y)) (began_of turn) (outcome (local_of S (route S.directory e) y) turn new).sent
            (serving (S.records y)) w) (sym (imsi_is S (route S.directory e) y))
            ∙ ap (λ (r : Option Subscriber). held_after (local_of S (route S.directory e) y).imsi (is_some r) (began_of turn)
            (outcome (local_of S (route S.directory e) y) turn new).sent (serving r) w) (sym (record_is S (route S.directory e) y))
            ∙ f.good.holds w
            ∙ sym (ap (λ r. serving r w) (records_are x ∙ put-at S.records y _ x yx))
        go (inr ne) =
            start false (ap (λ q. is_subject x q) subject_is ∙ other_subject x y (S.records y) ne)
            ∙ f.good.others x (began_of turn) (serving (S.records x)) w (inl (ap (λ (z : List ℕ). same z x) (imsi_is S (route S.directory e) y)
            ∙ not_same y x ne))
            ∙ sym (ap (λ r. serving r w) (records_are x ∙ put-other S.records y _ x ne))

    -- an id that is taken names no dialogue that was open
    taken_other : (opens : Option Dialogue) → (outcome (local_of S (route S.directory e) y) turn new).opens ≡ opens → (j : List ℕ)
        → (IsTrue (is_some opens) → new ≡ j → ⊥) → began_by began e (taken new opens) j ≡ began j
    taken_other None q j h = refl
    taken_other (Some d) q j h = put-other began new (vlr_of e) j (h refl)

    new_is_none : IsTrue (is_some (outcome (local_of S (route S.directory e) y) turn new).opens) → S.dialogues new ≡ None
    new_is_none h = (m.opens (ap (λ (q : Outcome). is_some q.opens) o_is ∙ h)).is_new

    right_from : (j : List ℕ) (d : Dialogue) → From S (named turn) new (outcome (local_of S (route S.directory e) y) turn new) j d
        → began_by began e (taken new (outcome (local_of S (route S.directory e) y) turn new).opens) j ≡ vlr_of_kind d.kind
    right_from j d (Opened nj q) = ap (λ p. began_by began e (taken new p) j) q ∙ put-at began new (vlr_of e) j nj ∙ sym (f.good.opens d q).0.vlr_is
    right_from j d (Stayed ij q) = taken_other _ refl j (λ h nj. stays_open ij q h) ∙ began_came S e began turn j v right ij ∙ sym (f.good.stays d q).vlr_is
      where
        stays_open : named turn ≡ Some j → (outcome (local_of S (route S.directory e) y) turn new).stays ≡ Some d
            → IsTrue (is_some (outcome (local_of S (route S.directory e) y) turn new).opens) → ⊥
        stays_open ij q h = go (outcome (local_of S (route S.directory e) y) turn new).opens refl h
          where
            go : (p : Option Dialogue) → (outcome (local_of S (route S.directory e) y) turn new).opens ≡ p → IsTrue (is_some p) → ⊥
            go None r t = both_ways false refl t
            go (Some g) r t = none_some d _ (f.good.alone g j r ij) q
    right_from j d (Was_there there h) = taken_other _ refl j (λ t nj. none_some d _ (ap S.dialogues (sym nj) ∙ new_is_none t) there) ∙ right.each j d there

    held_some : Holds S T e a x began
    held_some = record {
      held = held_at;
      right = record {
        each = λ j d there. ap (λ q. began_by began e q j) id_is
            ∙ right_from j d (from S (named turn) new (outcome (local_of S (route S.directory e) y) turn new) j d
            (sym (ap (λ (U : State). U.dialogues j) state) ∙ there));
      };
    }

  held_taken : (T : State) (a : Answer) → (q : Option (List ℕ)) → concern S.directory turn ≡ q
      → Moves S (route S.directory e) turn new (outcome_in S (route S.directory e) turn new) T a → Holds S T e a x began
  held_taken T a None c m = held_none T a c m
  held_taken T a (Some y) c m = held_some y T a c m

pub held_step : (S : State) (e : Event) (T : State) (a : Answer) (x : List ℕ) (began : List ℕ → Option (List ℕ)) → Sound S → BeganRight S began → Step S e T a
    → Holds S T e a x began
held_step S e T a x began sound right (Taken turn new comes m) = held_taken S e turn new x began sound (view S e turn comes) right T a
    (concern S.directory turn) refl m
held_step S e T a x began sound right (Full turn new comes t) = record {
  held = λ w. ap (λ s. held_after x (is_subject x a.subject) (began_named began (names e)) s (serving (S.records x)) w) t.sent
      ∙ sym (ap (λ (U : State). serving (U.records x) w) t.state);
  right = record { each = λ i d there. ap (λ o. began_by began e o i) t.id ∙ right.each i d (sym (ap (λ (U : State). U.dialogues i) t.state) ∙ there) };
}

-- along a run
pub held_run : (x : List ℕ) (entries : List Entry) (S T : State) (began : List ℕ → Option (List ℕ)) → Sound S → BeganRight S began
    → Run S (events_of entries) T (answers_of entries) → holders_from x began (serving (S.records x)) entries ≡ serving (T.records x)
held_run x [] S T began sound right run = ap (λ (U : State). serving (U.records x)) (sym run)
held_run x (j ∷ js) S T began sound right run =
    let M : State = run.0 in
    let h : Holds S M j.event j.answer x began = held_step S j.event M j.answer x began sound right run.1 in
    ap (λ k. holders_from x (began_after began j) k js) (fun_ext h.held)
    ∙ held_run x js M T (began_after began j) (step_sound S j.event M j.answer sound run.1) h.right run.2

pub holders_run : (base S : State) (entries : List Entry) (x : List ℕ) → Sound base → Run base (events_of entries) S (answers_of entries)
    → holders base entries x ≡ serving (S.records x)
unfolding holders
holders_run base S entries x sound run = held_run x entries base S (began_in base) sound (record { each = λ i d there. ap (λ o. vlr_of_dialogue o) there }) run

-- the digits with which each open dialogue began, along a run
pub began_run : (entries : List Entry) (S T : State) (began : List ℕ → Option (List ℕ)) → Sound S → BeganRight S began
    → Run S (events_of entries) T (answers_of entries) → BeganRight T (began_from began entries)
began_run [] S T began sound right run = subst (λ U. BeganRight U began) (sym run) right
began_run (j ∷ js) S T began sound right run =
    let M : State = run.0 in
    began_run js M T (began_after began j) (step_sound S j.event M j.answer sound run.1) (held_step S j.event M j.answer [] began sound right run.1).right run.2

pub update_began : (base S : State) (entries : List Entry) (i : List ℕ) (d : Dialogue) (reg : Register) (k : ℤ) → Sound base
    → Run base (events_of entries) S (answers_of entries) → S.dialogues i ≡ Some d → d.kind ≡ Updates reg k
    → began_from (began_in base) entries i ≡ Some reg.vlr
update_began base S entries i d reg k sound run there kind = (began_run entries base S (began_in base) sound
    (record { each = λ i d there. ap (λ o. vlr_of_dialogue o) there }) run).each i d there ∙ ap (λ o. vlr_of_kind o) kind
