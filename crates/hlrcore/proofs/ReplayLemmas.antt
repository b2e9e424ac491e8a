-- The same events lead from the same state to the same state, with the same answers.
use Rattle.std.proofs.Common.{◌≡◌, ◌≢◌, ℕ, List, [], ◌∷◌, Option, Some, None, is_some, map, true, false, refl, sym, ap, ◌∙◌, subst}
use Rattle.std.specs.Prelude.{IfSome}
use Rattle.machine.specs.Step.{Answer, Step}
use Rattle.machine.specs.State.{State}
use Rattle.frames.specs.Octets.{RawEvent, spelled_out}
use Rattle.frames_laws.proofs.OctetLaws.{event_one}
use Rattle.machine_laws.proofs.Determined.{closes_alike, determined, takes_alike}
use Rattle.tidalloc.specs.LiveIds.{next_id}
use Rattle.dialogues.specs.Dialogues.{OpenDialogues, dialogues_of, freed, used}
use Rattle.hlrcore.specs.declared.answer.StepAnswer.{StepAnswer}
use Rattle.hlrcore.specs.Ids.{Closes, MovesIds}
use Rattle.hlrcore.specs.Leading.{Leads}
use Rattle.hlrcore.specs.Replaying.{IsAlike, Runs}
use Rattle.hlrcore.specs.Shards.{ShardState, state_of}

-- the dialogue that closes is one
one_closes : (s t r u : OpenDialogues) (c d : Option (List ℕ)) → Closes s t c → Closes r u d
    → ((id : List ℕ) → dialogues_of s id ≢ None → dialogues_of t id ≡ None → (dialogues_of r id ≢ None) × (dialogues_of u id ≡ None))
    → ((id : List ℕ) → dialogues_of r id ≢ None → dialogues_of u id ≡ None → (dialogues_of s id ≢ None) × (dialogues_of t id ≡ None))
    → c ≡ d
one_closes s t r u (Some p) d closes other there back =
    let at = (closes p).0 refl in
    sym ((other p).1 (there p at.0 at.1))
one_closes s t r u None (Some q) closes other there back =
    let at = (other q).0 refl in
    (closes q).1 (back q at.0 at.1)
one_closes s t r u None None closes other there back = refl

-- and so is the id that is taken
one_taken : (a b : Option (List ℕ)) (x : Option (List ℕ)) → is_some a ≡ is_some b → IfSome a (λ id. x ≡ Some id) → IfSome b (λ id. x ≡ Some id) → a ≡ b
one_taken None None x same first second = refl
one_taken None (Some q) x same first second = absurd (let e : false ≡ true = same in cc)
one_taken (Some p) None x same first second = absurd (let e : true ≡ false = same in cc)
one_taken (Some p) (Some q) x same first second = sym first ∙ second

answers_one : (a b : StepAnswer) → a.outs ≡ b.outs → a.id ≡ b.id → a.subject ≡ b.subject → a ≡ b
answers_one a b outs id subject = λ i. record { outs = outs i; id = id i; subject = subject i }

dialogues_are : (s : ShardState) (id : List ℕ) → (state_of s).dialogues id ≡ dialogues_of s.dialogues id
unfolding state_of
dialogues_are s id = refl

pub one_step : (s r t u : ShardState) (raw : RawEvent) (a b : StepAnswer) → IsAlike s r → Leads s raw a t → MovesIds s.dialogues a.id t.dialogues
    → Leads r raw b u → MovesIds r.dialogues b.id u.dialogues → (a ≡ b) × IsAlike t u
one_step s r t u raw a b alike (j, h, step) moves (k, g, pace) goes =
    let same_event : j.event ≡ k.event = event_one raw j.event k.event h.event g.event in
    let here : Step (state_of s) k.event (state_of u) k.answer = subst (λ (S : State). Step S k.event (state_of u) k.answer) (sym alike.state) pace in
    let both : Step (state_of s) j.event (state_of u) k.answer = subst (λ e. Step (state_of s) e (state_of u) k.answer) (sym same_event) here in
    let from : (id : List ℕ) → dialogues_of s.dialogues id ≡ dialogues_of r.dialogues id =
    λ id. sym (dialogues_are s id) ∙ ap (λ (S : State). S.dialogues id) alike.state ∙ dialogues_are r id in
    let closed : moves.closed ≡ goes.closed =
    one_closes s.dialogues t.dialogues r.dialogues u.dialogues moves.closed goes.closed moves.closes goes.closes
    (λ id some none. (
      (λ n. some (from id ∙ n)),
      sym (dialogues_are u id) ∙ closes_alike (state_of s) j.event (state_of t) (state_of u) j.answer k.answer step both id
          (λ n. some (sym (dialogues_are s id) ∙ n)) (dialogues_are t id ∙ none),
    ))
    (λ id some none. (
      (λ n. some (sym (from id) ∙ n)),
      sym (dialogues_are t id) ∙ closes_alike (state_of s) j.event (state_of u) (state_of t) k.answer j.answer both step id
          (λ n. some (sym (from id) ∙ (sym (dialogues_are s id) ∙ n))) (dialogues_are u id ∙ none),
    )) in
    let taken : is_some a.id ≡ is_some b.id =
    ap (λ o. is_some o) h.id ∙ takes_alike (state_of s) j.event (state_of t) (state_of u) j.answer k.answer step both ∙ sym (ap (λ o. is_some o) g.id) in
    let next : next_id s.dialogues.shard (freed moves.closed s.dialogues.supply) ≡ next_id r.dialogues.shard (freed goes.closed r.dialogues.supply) =
    (λ i. next_id (alike.shard i) (freed (closed i) (alike.supply i))) in
    let id : a.id ≡ b.id =
    one_taken a.id b.id _ taken (subst (λ o. IfSome a.id (λ id. o ≡ Some id)) next moves.next) goes.next in
    let one : (state_of t ≡ state_of u) × (j.answer ≡ k.answer) =
    determined (state_of s) j.event (state_of t) (state_of u) j.answer k.answer step both (sym h.id ∙ id ∙ g.id) in (
      answers_one a b (h.outs ∙ ap (λ (w : Answer). map spelled_out w.sent) one.1 ∙ sym g.outs) id
          (h.subject ∙ ap (λ (w : Answer). w.subject) one.1 ∙ sym g.subject),
      record {
        state = one.0;
        shard = moves.shard ∙ alike.shard ∙ sym goes.shard;
        supply = moves.supply ∙ (λ i. used (id i) (freed (closed i) (alike.supply i))) ∙ sym goes.supply;
      },
    )

-- the same events
pub one_run : (s r t u : ShardState) (raws : List RawEvent) (answers others : List StepAnswer) → IsAlike s r → Runs s raws answers t → Runs r raws others u
    → (answers ≡ others) × IsAlike t u
one_run s r t u [] [] [] alike run other = (refl, subst (λ (x : ShardState). IsAlike x u) (sym run) (subst (λ (x : ShardState). IsAlike s x) (sym other) alike))
one_run s r t u [] (a ∷ answers) others alike run other = absurd run
one_run s r t u [] [] (b ∷ others) alike run other = absurd other
one_run s r t u (raw ∷ raws) [] others alike run other = absurd run
one_run s r t u (raw ∷ raws) (a ∷ answers) [] alike run other = absurd other
one_run s r t u (raw ∷ raws) (a ∷ answers) (b ∷ others) alike (m, leads, moves, rest) (n, goes, moved, more) =
    let first = one_step s r m n raw a b alike leads moves goes moved in
    let then = one_run m n t u raws answers others first.1 rest more in
    ((λ i. first.0 i ∷ then.0 i), then.1)
