-- A journal of octets spells one journal of messages, and the laws of the machine hold of it.
use Rattle.std.proofs.Common.{◌≡◌, ℕ, ◌<◌, Bool, true, false, eqb, cond, ◌&&◌, List, [], ◌∷◌, ◌++◌, refl, ap, sym, ◌∙◌, subst, inl, inr, arith, append_assoc}
use Rattle.std.specs.Prelude.{Option, map}
use Rattle.std.proofs.lemmas.Bool.{eqb-true, cases_lt}
use Rattle.machine.specs.Keys.{Every, put_at}
use Rattle.machine.specs.declared.numbers.TheConstants.{SHARDS, RESOURCE_LIMITATION}
use Rattle.machine.specs.Received.{Verdict}
use Rattle.machine.specs.Sent.{NoCause, Cause, Refusing, SentMessage, SentBegin, SentContinue, SentEnd, SentAbort, Out}
use Rattle.machine.specs.Events.{Change, Event, Frame, Clock, Expire, Operator}
use Rattle.machine.specs.State.{State}
use Rattle.machine.specs.Routing.{route}
use Rattle.machine.specs.Step.{Answer, Step}
use Rattle.machine.specs.Run.{Run}
use Rattle.machine.specs.Legal.{Entry, Legal, events_of, answers_of}
use Rattle.machine.specs.Holders.{Holding, holders, serving, is_subject}
use Rattle.machine.specs.Isolation as machine
use Rattle.machine.specs.Isolation.{own, SameOf, is_turned_away}
use Rattle.machine.specs.Merges.{Merges}
use Rattle.machine.specs.Parts.{union}
use Rattle.machine_laws.proofs.Determined.{determined}
use Rattle.machine_laws.proofs.Growing.{legal_push}
use Rattle.machine_laws.proofs.Holding.{holders_run}
use Rattle.machine_laws.proofs.OwnJournals.{isolation}
use Rattle.machine_laws.proofs.Chains.{legal_append}
use Rattle.machine_laws.proofs.Merging.{merge_law}
use Rattle.frames.specs.Frames.{IsVerdict}
use Rattle.frames.specs.Sane.{Sane}
use Rattle.frames.specs.SentTrees.{octets_of_sent}
use Rattle.frames.specs.Octets.{RawEvent, RawFrame, RawClock, RawExpire, RawChange, RawOut, RawEntry, IsEvent, spelled_out, SpellsEntry, SpellsJournal, IsRouted, StepOctets, RunOctets}
use Rattle.frames.specs.OctetJournals.{LegalOctets, AreHolders, SaneEntries, is_raw_clock, is_raw_of, only_raw_of, IsTurnedAway, NoRawTurnedAway, MergesOctets, RawEpoch, first_raw_base, ChainOctets, joined_raws}
use Rattle.frames.proofs.JudgingLaws.{one_verdict}
use Rattle.frames_laws.proofs.SentShape.{octets_tell}

-- ---- one event

frame_is : (f o : List ℕ) (e : Event) → IsEvent (RawFrame f o) e → (v : Verdict) × (e ≡ Frame f v) × IsVerdict o v
frame_is f o (Frame g v) h = (v, ap (λ (s : List ℕ). Frame s v) h.0, h.1)
frame_is f o (Clock m t) h = absurd h
frame_is f o (Expire m) h = absurd h
frame_is f o (Operator y k) h = absurd h

clock_is : (n now : ℕ) (e : Event) → IsEvent (RawClock n now) e → e ≡ Clock n now
clock_is n now (Frame g v) h = absurd h
clock_is n now (Clock m t) h = ap (λ k. Clock k t) h.0 ∙ ap (λ k. Clock n k) h.1
clock_is n now (Expire m) h = absurd h
clock_is n now (Operator y k) h = absurd h

expire_is : (n : ℕ) (e : Event) → IsEvent (RawExpire n) e → e ≡ Expire n
expire_is n (Frame g v) h = absurd h
expire_is n (Clock m t) h = absurd h
expire_is n (Expire m) h = ap (λ k. Expire k) h
expire_is n (Operator y k) h = absurd h

change_is : (x : List ℕ) (c : Change) (e : Event) → IsEvent (RawChange x c) e → e ≡ Operator x c
change_is x c (Frame g v) h = absurd h
change_is x c (Clock m t) h = absurd h
change_is x c (Expire m) h = absurd h
change_is x c (Operator y k) h = ap (λ (z : List ℕ). Operator z k) h.0 ∙ ap (λ d. Operator x d) h.1

pub event_one : (raw : RawEvent) (e f : Event) → IsEvent raw e → IsEvent raw f → e ≡ f
event_one (RawFrame s o) e f h g =
    let a : (v : Verdict) × (e ≡ Frame s v) × IsVerdict o v = frame_is s o e h in
    let b : (v : Verdict) × (f ≡ Frame s v) × IsVerdict o v = frame_is s o f g in
    a.1 ∙ ap (λ v. Frame s v) (one_verdict o a.0 b.0 a.2 b.2) ∙ sym b.1
event_one (RawClock n now) e f h g = clock_is n now e h ∙ sym (clock_is n now f g)
event_one (RawExpire n) e f h g = expire_is n e h ∙ sym (expire_is n f g)
event_one (RawChange x c) e f h g = change_is x c e h ∙ sym (change_is x c f g)

-- ---- one step, and one journal from one base

entry_of : Entry → Event → Answer → Entry
entry_of d e a = record { event = e; answer = a }

-- from one state, one entry of messages and one state after
pub step_one : (raw : RawEntry) (j k : Entry) (S T U : State) → SpellsEntry raw j → SpellsEntry raw k → Step S j.event T j.answer → Step S k.event U k.answer
    → (j ≡ k) × (T ≡ U)
step_one r j k S T U h g step pace =
    let same_event : j.event ≡ k.event = event_one r.event j.event k.event h.event g.event in
    let pace' : Step S j.event U k.answer = subst (λ e. Step S e U k.answer) (sym same_event) pace in
    let first : (T ≡ U) × (j.answer ≡ k.answer) = determined S j.event T U j.answer k.answer step pace' (sym h.id ∙ g.id) in
    ((λ i. record { event = same_event i; answer = first.1 i }), first.0)

spells_one : (raw : List RawEntry) (js ks : List Entry) (S T U : State) → SpellsJournal raw js → SpellsJournal raw ks → Run S (events_of js) T (answers_of js)
    → Run S (events_of ks) U (answers_of ks) → (js ≡ ks) × (T ≡ U)
spells_one [] [] [] S T U h g run go = (refl, run ∙ sym go)
spells_one [] (j ∷ js) ks S T U h g run go = absurd h
spells_one [] [] (k ∷ ks) S T U h g run go = absurd g
spells_one (r ∷ rs) [] ks S T U h g run go = absurd h
spells_one (r ∷ rs) (j ∷ js) [] S T U h g run go = absurd g
spells_one (r ∷ rs) (j ∷ js) (k ∷ ks) S T U (h, hs) (g, gs) (M, step, run) (N, pace, go) =
    let first : (j ≡ k) × (M ≡ N) = step_one r j k S M N h g step pace in
    let go' : Run M (events_of ks) U (answers_of ks) = subst (λ V. Run V (events_of ks) U (answers_of ks)) (sym first.1) go in
    let rest : (js ≡ ks) × (T ≡ U) = spells_one rs js ks M T U hs gs run go' in
    (ap (λ (x : Entry). x ∷ js) first.0 ∙ ap (λ (xs : List Entry). k ∷ xs) rest.0, rest.1)

-- a legal journal of octets spells one journal, and leads to one state, whatever is sent
pub one_legal_journal : (n : ℕ) (base S T : State) (raw : List RawEntry) (a : LegalOctets n base raw S) (b : LegalOctets n base raw T)
    → (a.journal ≡ b.journal) × (S ≡ T)
one_legal_journal n base S T raw a b = spells_one raw a.journal b.journal base S T a.spelled b.spelled a.legal.run b.legal.run

-- a run of octets is a run of messages
pub run_found : (raw : List RawEntry) (S T : State) → RunOctets S raw T → (js : List Entry) × SpellsJournal raw js × Run S (events_of js) T (answers_of js)
run_found [] S T e = ([], tt, e)
run_found (r ∷ rs) S T (M, (j, spells, step), run) =
    let (js, all, rest) = run_found rs M T run in
    (j ∷ js, (spells, all), (M, step, rest))

pub run_again : (raw : List RawEntry) (js : List Entry) (S T : State) → SpellsJournal raw js → Run S (events_of js) T (answers_of js) → RunOctets S raw T
run_again [] [] S T h run = run
run_again [] (j ∷ js) S T h run = absurd h
run_again (r ∷ rs) [] S T h run = absurd h
run_again (r ∷ rs) (j ∷ js) S T (h, hs) (M, step, run) = (M, (j, h, step), run_again rs js M T hs run)

pub run_one : (raw : List RawEntry) (S T U : State) → RunOctets S raw T → RunOctets S raw U → T ≡ U
run_one raw S T U a b =
    let (js, spells, run) = run_found raw S T a in
    let (ks, spells', run') = run_found raw S U b in
    (spells_one raw js ks S T U spells spells' run run').1

-- ---- one journal of sane messages, without a run

one_out : (m n : Out) → Sane m.message → Sane n.message → spelled_out m ≡ spelled_out n → m ≡ n
one_out m n h k e =
    let p : m.to ≡ n.to = ap (λ (r : RawOut). r.to) e in
    let q : m.message ≡ n.message = octets_tell m.message n.message h k (ap (λ (r : RawOut). r.octets) e) in
    λ i. record { to = p i; message = q i }

abbrev first_out : RawOut → List RawOut → RawOut
first_out d [] = d
first_out d (o ∷ os) = o

abbrev later_outs : List RawOut → List RawOut
later_outs [] = []
later_outs (o ∷ os) = os

one_sending : (ms ns : List Out) → Every (λ o. Sane o.message) ms → Every (λ o. Sane o.message) ns → map spelled_out ms ≡ map spelled_out ns → ms ≡ ns
one_sending [] [] h k e = refl
one_sending [] (n ∷ ns) h k e = absurd cc
one_sending (m ∷ ms) [] h k e = absurd cc
one_sending (m ∷ ms) (n ∷ ns) h k e =
    let p : m ≡ n = one_out m n h.0 k.0 (ap (first_out (spelled_out m)) e) in
    let q : ms ≡ ns = one_sending ms ns h.1 k.1 (ap later_outs e) in
    λ i. p i ∷ q i

one_entry : (r : RawEntry) (j k : Entry) → Every (λ o. Sane o.message) j.answer.sent → Every (λ o. Sane o.message) k.answer.sent → SpellsEntry r j
    → SpellsEntry r k → j ≡ k
one_entry r j k sj sk h g =
    let e : j.event ≡ k.event = event_one r.event j.event k.event h.event g.event in
    let i : j.answer.id ≡ k.answer.id = sym h.id ∙ g.id in
    let s : j.answer.subject ≡ k.answer.subject = sym h.subject ∙ g.subject in
    let o : j.answer.sent ≡ k.answer.sent = one_sending j.answer.sent k.answer.sent sj sk (sym h.outs ∙ g.outs) in
    λ x. record { event = e x; answer = record { id = i x; subject = s x; sent = o x } }

pub one_journal : (raw : List RawEntry) (js ks : List Entry) → SaneEntries js → SaneEntries ks → SpellsJournal raw js → SpellsJournal raw ks → js ≡ ks
one_journal [] [] [] sj sk h g = refl
one_journal [] (j ∷ js) ks sj sk h g = absurd h
one_journal [] [] (k ∷ ks) sj sk h g = absurd g
one_journal (r ∷ rs) [] ks sj sk h g = absurd h
one_journal (r ∷ rs) (j ∷ js) [] sj sk h g = absurd g
one_journal (r ∷ rs) (j ∷ js) (k ∷ ks) sj sk h g =
    let p : j ≡ k = one_entry r j k sj.0 sk.0 h.0 g.0 in
    let q : js ≡ ks = one_journal rs js ks sj.1 sk.1 h.1 g.1 in
    λ i. p i ∷ q i

-- ---- holders

pub holders_of_octets : (n : ℕ) (base S : State) (raw : List RawEntry) (x : List ℕ) (h : Holding) → AreHolders n base raw S x h → h ≡ serving (S.records x)
holders_of_octets n base S raw x h a = a.same ∙ holders_run base S a.octets.journal x a.octets.legal.base_sound a.octets.legal.run

pub one_holding : (n : ℕ) (base S T : State) (raw : List RawEntry) (x : List ℕ) (h k : Holding) → AreHolders n base raw S x h → AreHolders n base raw T x k
    → h ≡ k
one_holding n base S T raw x h k a b = a.same ∙ ap (λ js. holders base js x) (one_legal_journal n base S T raw a.octets b.octets).0 ∙ sym b.same

-- ---- isolation

same_clock : (r : RawEvent) (e : Event) → IsEvent r e → is_raw_clock r ≡ machine.is_clock e
same_clock (RawFrame f o) (Frame g v) h = refl
same_clock (RawFrame f o) (Clock m t) h = absurd h
same_clock (RawFrame f o) (Expire m) h = absurd h
same_clock (RawFrame f o) (Operator y k) h = absurd h
same_clock (RawClock n now) (Frame g v) h = absurd h
same_clock (RawClock n now) (Clock m t) h = refl
same_clock (RawClock n now) (Expire m) h = absurd h
same_clock (RawClock n now) (Operator y k) h = absurd h
same_clock (RawExpire n) (Frame g v) h = absurd h
same_clock (RawExpire n) (Clock m t) h = absurd h
same_clock (RawExpire n) (Expire m) h = refl
same_clock (RawExpire n) (Operator y k) h = absurd h
same_clock (RawChange x c) (Frame g v) h = absurd h
same_clock (RawChange x c) (Clock m t) h = absurd h
same_clock (RawChange x c) (Expire m) h = absurd h
same_clock (RawChange x c) (Operator y k) h = refl

same_of : (x : List ℕ) (r : RawEntry) (j : Entry) → SpellsEntry r j → is_raw_of x r ≡ machine.is_of x j
same_of x r j h = ap (λ b. cond b true (is_subject x r.subject)) (same_clock r.event j.event h.event)
    ∙ ap (λ (s : Option (List ℕ)). cond (machine.is_clock j.event) true (is_subject x s)) h.subject

kept : (b : Bool) (r : RawEntry) (j : Entry) (rs : List RawEntry) (js : List Entry) → SpellsEntry r j → SpellsJournal rs js
    → SpellsJournal (cond b (r ∷ rs) rs) (cond b (j ∷ js) js)
kept true r j rs js h hs = (h, hs)
kept false r j rs js h hs = hs

-- the entries of x spell the entries of x
only_spells : (x : List ℕ) (raw : List RawEntry) (js : List Entry) → SpellsJournal raw js → SpellsJournal (only_raw_of raw x) (machine.only_of js x)
only_spells x [] [] h = tt
only_spells x [] (j ∷ js) h = absurd h
only_spells x (r ∷ rs) [] h = absurd h
only_spells x (r ∷ rs) (j ∷ js) h =
    let R = only_raw_of rs x in
    let J = machine.only_of js x in
    subst (λ (c : Bool). SpellsJournal (cond (is_raw_of x r) (r ∷ R) R) (cond c (j ∷ J) J)) (same_of x r j h.0)
    (kept (is_raw_of x r) r j R J h.0 (only_spells x rs js h.1))

limited : (to : List ℕ) (ms : List Out) (m : SentMessage) → is_turned_away (record { to = to; message = m } ∷ ms) ≡ true
    → (destination : List ℕ) × (octets_of_sent m ≡ octets_of_sent (SentAbort destination (Cause RESOURCE_LIMITATION)))
limited to ms (SentBegin i c cs) e = absurd cc
limited to ms (SentContinue i r c rs cs) e = absurd cc
limited to ms (SentEnd r c rs cs) e = absurd cc
limited to ms (SentAbort r NoCause) e = absurd cc
limited to ms (SentAbort r (Refusing name)) e = absurd cc
limited to ms (SentAbort r (Cause c)) e = let f : c ≡ RESOURCE_LIMITATION = eqb-true c RESOURCE_LIMITATION e in
    (r, ap (λ (k : ℕ). octets_of_sent (SentAbort r (Cause k))) f)

turned : (ms : List Out) → is_turned_away ms ≡ true → IsTurnedAway (map spelled_out ms)
turned [] e = absurd cc
turned (m ∷ ms) e = limited m.to ms m.message e

no_turn : (x : List ℕ) (r : RawEntry) (j : Entry) → SpellsEntry r j → (is_subject x r.subject ≡ true → IsTurnedAway r.outs → ⊥)
    → is_subject x j.answer.subject && is_turned_away j.answer.sent ≡ false
no_turn x r j h none = go (is_subject x j.answer.subject) (is_turned_away j.answer.sent) refl refl
  where
    go : (b c : Bool) → is_subject x j.answer.subject ≡ b → is_turned_away j.answer.sent ≡ c → b && c ≡ false
    go false c e f = refl
    go true false e f = refl
    go true true e f = absurd (none (ap (is_subject x) h.subject ∙ e) (subst IsTurnedAway (sym h.outs) (turned j.answer.sent f)))

none_turned : (x : List ℕ) (raw : List RawEntry) (js : List Entry) → SpellsJournal raw js → NoRawTurnedAway raw x → machine.NoneTurnedAway js x
none_turned x [] [] h n = tt
none_turned x [] (j ∷ js) h n = absurd h
none_turned x (r ∷ rs) [] h n = absurd h
none_turned x (r ∷ rs) (j ∷ js) h n = (no_turn x r j h.0 n.0, none_turned x rs js h.1 n.1)

pub isolation_of_octets : (n : ℕ) (base S : State) (raw : List RawEntry) (x : List ℕ) → LegalOctets n base raw S → NoRawTurnedAway raw x
    → (T : State) × LegalOctets n (own base x) (only_raw_of raw x) T × SameOf x S T
isolation_of_octets n base S raw x a none =
    let i = isolation n base S a.journal x a.legal (none_turned x raw a.journal a.spelled none) in
    (i.0, record { journal = machine.only_of a.journal x; spelled = only_spells x raw a.journal a.spelled; legal = i.1 }, i.2)

-- ---- growing

spells_append : (rs ss : List RawEntry) (js ks : List Entry) → SpellsJournal rs js → SpellsJournal ss ks → SpellsJournal (rs ++ ss) (js ++ ks)
spells_append [] ss [] ks h g = g
spells_append [] ss (j ∷ js) ks h g = absurd h
spells_append (r ∷ rs) ss [] ks h g = absurd h
spells_append (r ∷ rs) ss (j ∷ js) ks h g = (h.0, spells_append rs ss js ks h.1 g)

pub octets_push : (n : ℕ) (base S T : State) (raw : List RawEntry) (r : RawEntry) → LegalOctets n base raw S → IsRouted S.directory r.event n → StepOctets S r T
    → LegalOctets n base (raw ++ r ∷ []) T
octets_push n base S T raw r a (e, is, routed) (j, spells, step) =
    let same : e ≡ j.event = event_one r.event e j.event is spells.event in
    record {
      journal = a.journal ++ record { event = j.event; answer = j.answer } ∷ [];
      spelled = spells_append raw (r ∷ []) a.journal (record { event = j.event; answer = j.answer } ∷ []) a.spelled (spells, tt);
      legal = legal_push n base S T a.journal j.event j.answer a.legal (ap (route S.directory) (sym same) ∙ routed) step;
    }

-- ---- epochs

pub octets_append : (n : ℕ) (S T U : State) (rs ss : List RawEntry) → LegalOctets n S rs T → LegalOctets n T ss U → LegalOctets n S (rs ++ ss) U
octets_append n S T U rs ss a b = record {
  journal = a.journal ++ b.journal;
  spelled = spells_append rs ss a.journal b.journal a.spelled b.spelled;
  legal = legal_append n S T U a.journal b.journal a.legal b.legal;
}

first_after : (es : List RawEpoch) (base state : State) (entries : List RawEntry)
    → first_raw_base (es ++ record { base = base; entries = entries } ∷ []) state ≡ first_raw_base es base
first_after [] base state entries = refl
first_after (e ∷ es) base state entries = refl

pub chain_cut : (n : ℕ) (es : List RawEpoch) (base state : State) (entries : List RawEntry) → ChainOctets n es base → LegalOctets n base entries state
    → ChainOctets n (es ++ record { base = base; entries = entries } ∷ []) state
chain_cut n [] base state entries c h = (h, tt)
chain_cut n (e ∷ es) base state entries c h = (
  subst (λ U. LegalOctets n e.base e.entries U)
      (sym (first_after es base state entries)) c.0,
  chain_cut n es base state entries c.1 h,
)

pub chain_joined : (n : ℕ) (es : List RawEpoch) (base state : State) (entries : List RawEntry) → ChainOctets n es base → LegalOctets n base entries state
    → LegalOctets n (first_raw_base es base) (joined_raws es ++ entries) state
chain_joined n [] base state entries c h = h
chain_joined n (e ∷ es) base state entries c h =
    let P : List RawEntry → Type 0 = λ js. LegalOctets n e.base js state in
    subst P (sym (append_assoc e.entries (joined_raws es) entries))
    (octets_append n e.base (first_raw_base es base) state e.entries (joined_raws es ++ entries) c.0 (chain_joined n es base state entries c.1 h))

-- ---- merges

-- the journals of messages that sixteen journals of octets spell
abbrev AllSpell : (ℕ → List RawEntry) → (ℕ → List Entry) → Type 0
AllSpell raws journals = (n : ℕ) → n < SHARDS → SpellsJournal (raws n) (journals n)

put_spells : (raws : ℕ → List RawEntry) (journals : ℕ → List Entry) (n : ℕ) (rs : List RawEntry) (js : List Entry) → AllSpell raws journals
    → SpellsJournal rs js → AllSpell (put_at raws n rs) (put_at journals n js)
unfolding put_at
put_spells raws journals n rs js all h m small = go (eqb n m)
  where
    go : (b : Bool) → SpellsJournal (cond b rs (raws m)) (cond b js (journals m))
    go true = h
    go false = all m small

front_spells : (raw : RawEntry) (rest : List RawEntry) (rs : List RawEntry) (js : List Entry) → rs ≡ raw ∷ rest → SpellsJournal rs js → (j : Entry) ×
    (ks : List Entry) × (js ≡ j ∷ ks) × SpellsEntry raw j × SpellsJournal rest ks
front_spells raw rest rs js e h = go js (subst (λ (xs : List RawEntry). SpellsJournal xs js) e h)
  where
    go : (js : List Entry) → SpellsJournal (raw ∷ rest) js → (j : Entry) × (ks : List Entry) × (js ≡ j ∷ ks) × SpellsEntry raw j × SpellsJournal rest ks
    go [] h = absurd h
    go (j ∷ js) h = (j, js, refl, h.0, h.1)

none_spells : (rs : List RawEntry) (js : List Entry) → rs ≡ [] → SpellsJournal rs js → js ≡ []
none_spells [] [] e h = refl
none_spells [] (j ∷ js) e h = absurd h
none_spells (r ∷ rs) js e h = absurd cc

merge_spells : (merge : List RawEntry) (raws : ℕ → List RawEntry) (journals : ℕ → List Entry) → AllSpell raws journals → MergesOctets raws merge
    → (js : List Entry) × SpellsJournal merge js × Merges journals js
merge_spells [] raws journals all h = ([], tt, λ n small. none_spells (raws n) (journals n) (h n small) (all n small))
merge_spells (r ∷ merge) raws journals all (n, rest, small, e, later) =
    let (j, ks, is, spells, others) = front_spells r rest (raws n) (journals n) e (all n small) in
    let (js, merged, merges) = merge_spells merge (put_at raws n rest) (put_at journals n ks) (put_spells raws journals n rest ks all others) later in
    (j ∷ js, (spells, merged), (n, ks, small, is, merges))

-- the journal of messages of each shard
abbrev Legals : (bases states : ℕ → State) → (ℕ → List RawEntry) → Type 0
Legals bases states raws = (n : ℕ) → n < SHARDS → LegalOctets n (bases n) (raws n) (states n)

journal_of : (bases states : ℕ → State) (raws : ℕ → List RawEntry) → Legals bases states raws → (n : ℕ)
    → (j : List Entry) × (n < SHARDS → SpellsJournal (raws n) j × Legal n (bases n) j (states n))
journal_of bases states raws legal n =
    elim (cases_lt n SHARDS) [
      | inl small ↦ ((legal n small).journal, λ _. ((legal n small).spelled, (legal n small).legal))
      | inr large ↦ ([], λ small. absurd (omega arith))
    ]

pub merge_of_octets : (bases states : ℕ → State) (raws : ℕ → List RawEntry) (merge : List RawEntry) → Legals bases states raws
    → ((n : ℕ) → n < SHARDS → (bases n).directory ≡ (bases 0).directory) → ((n : ℕ) → n < SHARDS → (bases n).hlr ≡ (bases 0).hlr)
    → MergesOctets raws merge → RunOctets (union bases) merge (union states)
merge_of_octets bases states raws merge legal directories hlrs merges =
    let journals : ℕ → List Entry = λ n. (journal_of bases states raws legal n).0 in
    let (js, spells, merged) = merge_spells merge raws journals (λ n small. ((journal_of bases states raws legal n).1 small).0) merges in
    run_again merge js (union bases) (union states) spells (merge_law bases states journals js
    (λ n small. ((journal_of bases states raws legal n).1 small).1) directories hlrs merged)
