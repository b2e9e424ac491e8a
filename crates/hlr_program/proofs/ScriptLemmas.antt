-- One more batch of a script, and why a script stops.
use Rattle.std.proofs.Common.{◌≡◌, ℕ, ◌+◌, ◌<◌, arith, List, [], ◌∷◌, ◌++◌, length, refl, sym, ap, subst, ◌∙◌, append_assoc, inl, inr}
use Rattle.std.specs.Prelude.{Option, codes}
use Rattle.std.specs.List.{AllByRecursion, flat_map}
use Rattle.std.specs.Io.KnownBytes.{Appends}
use Rattle.std.proofs.KnownBytes.{Appends-nil, Appends-trans}
use Rattle.std.proofs.lemmas.Bool.{cases_Bool}
use Rattle.std.proofs.lemmas.List.{append-nil}
use Rattle.texts.specs.Lines.{parts, lines, without_empty_last}
use Rattle.records.specs.Reading.{is_text}
use Rattle.texts.proofs.LinesLemmas.{lines_last, lines_nil}
use Rattle.texts.proofs.PartsLemmas.{parts_cons}
use Rattle.frames.specs.Octets.{RawEvent, RawOut}
use Rattle.hlr_program.specs.declared.fault.Fault.{Fault}
use Rattle.hlr_program.specs.declared.fault.Fault.TheVariants.{Memory, Output}
use Rattle.hlr_program.specs.declared.register.Register.{Register}
use Rattle.hlr_program.specs.Batches.{IsGood, batch_of, behind_batch, batches_of, with_line}
use Rattle.hlr_program.specs.Gathering.{Handles}
use Rattle.hlr_program.specs.Printed.{WritesFront, noted_in, sent_lines}
use Rattle.hlr_program.specs.Promise.{RunsScript, StopsBatches, lines_before}
use Rattle.hlr_program.specs.Registers.{RunsTo, state_known}
use Rattle.hlr_program.specs.Runs.{AreBatches, BatchRun, LinesEvents, events_in, frames_of, noted_behind, printed_of, sent_in}
use Rattle.hlr_program.specs.Stopping.{BatchStops}
use Rattle.hlr_program.proofs.CheckLaws.{all_behind}
use Rattle.hlr_program.proofs.RegisterLemmas.{known_run, ran_join, ran_none}

-- ---- the first batch

lines_of_parts : (text first : List ℕ) (more : List (List ℕ)) → 0 < length text → parts 10 text ≡ first ∷ more → (line : List ℕ) ×
    (rest : List (List ℕ)) × (lines text ≡ line ∷ rest)
unfolding lines
lines_of_parts text first [] some e = (first, lines [], lines_last text first some e)
lines_of_parts text first (second ∷ more) some e = (first, without_empty_last (second ∷ more), rw e refl)

some_line : (text : List ℕ) → 0 < length text → (line : List ℕ) × (rest : List (List ℕ)) × (lines text ≡ line ∷ rest)
some_line text some = let p = parts_cons 10 text in lines_of_parts text p.0 p.1 some p.2

split_by : (line : List ℕ) (more : List (List ℕ)) → with_line line (batches_of more) ≡ (line ∷ batch_of more) ∷ batches_of (behind_batch more)
    → batches_of (line ∷ more) ≡ batch_of (line ∷ more) ∷ batches_of (behind_batch (line ∷ more))
split_by line more later = elim (cases_Bool (is_text line (codes "W"))) [
  | inl end ↦ rw end refl
  | inr no_end ↦ rw no_end later
]

batches_split : (line : List ℕ) (more : List (List ℕ)) → batches_of (line ∷ more) ≡ batch_of (line ∷ more) ∷ batches_of (behind_batch (line ∷ more))
batches_split line [] = split_by line [] refl
batches_split line (l ∷ ls) = split_by line (l ∷ ls) (ap (with_line line) (batches_split l ls))

-- the first batch of a text that is not empty
first_batch : (text : List ℕ) → 0 < length text → batches_of (lines text) ≡ batch_of (lines text) ∷ batches_of (behind_batch (lines text))
first_batch text some =
    let l = some_line text some in
    subst (λ (ls : List (List ℕ)). batches_of ls ≡ batch_of ls ∷ batches_of (behind_batch ls)) (sym l.2) (batches_split l.0 l.1)

pub nothing_left : (text : List ℕ) → length text ≡ 0 → lines text ≡ []
nothing_left [] none = lines_nil
nothing_left (x ∷ text) none = absurd (omega (arith, none))

-- ---- one batch after others

flat_append : {A B : Type 0} (f : A → List B) (xs ys : List A) → flat_map f (xs ++ ys) ≡ flat_map f xs ++ flat_map f ys
flat_append f [] ys = refl
flat_append f (x ∷ xs) ys = ap (λ l. f x ++ l) (flat_append f xs ys) ∙ sym (append_assoc (f x) (flat_map f xs) (flat_map f ys))

flat_push : {A B : Type 0} (f : A → List B) (xs : List A) (x : A) → flat_map f (xs ++ x ∷ []) ≡ flat_map f xs ++ f x
flat_push f xs x = flat_append f xs (x ∷ []) ∙ ap (λ l. flat_map f xs ++ l) (append-nil (f x))

are_more : (ids : List (List ℕ)) (ls : List (List (List ℕ))) (bs : List BatchRun) (batch : List (List ℕ)) (b : BatchRun) → AreBatches ids ls bs
    → LinesEvents (noted_behind ids bs) batch b.events → length b.sent ≡ length b.events → AreBatches ids (ls ++ batch ∷ []) (bs ++ b ∷ [])
are_more ids [] [] batch b h events each = (events, each, tt)
are_more ids [] (x ∷ bs) batch b h events each = absurd h
are_more ids (l ∷ ls) [] batch b h events each = absurd h
are_more ids (l ∷ ls) (x ∷ bs) batch b h events each = (h.0, h.1, are_more (noted_in ids (frames_of x)) ls bs batch b h.2 events each)

noted_more : (ids : List (List ℕ)) (bs : List BatchRun) (b : BatchRun) → noted_behind ids (bs ++ b ∷ []) ≡ noted_in (noted_behind ids bs) (frames_of b)
noted_more ids [] b = refl
noted_more ids (x ∷ bs) b = noted_more (noted_in ids (frames_of x)) bs b

before_more : (ls : List (List (List ℕ))) (batch : List (List ℕ)) → lines_before (ls ++ batch ∷ []) ≡ lines_before ls + (length batch + 1)
before_more [] batch = omega arith
before_more (l ∷ ls) batch = let later = before_more ls batch in omega (arith, later)

-- ---- where the run of a script stands

-- The batches before this place lead to the register as it is here.
pub record AtBatch (start : Register) (ls : List (List ℕ)) (ids : List (List ℕ)) (here : Register) (text : List ℕ) (before : ℕ) : Type 0 where
  pub done : List (List (List ℕ))
  pub batches : List BatchRun
  pub split : batches_of ls ≡ done ++ batches_of (lines text)
  pub are : AreBatches [] done batches
  pub ids_are : ids ≡ noted_behind [] batches
  pub number : 0 < length text → before ≡ lines_before done
  pub good : AllByRecursion IsGood (lines text)
  pub ran : RunsTo start (events_in batches) (sent_in batches) here

-- And what they print is printed.
pub record AtPlace (start : Register) (ls : List (List ℕ)) (old out : Option (List ℕ)) (ids : List (List ℕ)) (here : Register) (text : List ℕ)
    (before : ℕ) : Type 0 where
  pub at : AtBatch start ls ids here text before
  pub appends : Appends old out (printed_of at.batches)

pub script_begins : (start : Register) (script text : List ℕ) (out : Option (List ℕ)) (ids : List (List ℕ)) (before : ℕ) → ids ≡ [] → text ≡ script → before ≡ 0
    → AllByRecursion IsGood (lines script) → AtPlace start (lines script) out out ids start text before
script_begins start script text out ids before none same zeroth good = record {
  at = record {
    done = [];
    batches = [];
    split = sym (ap (λ (t : List ℕ). batches_of (lines t)) same);
    are = tt;
    ids_are = none;
    number = λ some. zeroth;
    good = subst (λ (t : List ℕ). AllByRecursion IsGood (lines t)) (sym same) good;
    ran = ran_none start;
  };
  appends = Appends-nil out;
}

pub script_ends : (start : Register) (script : List ℕ) (old out : Option (List ℕ)) (ids : List (List ℕ)) (here : Register) (text : List ℕ) (before : ℕ)
    → AtPlace start (lines script) old out ids here text before → lines text ≡ [] → (batches : List BatchRun) × RunsScript script start batches here
    × Appends old out (printed_of batches)
script_ends start script old out ids here text before h none = (
  h.at.batches,
  record {
    are_batches = subst (λ (ls : List (List (List ℕ))). AreBatches [] ls h.at.batches)
        (sym (h.at.split ∙ ap (λ (ls : List (List ℕ)). h.at.done ++ batches_of ls) none ∙ append-nil h.at.done)) h.at.are;
    ran = h.at.ran;
  },
  h.appends,
)

-- one more batch is handled
pub batch_handled : (start : Register) (ls : List (List ℕ)) (ids noted : List (List ℕ)) (here next : Register) (text behind : List ℕ) (before number : ℕ)
    (sent : List RawOut)
    → 0 < length text → (h : AtBatch start ls ids here text before) → (k : Handles ids here (batch_of (lines text)) sent next)
    → lines behind ≡ behind_batch (lines text)
    → (0 < length behind → number ≡ before + length (batch_of (lines text)) + 1) → noted ≡ noted_in ids sent
    → (m : AtBatch start ls noted next behind number) × (printed_of m.batches ≡ printed_of h.batches ++ sent_lines sent)
batch_handled start ls ids noted here next text behind before number sent some h k is counted notes = (
  record {
    done = h.done ++ batch_of (lines text) ∷ [];
    batches = h.batches ++ k.batch ∷ [];
    split = h.split ∙ ap (λ (bs : List (List (List ℕ))). h.done ++ bs) (first_batch text some)
        ∙ sym (append_assoc h.done (batch_of (lines text) ∷ []) (batches_of (behind_batch (lines text))))
        ∙ ap (λ (l : List (List ℕ)). (h.done ++ batch_of (lines text) ∷ []) ++ batches_of l) (sym is);
    are = are_more [] h.done h.batches (batch_of (lines text)) k.batch h.are
        (subst (λ (i : List (List ℕ)). LinesEvents i (batch_of (lines text)) k.batch.events) h.ids_are k.are_events) k.one_each;
    ids_are = notes ∙ ap (noted_in ids) k.sent_is ∙ ap (λ (i : List (List ℕ)). noted_in i (frames_of k.batch)) h.ids_are
        ∙ sym (noted_more [] h.batches k.batch);
    number = λ more. let here_is = h.number some in omega (arith, counted more, here_is, before_more h.done (batch_of (lines text)));
    good = subst (AllByRecursion IsGood) (sym is) (all_behind IsGood (lines text) h.good);
    ran = subst (λ (es : List RawEvent). RunsTo start es (sent_in (h.batches ++ k.batch ∷ [])) next) (sym events_are)
        (subst (λ (os : List (List RawOut)). RunsTo start (events_in h.batches ++ k.batch.events) os next) (sym sent_are)
        (ran_join start here next (events_in h.batches) k.batch.events (sent_in h.batches) k.batch.sent h.ran k.ran));
  },
  flat_push (λ b. sent_lines (frames_of b)) h.batches k.batch ∙ ap (λ (frames : List RawOut). printed_of h.batches ++ sent_lines frames) (sym k.sent_is),
)
  where
    events_are : events_in (h.batches ++ k.batch ∷ []) ≡ events_in h.batches ++ k.batch.events
    events_are = flat_push (λ b. b.events) h.batches k.batch

    sent_are : sent_in (h.batches ++ k.batch ∷ []) ≡ sent_in h.batches ++ k.batch.sent
    sent_are = flat_push (λ b. b.sent) h.batches k.batch

-- and printed
pub batch_printed : (start : Register) (ls : List (List ℕ)) (old out more : Option (List ℕ)) (ids noted : List (List ℕ)) (here next : Register)
    (text behind : List ℕ) (before number : ℕ)
    (sent : List RawOut) (written : List ℕ) → 0 < length text → AtPlace start ls old out ids here text before
    → Handles ids here (batch_of (lines text)) sent next
    → lines behind ≡ behind_batch (lines text) → (0 < length behind → number ≡ before + length (batch_of (lines text)) + 1) → noted ≡ noted_in ids sent
    → written ≡ sent_lines sent
    → Appends out more written → AtPlace start ls old more noted next behind number
batch_printed start ls old out more ids noted here next text behind before number sent written some h k is counted notes wrote printed =
    let m = batch_handled start ls ids noted here next text behind before number sent some h.at k is counted notes in
    record {
      at = m.0;
      appends = subst (λ (p : List ℕ). Appends old more p) (ap (λ (w : List ℕ). printed_of h.at.batches ++ w) wrote ∙ sym m.1)
          (Appends-trans old out more (printed_of h.at.batches) written h.appends printed);
    }

-- ---- why a script stops

abbrev pub Stopped : (script : List ℕ) → Register → Fault → (old out : Option (List ℕ)) → Type 0
Stopped script start fault old out = (printed : List ℕ) × StopsBatches script (state_known start) fault printed × Appends old out printed

-- a batch stops: nothing of it is printed
pub batch_stopped : (start : Register) (script : List ℕ) (old out : Option (List ℕ)) (ids : List (List ℕ)) (here : Register) (text : List ℕ) (before : ℕ)
    (fault : Fault)
    → 0 < length text → AtPlace start (lines script) old out ids here text before → BatchStops ids before (state_known here) (batch_of (lines text)) fault
    → Stopped script start fault old out
batch_stopped start script old out ids here text before fault some h stops = (
  printed_of h.at.batches,
  inl (record {
    done = h.at.done;
    batch = batch_of (lines text);
    rest = batches_of (behind_batch (lines text));
    split = h.at.split ∙ ap (λ (bs : List (List (List ℕ))). h.at.done ++ bs) (first_batch text some);
    batches = h.at.batches;
    are_batches = h.at.are;
    met = state_known here;
    run = known_run start here h.at.batches h.at.ran;
    stops = subst (λ (i : List (List ℕ)). BatchStops i (lines_before h.at.done) (state_known here) (batch_of (lines text)) fault) h.at.ids_are
        (subst (λ (n : ℕ). BatchStops ids n (state_known here) (batch_of (lines text)) fault) (h.at.number some) stops);
    printed_is = refl;
  }),
  h.appends,
)

-- memory runs out for the text of a batch
pub batch_unwritten : (start : Register) (script : List ℕ) (old out : Option (List ℕ)) (ids : List (List ℕ)) (here : Register) (text : List ℕ) (before : ℕ)
    (fault : Fault)
    → 0 < length text → AtPlace start (lines script) old out ids here text before → fault ≡ Memory → Stopped script start fault old out
batch_unwritten start script old out ids here text before fault some h memory =
    subst (λ (f : Fault). Stopped script start f old out) (sym memory) (batch_stopped start script old out ids here text before Memory some h tt)

-- the writer fails
pub batch_broken : (start : Register) (script : List ℕ) (old out more : Option (List ℕ)) (ids noted : List (List ℕ)) (here next : Register)
    (text behind : List ℕ) (before number : ℕ)
    (sent : List RawOut) (written : List ℕ) (fault : Fault) → 0 < length text → AtPlace start (lines script) old out ids here text before
    → Handles ids here (batch_of (lines text)) sent next
    → lines behind ≡ behind_batch (lines text) → (0 < length behind → number ≡ before + length (batch_of (lines text)) + 1) → noted ≡ noted_in ids sent
    → written ≡ sent_lines sent
    → fault ≡ Output → WritesFront out written more → Stopped script start fault old more
batch_broken start script old out more ids noted here next text behind before number sent written fault some h k is counted notes wrote output front =
    let m = batch_handled start (lines script) ids noted here next text behind before number sent some h.at k is counted notes in (
      printed_of h.at.batches ++ front.written,
      inr (record {
        output = output;
        done = m.0.done;
        rest = batches_of (lines behind);
        split = m.0.split;
        batches = m.0.batches;
        are_batches = m.0.are;
        met = state_known next;
        run = known_run start next m.0.batches m.0.ran;
        left = front.left;
        front = m.1 ∙ ap (λ (w : List ℕ). printed_of h.at.batches ++ w) (sym wrote ∙ front.whole)
            ∙ sym (append_assoc (printed_of h.at.batches) front.written front.left);
      }),
      Appends-trans old out more (printed_of h.at.batches) front.written h.appends front.appends,
    )
