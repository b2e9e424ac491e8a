-- How a run ends: with success, or with a fault.
use Rattle.std.proofs.Common.{◌≡◌, ℕ, zero, suc, ◌<◌, ◌≤◌, List, [], ◌++◌, refl, sym, ap, subst, ◌∙◌, append_assoc, inl, inr}
use Rattle.std.specs.Prelude.{Bool, Option, Some, None, Result, Ok, Err, IfErr, IfSome, IsErrAnd, OnOk}
use Rattle.std.specs.Result.{result_err}
use Rattle.std.specs.List.{AllByRecursion}
use Rattle.std.specs.Io.KnownBytes.{Appends, Keeps}
use Rattle.std.proofs.KnownBytes.{Appends-nil, Appends-trans, Appends-kept}
use Rattle.std.proofs.lemmas.List.{append-nil}
use Rattle.machine.specs.Sound.{Sound}
use Rattle.machine.specs.State.{State}
use Rattle.texts.specs.Lines.{lines}
use Rattle.records.specs.Loaded.{Subscribers}
use Rattle.shardlog.specs.declared.keep.Keep.{Keep}
use Rattle.shardlog.specs.Codes.{kept_if}
use Rattle.shardlog.specs.Log.{Log}
use Rattle.hlr_input.specs.declared.options.Options.{Options}
use Rattle.wholenode.specs.Nodes.{NodeState, whole}
use Rattle.wholenode.specs.Opening.{BeginsWith}
use Rattle.hlr_program.specs.declared.fault.Fault.{Fault}
use Rattle.hlr_program.specs.declared.register.Register.{Register}
use Rattle.hlr_program.specs.declared.register.Register.TheVariants.{Alone, Shared}
use Rattle.hlr_program.specs.declared.fault.Fault.TheVariants.{CommandLine, Memory, Output}
use Rattle.hlr_program.specs.Batches.{IsGood}
use Rattle.hlr_program.specs.Closing.{Closes}
use Rattle.hlr_program.specs.Journals.{IsAtEnd}
use Rattle.hlr_program.specs.Printed.{WritesFront}
use Rattle.hlr_program.specs.Promise.{Ends, EndsAlone, EndsWith, IsInput, RunsAndLists, RunsScript, StopsAtListing, StopsBatches, StopsRecords, StopsRunning, StopsScript, known_with}
use Rattle.hlr_program.specs.Registers.{HandsOver, IsOf, OpensWith, RunsTo, part_of, state_known}
use Rattle.hlr_program.specs.Runs.{AreOneRun, BatchRun, IsLoadedFrom, events_in, opening_of, printed_of, sent_in}
use Rattle.hlr_program.specs.Sharing.{workers_for}
use Rattle.hlr_program.specs.Stopping.{HandingOutStops}
use Rattle.hlr_program.proofs.GatherLemmas.{stops_weaker}
use Rattle.hlr_program.proofs.JournalLemmas.{opening_at_end}
use Rattle.hlr_program.proofs.RegisterLemmas.{known_run, unknown_before}

-- ---- the register that has loaded a records file

known_opening : (listed : Bool) (loaded : Subscribers) (workers : ℕ) (start : Register) → IsOf workers start → OpensWith listed loaded start
    → state_known start ≡ known_with workers (opening_of loaded)
known_opening listed loaded zero (Alone alone) of opens = ap (λ (S : State). Some S) opens.0.whole_is
known_opening listed loaded (suc more) (Shared crew) of opens = refl
known_opening listed loaded zero (Shared crew) of opens = absurd of
known_opening listed loaded (suc more) (Alone alone) of opens = absurd of

-- it was given nothing
pub opens_empty : (listed : Bool) (loaded : Subscribers) (start : Register) → OpensWith listed loaded start → part_of start ≡ []
opens_empty listed loaded (Alone alone) opens = opens.2
opens_empty listed loaded (Shared crew) opens = opens.1

begins_at_end : (loaded : Subscribers) (keep : Keep) (start : NodeState) → BeginsWith loaded keep 0 start → IsAtEnd (opening_of loaded) [] [] start
begins_at_end loaded keep start begins =
    opening_at_end (opening_of loaded) start
    (λ n l at. let opens = begins.shards_are.each n l at in (
      ap (λ (k : Log). k.base) opens.begins
          ∙ sym (ap (λ (k : Log). k.state) opens.begins),
      ap (λ (k : Log). k.entries) opens.begins,
    ))
    begins.whole_is

-- the shards that the register returns are those at the end of the run
ends_with : (listed : Bool) (loaded : Subscribers) (workers : ℕ) (start end : Register) (batches : List BatchRun) (shards : List Log) → IsOf workers start
    → OpensWith listed loaded start
    → RunsTo start (events_in batches) (sent_in batches) end → HandsOver end shards → EndsWith workers (opening_of loaded) batches shards
ends_with listed loaded zero (Alone start) (Alone end) batches shards of (begins, keeps, none) (run, continues) (same, kept) =
    subst (λ (ls : List Log). EndsAlone (opening_of loaded) batches ls) (sym same) (record {
      directory = end.register.directory;
      keeps = kept;
      run = subst (λ (S : State). AreOneRun S batches (whole end.register.shards)) begins.whole_is run;
      at_end = continues (opening_of loaded) [] [] (begins_at_end loaded (kept_if listed) start.register begins);
    })
ends_with listed loaded (suc more) (Shared start) (Shared end) batches shards of opens ran hands =
    hands (opening_of loaded) (events_in batches) (sent_in batches) (ran.1 (opening_of loaded) [] [] opens.0)
ends_with listed loaded zero (Alone start) (Shared end) batches shards of opens ran hands = absurd ran
ends_with listed loaded (suc more) (Shared start) (Alone end) batches shards of opens ran hands = absurd ran
ends_with listed loaded zero (Shared start) end batches shards of opens ran hands = absurd of
ends_with listed loaded (suc more) (Alone start) end batches shards of opens ran hands = absurd of

module _ (options : Options) (loaded : Subscribers) (script : List ℕ) (start : Register) (workers : ℕ) (chosen : workers ≡ workers_for options.workers script)
    (given : IsOf workers start) (opens : OpensWith options.list loaded start) (sound : Sound (opening_of loaded)) where
  of : IsOf (workers_for options.workers script) start
  of = subst (λ (n : ℕ). IsOf n start) chosen given

  known_is : state_known start ≡ known_with (workers_for options.workers script) (opening_of loaded)
  known_is = known_opening options.list loaded (workers_for options.workers script) start of opens

  pub runs_and_lists : (batches : List BatchRun) (end : Register) (shards : List Log) (closing : List ℕ) → RunsScript script start batches end
      → HandsOver end shards
      → Closes options.list options.save shards closing → RunsAndLists options loaded script (printed_of batches ++ closing)
  runs_and_lists batches end shards closing ran hands closes = record {
    batches = batches;
    are_batches = ran.are_batches;
    begins_sound = sound;
    shards = shards;
    ends = ends_with options.list loaded (workers_for options.workers script) start end batches shards of opens ran.ran hands;
    closing = closing;
    closes = closes;
    printed_is = refl;
  }

  pub script_stopped : (fault : Fault) (old new : Option (List ℕ))
      → (printed : List ℕ) × StopsBatches script (state_known start) fault printed × Appends old new printed
      → (printed : List ℕ) × StopsRunning options loaded script fault printed × Appends old new printed
  script_stopped fault old new (printed, stops, appends) =
      (printed, inr (inl (subst (λ (known : Option State). StopsBatches script known fault printed) known_is stops)), appends)

  -- the shards are not returned, or memory runs out for the listings
  pub listing_stopped : (fault : Fault) (old new : Option (List ℕ)) (batches : List BatchRun) (end : Register)
      → HandingOutStops (state_known end) fault
      → RunsScript script start batches end → Appends old new (printed_of batches) → (printed : List ℕ) × StopsRunning options loaded script fault printed
      × Appends old new printed
  listing_stopped fault old new batches end cause ran appends = (
    printed_of batches,
    inr (inr (inl (subst (λ (known : Option State). StopsAtListing script known fault (printed_of batches)) known_is (record {
      cause = stops_weaker fault (λ none. none) (unknown_before start end (events_in batches) (sent_in batches) ran.ran) cause;
      batches = batches;
      are_batches = ran.are_batches;
      met = state_known end;
      run = known_run start end batches ran.ran;
      printed_is = refl;
    })))),
    appends,
  )

  pub listing_printed : (old out new : Option (List ℕ)) (batches : List BatchRun) (end : Register) (shards : List Log)
      (closing written : List ℕ)
      → RunsScript script start batches end → Appends old out (printed_of batches) → HandsOver end shards → Closes options.list options.save shards closing
      → written ≡ closing
      → Appends out new written → (printed : List ℕ) × RunsAndLists options loaded script printed × Appends old new printed
  listing_printed old out new batches end shards closing written ran appends hands closes same more = (
    printed_of batches ++ closing,
    runs_and_lists batches end shards closing ran hands closes,
    Appends-trans old out new (printed_of batches) closing appends (subst (λ (w : List ℕ). Appends out new w) same more),
  )

  pub listing_broken : (fault : Fault) (old out new : Option (List ℕ)) (batches : List BatchRun) (end : Register) (shards : List Log)
      (closing written : List ℕ)
      → RunsScript script start batches end → Appends old out (printed_of batches) → HandsOver end shards → Closes options.list options.save shards closing
      → written ≡ closing
      → fault ≡ Output → WritesFront out written new → (printed : List ℕ) × StopsRunning options loaded script fault printed × Appends old new printed
  listing_broken fault old out new batches end shards closing written ran appends hands closes same output front = (
    printed_of batches ++ front.written,
    inr (inr (inr (record {
      output = output;
      all = printed_of batches ++ closing;
      ran = runs_and_lists batches end shards closing ran hands closes;
      left = front.left;
      front = ap (λ (l : List ℕ). printed_of batches ++ l) (sym same ∙ front.whole) ∙ sym (append_assoc (printed_of batches) front.written front.left);
    }))),
    Appends-trans old out new (printed_of batches) front.written appends front.appends,
  )

-- memory runs out for the register
pub opening_stopped : (options : Options) (loaded : Subscribers) (script : List ℕ) (fault : Fault) (old : Option (List ℕ)) → fault ≡ Memory
    → (printed : List ℕ) × StopsRunning options loaded script fault printed × Appends old old printed
opening_stopped options loaded script fault old memory = ([], inl (record { memory = memory; printed_is = refl }), Appends-nil old)

-- ---- what is printed is flushed

pub flushed : (options : Options) (loaded : Subscribers) (script : List ℕ) (old out new : Option (List ℕ)) → Keeps out new
    → (printed : List ℕ) × RunsAndLists options loaded script printed × Appends old out printed
    → (printed : List ℕ) × RunsAndLists options loaded script printed × Appends old new printed
flushed options loaded script old out new kept (printed, ran, appends) = (printed, ran, Appends-kept old out new printed appends kept)

pub not_flushed : (options : Options) (loaded : Subscribers) (script : List ℕ) (old out new : Option (List ℕ)) → Keeps out new
    → (printed : List ℕ) × RunsAndLists options loaded script printed × Appends old out printed
    → (printed : List ℕ) × StopsRunning options loaded script Output printed × Appends old new printed
not_flushed options loaded script old out new kept (printed, ran, appends) = (
  printed,
  inr (inr (inr (record {
    output = refl;
    all = printed;
    ran = ran;
    left = [];
    front = sym
        (append-nil printed);
  }))),
  Appends-kept old out new printed appends kept,
)

pub stopped_and_flushed : (options : Options) (loaded : Subscribers) (script : List ℕ) (fault : Fault) (old out new : Option (List ℕ)) → Keeps out new
    → (printed : List ℕ) × StopsRunning options loaded script fault printed × Appends old out printed
    → (printed : List ℕ) × StopsRunning options loaded script fault printed × Appends old new printed
stopped_and_flushed options loaded script fault old out new kept (printed, stops, appends) = (printed, stops, Appends-kept old out new printed appends kept)

-- ---- readers whose octets are known

pub if_known : (a b : Option (List ℕ)) (P : List ℕ → List ℕ → Type 0) → ((file script : List ℕ) → a ≡ Some file → b ≡ Some script → P file script)
    → IfSome a (λ file. IfSome b (λ script. P file script))
if_known None b P h = tt
if_known (Some file) None P h = tt
if_known (Some file) (Some script) P h = h file script refl refl

known : (a : Option (List ℕ)) (file : List ℕ) (P : List ℕ → Type 0) → a ≡ Some file → IfSome a P → P file
known None file P e h = absurd cc
known (Some x) file P e h = let same : x ≡ file = cc in subst P same h

pub ends_unserved : (options : Options) (a b : Option (List ℕ)) (old : Option (List ℕ)) → 16 < options.workers
    → IfSome a (λ file. IfSome b (λ script. Ends options file script old old (Some CommandLine)))
ends_unserved options a b old more = if_known a b (λ file script. Ends options file script old old (Some CommandLine))
    (λ file script at bt. ([], inl (inl (more, refl), refl), Appends-nil old))

pub ends_in_records : (options : Options) (a b : Option (List ℕ)) (old : Option (List ℕ)) (fault : Fault) → options.workers ≤ 16
    → IfSome a (λ file. StopsRecords file fault)
    → IfSome a (λ file. IfSome b (λ script. Ends options file script old old (Some fault)))
ends_in_records options a b old fault few stops =
    if_known a b (λ file script. Ends options file script old old (Some fault))
    (λ file script at bt. ([], inl (inr (inl (few, known a file (λ f. StopsRecords f fault) at stops)), refl), Appends-nil old))

pub ends_in_script : (options : Options) (loaded : Subscribers) (a b : Option (List ℕ)) (old : Option (List ℕ)) (fault : Fault) → options.workers ≤ 16
    → IfSome a (λ file. IsLoadedFrom file loaded)
    → IfSome b (λ script. StopsScript script fault) → IfSome a (λ file. IfSome b (λ script. Ends options file script old old (Some fault)))
ends_in_script options loaded a b old fault few reads stops =
    if_known a b (λ file script. Ends options file script old old (Some fault))
    (λ file script at bt. (
      [],
      inl (
        inr (inr (
          few,
          loaded,
          known a file (λ f. IsLoadedFrom f loaded) at reads,
          known b script
              (λ s. StopsScript s fault) bt stops,
        )),
        refl,
      ),
      Appends-nil old,
    ))

module _ (options : Options) (loaded : Subscribers) (text : List ℕ) (a b : Option (List ℕ)) (old new : Option (List ℕ)) (few : options.workers ≤ 16)
    (reads : IfSome a (λ file. IsLoadedFrom file loaded)) (good : AllByRecursion IsGood (lines text)) (same : IfSome b (λ script. text ≡ script)) where
  input : (file script : List ℕ) → a ≡ Some file → b ≡ Some script → IsInput file script loaded
  input file script at bt = record {
    is_loaded = known a file (λ f. IsLoadedFrom f loaded) at reads;
    is_script = subst (λ (s : List ℕ). AllByRecursion IsGood (lines s)) (known b script (λ s. text ≡ s) bt same) good;
  }

  pub ends_well : (printed : List ℕ) × RunsAndLists options loaded text printed × Appends old new printed
      → IfSome a (λ file. IfSome b (λ script. Ends options file script old new None))
  ends_well (printed, ran, appends) = if_known a b (λ file script. Ends options file script old new None) (λ file script at bt. (
    printed,
    record {
      workers_are = few;
      loaded = loaded;
      input = input file script at bt;
      ran = subst (λ (s : List ℕ). RunsAndLists options loaded s printed) (known b script (λ s. text ≡ s) bt same) ran;
    },
    appends,
  ))

  pub ends_running : (fault : Fault) → (printed : List ℕ) × StopsRunning options loaded text fault printed × Appends old new printed
      → IfSome a (λ file. IfSome b (λ script. Ends options file script old new (Some fault)))
  ends_running fault (printed, stops, appends) = if_known a b (λ file script. Ends options file script old new (Some fault)) (λ file script at bt. (
    printed,
    inr (
      few,
      loaded,
      input file script at bt,
      subst (λ (s : List ℕ). StopsRunning options loaded s fault printed)
          (known b script (λ s. text ≡ s) bt same) stops,
    ),
    appends,
  ))

  pub ends_loaded : (r : Result (Unit {0}) Fault) → OnOk r ((printed : List ℕ) × RunsAndLists options loaded text printed × Appends old new printed)
      → IfErr r (λ fault. (printed : List ℕ) × StopsRunning options loaded text fault printed × Appends old new printed)
      → IfSome a (λ file. IfSome b (λ script. Ends options file script old new (result_err r)))
  ends_loaded (Ok u) ran stops = ends_well ran
  ends_loaded (Err fault) ran stops = ends_running fault stops

-- ---- a fault is passed on

told : {A : Type 0} (r : Result A Fault) (e : Fault) → IsErrAnd r (λ f. f ≡ e) → result_err r ≡ Some e
told (Ok x) e h = absurd h
told (Err f) e h = ap (λ (k : Fault). Some k) h

pub ends_passed_on : {A : Type 0} (r : Result A Fault) (fault : Fault) (options : Options) (a b : Option (List ℕ)) (old new : Option (List ℕ))
    → IsErrAnd r (λ f. f ≡ fault)
    → IfSome a (λ file. IfSome b (λ script. Ends options file script old new (Some fault)))
    → IfSome a (λ file. IfSome b (λ script. Ends options file script old new (result_err r)))
ends_passed_on r fault options a b old new h ends =
    subst (λ (f : Option Fault). IfSome a (λ file. IfSome b (λ script. Ends options file script old new f))) (sym (told r fault h)) ends
