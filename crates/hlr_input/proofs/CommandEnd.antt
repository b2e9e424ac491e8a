-- What `clap` finds in the words of a command line is what they say.
use Rattle.std.proofs.Common.{◌≡◌, ◌∙◌, ℕ, Bool, true, false, ◌&&◌, ◌||◌, List, [], ◌∷◌, ◌++◌, Option, Some, None, is_some, drop, refl, ap, cond, codes as text}
use Rattle.std.specs.Prelude.{fold}
use Rattle.std.specs.Str.{bytes_eq}
use Rattle.clap.specs.Kinds.{Kinds}
use Rattle.clap.specs.Walk.{Held, Row, Text, Rule, Walk, first_of, finished, has_row, more_values, nothing_held, one_of, settled, walk_from, walked, with_default, with_values}
use Rattle.clap.specs.Simple.{built, entered, matches_of}
use Rattle.clap.specs.Takes.{is_given}
use Rattle.clap.specs.Faults.{check_fault, defaults_fault, default_fault, entered_fault, fault_of, settle_fault}
use Rattle.clap.specs.declared.builder.value_parser.Reading.TheVariants.{AsWritten}
use Rattle.clap.specs.declared.parser.matches.ValueSource.TheVariants.{DefaultValue}
use Rattle.clap.specs.declared.error.kind.ErrorKind.TheVariants.{MissingRequiredArgument}
use Rattle.hlr_input.specs.Command.{flag_text, hlr}
use Rattle.hlr_input.specs.CommandLine.{Said, anywhere, nothing_said, words_said}
use Rattle.hlr_input.proofs.CommandOptions.{said_of, settled_now, unused, used_before}
use Rattle.hlr_input.proofs.CommandRows.{Tells, absent, at, at_new, at_other, fails, flag_at, passes_both, row_of, rules, shape, value_at}
use Rattle.hlr_input.proofs.CommandWalk.{AllFine, Ended, Walked, all_words, end_fault, end_of, total_fault}

-- ---- defaults

abbrev AreQuiet : List Rule → Type 0
AreQuiet [] = Unit {0}
AreQuiet (a ∷ more) = ((rows : List Row) → default_fault rows a ≡ []) × AreQuiet more

no_faults : (rows : List Row) (list : List Rule) → AreQuiet list → defaults_fault rows list ≡ []
unfolding defaults_fault
no_faults rows [] quiet = refl
no_faults rows (a ∷ more) quiet =
    passes_both (default_fault rows a) (defaults_fault (with_default rows a) more) (quiet.0 rows) (no_faults (with_default rows a) more quiet.1)

no_fault : (has : Bool) (k : Kinds) → cond (has || true) [] k ≡ []
no_fault true k = refl
no_fault false k = refl

abbrev none_of : Kinds
none_of = []

no_flag_fault : (has : Bool) → cond (has || false) [] [] ≡ none_of
no_flag_fault true = refl
no_flag_fault false = refl

no_default_fault : (rows : List Row) → defaults_fault rows rules ≡ []
no_default_fault rows = no_faults rows rules (
  λ some. no_fault (has_row (text "records") some) _,
  (
    λ some. no_fault (has_row (text "script") some) _,
    (
      λ some. no_fault (has_row (text "workers") some) _,
      (
        λ some. no_flag_fault (has_row (text "list") some),
        (λ some. no_flag_fault (has_row (text "save") some), (λ some. no_fault (has_row (text "help") some) _, tt)),
      ),
    ),
  ),
)

abbrev default_row : List ℕ → Row
default_row id = record { id = id; values = text "false" ∷ []; count = None; source = Some DefaultValue; reading = AsWritten }

no_default : (has : Bool) (rows : List Row) → cond has rows rows ≡ rows
no_default true rows = refl
no_default false rows = refl

abbrev with_flag : List ℕ → List Row → List Row
with_flag id rows = cond (has_row id rows) rows (with_values id AsWritten DefaultValue (text "false" ∷ []) rows)

abbrev defaulted : List Row → List Rule → List Row
defaulted rows list = fold with_default rows list

finished_is : (h : Held) → finished rules h ≡ with_flag (text "save") (with_flag (text "list") (settled rules h).rows)
finished_is h =
    let start = (settled rules h).rows in
    let whole = with_flag (text "save") (with_flag (text "list") start) in
    ap (λ (rows : List Row). defaulted rows (drop 1 rules)) (no_default (has_row (text "records") start) start)
    ∙ ap (λ (rows : List Row). defaulted rows (drop 2 rules)) (no_default (has_row (text "script") start) start)
    ∙ ap (λ (rows : List Row). defaulted rows (drop 3 rules)) (no_default (has_row (text "workers") start) start)
    ∙ no_default (has_row (text "help") whole) whole

-- ---- the flags

flag_kept : (id : List ℕ) (rows : List Row) (row : Row) → at id rows ≡ Some row → with_flag id rows ≡ rows
flag_kept id rows row h = rw (used_before id rows row h) refl

flag_added : (id : List ℕ) (rows : List Row) → at id rows ≡ None → with_flag id rows ≡ rows ++ default_row id ∷ []
flag_added id rows h = rw (unused id rows h) (absent id (more_values DefaultValue (text "false" ∷ [])) (default_row id ∷ []) rows h)

default_there : (id : List ℕ) (rows : List Row) → at id rows ≡ None → bytes_eq id id ≡ true → at id (with_flag id rows) ≡ Some (default_row id)
default_there id rows h same = rw (flag_added id rows h) (at_new id rows (default_row id) same h)

others_kept : (id other : List ℕ) (rows : List Row) → at id rows ≡ None → bytes_eq id other ≡ false → at other (with_flag id rows) ≡ at other rows
others_kept id other rows h differ = rw (flag_added id rows h) (at_other other rows (default_row id) differ)

abbrev flag_row : List ℕ → Bool → Row
flag_row id given = cond given (row_of id (text "true")) (default_row id)

-- the rows say what was said, and each flag has one
record TellsAll (said : Said) (rows : List Row) : Type 0 where
  records : value_at (text "records") said.records rows
  script : value_at (text "script") said.script rows
  workers : value_at (text "workers") said.workers rows
  list : at (text "list") rows ≡ Some (flag_row (text "list") said.list)
  save : at (text "save") rows ≡ Some (flag_row (text "save") said.save)

record TellsList (said : Said) (rows : List Row) : Type 0 where
  records : value_at (text "records") said.records rows
  script : value_at (text "script") said.script rows
  workers : value_at (text "workers") said.workers rows
  list : at (text "list") rows ≡ Some (flag_row (text "list") said.list)
  save : flag_at (text "save") said.save rows

list_there : (records script workers : Option (List ℕ)) (list save : Bool) (rows : List Row) → Tells (said_of records script workers list save) rows
    → TellsList (said_of records script workers list save) (with_flag (text "list") rows)
list_there records script workers true save rows h = rw (flag_kept (text "list") rows _ h.list) (record {
  records = h.records;
  script = h.script;
  workers = h.workers;
  list = h.list;
  save = h.save;
})
list_there records script workers false save rows h = record {
  records = others_kept (text "list") (text "records") rows h.list refl ∙ h.records;
  script = others_kept (text "list") (text "script") rows h.list refl ∙ h.script;
  workers = others_kept (text "list") (text "workers") rows h.list refl ∙ h.workers;
  list = default_there (text "list") rows h.list refl;
  save = others_kept (text "list") (text "save") rows h.list refl ∙ h.save;
}

save_there : (records script workers : Option (List ℕ)) (list save : Bool) (rows : List Row)
    → TellsList (said_of records script workers list save) rows
    → TellsAll (said_of records script workers list save) (with_flag (text "save") rows)
save_there records script workers list true rows h = rw (flag_kept (text "save") rows _ h.save) (record {
  records = h.records;
  script = h.script;
  workers = h.workers;
  list = h.list;
  save = h.save;
})
save_there records script workers list false rows h = record {
  records = others_kept (text "save") (text "records") rows h.save refl ∙ h.records;
  script = others_kept (text "save") (text "script") rows h.save refl ∙ h.script;
  workers = others_kept (text "save") (text "workers") rows h.save refl ∙ h.workers;
  list = others_kept (text "save") (text "list") rows h.save refl ∙ h.list;
  save = default_there (text "save") rows h.save refl;
}

-- ---- what the getters give

value_is : (id : List ℕ) (v : Option (List ℕ)) (rows : List Row) → value_at id v rows → first_of id rows ≡ v
value_is id None rows h = rw h refl
value_is id (Some v) rows h = rw h refl

given_is : (id : List ℕ) (v : Option (List ℕ)) (rows : List Row) → value_at id v rows → is_given id rows ≡ is_some v
given_is id None rows h = rw h refl
given_is id (Some v) rows h = rw h refl

flag_is : (id : List ℕ) (given : Bool) (rows : List Row) → at id rows ≡ Some (flag_row id given) → one_of id rows ≡ Some (flag_text given)
flag_is id true rows h = rw h refl
flag_is id false rows h = rw h refl

-- what the matches have of what was said
pub record Matches (said : Said) (rows : List Row) : Type 0 where
  pub records : first_of (text "records") rows ≡ said.records
  pub script : first_of (text "script") rows ≡ said.script
  pub workers : first_of (text "workers") rows ≡ said.workers
  pub list : one_of (text "list") rows ≡ Some (flag_text said.list)
  pub save : one_of (text "save") rows ≡ Some (flag_text said.save)

matches : (said : Said) (rows : List Row) → TellsAll said rows → Matches said rows
matches said rows h = record {
  records = value_is (text "records") said.records rows h.records;
  script = value_is (text "script") said.script rows h.script;
  workers = value_is (text "workers") said.workers rows h.workers;
  list = flag_is (text "list") said.list rows h.list;
  save = flag_is (text "save") said.save rows h.save;
}

-- both paths must be there
abbrev pub path_fault : Said → Kinds
path_fault said = cond (is_some said.records && is_some said.script) [] (MissingRequiredArgument ∷ [])

check_is : (rows : List Row) (records script : Bool) → is_given (text "records") rows ≡ records → is_given (text "script") rows ≡ script
    → check_fault shape rows false ≡ cond (records && script) [] (MissingRequiredArgument ∷ [])
check_is rows true true e f = rw (e, f) refl
check_is rows true false e f = rw (e, f) refl
check_is rows false script e f = rw e refl

-- ---- the whole parse

not_entered : (stop : Option (Text × List Text)) → entered (built hlr) stop ≡ None
not_entered None = refl
not_entered (Some stop) = refl

no_fault_below : (stop : Option (Text × List Text)) → entered_fault (built hlr) stop ≡ []
no_fault_below None = refl
no_fault_below (Some stop) = refl

abbrev start : Walk
start = walk_from nothing_held

fault_is : (words : List (List ℕ)) → fault_of hlr words ≡ total_fault start (drop 1 words)
fault_is words = let stop = (fold (walked rules []) start (drop 1 words)).stopped in rw (not_entered stop, no_fault_below stop) refl

-- what `clap` answers for the words, and what it finds in them
abbrev pub Told : Option Said → List (List ℕ) → Type 0
Told None words = fails (fault_of hlr words) ≡ true
Told (Some said) words = (fault_of hlr words ≡ path_fault said) × Matches said (matches_of hlr words)

ended_rows : (said : Said) (h : Held) → Ended said h → TellsAll said (finished rules h)
ended_rows said h (rows, pending, is, s) =
    let now = (settled rules h).rows in
    let tells : Tells said now = rw is s.tells in
    let all : TellsAll said (with_flag (text "save") (with_flag (text "list") now)) = save_there said.records said.script said.workers said.list said.save
    (with_flag (text "list") now) (list_there said.records said.script said.workers said.list said.save now tells) in
    rw (finished_is h) all

ended_fault : (said : Said) (h : Held) → Ended said h → end_fault h ≡ path_fault said
ended_fault said h ended =
    let all = ended_rows said h ended in
    let checked : check_fault shape (finished rules h) false ≡ path_fault said = check_is (finished rules h) (is_some said.records) (is_some said.script)
    (given_is (text "records") said.records (finished rules h) all.records) (given_is (text "script") said.script (finished rules h) all.script) in
    let settles : settle_fault rules false h ≡ [] = rw ended.2 ended.3.passes in
    rw (settles, no_default_fault (settled rules h).rows) checked

told : (o : Option Said) (words : List (List ℕ)) → Walked o start (drop 1 words) → Told o words
told None words h = rw (fault_is words) h
told (Some said) words h = (
  fault_is words ∙ rw h.0 (ended_fault said (end_of start (drop 1 words)) h.1),
  matches said (matches_of hlr words) (ended_rows said (end_of start (drop 1 words)) h.1),
)

pub words_are_told : (words : List (List ℕ)) → AllFine (drop 1 words) → Told (words_said anywhere (drop 1 words) nothing_said) words
words_are_told words fine = told (words_said anywhere (drop 1 words) nothing_said) words
    (all_words anywhere nothing_said start (drop 1 words) fine (
      [],
      None,
      refl,
      settled_now nothing_said [] (record {
        records = refl;
        script = refl;
        workers = refl;
        list = refl;
        save = refl;
      }),
    ))
