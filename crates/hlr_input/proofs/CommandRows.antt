-- The command that `clap` walks with, and the rows that it finds, compared with what the words so far said.
use Rattle.std.proofs.Common.{◌≡◌, ◌∙◌, ℕ, Bool, true, false, List, [], ◌∷◌, ◌++◌, Option, Some, None, is_some, option_map, refl, cond, append-nil, codes as text}
use Rattle.std.specs.Prelude.{find}
use Rattle.std.specs.Str.{bytes_eq}
use Rattle.clap.specs.Kinds.{Kinds, or_else}
use Rattle.clap.specs.Walk.{Held, Row, Rule, Walk, at_row, has_row, idle, more_values, option, settled, with_values, without}
use Rattle.clap.specs.Simple.{Shape, built, filled, help_rule}
use Rattle.clap.specs.Faults.{settle_fault}
use Rattle.clap.specs.declared.builder.value_parser.Reading.TheVariants.{AsWritten}
use Rattle.clap.specs.declared.parser.matches.ValueSource.TheVariants.{CommandLine}
use Rattle.hlr_input.specs.Command.{hlr, list_rule, save_rule, workers_rule}
use Rattle.hlr_input.specs.CommandLine.{Said, Place, anywhere, number, behind}

-- ---- the command that `clap` walks with

abbrev pub shape : Shape
shape = (built hlr).top

abbrev pub rules : List Rule
rules = shape.rules

abbrev pub workers_built : Rule
workers_built = filled workers_rule

abbrev pub list_built : Rule
list_built = filled list_rule

abbrev pub save_built : Rule
save_built = filled save_rule

abbrev pub help_built : Rule
help_built = filled help_rule

-- ---- lists of kinds

abbrev pub fails : Kinds → Bool
fails [] = false
fails (kind ∷ more) = true

pub fails_first : (a b : Kinds) → fails a ≡ true → fails (or_else a b) ≡ true
fails_first [] b h = cc
fails_first (kind ∷ more) b h = refl

pub fails_second : (a b : Kinds) → fails b ≡ true → fails (or_else a b) ≡ true
fails_second [] b h = h
fails_second (kind ∷ more) b h = refl

pub passes_both : (a b : Kinds) → a ≡ [] → b ≡ [] → or_else a b ≡ []
passes_both a b e h = rw e h

-- ---- rows

abbrev pub at : List ℕ → List Row → Option Row
at id rows = find (λ row. bytes_eq row.id id) rows

pub has_row_at : (id : List ℕ) (rows : List Row) → has_row id rows ≡ is_some (at id rows)
has_row_at id [] = refl
has_row_at id (row ∷ more) = go (bytes_eq row.id id) refl (has_row_at id more)
  where
    go : (t : Bool) → bytes_eq row.id id ≡ t → has_row id more ≡ is_some (at id more) → has_row id (row ∷ more) ≡ is_some (at id (row ∷ more))
    go true e rest = rw e refl
    go false e rest = rw e rest

pub absent : (id : List ℕ) (change : Row → List Row) (missing rows : List Row) → at id rows ≡ None → at_row id change missing rows ≡ rows ++ missing
absent id change missing [] h = refl
absent id change missing (row ∷ more) h = go (bytes_eq row.id id) refl (absent id change missing more)
  where
    go : (t : Bool) → bytes_eq row.id id ≡ t → (at id more ≡ None → at_row id change missing more ≡ more ++ missing)
        → at_row id change missing (row ∷ more) ≡ (row ∷ more) ++ missing
    go true e rest = let no : Some row ≡ None = rw e at h in cc
    go false e rest = let none : at id more ≡ None = rw e at h in rw (e, rest none) refl

pub at_other : (id : List ℕ) (rows : List Row) (row : Row) → bytes_eq row.id id ≡ false → at id (rows ++ row ∷ []) ≡ at id rows
at_other id [] row h = rw h refl
at_other id (first ∷ more) row h = go (bytes_eq first.id id) refl (at_other id more row h)
  where
    go : (t : Bool) → bytes_eq first.id id ≡ t → at id (more ++ row ∷ []) ≡ at id more → at id ((first ∷ more) ++ row ∷ []) ≡ at id (first ∷ more)
    go true e rest = rw e refl
    go false e rest = rw e rest

pub at_new : (id : List ℕ) (rows : List Row) (row : Row) → bytes_eq row.id id ≡ true → at id rows ≡ None → at id (rows ++ row ∷ []) ≡ Some row
at_new id [] row h none = rw h refl
at_new id (first ∷ more) row h none = go (bytes_eq first.id id) refl (at_new id more row h)
  where
    go : (t : Bool) → bytes_eq first.id id ≡ t → (at id more ≡ None → at id (more ++ row ∷ []) ≡ Some row) → at id ((first ∷ more) ++ row ∷ []) ≡ Some row
    go true e rest = let no : Some first ≡ None = rw e at none in cc
    go false e rest = let none_more : at id more ≡ None = rw e at none in rw e (rest none_more)

abbrev pub row_of : List ℕ → List ℕ → Row
row_of id value = record { id = id; values = value ∷ []; count = None; source = Some CommandLine; reading = AsWritten }

abbrev pub used_once : List ℕ → List ℕ → List Row → List Row
used_once id value rows = with_values id AsWritten CommandLine (value ∷ []) (without id rows)

pub used_once_is : (id value : List ℕ) (rows : List Row) → at id rows ≡ None → used_once id value rows ≡ rows ++ row_of id value ∷ []
used_once_is id value rows h =
    let same : without id rows ≡ rows = absent id (λ _. []) [] rows h ∙ append-nil rows in
    rw same (absent id (more_values CommandLine (value ∷ [])) (row_of id value ∷ []) rows h)

-- ---- between two words

-- the rows say what was said
abbrev pub value_at : List ℕ → Option (List ℕ) → List Row → Type 0
value_at id value rows = at id rows ≡ option_map (row_of id) value

abbrev pub flag_at : List ℕ → Bool → List Row → Type 0
flag_at id given rows = at id rows ≡ cond given (Some (row_of id (text "true"))) None

pub record Tells (said : Said) (rows : List Row) : Type 0 where
  pub records : value_at (text "records") said.records rows
  pub script : value_at (text "script") said.script rows
  pub workers : value_at (text "workers") said.workers rows
  pub list : flag_at (text "list") said.list rows
  pub save : flag_at (text "save") said.save rows

abbrev pub Pending : Type 0
Pending = Option (List ℕ × List (List ℕ))

abbrev pub held : List Row → Pending → Held
held rows pending = record { rows = rows; pending = pending; skip = 0 }

abbrev pub position_of : Said → ℕ
position_of said = cond (is_some said.script) 3 (cond (is_some said.records) 2 1)

abbrev pub wants_number : Pending
wants_number = Some (text "workers", [])

-- the walk where an option may occur, or after `--`, and where the number of workers is expected
abbrev pub idle_walk : Bool → Said → List Row → Pending → Walk
idle_walk trailing said rows pending =
    record { held = held rows pending; waiting = idle; position = position_of said; is_trailing = trailing; stopped = None }

abbrev pub number_walk : Said → List Row → Walk
number_walk said rows =
    record { held = held rows wants_number; waiting = option (text "workers"); position = position_of said; is_trailing = false; stopped = None }

-- what is pending may be used, and the rows are then those of what was said
pub record Settles (said : Said) (rows : List Row) (pending : Pending) : Type 0 where
  pub passes : settle_fault rules false (held rows pending) ≡ []
  pub tells : Tells said (settled rules (held rows pending)).rows

abbrev pub Stands : Place → Said → Walk → Type 0
Stands anywhere said w = (rows : List Row) × (pending : Pending) × (w ≡ idle_walk false said rows pending) × Settles said rows pending
Stands behind said w = (rows : List Row) × (pending : Pending) × (w ≡ idle_walk true said rows pending) × Settles said rows pending
Stands number said w = (rows : List Row) × (w ≡ number_walk said rows) × Tells said rows

-- ---- one use more

-- the row of a value that was not there
pub value_used : (id value : List ℕ) (rows : List Row) → at id rows ≡ None → bytes_eq id id ≡ true
    → at id (used_once id value rows) ≡ Some (row_of id value)
value_used id value rows none same = rw (used_once_is id value rows none) (at_new id rows (row_of id value) same none)

pub others_stay : (id other value : List ℕ) (rows : List Row) → at id rows ≡ None → bytes_eq id other ≡ false
    → at other (used_once id value rows) ≡ at other rows
others_stay id other value rows none differ = rw (used_once_is id value rows none) (at_other other rows (row_of id value) differ)

pub records_told : (word : List ℕ) (script workers : Option (List ℕ)) (list save : Bool) (rows : List Row)
    → Tells (record { records = None; script = script; workers = workers; list = list; save = save }) rows
    → Tells (record { records = Some word; script = script; workers = workers; list = list; save = save }) (used_once (text "records") word rows)
records_told word script workers list save rows h = record {
  records = value_used (text "records") word rows h.records refl;
  script = others_stay (text "records") (text "script") word rows h.records refl ∙ h.script;
  workers = others_stay (text "records") (text "workers") word rows h.records refl ∙ h.workers;
  list = others_stay (text "records") (text "list") word rows h.records refl ∙ h.list;
  save = others_stay (text "records") (text "save") word rows h.records refl ∙ h.save;
}

pub script_told : (word : List ℕ) (records workers : Option (List ℕ)) (list save : Bool) (rows : List Row)
    → Tells (record { records = records; script = None; workers = workers; list = list; save = save }) rows
    → Tells (record { records = records; script = Some word; workers = workers; list = list; save = save }) (used_once (text "script") word rows)
script_told word records workers list save rows h = record {
  records = others_stay (text "script") (text "records") word rows h.script refl ∙ h.records;
  script = value_used (text "script") word rows h.script refl;
  workers = others_stay (text "script") (text "workers") word rows h.script refl ∙ h.workers;
  list = others_stay (text "script") (text "list") word rows h.script refl ∙ h.list;
  save = others_stay (text "script") (text "save") word rows h.script refl ∙ h.save;
}

pub workers_told : (word : List ℕ) (records script : Option (List ℕ)) (list save : Bool) (rows : List Row)
    → Tells (record { records = records; script = script; workers = None; list = list; save = save }) rows
    → Tells (record { records = records; script = script; workers = Some word; list = list; save = save }) (used_once (text "workers") word rows)
workers_told word records script list save rows h = record {
  records = others_stay (text "workers") (text "records") word rows h.workers refl ∙ h.records;
  script = others_stay (text "workers") (text "script") word rows h.workers refl ∙ h.script;
  workers = value_used (text "workers") word rows h.workers refl;
  list = others_stay (text "workers") (text "list") word rows h.workers refl ∙ h.list;
  save = others_stay (text "workers") (text "save") word rows h.workers refl ∙ h.save;
}

pub list_told : (records script workers : Option (List ℕ)) (save : Bool) (rows : List Row)
    → Tells (record { records = records; script = script; workers = workers; list = false; save = save }) rows
    → Tells (record { records = records; script = script; workers = workers; list = true; save = save }) (used_once (text "list") (text "true") rows)
list_told records script workers save rows h = record {
  records = others_stay (text "list") (text "records") (text "true") rows h.list refl ∙ h.records;
  script = others_stay (text "list") (text "script") (text "true") rows h.list refl ∙ h.script;
  workers = others_stay (text "list") (text "workers") (text "true") rows h.list refl ∙ h.workers;
  list = value_used (text "list") (text "true") rows h.list refl;
  save = others_stay (text "list") (text "save") (text "true") rows h.list refl ∙ h.save;
}

pub save_told : (records script workers : Option (List ℕ)) (list : Bool) (rows : List Row)
    → Tells (record { records = records; script = script; workers = workers; list = list; save = false }) rows
    → Tells (record { records = records; script = script; workers = workers; list = list; save = true }) (used_once (text "save") (text "true") rows)
save_told records script workers list rows h = record {
  records = others_stay (text "save") (text "records") (text "true") rows h.save refl ∙ h.records;
  script = others_stay (text "save") (text "script") (text "true") rows h.save refl ∙ h.script;
  workers = others_stay (text "save") (text "workers") (text "true") rows h.save refl ∙ h.workers;
  list = others_stay (text "save") (text "list") (text "true") rows h.save refl ∙ h.list;
  save = value_used (text "save") (text "true") rows h.save refl;
}
