-- One word that is a path or an option: what `clap` makes of it is what it says.
use Rattle.std.proofs.Common.{◌≡◌, ◌∙◌, ◌⊎◌, inl, ℕ, Bool, true, false, ◌&&◌, ◌||◌, List, [], ◌∷◌, Option, Some, None, is_some, refl, ap, cond, codes as text}
use Rattle.std.specs.Option.{option_map_or}
use Rattle.std.specs.Str.{bytes_eq}
use Rattle.clap.specs.Kinds.{Kinds, or_else}
use Rattle.clap.specs.Walk.{Held, Row, Rule, Step, Waiting, Walk, after_flag, after_step, arg_by_id, arg_by_long, has_row, idle, long_met, long_word, pushed, settled, short_or_plain, trailing as met_end, value as met_value}
use Rattle.clap.specs.Faults.{bundle_fault, long_fault, settle_fault, step_fault, use_fault}
use Rattle.hlr_input.specs.CommandLine.{Said, Place, anywhere, option_said, path_said, workers_option}
use Rattle.hlr_input.proofs.CommandRows.{Pending, Settles, Stands, Tells, at, fails, fails_first, fails_second, has_row_at, held, help_built, idle_walk, list_built, list_told, passes_both, position_of, records_told, rules, save_built, save_told, script_told, shape, used_once, workers_built, workers_told}

-- ---- what is pending

-- the first use of an option or of a path succeeds
pub unused : (id : List ℕ) (rows : List Row) → at id rows ≡ None → has_row id rows ≡ false
unused id rows h = has_row_at id rows ∙ ap (λ (row : Option Row). is_some row) h

abbrev pub pending_of : List ℕ → List ℕ → Pending
pending_of id word = Some (id, word ∷ [])

pub records_settle : (word : List ℕ) (script workers : Option (List ℕ)) (list save : Bool) (rows : List Row)
    → Tells (record { records = None; script = script; workers = workers; list = list; save = save }) rows
    → Settles (record { records = Some word; script = script; workers = workers; list = list; save = save }) rows (pending_of (text "records") word)
records_settle word script workers list save rows h = record {
  passes = rw (unused (text "records") rows h.records) refl;
  tells = records_told word script workers list save rows h;
}

pub script_settle : (word : List ℕ) (records workers : Option (List ℕ)) (list save : Bool) (rows : List Row)
    → Tells (record { records = records; script = None; workers = workers; list = list; save = save }) rows
    → Settles (record { records = records; script = Some word; workers = workers; list = list; save = save }) rows (pending_of (text "script") word)
script_settle word records workers list save rows h = record {
  passes = rw (unused (text "script") rows h.script) refl;
  tells = script_told word records workers list save rows h;
}

pub workers_settle : (word : List ℕ) (records script : Option (List ℕ)) (list save : Bool) (rows : List Row)
    → Tells (record { records = records; script = script; workers = None; list = list; save = save }) rows
    → Settles (record { records = records; script = script; workers = Some word; list = list; save = save }) rows (pending_of (text "workers") word)
workers_settle word records script list save rows h = record {
  passes = rw (unused (text "workers") rows h.workers) refl;
  tells = workers_told word records script list save rows h;
}

-- nothing pending
pub settled_now : (said : Said) (rows : List Row) → Tells said rows → Settles said rows None
settled_now said rows h = record { passes = refl; tells = h }

-- ---- one word

-- `turn_fault` and `walked`, with the parts of the word that they look at as arguments: whether it is `--`, its long and its short form
abbrev pub Long : Type 0
Long = Option (List ℕ × Option (List ℕ))

abbrev pub Short : Type 0
Short = Option (List ℕ)

abbrev pub met_as : Long → Short → Waiting → List ℕ → Held → Held × Step
met_as (Some p) short waiting word h = long_word rules waiting word p.0 p.1 h
met_as None short waiting word h = short_or_plain rules waiting word short h

abbrev pub met_by : Bool → Long → Short → Walk → List ℕ → Held × Step
met_by ends long short w word = cond w.is_trailing (w.held, met_value) (cond ends (w.held, met_end w.position) (met_as long short w.waiting word w.held))

abbrev pub flag_fault : Long → Short → Held → Kinds
flag_fault (Some p) short h = long_fault rules false (arg_by_long rules p.0) p.1 h
flag_fault None short h = option_map_or (λ flags. bundle_fault rules false flags h) short []

abbrev pub fault_by : Bool → Long → Short → Walk → List ℕ → Kinds
fault_by ends long short w word =
    or_else (cond w.is_trailing [] (cond ends [] (flag_fault long short w.held)))
    (step_fault shape w.position (met_by ends long short w word).0 (met_by ends long short w word).1)

abbrev pub walked_by : Bool → Long → Short → Walk → List ℕ → Walk
walked_by ends long short w word = after_step rules word w (met_by ends long short w word).0 (met_by ends long short w word).1

-- what a word that is refused leads to: it fails at once, or what is pending will
abbrev pub doomed_walk : Bool → Waiting → Said → List Row → Pending → Walk
doomed_walk trailing waiting said rows pending =
    record { held = held rows pending; waiting = cond trailing waiting idle; position = position_of said; is_trailing = trailing; stopped = None }

pub record Doomed (w : Walk) : Type 0 where
  pub only_paths : Bool
  pub waiting : Waiting
  pub said : Said
  pub rows : List Row
  pub pending : Pending
  pub is : w ≡ doomed_walk only_paths waiting said rows pending
  pub fault : fails (settle_fault rules false (held rows pending)) ≡ true

abbrev pub Turns : Option (Place × Said) → Kinds → Walk → Type 0
Turns (Some next) fault w = (fault ≡ []) × Stands next.0 next.1 w
Turns None fault w = (fails fault ≡ true) ⊎ Doomed w

-- ---- a path

abbrev pub Paths : Bool → Option Said → Kinds → Walk → Type 0
Paths trailing (Some said) fault w = (fault ≡ []) × (rows : List Row) × (pending : Pending) × (w ≡ idle_walk trailing said rows pending) × Settles
    said rows pending
Paths trailing None fault w = fails fault ≡ true

pub and_false : {X : Type 0} (b : Bool) (x y : X) → cond (b && false) x y ≡ y
and_false true x y = refl
and_false false x y = refl

abbrev pub settled_at : List Row → Pending → List Row
settled_at rows pending = (settled rules (held rows pending)).rows

-- the turn of a word that goes to a positional
abbrev pub path_fault : Bool → Said → List Row → Pending → List ℕ → Kinds
path_fault trailing said rows pending word = step_fault shape (position_of said) (held rows pending) met_value

abbrev pub path_walked : Bool → Said → List Row → Pending → List ℕ → Walk
path_walked trailing said rows pending word =
    after_step rules word (idle_walk trailing said rows pending) (held rows pending) met_value

abbrev pub positional_walk : Bool → ℕ → List ℕ → List ℕ → Held → Walk
positional_walk trailing position id word h =
    record { held = pushed id word h; waiting = idle; position = position; is_trailing = trailing || false; stopped = None }

pub or_false : (b : Bool) → (b || false) ≡ b
or_false true = refl
or_false false = refl

pub is_walk : (trailing : Bool) (position : ℕ) (id word : List ℕ) (rows : List Row) (pending : Pending) (b : Bool)
    → positional_walk trailing position id word (cond (b && false) (held rows pending) (settled rules (held rows pending)))
    ≡ record { held = held (settled_at rows pending) (pending_of id word); waiting = idle; position = position; is_trailing = trailing; stopped = None }
is_walk true position id word rows pending true = refl
is_walk true position id word rows pending false = refl
is_walk false position id word rows pending true = refl
is_walk false position id word rows pending false = refl

pub path_turn : (trailing : Bool) (records script workers : Option (List ℕ)) (list save : Bool) (rows : List Row) (pending : Pending) (word : List ℕ)
    → Settles (record { records = records; script = script; workers = workers; list = list; save = save }) rows pending
    → Paths trailing (path_said word (record { records = records; script = script; workers = workers; list = list; save = save }))
    (path_fault trailing (record { records = records; script = script; workers = workers; list = list; save = save }) rows pending word)
    (path_walked trailing (record { records = records; script = script; workers = workers; list = list; save = save }) rows pending word)
path_turn trailing records (Some script) workers list save rows pending word h = refl
path_turn trailing (Some records) None workers list save rows pending word h =
    let b = option_map_or (λ q. bytes_eq q.0 (text "script")) pending false in (
      and_false b _ _ ∙ h.passes,
      settled_at rows pending,
      pending_of (text "script") word,
      is_walk trailing 3 (text "script") word rows pending b,
      script_settle word (Some records) workers list save (settled_at rows pending) h.tells,
    )
path_turn trailing None None workers list save rows pending word h =
    let b = option_map_or (λ q. bytes_eq q.0 (text "records")) pending false in (
      and_false b _ _ ∙ h.passes,
      settled_at rows pending,
      pending_of (text "records") word,
      is_walk trailing 2 (text "records") word rows pending b,
      records_settle word None workers list save (settled_at rows pending) h.tells,
    )

-- ---- an option

-- if it was used before, it fails; the row that it left is there
pub used_before : (id : List ℕ) (rows : List Row) (row : Row) → at id rows ≡ Some row → has_row id rows ≡ true
used_before id rows row h = has_row_at id rows ∙ ap (λ (r : Option Row). is_some r) h

pub repeated : (before again : Kinds) → fails again ≡ true → fails (or_else (or_else before again) []) ≡ true
repeated before again h = fails_first (or_else before again) [] (fails_second before again h)

abbrev pub long_turn_fault : Option Rule → Option (List ℕ) → Said → List Row → Pending → List ℕ → Kinds
long_turn_fault rule v said rows pending word =
    let h = held rows pending in
    let met = after_flag rules idle word (long_met rules rule v h).0 (long_met rules rule v h).1 in
    or_else (long_fault rules false rule v h) (step_fault shape (position_of said) met.0 met.1)

abbrev pub long_turn_walk : Option Rule → Option (List ℕ) → Said → List Row → Pending → List ℕ → Walk
long_turn_walk rule v said rows pending word =
    let h = held rows pending in
    let met = after_flag rules idle word (long_met rules rule v h).0 (long_met rules rule v h).1 in
    after_step rules word (idle_walk false said rows pending) met.0 met.1

abbrev pub said_of : (records script workers : Option (List ℕ)) (list save : Bool) → Said
said_of records script workers list save = record { records = records; script = script; workers = workers; list = list; save = save }

pub workers_turn : (v : Option (List ℕ)) (records script workers : Option (List ℕ)) (list save : Bool) (rows : List Row) (pending : Pending) (word : List ℕ)
    → Settles (said_of records script workers list save) rows pending
    → Turns (workers_option v (said_of records script workers list save))
    (long_turn_fault (arg_by_id rules (text "workers")) v (said_of records script workers list save) rows pending word)
    (long_turn_walk (arg_by_id rules (text "workers")) v (said_of records script workers list save) rows pending word)
workers_turn None records script workers list save rows pending word h =
    (passes_both _ _ h.passes refl, (settled_at rows pending, refl, h.tells))
workers_turn (Some v) records script None list save rows pending word h =
    let new = unused (text "workers") (settled_at rows pending) h.tells.workers in
    let now = workers_told v records script list save (settled_at rows pending) h.tells in
    let used_up : use_fault false workers_built (v ∷ []) (settled_at rows pending) ≡ [] = rw new refl in
    (passes_both _ _ (passes_both _ _ h.passes used_up) refl, (used_once (text "workers") v (settled_at rows pending), None, refl, settled_now _ _ now))
workers_turn (Some v) records script (Some had) list save rows pending word h =
    let old = used_before (text "workers") (settled_at rows pending) _ h.tells.workers in
    let used_up : fails (use_fault false workers_built (v ∷ []) (settled_at rows pending)) ≡ true = rw old refl in
    inl (repeated (settle_fault rules false (held rows pending)) (use_fault false workers_built (v ∷ []) (settled_at rows pending)) used_up)

pub list_turn : (v : Option (List ℕ)) (records script workers : Option (List ℕ)) (list save : Bool) (rows : List Row) (pending : Pending) (word : List ℕ)
    → Settles (said_of records script workers list save) rows pending
    → Turns (cond (is_some v || list) None (Some (anywhere, said_of records script workers true save)))
    (long_turn_fault (arg_by_id rules (text "list")) v (said_of records script workers list save) rows pending word)
    (long_turn_walk (arg_by_id rules (text "list")) v (said_of records script workers list save) rows pending word)
list_turn (Some v) records script workers list save rows pending word h = inl refl
list_turn None records script workers false save rows pending word h =
    let new = unused (text "list") (settled_at rows pending) h.tells.list in
    let now = list_told records script workers save (settled_at rows pending) h.tells in
    let used_up : use_fault false list_built [] (settled_at rows pending) ≡ [] = rw new refl in (
      passes_both _ _ (passes_both _ _ h.passes used_up) refl,
      (used_once (text "list") (text "true") (settled_at rows pending), None, refl, settled_now _ _ now),
    )
list_turn None records script workers true save rows pending word h =
    let old = used_before (text "list") (settled_at rows pending) _ h.tells.list in
    let used_up : fails (use_fault false list_built [] (settled_at rows pending)) ≡ true = rw old refl in
    inl (repeated (settle_fault rules false (held rows pending)) (use_fault false list_built [] (settled_at rows pending)) used_up)

pub save_turn : (v : Option (List ℕ)) (records script workers : Option (List ℕ)) (list save : Bool) (rows : List Row) (pending : Pending) (word : List ℕ)
    → Settles (said_of records script workers list save) rows pending
    → Turns (cond (is_some v || save) None (Some (anywhere, said_of records script workers list true)))
    (long_turn_fault (arg_by_id rules (text "save")) v (said_of records script workers list save) rows pending word)
    (long_turn_walk (arg_by_id rules (text "save")) v (said_of records script workers list save) rows pending word)
save_turn (Some v) records script workers list save rows pending word h = inl refl
save_turn None records script workers list false rows pending word h =
    let new = unused (text "save") (settled_at rows pending) h.tells.save in
    let now = save_told records script workers list (settled_at rows pending) h.tells in
    let used_up : use_fault false save_built [] (settled_at rows pending) ≡ [] = rw new refl in (
      passes_both _ _ (passes_both _ _ h.passes used_up) refl,
      (used_once (text "save") (text "true") (settled_at rows pending), None, refl, settled_now _ _ now),
    )
save_turn None records script workers list true rows pending word h =
    let old = used_before (text "save") (settled_at rows pending) _ h.tells.save in
    let used_up : fails (use_fault false save_built [] (settled_at rows pending)) ≡ true = rw old refl in
    inl (repeated (settle_fault rules false (held rows pending)) (use_fault false save_built [] (settled_at rows pending)) used_up)

pub help_fails : (v : Option (List ℕ)) (h : Held) → fails (long_fault rules false (arg_by_id rules (text "help")) v h) ≡ true
help_fails (Some v) h = refl
help_fails None h = fails_second (settle_fault rules false h) (use_fault false help_built [] (settled rules h).rows) refl

pub option_turn : (name : List ℕ) (v : Option (List ℕ)) (said : Said) (rows : List Row) (pending : Pending) (word : List ℕ)
    → Settles said rows pending
    → Turns (option_said name v said) (long_turn_fault (arg_by_long rules name) v said rows pending word)
    (long_turn_walk (arg_by_long rules name) v said rows pending word)
option_turn name v said rows pending word h = workers (bytes_eq (text "workers") name) refl
  where
    Goal : Type 0
    Goal = Turns (option_said name v said) (long_turn_fault (arg_by_long rules name) v said rows pending word)
        (long_turn_walk (arg_by_long rules name) v said rows pending word)

    help : (t : Bool) → bytes_eq (text "workers") name ≡ false → bytes_eq (text "list") name ≡ false → bytes_eq (text "save") name ≡ false
        → bytes_eq (text "help") name ≡ t → Goal
    help true e f g i = rw (e, f, g, i) (inl (fails_first (long_fault rules false (arg_by_id rules (text "help")) v (held rows pending)) _
        (help_fails v (held rows pending))))
    help false e f g i = rw (e, f, g, i) (inl refl)

    save : (t : Bool) → bytes_eq (text "workers") name ≡ false → bytes_eq (text "list") name ≡ false → bytes_eq (text "save") name ≡ t → Goal
    save true e f g = rw (e, f, g) (save_turn v said.records said.script said.workers said.list said.save rows pending word h)
    save false e f g = help (bytes_eq (text "help") name) e f g refl

    list : (t : Bool) → bytes_eq (text "workers") name ≡ false → bytes_eq (text "list") name ≡ t → Goal
    list true e f = rw (e, f) (list_turn v said.records said.script said.workers said.list said.save rows pending word h)
    list false e f = save (bytes_eq (text "save") name) e f refl

    workers : (t : Bool) → bytes_eq (text "workers") name ≡ t → Goal
    workers true e = rw e (workers_turn v said.records said.script said.workers said.list said.save rows pending word h)
    workers false e = list (bytes_eq (text "list") name) e refl
