-- One word of each kind, at each place: what `clap` makes of it is what it says, or the parse will fail.
use Rattle.std.proofs.Common.{◌≡◌, ◌⊎◌, inl, inr, ℕ, suc, Bool, true, false, ◌&&◌, ◌||◌, List, [], ◌∷◌, Option, Some, None, drop, refl, cond, codes as text}
use Rattle.std.specs.Prelude.{encode_utf8, length, slice_get, ◌==◌}
use Rattle.std.specs.Option.{option_map_or}
use Rattle.std.specs.Str.{bytes_eq, chars}
use Rattle.clap.specs.Kinds.{Kinds}
use Rattle.clap.specs.Walk.{Held, Row, Rule, Waiting, Walk, arg_by_long, idle, option, reacted, settled, takes_values}
use Rattle.clap.specs.Faults.{bundle_fault, flags_fault, long_fault, react_fault, short_fault, settle_fault, use_fault}
use Rattle.hlr_input.specs.CommandLine.{Said, Place, anywhere, number, behind, other_said, path_said, then_at, workers_said}
use Rattle.hlr_input.proofs.CommandRows.{Pending, Settles, Tells, fails, fails_first, fails_second, held, help_built, idle_walk, number_walk, rules, wants_number}
use Rattle.hlr_input.proofs.CommandOptions.{Doomed, Long, Paths, Short, Turns, doomed_walk, fault_by, option_turn, path_fault, path_turn, pending_of, said_of, used_before, walked_by, workers_settle}

-- ---- a hyphen with more after it

-- there is a first character
abbrev pub HasCharacter : List ℕ → Type 0
HasCharacter flags = (character count : ℕ) × (slice_get (chars flags) 0 ≡ Some character) × (length flags ≡ suc count)

pub short_rule_fails : (t : Bool) (rest : List ℕ) (h : Held) (next : Held → Kinds)
    → fails (short_fault rules false (cond (t || false) (Some help_built) None) rest h next) ≡ true
short_rule_fails false rest h next = refl
short_rule_fails true rest h next =
    fails_first (react_fault rules false help_built [] h) (next (reacted rules help_built [] h))
    (fails_second (settle_fault rules false h) (use_fault false help_built [] (settled rules h).rows) refl)

pub short_fails : (flags : List ℕ) (rows : List Row) (pending : Pending) → HasCharacter flags
    → fails (bundle_fault rules false flags (held rows pending)) ≡ true
unfolding flags_fault
short_fails flags rows pending has = let _first = has.2 in let _count = has.3 in
    rw (has.3, has.2) (short_rule_fails (104 == has.0) (drop (length (encode_utf8 has.0)) flags) (held rows pending)
    (λ h. flags_fault rules false has.1 (drop (length (encode_utf8 has.0)) flags) 0 h))

-- ---- where what is pending will fail

pub long_fails : (rule : Option Rule) (v : Option (List ℕ)) (h : Held) → fails (settle_fault rules false h) ≡ true
    → fails (long_fault rules false rule v h) ≡ true
long_fails None v h bad = refl
long_fails (Some a) v h bad = go (takes_values a) refl v
  where
    go : (t : Bool) → takes_values a ≡ t → (v : Option (List ℕ)) → fails (long_fault rules false (Some a) v h) ≡ true
    go true e None = rw e bad
    go true e (Some text) = rw e (fails_first (settle_fault rules false h) (use_fault false a (text ∷ []) (settled rules h).rows) bad)
    go false e None = rw e (fails_first (settle_fault rules false h) (use_fault false a [] (settled rules h).rows) bad)
    go false e (Some text) = rw e refl

pub positional_fails : (b : Bool) (k : Kinds) → fails k ≡ true → fails (cond (b && false) [] k) ≡ true
positional_fails true k bad = bad
positional_fails false k bad = bad

pub path_fails : (only_paths : Bool) (records script workers : Option (List ℕ)) (list save : Bool) (rows : List Row) (pending : Pending) (word : List ℕ)
    → fails (settle_fault rules false (held rows pending)) ≡ true
    → fails (path_fault only_paths (said_of records script workers list save) rows pending word) ≡ true
path_fails only_paths records (Some script) workers list save rows pending word bad = refl
path_fails only_paths (Some records) None workers list save rows pending word bad =
    positional_fails (option_map_or (λ q. bytes_eq q.0 (text "script")) pending false) (settle_fault rules false (held rows pending)) bad
path_fails only_paths None None workers list save rows pending word bad =
    positional_fails (option_map_or (λ q. bytes_eq q.0 (text "records")) pending false) (settle_fault rules false (held rows pending)) bad

abbrev pub Ends : Kinds → Walk → Type 0
Ends fault w = (fails fault ≡ true) ⊎ Doomed w

abbrev pub IsShort : Short → Type 0
IsShort None = Unit {0}
IsShort (Some flags) = HasCharacter flags

-- one more word, if what is pending will fail
pub doomed_turn : (ends : Bool) (long : Long) (short : Short) (only_paths : Bool) (waiting : Waiting) (said : Said) (rows : List Row)
    (pending : Pending) (word : List ℕ)
    → IsShort short → fails (settle_fault rules false (held rows pending)) ≡ true
    → Ends (fault_by ends long short (doomed_walk only_paths waiting said rows pending) word)
    (walked_by ends long short (doomed_walk only_paths waiting said rows pending) word)
doomed_turn ends long short true waiting said rows pending word fine bad =
    inl (path_fails true said.records said.script said.workers said.list said.save rows pending word bad)
doomed_turn true long short false waiting said rows pending word fine bad =
    inr (record { only_paths = true; waiting = idle; said = said; rows = rows; pending = pending; is = refl; fault = bad })
doomed_turn false (Some p) short false waiting said rows pending word fine bad =
    inl (fails_first (long_fault rules false (arg_by_long rules p.0) p.1 (held rows pending)) _
    (long_fails (arg_by_long rules p.0) p.1 (held rows pending) bad))
doomed_turn false None (Some flags) false waiting said rows pending word fine bad =
    inl (fails_first (bundle_fault rules false flags (held rows pending)) _ (short_fails flags rows pending fine))
doomed_turn false None None false waiting said rows pending word fine bad =
    inl (path_fails false said.records said.script said.workers said.list said.save rows pending word bad)

-- ---- one word of each kind

pub paths_turn : (only_paths : Bool) (o : Option Said) (fault : Kinds) (w : Walk) → Paths only_paths o fault w
    → Turns (then_at (cond only_paths behind anywhere) o) fault w
paths_turn true (Some said) fault w h = (h.0, (h.1, h.2, h.3, h.4))
paths_turn false (Some said) fault w h = (h.0, (h.1, h.2, h.3, h.4))
paths_turn true None fault w h = inl h
paths_turn false None fault w h = inl h

-- what a word says, with the parts that are looked at as arguments
abbrev pub said_by : Place → Bool → Long → Short → List ℕ → Said → Option (Place × Said)
said_by behind ends long short word said = then_at behind (path_said word said)
said_by number ends long short word said = cond ends None (other_said number long short word said)
said_by anywhere ends long short word said = cond ends (Some (behind, said)) (other_said anywhere long short word said)

pub anywhere_turn : (ends : Bool) (long : Long) (short : Short) (said : Said) (rows : List Row) (pending : Pending) (word : List ℕ)
    → IsShort short → Settles said rows pending
    → Turns (said_by anywhere ends long short word said) (fault_by ends long short (idle_walk false said rows pending) word)
    (walked_by ends long short (idle_walk false said rows pending) word)
anywhere_turn true long short said rows pending word fine h = (refl, (rows, pending, refl, h))
anywhere_turn false (Some p) short said rows pending word fine h = option_turn p.0 p.1 said rows pending word h
anywhere_turn false None (Some flags) said rows pending word fine h =
    inl (fails_first (bundle_fault rules false flags (held rows pending)) _ (short_fails flags rows pending fine))
anywhere_turn false None None said rows pending word fine h =
    paths_turn false (path_said word said) _ _ (path_turn false said.records said.script said.workers said.list said.save rows pending word h)

pub behind_turn : (ends : Bool) (long : Long) (short : Short) (said : Said) (rows : List Row) (pending : Pending) (word : List ℕ)
    → Settles said rows pending
    → Turns (said_by behind ends long short word said) (fault_by ends long short (idle_walk true said rows pending) word)
    (walked_by ends long short (idle_walk true said rows pending) word)
behind_turn ends long short said rows pending word h =
    paths_turn true (path_said word said) _ _ (path_turn true said.records said.script said.workers said.list said.save rows pending word h)

pub number_word : (records script workers : Option (List ℕ)) (list save : Bool) (rows : List Row) (word : List ℕ)
    → Tells (said_of records script workers list save) rows
    → Turns (then_at anywhere (workers_said word (said_of records script workers list save)))
    (fault_by false None None (number_walk (said_of records script workers list save) rows) word)
    (walked_by false None None (number_walk (said_of records script workers list save) rows) word)
number_word records script None list save rows word h =
    (refl, (rows, pending_of (text "workers") word, refl, workers_settle word records script list save rows h))
number_word records script (Some had) list save rows word h =
    let old = used_before (text "workers") rows _ h.workers in
    let bad : fails (settle_fault rules false (held rows (pending_of (text "workers") word))) ≡ true = rw old refl in
    inr (record {
      only_paths = false;
      waiting = idle;
      said = said_of records script (Some had) list save;
      rows = rows;
      pending = pending_of (text "workers") word;
      is = refl;
      fault = bad;
    })

pub number_turn : (ends : Bool) (long : Long) (short : Short) (said : Said) (rows : List Row) (word : List ℕ) → IsShort short → Tells said rows
    → Turns (said_by number ends long short word said) (fault_by ends long short (number_walk said rows) word)
    (walked_by ends long short (number_walk said rows) word)
number_turn true long short said rows word fine h = inr (record {
  only_paths = true;
  waiting = option (text "workers");
  said = said;
  rows = rows;
  pending = wants_number;
  is = refl;
  fault = refl;
})
number_turn false (Some p) short said rows word fine h =
    inl (fails_first (long_fault rules false (arg_by_long rules p.0) p.1 (held rows wants_number)) _
    (long_fails (arg_by_long rules p.0) p.1 (held rows wants_number) refl))
number_turn false None (Some flags) said rows word fine h =
    inl (fails_first (bundle_fault rules false flags (held rows wants_number)) _ (short_fails flags rows wants_number fine))
number_turn false None None said rows word fine h = number_word said.records said.script said.workers said.list said.save rows word h
