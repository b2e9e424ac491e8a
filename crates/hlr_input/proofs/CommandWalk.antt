-- All words: what `clap` makes of them is what they say, and if they say nothing the parse fails.
use Rattle.std.proofs.Common.{◌≡◌, inl, inr, ℕ, Bool, true, false, List, [], ◌∷◌, Option, Some, None, refl, sym, ap, subst, cond, codes as text}
use Rattle.std.specs.Prelude.{fold}
use Rattle.std.specs.Str.{bytes_eq}
use Rattle.clap.specs.Lexer.{long_of, short_of}
use Rattle.clap.specs.Kinds.{Kinds, or_else}
use Rattle.clap.specs.Walk.{Held, Row, Waiting, Walk, finished, idle, long_or_other, option, positional, settled, walked}
use Rattle.clap.specs.Faults.{check_fault, defaults_fault, flag_word_fault, settle_fault, turn_fault, walk_fault}
use Rattle.records.specs.Reading.{◌>>=◌}
use Rattle.hlr_input.specs.CommandLine.{Said, Place, anywhere, number, behind, said_at_end, word_said, words_said}
use Rattle.hlr_input.proofs.CommandRows.{Pending, Settles, Stands, fails, fails_first, held, passes_both, position_of, rules, shape, wants_number}
use Rattle.hlr_input.proofs.CommandOptions.{Doomed, Long, Turns, fault_by, flag_fault, met_as, walked_by}
use Rattle.hlr_input.proofs.CommandTurns.{Ends, IsShort, anywhere_turn, behind_turn, doomed_turn, number_turn, said_by}

-- ---- the words

-- a word's short form has a first character if the word is text
abbrev pub Fine : List ℕ → Type 0
Fine word = IsShort (short_of word)

pub flag_fault_is : (long : Long) (word : List ℕ) (h : Held) → flag_word_fault rules false long word h ≡ flag_fault long (short_of word) h
flag_fault_is (Some p) word h = refl
flag_fault_is None word h = refl

pub met_is : (long : Long) (waiting : Waiting) (word : List ℕ) (h : Held)
    → long_or_other rules waiting word long h ≡ met_as long (short_of word) waiting word h
met_is (Some p) waiting word h = refl
met_is None waiting word h = refl

pub said_is : (place : Place) (word : List ℕ) (said : Said)
    → word_said place word said ≡ said_by place (bytes_eq word (text "--")) (long_of word) (short_of word) word said
said_is anywhere word said = refl
said_is number word said = refl
said_is behind word said = refl

abbrev pub fault_of_word : Walk → List ℕ → Kinds
fault_of_word w word = fault_by (bytes_eq word (text "--")) (long_of word) (short_of word) w word

abbrev pub walk_of_word : Walk → List ℕ → Walk
walk_of_word w word = walked_by (bytes_eq word (text "--")) (long_of word) (short_of word) w word

abbrev pub any_walk : Bool → Waiting → ℕ → Held → Walk
any_walk only_paths waiting position h = record { held = h; waiting = waiting; position = position; is_trailing = only_paths; stopped = None }

pub turn_is : (only_paths : Bool) (waiting : Waiting) (position : ℕ) (h : Held) (word : List ℕ)
    → turn_fault shape [] (any_walk only_paths waiting position h) word ≡ fault_of_word (any_walk only_paths waiting position h) word
turn_is true waiting position h word = refl
turn_is false idle position h word = rw (flag_fault_is (long_of word) word h, met_is (long_of word) idle word h) refl
turn_is false (option id) position h word = rw (flag_fault_is (long_of word) word h, met_is (long_of word) (option id) word h) refl
turn_is false positional position h word = rw (flag_fault_is (long_of word) word h, met_is (long_of word) positional word h) refl

pub walked_is : (only_paths : Bool) (waiting : Waiting) (position : ℕ) (h : Held) (word : List ℕ)
    → walked rules [] (any_walk only_paths waiting position h) word ≡ walk_of_word (any_walk only_paths waiting position h) word
unfolding walked
walked_is true waiting position h word = refl
walked_is false idle position h word = rw (met_is (long_of word) idle word h) refl
walked_is false (option id) position h word = rw (met_is (long_of word) (option id) word h) refl
walked_is false positional position h word = rw (met_is (long_of word) positional word h) refl

pub moved : (o p : Option (Place × Said)) (f g : Kinds) (w v : Walk) → o ≡ p → f ≡ g → w ≡ v → Turns p g v → Turns o f w
moved o p f g w v e d c h = rw (e, d, c) h

abbrev pub TurnsAt : Place → Said → List ℕ → Walk → Type 0
TurnsAt place said word w = Turns (word_said place word said) (turn_fault shape [] w word) (walked rules [] w word)

pub turn : (place : Place) (said : Said) (w : Walk) (word : List ℕ) → Fine word → Stands place said w → TurnsAt place said word w
turn anywhere said w word fine (rows, pending, is, h) = subst (TurnsAt anywhere said word) (sym is)
    (moved _ _ _ _ _ _ (said_is anywhere word said) (turn_is false idle (position_of said) (held rows pending) word)
    (walked_is false idle (position_of said) (held rows pending) word)
    (anywhere_turn (bytes_eq word (text "--")) (long_of word) (short_of word) said rows pending word fine h))
turn behind said w word fine (rows, pending, is, h) = subst (TurnsAt behind said word) (sym is)
    (moved _ _ _ _ _ _ (said_is behind word said) (turn_is true idle (position_of said) (held rows pending) word)
    (walked_is true idle (position_of said) (held rows pending) word)
    (behind_turn (bytes_eq word (text "--")) (long_of word) (short_of word) said rows pending word h))
turn number said w word fine (rows, is, h) = subst (TurnsAt number said word) (sym is)
    (moved _ _ _ _ _ _ (said_is number word said) (turn_is false (option (text "workers")) (position_of said) (held rows wants_number) word)
    (walked_is false (option (text "workers")) (position_of said) (held rows wants_number) word)
    (number_turn (bytes_eq word (text "--")) (long_of word) (short_of word) said rows word fine h))

abbrev pub EndsAt : List ℕ → Walk → Type 0
EndsAt word w = Ends (turn_fault shape [] w word) (walked rules [] w word)

pub ends_moved : (f g : Kinds) (w v : Walk) → f ≡ g → w ≡ v → Ends g v → Ends f w
ends_moved f g w v d c h = rw (d, c) h

pub doomed_word : (w : Walk) (word : List ℕ) → Fine word → Doomed w → EndsAt word w
doomed_word w word fine d = let at_once = cond d.only_paths d.waiting idle in subst (EndsAt word) (sym d.is)
    (ends_moved _ _ _ _ (turn_is d.only_paths at_once (position_of d.said) (held d.rows d.pending) word)
    (walked_is d.only_paths at_once (position_of d.said) (held d.rows d.pending) word)
    (doomed_turn (bytes_eq word (text "--")) (long_of word) (short_of word) d.only_paths d.waiting d.said d.rows d.pending word fine d.fault))

-- ---- all words

abbrev pub end_fault : Held → Kinds
end_fault h = or_else (settle_fault rules false h) (or_else (defaults_fault (settled rules h).rows rules) (check_fault shape (finished rules h) false))

abbrev pub end_of : Walk → List (List ℕ) → Held
end_of w words = (fold (walked rules []) w words).held

abbrev pub total_fault : Walk → List (List ℕ) → Kinds
total_fault w words = or_else (walk_fault shape [] w words) (end_fault (end_of w words))

pub later_fails : (now more end : Kinds) → fails (or_else more end) ≡ true → fails (or_else (or_else now more) end) ≡ true
later_fails [] more end h = h
later_fails (kind ∷ others) more end h = refl

pub now_fails : (now more end : Kinds) → fails now ≡ true → fails (or_else (or_else now more) end) ≡ true
now_fails now more end h = fails_first (or_else now more) end (fails_first now more h)

unfoldable pub AllFine : List (List ℕ) → Type 0
AllFine [] = Unit {0}
AllFine (word ∷ more) = Fine word × AllFine more

pub doomed_words : (w : Walk) (words : List (List ℕ)) → AllFine words → Doomed w → fails (total_fault w words) ≡ true
unfolding walk_fault AllFine
doomed_words w [] fine d = rw d.is (fails_first (settle_fault rules false (held d.rows d.pending)) _ d.fault)
doomed_words w (word ∷ more) fine d = go (doomed_word w word fine.0 d) (doomed_words (walked rules [] w word) more fine.1)
  where
    go : Ends (turn_fault shape [] w word) (walked rules [] w word)
        → (Doomed (walked rules [] w word) → fails (total_fault (walked rules [] w word) more) ≡ true)
        → fails (total_fault w (word ∷ more)) ≡ true
    go (inl bad) next = now_fails (turn_fault shape [] w word) (walk_fault shape [] (walked rules [] w word) more) (end_fault (end_of w (word ∷ more))) bad
    go (inr bad) next = later_fails (turn_fault shape [] w word) (walk_fault shape [] (walked rules [] w word) more)
        (end_fault (end_of w (word ∷ more))) (next bad)

abbrev pub Ended : Said → Held → Type 0
Ended said h = (rows : List Row) × (pending : Pending) × (h ≡ held rows pending) × Settles said rows pending

abbrev pub Walked : Option Said → Walk → List (List ℕ) → Type 0
Walked None w words = fails (total_fault w words) ≡ true
Walked (Some said) w words = (walk_fault shape [] w words ≡ []) × Ended said (end_of w words)

pub at_end : (place : Place) (said : Said) (w : Walk) → Stands place said w → Walked (said_at_end place said) w []
unfolding walk_fault
at_end anywhere said w (rows, pending, is, h) = (refl, (rows, pending, ap (λ (v : Walk). v.held) is, h))
at_end behind said w (rows, pending, is, h) = (refl, (rows, pending, ap (λ (v : Walk). v.held) is, h))
at_end number said w (rows, is, h) = rw is refl

pub after_pass : (o : Option Said) (w : Walk) (word : List ℕ) (more : List (List ℕ)) → turn_fault shape [] w word ≡ []
    → Walked o (walked rules [] w word) more → Walked o w (word ∷ more)
unfolding walk_fault
after_pass None w word more passed h =
    later_fails (turn_fault shape [] w word) (walk_fault shape [] (walked rules [] w word) more) (end_fault (end_of w (word ∷ more))) h
after_pass (Some said) w word more passed h = (passes_both (turn_fault shape [] w word) (walk_fault shape [] (walked rules [] w word) more) passed h.0, h.1)

pub after_word : (o : Option (Place × Said)) (w : Walk) (word : List ℕ) (more : List (List ℕ)) → AllFine more
    → Turns o (turn_fault shape [] w word) (walked rules [] w word)
    → ((next : Place × Said) → Stands next.0 next.1 (walked rules [] w word) → Walked (words_said next.0 more next.1) (walked rules [] w word) more)
    → Walked (o >>= λ next. words_said next.0 more next.1) w (word ∷ more)
unfolding walk_fault
after_word (Some next) w word more fine t then = after_pass (words_said next.0 more next.1) w word more t.0 (then next t.1)
after_word None w word more fine (inl bad) then =
    now_fails (turn_fault shape [] w word) (walk_fault shape [] (walked rules [] w word) more) (end_fault (end_of w (word ∷ more))) bad
after_word None w word more fine (inr bad) then =
    later_fails (turn_fault shape [] w word) (walk_fault shape [] (walked rules [] w word) more) (end_fault (end_of w (word ∷ more)))
    (doomed_words (walked rules [] w word) more fine bad)

pub all_words : (place : Place) (said : Said) (w : Walk) (words : List (List ℕ)) → AllFine words → Stands place said w
    → Walked (words_said place words said) w words
unfolding words_said AllFine
all_words place said w [] fine h = at_end place said w h
all_words place said w (word ∷ more) fine h =
    after_word (word_said place word said) w word more fine.1 (turn place said w word fine.0 h)
    (λ next. all_words next.0 next.1 (walked rules [] w word) more fine.1)
