-- What the program makes of `clap`'s answer: the options that the words ask for, or none.
use Rattle.std.proofs.Common.{◌≡◌, ◌∙◌, inl, inr, ◌==◌, ℕ, Bool, true, false, List, [], ◌∷◌, Option, Some, None, Result, Ok, Err, drop, map, refl, sym, ap, subst, arith, string_bytes, codes as text}
use Rattle.std.specs.Prelude.{length}
use Rattle.std.specs.Result.{IsErrAnd}
use Rattle.std.specs.Char.{encode_utf8}
use Rattle.std.specs.Str.{IsUtf8, chars, encode_utf8_all}
use Rattle.std.proofs.lemmas.Str.{IsUtf8-had, encodes-chars}
use Rattle.std.specs.declared.string.String.{String}
use Rattle.clap.specs.Words.{App, HasKind, HasMatchesOf, Kinds, Row, first_of, fault_of, found_of, is_simple, is_simple_and_free, kind_of, matches_of, one_of, rows_of}
use Rattle.clap.specs.declared.error.Error.{Error}
use Rattle.clap.specs.declared.error.kind.ErrorKind.TheVariants.{OutOfMemory}
use Rattle.clap.specs.declared.parser.matches.ArgMatches.{ArgMatches}
use Rattle.clap.proofs.OnLiterals.{clap_on_literals}
use Rattle.clap.proofs.WalkLemmas.{first_value-rows, one_text-rows}
use Rattle.hlr_input.specs.declared.options.WordsFault.{WordsFault}
use Rattle.hlr_input.specs.declared.options.WordsFault.TheVariants.{Line, Memory}
use Rattle.hlr_input.specs.Command.{Finds, hlr}
use Rattle.hlr_input.specs.CommandLine.{Said, anywhere, asked_by, nothing_said, whole, words_said}
use Rattle.hlr_input.proofs.CommandRows.{fails}
use Rattle.hlr_input.proofs.CommandTurns.{HasCharacter}
use Rattle.hlr_input.proofs.CommandWalk.{AllFine, Fine}
use Rattle.hlr_input.proofs.CommandEnd.{Told, words_are_told}

-- ---- words are text

first_character : (first : ℕ) (more : List ℕ) → IsUtf8 (45 ∷ first ∷ more) → HasCharacter (first ∷ more)
unfolding chars encode_utf8
first_character first more u = go (chars (first ∷ more)) refl
  where
    go : (list : List ℕ) → chars (first ∷ more) ≡ list → HasCharacter (first ∷ more)
    go [] e =
        let spelled = encodes-chars (45 ∷ first ∷ more) u in
        let none : 45 ∷ [] ≡ 45 ∷ first ∷ more = ap (λ (list : List ℕ). encode_utf8_all (45 ∷ list)) (sym e) ∙ spelled in
        absurd (cc)
    go (c ∷ rest) e = (c, length more, rw e refl, refl)

fine_rest : (first : ℕ) (more : List ℕ) → IsUtf8 (45 ∷ first ∷ more) → Fine (45 ∷ first ∷ more)
fine_rest first more u = go (first == 45) refl
  where
    go : (t : Bool) → (first == 45) ≡ t → Fine (45 ∷ first ∷ more)
    go true e = rw e tt
    go false e = rw e (first_character first more u)

behind_hyphen : (more : List ℕ) → IsUtf8 (45 ∷ more) → Fine (45 ∷ more)
behind_hyphen [] u = tt
behind_hyphen (first ∷ more) u = fine_rest first more u

text_is_fine : (word : List ℕ) → IsUtf8 word → Fine word
text_is_fine [] u = tt
text_is_fine (first ∷ more) u = go (first == 45) refl
  where
    go : (t : Bool) → (first == 45) ≡ t → Fine (first ∷ more)
    go true e = let same : first ≡ 45 = grind arith in subst (λ (c : ℕ). IsUtf8 (c ∷ more) → Fine (c ∷ more)) (sym same) (λ v. behind_hyphen more v) u
    go false e = rw e tt

words_fine : {Z : Type 0} (words : List (String Z)) → AllFine (map string_bytes words)
unfolding AllFine
words_fine [] = tt
words_fine (word ∷ more) = (text_is_fine (string_bytes word) (IsUtf8-had _ word.ok), words_fine more)

pub arguments_fine : {Z : Type 0} (words : List (String Z)) → AllFine (drop 1 (map string_bytes words))
arguments_fine {Z} [] = words_fine {Z = Z} []
arguments_fine {Z} (word ∷ more) = words_fine {Z = Z} more

-- ---- what `clap` answers

simple : is_simple hlr ≡ true
unfolding clap_on_literals
simple = refl

simple_and_free : is_simple_and_free hlr ≡ true
unfolding clap_on_literals
simple_and_free = refl

abbrev Found : List (List ℕ) → ArgMatches → Type 0
Found words matches = (said : Said) × (words_said anywhere (drop 1 words) nothing_said ≡ Some said) × Finds said (found_of matches)

found_said : (words : List (List ℕ)) (matches : ArgMatches) (o : Option Said) → words_said anywhere (drop 1 words) nothing_said ≡ o → Told o words
    → fault_of hlr words ≡ [] → rows_of (found_of matches) ≡ matches_of hlr words → Found words matches
found_said words matches None e t passed rows = let no : true ≡ false = sym t ∙ ap fails passed in absurd (cc)
found_said words matches (Some said) e t passed rows = (
  said,
  e,
  record {
    records = first_value-rows (found_of matches) (text "records") ∙ ap (λ (list : List Row). first_of (text "records") list) rows ∙ t.1.records;
    script = first_value-rows (found_of matches) (text "script") ∙ ap (λ (list : List Row). first_of (text "script") list) rows ∙ t.1.script;
    workers = first_value-rows (found_of matches) (text "workers") ∙ ap (λ (list : List Row). first_of (text "workers") list) rows ∙ t.1.workers;
    list = one_text-rows (found_of matches) (text "list") ∙ ap (λ (list : List Row). one_of (text "list") list) rows ∙ t.1.list;
    save = one_text-rows (found_of matches) (text "save") ∙ ap (λ (list : List Row). one_of (text "save") list) rows ∙ t.1.save;
  },
)

pub matches_found : (a : App) (words : List (List ℕ)) (matches : ArgMatches) → a ≡ hlr → AllFine (drop 1 words) → HasMatchesOf a words matches
    → (is_simple_and_free a ≡ true → fault_of a words ≡ []) → Found words matches
matches_found a words matches is fine has passed =
    let at_hlr : HasMatchesOf hlr words matches = subst (λ (b : App). HasMatchesOf b words matches) is has in
    let no_fault : is_simple_and_free hlr ≡ true → fault_of hlr words ≡ [] = subst (λ (b : App). is_simple_and_free b ≡ true → fault_of b words ≡ [])
    is passed in
    found_said words matches (words_said anywhere (drop 1 words) nothing_said) refl (words_are_told words fine) (no_fault simple_and_free) (at_hlr simple).0

not_whole : (records script workers : Option (List ℕ)) (list save : Bool) (words : List (List ℕ)) (error : Error)
    → Told (Some (record { records = records; script = script; workers = workers; list = list; save = save })) words
    → HasKind (fault_of hlr words) error
    → (kind_of error ≡ OutOfMemory → ⊥) → whole (record { records = records; script = script; workers = workers; list = list; save = save }) ≡ None
not_whole None script workers list save words error t has no_memory = refl
not_whole (Some records) None workers list save words error t has no_memory = refl
not_whole (Some records) (Some script) workers list save words error t has no_memory =
    let at_none : HasKind [] error = subst (λ (kinds : Kinds). HasKind kinds error) t.0 has in
    elim at_none [ inl memory ↦ absurd (no_memory memory) | inr none ↦ absurd none ]

refused_said : (words : List (List ℕ)) (error : Error) (o : Option Said) → words_said anywhere (drop 1 words) nothing_said ≡ o → Told o words
    → HasKind (fault_of hlr words) error → (kind_of error ≡ OutOfMemory → ⊥) → asked_by words ≡ None
refused_said words error None e t has no_memory = rw e refl
refused_said words error (Some said) e t has no_memory =
    rw e (not_whole said.records said.script said.workers said.list said.save words error t has no_memory)

pub words_refused : (a : App) (words : List (List ℕ)) (error : Error) → a ≡ hlr → AllFine (drop 1 words)
    → (is_simple_and_free a ≡ true → HasKind (fault_of a words) error) → (kind_of error ≡ OutOfMemory → ⊥) → asked_by words ≡ None
words_refused a words error is fine has no_memory =
    let at_hlr : is_simple_and_free hlr ≡ true → HasKind (fault_of hlr words) error = subst
    (λ (b : App). is_simple_and_free b ≡ true → HasKind (fault_of b words) error) is has in
    refused_said words error (words_said anywhere (drop 1 words) nothing_said) refl (words_are_told words fine) (at_hlr simple_and_free) no_memory

pub line_is_no_memory : {T : Type 0} (r : Result T WordsFault) (error : Error)
    → IsErrAnd r (λ fault. (kind_of error ≡ OutOfMemory → fault ≡ Memory) × ((kind_of error ≡ OutOfMemory → ⊥) → fault ≡ Line))
    → r ≡ Err Line → kind_of error ≡ OutOfMemory → ⊥
line_is_no_memory (Ok value) error h is memory = absurd (cc)
line_is_no_memory (Err fault) error h is memory = let as_memory = h.0 memory in cc
