-- What a line says.
use Rattle.std.proofs.Common.{◌≡◌, ℕ, ◌+◌, ◌<◌, Bool, false, true, List, [], ◌∷◌, ◌++◌, get_or, drop, refl, sym, ap, subst, ◌∙◌, arith, inl, inr}
use Rattle.std.specs.Prelude.{◌==◌, Option, Some, None, IfSome, IsSomeAnd, not, codes}
use Rattle.std.specs.List.{AllByRecursion, onto_first, join_with_byte}
use Rattle.std.proofs.lemmas.Bool.{cases_Bool, eqb-false, eqb-true, false≢true, or_parts}
use Rattle.std.proofs.lemmas.List.Elements.{recursion_from_All}
use Rattle.std.proofs.lemmas.List.Splits.{join_with_byte-slice_split, slice_split-cons_yes, slice_split-cons_no}
use Rattle.hex.specs.Hex.{is_hex_digit}
use Rattle.hex.proofs.HexLemmas.{decode_of-ok}
use Rattle.hlr_types.specs.DigitTexts.{text_of}
use Rattle.texts.specs.Lines.{parts}
use Rattle.records.specs.Spelling.{IsImsiNumber, IsCodes}
use Rattle.records.specs.Reading.{imsi_in}
use Rattle.records.proofs.LineLaws as records
use Rattle.records.proofs.AgainFields.{imsi_again}
use Rattle.texts.proofs.PartsLemmas.{parts_cons}
use Rattle.hlr_input.specs.declared.group.Group.{Group}
use Rattle.hlr_input.specs.declared.group.Group.TheVariants.{Octet, Letter}
use Rattle.hlr_input.specs.declared.item.Item.{Item}
use Rattle.hlr_input.specs.Octets.{AreGroups, IsOctets}
use Rattle.hlr_input.specs.Reading.{IsWritten, Reads}
use Rattle.hlr_input.specs.Script.{Line, Frame, Clock, Expire, Batch, Codes, Withdraw, Say, IsLine, has_space, is_closed, line_of}
use Rattle.hlr_input.proofs.TickLaws.{ticks_free}

-- ---- an IMSI

pub imsi_found : (text : List ℕ) (r : Option (List ℕ)) → r ≡ imsi_in text → IfSome r (λ digits. IsImsiNumber text digits)
imsi_found text None e = tt
imsi_found text (Some digits) e = records.imsi_found text digits (sym e)

pub imsi_only : (text : List ℕ) (r : Option (List ℕ)) (digits : List ℕ) → r ≡ imsi_in text → IsImsiNumber text digits → r ≡ Some digits
imsi_only text r digits e is = e ∙ imsi_again text digits is

-- ---- parts

-- after a character and a space are the parts of the rest
pub kind_cut : (kind : ℕ) (rest : List ℕ) → (kind == 32) ≡ false → parts 32 (kind ∷ 32 ∷ rest) ≡ (kind ∷ []) ∷ parts 32 rest
kind_cut kind rest other =
    slice_split-cons_no (λ b. b == 32) kind (32 ∷ rest) other ∙ ap (onto_first kind) (slice_split-cons_yes (λ b. b == 32) 32 rest refl)

-- a text without a space is its one part
pub one_part : (text : List ℕ) → has_space text ≡ false → parts 32 text ≡ text ∷ []
one_part [] free = refl
one_part (x ∷ xs) free =
    let p = or_parts (x == 32) (has_space xs) free in
    slice_split-cons_no (λ b. b == 32) x xs p.0 ∙ ap (onto_first x) (one_part xs p.1)

-- and has no other
alone : (text first : List ℕ) → parts 32 text ≡ first ∷ [] → text ≡ first
alone text first is = sym (join_with_byte-slice_split 32 text) ∙ ap (join_with_byte 32) is

empty_first : (text p : List ℕ) (ps : List (List ℕ)) → parts 32 text ≡ [] ∷ p ∷ ps → (rest : List ℕ) × (text ≡ 32 ∷ rest) × (parts 32 rest ≡ p ∷ ps)
empty_first [] p ps e = absurd cc
empty_first (x ∷ xs) p ps e =
    elim (cases_Bool (x == 32)) [
      | inl space ↦
          let whole : [] ∷ parts 32 xs ≡ [] ∷ p ∷ ps = sym (slice_split-cons_yes (λ b. b == 32) x xs space) ∙ e in
          (xs, ap (λ y. y ∷ xs) (eqb-true x 32 space), cc)
      | inr other ↦
          let q = parts_cons 32 xs in
          let whole : (x ∷ q.0) ∷ q.1 ≡ [] ∷ p ∷ ps =
          sym (slice_split-cons_no (λ b. b == 32) x xs other ∙ ap (onto_first x) q.2) ∙ e in
          absurd cc
    ]

-- a line whose first part is one character, and which has others, begins so
begins_so : (kind : ℕ) (line p : List ℕ) (ps : List (List ℕ)) → parts 32 line ≡ (kind ∷ []) ∷ p ∷ ps
    → (rest : List ℕ) × (line ≡ kind ∷ 32 ∷ rest) × (parts 32 rest ≡ p ∷ ps)
begins_so kind [] p ps e = absurd cc
begins_so kind (x ∷ xs) p ps e =
    elim (cases_Bool (x == 32)) [
      | inl space ↦
          let whole : [] ∷ parts 32 xs ≡ (kind ∷ []) ∷ p ∷ ps = sym (slice_split-cons_yes (λ b. b == 32) x xs space) ∙ e in
          absurd cc
      | inr other ↦
          let q = parts_cons 32 xs in
          let whole : (x ∷ q.0) ∷ q.1 ≡ (kind ∷ []) ∷ p ∷ ps =
          sym (slice_split-cons_no (λ b. b == 32) x xs other ∙ ap (onto_first x) q.2) ∙ e in
          let front : x ≡ kind = cc in
          let none : q.0 ≡ [] = cc in
          let more : q.1 ≡ p ∷ ps = cc in
          let r = empty_first xs p ps (q.2 ∙ ap (λ (f : List ℕ). f ∷ q.1) none ∙ ap (λ (l : List (List ℕ)). [] ∷ l) more) in
          (r.0, ap (λ (y : ℕ). y ∷ xs) front ∙ ap (λ (l : List ℕ). kind ∷ l) r.1, r.2)
    ]

-- ---- texts without a space

digit_is_none : (d : ℕ) → d < 10 → (d + 48 == 32) ≡ false
digit_is_none d small = grind (arith)

digits_free : (digits : List ℕ) → AllByRecursion (λ d. d < 10) digits → has_space (text_of digits) ≡ false
digits_free [] each = refl
digits_free (d ∷ ds) each = rw (digit_is_none d each.0, digits_free ds each.1) refl

imsi_free : (number imsi : List ℕ) → IsImsiNumber number imsi → has_space number ≡ false
imsi_free number imsi is = ap has_space is.0.0 ∙ digits_free imsi is.0.1.each

-- it ends at the first
digits_cut : (digits rest : List ℕ) → AllByRecursion (λ d. d < 10) digits → parts 32 (text_of digits ++ 32 ∷ rest) ≡ text_of digits ∷ parts 32 rest
digits_cut [] rest each = slice_split-cons_yes (λ b. b == 32) 32 rest refl
digits_cut (d ∷ ds) rest each =
    slice_split-cons_no (λ b. b == 32) (d + 48) (text_of ds ++ 32 ∷ rest) (digit_is_none d each.0) ∙ ap (onto_first (d + 48)) (digits_cut ds rest each.1)

no_space_is_digit : (character : ℕ) → is_hex_digit character ≡ true → (character == 32) ≡ false
no_space_is_digit character digit = grind (arith)

no_space_is_letter : (place : ℕ) → (65 + place == 32) ≡ false
no_space_is_letter place = grind (arith)

groups_free : (text : List ℕ) (groups : List Group) → AreGroups text groups → has_space text ≡ false
groups_free [] [] h = refl
groups_free [] (g ∷ gs) h = absurd h
groups_free (a ∷ []) [] h = absurd h
groups_free (a ∷ []) (g ∷ gs) h = absurd h
groups_free (a ∷ b ∷ more) [] h = absurd h
groups_free (a ∷ b ∷ more) (Octet octet ∷ gs) h =
    let p = recursion_from_All (λ x. is_hex_digit x ≡ true) (a ∷ b ∷ []) (decode_of-ok (a ∷ b ∷ []) (octet ∷ []) h.0).1 in
    rw (no_space_is_digit a p.0, no_space_is_digit b p.1.0) (groups_free more gs h.1)
groups_free (a ∷ b ∷ more) (Letter place ∷ gs) h =
    let first : a ≡ 36 = cc (h.0.0) in
    let second : b ≡ 65 + place = cc (h.0.0) in
    rw (first, second, no_space_is_letter place) (groups_free more gs h.1)

pub octets_free : (text : List ℕ) (groups : List Group) → IsOctets text groups → has_space text ≡ false
octets_free text [] h = rw h refl
octets_free text (g ∷ gs) h = groups_free text (g ∷ gs) h

-- ---- a line as it is written says what its fields say

is_free : (field : List ℕ) → not (has_space field) ≡ true → has_space field ≡ false
is_free field closed = unturned (has_space field) closed
  where
    unturned : (b : Bool) → not b ≡ true → b ≡ false
    unturned true e = absurd (false≢true e)
    unturned false e = refl

as_parts : (line : List ℕ) (fields : List (List ℕ)) (said : Line) → parts 32 line ≡ fields → Say fields said → IsLine line said
as_parts line fields said are h = subst (λ (ps : List (List ℕ)). Say ps said) (sym are) h

pub said_so : (line : List ℕ) (said : Line) → IsWritten line said → is_closed said ≡ true → IsLine line said
said_so line (Frame from field) (is, some) closed =
    as_parts line (codes "F" ∷ text_of from ∷ field ∷ []) (Frame from field) (ap (parts 32) is ∙ kind_cut 70 (text_of from ++ 32 ∷ field) refl
    ∙ ap (λ (ps : List (List ℕ)). codes "F" ∷ ps) (digits_cut from field some.each
    ∙ ap (λ (ps : List (List ℕ)). text_of from ∷ ps) (one_part field (is_free field closed))))
    (refl, (refl, some), refl)
said_so line (Clock now) (ticks, is, are) closed =
    as_parts line (codes "C" ∷ ticks ∷ []) (Clock now) (ap (parts 32) is ∙ kind_cut 67 ticks refl
    ∙ ap (λ (ps : List (List ℕ)). codes "C" ∷ ps) (one_part ticks (ticks_free ticks now are)))
    (refl, are)
said_so line Expire is closed = as_parts line (codes "E" ∷ []) Expire (ap (parts 32) is) refl
said_so line Batch is closed = as_parts line (codes "W" ∷ []) Batch (ap (parts 32) is) refl
said_so line (Codes imsi codes_are) (rest, number, field, is, are, imsi_is, codes_is) closed =
    as_parts line (codes "O" ∷ number ∷ field ∷ []) (Codes imsi codes_are) (ap (parts 32) is ∙ kind_cut 79 rest refl
    ∙ ap (λ (ps : List (List ℕ)). codes "O" ∷ ps) are)
    (refl, imsi_is, codes_is)
said_so line (Withdraw imsi) (number, is, are) closed =
    as_parts line (codes "X" ∷ number ∷ []) (Withdraw imsi) (ap (parts 32) is ∙ kind_cut 88 number refl
    ∙ ap (λ (ps : List (List ℕ)). codes "X" ∷ ps) (one_part number (imsi_free number imsi are)))
    (refl, are)

-- ---- and back

behind_kind : (rest a b : List ℕ) → parts 32 rest ≡ a ∷ b ∷ [] → rest ≡ a ++ 32 ∷ b
behind_kind rest a b are = sym (join_with_byte-slice_split 32 rest) ∙ ap (join_with_byte 32) are

written_by : (line : List ℕ) (fields : List (List ℕ)) (said : Line) → parts 32 line ≡ fields → Say fields said → IsWritten line said
written_by line [] said are h = absurd h
written_by line (k ∷ []) (Frame from field) are h = absurd h
written_by line (k ∷ []) (Clock now) are h = absurd h
written_by line (k ∷ []) (Codes imsi cs) are h = absurd h
written_by line (k ∷ []) (Withdraw imsi) are h = absurd h
written_by line (k ∷ a ∷ []) (Frame from field) are h = absurd h
written_by line (k ∷ a ∷ []) Expire are h = absurd h
written_by line (k ∷ a ∷ []) Batch are h = absurd h
written_by line (k ∷ a ∷ []) (Codes imsi cs) are h = absurd h
written_by line (k ∷ a ∷ b ∷ []) (Clock now) are h = absurd h
written_by line (k ∷ a ∷ b ∷ []) Expire are h = absurd h
written_by line (k ∷ a ∷ b ∷ []) Batch are h = absurd h
written_by line (k ∷ a ∷ b ∷ []) (Withdraw imsi) are h = absurd h
written_by line (k ∷ a ∷ b ∷ d ∷ more) said are h = absurd h
written_by line (k ∷ a ∷ b ∷ []) (Frame from field) are h =
    let r = begins_so 70 line a (b ∷ []) (are ∙ ap (λ (x : List ℕ). x ∷ a ∷ b ∷ []) h.0) in
    let rest : r.0 ≡ text_of from ++ 32 ∷ field =
    behind_kind r.0 a b r.2 ∙ ap (λ (x : List ℕ). x ++ 32 ∷ b) h.1.0 ∙ ap (λ (x : List ℕ). text_of from ++ 32 ∷ x) h.2 in
    (r.1 ∙ ap (λ (x : List ℕ). 70 ∷ 32 ∷ x) rest, h.1.1)
written_by line (k ∷ a ∷ []) (Clock now) are h =
    let r = begins_so 67 line a [] (are ∙ ap (λ (x : List ℕ). x ∷ a ∷ []) h.0) in
    (a, r.1 ∙ ap (λ (x : List ℕ). 67 ∷ 32 ∷ x) (alone r.0 a r.2), h.1)
written_by line (k ∷ []) Expire are h = alone line (codes "E") (are ∙ ap (λ (x : List ℕ). x ∷ []) h)
written_by line (k ∷ []) Batch are h = alone line (codes "W") (are ∙ ap (λ (x : List ℕ). x ∷ []) h)
written_by line (k ∷ a ∷ b ∷ []) (Codes imsi cs) are h =
    let r = begins_so 79 line a (b ∷ []) (are ∙ ap (λ (x : List ℕ). x ∷ a ∷ b ∷ []) h.0) in
    (r.0, a, b, r.1, r.2, h.1, h.2)
written_by line (k ∷ a ∷ []) (Withdraw imsi) are h =
    let r = begins_so 88 line a [] (are ∙ ap (λ (x : List ℕ). x ∷ a ∷ []) h.0) in
    (a, r.1 ∙ ap (λ (x : List ℕ). 88 ∷ 32 ∷ x) (alone r.0 a r.2), h.1)

pub written : (line : List ℕ) (said : Line) → IsLine line said → IsWritten line said
written line said is = written_by line (parts 32 line) said refl is

-- ---- what is read

pub line_found : (line : List ℕ) (r : Option Item) → Reads (IsWritten line) r → IfSome r (λ item. is_closed (line_of item) ≡ true → IsLine line (line_of item))
line_found line None h = tt
line_found line (Some item) h = λ closed. said_so line (line_of item) h.0 closed

pub line_only : (line : List ℕ) (r : Option Item) (said : Line) → Reads (IsWritten line) r → IsLine line said → IsSomeAnd r (λ item. line_of item ≡ said)
line_only line None said h is = absurd (h said (written line said is))
line_only line (Some item) said h is = h.1 said (written line said is)

-- ---- new codes

other_kind : (a b : ℕ) (xs ys : List ℕ) → (a == b) ≡ false → a ∷ xs ≡ b ∷ ys → ⊥
other_kind a b xs ys differs e = eqb-false a b differs (ap (λ (l : List ℕ). get_or l 0 0) e)

pub o_is_not_f : codes "O" ≡ codes "F" → ⊥
o_is_not_f e = other_kind 79 70 [] [] refl e

pub codes_of : (rest : List ℕ) (said : Line) → IsWritten (79 ∷ 32 ∷ rest) said
    → (number field imsi cs : List ℕ) × (said ≡ Codes imsi cs) × (parts 32 rest ≡ number ∷ field ∷ []) × IsImsiNumber number imsi × IsCodes field cs
codes_of rest (Frame from octets) h = absurd (other_kind 79 70 _ _ refl h.0)
codes_of rest (Clock now) h = absurd (other_kind 79 67 _ _ refl h.1)
codes_of rest Expire h = absurd (other_kind 79 69 _ _ refl h)
codes_of rest Batch h = absurd (other_kind 79 87 _ _ refl h)
codes_of rest (Codes imsi cs) (own, number, field, is, are, imsi_is, cs_is) =
    let same : rest ≡ own = ap (λ (l : List ℕ). drop 2 l) is in
    (number, field, imsi, cs, refl, ap (parts 32) same ∙ are, imsi_is, cs_is)
codes_of rest (Withdraw imsi) h = absurd (other_kind 79 88 _ _ refl h.1)

-- what is read once
pub some_read : (r : Option (List ℕ)) (x y : List ℕ) → r ≡ Some x → r ≡ Some y → x ≡ y
some_read None x y is e = absurd cc
some_read (Some z) x y is e = cc

pub none_read : (r : Option (List ℕ)) (y : List ℕ) → r ≡ None → r ≡ Some y → ⊥
none_read None y is e = absurd cc
none_read (Some z) y is e = absurd cc

-- two parts are no three
pub three_parts : (first second rest number field : List ℕ) → first ∷ second ∷ parts 32 rest ≡ number ∷ field ∷ [] → ⊥
three_parts first second rest number field e =
    let p = parts_cons 32 rest in
    let whole : first ∷ second ∷ p.0 ∷ p.1 ≡ number ∷ field ∷ [] = ap (λ (ps : List (List ℕ)). first ∷ second ∷ ps) (sym p.2) ∙ e in
    absurd cc

-- its first character
abbrev pub kind_of : Line → ℕ
kind_of (Frame from field) = 70
kind_of (Clock now) = 67
kind_of Expire = 69
kind_of Batch = 87
kind_of (Codes imsi cs) = 79
kind_of (Withdraw imsi) = 88

pub begins_with : (line : List ℕ) (said : Line) → IsWritten line said → (rest : List ℕ) × (line ≡ kind_of said ∷ rest)
begins_with line (Frame from field) h = (32 ∷ (text_of from ++ 32 ∷ field), h.0)
begins_with line (Clock now) h = (32 ∷ h.0, h.1)
begins_with line Expire h = ([], h)
begins_with line Batch h = ([], h)
begins_with line (Codes imsi cs) h = (32 ∷ h.0, h.3)
begins_with line (Withdraw imsi) h = (32 ∷ h.0, h.1)
