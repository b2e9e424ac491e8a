-- Each fault of a file is found.
use Rattle.std.proofs.Common.{◌≡◌, ℕ, suc, cond, ◌+◌, Bool, true, false, List, [], ◌∷◌, ◌++◌, length, refl, sym, ap, subst, ◌∙◌, arith, inl, inr, append_assoc}
use Rattle.std.specs.Prelude.{◌⊎◌, Option, Some, None, Ok, Err, is_some}
use Rattle.std.proofs.lemmas.Bool.{cases_Bool}
use Rattle.std.proofs.lemmas.List.{append-nil}
use Rattle.std.specs.Ordering.{eq_by_cmp}
use Rattle.records.specs.declared.version.Version.{Version}
use Rattle.records.specs.declared.fault.RecordsFault.{RecordsFault}
use Rattle.records.specs.declared.fault.RecordsFault.TheVariants.{BadLine, Twice}
use Rattle.records.specs.Subscriber.{Subscriber}
use Rattle.records.specs.Maps.{digits_cmp}
use Rattle.texts.specs.Lines.{parts, lines}
use Rattle.records.specs.File.{Contents, AreApart, SharesWithOne, IsGoodBefore, HasNoHeader, IsBadLine, IsTwice}
use Rattle.records.specs.Spelling.{Each, IsHeader, IsRecordLine}
use Rattle.records.specs.Reading.{record_of, header_in, at_imsi, at_msisdn, with_line, records_after, contents_below, contents_of, and_then, with_hlr}
use Rattle.records.proofs.MapLemmas.{digits_tie}
use Rattle.records.proofs.LineLaws.{record_found, header_found}
use Rattle.records.proofs.AgainLines.{record_again, header_again}
use Rattle.records.proofs.AgainFiles.{apart_middle, imsi_free, msisdn_free}

-- the lines before a fault are read
front_again : (version : Version) (found : List Subscriber) (n : ℕ) (front : List (List ℕ)) (rs : List Subscriber) (rest : List (List ℕ))
    → Each (IsRecordLine version) front rs → AreApart (found ++ rs)
    → records_after version found n (front ++ rest) ≡ records_after version (found ++ rs) (n + length front) rest
unfolding records_after
front_again version found n [] [] rest h apart =
    let place : n ≡ n + 0 = omega arith in
    ap (λ (x : List Subscriber). records_after version x n rest) (sym (append-nil found)) ∙ ap (λ (m : ℕ). records_after version (found ++ []) m rest) place
front_again version found n [] (s ∷ ss) rest h apart = absurd h
front_again version found n (l ∷ ls) [] rest h apart = absurd h
front_again version found n (l ∷ ls) (s ∷ ss) rest h apart =
    let free = apart_middle found s ss apart in
    let regroup : (found ++ s ∷ []) ++ ss ≡ found ++ s ∷ ss = append_assoc found (s ∷ []) ss in
    let next = front_again version (found ++ s ∷ []) (n + 1) ls ss rest h.1 (subst AreApart (sym regroup) apart) in
    let place : (n + 1) + length ls ≡ n + suc (length ls) = omega arith in
    rw (record_again version l s h.0, imsi_free found s free, msisdn_free found s free)
    (next ∙ ap (λ (x : List Subscriber). records_after version x ((n + 1) + length ls) rest) regroup
    ∙ ap (λ (m : ℕ). records_after version (found ++ s ∷ ss) m rest) place)

-- the content of the line with a fault decides
faulty_line : (version : Version) (found : List Subscriber) (n : ℕ) (line : List ℕ) (rest : List (List ℕ)) (e : RecordsFault)
    → with_line found n (record_of version (parts 32 line)) ≡ Err e → records_after version found n (line ∷ rest) ≡ Err e
unfolding records_after
faulty_line version found n line rest e bad = ap (and_then (λ next. records_after version next (n + 1) rest)) bad

good_before : (text : List ℕ) (n : ℕ) (version : Version) (contents : Contents) (line : List ℕ) (e : RecordsFault) → IsGoodBefore text n version contents line
    → with_line contents.records n (record_of version (parts 32 line)) ≡ Err e → contents_of (lines text) ≡ Err e
unfolding contents_of
good_before text n version contents line e h bad =
    let place : 2 + length h.front ≡ n = omega (arith, h.place) in
    let here = faulty_line version contents.records n line h.rest e bad in
    let reads = front_again version [] 2 h.front contents.records (line ∷ h.rest) h.are_lines.are_records h.are_lines.are_apart
    ∙ ap (λ (m : ℕ). records_after version contents.records m (line ∷ h.rest)) place ∙ here in
    ap contents_of h.whole ∙ ap (λ o. contents_below o (h.front ++ line ∷ h.rest)) (header_again h.header version contents.hlr h.are_lines.is_header)
    ∙ ap (and_then (λ found. Ok (with_hlr contents.hlr found))) reads

no_record : (version : Version) (line : List ℕ) → ((s : Subscriber) → ¬ (IsRecordLine version line s)) → record_of version (parts 32 line) ≡ None
no_record version line none =
    elim (record_of version (parts 32 line)) as (λ o. record_of version (parts 32 line) ≡ o → o ≡ None) [
      | None ↦ λ e. refl
      | Some s ↦ λ e. absurd (none s (record_found version line s e))
    ] refl

no_header_in : (header : List ℕ) → ((version : Version) (hlr : List ℕ) → ¬ (IsHeader header version hlr)) → header_in header ≡ None
no_header_in header none =
    elim (header_in header) as (λ o. header_in header ≡ o → o ≡ None) [
      | None ↦ λ e. refl
      | Some h ↦ λ e. absurd (none h.0 h.1 (header_found header h e))
    ] refl

no_header : (text : List ℕ) (ls : List (List ℕ)) → lines text ≡ ls → HasNoHeader text → contents_of ls ≡ Err (BadLine 1)
unfolding contents_of
no_header text [] is none = refl
no_header text (header ∷ below) is none = ap (λ o. contents_below o below) (no_header_in header (none header below is))

pub bad_line_again : (text : List ℕ) (n : ℕ) → IsBadLine text n → contents_of (lines text) ≡ Err (BadLine n)
bad_line_again text n (inl h) = no_header text (lines text) refl h.1 ∙ ap (λ (m : ℕ). Err (BadLine m)) (sym h.0)
bad_line_again text n (inr h) =
    good_before text n h.0 h.1 h.2 (BadLine n) h.3 (ap (with_line h.1.records n) (no_record h.0 h.2 h.4))

tied : (a b : List ℕ) → a ≡ b → eq_by_cmp digits_cmp b a ≡ true
tied a b e = ap (eq_by_cmp digits_cmp b) e ∙ digits_tie b

there_too : {A : Type 0} (b : Bool) (x : A) (o : Option A) → is_some o ≡ true → is_some (cond b (Some x) o) ≡ true
there_too true x o e = refl
there_too false x o e = e

either_stands : (s : Subscriber) (ts : List Subscriber) → SharesWithOne s ts → (is_some (at_imsi ts s.imsi) ≡ true) ⊎ (is_some (at_msisdn ts s.msisdn) ≡ true)
either_stands s [] h = absurd h
either_stands s (t ∷ ts) (inl (inl e)) = let same = tied t.imsi s.imsi e in inl (rw same refl)
either_stands s (t ∷ ts) (inl (inr e)) = let same = tied t.msisdn s.msisdn e in inr (rw same refl)
either_stands s (t ∷ ts) (inr h) =
    elim (either_stands s ts h) [
      | inl e ↦ inl (there_too (eq_by_cmp digits_cmp s.imsi t.imsi) t (at_imsi ts s.imsi) e)
      | inr e ↦ inr (there_too (eq_by_cmp digits_cmp s.msisdn t.msisdn) t.imsi (at_msisdn ts s.msisdn) e)
    ]

stands_twice : (found : List Subscriber) (n : ℕ) (s : Subscriber) → SharesWithOne s found → with_line found n (Some s) ≡ Err (Twice n)
stands_twice found n s h =
    elim (either_stands s found h) [
      | inl e ↦ rw e refl
      | inr e ↦ elim (cases_Bool (is_some (at_imsi found s.imsi))) [ inl t ↦ rw t refl | inr f ↦ rw (f, e) refl ]
    ]

pub twice_again : (text : List ℕ) (n : ℕ) → IsTwice text n → contents_of (lines text) ≡ Err (Twice n)
twice_again text n h =
    good_before text n h.0 h.1 h.2 (Twice n) h.3 (ap (with_line h.1.records n) (record_again h.0 h.2 h.4 h.5) ∙ stands_twice h.1.records n h.4 h.6)
