-- What a file stands for is read from it, and its fault is the first one.
use Rattle.std.proofs.Common.{◌≡◌, ℕ, suc, ◌+◌, Bool, true, false, List, [], ◌∷◌, ◌++◌, length, refl, sym, ap, subst, ◌∙◌, arith, inl, inr, append_assoc}
use Rattle.std.specs.Prelude.{◌⊎◌, Option, Some, None, Result, Ok, Err, is_some}
use Rattle.std.specs.List.{AllByRecursion}
use Rattle.std.proofs.lemmas.Bool.{cases_Bool, false≢true, cond-false}
use Rattle.std.proofs.lemmas.List.{append-nil}
use Rattle.records.specs.declared.version.Version.{Version}
use Rattle.records.specs.declared.fault.RecordsFault.{RecordsFault}
use Rattle.records.specs.declared.fault.RecordsFault.TheVariants.{BadLine, Twice}
use Rattle.records.specs.Subscriber.{Subscriber}
use Rattle.texts.specs.Lines.{parts, lines}
use Rattle.records.specs.Reading.{record_of, header_in, at_imsi, at_msisdn, with_line, records_after, contents_below, contents_of, and_then, with_hlr}
use Rattle.records.specs.Spelling.{Each, IsRecordLine}
use Rattle.records.specs.File.{Contents, Share, AreApart, File, SharesWithOne, IsGoodBefore, IsBadLine, IsTwice}
use Rattle.std.specs.Ordering.{eq_by_cmp}
use Rattle.records.specs.Maps.{digits_cmp}
use Rattle.records.proofs.MapLemmas.{same_digits}
use Rattle.records.proofs.LineLaws.{record_found, header_found}
use Rattle.records.proofs.FileLaws.{line_found, AreApart-push}
use Rattle.records.proofs.AgainLines.{record_again, header_again}

-- ---- what was written is read again

not_true : (b : Bool) → (b ≡ true → ⊥) → b ≡ false
not_true true h = absurd (h refl)
not_true false h = refl

pub imsi_free : (found : List Subscriber) (s : Subscriber) → AllByRecursion (λ t. ¬ (Share t s)) found → is_some (at_imsi found s.imsi) ≡ false
imsi_free [] s h = refl
imsi_free (t ∷ ts) s h =
    let apart : eq_by_cmp digits_cmp s.imsi t.imsi ≡ false = not_true (eq_by_cmp digits_cmp s.imsi t.imsi)
    (λ e. h.0 (inl (sym (same_digits s.imsi t.imsi e)))) in
    ap is_some (cond-false (eq_by_cmp digits_cmp s.imsi t.imsi) (Some t) (at_imsi ts s.imsi) apart) ∙ imsi_free ts s h.1

pub msisdn_free : (found : List Subscriber) (s : Subscriber) → AllByRecursion (λ t. ¬ (Share t s)) found → is_some (at_msisdn found s.msisdn) ≡ false
msisdn_free [] s h = refl
msisdn_free (t ∷ ts) s h =
    let apart : eq_by_cmp digits_cmp s.msisdn t.msisdn ≡ false = not_true (eq_by_cmp digits_cmp s.msisdn t.msisdn)
    (λ e. h.0 (inr (sym (same_digits s.msisdn t.msisdn e)))) in
    ap is_some (cond-false (eq_by_cmp digits_cmp s.msisdn t.msisdn) (Some t.imsi) (at_msisdn ts s.msisdn) apart) ∙ msisdn_free ts s h.1

all_middle : {X : Type 0} (P : X → Type 0) (xs : List X) (y : X) (ys : List X) → AllByRecursion P (xs ++ y ∷ ys) → P y
all_middle P [] y ys h = h.0
all_middle P (x ∷ xs) y ys h = all_middle P xs y ys h.1

pub apart_middle : (found : List Subscriber) (s : Subscriber) (ss : List Subscriber) → AreApart (found ++ s ∷ ss) → AllByRecursion (λ t. ¬ (Share t s)) found
apart_middle [] s ss h = tt
apart_middle (t ∷ ts) s ss h = (all_middle (λ u. ¬ (Share t u)) ts s ss h.0, apart_middle ts s ss h.1)

pub records_again : (version : Version) (found : List Subscriber) (n : ℕ) (ls : List (List ℕ)) (rs : List Subscriber) → Each (IsRecordLine version) ls rs
    → AreApart (found ++ rs) → records_after version found n ls ≡ Ok (found ++ rs)
unfolding records_after
records_again version found n [] [] h apart = ap (λ (x : List Subscriber). Ok x) (sym (append-nil found))
records_again version found n [] (s ∷ ss) h apart = absurd h
records_again version found n (l ∷ ls) [] h apart = absurd h
records_again version found n (l ∷ ls) (s ∷ ss) h apart =
    let free = apart_middle found s ss apart in
    let regroup : (found ++ s ∷ []) ++ ss ≡ found ++ s ∷ ss = append_assoc found (s ∷ []) ss in
    let rest = records_again version (found ++ s ∷ []) (n + 1) ls ss h.1 (subst AreApart (sym regroup) apart) in
    rw (record_again version l s h.0, imsi_free found s free, msisdn_free found s free) (rest ∙ ap (λ (x : List Subscriber). Ok x) regroup)

below_again : (version : Version) (more : List (List ℕ)) (hlr : List ℕ) (f : Contents) → hlr ≡ f.hlr → Each (IsRecordLine version) more f.records
    → AreApart f.records → contents_below (Some (version, hlr)) more ≡ Ok f
below_again version more hlr f e each apart =
    ap (and_then (λ found. Ok (with_hlr hlr found))) (records_again version [] 2 more f.records each apart) ∙ ap (λ (h : List ℕ). Ok (with_hlr h f.records)) e

pub file_again : (text : List ℕ) (f : Contents) → File text f → contents_of (lines text) ≡ Ok f
unfolding contents_of
file_again text f h =
    ap contents_of h.whole ∙ ap (λ o. contents_below o h.below) (header_again h.header h.version f.hlr h.are_lines.is_header)
    ∙ below_again h.version h.below f.hlr f refl h.are_lines.are_records h.are_lines.are_apart

-- ---- the first fault

imsi_shared : (found : List Subscriber) (s : Subscriber) → is_some (at_imsi found s.imsi) ≡ true → SharesWithOne s found
imsi_shared [] s e = absurd (false≢true e)
imsi_shared (t ∷ ts) s e =
    elim (cases_Bool (eq_by_cmp digits_cmp s.imsi t.imsi)) [
      | inl y ↦ inl (inl (sym (same_digits s.imsi t.imsi y)))
      | inr f ↦ inr (imsi_shared ts s (sym (ap is_some (cond-false (eq_by_cmp digits_cmp s.imsi t.imsi) (Some t) (at_imsi ts s.imsi) f)) ∙ e))
    ]

msisdn_shared : (found : List Subscriber) (s : Subscriber) → is_some (at_msisdn found s.msisdn) ≡ true → SharesWithOne s found
msisdn_shared [] s e = absurd (false≢true e)
msisdn_shared (t ∷ ts) s e =
    elim (cases_Bool (eq_by_cmp digits_cmp s.msisdn t.msisdn)) [
      | inl y ↦ inl (inr (sym (same_digits s.msisdn t.msisdn y)))
      | inr f ↦ inr (msisdn_shared ts s (sym (ap is_some (cond-false (eq_by_cmp digits_cmp s.msisdn t.msisdn) (Some t.imsi) (at_msisdn ts s.msisdn) f)) ∙ e))
    ]

-- what is wrong with one line
abbrev LineFault : List Subscriber → ℕ → Option Subscriber → RecordsFault → Type 0
LineFault found n o e = ((o ≡ None) × (e ≡ BadLine n)) ⊎ ((s : Subscriber) × (o ≡ Some s) × (e ≡ Twice n) × SharesWithOne s found)

line_fault : (found : List Subscriber) (n : ℕ) (o : Option Subscriber) (e : RecordsFault) → with_line found n o ≡ Err e → LineFault found n o e
line_fault found n None e is = inl (refl, cc)
line_fault found n (Some s) e is =
    elim (cases_Bool (is_some (at_imsi found s.imsi))) [
      | inl t ↦ let bad : with_line found n (Some s) ≡ Err (Twice n) = rw t refl in inr (s, refl, cc (sym bad ∙ is), imsi_shared found s t)
      | inr f ↦ elim (cases_Bool (is_some (at_msisdn found s.msisdn))) [
        | inl t ↦ let bad : with_line found n (Some s) ≡ Err (Twice n) = rw (f, t) refl in inr (s, refl, cc (sym bad ∙ is), msisdn_shared found s t)
        | inr g ↦ let good : with_line found n (Some s) ≡ Ok (found ++ s ∷ []) = rw (f, g) refl in absurd (cc (sym good ∙ is))
      ]
    ]

and_then_err : {A B E : Type 0} (f : A → Result B E) (r : Result A E) (e : E) → and_then f r ≡ Err e → (r ≡ Err e) ⊎ ((x : A) × (r ≡ Ok x) × (f x ≡ Err e))
and_then_err f (Ok x) e is = inr (x, refl, is)
and_then_err f (Err d) e is = let p : d ≡ e = cc in inl (ap (λ y. Err y) p)

record FirstFault (version : Version) (found : List Subscriber) (n : ℕ) (ls : List (List ℕ)) (e : RecordsFault) : Type 0 where
  front : List (List ℕ)
  line : List ℕ
  rest : List (List ℕ)
  new : List Subscriber
  whole : ls ≡ front ++ line ∷ rest
  each : Each (IsRecordLine version) front new
  apart : AreApart found → AreApart (found ++ new)
  fault : LineFault (found ++ new) (n + length front) (record_of version (parts 32 line)) e

first_fault : (version : Version) (found : List Subscriber) (n : ℕ) (ls : List (List ℕ)) (e : RecordsFault) → records_after version found n ls ≡ Err e
    → FirstFault version found n ls e
unfolding records_after
first_fault version found n [] e is = absurd cc
first_fault version found n (line ∷ more) e is =
    elim (and_then_err (λ next. records_after version next (n + 1) more) (with_line found n (record_of version (parts 32 line))) e is) [
      | inl bad ↦
          let place : n ≡ n + 0 = omega arith in
          let all : found ≡ found ++ [] = sym (append-nil found) in
          let f = line_fault found n (record_of version (parts 32 line)) e bad in
          record {
            front = [];
            line = line;
            rest = more;
            new = [];
            whole = refl;
            each = tt;
            apart = λ h. subst AreApart all h;
            fault = subst (λ (m : ℕ). LineFault (found ++ []) m (record_of version (parts 32 line)) e) place
                (subst (λ (x : List Subscriber). LineFault x n (record_of version (parts 32 line)) e) all f);
          }
      | inr good ↦
          let l = line_found found n (record_of version (parts 32 line)) good.0 good.1 in
          let r = first_fault version good.0 (n + 1) more e good.2 in
          let regroup : good.0 ++ r.new ≡ found ++ l.s ∷ r.new = ap (λ (x : List Subscriber). x ++ r.new) l.pushed ∙ append_assoc found (l.s ∷ []) r.new in
          let place : (n + 1) + length r.front ≡ n + suc (length r.front) = omega arith in
          record {
            front = line ∷ r.front;
            line = r.line;
            rest = r.rest;
            new = l.s ∷ r.new;
            whole = ap (λ (x : List (List ℕ)). line ∷ x) r.whole;
            each = (record_found version line l.s l.is, r.each);
            apart = λ h. subst AreApart regroup (r.apart (subst AreApart (sym l.pushed) (AreApart-push found l.s h l.none_share)));
            fault = subst (λ (m : ℕ). LineFault (found ++ l.s ∷ r.new) m (record_of version (parts 32 r.line)) e) place
                (subst (λ (x : List Subscriber). LineFault x ((n + 1) + length r.front) (record_of version (parts 32 r.line)) e) regroup r.fault);
          }
    ]

-- the first fault of a text
abbrev pub IsFault : List ℕ → RecordsFault → Type 0
IsFault text e = ((n : ℕ) × (e ≡ BadLine n) × IsBadLine text n) ⊎ ((n : ℕ) × (e ≡ Twice n) × IsTwice text n)

below_fault : (text header : List ℕ) (more : List (List ℕ)) (h : Option (Version × List ℕ)) (e : RecordsFault) → lines text ≡ header ∷ more
    → header_in header ≡ h → contents_below h more ≡ Err e → IsFault text e
below_fault text header more None e whole is bad =
    inl (
      1,
      cc,
      inl (
        refl,
        λ first rest other version hlr good.
            let same : header ≡ first = cc (sym whole ∙ other) in
            let read : header_in first ≡ Some (version, hlr) = header_again first version hlr good in
            let none : header_in first ≡ None = sym (ap header_in same) ∙ is in
            cc (sym none ∙ read),
      ),
    )
below_fault text header more (Some h) e whole is bad =
    elim (and_then_err (λ found. Ok (with_hlr h.1 found)) (records_after h.0 [] 2 more) e bad) [
      | inr good ↦ absurd (cc (good.2))
      | inl stops ↦
          let r = first_fault h.0 [] 2 more e stops in
          let before : IsGoodBefore text (2 + length r.front) h.0 (with_hlr h.1 r.new) r.line = record {
            header = header;
            front = r.front;
            rest = r.rest;
            whole = whole ∙ ap (λ (x : List (List ℕ)). header ∷ x) r.whole;
            place = omega arith;
            are_lines = record { is_header = header_found header h is; are_records = r.each; are_apart = r.apart tt };
          } in
          elim r.fault [
            | inl f ↦ inl (
              2 + length r.front,
              f.1,
              inr (
                h.0,
                with_hlr h.1 r.new,
                r.line,
                before,
                λ s good. let read = record_again h.0 r.line s good in cc
                    (sym f.0 ∙ read),
              ),
            )
            | inr f ↦ inr (2 + length r.front, f.2, (h.0, with_hlr h.1 r.new, r.line, before, f.0, record_found h.0 r.line f.0 f.1, f.3))
          ]
    ]

lines_fault : (text : List ℕ) (ls : List (List ℕ)) (e : RecordsFault) → lines text ≡ ls → contents_of ls ≡ Err e → IsFault text e
unfolding contents_of
lines_fault text [] e is bad = inl (1, cc, inl (refl, λ first rest other version hlr good. cc (sym is ∙ other)))
lines_fault text (header ∷ more) e is bad = below_fault text header more (header_in header) e is refl bad

pub file_fault : (text : List ℕ) (e : RecordsFault) → contents_of (lines text) ≡ Err e → IsFault text e
file_fault text e bad = lines_fault text (lines text) e refl bad
