-- What a file reads to is what it stands for.
use Rattle.std.proofs.Common.{◌≡◌, ℕ, ◌+◌, Bool, true, false, cond, List, [], ◌∷◌, ◌++◌, refl, sym, ap, subst, ◌∙◌, inl, inr, append_assoc}
use Rattle.std.specs.Prelude.{Option, Some, None, Result, Ok, Err, is_some}
use Rattle.std.specs.List.{AllByRecursion}
use Rattle.std.proofs.lemmas.Bool.{cases_Bool, false≢true}
use Rattle.std.proofs.lemmas.List.{append-nil}
use Rattle.records.specs.declared.version.Version.{Version}
use Rattle.records.specs.declared.fault.RecordsFault.TheVariants.{Twice}
use Rattle.records.specs.Subscriber.{Subscriber}
use Rattle.texts.specs.Lines.{parts, lines}
use Rattle.records.specs.Reading.{record_of, header_in, at_imsi, at_msisdn, with_line, records_after, contents_below, contents_of, and_then, with_hlr}
use Rattle.records.specs.Spelling.{Each, IsRecordLine}
use Rattle.records.specs.File.{Contents, Share, AreApart, File}
use Rattle.std.specs.Ordering.{eq_by_cmp}
use Rattle.records.specs.Maps.{digits_cmp}
use Rattle.records.proofs.MapLemmas.{digits_tie}
use Rattle.records.proofs.LineLaws.{record_found, header_found}

and_then_ok : {A B E : Type 0} (f : A → Result B E) (r : Result A E) (y : B) → and_then f r ≡ Ok y → (x : A) × (r ≡ Ok x) × (f x ≡ Ok y)
and_then_ok f (Ok x) y e = (x, refl, e)
and_then_ok f (Err d) y e = absurd cc

-- ---- records that share nothing

there : {A : Type 0} (b : Bool) (x : A) (o : Option A) → is_some (cond b (Some x) o) ≡ false → (b ≡ false) × (is_some o ≡ false)
there true x o e = absurd (false≢true (sym e))
there false x o e = (refl, e)

not_same : (a b : List ℕ) → eq_by_cmp digits_cmp a b ≡ false → a ≡ b → ⊥
not_same a b apart e = false≢true (sym apart ∙ ap (eq_by_cmp digits_cmp a) (sym e) ∙ digits_tie a)

none_shares : (found : List Subscriber) (s : Subscriber) → is_some (at_imsi found s.imsi) ≡ false → is_some (at_msisdn found s.msisdn) ≡ false
    → AllByRecursion (λ t. ¬ (Share t s)) found
none_shares [] s i m = tt
none_shares (t ∷ ts) s i m =
    let p = there (eq_by_cmp digits_cmp s.imsi t.imsi) t (at_imsi ts s.imsi) i in
    let q = there (eq_by_cmp digits_cmp s.msisdn t.msisdn) t.imsi (at_msisdn ts s.msisdn) m in
    let here : ¬ (Share t s) = λ sh. elim sh [ inl e ↦ not_same s.imsi t.imsi p.0 (sym e) | inr e ↦ not_same s.msisdn t.msisdn q.0 (sym e) ] in
    (here, none_shares ts s p.1 q.1)

all_push : {X : Type 0} (P : X → Type 0) (xs : List X) (y : X) → AllByRecursion P xs → P y → AllByRecursion P (xs ++ y ∷ [])
all_push P [] y h p = (p, tt)
all_push P (x ∷ xs) y h p = (h.0, all_push P xs y h.1 p)

pub AreApart-push : (found : List Subscriber) (s : Subscriber) → AreApart found → AllByRecursion (λ t. ¬ (Share t s)) found → AreApart (found ++ s ∷ [])
AreApart-push [] s h p = (tt, tt)
AreApart-push (t ∷ ts) s h p = (all_push (λ u. ¬ (Share t u)) ts s h.0 p.0, AreApart-push ts s h.1 p.1)

-- ---- lines

pub record LineFound (found : List Subscriber) (o : Option Subscriber) (next : List Subscriber) : Type 0 where
  pub s : Subscriber
  pub is : o ≡ Some s
  pub pushed : next ≡ found ++ s ∷ []
  pub none_share : AllByRecursion (λ t. ¬ (Share t s)) found

pub line_found : (found : List Subscriber) (n : ℕ) (o : Option Subscriber) (next : List Subscriber) → with_line found n o ≡ Ok next → LineFound found o next
line_found found n None next e = absurd cc
line_found found n (Some s) next e =
    elim (cases_Bool (is_some (at_imsi found s.imsi))) [
      | inl t ↦ let bad : with_line found n (Some s) ≡ Err (Twice n) = rw t refl in absurd (cc (sym bad ∙ e))
      | inr f ↦ elim (cases_Bool (is_some (at_msisdn found s.msisdn))) [
        | inl t ↦ let bad : with_line found n (Some s) ≡ Err (Twice n) = rw (f, t) refl in absurd (cc (sym bad ∙ e))
        | inr g ↦
            let good : with_line found n (Some s) ≡ Ok (found ++ s ∷ []) = rw (f, g) refl in
            let same : found ++ s ∷ [] ≡ next = cc (sym good ∙ e) in
            record { s = s; is = refl; pushed = sym same; none_share = none_shares found s f g }
      ]
    ]

record RecordsFound (version : Version) (found : List Subscriber) (ls : List (List ℕ)) (rs : List Subscriber) : Type 0 where
  new : List Subscriber
  whole : rs ≡ found ++ new
  each : Each (IsRecordLine version) ls new
  apart : AreApart found → AreApart rs

records_found : (version : Version) (found : List Subscriber) (n : ℕ) (ls : List (List ℕ)) (rs : List Subscriber) → records_after version found n ls ≡ Ok rs
    → RecordsFound version found ls rs
unfolding records_after
records_found version found n [] rs e =
    let same : found ≡ rs = cc in
    record { new = []; whole = sym same ∙ sym (append-nil found); each = tt; apart = λ h. subst AreApart same h }
records_found version found n (line ∷ more) rs e =
    let b = and_then_ok (λ next. records_after version next (n + 1) more) (with_line found n (record_of version (parts 32 line))) rs e in
    let l = line_found found n (record_of version (parts 32 line)) b.0 b.1 in
    let r = records_found version b.0 (n + 1) more rs b.2 in
    record {
      new = l.s ∷ r.new;
      whole = r.whole ∙ ap (λ (x : List Subscriber). x ++ r.new) l.pushed ∙ append_assoc found (l.s ∷ []) r.new;
      each = (record_found version line l.s l.is, r.each);
      apart = λ h. r.apart (subst AreApart (sym l.pushed) (AreApart-push found l.s h l.none_share));
    }

contents_below_found : (text header : List ℕ) (more : List (List ℕ)) (h : Option (Version × List ℕ)) (f : Contents) → lines text ≡ header ∷ more
    → header_in header ≡ h → contents_below h more ≡ Ok f → File text f
contents_below_found text header more None f whole is e = absurd cc
contents_below_found text header more (Some h) f whole is e =
    let b = and_then_ok (λ found. Ok (with_hlr h.1 found)) (records_after h.0 [] 2 more) f e in
    let r = records_found h.0 [] 2 more b.0 b.1 in
    let same : with_hlr h.1 b.0 ≡ f = cc (b.2) in
    subst (File text) same (record {
      version = h.0;
      header = header;
      below = more;
      whole = whole;
      are_lines = record {
        is_header = header_found header h is;
        are_records = subst (λ (rs : List Subscriber). Each (IsRecordLine h.0) more rs) (sym r.whole) r.each;
        are_apart = r.apart tt;
      };
    })

lines_found : (text : List ℕ) (ls : List (List ℕ)) (f : Contents) → lines text ≡ ls → contents_of ls ≡ Ok f → File text f
unfolding contents_of
lines_found text [] f is e = absurd cc
lines_found text (header ∷ more) f is e = contents_below_found text header more (header_in header) f is refl e

-- what is read is a file
pub file_found : (text : List ℕ) (f : Contents) → contents_of (lines text) ≡ Ok f → File text f
file_found text f e = lines_found text (lines text) f refl e
