-- Lines without a fault: each is a record, and no two records share an IMSI or an MSISDN.
use Rattle.std.proofs.Common.{◌≡◌, ℕ, true, false, List, [], ◌∷◌, ◌++◌, map as each, sym, ap, subst, ◌∙◌, append_assoc, inl, inr}
use Rattle.std.specs.Prelude.{Option, Some, None, Result, Ok, Err, IfOk, IfSome}
use Rattle.std.specs.List.{AllByRecursion, IsDistinct}
use Rattle.std.specs.Map.{keys_of}
use Rattle.std.specs.Ordering.{eq_by_cmp}
use Rattle.std.proofs.lemmas.Bool.{false≢true}
use Rattle.std.proofs.lemmas.List.{append-nil}
use Rattle.records.specs.declared.version.Version.{Version}
use Rattle.records.specs.declared.version.Version.TheVariants.{One, Two}
use Rattle.records.specs.Subscriber.{Subscriber}
use Rattle.records.specs.Maps.{digits_cmp}
use Rattle.records.specs.Fresh.{IsFresh, AreFresh}
use Rattle.texts.specs.Lines.{parts}
use Rattle.records.specs.File.{Share, AreApart}
use Rattle.records.specs.Spelling.{Each, IsRecordLine, MayBeWithdrawn}
use Rattle.records.specs.Loaded.{Subscribers, imsi_entry, msisdn_entry, by_imsi, loaded_from}
use Rattle.records.specs.Reading.{record_of, and_then, with_hlr, below_header, Answers}
use Rattle.records.specs.Ordered.{AreDistinct}
use Rattle.records.proofs.MapLemmas.{digits_tie}
use Rattle.records.proofs.LineLaws.{record_found}
use Rattle.records.proofs.Facts.{not_purged}
use Rattle.records.proofs.FreshLemmas.{fresh_empty, fresh_insert}
use Rattle.records.proofs.AgainFiles.{records_again}

-- ---- no two share an IMSI or an MSISDN

differ : (p q : List ℕ) → eq_by_cmp digits_cmp p q ≡ false → p ≡ q → ⊥
differ p q apart same = false≢true (sym apart ∙ ap (λ (k : List ℕ). eq_by_cmp digits_cmp p k) (sym same) ∙ digits_tie p)

apart_from_all : (s : Subscriber) (ss : List Subscriber) → AllByRecursion (λ k. eq_by_cmp digits_cmp s.imsi k ≡ false) (keys_of (each imsi_entry ss))
    → AllByRecursion (λ k. eq_by_cmp digits_cmp s.msisdn k ≡ false) (keys_of (each msisdn_entry ss)) → AllByRecursion (λ t. ¬ (Share s t)) ss
apart_from_all s [] imsis msisdns = tt
apart_from_all s (t ∷ ts) imsis msisdns = (
  λ shared. elim shared [ inl same ↦ differ s.imsi t.imsi imsis.0 same | inr same ↦ differ s.msisdn t.msisdn msisdns.0 same ],
  apart_from_all s ts imsis.1 msisdns.1,
)

pub are_apart : (ss : List Subscriber) → AreDistinct (each imsi_entry ss) → AreDistinct (each msisdn_entry ss) → AreApart ss
unfolding IsDistinct
are_apart [] imsis msisdns = tt
are_apart (s ∷ ss) imsis msisdns = (apart_from_all s ss imsis.0 msisdns.0, are_apart ss imsis.1 msisdns.1)

-- ---- fresh records

has_left : (version : Version) (s : Subscriber) → MayBeWithdrawn version s → s.withdrawn ≡ true → s.register ≡ None
has_left One s may is = absurd (false≢true (sym may ∙ is))
has_left Two s may is = may is

line_is_fresh : (version : Version) (line : List ℕ) (s : Subscriber) → IsRecordLine version line s → IsFresh s
line_is_fresh version line s is = record {
  unmarked = is.no_current;
  purged = not_purged is.register s.register s.purged is.is_register;
  withdrawn = has_left version s is.may_be_withdrawn;
}

pub lines_are_fresh : (version : Version) (ls : List (List ℕ)) (ss : List Subscriber) → Each (IsRecordLine version) ls ss → AllByRecursion IsFresh ss
lines_are_fresh version [] [] h = tt
lines_are_fresh version [] (s ∷ ss) h = absurd h
lines_are_fresh version (l ∷ ls) [] h = absurd h
lines_are_fresh version (l ∷ ls) (s ∷ ss) h = (line_is_fresh version l s h.0, lines_are_fresh version ls ss h.1)

pub fresh_by_imsi : (ss : List Subscriber) → AllByRecursion IsFresh ss → AreFresh (by_imsi ss)
fresh_by_imsi [] fresh = fresh_empty
fresh_by_imsi (s ∷ ss) fresh = fresh_insert (by_imsi ss) s.imsi s (fresh_by_imsi ss fresh.1) fresh.0

-- ---- line after line

-- With these records found, whatever the lines that are left stand for is the rest of all.
abbrev pub IsReadTo : Version → List Subscriber → List (List ℕ) → List (List ℕ) → Type 0
IsReadTo version found left all = (more : List Subscriber) → Each (IsRecordLine version) left more → Each (IsRecordLine version) all (found ++ more)

module _ (version : Version) (found : List Subscriber) (all : List (List ℕ)) where
  pub none_read : found ≡ [] → IsReadTo version found all all
  none_read none = λ more is. subst (λ (l : List Subscriber). Each (IsRecordLine version) all (l ++ more)) (sym none) is

  pub one_read : (left : List (List ℕ)) (line : List ℕ) (rest : List (List ℕ)) (s : Subscriber) (next : List Subscriber) → IsReadTo version found left all
      → left ≡ line ∷ rest → record_of version (parts 32 line) ≡ Some s → next ≡ found ++ s ∷ [] → IsReadTo version next rest all
  one_read left line rest s next reads begins some push = λ more is.
      let whole : next ++ more ≡ found ++ s ∷ more = ap (λ (l : List Subscriber). l ++ more) push ∙ append_assoc found (s ∷ []) more in
      let these : Each (IsRecordLine version) (line ∷ rest) (s ∷ more) = (record_found version line s some, is) in
      subst (λ (l : List Subscriber). Each (IsRecordLine version) all l) (sym whole)
      (reads (s ∷ more) (subst (λ (l : List (List ℕ)). Each (IsRecordLine version) l (s ∷ more)) (sym begins) these))

  pub all_read : (left : List (List ℕ)) → IsReadTo version found left all → left ≡ [] → Each (IsRecordLine version) all found
  all_read left reads none =
      subst (λ (l : List Subscriber). Each (IsRecordLine version) all l) (append-nil found)
      (reads [] (subst (λ (l : List (List ℕ)). Each (IsRecordLine version) l []) (sym none) tt))

-- ---- what is loaded

module _ (version : Version) (hlr : List ℕ) (ls : List (List ℕ)) (ss : List Subscriber) (is : Each (IsRecordLine version) ls ss) where
  read_below : AreApart ss → below_header version hlr ls ≡ Ok (with_hlr hlr ss)
  read_below apart = ap (and_then (λ found. Ok (with_hlr hlr found))) (records_again version [] 2 ls ss is apart)

  pub loaded_answers : {E : Type 0} (r : Result (Option Subscribers) E) → IfOk r (λ found. IfSome found (λ loaded. loaded ≡ loaded_from (with_hlr hlr ss)))
      → IfOk r (λ found. IfSome found (λ _. AreApart ss))
      → IfOk r (λ found. IfSome found (λ loaded. Answers (Ok loaded) (below_header version hlr ls)))
  loaded_answers (Ok (Some loaded)) value apart = (with_hlr hlr ss, read_below apart, value)
  loaded_answers (Ok None) value apart = tt
  loaded_answers (Err e) value apart = tt
