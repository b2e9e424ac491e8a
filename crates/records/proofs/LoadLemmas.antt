-- One more line is loaded.
use Rattle.std.proofs.Common.{◌≡◌, ℕ, ◌+◌, Bool, true, false, List, [], ◌∷◌, ◌++◌, map as each, refl, sym, ap, ◌∙◌}
use Rattle.std.specs.Prelude.{Option, Some, None, Result, Ok, Err, is_some, not, ◌&&◌}
use Rattle.std.specs.Bool.{OnTrue}
use Rattle.std.specs.FinMap as map
use Rattle.std.proofs.lemmas.Bool.{false≢true}
use Rattle.std.proofs.lemmas.List.{map-append}
use Rattle.records.specs.declared.version.Version.{Version}
use Rattle.records.specs.declared.fault.RecordsFault.{RecordsFault}
use Rattle.records.specs.declared.fault.RecordsFault.TheVariants.{BadLine, Twice}
use Rattle.records.specs.Subscriber.{Subscriber}
use Rattle.texts.specs.Lines.{parts}
use Rattle.records.specs.File.{Contents}
use Rattle.records.specs.Loaded.{Subscribers, imsi_entry, msisdn_entry, by_imsi, by_msisdn, loaded_from, with_record}
use Rattle.records.specs.Loading.{is_new}
use Rattle.records.specs.Reading.{record_of, at_imsi, at_msisdn, records_after, and_then, with_hlr, below_header}
use Rattle.records.proofs.MapLemmas.{digits_total, digits_exact}

pub on_true : (b : Bool) (P : Type 0) → b ≡ true → OnTrue b P → P
on_true true P e h = h
on_true false P e h = absurd (false≢true e)

pub to_true : (b : Bool) (P : Type 0) → P → OnTrue b P
to_true true P h = h
to_true false P h = tt

pub turned : (a b : Bool) → a ≡ not b → b ≡ not a
turned a true e = ap not (sym e)
turned a false e = ap not (sym e)

pub none_is : {A : Type 0} (o : Option A) → is_some o ≡ false → o ≡ None
none_is None e = refl
none_is (Some x) e = absurd (false≢true (sym e))

-- of two that are to be free
first_free : (a b : Bool) → (not a && not b) ≡ true → a ≡ false
first_free true b e = absurd (false≢true e)
first_free false b e = refl

second_free : (a b : Bool) → (not a && not b) ≡ true → b ≡ false
second_free true b e = absurd (false≢true e)
second_free false true e = absurd (false≢true e)
second_free false false e = refl

second_stands : (a b : Bool) → (not a && not b) ≡ false → a ≡ false → b ≡ true
second_stands true b e f = absurd (false≢true (sym f))
second_stands false true e f = refl
second_stands false false e f = absurd (false≢true (sym e))

by_imsi-push : (found : List Subscriber) (s : Subscriber) → is_some (at_imsi found s.imsi) ≡ false
    → by_imsi (found ++ s ∷ []) ≡ map.insert (by_imsi found) s.imsi s
by_imsi-push found s new =
    ap (λ es. map.from_entries es) (map-append imsi_entry found (s ∷ []))
    ∙ map.from_entries_push digits_total digits_exact (each imsi_entry found) s.imsi s (none_is (at_imsi found s.imsi) new)

by_msisdn-push : (found : List Subscriber) (s : Subscriber) → is_some (at_msisdn found s.msisdn) ≡ false
    → by_msisdn (found ++ s ∷ []) ≡ map.insert (by_msisdn found) s.msisdn s.imsi
by_msisdn-push found s new =
    ap (λ es. map.from_entries es) (map-append msisdn_entry found (s ∷ []))
    ∙ map.from_entries_push digits_total digits_exact (each msisdn_entry found) s.msisdn s.imsi (none_is (at_msisdn found s.msisdn) new)

-- A loop that has reached line n, with these lines left, loads what it would load from line 2 on.
pub record IsAtLine (version : Version) (loaded : Subscribers) (hlr : List ℕ) (n : ℕ) (left : List (List ℕ)) (all : List (List ℕ)) : Type 0 where
  pub found : List Subscriber
  pub holds : loaded ≡ loaded_from (with_hlr hlr found)
  pub so_far : records_after version found n left ≡ records_after version [] 2 all

module _ (version : Version) (loaded : Subscribers) (hlr : List ℕ) (n : ℕ) (left : List (List ℕ)) (all : List (List ℕ))
    (at : IsAtLine version loaded hlr n left all) where
  stands_imsi : (imsi : List ℕ) (b : Bool) → is_some (map.get loaded.records imsi) ≡ b → is_some (at_imsi at.found imsi) ≡ b
  stands_imsi imsi b e = ap is_some (sym (map.get-from_entries digits_total (each imsi_entry at.found) imsi))
      ∙ ap (λ (l : Subscribers). is_some (map.get l.records imsi)) (sym at.holds) ∙ e

  stands_msisdn : (msisdn : List ℕ) (b : Bool) → is_some (map.get loaded.directory msisdn) ≡ b → is_some (at_msisdn at.found msisdn) ≡ b
  stands_msisdn msisdn b e = ap is_some (sym (map.get-from_entries digits_total (each msisdn_entry at.found) msisdn))
      ∙ ap (λ (l : Subscribers). is_some (map.get l.directory msisdn)) (sym at.holds) ∙ e

  ends : (r : Result (List Subscriber) RecordsFault) → records_after version at.found n left ≡ r
      → below_header version hlr all ≡ and_then (λ found. Ok (with_hlr hlr found)) r
  ends r one = ap (and_then (λ found. Ok (with_hlr hlr found))) (sym at.so_far ∙ one)

  pub line_is_bad : (line : List ℕ) (more : List (List ℕ)) → left ≡ line ∷ more → record_of version (parts 32 line) ≡ None
      → below_header version hlr all ≡ Err (BadLine n)
  unfolding records_after
  line_is_bad line more is none = ends (Err (BadLine n)) (rw (is, none) refl)

  module _ (line : List ℕ) (more : List (List ℕ)) (s : Subscriber) (is : left ≡ line ∷ more) (some : record_of version (parts 32 line) ≡ Some s) where
    imsi_stands_twice : is_some (map.get loaded.records s.imsi) ≡ true → below_header version hlr all ≡ Err (Twice n)
    unfolding records_after
    imsi_stands_twice taken =
        let stands = stands_imsi s.imsi true taken in
        ends (Err (Twice n)) (rw (is, some, stands) refl)

    msisdn_stands_twice : is_some (map.get loaded.records s.imsi) ≡ false → is_some (map.get loaded.directory s.msisdn) ≡ true
        → below_header version hlr all ≡ Err (Twice n)
    unfolding records_after
    msisdn_stands_twice free taken =
        let new = stands_imsi s.imsi false free in
        let stands = stands_msisdn s.msisdn true taken in
        ends (Err (Twice n)) (rw (is, some, new, stands) refl)

    pub stands_twice : is_new loaded s ≡ false → below_header version hlr all ≡ Err (Twice n)
    stands_twice taken = go (is_some (map.get loaded.records s.imsi)) refl
      where
        go : (b : Bool) → is_some (map.get loaded.records s.imsi) ≡ b → below_header version hlr all ≡ Err (Twice n)
        go true stands = imsi_stands_twice stands
        go false free = msisdn_stands_twice free (second_stands _ _ taken free)

    pub line_goes_on : is_new loaded s ≡ true → (next : Subscribers) → next ≡ with_record loaded s → IsAtLine version next hlr (n + 1) more all
    unfolding records_after
    line_goes_on free next adds =
        let new = stands_imsi s.imsi false (first_free _ _ free) in
        let new_too = stands_msisdn s.msisdn false (second_free _ (is_some (map.get loaded.directory s.msisdn)) free) in
        let one : records_after version at.found n left ≡ records_after version (at.found ++ s ∷ []) (n + 1) more = rw (is, some, new, new_too) refl in
        let whole : with_record (loaded_from (with_hlr hlr at.found)) s ≡ loaded_from (with_hlr hlr (at.found ++ s ∷ [])) =
        ap (λ r. record { hlr = hlr; records = r; directory = map.insert (by_msisdn at.found) s.msisdn s.imsi }) (sym (by_imsi-push at.found s new))
        ∙ ap (λ d. record { hlr = hlr; records = by_imsi (at.found ++ s ∷ []); directory = d }) (sym (by_msisdn-push at.found s new_too)) in
        record {
          found = at.found ++ s ∷ [];
          holds = adds ∙ ap (λ (l : Subscribers). with_record l s) at.holds ∙ whole;
          so_far = sym one ∙ at.so_far;
        }

  pub lines_end : left ≡ [] → (contents : Contents) × (below_header version hlr all ≡ Ok contents) × (loaded ≡ loaded_from contents)
  unfolding records_after
  lines_end is = (with_hlr hlr at.found, ends (Ok at.found) (rw is refl), at.holds)

pub begins : (version : Version) (loaded : Subscribers) (hlr : List ℕ) (all : List (List ℕ)) → loaded ≡ loaded_from (with_hlr hlr [])
    → IsAtLine version loaded hlr 2 all all
begins version loaded hlr all e = record { found = []; holds = e; so_far = refl }
