-- Digits that a text is cut to, and what the parts read to of which these are the first.
use Rattle.std.proofs.Common.{◌≡◌, ℕ, ◌+◌, ◌<◌, false, List, [], ◌∷◌, ◌++◌, refl, sym, ap, ◌∙◌}
use Rattle.std.specs.Prelude.{Option, Some, None, IfSome, IsSomeAnd, option_map}
use Rattle.std.specs.Borrow.{Bor}
use Rattle.std.specs.List.{AllByRecursion, join_with_byte}
use Rattle.std.proofs.lemmas.Bool.{false≢true, ne_eqb}
use Rattle.hlr_types.specs.Digits.{AreSomeDigits}
use Rattle.hlr_types.specs.DigitTexts.{digits_in, is_digit, text_of}
use Rattle.hlr_types.proofs.TextLemmas.{printed_digit}
use Rattle.records.specs.declared.version.Version.{Version}
use Rattle.records.specs.declared.version.Version.TheVariants.{One, Two}
use Rattle.texts.specs.Lines.{parts}
use Rattle.records.specs.Reading.{◌>>=◌, first_digits, withdrawn_in, register_of, register_after, subscriber_of, subscriber_from, record_of, record_after}
use Rattle.texts.proofs.PartsLemmas.{parts_cons}
use Rattle.records.proofs.FieldLaws.{number_found, joined_again}
use Rattle.records.proofs.AgainFields.{number_again, Lacks, parts-front}

-- ---- digits before a separator

digits_lack : (at : ℕ) (ds : List ℕ) → is_digit at ≡ false → AllByRecursion (λ d. d < 10) ds → Lacks at (text_of ds)
digits_lack at [] other each = tt
digits_lack at (d ∷ ds) other each =
    (ne_eqb (d + 48) at (λ e. absurd (false≢true (sym other ∙ ap is_digit (sym e) ∙ printed_digit d each.0))), digits_lack at ds other each.1)

cut_found : (at : ℕ) (text ds rest : List ℕ) → is_digit at ≡ false → AreSomeDigits ds → text ≡ text_of ds ++ at ∷ rest
    → Some (ds, parts at rest) ≡ first_digits (parts at text)
cut_found at text ds rest other are is =
    let next = parts_cons at rest in
    let front : parts at text ≡ text_of ds ∷ parts at rest = ap (parts at) is ∙ parts-front at (text_of ds) rest (digits_lack at ds other are.each) in
    let digits : digits_in (text_of ds) ≡ Some ds = number_again (text_of ds) ds (refl, are) in
    rw (front, next.2, digits) refl

-- no digits with a part after them
none_cut : (at : ℕ) (text : List ℕ) (ps : List (List ℕ)) → text ≡ join_with_byte at ps
    → ((ds rest : List ℕ) → AreSomeDigits ds → text ≡ text_of ds ++ at ∷ rest → ⊥) → None ≡ first_digits ps
none_cut at text [] joined none = refl
none_cut at text (a ∷ []) joined none = refl
none_cut at text (a ∷ b ∷ more) joined none =
    elim (digits_in a) as (λ o. digits_in a ≡ o → ◌≡◌ {A = Option (List ℕ × List (List ℕ))} None (option_map (λ ds. (ds, b ∷ more)) o)) [
      | None ↦ λ is. refl
      | Some ds ↦ λ is.
          let number = number_found a ds is in
          absurd (none ds (join_with_byte at (b ∷ more)) number.1 (joined ∙ ap (λ (t : List ℕ). t ++ at ∷ join_with_byte at (b ∷ more)) number.0))
    ] refl

pub cut_is : (at : ℕ) (text : List ℕ) (cut : Option (List ℕ × Bor (List ℕ))) → is_digit at ≡ false
    → IfSome cut (λ r. AreSomeDigits r.0 × (text ≡ text_of r.0 ++ at ∷ r.1.now))
    → ((ds rest : List ℕ) → AreSomeDigits ds → text ≡ text_of ds ++ at ∷ rest → IsSomeAnd cut (λ r. (r.0 ≡ ds) × (r.1.now ≡ rest)))
    → option_map (λ r. (r.0, parts at r.1.now)) cut ≡ first_digits (parts at text)
cut_is at text None other found only = none_cut at text (parts at text) (joined_again at text) only
cut_is at text (Some r) other found only = cut_found at text r.0 r.1.now other found.0 found.1

-- ---- parts that begin with two numbers

-- what reads two numbers and then the parts after them, of which there is one
abbrev by_two : {X : Type 0} → (List ℕ → List ℕ → List (List ℕ) → Option X) → List (List ℕ) → Option X
by_two after ps = first_digits ps >>= λ a. first_digits a.1 >>= λ b. after a.0 b.0 b.1

none_left : {A B X : Type 0} (o : Option A) (p : Option B) → ◌≡◌ {A = Option X} None (o >>= λ x. p >>= λ y. None)
none_left None p = refl
none_left (Some x) None = refl
none_left (Some x) (Some y) = refl

two_by : {X : Type 0} (after : List ℕ → List ℕ → List (List ℕ) → Option X) (o p : Option (List ℕ)) (b : List ℕ) (more : List (List ℕ))
    → digits_in b ≡ p → ((i m : List ℕ) → after i m [] ≡ None)
    → (o >>= λ i. p >>= λ m. after i m more) ≡ (option_map {U = List ℕ × List (List ℕ)} (λ i. (i, b ∷ more)) o >>= λ a. first_digits a.1 >>= λ c. after a.0 c.0 c.1)
two_by after None p b more is none = refl
two_by after (Some i) None b [] is none = refl
two_by after (Some i) (Some m) b [] is none = none i m
two_by after (Some i) None b (c ∷ more) is none = rw is refl
two_by after (Some i) (Some m) b (c ∷ more) is none = rw is refl

two : {X : Type 0} (after : List ℕ → List ℕ → List (List ℕ) → Option X) (a b : List ℕ) (more : List (List ℕ)) → ((i m : List ℕ) → after i m [] ≡ None)
    → (digits_in a >>= λ i. digits_in b >>= λ m. after i m more) ≡ by_two after (a ∷ b ∷ more)
two after a b more none = two_by after (digits_in a) (digits_in b) b more refl none

-- ---- a register

register_by : (ps : List (List ℕ)) → register_of ps ≡ by_two register_after ps
unfolding register_of register_after
register_by [] = refl
register_by (a ∷ []) = refl
register_by (a ∷ b ∷ []) = none_left (digits_in a) (digits_in b) ∙ two register_after a b [] (λ i m. refl)
register_by (a ∷ b ∷ c ∷ []) = none_left (digits_in a) (digits_in b) ∙ two register_after a b (c ∷ []) (λ i m. refl)
register_by (a ∷ b ∷ c ∷ d ∷ []) = two register_after a b (c ∷ d ∷ []) (λ i m. refl)
register_by (a ∷ b ∷ c ∷ d ∷ e ∷ more) = none_left (digits_in a) (digits_in b) ∙ two register_after a b (c ∷ d ∷ e ∷ more) (λ i m. refl)

pub no_vlr : (ps : List (List ℕ)) → None ≡ first_digits ps → None ≡ register_of ps
no_vlr ps none = sym (register_by ps ∙ rw (sym none) refl)

pub no_msc : (ps qs : List (List ℕ)) (vlr : List ℕ) → Some (vlr, qs) ≡ first_digits ps → None ≡ first_digits qs → None ≡ register_of ps
no_msc ps qs vlr first none = sym (register_by ps ∙ rw (sym first, sym none) refl)

pub register_left : (ps qs rs : List (List ℕ)) (vlr msc : List ℕ) → Some (vlr, qs) ≡ first_digits ps → Some (msc, rs) ≡ first_digits qs
    → register_of ps ≡ register_after vlr msc rs
register_left ps qs rs vlr msc first second = register_by ps ∙ rw (sym first, sym second) refl

-- more fields than a register has
pub register_after_five : (v m c d text : List ℕ) → register_after v m (c ∷ d ∷ parts 44 text) ≡ None
unfolding register_after
register_after_five v m c d text = let p = parts_cons 44 text in rw p.2 refl

pub ruleset register_laws = (no_vlr, no_msc, register_left)

-- ---- a record

marked_last : {A B C X : Type 0} (o : Option A) (p : Option B) (q : Option C) (f : A → B → C → Option X)
    → (q >>= λ z. o >>= λ x. p >>= λ y. f x y z) ≡ (o >>= λ x. p >>= λ y. q >>= λ z. f x y z)
marked_last o p None f = none_left o p
marked_last None p (Some z) f = refl
marked_last (Some x) None (Some z) f = refl
marked_last (Some x) (Some y) (Some z) f = refl

record_one : (a b : List ℕ) (more : List (List ℕ)) → record_of One (a ∷ b ∷ more) ≡ (digits_in a >>= λ i. digits_in b >>= λ m. record_after One i m more)
unfolding record_of record_after subscriber_of
record_one a b [] = none_left (digits_in a) (digits_in b)
record_one a b (c ∷ []) = none_left (digits_in a) (digits_in b)
record_one a b (c ∷ d ∷ []) = none_left (digits_in a) (digits_in b)
record_one a b (c ∷ d ∷ e ∷ []) = refl
record_one a b (c ∷ d ∷ e ∷ f ∷ more) = none_left (digits_in a) (digits_in b)

record_two : (a b : List ℕ) (more : List (List ℕ)) → record_of Two (a ∷ b ∷ more) ≡ (digits_in a >>= λ i. digits_in b >>= λ m. record_after Two i m more)
unfolding record_of record_after subscriber_of
record_two a b [] = none_left (digits_in a) (digits_in b)
record_two a b (c ∷ []) = none_left (digits_in a) (digits_in b)
record_two a b (c ∷ d ∷ []) = none_left (digits_in a) (digits_in b)
record_two a b (c ∷ d ∷ e ∷ []) = none_left (digits_in a) (digits_in b)
record_two a b (c ∷ d ∷ e ∷ f ∷ []) =
    marked_last (digits_in a) (digits_in b) (withdrawn_in f) (λ i m w. subscriber_from i m c d e w)
record_two a b (c ∷ d ∷ e ∷ f ∷ g ∷ more) = none_left (digits_in a) (digits_in b)

record_by : (version : Version) (ps : List (List ℕ)) → record_of version ps ≡ by_two (record_after version) ps
unfolding record_of record_after
record_by One [] = refl
record_by One (a ∷ []) = refl
record_by One (a ∷ b ∷ more) = record_one a b more ∙ two (record_after One) a b more (λ i m. refl)
record_by Two [] = refl
record_by Two (a ∷ []) = refl
record_by Two (a ∷ b ∷ more) = record_two a b more ∙ two (record_after Two) a b more (λ i m. refl)

pub no_imsi : (version : Version) (ps : List (List ℕ)) → None ≡ first_digits ps → None ≡ record_of version ps
no_imsi version ps none = sym (record_by version ps ∙ rw (sym none) refl)

pub no_msisdn : (version : Version) (ps qs : List (List ℕ)) (imsi : List ℕ) → Some (imsi, qs) ≡ first_digits ps → None ≡ first_digits qs
    → None ≡ record_of version ps
no_msisdn version ps qs imsi first none = sym (record_by version ps ∙ rw (sym first, sym none) refl)

pub record_left : (version : Version) (ps qs rs : List (List ℕ)) (imsi msisdn : List ℕ) → Some (imsi, qs) ≡ first_digits ps
    → Some (msisdn, rs) ≡ first_digits qs → record_of version ps ≡ record_after version imsi msisdn rs
record_left version ps qs rs imsi msisdn first second = record_by version ps ∙ rw (sym first, sym second) refl

-- more fields than a line may have
pub record_after_seven : (i m c d e f text : List ℕ) → record_after Two i m (c ∷ d ∷ e ∷ f ∷ parts 32 text) ≡ None
unfolding record_after
record_after_seven i m c d e f text = let p = parts_cons 32 text in rw p.2 refl

pub record_after_six : (i m c d e text : List ℕ) → record_after One i m (c ∷ d ∷ e ∷ parts 32 text) ≡ None
unfolding record_after
record_after_six i m c d e text = let p = parts_cons 32 text in rw p.2 refl

pub ruleset record_laws = (no_imsi, no_msisdn, record_left)

pub ruleset fields_laws = (record_after_six, record_after_seven)
