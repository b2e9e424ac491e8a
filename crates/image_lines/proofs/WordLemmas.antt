-- Fields that are words, and the parts of a text.
use Rattle.std.proofs.Common.{◌≡◌, ℕ, Bool, true, false, cond, List, [], ◌∷◌, refl, ap, ◌∙◌, inl, inr}
use Rattle.std.specs.Prelude.{Some, None}
use Rattle.std.proofs.lemmas.Option.{cond_some}
use Rattle.machine.specs.Sent.{CancellationType, UpdateProcedure, SubscriptionWithdraw}
use Rattle.machine.specs.State.{Was, OperationSent, WaitForReject}
use Rattle.records.specs.Reading.{is_text}
use Rattle.records.proofs.FieldLaws.{chosen, is_text_true}
use Rattle.image_lines.specs.Lines.{mark_text, was_text, why_text}
use Rattle.image_lines.specs.Reading.{first_of, only_of, mark_in, was_in, why_in}

-- one of two words
two_words : {A : Type 0} (written : A → List ℕ) (field : List ℕ) (x y v : A)
    → cond (is_text field (written x)) (Some x) (cond (is_text field (written y)) (Some y) None) ≡ Some v → field ≡ written v
two_words written field x y v e =
    elim (chosen (is_text field (written x)) x (cond (is_text field (written y)) (Some y) None) v e) [
      | inl p ↦ is_text_true field (written x) p.0 ∙ ap written p.1
      | inr p ↦ let q = cond_some (is_text field (written y)) y v p.1 in is_text_true field (written y) q.0 ∙ ap written q.1
    ]

pub mark_found : (field : List ℕ) (is_current : Bool) → mark_in field ≡ Some is_current → field ≡ mark_text is_current
mark_found field is_current e = two_words mark_text field true false is_current e

pub mark_again : (is_current : Bool) → mark_in (mark_text is_current) ≡ Some is_current
mark_again true = refl
mark_again false = refl

pub was_found : (field : List ℕ) (was : Was) → was_in field ≡ Some was → field ≡ was_text was
was_found field was e = two_words was_text field OperationSent WaitForReject was e

pub was_again : (was : Was) → was_in (was_text was) ≡ Some was
was_again OperationSent = refl
was_again WaitForReject = refl

pub why_found : (field : List ℕ) (why : CancellationType) → why_in field ≡ Some why → field ≡ why_text why
why_found field why e = two_words why_text field UpdateProcedure SubscriptionWithdraw why e

pub why_again : (why : CancellationType) → why_in (why_text why) ≡ Some why
why_again UpdateProcedure = refl
why_again SubscriptionWithdraw = refl

-- ---- parts

pub first_found : (ps : List (List ℕ)) (p : List ℕ × List (List ℕ)) → first_of ps ≡ Some p → ps ≡ p.0 ∷ p.1
first_found [] p e = absurd cc
first_found (a ∷ []) p e = absurd cc
first_found (a ∷ b ∷ more) p e =
    let same : (a, b ∷ more) ≡ p = cc in
    ap (λ (q : List ℕ × List (List ℕ)). q.0 ∷ q.1) same

pub only_found : (ps : List (List ℕ)) (p : List ℕ) → only_of ps ≡ Some p → ps ≡ p ∷ []
only_found [] p e = absurd cc
only_found (a ∷ []) p e =
    let same : a ≡ p = cc in
    ap (λ (q : List ℕ). q ∷ []) same
only_found (a ∷ b ∷ more) p e = absurd cc
