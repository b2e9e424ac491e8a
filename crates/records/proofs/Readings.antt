-- What `read_records` says, from what its private part says.
use Rattle.std.proofs.Common.{◌≡◌, ℕ, List, refl, subst, inl, inr}
use Rattle.std.specs.Prelude.{◌⊎◌, Result, Ok, Err, IfOk, MatchResult}
use Rattle.records.specs.declared.fault.RecordsFault.{RecordsFault}
use Rattle.records.specs.declared.fault.RecordsFault.TheVariants.{BadLine, Twice, Memory}
use Rattle.texts.specs.Lines.{lines}
use Rattle.records.specs.File.{Contents, File, IsBadLine, IsTwice}
use Rattle.records.specs.Loaded.{Subscribers, loaded_from}
use Rattle.records.specs.Reading.{contents_of, Answers}
use Rattle.records.proofs.AgainFiles.{file_again, file_fault}
use Rattle.records.proofs.AgainFaults.{bad_line_again, twice_again}
use Rattle.records.proofs.FileLaws.{file_found}

pub answers_found : (text : List ℕ) (r : Result Subscribers RecordsFault) → Answers r (contents_of (lines text))
    → IfOk r (λ loaded. (contents : Contents) × File text contents × (loaded ≡ loaded_from contents))
answers_found text (Ok loaded) h = (h.0, file_found text h.0 h.1, h.2)
answers_found text (Err e) h = tt

answers_ok : (r : Result Subscribers RecordsFault) (contents : Contents) → Answers r (Ok contents)
    → MatchResult r (λ loaded. loaded ≡ loaded_from contents) (λ fault. fault ≡ Memory)
answers_ok (Ok loaded) contents h = let same : contents ≡ h.0 = cc (h.1) in cc (h.2)
answers_ok (Err (BadLine n)) contents h = absurd (cc h)
answers_ok (Err (Twice n)) contents h = absurd (cc h)
answers_ok (Err Memory) contents h = cc

pub answers_only : (text : List ℕ) (r : Result Subscribers RecordsFault) (contents : Contents) → Answers r (contents_of (lines text)) → File text contents
    → MatchResult r (λ loaded. loaded ≡ loaded_from contents) (λ fault. fault ≡ Memory)
answers_only text r contents h is = answers_ok r contents (subst (λ (read : Result Contents RecordsFault). Answers r read) (file_again text contents is) h)

bad_line_is : (text : List ℕ) (n : ℕ) → contents_of (lines text) ≡ Err (BadLine n) → IsBadLine text n
bad_line_is text n e =
    elim (file_fault text (BadLine n) e) [
      | inl f ↦ let same : f.0 ≡ n = cc (f.1) in subst (IsBadLine text) same f.2
      | inr f ↦ absurd (cc (f.1))
    ]

twice_is : (text : List ℕ) (n : ℕ) → contents_of (lines text) ≡ Err (Twice n) → IsTwice text n
twice_is text n e =
    elim (file_fault text (Twice n) e) [
      | inl f ↦ absurd (cc (f.1))
      | inr f ↦ let same : f.0 ≡ n = cc (f.1) in subst (IsTwice text) same f.2
    ]

pub answers_bad_line : (text : List ℕ) (r : Result Subscribers RecordsFault) (n : ℕ) → Answers r (contents_of (lines text)) → r ≡ Err (BadLine n)
    → IsBadLine text n
answers_bad_line text r n h e = bad_line_is text n (subst (λ (x : Result Subscribers RecordsFault). Answers x (contents_of (lines text))) e h)

pub answers_twice : (text : List ℕ) (r : Result Subscribers RecordsFault) (n : ℕ) → Answers r (contents_of (lines text)) → r ≡ Err (Twice n) → IsTwice text n
answers_twice text r n h e = twice_is text n (subst (λ (x : Result Subscribers RecordsFault). Answers x (contents_of (lines text))) e h)

answers_err : (r : Result Subscribers RecordsFault) (e : RecordsFault) → Answers r (Err e) → MatchResult r (λ _. ⊥) (λ fault. (fault ≡ e) ⊎ (fault ≡ Memory))
answers_err (Ok loaded) e h = cc (h.1)
answers_err (Err (BadLine m)) e h = inl cc
answers_err (Err (Twice m)) e h = inl cc
answers_err (Err Memory) e h = inr refl

pub answers_at_bad_line : (text : List ℕ) (r : Result Subscribers RecordsFault) (n : ℕ) → Answers r (contents_of (lines text)) → IsBadLine text n
    → MatchResult r (λ _. ⊥) (λ fault. (fault ≡ BadLine n) ⊎ (fault ≡ Memory))
answers_at_bad_line text r n h is = answers_err r (BadLine n) (subst (λ (read : Result Contents RecordsFault). Answers r read) (bad_line_again text n is) h)

pub answers_at_twice : (text : List ℕ) (r : Result Subscribers RecordsFault) (n : ℕ) → Answers r (contents_of (lines text)) → IsTwice text n
    → MatchResult r (λ _. ⊥) (λ fault. (fault ≡ Twice n) ⊎ (fault ≡ Memory))
answers_at_twice text r n h is = answers_err r (Twice n) (subst (λ (read : Result Contents RecordsFault). Answers r read) (twice_again text n is) h)
