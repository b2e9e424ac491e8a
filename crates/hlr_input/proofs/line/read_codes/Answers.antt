use Rattle.std.proofs.Common.{◌≡◌, ◌∷◌, [], List, ℕ, refl, subst, sym, ◌∙◌}
use Rattle.records.specs.Spelling.{IsCodes, IsImsiNumber}
use Rattle.hlr_input.specs.Script.{Codes}
use Rattle.hlr_input.proofs.LineLaws.{codes_of, none_read, some_read}
use Rattle.hlr_input.proofs.line.read_codes.Goals as goal

pub returns-in_default : goal.returns-in_default
returns-in_default c = λ said is.
    let k = codes_of c.args.rest.now said is in
    let same : c.in_ok-number.number.now ∷ c.in_ok-number.field.now ∷ [] ≡ k.0 ∷ k.1 ∷ [] = sym c.in_ok-number.ensures.found ∙ k.5 in
    let field : k.1 ≡ c.in_ok-number.field.now = cc in
    none_read c.read.result k.3 c.in_default.is (c.read.ensures.only k.3 (subst (λ (t : List ℕ). IsCodes t k.3) field k.7))

pub returns : goal.returns
returns c = (
  (
    c.args.rest.now,
    c.in_ok-number.number.now,
    c.in_ok-number.field.now,
    refl,
    c.in_ok-number.ensures.found,
    c.in_ok-imsi.ensures.found,
    c.in-Some.ensures.found,
  ),
  λ said is.
      let k = codes_of c.args.rest.now said is in
      let same : c.in_ok-number.number.now ∷ c.in_ok-number.field.now ∷ [] ≡ k.0 ∷ k.1 ∷ [] = sym c.in_ok-number.ensures.found ∙ k.5 in
      let number : k.0 ≡ c.in_ok-number.number.now = cc in
      let field : k.1 ≡ c.in_ok-number.field.now = cc in
      let imsi = some_read c.imsi.result c.in_ok-imsi.imsi k.2 c.in_ok-imsi.was
      (c.imsi.ensures.only k.2 (subst (λ (t : List ℕ). IsImsiNumber t k.2) number k.6)) in
      let codes = some_read c.read.result c.in-Some.codes k.3 c.in-Some.is
      (c.read.ensures.only k.3 (subst (λ (t : List ℕ). IsCodes t k.3) field k.7)) in
      (λ i. Codes (imsi i) (codes i)) ∙ sym k.4,
)
