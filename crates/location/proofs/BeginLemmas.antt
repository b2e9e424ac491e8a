-- A Begin's context, and its effect.
use Rattle.std.proofs.Common.{◌≡◌, ◌≢◌, ℕ, ℤ, List, [], ◌∷◌, map, Option, Some, None, refl, sym, ap, ◌∙◌}
use Rattle.machine.specs.Received as machine
use Rattle.machine.specs.Sent.{Context, Rejection}
use Rattle.machine.specs.Contexts.{accepted}
use Rattle.machine.specs.State.{Local}
use Rattle.machine.specs.Effect.{Offer, effect}
use Rattle.machine.specs.Outcome.{Outcome}
use Rattle.machine.specs.Begins.{begins_in, begun, first_argument, offer_in}
use Rattle.q773_comp.specs.declared.component.Component.{Component}
use Rattle.q773_comp.specs.Seen.{component, rejection}
use Rattle.msgarena.specs.declared.parameter.Parameter.{Parameter}
use Rattle.msgarena.specs.Seen.{parameter}
use Rattle.csl.specs.declared.offer.Effect.{Effect}
use Rattle.csl.specs.Seen.{heard}
use Rattle.csl.specs.Effects.{IsEffect}
use Rattle.csl.proofs.Parameters.{parameters_have_no_effect}
use Rattle.outgoing.specs.Accepting.{Go, decision, decision_under}

-- without a component nothing begins
pub none_go : (name : Option (List ℕ)) (context : Context) → Go context ≡ decision name [] → ⊥
none_go None context e = cc
none_go (Some name) context e = under (accepted name) e
  where
    under : (o : Option Context) → Go context ≡ decision_under name o [] → ⊥
    under None q = cc
    under (Some c) q = cc

abbrev seen : List (Component Parameter) → List machine.Component
seen cs = map (component parameter) cs

module _ (here : Local) (from origin : List ℕ) (context : Context) (new : List ℕ) where
  some_begin : (cs : List machine.Component) → cs ≢ []
      → begun here (record { from = from; origin = origin; context = context; rejects = (effect here.clock (offer_in context cs) [] cs).rejects })
      (effect here.clock (offer_in context cs) [] cs).started (first_argument cs) new
      ≡ begins_in here from origin context cs new
  some_begin [] some = absurd (some refl)
  some_begin (c ∷ cs) some = refl

  seen_some : (cs : List (Component Parameter)) → cs ≢ [] → seen cs ≢ []
  seen_some [] some = λ e. some refl
  seen_some (c ∷ cs) some = λ e. absurd cc

  abbrev begun_with : List Rejection → Option ℤ → Option machine.Argument → Outcome
  begun_with rejects started asked = begun here (record { from = from; origin = origin; context = context; rejects = rejects }) started asked new

  pub begun_is : (cs : List (Component Parameter)) (now : ℕ) (offer : Offer) (answer : Effect) (asked : Option machine.Argument)
      → cs ≢ [] → here.clock ≡ now → offer ≡ offer_in context (seen cs)
      → IsEffect answer (effect now offer [] (map heard cs)) → asked ≡ first_argument (seen cs)
      → begun_with (map rejection answer.rejects.items) answer.started asked ≡ begins_in here from origin context (seen cs) new
  begun_is cs now offer answer asked some clock is_offer is_effect is_asked =
      let same : effect now offer [] (map heard cs) ≡ effect here.clock (offer_in context (seen cs)) [] (seen cs)
      = sym (parameters_have_no_effect parameter now offer [] cs)
      ∙ ap (λ (o : Offer). effect now o [] (seen cs)) is_offer
      ∙ ap (λ (t : ℕ). effect t (offer_in context (seen cs)) [] (seen cs)) (sym clock) in
      let rejects = is_effect.rejects ∙ ap (λ e. e.rejects) same in
      let started = is_effect.started ∙ ap (λ e. e.started) same in
      (λ i. begun_with (rejects i) (started i) (is_asked i)) ∙ some_begin (seen cs) (seen_some cs some)
