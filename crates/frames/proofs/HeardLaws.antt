-- Trees are heard as components exactly if they have the components' forms.
use Rattle.std.proofs.Common.{◌≡◌, List, [], ◌∷◌, refl, ap, ◌∙◌}
use Rattle.std.specs.Prelude.{Some, None}
use Rattle.x690.specs.Tree.{Tree}
use Rattle.machine.specs.Received.{ComponentOf, Component, Invoke, ResultLast, ResultNotLast, ReturnError, Reject, Bad, Ignored}
use Rattle.frames.specs.Components.{component_of}
use Rattle.frames.specs.ComponentForms.{IsComponent}
use Rattle.frames.specs.Heard.{heard, heard_of, all_heard, IsHeard, AreHeard}
use Rattle.frames.proofs.ComponentLaws.{component_found, component_again}
use Rattle.frames.proofs.ArgumentLaws.{parameter_found, parameter_again}

heard_is : (t : Tree) (c : ComponentOf Tree) → IsComponent t c → IsHeard t (heard c)
heard_is t (Invoke id linked code None) h = h
heard_is t (Invoke id linked code (Some p)) h = (p, h, parameter_found code p)
heard_is t (ResultLast id) h = h
heard_is t (ResultNotLast id) h = h
heard_is t (ReturnError id code) h = h
heard_is t (Reject id side problem) h = h
heard_is t (Bad id problem) h = h
heard_is t Ignored h = h

pub heard_found : (t : Tree) → IsHeard t (heard_of t)
heard_found t = heard_is t (component_of t) (component_found t)

pub heard_again : (t : Tree) (c : Component) → IsHeard t c → heard_of t ≡ c
heard_again t (Invoke id linked code None) h = ap heard (component_again t (Invoke id linked code None) h)
heard_again t (Invoke id linked code (Some parameter)) (p, is, reads) = ap heard (component_again t (Invoke id linked code (Some p)) is)
    ∙ ap (λ q. Invoke id linked code (Some q)) (parameter_again code p parameter reads)
heard_again t (ResultLast id) h = ap heard (component_again t (ResultLast id) h)
heard_again t (ResultNotLast id) h = ap heard (component_again t (ResultNotLast id) h)
heard_again t (ReturnError id code) h = ap heard (component_again t (ReturnError id code) h)
heard_again t (Reject id side problem) h = ap heard (component_again t (Reject id side problem) h)
heard_again t (Bad id problem) h = ap heard (component_again t (Bad id problem) h)
heard_again t Ignored h = ap heard (component_again t Ignored h)

pub all_found : (ts : List Tree) → AreHeard ts (all_heard ts)
all_found [] = tt
all_found (t ∷ ts) = (heard_found t, all_found ts)

pub all_again : (ts : List Tree) (cs : List Component) → AreHeard ts cs → all_heard ts ≡ cs
all_again [] [] h = refl
all_again [] (c ∷ cs) h = absurd h
all_again (t ∷ ts) [] h = absurd h
all_again (t ∷ ts) (c ∷ cs) h = λ k. heard_again t c h.0 k ∷ all_again ts cs h.1 k
