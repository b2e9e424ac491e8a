-- Several components are read exactly if each has its form.
use Rattle.std.proofs.Common.{◌≡◌, List, [], ◌∷◌, refl, ap, ◌∙◌}
use Rattle.x690.specs.Tree.{Tree}
use Rattle.machine.specs.Received.{ComponentOf}
use Rattle.frames.specs.Components.{components_of}
use Rattle.frames.proofs.ComponentLaws.{component_found, component_again}
use Rattle.q773_comp.specs.Forms.{AreRead}

pub are_found : (ts : List Tree) → AreRead ts (components_of ts)
are_found [] = tt
are_found (t ∷ ts) = (component_found t, are_found ts)

pub are_again : (ts : List Tree) (cs : List (ComponentOf Tree)) → AreRead ts cs → components_of ts ≡ cs
are_again [] [] h = refl
are_again (t ∷ ts) (c ∷ cs) (h, hs) = ap (λ d. d ∷ components_of ts) (component_again t c h) ∙ ap (λ ds. c ∷ ds) (are_again ts cs hs)
are_again [] (c ∷ cs) h = absurd h
are_again (t ∷ ts) [] h = absurd h

pub ruleset list_laws = (are_found, are_again)
