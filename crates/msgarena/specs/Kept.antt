-- The components that are kept, as a list.
use Rattle.std.specs.Prelude.{List, [], ◌∷◌}
use Rattle.q773_comp.specs.declared.component.Component.{Component}
use Rattle.msgarena.specs.declared.parameter.Parameter.{Parameter}
use Rattle.msgarena.specs.declared.heard.Heard.{Heard}
use Rattle.msgarena.specs.declared.heard.Heard.TheVariants.{Nothing, One, More}

abbrev pub kept : Heard → List (Component Parameter)
kept Nothing = []
kept (One only) = only ∷ []
kept (More several) = several.items
