-- Whether two elements have the same tag (X.690, 8.1.2).
use Rattle.std.specs.Prelude.{Bool, true, false, ◌&&◌, ◌==◌, not}
use Rattle.x690.specs.declared.Class.{Class}
use Rattle.x690.specs.declared.Class.TheVariants.{Universal, Application, ContextSpecific, Private}
use Rattle.x690.specs.declared.Tag.{Tag}

abbrev pub same_class : Class → Class → Bool
same_class Universal Universal = true
same_class Application Application = true
same_class ContextSpecific ContextSpecific = true
same_class Private Private = true
same_class _ _ = false

abbrev pub same_bool : Bool → Bool → Bool
same_bool true b = b
same_bool false b = not b

-- A primitive and a constructed element of the same class and number have different tags here.
abbrev pub same_tag : Tag → Tag → Bool
same_tag a b = same_class a.class b.class && same_bool a.constructed b.constructed && (a.number == b.number)
