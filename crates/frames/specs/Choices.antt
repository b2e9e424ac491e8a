-- What the readings are made of.
use Rattle.std.specs.Prelude.{List, Option, Some, None, Bool, true, false, option_and_then}
use Rattle.x690.specs.Tree.{Tree}

-- the next step of a reading, if the last one returned a value
infixl 10 ◌>>=◌
abbrev pub ◌>>=◌ : {A B : Type 0} → Option A → (A → Option B) → Option B
o >>= f = option_and_then f o

abbrev pub or : {A : Type 0} → Option A → Option A → Option A
or None other = other
or (Some a) other = Some a

abbrev pub when : {A : Type 0} → Bool → A → Option A
when true a = Some a
when false a = None

-- what the children under a tag read to, otherwise this
abbrev pub if_under : {A : Type 0} → Option (List Tree) → (List Tree → A) → A → A
if_under None read other = other
if_under (Some ts) read other = read ts
