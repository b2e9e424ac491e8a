-- The octets of elements, one after the other (X.690, 8.1).
use Rattle.std.specs.Prelude.{ℕ, List}
use Rattle.x690.specs.Spelling.{enc_all}
use Rattle.x690.specs.Tree.{Tree, trees}

abbrev pub spelled : List Tree → List ℕ
spelled elements = enc_all (trees elements)
