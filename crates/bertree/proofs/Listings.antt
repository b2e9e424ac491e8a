-- Entries that list whole elements list just these, and more of them stand after them.
use Rattle.std.proofs.Common.{◌≡◌, ℕ, List, [], ◌∷◌, ◌++◌, length, drop, set, refl, sym, ◌∙◌, ap, append_assoc, append-nil}
use Rattle.std.proofs.Math.Seq.{drop-append_seam, take-append_seam, set-append_seam}
use Rattle.x690.specs.Tree.{Tree, Trees, Primitive, Constructed, Empty, More, trees, list_of}
use Rattle.x690.proofs.Forests.{trees-list_of, list_of-trees}
use Rattle.bertree.specs.Listed.{IsListed, AreListed}
use Rattle.bertree.specs.Nodes.{listed}
use Rattle.bertree.specs.declared.nodes.Entry.{Entry}
use Rattle.bertree.proofs.Trees.{listed-none, listed-Primitive, listed-Constructed}

mutual
  one-listed : (t : Tree) (front back : List Entry) → IsListed t front → listed (front ++ back) ≡ t ∷ listed back
  one-listed (Primitive tag contents) front back (octets, same, is) =
      ap (λ es. listed (es ++ back)) is ∙ listed-Primitive tag octets back ∙ ap (λ os. Primitive tag os ∷ listed back) same
  one-listed (Constructed tag children) front back (inside, are, is) =
      let first = ap listed (take-append_seam inside back) ∙ all-listed children inside are in
      let rest = ap listed (drop-append_seam inside back) in
      let whole = ap (λ ts. Constructed tag ts) (ap trees first ∙ trees-list_of children) in
      ap (λ es. listed (es ++ back)) is ∙ listed-Constructed tag (length inside) (inside ++ back)
      ∙ ap (λ t. t ∷ listed (drop (length inside) (inside ++ back))) whole ∙ ap (λ ts. Constructed tag children ∷ ts) rest

  all-listed : (ts : Trees) (entries : List Entry) → AreListed ts entries → listed entries ≡ list_of ts
  all-listed Empty entries is = ap listed is ∙ listed-none
  all-listed (More t ts) entries (front, back, one, rest, is) =
      ap listed is ∙ one-listed t front back one ∙ ap (λ us. t ∷ us) (all-listed ts back rest)

-- the elements that the entries list
pub are-listed : (ts : List Tree) (entries : List Entry) → AreListed (trees ts) entries → listed entries ≡ ts
are-listed ts entries are = all-listed (trees ts) entries are ∙ list_of-trees ts

-- one more element after them
pub listed-push : (ts : List Tree) (t : Tree) (entries front : List Entry) → AreListed (trees ts) entries → IsListed t front
    → AreListed (trees (ts ++ t ∷ [])) (entries ++ front)
listed-push [] t entries front are one = (front, [], one, refl, ap (λ es. es ++ front) are ∙ sym (append-nil front))
listed-push (u ∷ us) t entries front (first, rest, is_first, are_rest, is) one =
    (first, rest ++ front, is_first, listed-push us t rest front are_rest one, ap (λ es. es ++ front) is ∙ append_assoc first rest front)

-- the entry of an element that ends is told how many are in it
pub marked : (there inside entries : List Entry) (mark now : Entry) (place : ℕ) → entries ≡ there ++ mark ∷ inside → place ≡ length there
    → set entries place now ≡ there ++ now ∷ inside
marked there inside entries mark now place is at =
    ap (λ es. set es place now) is ∙ ap (λ n. set (there ++ mark ∷ inside) n now) at ∙ set-append_seam there mark inside now
