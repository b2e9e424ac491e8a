-- The octets of elements, as they are written from the end.
use Rattle.std.proofs.Common.{◌≡◌, ◌≤◌, ℕ, suc, ◌-◌, List, [], ◌∷◌, ◌++◌, length, refl, sym, ◌∙◌, ap, map, arith, append_assoc, append-nil, length-append}
use Rattle.std.proofs.lemmas.List.{map-append}
use Rattle.x690.specs.Identifier.{identifier}
use Rattle.x690.specs.Length.{length_octets}
use Rattle.x690.specs.Spelling.{definite, enc, enc_all}
use Rattle.x690.specs.Tree.{Tree, Primitive, Constructed, element}
use Rattle.machine.specs.Sent.{SentComponent}
use Rattle.machine.specs.Outcome.{below}
use Rattle.frames.specs.SentTrees.{component_portion, component_tree}
use Rattle.frames.specs.declared.tags.TheConstants.{COMPONENT_PORTION}
use Rattle.x690.proofs.Identifiers.{identifier-length}
use Rattle.x690.specs.declared.Tag.{Tag}
use Rattle.outgoing.specs.Spelled.{spelled}

pub spelled-append : (a b : List Tree) → spelled (a ++ b) ≡ spelled a ++ spelled b
spelled-append [] b = refl
spelled-append (t ∷ a) b = ap (λ x. enc t ++ x) (spelled-append a b) ∙ sym (append_assoc (enc t) (spelled a) (spelled b))

pub spelled-one : (t : Tree) → spelled (t ∷ []) ≡ enc t
spelled-one t = append-nil (enc t)

-- identifier and length before the contents are an element before what follows
headed : (tag : Tag) (contents behind : List ℕ)
    → identifier tag ++ (length_octets (length contents) ++ (contents ++ behind)) ≡ definite tag contents ++ behind
headed tag contents behind = sym
    (append_assoc (identifier tag) (length_octets (length contents) ++ contents) behind
    ∙ ap (λ x. identifier tag ++ x) (append_assoc (length_octets (length contents)) contents behind))

size_left : (a b : List ℕ) → length (a ++ b) - length b ≡ length a
size_left a b = omega (arith, length-append a b)

pub wrapped : (tag : Tag) (old all : List ℕ) (contents behind : List Tree) (last size : ℕ) → size ≡ length old - last
    → old ≡ spelled (contents ++ behind) → last ≡ length (spelled behind)
    → all ≡ identifier tag ++ (length_octets size ++ old) → all ≡ spelled (element tag contents ∷ behind)
wrapped tag old all contents behind last size left same behind_size e =
    e ∙ rw (left, behind_size, same, spelled-append contents behind, size_left (spelled contents) (spelled behind))
    (headed tag (spelled contents) (spelled behind))

-- contents that are known by another name
pub with_octets : (tag : Tag) (a b all : List ℕ) (behind : List Tree) → a ≡ b → all ≡ spelled (Primitive tag a ∷ behind)
    → all ≡ spelled (Primitive tag b ∷ behind)
with_octets tag a b all behind same e = e ∙ ap (λ x. spelled (Primitive tag x ∷ behind)) same

-- a length that was taken before
pub size_behind : (n : ℕ) (old : List ℕ) (behind : List Tree) → n ≡ length old → old ≡ spelled behind → n ≡ length (spelled behind)
size_behind n old behind size same = size ∙ ap length same

-- the last of the inserts after the first comes before what is after them
pub last_put : (insert : ℕ → SentComponent) (count place : ℕ) (behind : List Tree) → count ≡ suc place
    → map component_tree (map insert (below place)) ++ component_tree (insert place) ∷ behind
    ≡ map component_tree (map insert (below count)) ++ behind
last_put insert count place behind e = rw e (sym
    (ap (λ x. map component_tree x ++ behind) (map-append insert (below place) (place ∷ []))
    ∙ ap (λ x. x ++ behind) (map-append component_tree (map insert (below place)) (insert place ∷ []))
    ∙ append_assoc (map component_tree (map insert (below place))) (component_tree (insert place) ∷ []) behind))

-- ---- the component portion

definite-some : (tag : Tag) (contents : List ℕ) → 1 ≤ length (definite tag contents)
definite-some tag contents =
    omega (arith, identifier-length tag, length-append (identifier tag) (length_octets (length contents) ++ contents))

enc-some : (t : Tree) → 1 ≤ length (enc t)
enc-some (Primitive tag contents) = definite-some tag contents
enc-some (Constructed tag children) = definite-some tag (enc_all children)

pub no_portion : (all : List ℕ) (rejects own : List Tree) → all ≡ spelled (rejects ++ (own ++ [])) → length all ≡ 0
    → all ≡ spelled (component_portion (rejects ++ own))
no_portion all rejects own e none = of_all (rejects ++ own) (e ∙ ap (λ x. spelled (rejects ++ x)) (append-nil own))
  where
    of_all : (ts : List Tree) → all ≡ spelled ts → all ≡ spelled (component_portion ts)
    of_all [] same = same
    of_all (t ∷ ts) same = absurd (omega (arith, none, ap length same, enc-some t, length-append (enc t) (spelled ts)))

pub some_portion : (old all : List ℕ) (rejects own : List Tree) → old ≡ spelled (rejects ++ (own ++ [])) → (length old ≡ 0 → ⊥)
    → all ≡ enc (element COMPONENT_PORTION (rejects ++ (own ++ []))) → all ≡ spelled (component_portion (rejects ++ own))
some_portion old all rejects own same some e =
    of_all (rejects ++ own) (same ∙ ap (λ x. spelled (rejects ++ x)) (append-nil own))
    (e ∙ ap (λ x. enc (element COMPONENT_PORTION (rejects ++ x))) (append-nil own))
  where
    of_all : (ts : List Tree) → old ≡ spelled ts → all ≡ enc (element COMPONENT_PORTION ts) → all ≡ spelled (component_portion ts)
    of_all [] none is = absurd (some (ap length none))
    of_all (t ∷ ts) these is = is ∙ sym (spelled-one (element COMPONENT_PORTION (t ∷ ts)))
