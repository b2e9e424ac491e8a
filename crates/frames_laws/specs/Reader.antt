-- Reading octets, as a computation: the tree that they spell (X.690, 8.1), and the verdict on them. That it reads what is spelled,
-- and nothing else, is a law (Laws, TreesAreRead and VerdictsAreRead).
use Rattle.std.specs.Prelude.{ℕ, zero, suc, ◌+◌, ◌-◌, ◌*◌, ◌/◌, ◌%◌, ◌^◌, Bool, true, ◌&&◌, if◌then◌else◌, nat_eq, nat_lt, nat_le, List, [], ◌∷◌, length, take, drop, Option, Some, None, option_map, option_and_then}
use Rattle.x690.specs.declared.Class.{Class}
use Rattle.x690.specs.declared.Class.TheVariants.{Universal, Application, ContextSpecific, Private}
use Rattle.x690.specs.declared.Tag.{Tag}
use Rattle.x690.specs.declared.limits.TheConstants.{MAX_OCTETS, MAX_LEVELS}
use Rattle.x690.specs.Identifier.{leading, identifier}
use Rattle.x690.specs.Length.{unsigned}
use Rattle.x690.specs.Tree.{Tree, Trees, Primitive, Constructed, Empty, More, levels}
use Rattle.machine.specs.Received.{Verdict, Discard}
use Rattle.frames.specs.Choices.{◌>>=◌, when}
use Rattle.frames.specs.Verdicts.{verdict_of}

-- ---- octets

-- what follows these octets, if the others begin with them
abbrev pub after : List ℕ → List ℕ → Option (List ℕ)
after [] octets = Some octets
after (first ∷ front) [] = None
after (first ∷ front) (octet ∷ octets) = if nat_eq first octet then after front octets else None

-- this many octets, and those that follow
abbrev pub parted : ℕ → List ℕ → Option (List ℕ × List ℕ)
parted count octets = when (nat_le count (length octets)) (take count octets, drop count octets)

-- ---- identifier octets

-- the class of a leading octet, by bits 8 and 7 (8.1.2.2)
abbrev pub class_in : ℕ → Class
class_in octet = if nat_lt octet 64 then Universal else if nat_lt octet 128 then Application else if nat_lt octet 192 then ContextSpecific else Private

-- the number in groups of seven bits, of which the last has no bit 8 (8.1.2.4.2); the first argument is that of the groups before
abbrev pub number_in : ℕ → List ℕ → ℕ
number_in before [] = before
number_in before (octet ∷ octets) = if nat_lt octet 128 then 128 * before + octet else number_in (128 * before + (octet - 128)) octets

-- the only tag that these, a leading octet and those after it, can be the identifier octets of
abbrev pub tag_in : ℕ → List ℕ → Tag
tag_in octet octets = record {
  class = class_in octet;
  constructed = nat_eq (octet / 32 % 2) 1;
  number = if nat_eq (octet % 32) 31 then number_in 0 octets else octet % 32;
}

-- this tag and what follows, if these are its identifier octets and an element can have it (IsTag)
abbrev pub identified : Tag → List ℕ → Option (Tag × List ℕ)
identified tag octets = do
  rest ← after (identifier tag) octets
  when (nat_lt tag.number (2 ^ 28) && nat_lt 0 (leading tag tag.number)) (tag, rest)

abbrev pub read_tag : List ℕ → Option (Tag × List ℕ)
read_tag [] = None
read_tag (octet ∷ octets) = identified (tag_in octet octets) (octet ∷ octets)

-- ---- length octets and contents

-- the octets that announce one to four octets of length
abbrev pub is_long : ℕ → Bool
is_long first = nat_le 129 first && nat_le first 132

-- a length in as many octets as this one announces (8.1.3.5), and what follows
abbrev pub read_long_length : ℕ → List ℕ → Option (ℕ × List ℕ)
read_long_length first octets = do
  size ← parted (first - 128) octets
  when (is_long first) (unsigned size.0, size.1)

-- a length, in the short form (8.1.3.4) or the long one, and what follows
abbrev pub read_length : List ℕ → Option (ℕ × List ℕ)
read_length [] = None
read_length (first ∷ octets) = if nat_lt first 128 then Some (first, octets) else read_long_length first octets

-- contents in the definite form, and what follows (8.1.3.3)
abbrev pub read_contents : List ℕ → Option (List ℕ × List ℕ)
read_contents octets = do
  size ← read_length octets
  parted size.0 size.1

-- ---- elements

-- where no element begins: at the end of the octets, or at the octet 00 of the end-of-contents octets (8.1.5)
abbrev pub at_end : List ℕ → Bool
at_end [] = true
at_end (octet ∷ octets) = nat_eq octet 0

-- a value after which nothing follows
abbrev pub whole : {A : Type 0} → A × List ℕ → Option A
whole (a, []) = Some a
whole (a, octet ∷ octets) = None

-- a primitive element with this tag, of which these are the octets after the tag
abbrev pub read_primitive : Tag → List ℕ → Option (Tree × List ℕ)
read_primitive tag octets = option_map (λ contents. (Primitive tag contents.0, contents.1)) (read_contents octets)

-- a constructed element likewise, its children read in this way; in the indefinite form the octets begin with 80, and the third
-- argument is what follows it (8.1.3.6)
abbrev pub read_constructed : (List ℕ → Option (Trees × List ℕ)) → Tag → Option (List ℕ) → List ℕ → Option (Tree × List ℕ)
read_constructed read tag (Some octets) all = do
  children ← read octets
  rest ← after (0 ∷ 0 ∷ []) children.1
  Some (Constructed tag children.0, rest)
read_constructed read tag None all = do
  contents ← read_contents all
  children ← option_and_then whole (read contents.0)
  Some (Constructed tag children, contents.1)

-- The first argument is a limit of steps: as many as there are octets are enough.
abbrev mutual
  -- the tree that is spelled first, and what follows
  pub read_element : ℕ → List ℕ → Option (Tree × List ℕ)
  read_element zero octets = None
  read_element (suc steps) octets = do
    tag ← read_tag octets
    if tag.0.constructed then read_constructed (read_elements steps) tag.0 (after (128 ∷ []) tag.1) tag.1 else read_primitive tag.0 tag.1

  -- the trees that are spelled one after the other, up to where no element begins
  pub read_elements : ℕ → List ℕ → Option (Trees × List ℕ)
  read_elements zero octets = None
  read_elements (suc steps) octets = if at_end octets then Some (Empty, octets) else do
    tree ← read_element steps octets
    trees ← read_elements steps tree.1
    Some (More tree.0 trees.0, trees.1)

-- the tree that these octets spell, all of them
unfoldable pub read_tree : List ℕ → Option Tree
read_tree octets = option_and_then whole (read_element (length octets) octets)

-- ---- frames

abbrev pub are_octets : List ℕ → Bool
are_octets [] = true
are_octets (n ∷ ns) = nat_lt n 256 && are_octets ns

-- the tree of a frame: it has no more octets and levels than are read
abbrev pub read_frame : List ℕ → Option Tree
read_frame octets = do
  tree ← if are_octets octets && nat_le (length octets) MAX_OCTETS then read_tree octets else None
  when (nat_le (levels tree) MAX_LEVELS) tree

-- the verdict on a frame, if there is one, and otherwise that on octets which are none
abbrev pub verdict_or_discard : Option Tree → Verdict
verdict_or_discard None = Discard
verdict_or_discard (Some tree) = verdict_of tree

abbrev pub read_verdict : List ℕ → Verdict
read_verdict octets = verdict_or_discard (read_frame octets)
