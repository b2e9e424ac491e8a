-- The image of a register is read as that register, and as no other.
use Rattle.std.proofs.Common.{◌≡◌, ◌++◌, ◌∷◌, inl, inr, ℕ, List, [], refl, sym, ap, ◌∙◌, subst, append_assoc}
use Rattle.std.specs.List.{flat_map}
use Rattle.machine.specs.State.{Invocation}
use Rattle.hlrcore.specs.Shards.{ShardState}
use Rattle.image_lines.specs.Lines.{Line, Shard, Used, Freed, Opened, Waits, End}
use Rattle.images.specs.Reading.{Begins, Ends, HasIds, HasOpened, Whole, Image, IsWhole, OpensAt, Reading, Stage, Takes, TakesLine, TakesLines, reading}
use Rattle.images.specs.Written.{shard_lines}
use Rattle.images.specs.Again.{TakesAll, TakesTo}

-- ---- a line makes one thing of what was read

same_opened : (s : ShardState) (left : ℕ) (vs : List Invocation) (line : Line) (a b : Reading) → OpensAt s left vs line a → OpensAt s left vs line b → a ≡ b
same_opened s left vs (Waits v) a b p q = p.1 ∙ sym q.1
same_opened s left vs (Opened id mark d) a b p q = p.3 ∙ sym q.3
same_opened s left vs (Shard n clock first) a b p q = absurd p
same_opened s left vs (Used id) a b p q = absurd p
same_opened s left vs (Freed id) a b p q = absurd p
same_opened s left vs End a b p q = p.2 ∙ sym q.2

same_taken : (s : ShardState) (stage : Stage) (line : Line) (a b : Reading) → Takes (reading s stage) line a → Takes (reading s stage) line b → a ≡ b
same_taken s Begins (Shard n clock first) a b p q = p.1 ∙ sym q.1
same_taken s Begins (Used id) a b p q = absurd p
same_taken s Begins (Freed id) a b p q = absurd p
same_taken s Begins (Opened id mark d) a b p q = absurd p
same_taken s Begins (Waits v) a b p q = absurd p
same_taken s Begins End a b p q = absurd p
same_taken s (HasIds clock ids) (Shard n later first) a b p q = absurd p
same_taken s (HasIds clock ids) (Used id) a b p q = p.2 ∙ sym q.2
same_taken s (HasIds clock ids) (Freed id) a b p q = p.1 ∙ sym q.1
same_taken s (HasIds clock ids) (Opened id mark d) a b p q = same_opened _ _ [] (Opened id mark d) a b p q
same_taken s (HasIds clock ids) (Waits v) a b p q = same_opened _ _ [] (Waits v) a b p q
same_taken s (HasIds clock ids) End a b p q = same_opened _ _ [] End a b p q
same_taken s (HasOpened left vs) line a b p q = same_opened s left vs line a b p q
same_taken s Whole line a b p q = absurd p

same_end : (s : ShardState) (stage : Stage) (a b : ShardState) → Ends (reading s stage) a → Ends (reading s stage) b → a ≡ b
same_end s Begins a b p q = absurd p
same_end s (HasIds clock ids) a b p q = absurd p
same_end s (HasOpened left vs) a b p q = absurd p
same_end s Whole a b p q = p ∙ sym q

-- a whole shard takes no line
not_both : (s t : ShardState) (stage : Stage) (line : Line) (a : Reading) → Takes (reading s stage) line a → Ends (reading s stage) t → ⊥
not_both s t Begins line a p e = e
not_both s t (HasIds clock ids) line a p e = e
not_both s t (HasOpened left vs) line a p e = e
not_both s t Whole line a p e = p

abbrev head_or : {X : Type 0} → X → List X → X
head_or x [] = x
head_or x (y ∷ ys) = y

abbrev tail_of : {X : Type 0} → List X → List X
tail_of [] = []
tail_of (x ∷ xs) = xs

same_tail : {X : Type 0} (x y : X) (xs ys : List X) → x ∷ xs ≡ y ∷ ys → (x ≡ y) × (xs ≡ ys)
same_tail x y xs ys e = (ap (head_or x) e, ap tail_of e)

same_line : (before : Image) (line : Line) (a b : Image) → TakesLine before line a → TakesLine before line b → a ≡ b
same_line before line a b (inl p) (inl q) =
    p.2 ∙ ap (λ r. record before { now = r }) (same_taken before.now.state before.now.stage line p.0 q.0 p.1 q.1) ∙ sym q.2
same_line before line a b (inl p) (inr q) = absurd (not_both before.now.state q.0 before.now.stage line p.0 p.1 q.4)
same_line before line a b (inr p) (inl q) = absurd (not_both before.now.state p.0 before.now.stage line q.0 q.1 p.4)
same_line before line a b (inr (t, s, more, r, ends, later, takes, is)) (inr (u, o, rest, z, ends', later', takes', is')) =
    let next = same_tail s o more rest (sym later ∙ later') in
    let done : t ≡ u = same_end before.now.state before.now.stage t u ends ends' in
    let P : ShardState → Type 0 = λ x. Takes (reading x Begins) line z in
    let read : r ≡ z = same_taken s Begins line r z takes (subst P (sym next.0) takes') in
    is ∙ (λ i. record { done = before.done ++ done i ∷ []; now = read i; later = next.1 i }) ∙ sym is'

pub same_lines : (lines : List Line) (before a b : Image) → TakesLines before lines a → TakesLines before lines b → a ≡ b
same_lines [] before a b p q = sym p ∙ q
same_lines (line ∷ more) before a b p q =
    let one : p.0 ≡ q.0 = same_line before line p.0 q.0 p.1 q.1 in
    let P : Image → Type 0 = λ z. TakesLines z more b in
    same_lines more p.0 a b p.2 (subst P (sym one) q.2)

pub same_whole : (before : Image) (xs ys : List ShardState) → IsWhole before xs → IsWhole before ys → xs ≡ ys
same_whole before xs ys p q =
    p.3 ∙ ap (λ t. before.done ++ t ∷ []) (same_end before.now.state before.now.stage p.0 q.0 p.1 q.1) ∙ sym q.3

-- ---- the lines of one shard, then those of the next

abbrev image : List ShardState → Reading → List ShardState → Image
image done now later = record { done = done; now = now; later = later }

goes_on : (done later : List ShardState) (lines : List Line) (a b : Reading) → TakesAll a lines b → TakesLines (image done a later) lines (image done b later)
goes_on done later [] a b e = ap (λ r. image done r later) e
goes_on done later (line ∷ more) a b h = (image done h.0 later, inl (h.0, h.1, refl), goes_on done later more h.0 b h.2)

pub lines_more : (these more : List Line) (a b c : Image) → TakesLines a these b → TakesLines b more c → TakesLines a (these ++ more) c
lines_more [] more a b c e t = let P : Image → Type 0 = λ z. TakesLines z more c in subst P (sym e) t
lines_more (line ∷ these) more a b c h t = (h.0, h.1, lines_more these more h.0 b c h.2 t)

-- Each shard's lines are read, from a shard that begins, as that shard.
abbrev pub AreRead : List ShardState → List ShardState → Type 0
AreRead [] [] = Unit {0}
AreRead (s ∷ ss) (o ∷ os) = TakesTo (reading o Begins) (shard_lines s) s × AreRead ss os
AreRead [] (o ∷ os) = ⊥
AreRead (s ∷ ss) [] = ⊥

abbrev IsReadAs : Image → List Line → List ShardState → Type 0
IsReadAs before lines shards = (after : Image) × TakesLines before lines after × IsWhole after shards

read_next : (ss os done : List ShardState) (r : Reading) (t : ShardState) → AreRead ss os → Ends r t
    → IsReadAs (image done r os) (flat_map shard_lines ss) (done ++ t ∷ ss)
read_next [] [] done r t h e = (image done r [], refl, (t, e, refl, refl))
read_next (s ∷ ss) (o ∷ os) done r t h e =
    let first = h.0.1.0 in
    let begins : Image = image (done ++ t ∷ []) first os in
    let rest = read_next ss os (done ++ t ∷ []) h.0.0 s h.1 h.0.2 in (
      rest.0,
      (
        begins,
        inr (t, o, os, first, e, refl, h.0.1.1, refl),
        lines_more _ (flat_map shard_lines ss) begins (image (done ++ t ∷ []) h.0.0 os) rest.0
            (goes_on (done ++ t ∷ []) os _ first h.0.0 h.0.1.2) rest.1,
      ),
      let P : List ShardState → Type 0 = λ z. IsWhole rest.0 z in subst P (append_assoc done (t ∷ []) (s ∷ ss)) rest.2,
    )
read_next [] (o ∷ os) done r t h e = absurd h
read_next (s ∷ ss) [] done r t h e = absurd h

-- All lines of an image are read.
pub read_all : (s o : ShardState) (ss os : List ShardState) → AreRead (s ∷ ss) (o ∷ os)
    → IsReadAs (image [] (reading o Begins) os) (flat_map shard_lines (s ∷ ss)) (s ∷ ss)
read_all s o ss os h =
    let rest = read_next ss os [] h.0.0 s h.1 h.0.2 in (
      rest.0,
      lines_more (shard_lines s) (flat_map shard_lines ss) (image [] (reading o Begins) os) (image [] h.0.0 os) rest.0
          (goes_on [] os (shard_lines s) (reading o Begins) h.0.0 h.0.1) rest.1,
      rest.2,
    )
