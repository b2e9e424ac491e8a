-- What no image changes in a shard.
use Rattle.std.proofs.Common.{◌≡◌, ◌++◌, ◌∷◌, ℕ, List, [], inl, inr, refl, sym, ◌∙◌, subst, append_assoc}
use Rattle.std.specs.FinSet as set
use Rattle.machine.specs.State.{Invocation}
use Rattle.hlrcore.specs.Shards.{IsSameShard, ShardState}
use Rattle.image_lines.specs.Lines.{Line, Shard, Used, Freed, Opened, Waits, End}
use Rattle.images.specs.Reading.{Begins, Ends, HasIds, HasOpened, Whole, Image, IsWhole, OpensAt, Reading, Stage, Takes, TakesLine, TakesLines, reading, with_ids}
use Rattle.images.specs.Same.{AreSameShards}
use Rattle.images.specs.Texts.{IsImage}

-- ---- one shard

itself : (s : ShardState) → IsSameShard s s
itself s = record { shard = refl; directory = refl; hlr = refl }

more : (s t u : ShardState) → IsSameShard s t → IsSameShard t u → IsSameShard s u
more s t u p q = record { shard = q.shard ∙ p.shard; directory = q.directory ∙ p.directory; hlr = q.hlr ∙ p.hlr }

abbrev Keeps : ShardState → Reading → Type 0
Keeps s r = IsSameShard s r.state

is_read : (s : ShardState) (r a : Reading) → r ≡ a → Keeps s a → Keeps s r
is_read s r a e h = subst (Keeps s) (sym e) h

opened : (s : ShardState) (left : ℕ) (vs : List Invocation) (line : Line) (r : Reading) → OpensAt s left vs line r → Keeps s r
opened s left vs (Waits v) r p = is_read s r _ p.1 (itself s)
opened s left vs (Opened id mark d) r p = is_read s r _ p.3 (record { shard = refl; directory = refl; hlr = refl })
opened s left vs (Shard n clock first) r p = absurd p
opened s left vs (Used id) r p = absurd p
opened s left vs (Freed id) r p = absurd p
opened s left vs End r p = is_read s r _ p.2 (itself s)

taken : (s : ShardState) (stage : Stage) (line : Line) (r : Reading) → Takes (reading s stage) line r → Keeps s r
taken s Begins (Shard n clock first) r p = is_read s r _ p.1 (itself s)
taken s Begins (Used id) r p = absurd p
taken s Begins (Freed id) r p = absurd p
taken s Begins (Opened id mark d) r p = absurd p
taken s Begins (Waits v) r p = absurd p
taken s Begins End r p = absurd p
taken s (HasIds clock ids) (Shard n later first) r p = absurd p
taken s (HasIds clock ids) (Used id) r p = is_read s r _ p.2 (itself s)
taken s (HasIds clock ids) (Freed id) r p = is_read s r _ p.1 (itself s)
taken s (HasIds clock ids) (Opened id mark d) r p =
    more s (with_ids s clock ids) r.state (record { shard = refl; directory = refl; hlr = refl })
    (opened (with_ids s clock ids) (set.len ids.live) [] (Opened id mark d) r p)
taken s (HasIds clock ids) (Waits v) r p =
    more s (with_ids s clock ids) r.state (record { shard = refl; directory = refl; hlr = refl })
    (opened (with_ids s clock ids) (set.len ids.live) [] (Waits v) r p)
taken s (HasIds clock ids) End r p =
    more s (with_ids s clock ids) r.state (record { shard = refl; directory = refl; hlr = refl })
    (opened (with_ids s clock ids) (set.len ids.live) [] End r p)
taken s (HasOpened left vs) line r p = opened s left vs line r p
taken s Whole line r p = absurd p

ended : (s : ShardState) (stage : Stage) (t : ShardState) → Ends (reading s stage) t → IsSameShard s t
ended s Begins t p = absurd p
ended s (HasIds clock ids) t p = absurd p
ended s (HasOpened left vs) t p = absurd p
ended s Whole t p = subst (IsSameShard s) (sym p) (itself s)

-- ---- all shards

each_itself : (ss : List ShardState) → AreSameShards ss ss
each_itself [] = tt
each_itself (s ∷ ss) = (itself s, each_itself ss)

all_more : (xs ys zs : List ShardState) → AreSameShards xs ys → AreSameShards ys zs → AreSameShards xs zs
all_more [] [] zs p q = q
all_more [] (y ∷ ys) zs p q = absurd p
all_more (x ∷ xs) [] zs p q = absurd p
all_more (x ∷ xs) (y ∷ ys) [] p q = absurd q
all_more (x ∷ xs) (y ∷ ys) (z ∷ zs) p q = (more x y z p.0 q.0, all_more xs ys zs p.1 q.1)

in_front : (done xs ys : List ShardState) → AreSameShards xs ys → AreSameShards (done ++ xs) (done ++ ys)
in_front [] xs ys h = h
in_front (d ∷ done) xs ys h = (itself d, in_front done xs ys h)

-- The shards that are whole, the one that is read, and those that begin later.
abbrev all_of : Image → List ShardState
all_of im = im.done ++ im.now.state ∷ im.later

taken_line : (before : Image) (line : Line) (after : Image) → TakesLine before line after → AreSameShards (all_of before) (all_of after)
taken_line before line after (inl p) =
    let P : Image → Type 0 = λ z. AreSameShards (all_of before) (all_of z) in
    subst P (sym p.2) (in_front before.done _ _ (taken before.now.state before.now.stage line p.0 p.1, each_itself before.later))
taken_line before line after (inr (t, s, left, r, ends, later, takes, is)) =
    let P : Image → Type 0 = λ z. AreSameShards (all_of before) (all_of z) in
    let Q : List ShardState → Type 0 = λ z. AreSameShards (before.done ++ before.now.state ∷ z) (before.done ++ t ∷ r.state ∷ left) in
    let R : List ShardState → Type 0 = λ z. AreSameShards (all_of before) z in
    let both : Q (s ∷ left) =
    in_front before.done _ _ (ended before.now.state before.now.stage t ends, (taken s Begins line r takes, each_itself left)) in
    subst P (sym is) (subst R (sym (append_assoc before.done (t ∷ []) (r.state ∷ left))) (subst Q (sym later) both))

taken_lines : (lines : List Line) (before after : Image) → TakesLines before lines after → AreSameShards (all_of before) (all_of after)
taken_lines [] before after e = let P : Image → Type 0 = λ z. AreSameShards (all_of before) (all_of z) in subst P e (each_itself (all_of before))
taken_lines (line ∷ rest) before after t =
    all_more (all_of before) (all_of t.0) (all_of after) (taken_line before line t.0 t.1) (taken_lines rest t.0 after t.2)

whole : (im : Image) (shards : List ShardState) → IsWhole im shards → AreSameShards (all_of im) shards
whole im shards w =
    let P : List ShardState → Type 0 = λ z. AreSameShards (im.done ++ im.now.state ∷ z) shards in
    let Q : List ShardState → Type 0 = λ z. AreSameShards (im.done ++ im.now.state ∷ []) z in
    subst P (sym w.2) (subst Q (sym w.3) (in_front im.done _ _ (ended im.now.state im.now.stage w.0 w.1, tt)))

-- The shards that an image makes are the same shards.
pub image_same : (written : List ℕ) (begin shards : List ShardState) → IsImage written begin shards → AreSameShards begin shards
image_same written [] shards im = absurd im.starts
image_same written (s ∷ later) shards im =
    let P : Image → Type 0 = λ z. AreSameShards (all_of z) shards in
    subst P im.starts (all_more (all_of im.start) (all_of im.end) shards (taken_lines im.these im.start im.end im.takes) (whole im.end shards im.whole))
