-- Lines that a text goes on with, one after the other.
use Rattle.std.proofs.Common.{◌≡◌, ℕ, ℤ, ◌+◌, ◌<◌, ◌≤◌, Bool, List, [], ◌∷◌, ◌++◌, length, map, take, get_or, Option, Some, None, refl, sym, ap, ◌∙◌, subst, append_assoc, arith}
use Rattle.std.specs.Prelude.{option_map}
use Rattle.std.specs.FinMap as finite
use Rattle.std.specs.List.{AllByRecursion, flat_map, slice_get}
use Rattle.std.proofs.lemmas.Grind.{flat_map-append}
use Rattle.std.proofs.lemmas.List.{append-nil, length-take-le, map-append, take_more}
use Rattle.std.proofs.lemmas.Option.{get_or_from_slice_get, slice_get_within}
use Rattle.csl.specs.declared.was.Was.{Was}
use Rattle.csl.specs.Seen.{told_of, was, was_back}
use Rattle.machine.specs.State as machine
use Rattle.machine.specs.State.{Dialogue, Invocation}
use Rattle.records.specs.Maps.{RecordMap}
use Rattle.tidalloc.specs.LiveIds.{Supply, id_at}
use Rattle.tidalloc.specs.Resumed.{freed_ids, used_ids}
use Rattle.dialogues.specs.declared.dialogue.Dialogue as code
use Rattle.dialogues.specs.Dialogues.{OpenDialogues, dialogues_of, gone_on, invocations_in}
use Rattle.dialogues.specs.Seen.{dialogue_with}
use Rattle.image_lines.specs.Lines.{Freed, IsLine, Line, Opened, Used, Waits, line_text}
use Rattle.images.specs.Appended.{GoesOnWith, waits_line}
use Rattle.images.specs.Written.{is_current, lines_text, opened_lines}
use Rattle.images.proofs.OpenEntries.{next_found, next_opened}

pub all_then : {X : Type 0} (P : X → Type 0) (xs ys : List X) → AllByRecursion P xs → AllByRecursion P ys → AllByRecursion P (xs ++ ys)
all_then P [] ys all more = more
all_then P (x ∷ xs) ys all more = (all.0, all_then P xs ys all.1 more)

with_one : (line : Line) (old new : List ℕ) → new ≡ old ++ (line_text line ++ 10 ∷ []) → IsLine line → GoesOnWith (line ∷ []) old new
with_one line old new e is = record {
  text = e ∙ ap (λ (t : List ℕ). old ++ t) (sym (append-nil (line_text line ++ 10 ∷ [])));
  each = (is, tt);
}

with_then : (lines more : List Line) (old between new : List ℕ) → GoesOnWith lines old between → GoesOnWith more between new
    → GoesOnWith (lines ++ more) old new
with_then lines more old between new first second = record {
  text = second.text ∙ ap (λ (t : List ℕ). t ++ lines_text more) first.text ∙ append_assoc old (lines_text lines) (lines_text more)
      ∙ ap (λ (t : List ℕ). old ++ t) (sym (flat_map-append (λ line. line_text line ++ 10 ∷ []) lines more));
  each = all_then IsLine lines more first.each second.each;
}

-- one more line, of a list to which it is added
with_more : (lines all : List Line) (line : Line) (old between new : List ℕ) → GoesOnWith lines old between
    → new ≡ between ++ (line_text line ++ 10 ∷ []) → IsLine line → all ≡ lines ++ line ∷ [] → GoesOnWith all old new
with_more lines all line old between new so_far e is added =
    subst (λ (ls : List Line). GoesOnWith ls old new) (sym added) (with_then lines (line ∷ []) old between new so_far (with_one line between new e is))

-- ---- slots

map_some : {A B : Type 0} (f : A → B) (o : Option A) (y : B) → option_map f o ≡ Some y → (x : A) × (o ≡ Some x) × (f x ≡ y)
map_some f None y e = absurd cc
map_some f (Some x) y e = (x, refl, cc)

used_ids-push : (shard n : ℕ) (gs : List ℕ) (g : ℕ) → used_ids shard n (gs ++ g ∷ []) ≡ used_ids shard n gs ++ id_at shard (n + length gs) g ∷ []
used_ids-push shard n [] g = let e : n ≡ n + 0 = omega arith in ap (λ m. id_at shard m g ∷ []) e
used_ids-push shard n (x ∷ gs) g =
    let e : n + 1 + length gs ≡ n + length (x ∷ gs) = omega arith in
    ap (λ ids. id_at shard n x ∷ ids) (used_ids-push shard (n + 1) gs g)
    ∙ ap (λ m. id_at shard n x ∷ (used_ids shard (n + 1) gs ++ id_at shard m g ∷ [])) e

-- a slot that was used, after those before it
pub used_more : (shard slot : ℕ) (gs : List ℕ) (id old between new : List ℕ) → option_map (id_at shard slot) (slice_get gs slot) ≡ Some id
    → GoesOnWith (map (λ id. Used id) (used_ids shard 0 (take slot gs))) old between
    → new ≡ between ++ (line_text (Used id) ++ 10 ∷ []) → IsLine (Used id)
    → (slot + 1 ≤ length gs) × GoesOnWith (map (λ id. Used id) (used_ids shard 0 (take (slot + 1) gs))) old new
used_more shard slot gs id old between new there so_far e is =
    let found = map_some (id_at shard slot) (slice_get gs slot) id there in
    let g : ℕ = found.0 in
    let within : slot < length gs = slice_get_within gs slot g found.1 in
    let count : length (take slot gs) ≡ slot = length-take-le slot gs (omega (arith, within)) in
    let at : 0 + length (take slot gs) ≡ slot = omega (arith, count) in
    let longer : take (slot + 1) gs ≡ take slot gs ++ g ∷ [] =
    take_more gs slot 0 within ∙ ap (λ h. take slot gs ++ h ∷ []) (get_or_from_slice_get gs slot g 0 found.1) in
    let ids : used_ids shard 0 (take (slot + 1) gs) ≡ used_ids shard 0 (take slot gs) ++ id ∷ [] =
    ap (used_ids shard 0) longer ∙ used_ids-push shard 0 (take slot gs) g
    ∙ ap (λ n. used_ids shard 0 (take slot gs) ++ id_at shard n g ∷ []) at
    ∙ ap (λ (q : List ℕ). used_ids shard 0 (take slot gs) ++ q ∷ []) found.2 in (
      omega (arith, within),
      with_more (map (λ id. Used id) (used_ids shard 0 (take slot gs))) _ (Used id) old between new so_far e is
          (ap (map (λ id. Used id)) ids ∙ map-append (λ id. Used id) (used_ids shard 0 (take slot gs)) (id ∷ [])),
    )

-- the free ones, as many as were passed
abbrev pub passed : ℕ → Supply → Supply
passed i supply = record supply { free = take i supply.free }

-- a slot that is free, after those that were freed before it
pub freed_more : (shard : ℕ) (supply : Supply) (i slot : ℕ) (items id old between new : List ℕ) → items ≡ supply.free → i < length items
    → slot ≡ get_or items i 0 → option_map (id_at shard slot) (slice_get supply.generations slot) ≡ Some id
    → GoesOnWith (map (λ id. Freed id) (freed_ids shard (passed i supply))) old between
    → new ≡ between ++ (line_text (Freed id) ++ 10 ∷ []) → IsLine (Freed id)
    → GoesOnWith (map (λ id. Freed id) (freed_ids shard (passed (i + 1) supply))) old new
freed_more shard supply i slot items id old between new same lt at there so_far e is =
    let found = map_some (id_at shard slot) (slice_get supply.generations slot) id there in
    let id_of : ℕ → List ℕ = λ n. id_at shard n (get_or supply.generations n 0) in
    let within : i < length supply.free = subst (λ (ns : List ℕ). i < length ns) same lt in
    let here : slot ≡ get_or supply.free i 0 = at ∙ ap (λ (ns : List ℕ). get_or ns i 0) same in
    let own : id_of (get_or supply.free i 0) ≡ id =
    ap id_of (sym here) ∙ ap (id_at shard slot) (get_or_from_slice_get supply.generations slot found.0 0 found.1) ∙ found.2 in
    let ids : freed_ids shard (passed (i + 1) supply) ≡ freed_ids shard (passed i supply) ++ id ∷ [] =
    ap (map id_of) (take_more supply.free i 0 within) ∙ map-append id_of (take i supply.free) (get_or supply.free i 0 ∷ [])
    ∙ ap (λ (q : List ℕ). freed_ids shard (passed i supply) ++ q ∷ []) own in
    with_more (map (λ id. Freed id) (freed_ids shard (passed i supply))) _ (Freed id) old between new so_far e is
    (ap (map (λ id. Freed id)) ids ∙ map-append (λ id. Freed id) (freed_ids shard (passed i supply)) (id ∷ []))

-- ---- open dialogues

waits_again : (vs : List Invocation) → map waits_line (map told_of vs) ≡ map (λ v. Waits v) vs
waits_again [] = refl
waits_again (v ∷ vs) = λ i. Waits (one v i) ∷ waits_again vs i
  where
    was_again : (w : machine.Was) → was (was_back w) ≡ w
    was_again machine.OperationSent = refl
    was_again machine.WaitForReject = refl

    one : (v : Invocation) → record { id = v.id; was = was (was_back v.was); deadline = v.deadline } ≡ v
    one v = λ i. record { id = v.id; was = was_again v.was i; deadline = v.deadline }

some_same : {A : Type 0} (x y : A) → Some x ≡ Some y → x ≡ y
some_same x y e = cc

-- an open dialogue with its invocations
pub opened_after : (records : RecordMap) (id : List ℕ) (o : Option Dialogue) (r : Option code.Dialogue) (found : code.Dialogue)
    (told : List (ℤ × Was × ℕ)) (mark : Bool) (old new : List ℕ)
    → option_map (dialogue_with (invocations_in o)) r ≡ o → r ≡ Some found → told ≡ map told_of (invocations_in o)
    → mark ≡ is_current id (finite.get records found.subscriber)
    → GoesOnWith (map waits_line told ++ Opened id mark (dialogue_with [] found) ∷ []) old new
    → (d : Dialogue) → o ≡ Some d → GoesOnWith (opened_lines records (id, d)) old new
opened_after records id o r found told mark old new there is_found told_is marked written d stands =
    let vs : List Invocation = invocations_in o in
    let own : vs ≡ d.invocations = ap invocations_in stands in
    let whole : dialogue_with vs found ≡ d =
    some_same (dialogue_with vs found) d (ap (option_map (dialogue_with vs)) (sym is_found) ∙ there ∙ stands) in
    let waits : map waits_line told ≡ map (λ v. Waits v) d.invocations =
    ap (map waits_line) told_is ∙ waits_again vs ∙ ap (map (λ v. Waits v)) own in
    let line : Opened id mark (dialogue_with [] found) ≡ Opened id (is_current id (finite.get records d.subscriber)) (gone_on [] d) =
    ap (λ b. Opened id b (dialogue_with [] found)) marked
    ∙ ap (λ (x : Dialogue). Opened id (is_current id (finite.get records x.subscriber)) (gone_on [] x)) whole in
    subst (λ (ls : List Line). GoesOnWith ls old new)
    (ap (λ (ls : List Line). ls ++ Opened id mark (dialogue_with [] found) ∷ []) waits
    ∙ ap (λ (l : Line). map (λ v. Waits v) d.invocations ++ l ∷ []) line) written

flat_map-push : {X Y : Type 0} (f : X → List Y) (xs : List X) (x : X) → flat_map f (xs ++ x ∷ []) ≡ flat_map f xs ++ f x
flat_map-push f xs x = flat_map-append f xs (x ∷ []) ∙ ap (λ (t : List _). flat_map f xs ++ t) (append-nil (f x))

-- the next open dialogue, after those before it
pub opened_more : (records : RecordMap) (d : OpenDialogues) (i : ℕ) (id old between new : List ℕ)
    → i < length (finite.keys d.open_ones) → id ≡ get_or (finite.keys d.open_ones) i id
    → GoesOnWith (flat_map (opened_lines records) (take i (finite.entries d.open_ones))) old between
    → ((x : Dialogue) → dialogues_of d id ≡ Some x → GoesOnWith (opened_lines records (id, x)) between new)
    → GoesOnWith (flat_map (opened_lines records) (take (i + 1) (finite.entries d.open_ones))) old new
opened_more records d i id old between new lt is so_far one =
    let next = next_found d i id lt is in
    let lines : flat_map (opened_lines records) (take (i + 1) (finite.entries d.open_ones))
    ≡ flat_map (opened_lines records) (take i (finite.entries d.open_ones)) ++ opened_lines records (id, next.0) =
    ap (flat_map (opened_lines records)) (next_opened d i id lt is next.0 (sym next.1))
    ∙ flat_map-push (opened_lines records) (take i (finite.entries d.open_ones)) (id, next.0) in
    subst (λ (ls : List Line). GoesOnWith ls old new) (sym lines)
    (with_then (flat_map (opened_lines records) (take i (finite.entries d.open_ones))) (opened_lines records (id, next.0)) old between new
    so_far (one next.0 next.1))
