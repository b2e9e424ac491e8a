-- The entries of a journal with their places, and one more.
use Rattle.std.proofs.Common.{◌≡◌, ℕ, ◌+◌, ◌<◌, List, [], ◌∷◌, ◌++◌, length, map, take, get_or, sym, ap, ◌∙◌, append_assoc, arith}
use Rattle.std.proofs.lemmas.List.{length-map, length-take-le, map-append, take_more}
use Rattle.frames.specs.Octets.{RawEntry}
use Rattle.shardlog.specs.declared.entry.Entry.{Entry}
use Rattle.shardlog.specs.Entries.{raw_entries, raw_entry}
use Rattle.audit.specs.Listing.{Placed, placed_from}

placed_from-push : (shard position : ℕ) (es : List RawEntry) (e : RawEntry)
    → placed_from shard position (es ++ e ∷ []) ≡ placed_from shard position es ++ record
    { shard = shard; position = position + length es; entry = e } ∷ []
placed_from-push shard position [] e =
    let at : position ≡ position + 0 = omega arith in
    ap (λ (n : ℕ). record { shard = shard; position = n; entry = e } ∷ []) at
placed_from-push shard position (f ∷ es) e =
    let at : (position + 1) + length es ≡ position + length (f ∷ es) = omega arith in
    let here : Placed = record { shard = shard; position = position; entry = f } in
    ap (λ (t : List Placed). here ∷ t) (placed_from-push shard (position + 1) es e)
    ∙ ap (λ (n : ℕ). here ∷ (placed_from shard (position + 1) es ++ record { shard = shard; position = n; entry = e } ∷ [])) at

pub placed_more : (shard : ℕ) (entries : List Entry) (i : ℕ) (e : Entry) → i < length entries → e ≡ get_or entries i e
    → placed_from shard 0 (raw_entries (take (i + 1) entries)) ≡ placed_from shard 0
    (raw_entries (take i entries)) ++ record { shard = shard; position = i; entry = raw_entry e } ∷ []
placed_more shard entries i e lt is =
    let pushed : raw_entries (take (i + 1) entries) ≡ raw_entries (take i entries) ++ raw_entry e ∷ [] =
    ap (map raw_entry) (take_more entries i e lt ∙ ap (λ (x : Entry). take i entries ++ x ∷ []) (sym is))
    ∙ map-append raw_entry (take i entries) (e ∷ []) in
    let count : length (raw_entries (take i entries)) ≡ i = omega
    (arith, length-map (take i entries) raw_entry, length-take-le i entries (omega (arith, lt))) in
    let from_zero : 0 + length (raw_entries (take i entries)) ≡ i = omega (arith, count) in
    ap (placed_from shard 0) pushed ∙ placed_from-push shard 0 (raw_entries (take i entries)) (raw_entry e)
    ∙ ap (λ (n : ℕ). placed_from shard 0 (raw_entries (take i entries)) ++ record { shard = shard; position = n; entry = raw_entry e } ∷ [])
    from_zero

pub pushed_entry : (shard : ℕ) (entries : List Entry) (i position : ℕ) (e : Entry) (old before after : List Placed) → position ≡ i
    → i < length entries → e ≡ get_or entries i e
    → before ≡ old ++ placed_from shard 0 (raw_entries (take i entries))
    → after ≡ before ++ record { shard = shard; position = position; entry = raw_entry e } ∷ []
    → after ≡ old ++ placed_from shard 0 (raw_entries (take (i + 1) entries))
pushed_entry shard entries i position e old before after at lt is so_far pushed =
    let one : List Placed = record { shard = shard; position = i; entry = raw_entry e } ∷ [] in
    pushed ∙ ap (λ (n : ℕ). before ++ record { shard = shard; position = n; entry = raw_entry e } ∷ []) at
    ∙ ap (λ (t : List Placed). t ++ one) so_far
    ∙ append_assoc old (placed_from shard 0 (raw_entries (take i entries))) one
    ∙ ap (λ (t : List Placed). old ++ t) (sym (placed_more shard entries i e lt is))
