-- The keys of the open transactions are the live ids in ascending order.
use Rattle.std.proofs.Common.{◌≡◌, ℕ, ◌&&◌, List, [], ◌∷◌, refl, sym, ap, ◌∙◌, subst, T, map}
use Rattle.std.specs.Ordering.{is_lt}
use Rattle.std.specs.FinMap as finite
use Rattle.std.specs.FinMap.Entries.{below_all}
use Rattle.slab.specs.Slab.{Slab}
use Rattle.hlr_types.specs.Orders.{octets_cmp}
use Rattle.machine.specs.State.{Transaction}
use Rattle.tidalloc.proofs.ListingLemmas.{paired, rising-same}
use Rattle.tidalloc.specs.LiveIds.{LiveIds}
use Rattle.tidalloc.specs.Resumed.{ascending}
use Rattle.tsl.specs.declared.transactions.Entry.{Entry}
use Rattle.tsl.specs.Table.{open_of, AreEntries}
use Rattle.tsl.proofs.ViewLemmas.{is_some-at}

abbrev keys_in : List (List ℕ × Transaction) → List (List ℕ)
keys_in es = map (λ (e : List ℕ × Transaction). e.0) es

below_keys : (x : List ℕ) (es : List (List ℕ × Transaction)) → below_all octets_cmp x (paired (keys_in es)) ≡ below_all octets_cmp x es
below_keys x [] = refl
below_keys x (e ∷ es) = ap (λ b. is_lt (octets_cmp x e.0) && b) (below_keys x es)

sorted_keys : (es : List (List ℕ × Transaction)) → finite.is_sorted octets_cmp (paired (keys_in es)) ≡ finite.is_sorted octets_cmp es
sorted_keys [] = refl
sorted_keys (e ∷ es) = λ i. below_keys e.0 es i && sorted_keys es i

pub keys-ascending : (ids : LiveIds) (keys : List ℕ) (slab : Slab Entry) (room : ℕ) → AreEntries ids keys slab room
    → finite.keys (open_of ids keys slab room).open_ones ≡ ascending ids.live
keys-ascending ids keys slab room a =
    let open_ones = (open_of ids keys slab room).open_ones in
    rising-same (finite.keys open_ones) ids.live
    (subst T (sym (sorted_keys (finite.entries open_ones))) (finite.entries_sorted open_ones))
    (λ q. sym (finite.contains_key-keys open_ones q) ∙ is_some-at ids keys slab room a q)
