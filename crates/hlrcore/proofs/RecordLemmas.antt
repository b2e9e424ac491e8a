-- The record of a subscriber that is written, as the machine has it.
use Rattle.std.proofs.Common.{◌≡◌, ℕ, List, [], Bool, true, false, Option, Some, None, cond, refl, sym, ap, ◌∙◌, subst}
use Rattle.std.specs.Prelude.{IsSome, is_some, option_map}
use Rattle.std.specs.FinMap as finite
use Rattle.hlr_types.proofs.OrderLemmas.{eq_octets, ne_octets}
use Rattle.hlr_types.specs.declared.register.Register.{Register}
use Rattle.records.specs.Subscriber.{Subscriber, IsPlace, placed, allowed}
use Rattle.records.specs.Maps.{RecordMap}
use Rattle.records.proofs.MapLemmas.{digits_total}
use Rattle.machine.specs.Keys.{put, same}
use Rattle.machine.specs.State as machine
use Rattle.machine_laws.proofs.Keys.{put_again, put_cases}
use Rattle.smroute.specs.Seen.{machine_subscriber}
use Rattle.location.specs.declared.outcome.After.{After}
use Rattle.location.specs.declared.outcome.After.TheVariants.{Same, Purged, Location, NewCodes, Withdrawn}
use Rattle.location.specs.Seen.{after_of}
use Rattle.location.specs.Writing.{CanBeWritten}
use Rattle.hlrcore.specs.Changing.{written}
use Rattle.hlrcore.specs.Shards.{record_at, records_of}

-- ---- one record more

pub put_insert : (records : RecordMap) (x : List ℕ) (r : Subscriber)
    → records_of (finite.insert records x r) ≡ put (records_of records) x (Some (machine_subscriber r))
put_insert records x r = λ i q. each q i
  where
    each : (q : List ℕ) → records_of (finite.insert records x r) q ≡ put (records_of records) x (Some (machine_subscriber r)) q
    each q = sym (put_cases (records_of records) x (Some (machine_subscriber r)) q (λ v. v ≡ records_of (finite.insert records x r) q)
        (λ e. sym (ap (option_map machine_subscriber) (finite.get-insert digits_total records x r q
        ∙ ap (λ b. cond b (Some r) (finite.get records q)) (eq_octets q x (sym e)))))
        (λ h. sym (ap (option_map machine_subscriber) (finite.get-insert digits_total records x r q
        ∙ ap (λ b. cond b (Some r) (finite.get records q)) (ne_octets q x (λ e. h (sym e)))))))

get_inserted : (records : RecordMap) (x : List ℕ) (r : Subscriber) → finite.get (finite.insert records x r) x ≡ Some r
get_inserted records x r = finite.get-insert digits_total records x r x ∙ ap (λ b. cond b (Some r) (finite.get records x)) (eq_octets x x refl)

cond_twice : {X : Type 0} (b : Bool) (v w o : X) → cond b w (cond b v o) ≡ cond b w o
cond_twice true v w o = refl
cond_twice false v w o = refl

pub put_twice : {X : Type 0} (m : List ℕ → X) (k : List ℕ) (v w : X) → put (put m k v) k w ≡ put m k w
unfolding put
put_twice m k v w = λ i q. cond_twice (same k q) v w (m q) i

-- ---- what a procedure writes

written_at : (codes : List ℕ) (after a : After) (imsi : Option (List ℕ)) (x : List ℕ) (records : List ℕ → Option machine.Subscriber)
    (new : List ℕ → Option machine.Subscriber)
    → imsi ≡ Some x → after ≡ a → new ≡ put records x (after_of codes a (records x)) → new ≡ written codes after imsi records
written_at codes after a imsi x records new at is e =
    e ∙ ap (λ b. put records x (after_of codes b (records x))) (sym is) ∙ ap (λ o. written codes after o records) (sym at)

pub same_written : (codes : List ℕ) (after : After) (imsi : Option (List ℕ)) (x : List ℕ) (records : List ℕ → Option machine.Subscriber)
    → imsi ≡ Some x → after ≡ Same → records ≡ written codes after imsi records
same_written codes after imsi x records at is = written_at codes after Same imsi x records records at is (sym (put_again records x))

-- an existing record is replaced
pub inserted_as : (codes : List ℕ) (a : After) (records new : RecordMap) (x : List ℕ) (s r : Subscriber) → finite.get records x ≡ Some s
    → Some (machine_subscriber r) ≡ after_of codes a (Some (machine_subscriber s)) → new ≡ finite.insert records x r
    → records_of new ≡ put (records_of records) x (after_of codes a (records_of records x))
inserted_as codes a records new x s r there made e =
    ap records_of e ∙ put_insert records x r
    ∙ ap (λ v. put (records_of records) x v) (made ∙ ap (λ o. after_of codes a (option_map machine_subscriber o)) (sym there))

not_written : (a : After) → CanBeWritten a None → (a ≡ Same → ⊥) → ⊥
not_written Same can changes = changes refl
not_written Purged can changes = can
not_written (Location register purged current) can changes = can
not_written NewCodes can changes = can
not_written Withdrawn can changes = can

-- the record of the procedure's subscriber, changed by g
pub written_by : (codes : List ℕ) (after a : After) (imsi : Option (List ℕ)) (x : List ℕ) (records new : RecordMap) (g : Subscriber → Subscriber)
    → imsi ≡ Some x → after ≡ a → (a ≡ Same → ⊥) → CanBeWritten after (record_at records imsi)
    → ((s : Subscriber) → Some (machine_subscriber (g s)) ≡ after_of codes a (Some (machine_subscriber s)))
    → ((s : Subscriber) → finite.get records x ≡ Some s → new ≡ finite.insert records x (g s))
    → records_of new ≡ written codes after imsi (records_of records)
written_by codes after a imsi x records new g at is changes can made inserts =
    go (finite.get records x) refl (subst (λ b. CanBeWritten b (finite.get records x)) is (subst (λ o. CanBeWritten after (record_at records o)) at can))
  where
    go : (o : Option Subscriber) → finite.get records x ≡ o → CanBeWritten a o → records_of new ≡ written codes after imsi (records_of records)
    go None e can_be = absurd (not_written a can_be changes)
    go (Some s) e can_be = written_at codes after a imsi x (records_of records) (records_of new) at is
        (inserted_as codes a records new x s (g s) e (made s) (inserts s e))

pub purged_as : (records new : RecordMap) (x : List ℕ) (s : Subscriber) (register : Option Register) (current : Option (List ℕ)) → finite.get records x ≡ Some s
    → register ≡ s.register → current ≡ s.current → new ≡ finite.insert records x (placed s register true current)
    → records_of new ≡ put (records_of records) x (after_of [] Purged (records_of records x))
purged_as records new x s register current there same_register same_current e =
    inserted_as [] Purged records new x s (placed s register true current) there
    (λ i. Some (machine_subscriber (placed s (same_register i) true (same_current i)))) e

-- ---- new codes

-- The codes are put first, and then the record without a current update.
module _ (records mid : RecordMap) (x codes : List ℕ) (s : Subscriber) (withdrawn : Bool)
    (put_so : mid ≡ finite.insert records x (allowed s codes withdrawn)) where
  pub put_there : finite.get mid x ≡ Some (allowed s codes withdrawn)
  put_there = ap (λ m. finite.get m x) put_so ∙ get_inserted records x (allowed s codes withdrawn)

  pub put_known : IsSome (finite.get mid x)
  put_known = ap is_some put_there

  pub put_place : (register : Option Register) (purged : Bool) (current : Option (List ℕ)) → IsPlace withdrawn register purged current
      → (r : Subscriber) → finite.get mid x ≡ Some r → IsPlace r.withdrawn register purged None
  put_place register purged current place r e =
      let same : allowed s codes withdrawn ≡ r = cc (put_there, e) in
      subst (λ (t : Subscriber). IsPlace t.withdrawn register purged None) same (record { purged = place.purged; left = place.left; unmarked = λ _. refl })

  pub recoded_as : (new : RecordMap) (register : Option Register) (purged : Bool) → finite.get records x ≡ Some s
      → register ≡ s.register → purged ≡ s.purged → withdrawn ≡ s.withdrawn
      → new ≡ finite.insert mid x (placed (allowed s codes withdrawn) register purged None)
      → records_of new ≡ put (records_of records) x (after_of codes NewCodes (records_of records x))
  recoded_as new register purged there same_register same_purged same_withdrawn e =
      let r = placed (allowed s codes withdrawn) register purged None in
      ap records_of e ∙ put_insert mid x r
      ∙ ap (λ (m : RecordMap). put (records_of m) x (Some (machine_subscriber r))) put_so
      ∙ ap (λ m. put m x (Some (machine_subscriber r))) (put_insert records x (allowed s codes withdrawn))
      ∙ put_twice (records_of records) x (Some (machine_subscriber (allowed s codes withdrawn))) (Some (machine_subscriber r))
      ∙ sym (put_insert records x r)
      ∙ inserted_as codes NewCodes records (finite.insert records x r) x s r there
      (λ i. Some (machine_subscriber (placed (allowed s codes (same_withdrawn i)) (same_register i) (same_purged i) None))) refl
