-- What is loaded is fresh, record by record.
use Rattle.std.proofs.Common.{◌≡◌, ℕ, Bool, true, false, cond, List, Option, Some, None, sym, subst, ◌∙◌}
use Rattle.std.specs.Prelude.{Result, Ok, Err, IfOk, OnErr}
use Rattle.std.specs.Bool.{OnTrue, OnFalse}
use Rattle.std.specs.FinMap as map
use Rattle.std.specs.Ordering.{eq_by_cmp}
use Rattle.records.specs.declared.version.Version.{Version}
use Rattle.records.specs.Subscriber.{Subscriber, IsRecord}
use Rattle.records.specs.Maps.{digits_cmp, RecordMap}
use Rattle.records.specs.Fresh.{IsFresh, AreFresh}
use Rattle.texts.specs.Lines.{parts}
use Rattle.records.specs.Reading.{record_of}
use Rattle.records.proofs.LineLaws.{record_found}
use Rattle.records.proofs.MapLemmas.{digits_total}

-- the rest are the facts of every record
pub fresh_unmarked : (s : Subscriber) → IsRecord s → s.current ≡ None → IsFresh s
fresh_unmarked s keeps none = record { unmarked = none; purged = keeps.place.purged; withdrawn = keeps.place.left }

-- a line is read without a current update
pub read_unmarked : (version : Version) (line : List ℕ) (s : Subscriber) → record_of version (parts 32 line) ≡ Some s → s.current ≡ None
read_unmarked version line s e = (record_found version line s e).no_current

fresh_step : (b : Bool) (v s : Subscriber) (o : Option Subscriber) → IsFresh v → (o ≡ Some s → IsFresh s) → cond b (Some v) o ≡ Some s → IsFresh s
fresh_step true v s o fresh others e =
    let same : v ≡ s = cc in
    subst IsFresh same fresh
fresh_step false v s o fresh others e = others e

-- one more fresh record
pub fresh_insert : (m : RecordMap) (k : List ℕ) (v : Subscriber) → AreFresh m → IsFresh v → AreFresh (map.insert m k v)
fresh_insert m k v are fresh = λ q s e. fresh_step (eq_by_cmp digits_cmp q k) v s (map.get m q) fresh (are q s) (sym (map.get-insert digits_total m k v q) ∙ e)

pub fresh_empty : AreFresh map.empty
fresh_empty = λ q s e. absurd (cc (sym (map.get-empty digits_cmp q) ∙ e))

-- one more fresh record, unless memory runs out
pub fresh_added : {E : Type 0} (r : Result Bool E) (m n : RecordMap) (v : Subscriber) → IfOk r (λ is_new. OnTrue is_new (n ≡ map.insert m v.imsi v))
    → IfOk r (λ is_new. OnFalse is_new (n ≡ m)) → OnErr r (n ≡ m) → AreFresh m → IsFresh v → AreFresh n
fresh_added (Ok true) m n v added stays err are fresh = subst AreFresh (sym added) (fresh_insert m v.imsi v are fresh)
fresh_added (Ok false) m n v added stays err are fresh = subst AreFresh (sym stays) are
fresh_added (Err e) m n v added stays err are fresh = subst AreFresh (sym err) are
