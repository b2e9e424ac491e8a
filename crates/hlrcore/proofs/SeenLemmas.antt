-- What a procedure sees of a shard.
use Rattle.std.proofs.Common.{◌≡◌, ◌∙◌, ℕ, List, [], Option, Some, None, cond, refl, sym, ap, eq-eqb, arith}
use Rattle.std.specs.Prelude.{option_map, option_copied}
use Rattle.std.specs.Borrow.{Bor}
use Rattle.std.specs.List.{IsDistinct}
use Rattle.machine.specs.State.{local_of, local_of_nobody}
use Rattle.machine.specs.Step.{seen}
use Rattle.records.specs.Subscriber.{Subscriber, AreAllowed}
use Rattle.smroute.specs.Seen.{machine_subscriber}
use Rattle.location.specs.Seen.{known}
use Rattle.hlrcore.specs.Shards.{ShardState, record_at, state_of}

pub imsi_seen : (s : ShardState) (x : List ℕ) → x ≡ (seen (state_of s) s.shard (Some x)).imsi
unfolding local_of
imsi_seen s x = refl

pub hlr_seen : (s : ShardState) (x : List ℕ) → (seen (state_of s) s.shard (Some x)).hlr ≡ s.hlr
unfolding local_of state_of
hlr_seen s x = refl

pub clock_seen : (s : ShardState) (c : Option (List ℕ)) → (seen (state_of s) s.shard c).clock ≡ s.clock
unfolding state_of local_of local_of_nobody
clock_seen s None = ap (λ b. cond b s.clock 0) (eq-eqb s.shard s.shard refl)
clock_seen s (Some x) = ap (λ b. cond b s.clock 0) (eq-eqb s.shard s.shard refl)

known_as : (found : Option (Bor Subscriber)) → option_map machine_subscriber (option_copied found) ≡ known found
known_as None = refl
known_as (Some s) = refl

-- the record, as the shard has it
pub record_there : (s : ShardState) (c : Option (List ℕ)) → (seen (state_of s) s.shard c).record_of ≡ option_map machine_subscriber (record_at s.records c)
unfolding state_of local_of local_of_nobody
record_there s None = refl
record_there s (Some x) = refl

-- and as it was found
pub record_seen : (s : ShardState) (c : Option (List ℕ)) (found : Option (Bor Subscriber)) → option_copied found ≡ record_at s.records c
    → (seen (state_of s) s.shard c).record_of ≡ known found
record_seen s c found is = record_there s c ∙ ap (option_map machine_subscriber) (sym is) ∙ known_as found

-- no codes are allowed
pub none_allowed : AreAllowed []
unfolding IsDistinct
none_allowed = record { most = omega arith; different = tt }
