-- What a register is given, one list of events after another.
use Rattle.std.proofs.Common.{◌≡◌, arith, List, [], ◌++◌, length, length-append, refl, sym, subst, append_assoc}
use Rattle.std.specs.Prelude.{None}
use Rattle.std.proofs.lemmas.List.{append-nil}
use Rattle.frames.specs.Octets.{RawEvent, RawOut}
use Rattle.wholenode.specs.Nodes.{whole}
use Rattle.workers.specs.Shared.{GoesOn, SharedState, StandsBehind}
use Rattle.workers.specs.declared.shared_fault.SharedFault.{SharedFault}
use Rattle.workers.specs.declared.shared_fault.SharedFault.TheVariants as shared
use Rattle.hlr_program.specs.declared.register.Register.{Register}
use Rattle.hlr_program.specs.declared.register.Register.TheVariants.{Alone, Shared}
use Rattle.hlr_program.specs.Registers.{RunsTo, state_known}
use Rattle.hlr_program.specs.Runs.{AreRunFrom, BatchRun, events_in, sent_in}
use Rattle.hlr_program.specs.Statuses.{closing_fault, shared_fault}
use Rattle.hlr_program.specs.Stopping.{EventsStop, HandingOutStops, IsUnknown}
use Rattle.hlr_program.proofs.JournalLemmas.{alone_join, continues_none}
use Rattle.hlr_program.proofs.RunLemmas.{no_run, one_each}

-- ---- registers that workers share

goes_on_none : (s : SharedState) → GoesOn s [] [] s
goes_on_none s = (
  refl,
  λ begin events sent h. subst (λ (es : List RawEvent). StandsBehind begin es (sent ++ []) s) (sym (append-nil events))
      (subst (λ (os : List (List RawOut)). StandsBehind begin events os s) (sym (append-nil sent)) h),
)

goes_on_join : (a b c : SharedState) (r s : List RawEvent) (x y : List (List RawOut)) → GoesOn a r x b → GoesOn b s y c → GoesOn a (r ++ s) (x ++ y) c
goes_on_join a b c r s x y (each_first, first) (each_next, next) = (
  omega (arith, each_first, each_next, length-append x y, length-append r s),
  λ begin events sent at. subst (λ (es : List RawEvent). StandsBehind begin es (sent ++ (x ++ y)) c) (append_assoc events r s)
      (subst (λ (os : List (List RawOut)). StandsBehind begin ((events ++ r) ++ s) os c) (append_assoc sent x y)
      (next begin (events ++ r) (sent ++ x) (first begin events sent at))),
)

-- ---- registers

pub ran_none : (a : Register) → RunsTo a [] [] a
ran_none (Alone a) = (no_run (whole a.register.shards), continues_none a.register)
ran_none (Shared a) = goes_on_none a.register

pub ran_join : (a b c : Register) (r s : List RawEvent) (x y : List (List RawOut)) → RunsTo a r x b → RunsTo b s y c → RunsTo a (r ++ s) (x ++ y) c
ran_join (Alone a) (Alone b) (Alone c) r s x y h k = alone_join a.register b.register c.register r s x y h k
ran_join (Shared a) (Shared b) (Shared c) r s x y h k = goes_on_join a.register b.register c.register r s x y h k
ran_join (Alone a) (Alone b) (Shared c) r s x y h k = absurd k
ran_join (Alone a) (Shared b) c r s x y h k = absurd h
ran_join (Shared a) (Shared b) (Alone c) r s x y h k = absurd k
ran_join (Shared a) (Alone b) c r s x y h k = absurd h

-- an answer for each event
pub ran_each : (a b : Register) (events : List RawEvent) (sent : List (List RawOut)) → RunsTo a events sent b → length sent ≡ length events
ran_each (Alone a) (Alone b) events sent h = one_each (whole a.register.shards) (whole b.register.shards) events sent h.0
ran_each (Shared a) (Shared b) events sent h = h.0
ran_each (Alone a) (Shared b) events sent h = absurd h
ran_each (Shared a) (Alone b) events sent h = absurd h

-- ---- what is known of the state

pub unknown_before : (a b : Register) (events : List RawEvent) (sent : List (List RawOut)) → RunsTo a events sent b → IsUnknown (state_known b)
    → IsUnknown (state_known a)
unknown_before (Alone a) (Alone b) events sent h u = absurd u
unknown_before (Shared a) (Shared b) events sent h u = tt
unknown_before (Alone a) (Shared b) events sent h u = absurd h
unknown_before (Shared a) (Alone b) events sent h u = tt

pub known_run : (a b : Register) (batches : List BatchRun) → RunsTo a (events_in batches) (sent_in batches) b
    → AreRunFrom (state_known a) batches (state_known b)
known_run (Alone a) (Alone b) batches h = h.0
known_run (Shared a) (Shared b) batches h = tt
known_run (Alone a) (Shared b) batches h = absurd h
known_run (Shared a) (Alone b) batches h = absurd h

-- ---- why workers stop

pub shared_stops : (events : List RawEvent) (fault : SharedFault) → EventsStop None events (shared_fault fault)
shared_stops events shared.Memory = tt
shared_stops events shared.NoRoom = tt
shared_stops events (shared.Unaccounted job) = tt

pub closing_stops : (fault : SharedFault) → HandingOutStops None (closing_fault fault)
closing_stops shared.Memory = tt
closing_stops shared.NoRoom = tt
closing_stops (shared.Unaccounted job) = tt
