-- A shard begins in a sound state, and every step leaves it in one.
use Rattle.std.proofs.Common.{◌≡◌, ◌<◌, ℕ, List, [], Bool, true, false, cond, ◌==◌, Option, Some, None, refl, sym, ap, ◌∙◌, subst}
use Rattle.std.specs.Prelude.{option_map, Result, Ok, Err, IfOk, OnOk, OnErr, min, max}
use Rattle.std.specs.FinMap as map
use Rattle.machine.specs.declared.numbers.TheConstants.{MAX_CLOCK}
use Rattle.machine.specs.Opening.{opening}
use Rattle.machine.specs.Parts.{part}
use Rattle.machine.specs.State.{State, Subscriber as MachineSubscriber}
use Rattle.machine.specs.Sound.{Sound}
use Rattle.machine_laws.proofs.Growing.{begins_sound}
use Rattle.machine_laws.proofs.Merging.{part_agrees, part_alike}
use Rattle.records.specs.Fresh.{AreFresh, IsFresh}
use Rattle.records.specs.Maps.{RecordMap, DirectoryMap, part_of, shard_of}
use Rattle.records.proofs.MapLemmas.{digits_exact}
use Rattle.records.specs.Subscriber.{Subscriber}
use Rattle.hlr_types.specs.declared.register.Register.{Register}
use Rattle.smroute.specs.Seen.{machine_register, machine_subscriber}
use Rattle.machine.specs.Events.{Clock, Expire}
use Rattle.frames.specs.Octets.{RawEvent, RawClock, RawExpire, IsRouted}
use Rattle.frames.specs.OctetJournals.{LegalOctets}
use Rattle.frames_laws.proofs.OctetLaws.{octets_push}
use Rattle.hlrcore.specs.declared.answer.StepAnswer.{StepAnswer}
use Rattle.hlrcore.specs.Answers.{entry_of}
use Rattle.hlrcore.specs.Shards.{ShardState, IsOpening, IsSameShard, directory_of, records_of, state_of}
use Rattle.hlrcore.specs.Leading.{Leads}
use Rattle.hlrcore.specs.Sound.{IsSoundShard}

no_register : (r : Option Register) → option_map machine_register r ≡ None → r ≡ None
no_register None e = refl
no_register (Some register) e = absurd cc

left_none : (r : Option Register) → r ≡ None → option_map machine_register r ≡ None
left_none r e = ap (option_map machine_register) e

-- the facts of a machine's record, for one that is fresh in the code
abbrev Keeps : MachineSubscriber → Type 0
Keeps s = (s.current ≡ None) × (s.register ≡ None → s.purged ≡ false) × (s.withdrawn ≡ true → s.register ≡ None)

fresh_keeps : (c : Subscriber) → IsFresh c → Keeps (machine_subscriber c)
fresh_keeps c is = (is.unmarked, (λ none. is.purged (no_register c.register none)), (λ w. left_none c.register (is.withdrawn w)))

found_keeps : (found : Option Subscriber) (s : MachineSubscriber) → ((c : Subscriber) → found ≡ Some c → IsFresh c)
    → option_map machine_subscriber found ≡ Some s → Keeps s
found_keeps None s is e = absurd cc
found_keeps (Some c) s is e =
    let same : machine_subscriber c ≡ s = cc in
    subst Keeps same (fresh_keeps c (is c refl))

-- a shard with no dialogue and fresh records
pub opening_sound : (s : ShardState) (records : RecordMap) → s.records ≡ records → AreFresh records → (state_of s).dialogues ≡ (λ _. None) → Sound (state_of s)
unfolding state_of
opening_sound s records are fresh none = begins_sound (state_of s) (λ i. ap (λ f. f i) none)
    (λ x r e. found_keeps (map.get records x) r (fresh x) (ap (λ m. records_of m x) (sym are) ∙ e))

pub own_part : (S T : State) (n : ℕ) → S ≡ part T n → S ≡ part S n
own_part S T n e = e ∙ sym (part_alike n T (part T n) (part_agrees n T)) ∙ ap (λ (P : State). part P n) (sym e)

pub opening_is_sound : (s : ShardState) (start n : ℕ) (records : RecordMap) (directory : DirectoryMap) (hlr : List ℕ) → n < 16
    → ((all : RecordMap) × (records ≡ part_of all n)) → AreFresh records
    → IsOpening start n records directory hlr s
    → ((all : RecordMap) → records ≡ part_of all n → state_of s ≡ part (opening (records_of all) (directory_of directory) hlr) n)
    → IsSoundShard s
unfolding state_of
opening_is_sound s start n records directory hlr lt own fresh opens is = record {
  shard = subst (λ k. k < 16) (sym opens.shard_is) lt;
  sound = opening_sound s records opens.records_are fresh opens.none_open;
  own = subst (λ k. state_of s ≡ part (state_of s) k) (sym opens.shard_is)
      (own_part (state_of s) (opening (records_of own.0) (directory_of directory) hlr) n (is own.0 own.1));
}

if_found : (b : Bool) (found : Option Subscriber) (s : Subscriber) → cond b found None ≡ Some s → found ≡ Some s
if_found true found s e = e
if_found false found s e = absurd cc

-- a shard's part of fresh records
pub part_fresh : (all part : RecordMap) (n : ℕ) → AreFresh all → part ≡ part_of all n → AreFresh part
part_fresh all part n fresh e = λ imsi s found.
    fresh imsi s (if_found (shard_of imsi == n) (map.get all imsi) s
    (sym (map.get-retain_keys all (λ x. shard_of x == n) imsi (λ y tie. ap (λ x. shard_of x == n) (sym (digits_exact imsi y tie))))
    ∙ ap (λ (m : RecordMap). map.get m imsi) (sym e) ∙ found))

-- a step takes a sound shard to a sound shard
pub step_keeps : (s t : ShardState) (raw : RawEvent) (a : StepAnswer) → IsSoundShard s → IsRouted (directory_of s.directory) raw s.shard → Leads s raw a t
    → IsSameShard s t → IsSoundShard t
unfolding state_of
step_keeps s t raw a is routed leads same =
    let before : LegalOctets s.shard (state_of s) [] (state_of s) = record {
      journal = [];
      spelled = tt;
      legal = record { is_shard = is.shard; run = refl; routed = tt; base_sound = is.sound; after_sound = is.sound; base_part = is.own; after_part = is.own };
    } in
    let after = octets_push s.shard (state_of s) (state_of s) (state_of t) [] (entry_of raw a) before routed leads in
    record {
      shard = subst (λ k. k < 16) (sym same.shard) is.shard;
      sound = after.legal.after_sound;
      own = subst (λ k. state_of t ≡ part (state_of t) k) (sym same.shard) after.legal.after_part;
    }

-- a clock value names its shard, and so does an expiry
pub clock_is_routed : (s : ShardState) (now : ℕ) → IsRouted (directory_of s.directory) (RawClock s.shard now) s.shard
clock_is_routed s now = (Clock s.shard now, (refl, refl), refl)

-- which moves no more than the clock
pub tick_keeps_shard : (s t : ShardState) (now : ℕ) → t ≡ record s { clock = max s.clock (min now MAX_CLOCK) } → IsSameShard s t
tick_keeps_shard s t now is = record {
  shard = ap (λ (u : ShardState). u.shard) is;
  directory = ap (λ (u : ShardState). u.directory) is;
  hlr = ap (λ (u : ShardState). u.hlr) is;
}

pub expiry_is_routed : {E : Type 0} (s : ShardState) (r : Result StepAnswer E) → OnOk r (IsRouted (directory_of s.directory) (RawExpire s.shard) s.shard)
expiry_is_routed s (Ok a) = (Expire s.shard, refl, refl)
expiry_is_routed s (Err e) = tt

-- whether the event is handled or not
pub sound_after : {E : Type 0} (r : Result StepAnswer E) (s t : ShardState) (raw : RawEvent) → IsSoundShard s → IfOk r (λ a. Leads s raw a t)
    → OnOk r (IsRouted (directory_of s.directory) raw s.shard)
    → OnErr r (t ≡ s) → IsSameShard s t → IsSoundShard t
sound_after (Ok a) s t raw is leads routed err same = step_keeps s t raw a is routed leads same
sound_after (Err e) s t raw is leads routed err same = subst IsSoundShard (sym err) is
