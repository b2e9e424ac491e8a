-- The shards of a register as one state, and one shard's step as a step of it.
use Rattle.std.proofs.Common.{◌≡◌, ℕ, ◌<◌, List, length, length-set, set, refl, sym, ap, subst, ◌∙◌, arith, inl, inr}
use Rattle.std.specs.Prelude.{◌⊎◌, Option, Some, is_some, slice_get}
use Rattle.std.proofs.Math.Path.{fun_ext}
use Rattle.std.proofs.lemmas.Bool.{cases_eq}
use Rattle.std.proofs.lemmas.Option.{slice_get_within}
use Rattle.machine.specs.Events.{Event, Frame, Clock, Expire, Operator}
use Rattle.machine.specs.Holders.{serving}
use Rattle.machine.specs.Keys.{put_at, shard_of}
use Rattle.machine.specs.Outcome.{Outcome}
use Rattle.machine.specs.Parts.{part, union}
use Rattle.machine.specs.Routing.{route}
use Rattle.machine.specs.Sound.{Sound}
use Rattle.machine.specs.State.{State, Subscriber}
use Rattle.machine.specs.Step.{HasNoRoom, Step, WouldOverflow, outcome_in}
use Rattle.machine.specs.Turns.{Changes}
use Rattle.machine_laws.proofs.Merging.{union_goes, union_step}
use Rattle.machine_laws.proofs.Parts.{AgreeOn, agree_alike, agree_sym}
use Rattle.machine_laws.proofs.Steps.{shard_small}
use Rattle.machine_laws.proofs.Transfer.{Alike, put_at_same, put_at_other, same_out}
use Rattle.machine_laws.proofs.Unions.{parts_of_union}
use Rattle.frames.specs.Octets.{IsEvent, IsRouted, RawEntry, RawEvent, RunOctets, StepOctets}
use Rattle.frames.specs.OctetJournals.{AreHolders, LegalOctets, MergesOctets}
use Rattle.frames_laws.proofs.OctetLaws.{event_one, merge_of_octets}
use Rattle.records.specs.Maps.{DirectoryMap}
use Rattle.hlrcore.specs.Shards.{IsSameShard, ShardState, directory_of, state_of}
use Rattle.shardlog.specs.Log.{Log, LogKeeps}
use Rattle.wholenode.specs.Keeping.{AreShards, HoldsServing, IsShardAt, JournalsMerge, NodeKeeps}
use Rattle.wholenode.specs.Nodes.{NodeState, base_at, bases, journal_at, journals, node, state_at, states, whole, whole_base}
use Rattle.wholenode.proofs.Places.{set_elsewhere, set_or_not, set_there, there}

directory_in : (s : ShardState) → (state_of s).directory ≡ directory_of s.directory
unfolding state_of
directory_in s = refl

hlr_in : (s : ShardState) → (state_of s).hlr ≡ s.hlr
unfolding state_of
hlr_in s = refl

record_in : (shards : List Log) (imsi : List ℕ) → (whole shards).records imsi ≡ (states shards (shard_of imsi)).records imsi
unfolding union
record_in shards imsi = refl

-- ---- the shards that there are

module _ (directory : DirectoryMap) (shards : List Log) (are : AreShards directory shards) where
  pub shard_at : (n : ℕ) → n < 16 → (l : Log) × (slice_get shards n ≡ Some l) × IsShardAt n directory are.hlr l
  shard_at n lt =
      let found = there shards n (omega (arith, are.count, lt)) in
      (found.0, found.1, are.each n found.0 found.1)

  pub small_at : (n : ℕ) (l : Log) → slice_get shards n ≡ Some l → n < 16
  small_at n l e = omega (arith, are.count, slice_get_within shards n l e)

  pub sound_at : (n : ℕ) → n < 16 → Sound (states shards n)
  sound_at n lt =
      let found = shard_at n lt in
      subst Sound (sym (ap state_at found.1)) found.2.keeps.journal.legal.legal.after_sound

  pub directory_at : (n : ℕ) → n < 16 → (states shards n).directory ≡ directory_of directory
  directory_at n lt =
      let found = shard_at n lt in
      ap (λ (o : Option Log). (state_at o).directory) found.1 ∙ directory_in found.0.state ∙ ap directory_of found.2.state_is.directory_is

  pub hlr_at : (n : ℕ) → n < 16 → (states shards n).hlr ≡ are.hlr
  hlr_at n lt =
      let found = shard_at n lt in
      ap (λ (o : Option Log). (state_at o).hlr) found.1 ∙ hlr_in found.0.state ∙ found.2.state_is.hlr_is

  pub one_directory : (n : ℕ) → n < 16 → (states shards n).directory ≡ (states shards 0).directory
  one_directory n lt = directory_at n lt ∙ sym (directory_at 0 (omega arith))

  pub one_hlr : (n : ℕ) → n < 16 → (states shards n).hlr ≡ (states shards 0).hlr
  one_hlr n lt = hlr_at n lt ∙ sym (hlr_at 0 (omega arith))

  base_directory : (n : ℕ) → n < 16 → (bases shards n).directory ≡ directory_of directory
  base_directory n lt =
      let found = shard_at n lt in
      ap (λ (o : Option Log). (base_at o).directory) found.1 ∙ directory_in found.0.base
      ∙ ap directory_of (sym found.2.keeps.same.directory ∙ found.2.state_is.directory_is)

  base_hlr : (n : ℕ) → n < 16 → (bases shards n).hlr ≡ are.hlr
  base_hlr n lt =
      let found = shard_at n lt in
      ap (λ (o : Option Log). (base_at o).hlr) found.1 ∙ hlr_in found.0.base ∙ sym found.2.keeps.same.hlr ∙ found.2.state_is.hlr_is

  number_of_base : (n : ℕ) (l : Log) → IsShardAt n directory are.hlr l → l.base.shard ≡ n
  number_of_base n l is = sym is.keeps.same.shard ∙ is.state_is.shard_is

  -- ---- together

  pub whole_sound : Sound (whole shards)
  whole_sound = (union_goes (states shards) sound_at one_directory one_hlr).sound

  pub part_at : (n : ℕ) (l : Log) → slice_get shards n ≡ Some l → part (whole shards) n ≡ state_of l.state
  part_at n l e =
      let is = are.each n l e in
      let own : state_of l.state ≡ part (state_of l.state) n =
      subst (λ (k : ℕ). state_of l.state ≡ part (state_of l.state) k) (number_of_base n l is) is.keeps.journal.legal.legal.after_part in
      let here : states shards n ≡ part (states shards n) n = subst (λ (S : State). S ≡ part S n) (sym (ap state_at e)) own in
      parts_of_union (states shards) n sound_at one_directory one_hlr (small_at n l e) here ∙ ap state_at e

  legal_at : (n : ℕ) → n < 16 → LegalOctets n (bases shards n) (journals shards n) (states shards n)
  legal_at n lt =
      let found = shard_at n lt in
      let P : Option Log → Type 0 = λ o. LegalOctets n (base_at o) (journal_at o) (state_at o) in
      let own : LegalOctets n (state_of found.0.base) found.0.entries (state_of found.0.state) =
      subst (λ (k : ℕ). LegalOctets k (state_of found.0.base) found.0.entries (state_of found.0.state))
      (number_of_base n found.0 found.2) found.2.keeps.journal.legal in
      subst P (sym found.1) own

  -- the subscriber's record is in the subscriber's shard
  holders_at : (imsi : List ℕ) → HoldsServing (node directory shards) imsi
  holders_at imsi =
      let n = shard_of imsi in
      let found = shard_at n (shard_small imsi) in
      let own : AreHolders n (state_of found.0.base) found.0.entries (state_of found.0.state) imsi
      (serving ((state_of found.0.state).records imsi)) =
      subst
      (λ (k : ℕ). AreHolders k (state_of found.0.base) found.0.entries (state_of found.0.state) imsi
      (serving ((state_of found.0.state).records imsi)))
      (number_of_base n found.0 found.2) (found.2.keeps.journal.holders imsi) in
      let P : Option Log → Type 0 = λ o. AreHolders n (base_at o) (journal_at o) (state_at o) imsi (serving ((state_at o).records imsi)) in
      let here : P (slice_get shards n) = subst P (sym found.1) own in
      subst (λ (s : Option Subscriber). AreHolders n (bases shards n) (journals shards n) (states shards n) imsi (serving s))
      (sym (record_in shards imsi)) here

  pub merged_at : (merge : List RawEntry) → MergesOctets (journals shards) merge → RunOctets (whole_base shards) merge (whole shards)
  merged_at merge merges =
      merge_of_octets (bases shards) (states shards) (journals shards) merge legal_at
      (λ n lt. base_directory n lt ∙ sym (base_directory 0 (omega arith))) (λ n lt. base_hlr n lt ∙ sym (base_hlr 0 (omega arith))) merges

pub journals_merge : JournalsMerge
journals_merge directory shards merge are merges = merged_at directory shards are merge merges

pub node_keeps : (directory : DirectoryMap) (shards : List Log) → AreShards directory shards → NodeKeeps (node directory shards)
node_keeps directory shards are = record {
  shards = are;
  sound = whole_sound directory shards are;
  parts = part_at directory shards are;
  merged = merged_at directory shards are;
  holders = holders_at directory shards are;
}

-- ---- one shard changes

pub states_set : (shards : List Log) (i : ℕ) (l : Log) → i < length shards
    → states (set shards i l) ≡ put_at (states shards) i (state_of l.state)
states_set shards i l lt = fun_ext (λ n. at n (cases_eq i n))
  where
    at : (n : ℕ) → (i ≡ n) ⊎ (i ≡ n → ⊥) → states (set shards i l) n ≡ put_at (states shards) i (state_of l.state) n
    at n (inl e) =
        ap (states (set shards i l)) (sym e) ∙ ap state_at (set_there shards i l lt)
        ∙ sym (put_at_same (states shards) i (state_of l.state) n e)
    at n (inr ne) = ap state_at (set_elsewhere shards i n l ne) ∙ sym (put_at_other (states shards) i (state_of l.state) n ne)

-- the shard's step is a step of the whole
pub whole_step : (directory : DirectoryMap) (shards : List Log) (raw : RawEvent) (n : ℕ) (l m : Log) (entry : RawEntry)
    → AreShards directory shards
    → slice_get shards n ≡ Some l → IsRouted (directory_of directory) raw n → entry.event ≡ raw
    → StepOctets (state_of l.state) entry (state_of m.state)
    → StepOctets (whole shards) entry (whole (set shards n m))
whole_step directory shards raw n l m entry are at (e, is_event, routed) event_is (j, spells, step) = (j, spells, stepped)
  where
    small : n < 16
    small = small_at directory shards are n l at

    within : n < length shards
    within = slice_get_within shards n l at

    same : j.event ≡ e
    same = event_one raw j.event e (subst (λ (r : RawEvent). IsEvent r j.event) event_is spells.event) is_event

    to_it : route (states shards n).directory j.event ≡ n
    to_it = ap (λ d. route d j.event) (directory_at directory shards are n small)
        ∙ ap (λ (f : Event). route (directory_of directory) f) same ∙ routed

    here : Step (states shards n) j.event (state_of m.state) j.answer
    here = subst (λ (S : State). Step S j.event (state_of m.state) j.answer) (sym (ap state_at at)) step

    stepped : Step (whole shards) j.event (whole (set shards n m)) j.answer
    stepped =
        subst (λ (f : ℕ → State). Step (whole shards) j.event (union f) j.answer) (sym (states_set shards n m within))
        (union_step (states shards) n (state_of m.state) j.event j.answer (sound_at directory shards are)
        (one_directory directory shards are) (one_hlr directory shards are) small to_it here)

-- a shard takes the place of one with the same number, directory and HLR number
pub replaced : (directory : DirectoryMap) (shards : List Log) (i : ℕ) (l m : Log) → AreShards directory shards → slice_get shards i ≡ Some l
    → LogKeeps m
    → IsSameShard l.state m.state → AreShards directory (set shards i m)
replaced directory shards i l m are at is same = record {
  hlr = are.hlr;
  count = length-set shards i m ∙ are.count;
  each = λ n k e. elim (set_or_not shards i n m k e) [
    | inl h ↦ subst (IsShardAt n directory are.hlr) h.1 (subst (λ (p : ℕ). IsShardAt p directory are.hlr m) (sym h.0) (record {
      keeps = is;
      state_is = record {
        shard_is = same.shard ∙ (are.each i l at).state_is.shard_is;
        directory_is = same.directory ∙ (are.each i l at).state_is.directory_is;
        hlr_is = same.hlr ∙ (are.each i l at).state_is.hlr_is;
      };
    }))
    | inr h ↦ are.each n k h
  ];
}

-- and if it is in the same state, the whole is unchanged
pub same_whole : (shards : List Log) (i : ℕ) (l m : Log) → slice_get shards i ≡ Some l → m.state ≡ l.state
    → whole (set shards i m) ≡ whole shards
same_whole shards i l m at same = ap union (fun_ext (λ n. at_each n (cases_eq i n)))
  where
    at_each : (n : ℕ) → (i ≡ n) ⊎ (i ≡ n → ⊥) → states (set shards i m) n ≡ states shards n
    at_each n (inl e) =
        ap (states (set shards i m)) (sym e) ∙ ap state_at (set_there shards i m (slice_get_within shards i l at))
        ∙ ap (λ (s : ShardState). state_of s) same
        ∙ sym (ap state_at at) ∙ ap (states shards) e
    at_each n (inr ne) = ap state_at (set_elsewhere shards i n m ne)

-- ---- no room

-- an operator's change for which its shard has no room is one for which the whole has none
pub no_room : (directory : DirectoryMap) (shards : List Log) (n : ℕ) (l : Log) (e : Event) → AreShards directory shards
    → slice_get shards n ≡ Some l
    → route (directory_of directory) e ≡ n → HasNoRoom (state_of l.state) e → HasNoRoom (whole shards) e
no_room directory shards n l (Frame from verdict) are at routed none = absurd none
no_room directory shards n l (Clock shard now) are at routed none = absurd none
no_room directory shards n l (Expire shard) are at routed none = absurd none
no_room directory shards n l (Operator x change) are at routed (new, none) = (
  new,
  record {
    opens = ap (λ (o : Outcome). is_some o.opens) (sym same) ∙ here.opens;
    beside = here.beside;
    full = alike.room here.full;
  },
)
  where
    small : n < 16
    small = small_at directory shards are n l at

    here : WouldOverflow (states shards n) (shard_of x) (Changes x change)
        (outcome_in (states shards n) (shard_of x) (Changes x change) new)
    here =
        subst (λ (S : State). WouldOverflow S (shard_of x) (Changes x change) (outcome_in S (shard_of x) (Changes x change) new))
        (sym (ap state_at at)) none

    agree : AgreeOn n (whole shards) (states shards n)
    agree =
        agree_sym n (states shards n) (whole shards)
        ((union_goes (states shards) (sound_at directory shards are) (one_directory directory shards are)
        (one_hlr directory shards are)).agree n small)

    alike : Alike (whole shards) (states shards n) (Operator x change) (Changes x change)
    alike =
        agree_alike n (whole shards) (states shards n) (Operator x change) (Changes x change) (whole_sound directory shards are)
        (sound_at directory shards are n small) agree routed refl

    same : outcome_in (states shards n) (shard_of x) (Changes x change) new ≡ outcome_in (whole shards) (shard_of x) (Changes x change) new
    same = same_out (whole shards) (states shards n) (Operator x change) (Changes x change) new alike

-- ---- in the code

pub keeps_seen : (directory : DirectoryMap) (shards : List Log) (n : NodeState) → node directory shards ≡ n → AreShards directory shards
    → NodeKeeps n
keeps_seen directory shards n seen are = subst NodeKeeps seen (node_keeps directory shards are)

-- a shard that is as before
pub not_took : (directory : DirectoryMap) (shards : List Log) (i : ℕ) (l m : Log) → AreShards directory shards → slice_get shards i ≡ Some l
    → LogKeeps m → m ≡ l → AreShards directory (set shards i m)
not_took directory shards i l m are at is same = replaced directory shards i l m are at is (record {
  shard = ap (λ (k : Log). k.state.shard) same;
  directory = ap (λ (k : Log). k.state.directory) same;
  hlr = ap (λ (k : Log). k.state.hlr) same;
})
