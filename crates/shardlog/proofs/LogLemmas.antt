-- The invariant of a journal, how it begins, and how it grows.
use Rattle.std.proofs.Common.{◌≡◌, ◌<◌, ℕ, List, [], ◌∷◌, ◌++◌, length, length-append, map, refl, sym, ap, ◌∙◌, subst, arith}
use Rattle.std.proofs.lemmas.List.{length-map, map-append}
use Rattle.std.specs.Prelude.{Option, Some, None, Result, Ok, Err, IsErrAnd}
use Rattle.machine.specs.declared.numbers.TheConstants.{MAX_ENTRIES, SHARDS}
use Rattle.machine.specs.Parts.{part}
use Rattle.machine.specs.Holders.{IsNamed, holders}
use Rattle.machine.specs.State.{State}
use Rattle.machine_laws.proofs.Naming.{unnamed_stays}
use Rattle.frames.specs.Octets.{RawEvent, RawEntry, RawOut, IsRouted, StepOctets}
use Rattle.frames.specs.OctetJournals.{ChainOctets, LegalOctets, RawEpoch, first_raw_base, joined_raws}
use Rattle.frames_laws.proofs.OctetLaws.{chain_cut, chain_joined, event_one, holders_of_octets, isolation_of_octets, octets_push}
use Rattle.hlrcore.specs.Ids.{MovesIds}
use Rattle.hlrcore.specs.Shards.{ShardState, IsSameShard, directory_of, state_of}
use Rattle.hlrcore.specs.Sound.{IsSoundShard}
use Rattle.hlrcore.specs.declared.answer.StepAnswer.{StepAnswer}
use Rattle.hlrcore.specs.Answers.{entry_of}
use Rattle.hlrcore.specs.declared.event.RawEvent as code
use Rattle.hlrcore.specs.Events.{raw_event}
use Rattle.shardlog.specs.declared.entry.Entry.{Entry}
use Rattle.shardlog.specs.declared.entry.Handled.{Handled}
use Rattle.hlrcore.specs.declared.fault.StepFault.{StepFault}
use Rattle.hlrcore.specs.declared.fault.StepFault.TheVariants as step
use Rattle.shardlog.specs.declared.fault.ShardFault.{ShardFault}
use Rattle.shardlog.specs.declared.fault.ShardFault.TheVariants.{JournalFull, NoRoom}
use Rattle.shardlog.specs.Faults.{fault_of}
use Rattle.shardlog.specs.Chains.{JoinedKeep, LeadTo}
use Rattle.shardlog.specs.Entries.{raw_entries, raw_entry}
use Rattle.shardlog.specs.declared.keep.Keep.{Keep}
use Rattle.shardlog.specs.declared.keep.Keep.TheVariants.{Entries, Nothing}
use Rattle.shardlog.specs.Handling.{Handles, LeavesUnnamed, recorded}
use Rattle.shardlog.specs.Log.{IsHeld, IsLog, Keeps, LogKeeps, Log, base_of, cut_log, fresh, log}

pub keeps_of : (n : ℕ) (base : State) (entries : List RawEntry) (state : State) → LegalOctets n base entries state → Keeps n base entries state
keeps_of n base entries state legal = record {
  legal = legal;
  holders = λ imsi. record {
    octets = legal;
    same = sym (holders_of_octets n base state entries imsi (holders base legal.journal imsi) (record { octets = legal; same = refl }));
  };
  alone = λ imsi none. isolation_of_octets n base state entries imsi legal none;
}

pub log_keeps : (l : Log) → IsLog l → (l.keep ≡ Nothing → l ≡ cut_log l) → LogKeeps l
log_keeps l is none = record {
  journal = keeps_of l.base.shard (state_of l.base) l.entries (state_of l.state) is.legal;
  same = is.same;
  few = is.few;
  none = none;
}

pub joined_keep : JoinedKeep
joined_keep n epochs base state entries chain legal =
    keeps_of n (first_raw_base epochs base) (joined_raws epochs ++ entries) state (chain_joined n epochs base state entries chain legal)

-- a shard begins without an entry
pub begun : (keep : Keep) (s : ShardState) → IsSoundShard s → IsLog (fresh keep s)
begun keep s is = record {
  legal = record {
    journal = [];
    spelled = tt;
    legal = record { is_shard = is.shard; run = refl; routed = tt; base_sound = is.sound; after_sound = is.sound; base_part = is.own; after_part = is.own };
  };
  same = record { shard = refl; directory = refl; hlr = refl };
  few = omega arith;
}

directory_is : (s : ShardState) → (state_of s).directory ≡ directory_of s.directory
unfolding state_of
directory_is s = refl

-- a step appends its entry
pub grown : (keep : Keep) (base s t : ShardState) (entries : List RawEntry) (entry : RawEntry) → IsLog (log keep base entries s)
    → IsRouted (directory_of s.directory) entry.event s.shard
    → StepOctets (state_of s) entry (state_of t) → IsSameShard s t → length entries < MAX_ENTRIES → IsLog (log keep base (entries ++ entry ∷ []) t)
grown keep base s t entries entry is routed step same lt = record {
  legal = octets_push base.shard (state_of base) (state_of s) (state_of t) entries entry is.legal
      (subst (λ n. IsRouted (state_of s).directory entry.event n) is.same.shard
      (subst (λ d. IsRouted d entry.event s.shard) (sym (directory_is s)) routed)) step;
  same = record { shard = same.shard ∙ is.same.shard; directory = same.directory ∙ is.same.directory; hlr = same.hlr ∙ is.same.hlr };
  few = let count = length-append entries (entry ∷ []) in omega (arith, count);
}

-- the state after a step
pub leaves_unnamed : (S T : State) (entry : RawEntry) → StepOctets S entry T → LeavesUnnamed S entry.event T
leaves_unnamed S T entry (j, spells, step) = λ e i d is open_at not_named.
    let same : j.event ≡ e = event_one entry.event j.event e spells.event is in
    unnamed_stays S j.event T j.answer i d step open_at (λ named. not_named (subst (λ f. IsNamed S f i) same named))

-- ---- in the code

pub entry_is : (raw : code.RawEvent) (event : RawEvent) (a : StepAnswer) (kept : List RawOut) → raw_event raw ≡ event → kept ≡ a.outs
    → raw_entry (record { event = raw; id = a.id; subject = a.subject; outs = kept }) ≡ entry_of event a
entry_is raw event a kept same outs = λ i. record { event = same i; id = a.id; subject = a.subject; outs = outs i }

pub entries_after : (before after : List Entry) (entry : Entry) (made : RawEntry) → after ≡ before ++ entry ∷ [] → raw_entry entry ≡ made
    → raw_entries after ≡ raw_entries before ++ made ∷ []
entries_after before after entry made put is =
    ap (map raw_entry) put ∙ map-append raw_entry before (entry ∷ []) ∙ ap (λ (e : RawEntry). raw_entries before ++ e ∷ []) is

-- the journal with one entry more
pub handled_log : (keep : Keep) (base s t : ShardState) (before after : List Entry) (event : RawEvent) (a : StepAnswer)
    → IsLog (log keep base (raw_entries before) s)
    → raw_entries after ≡ raw_entries before ++ entry_of event a ∷ [] → IsRouted (directory_of s.directory) event s.shard
    → StepOctets (state_of s) (entry_of event a) (state_of t)
    → IsSameShard s t → length before < MAX_ENTRIES → IsLog (log keep base (raw_entries after) t)
handled_log keep base s t before after event a is put routed step same lt =
    let count = length-map before raw_entry in
    subst (λ (es : List RawEntry). IsLog (log keep base es t)) (sym put)
    (grown keep base s t (raw_entries before) (entry_of event a) is routed step same (omega (arith, count)))

-- ---- what a shard holds

-- the end of a journal is sound
pub ends_sound : (l : Log) → IsLog l → IsSoundShard l.state
ends_sound l is = record {
  shard = subst (λ (n : ℕ). n < SHARDS) (sym is.same.shard) is.legal.legal.is_shard;
  sound = is.legal.legal.after_sound;
  own = subst (λ (n : ℕ). state_of l.state ≡ part (state_of l.state) n) (sym is.same.shard) is.legal.legal.after_part;
}

-- and so is the state after one more step
step_sound : (keep : Keep) (base s t : ShardState) (entries : List RawEntry) (entry : RawEntry) → IsLog (log keep base entries s)
    → IsRouted (directory_of s.directory) entry.event s.shard → StepOctets (state_of s) entry (state_of t) → IsSameShard s t → IsSoundShard t
step_sound keep base s t entries entry is routed step same =
    ends_sound (log keep s (entry ∷ []) t)
    (grown keep s s t [] entry (begun keep s (ends_sound (log keep base entries s) is)) routed step same (omega arith))

pub held_none : (keep : Keep) (b : Option ShardState) (s : ShardState) (entries : List RawEntry) → b ≡ None → entries ≡ [] → IsSoundShard s
    → IsHeld keep b entries s
held_none keep b s entries none empty sound =
    subst (λ (o : Option ShardState). IsHeld keep o entries s) (sym none)
    (subst (λ (es : List RawEntry). IsHeld keep None es s) (sym empty) (record { log_is = begun keep s sound; begins = λ _. refl; none = λ _. refl }))

-- where no entries are kept, there is none
held_empty : (keep : Keep) (b : Option ShardState) (entries : List RawEntry) (s : ShardState) → IsHeld keep b entries s → keep ≡ Nothing
    → log keep (base_of b s) entries s ≡ fresh keep s
held_empty keep b entries s is nothing =
    let none : b ≡ None = is.none nothing in
    let empty : entries ≡ [] = is.begins none in
    λ i. log keep (base_of (none i) s) (empty i) s

pub held_keeps : (keep : Keep) (b : Option ShardState) (entries : List RawEntry) (s : ShardState) → IsHeld keep b entries s
    → LogKeeps (log keep (base_of b s) entries s)
held_keeps keep b entries s is = log_keeps (log keep (base_of b s) entries s) is.log_is (held_empty keep b entries s is)

pub seen_keeps : (keep : Keep) (b : Option ShardState) (entries : List RawEntry) (s : ShardState) (m : Log) → log keep (base_of b s) entries s ≡ m
    → IsHeld keep b entries s → LogKeeps m
seen_keeps keep b entries s m seen is = subst LogKeeps seen (held_keeps keep b entries s is)

-- the same is held, in lists and options that are equal
pub held_same : (keep : Keep) (b c : Option ShardState) (before after : List Entry) (s : ShardState) → IsHeld keep b (raw_entries before) s
    → after ≡ before → c ≡ b → IsHeld keep c (raw_entries after) s
held_same keep b c before after s is entries base =
    subst (λ (o : Option ShardState). IsHeld keep o (raw_entries after) s) (sym base)
    (subst (λ (es : List Entry). IsHeld keep b (raw_entries es) s) (sym entries) is)

-- ---- an event that names its shard (a clock value or an expiry)

pub own_step : (event : ℕ → RawEvent) (n : ℕ) (s t : ShardState) (a : StepAnswer) → n ≡ s.shard
    → StepOctets (state_of s) (entry_of (event s.shard) a) (state_of t) → StepOctets (state_of s) (entry_of (event n) a) (state_of t)
own_step event n s t a own step = subst (λ (k : ℕ). StepOctets (state_of s) (entry_of (event k) a) (state_of t)) (sym own) step

pub own_route : (event : ℕ → RawEvent) (n : ℕ) (s : ShardState) → n ≡ s.shard → IsRouted (directory_of s.directory) (event n) n
    → IsRouted (directory_of s.directory) (event n) s.shard
own_route event n s own routed = subst (IsRouted (directory_of s.directory) (event n)) own routed

-- ---- an event is handled

-- Room was made for an entry, if one is kept: this is what the shard holds then.
pub record IsRoomy (keep : Keep) (b c : Option ShardState) (s : ShardState) (before after : List Entry) : Type 0 where
  pub held : IsHeld keep b (raw_entries before) s
  pub entries : after ≡ before
  pub kept : keep ≡ Entries → c ≡ Some (base_of b s)
  pub left : keep ≡ Nothing → c ≡ b

module _ (keep : Keep) (b c : Option ShardState) (s : ShardState) (before roomy : List Entry) (is : IsRoomy keep b c s before roomy) where
  same_base : base_of c s ≡ base_of b s
  same_base = by keep (λ k. k) (λ k. k) is.kept is.left
    where
      by : (k : Keep) → (k ≡ Entries → k ≡ Entries) → (k ≡ Nothing → k ≡ Nothing) → (k ≡ Entries → c ≡ Some (base_of b s)) → (k ≡ Nothing → c ≡ b)
          → base_of c s ≡ base_of b s
      by Entries _ _ kept left = ap (λ (o : Option ShardState). base_of o s) (kept refl)
      by Nothing _ _ kept left = ap (λ (o : Option ShardState). base_of o s) (left refl)

  -- nothing is handled, and nothing changes
  pub still_held : (t : ShardState) → t ≡ s → IsHeld keep c (raw_entries roomy) t
  still_held t same =
      subst (λ (u : ShardState). IsHeld keep c (raw_entries roomy) u) (sym same)
      (subst (λ (es : List Entry). IsHeld keep c (raw_entries es) s) (sym is.entries) (record {
        log_is = subst (λ (base : ShardState). IsLog (log keep base (raw_entries before) s)) (sym same_base) is.held.log_is;
        begins = λ none. is.held.begins (absent keep none is.kept is.left);
        none = λ nothing. is.left nothing ∙ is.held.none nothing;
      }))
    where
      absent : (k : Keep) → c ≡ None → (k ≡ Entries → c ≡ Some (base_of b s)) → (k ≡ Nothing → c ≡ b) → b ≡ None
      absent Entries none kept left = absurd (let some : c ≡ Some (base_of b s) = kept refl in cc)
      absent Nothing none kept left = sym (left refl) ∙ none

  pub still_keeps : (t : ShardState) → t ≡ s → LogKeeps (log keep (base_of c t) (raw_entries roomy) t)
  still_keeps t same = held_keeps keep c (raw_entries roomy) t (still_held t same)

  pub still_seen : (old : Log) (t : ShardState) → log keep (base_of b s) (raw_entries before) s ≡ old → t ≡ s
      → log keep (base_of c t) (raw_entries roomy) t ≡ old
  still_seen old t seen same =
      (λ i. log keep (base_of c (same i)) (raw_entries (is.entries i)) (same i))
      ∙ (λ i. log keep (same_base i) (raw_entries before) s) ∙ seen

  -- a step is taken
  module _ (old : Log) (t : ShardState) (event : RawEvent) (a : StepAnswer) (seen : log keep (base_of b s) (raw_entries before) s ≡ old)
      (routed : IsRouted (directory_of s.directory) event s.shard) (step : StepOctets (state_of s) (entry_of event a) (state_of t))
      (same : IsSameShard s t) where
    -- its entry is kept
    pub entry_held : (after : List Entry) → keep ≡ Entries → length before < MAX_ENTRIES
        → raw_entries after ≡ raw_entries roomy ++ entry_of event a ∷ [] → IsHeld keep c (raw_entries after) t
    entry_held after keeps lt put =
        let some : c ≡ Some (base_of b s) = is.kept keeps in
        let put_here : raw_entries after ≡ raw_entries before ++ entry_of event a ∷ [] =
        subst (λ (es : List Entry). raw_entries after ≡ raw_entries es ++ entry_of event a ∷ []) is.entries put in
        record {
          log_is = subst (λ (o : Option ShardState). IsLog (log keep (base_of o t) (raw_entries after) t)) (sym some)
              (handled_log keep (base_of b s) s t before after event a is.held.log_is put_here routed step same lt);
          begins = λ none. absurd cc;
          none = λ nothing. absurd (let both : Entries ≡ Nothing = sym keeps ∙ nothing in cc);
        }

    pub entry_handles : MovesIds s.dialogues a.id t.dialogues → (after : List Entry) (handled : Handled) → keep ≡ Entries
        → raw_entries after ≡ raw_entries roomy ++ entry_of event a ∷ [] → handled.outs ≡ a.outs → handled.position ≡ length roomy
        → handled.subject ≡ a.subject
        → Handles old event handled (log keep (base_of c t) (raw_entries after) t)
    entry_handles ids after handled keeps put outs position subject =
        subst (λ (l : Log). Handles l event handled (log keep (base_of c t) (raw_entries after) t)) seen (record {
          entry = entry_of event a;
          new_is = by keep keeps (is.kept keeps) (put ∙ ap (λ (es : List Entry). raw_entries es ++ entry_of event a ∷ []) is.entries);
          same = same;
          event_is = refl;
          outs_are = outs;
          subject_is = subject;
          position = position ∙ ap (λ (es : List Entry). length es) is.entries ∙ sym (length-map before raw_entry);
          step = step;
          ids = ids;
          unnamed = leaves_unnamed (state_of s) (state_of t) (entry_of event a) step;
        })
      where
        by : (k : Keep) → k ≡ Entries → c ≡ Some (base_of b s) → raw_entries after ≡ raw_entries before ++ entry_of event a ∷ []
            → log k (base_of c t) (raw_entries after) t ≡ recorded k (log k (base_of b s) (raw_entries before) s) (entry_of event a) t
        by Entries _ some grew = λ i. log Entries (base_of (some i) t) (grew i) t
        by Nothing other some grew = absurd cc

    -- no entry is kept
    pub nothing_held : keep ≡ Nothing → IsHeld keep c (raw_entries roomy) t
    nothing_held nothing =
        held_none keep c t (raw_entries roomy) (is.left nothing ∙ is.held.none nothing)
        (ap raw_entries is.entries ∙ is.held.begins (is.held.none nothing))
        (step_sound keep (base_of b s) s t (raw_entries before) (entry_of event a) is.held.log_is routed step same)

    pub nothing_handles : MovesIds s.dialogues a.id t.dialogues → (handled : Handled) → keep ≡ Nothing → handled.outs ≡ a.outs → handled.position ≡ 0
        → handled.subject ≡ a.subject
        → Handles old event handled (log keep (base_of c t) (raw_entries roomy) t)
    nothing_handles ids handled nothing outs position subject =
        subst (λ (l : Log). Handles l event handled (log keep (base_of c t) (raw_entries roomy) t)) seen (record {
          entry = entry_of event a;
          new_is = by keep nothing (is.left nothing ∙ is.held.none nothing) (ap raw_entries is.entries ∙ empty);
          same = same;
          event_is = refl;
          outs_are = outs;
          subject_is = subject;
          position = position ∙ sym (ap length empty);
          step = step;
          ids = ids;
          unnamed = leaves_unnamed (state_of s) (state_of t) (entry_of event a) step;
        })
      where
        empty : raw_entries before ≡ []
        empty = is.held.begins (is.held.none nothing)

        by : (k : Keep) → k ≡ Nothing → c ≡ None → raw_entries roomy ≡ []
            → log k (base_of c t) (raw_entries roomy) t ≡ recorded k (log k (base_of b s) (raw_entries before) s) (entry_of event a) t
        by Entries other gone none = absurd cc
        by Nothing _ gone none = λ i. log Nothing (base_of (gone i) t) (none i) t

-- ---- a cut

pub cut_leads : (l m : Log) (base : ShardState) (entries : List RawEntry) → IsLog l → l.base ≡ base → l.entries ≡ entries → m.base ≡ l.state
    → (epochs : List RawEpoch) → LeadTo epochs l → LeadTo (epochs ++ record { base = state_of base; entries = entries } ∷ []) m
cut_leads l m base entries is based put next epochs leads =
    let n = ap (λ (s : ShardState). s.shard) next ∙ is.same.shard in
    let ends = ap (λ (s : ShardState). state_of s) next in
    let cut : ChainOctets l.base.shard (epochs ++ record { base = state_of l.base; entries = l.entries } ∷ []) (state_of l.state) =
    chain_cut l.base.shard epochs (state_of l.base) (state_of l.state) l.entries leads is.legal in
    let here : ChainOctets l.base.shard (epochs ++ record { base = state_of base; entries = entries } ∷ []) (state_of l.state) =
    subst (λ (e : RawEpoch). ChainOctets l.base.shard (epochs ++ e ∷ []) (state_of l.state)) (λ i. record { base = state_of (based i); entries = put i }) cut in
    subst (λ (k : ℕ). ChainOctets k (epochs ++ record { base = state_of base; entries = entries } ∷ []) (state_of m.base)) (sym n)
    (subst (λ (S : State). ChainOctets l.base.shard (epochs ++ record { base = state_of base; entries = entries } ∷ []) S) (sym ends) here)

-- a step that the fault of a call comes from
pub step_had_no_room : {A : Type 0} (r : Result A ShardFault) (e : StepFault) → IsErrAnd r (λ f. f ≡ fault_of e) → r ≡ Err NoRoom → e ≡ step.NoRoom
step_had_no_room (Ok x) e h q = absurd h
step_had_no_room (Err f) step.NotMine h q = absurd cc
step_had_no_room (Err f) step.NoRoom h q = refl
step_had_no_room (Err f) step.Memory h q = absurd cc

-- no step is refused by a full journal
pub step_has_no_journal : {A : Type 0} (r : Result A ShardFault) (e : StepFault) → IsErrAnd r (λ f. f ≡ fault_of e) → r ≡ Err JournalFull → ⊥
step_has_no_journal (Ok x) e h q = h
step_has_no_journal (Err f) step.NotMine h q = cc
step_has_no_journal (Err f) step.NoRoom h q = cc
step_has_no_journal (Err f) step.Memory h q = cc
