-- One clock value for several shards: the first of them, and the rest.
use Rattle.std.proofs.Common.{◌≡◌, ◌<◌, ℕ, suc, List, ◌∷◌, ◌++◌, [], length, refl, sym, subst, ◌∙◌, inl, inr}
use Rattle.std.proofs.lemmas.List.{length-map}
use Rattle.std.specs.Prelude.{◌⊎◌, Option, Result, Ok, Err, IfErr, OnErr}
use Rattle.machine.specs.declared.numbers.TheConstants.{MAX_ENTRIES}
use Rattle.machine.specs.Events.{Clock}
use Rattle.frames.specs.Octets.{RawClock, StepOctets}
use Rattle.hlrcore.specs.Answers.{entry_of}
use Rattle.hlrcore.specs.Ids.{MovesIds}
use Rattle.hlrcore.specs.Shards.{IsSameShard, ShardState, state_of}
use Rattle.hlrcore.specs.declared.answer.StepAnswer.{StepAnswer}
use Rattle.shardlog.specs.declared.entry.Entry.{Entry}
use Rattle.shardlog.specs.declared.entry.Handled.{Handled}
use Rattle.shardlog.specs.declared.fault.ShardFault.{ShardFault}
use Rattle.shardlog.specs.declared.fault.ShardFault.TheVariants.{JournalFull, Memory, NotMine, NoRoom}
use Rattle.shardlog.specs.declared.keep.Keep.{Keep}
use Rattle.shardlog.specs.declared.keep.Keep.TheVariants.{Entries, Nothing}
use Rattle.shardlog.specs.Entries.{raw_entries, raw_entry}
use Rattle.shardlog.specs.Log.{IsHeld, Log, base_of, log}
use Rattle.shardlog.specs.Ticking.{Hinders, Ticks}
use Rattle.shardlog.proofs.LogLemmas.{IsRoomy, entry_handles, entry_held, held_keeps, nothing_handles, nothing_held}

-- ---- why none of them does

pub hinders_later : (l : Log) (rest : List Log) (why : ShardFault) → Hinders rest why → Hinders (l ∷ rest) why
hinders_later l rest JournalFull (n, m, stands, keeps, full) = (suc n, m, stands, keeps, full)
hinders_later l rest Memory (n, m, stands, keeps) = (suc n, m, stands, keeps)
hinders_later l rest NotMine h = absurd h
hinders_later l rest NoRoom h = absurd h

keeps_entries : (keep : Keep) → (keep ≡ Nothing → ⊥) → keep ≡ Entries
keeps_entries Entries kept = refl
keeps_entries Nothing kept = absurd (kept refl)

-- the first of them does not
pub hinders_first : (keep : Keep) (base state : ShardState) (entries : List Entry) (old : Log) (rest : List Log) (why : ShardFault)
    → log keep base (raw_entries entries) state ≡ old → (why ≡ JournalFull) ⊎ (why ≡ Memory)
    → (why ≡ JournalFull → (keep ≡ Entries) × (length entries ≡ MAX_ENTRIES)) → (keep ≡ Nothing → ⊥) → Hinders (old ∷ rest) why
hinders_first keep base state entries old rest why seen only full kept =
    subst (λ (l : Log). Hinders (l ∷ rest) why) seen (by why only full)
  where
    was : Log
    was = log keep base (raw_entries entries) state

    by : (f : ShardFault) → (f ≡ JournalFull) ⊎ (f ≡ Memory) → (f ≡ JournalFull → (keep ≡ Entries) × (length entries ≡ MAX_ENTRIES))
        → Hinders (was ∷ rest) f
    by JournalFull one many = (0, was, refl, (many refl).0, length-map entries raw_entry ∙ (many refl).1)
    by Memory one many = (0, was, refl, keeps_entries keep kept)
    by NotMine one many = elim one [ inl e ↦ absurd cc | inr e ↦ absurd cc ]
    by NoRoom one many = elim one [ inl e ↦ absurd cc | inr e ↦ absurd cc ]

-- ---- what is answered

pub told : {A : Type 0} (r : Result A ShardFault) (why : ShardFault) (shards all : List Log) → r ≡ Err why → all ≡ shards → Hinders shards why
    → IfErr r (Hinders all)
told {A} r why shards all is are hinders =
    subst (λ (x : Result A ShardFault). IfErr x (Hinders all)) (sym is) (subst (λ (ls : List Log). Hinders ls why) (sym are) hinders)

pub none_changed : {A : Type 0} (r : Result A ShardFault) (l m : Log) (ls ms all : List Log) → m ≡ l → ms ≡ ls → all ≡ l ∷ ls
    → OnErr r (m ∷ ms ≡ all)
none_changed (Ok done) l m ls ms all one others are = tt
none_changed (Err why) l m ls ms all one others are = (λ i. one i ∷ others i) ∙ sym are

-- ---- the first of them does

module _ (keep : Keep) (b c : Option ShardState) (s : ShardState) (before roomy : List Entry) (is : IsRoomy keep b c s before roomy) (old : Log)
    (t : ShardState) (now : ℕ) (a : StepAnswer) (seen : log keep (base_of b s) (raw_entries before) s ≡ old)
    (step : StepOctets (state_of s) (entry_of (RawClock s.shard now) a) (state_of t)) (same : IsSameShard s t) where
  module _ (after : List Entry) (number : ℕ) (own : number ≡ s.shard) (keeps : keep ≡ Entries) (few : length before < MAX_ENTRIES)
      (put : raw_entries after ≡ raw_entries roomy ++ entry_of (RawClock number now) a ∷ []) where
    put_own : raw_entries after ≡ raw_entries roomy ++ entry_of (RawClock s.shard now) a ∷ []
    put_own = subst (λ (n : ℕ). raw_entries after ≡ raw_entries roomy ++ entry_of (RawClock n now) a ∷ []) own put

    pub entry_ticked : IsHeld keep c (raw_entries after) t
    entry_ticked =
        entry_held keep b c s before roomy is old t (RawClock s.shard now) a seen (Clock s.shard now, (refl, refl), refl) step same after keeps few put_own

    pub entry_ticks : MovesIds s.dialogues a.id t.dialogues → Ticks now old (log keep (base_of c t) (raw_entries after) t)
    entry_ticks ids =
        let handled : Handled = record { position = length roomy; subject = a.subject; outs = a.outs } in
        let was : Log = log keep (base_of b s) (raw_entries before) s in
        subst (λ (l : Log). Ticks now l (log keep (base_of c t) (raw_entries after) t)) seen (record {
          handled = handled;
          handles =
              entry_handles keep b c s before roomy is was t (RawClock s.shard now) a refl (Clock s.shard now, (refl, refl), refl) step same ids after
              handled keeps put_own refl refl refl;
          keeps = held_keeps keep c (raw_entries after) t entry_ticked;
        })

  module _ (nothing : keep ≡ Nothing) where
    pub nothing_ticked : IsHeld keep c (raw_entries roomy) t
    nothing_ticked =
        nothing_held keep b c s before roomy is old t (RawClock s.shard now) a seen (Clock s.shard now, (refl, refl), refl) step same nothing

    pub nothing_ticks : MovesIds s.dialogues a.id t.dialogues → Ticks now old (log keep (base_of c t) (raw_entries roomy) t)
    nothing_ticks ids =
        let handled : Handled = record { position = 0; subject = a.subject; outs = a.outs } in
        let was : Log = log keep (base_of b s) (raw_entries before) s in
        subst (λ (l : Log). Ticks now l (log keep (base_of c t) (raw_entries roomy) t)) seen (record {
          handled = handled;
          handles =
              nothing_handles keep b c s before roomy is was t (RawClock s.shard now) a refl (Clock s.shard now, (refl, refl), refl) step same ids
              handled nothing refl refl refl;
          keeps = held_keeps keep c (raw_entries roomy) t nothing_ticked;
        })
