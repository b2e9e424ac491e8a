-- A plan that is carried out is a step of the machine.
use Rattle.std.proofs.Common.{◌≡◌, ℕ, List, Option, Some, None, cond, ◌==◌, refl, sym, ap, ◌∙◌, subst, eq-eqb}
use Rattle.std.specs.Prelude.{IfSome}
use Rattle.machine.specs.State as machine
use Rattle.machine.specs.State.{local_of, local_of_nobody}
use Rattle.machine.specs.Step.{moved, named_stays, new_opens, seen, taken}
use Rattle.records.specs.Maps.{RecordMap}
use Rattle.dialogues.specs.Dialogues.{OpenDialogues, IsNew, dialogues_of, next_of}
use Rattle.location.specs.declared.outcome.Outcome.{Outcome}
use Rattle.location.specs.declared.outcome.DialogueChange.{DialogueChange}
use Rattle.location.specs.declared.outcome.DialogueChange.TheVariants.{Closes, Opens, GoesOn, Forgets}
use Rattle.location.specs.Seen.{outcome_of, opens_of, stays_of}
use Rattle.hlrcore.specs.declared.plan.Named.{Named}
use Rattle.hlrcore.specs.declared.plan.Named.TheVariants.{Nothing, Open, Continued}
use Rattle.hlrcore.specs.declared.plan.Plan.{Plan}
use Rattle.hlrcore.specs.Shards.{ShardState, shard_of_fields, records_of, directory_of, state_of}
use Rattle.hlrcore.specs.Plans.{CanSettle, IsNextId, IsOpening, here, id_of, named_as, state_after_plan}
use Rattle.hlrcore.specs.Changing.{IsNext, changed, named_among, written}

-- ---- the id

next_alone : (o : Option (List ℕ)) (d : OpenDialogues) (new : List ℕ) → IfSome o (λ id. (id ≡ new) × IsNew d id) → IfSome o (λ id. id ≡ new)
next_alone None d new h = h
next_alone (Some id) d new h = h.0

pub is_next : (s : ShardState) (named : Named) (new : List ℕ) → IsNextId s named new → IsNext s.dialogues (id_of named) new
is_next s Nothing new h = next_alone (next_of s.dialogues) s.dialogues new h
is_next s (Open id) new h = h.0
is_next s (Continued id peer remote) new h = h.0

-- ---- the dialogue that is named

pub same_named : (s : ShardState) (named : Named)
    → named_among named (dialogues_of s.dialogues) ≡ named_as s named
same_named s Nothing = refl
same_named s (Open id) = refl
same_named s (Continued id peer remote) = refl

-- if none is named and none opens, nothing changes
nothing_changes : (clock : ℕ) (stays : DialogueChange) (new : List ℕ) (open_ones : List ℕ → Option machine.Dialogue)
    → (IsOpening stays → ⊥) → changed clock Nothing stays new open_ones ≡ open_ones
nothing_changes clock Closes new open_ones h = refl
nothing_changes clock (Opens opening) new open_ones h = absurd (h tt)
nothing_changes clock (GoesOn left) new open_ones h = refl
nothing_changes clock (Forgets invoke) new open_ones h = refl

-- ---- the state

own_clock : (shard clock : ℕ) → cond (shard == shard) clock 0 ≡ clock
own_clock shard clock = ap (λ b. cond b clock 0) (eq-eqb shard shard refl)

pub here_clock : (s : ShardState) (imsi : Option (List ℕ)) → (seen (state_of s) s.shard imsi).clock ≡ s.clock
unfolding state_of local_of local_of_nobody
here_clock s None = own_clock s.shard s.clock
here_clock s (Some imsi) = own_clock s.shard s.clock

-- the changes of the records and of the dialogues are those of the machine's state
module _ (s : ShardState) (named : Named) (new codes : List ℕ) (o : Outcome) (records : RecordMap) (d : OpenDialogues) where
  state_after : (imsi : Option (List ℕ)) → (imsi ≡ None → (named ≡ Nothing) × (IsOpening o.dialogue → ⊥))
      → records_of records ≡ written codes o.after imsi (records_of s.records)
      → dialogues_of d ≡ changed s.clock named o.dialogue new (dialogues_of s.dialogues)
      → state_of (shard_of_fields s.shard s.clock records d s.directory s.hlr)
      ≡ moved (state_of s) imsi (id_of named) new (outcome_of (seen (state_of s) s.shard imsi) (named_as s named) codes o)
  unfolding state_of local_of local_of_nobody
  state_after None nobody written_so changed_so =
      let same : dialogues_of d ≡ dialogues_of s.dialogues =
      changed_so ∙ ap (λ n. changed s.clock n o.dialogue new (dialogues_of s.dialogues)) (nobody refl).0
      ∙ nothing_changes s.clock o.dialogue new (dialogues_of s.dialogues) (nobody refl).1 in
      λ i. record {
        records = written_so i;
        dialogues = same i;
        clocks = λ n. cond (n == s.shard) s.clock 0;
        directory = directory_of s.directory;
        hlr = s.hlr;
      }
  state_after (Some imsi) nobody written_so changed_so =
      let moves : dialogues_of d ≡ new_opens new (opens_of (cond (s.shard == s.shard) s.clock 0) o.dialogue)
      (named_stays (id_of named) (stays_of (named_as s named) o.dialogue) (dialogues_of s.dialogues)) =
      changed_so
      ∙ ap (λ n. new_opens new (opens_of s.clock o.dialogue) (named_stays (id_of named) (stays_of n o.dialogue) (dialogues_of s.dialogues)))
      (same_named s named)
      ∙ ap (λ t. new_opens new (opens_of t o.dialogue) (named_stays (id_of named) (stays_of (named_as s named) o.dialogue) (dialogues_of s.dialogues)))
      (sym (own_clock s.shard s.clock)) in
      λ i. record {
        records = written_so i;
        dialogues = moves i;
        clocks = λ n. cond (n == s.shard) s.clock 0;
        directory = directory_of s.directory;
        hlr = s.hlr;
      }

pub settles : (s : ShardState) (plan : Plan) (records : RecordMap) (d : OpenDialogues) → CanSettle s plan
    → records_of records ≡ written plan.codes plan.outcome.after plan.imsi (records_of s.records)
    → dialogues_of d ≡ changed s.clock plan.named plan.outcome.dialogue plan.new (dialogues_of s.dialogues)
    → state_of (shard_of_fields s.shard s.clock records d s.directory s.hlr) ≡ state_after_plan s plan
settles s plan records d can written_so changed_so =
    state_after s plan.named plan.new plan.codes plan.outcome records d plan.imsi can.concerned written_so changed_so

-- ---- from what the calls tell

module _ (before s : ShardState) (plan : Plan) (clock : ℕ) (is : before ≡ s) (at : clock ≡ s.clock) (can : CanSettle s plan) where
  next : IsNext before.dialogues (id_of plan.named) plan.new
  next = subst (λ (t : ShardState). IsNext t.dialogues (id_of plan.named) plan.new) (sym is) (is_next s plan.named plan.new can.next_id)

  pub settled_by : (records : RecordMap) (d : OpenDialogues)
      → records_of records ≡ written plan.codes plan.outcome.after plan.imsi (records_of before.records)
      → ((new : List ℕ) → IsNext before.dialogues (id_of plan.named) new
      → dialogues_of d ≡ changed clock plan.named plan.outcome.dialogue new (dialogues_of before.dialogues))
      → state_of (record before { records = records; dialogues = d }) ≡ state_after_plan s plan
  settled_by records d written_so changed_so =
      ap (λ (t : ShardState). state_of (record t { records = records; dialogues = d })) is
      ∙ settles s plan records d can
      (written_so ∙ ap (λ (t : ShardState). written plan.codes plan.outcome.after plan.imsi (records_of t.records)) is)
      (changed_so plan.new next
      ∙ ap (λ k. changed k plan.named plan.outcome.dialogue plan.new (dialogues_of before.dialogues)) at
      ∙ ap (λ (t : ShardState). changed s.clock plan.named plan.outcome.dialogue plan.new (dialogues_of t.dialogues)) is)

  pub taken_by : (id : Option (List ℕ))
      → ((new : List ℕ) → IsNext before.dialogues (id_of plan.named) new → id ≡ taken new (opens_of clock plan.outcome.dialogue))
      → id ≡ taken plan.new (opens_of (here s plan).clock plan.outcome.dialogue)
  taken_by id taken_so =
      taken_so plan.new next ∙ ap (λ k. taken plan.new (opens_of k plan.outcome.dialogue)) (at ∙ sym (here_clock s plan.imsi))
