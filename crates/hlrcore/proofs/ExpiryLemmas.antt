-- The expiry of a timer of an open dialogue.
use Rattle.std.proofs.Common.{◌≡◌, ◌≢◌, ℕ, List, [], cond, Option, Some, None, refl, sym, ap, ◌∙◌, subst, eq-eqb}
use Rattle.std.specs.Prelude.{IfSome, option_copied, option_map}
use Rattle.std.specs.Borrow.{Bor}
use Rattle.std.specs.FinMap as finite
use Rattle.hlr_types.specs.declared.register.Register.{Register}
use Rattle.machine.specs.Expiries.{current_register, expires, register_of}
use Rattle.machine.specs.State as machine
use Rattle.machine.specs.State.{Invocation, Local, State, if_of, local_of}
use Rattle.machine.specs.Turns.{Turn, Dismissed, Expires, Expiry}
use Rattle.machine_laws.proofs.Determined.{expiry_one}
use Rattle.csl.specs.declared.offer.Due.{Due}
use Rattle.csl.specs.Seen.{was}
use Rattle.records.specs.Subscriber.{Subscriber}
use Rattle.smroute.specs.Seen.{machine_register}
use Rattle.dialogues.specs.declared.dialogue.Dialogue.{Dialogue}
use Rattle.dialogues.specs.Dialogues.{OpenDialogues, dialogues_of, invocations_in}
use Rattle.dialogues.specs.Expiring.{HasDialogues, expiry_of, expiry_turn}
use Rattle.dialogues.specs.Seen.{dialogue_with}
use Rattle.location.specs.declared.outcome.Outcome.{Outcome}
use Rattle.location.specs.Seen.{known, outcome_of}
use Rattle.location.specs.Writing.{CanBeWritten}
use Rattle.hlrcore.specs.declared.plan.Named.TheVariants.{Open}
use Rattle.hlrcore.specs.declared.plan.Plan.{Plan}
use Rattle.hlrcore.specs.Shards.{ShardState, state_of}
use Rattle.hlrcore.specs.declared.opened.Opened.{Opened}
use Rattle.hlrcore.specs.OpenOnes.{IsOpened, IsPlanFor, seen_as}
use Rattle.hlrcore.specs.Planning.{IsExpiry}
use Rattle.hlrcore.proofs.OpenedLemmas.{is_there, planned, written}
use Rattle.hlrcore.proofs.SeenLemmas.{imsi_seen, record_seen}

-- The state of the machine has the dialogues of the shard, and its clock.
pub has_dialogues : (s : ShardState) → s.dialogues.shard ≡ s.shard → HasDialogues (state_of s) s.dialogues s.clock
unfolding state_of
has_dialogues s own = record {
  dialogues = refl;
  clock = ap (λ b. cond b s.clock 0) (eq-eqb s.dialogues.shard s.shard own);
}

-- The expiry returned is one of the shard.
pub expiry_here : (s : ShardState) (told_in : OpenDialogues) (now : ℕ) (due : Option Due) → told_in ≡ s.dialogues → now ≡ s.clock
    → s.dialogues.shard ≡ s.shard
    → ((S : State) → HasDialogues S told_in now → Expiry S told_in.shard (expiry_turn told_in due))
    → Expiry (state_of s) s.shard (expiry_turn s.dialogues due)
expiry_here s told_in now due same clock own told =
    let at_clock : (S : State) → HasDialogues S told_in s.clock → Expiry S told_in.shard (expiry_turn told_in due) =
    subst (λ t. (S : State) → HasDialogues S told_in t → Expiry S told_in.shard (expiry_turn told_in due)) clock told in
    let here : (S : State) → HasDialogues S s.dialogues s.clock → Expiry S s.dialogues.shard (expiry_turn s.dialogues due) =
    subst (λ (d : OpenDialogues). (S : State) → HasDialogues S d s.clock → Expiry S d.shard (expiry_turn d due)) same at_clock in
    subst (λ n. Expiry (state_of s) n (expiry_turn s.dialogues due)) own (here (state_of s) (has_dialogues s own))

-- Nothing is due.
pub nothing_expires : (s : ShardState) → Expiry (state_of s) s.shard (Dismissed []) → IsExpiry s None
nothing_expires s none = record { turn = Dismissed []; expiry = none; planned = refl }

-- Something is due: the turn of an expiry is determined, and that of an open dialogue's timer is not that nothing happens.
pub something_expires : (s : ShardState) (told_in : OpenDialogues) (due : Due) → told_in ≡ s.dialogues
    → dialogues_of told_in due.id ≢ None → Expiry (state_of s) s.shard (expiry_turn s.dialogues (Some due)) → IsExpiry s None → ⊥
something_expires s told_in due same is_open expiry none = by (dialogues_of s.dialogues due.id) refl
  where
    one : expiry_turn s.dialogues (Some due) ≡ Dismissed []
    one = expiry_one (state_of s) s.shard _ (Dismissed []) expiry (subst (λ (t : Turn). Expiry (state_of s) s.shard t) none.planned none.expiry)

    by : (d : Option machine.Dialogue) → dialogues_of s.dialogues due.id ≡ d → ⊥
    by None e = is_open (ap (λ (x : OpenDialogues). dialogues_of x due.id) same ∙ e)
    by (Some d) e =
        let expires : Expires due.id d due.invoke (was due.was) ≡ Dismissed [] = sym (ap (λ (x : Option machine.Dialogue). expiry_of x due) e) ∙ one in
        cc

-- The register of the current update, by the dialogue that is open under its id.
pub current_is : (s : ShardState) (imsi current : List ℕ) (told_in : OpenDialogues) (d : Option Dialogue) (r : Option Register)
    → told_in ≡ s.dialogues
    → option_map (dialogue_with (invocations_in (dialogues_of told_in current))) d ≡ dialogues_of told_in current
    → ((vs : List Invocation) → option_map machine_register r ≡ register_of (if_of imsi (option_map (dialogue_with vs) d)))
    → current_register (local_of (state_of s) s.shard imsi) (Some current) ≡ option_map machine_register r
unfolding local_of state_of
current_is s imsi current told_in d r same there is =
    sym (is (invocations_in (dialogues_of told_in current))
    ∙ ap (λ (x : Option machine.Dialogue). register_of (if_of imsi x)) (there ∙ ap (λ (x : OpenDialogues). dialogues_of x current) same))

pub expiry_planned : (s : ShardState) (due : Due) (o : Opened) (found : Option (Bor Subscriber)) (current : Option Register) (does : Outcome) (plan : Plan)
    → Expiry (state_of s) s.shard (expiry_turn s.dialogues (Some due)) → o.id ≡ due.id → IsOpened s.dialogues o
    → option_copied found ≡ finite.get s.records o.dialogue.subscriber
    → IfSome found (λ x. current_register (local_of (state_of s) s.shard o.dialogue.subscriber) x.now.current ≡ option_map machine_register current)
    → ((here : Local) (vs : List Invocation) → o.dialogue.subscriber ≡ here.imsi → here.record_of ≡ known found
    → IfSome found (λ x. current_register here x.now.current ≡ option_map machine_register current)
    → outcome_of here (Some (dialogue_with vs o.dialogue)) [] does
    ≡ expires here due.id (dialogue_with vs o.dialogue) due.invoke (was due.was) o.new)
    → CanBeWritten does.after (option_copied found) → IsPlanFor o.dialogue.subscriber (Open o.id) o.new does plan
    → IsExpiry s (Some plan)
expiry_planned s due o found current does plan expiry_is same opened copied register leaves can_write parts =
    let imsi = o.dialogue.subscriber in
    let here = local_of (state_of s) s.shard imsi in
    let d = seen_as s.dialogues o in
    let is : expiry_turn s.dialogues (Some due) ≡ Expires due.id d due.invoke (was due.was) =
    ap (λ id. expiry_of (dialogues_of s.dialogues id) due) (sym same) ∙ ap (λ (x : Option machine.Dialogue). expiry_of x due) opened.is_open in
    record {
      turn = Expires due.id d due.invoke (was due.was);
      expiry = subst (λ (t : Turn). Expiry (state_of s) s.shard t) is expiry_is;
      planned =
          planned s (Expires due.id d due.invoke (was due.was)) imsi (Open o.id) o.new does plan parts
          (is_there s o opened) (opened.next, opened.is_new) (written s imsi found does copied can_write) tt refl (λ i. Some (sym same i)) refl
          (sym (leaves here (invocations_in (dialogues_of s.dialogues o.id)) (imsi_seen s imsi) (record_seen s (Some imsi) found copied) register)
          ∙ ap (λ (x : Option machine.Dialogue). outcome_of here x [] does) (sym opened.is_open));
    }
