-- A plan for an open dialogue is what its turn does.
use Rattle.std.proofs.Common.{◌≡◌, ◌≢◌, ℕ, List, [], Option, Some, None, sym, ap, ◌∙◌, subst}
use Rattle.std.specs.Prelude.{IfSome, option_copied}
use Rattle.std.specs.Borrow.{Bor}
use Rattle.std.specs.FinMap as finite
use Rattle.machine.specs.State.{local_of}
use Rattle.machine.specs.Step.{outcome_in, subject_of}
use Rattle.machine.specs.Turns.{Turn, concern, named}
use Rattle.records.specs.Subscriber.{Subscriber, AreAllowed}
use Rattle.dialogues.specs.Dialogues.{dialogues_of}
use Rattle.location.specs.declared.outcome.Outcome.{Outcome}
use Rattle.location.specs.Seen.{outcome_of}
use Rattle.location.specs.Writing.{CanBeWritten}
use Rattle.hlrcore.specs.declared.plan.Named.{Named}
use Rattle.hlrcore.specs.declared.plan.Plan.{Plan}
use Rattle.hlrcore.specs.Plans.{IsForgetting, IsNextId, id_of, named_as}
use Rattle.hlrcore.specs.Shards.{ShardState, directory_of, state_of}
use Rattle.hlrcore.specs.declared.opened.Opened.{Opened}
use Rattle.hlrcore.specs.OpenOnes.{IsOpened, IsPlanFor}
use Rattle.hlrcore.specs.Planning.{IsPlan}
use Rattle.hlrcore.proofs.SeenLemmas.{none_allowed}

-- ---- the plan

abbrev with_parts : Plan → (subscriber : List ℕ) → Named → (new : List ℕ) → Outcome → Plan
with_parts plan subscriber name new o =
    record plan { imsi = Some subscriber; subject = Some subscriber; named = name; new = new; outcome = o }

from_parts : (plan : Plan) (subscriber : List ℕ) (name : Named) (new : List ℕ) (o : Outcome) → IsPlanFor subscriber name new o plan
    → with_parts plan subscriber name new o ≡ plan
from_parts plan subscriber name new o h = λ i. record plan {
  imsi = sym h.imsi_is i;
  subject = sym h.subject_is i;
  named = sym h.named_is i;
  new = sym h.new_is i;
  outcome = sym h.outcome_is i;
}

some≢none : {X : Type 0} {x : X} → Some x ≡ None → ⊥
some≢none e = absurd cc

pub planned : (s : ShardState) (turn : Turn) (subscriber : List ℕ) (name : Named) (new : List ℕ) (o : Outcome) (plan : Plan)
    → IsPlanFor subscriber name new o plan
    → IfSome (id_of name) (λ id. dialogues_of s.dialogues id ≢ None) → IsNextId s name new
    → CanBeWritten o.after (finite.get s.records subscriber) → IsForgetting name o.dialogue
    → concern (directory_of s.directory) turn ≡ Some subscriber → named turn ≡ id_of name → subject_of (state_of s) turn ≡ Some subscriber
    → outcome_in (state_of s) s.shard turn new ≡ outcome_of (local_of (state_of s) s.shard subscriber) (named_as s name) [] o
    → IsPlan s turn plan
planned s turn subscriber name new o plan h open_one next can_write keeps concerned names subject does =
    subst (λ (p : Plan). IsPlan s turn p) (from_parts plan subscriber name new o h) (record {
      can = record {
        is_open = open_one;
        writable = can_write;
        codes = λ _. subst AreAllowed (sym h.no_codes) none_allowed;
        forgetting = keeps;
        next_id = next;
        concerned = λ e. absurd (some≢none e);
      };
      concern_is = concerned;
      named_is = names;
      leaves = does ∙ ap (λ codes. outcome_of (local_of (state_of s) s.shard subscriber) (named_as s name) codes o) (sym h.no_codes);
      subject_is = sym subject;
    })

pub is_there : (s : ShardState) (o : Opened) → IsOpened s.dialogues o → dialogues_of s.dialogues o.id ≢ None
is_there s o h none = some≢none (sym h.is_open ∙ none)

pub written : (s : ShardState) (imsi : List ℕ) (found : Option (Bor Subscriber)) (o : Outcome) → option_copied found ≡ finite.get s.records imsi
    → CanBeWritten o.after (option_copied found) → CanBeWritten o.after (finite.get s.records imsi)
written s imsi found o e h = subst (λ (r : Option Subscriber). CanBeWritten o.after r) e h
