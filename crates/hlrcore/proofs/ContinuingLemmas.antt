-- A Continue of an open dialogue.
use Rattle.std.proofs.Common.{◌≡◌, ℕ, List, [], map, Option, Some, refl, sym, ap, ◌∙◌, subst}
use Rattle.std.specs.Prelude.{option_copied, option_map}
use Rattle.std.specs.Borrow.{Bor}
use Rattle.std.specs.FinMap as finite
use Rattle.machine.specs.Dialogues.{continues_as, offer_to}
use Rattle.machine.specs.Effect as effects
use Rattle.machine.specs.Effect.{effect}
use Rattle.machine.specs.State as machine
use Rattle.machine.specs.State.{Invocation, Local, local_of}
use Rattle.machine.specs.Transactions.{ContinueComes, transact}
use Rattle.machine.specs.Turns.{Turn, Continues, continue_at, for_it}
use Rattle.q773_comp.specs.declared.component.Component.{Component}
use Rattle.q773_comp.specs.Seen.{component}
use Rattle.msgarena.specs.declared.parameter.Parameter.{Parameter}
use Rattle.msgarena.specs.Seen.{parameter}
use Rattle.tsl.specs.declared.received.Head.TheVariants.{Continue}
use Rattle.tsl.specs.declared.transaction.Transaction.{Transaction}
use Rattle.tsl.specs.Transactions.{transaction_of}
use Rattle.csl.specs.declared.offer.Effect.{Effect}
use Rattle.csl.specs.Effects.{IsEffect}
use Rattle.csl.specs.Seen.{heard}
use Rattle.csl.proofs.Parameters.{parameters_have_no_effect}
use Rattle.records.specs.Subscriber.{Subscriber}
use Rattle.dialogues.specs.declared.dialogue.Dialogue.{Dialogue}
use Rattle.dialogues.specs.Dialogues.{activated, dialogues_of, invocations_in}
use Rattle.dialogues.specs.Looking.{looked}
use Rattle.dialogues.specs.Seen.{dialogue_with, kind_of}
use Rattle.location.specs.declared.outcome.Outcome.{Outcome}
use Rattle.location.specs.declared.outcome.DialogueChange.{DialogueChange}
use Rattle.location.specs.declared.outcome.DialogueChange.TheVariants.{Closes, Opens, GoesOn, Forgets}
use Rattle.location.specs.Seen.{known, outcome_of}
use Rattle.location.specs.Staying.{ForgetsNothing}
use Rattle.location.specs.Writing.{CanBeWritten}
use Rattle.hlrcore.specs.declared.plan.Named.TheVariants.{Continued}
use Rattle.hlrcore.specs.declared.plan.Plan.{Plan}
use Rattle.hlrcore.specs.Plans.{IsForgetting, named_as}
use Rattle.hlrcore.specs.Shards.{ShardState, state_of}
use Rattle.hlrcore.specs.declared.opened.Opened.{Opened}
use Rattle.hlrcore.specs.OpenOnes.{IsForIt, IsOpened, IsPlanFor, seen_as, with_transaction}
use Rattle.hlrcore.specs.Planning.{IsPlan}
use Rattle.hlrcore.proofs.LookLemmas.{continue_is, transaction_after}
use Rattle.hlrcore.proofs.OpenedLemmas.{is_there, planned, written}
use Rattle.hlrcore.proofs.SeenLemmas.{clock_seen, hlr_seen, imsi_seen, record_seen}

module _ (s : ShardState) (o : Opened) (after : Transaction) (origin : List ℕ) (cs : List (Component Parameter)) (opened : IsOpened s.dialogues o)
    (active : after.remote ≡ Some origin) where
  -- the dialogue, with its transaction after
  abbrev then_open : Dialogue
  then_open = record o.dialogue { transaction = after }

  abbrev before : List Invocation
  before = invocations_in (dialogues_of s.dialogues o.id)

  -- what the components do
  abbrev done : effects.Effect
  done = effect s.clock (offer_to (kind_of o.dialogue.kind)) before (map heard cs)

  -- the dialogue with its transaction after
  then_active : Some (dialogue_with before then_open) ≡ named_as s (Continued o.id after.peer origin)
  then_active =
      ap (λ (r : Option (List ℕ)). Some (record (seen_as s.dialogues o) { transaction = record { peer = after.peer; remote = r } })) active
      ∙ ap (option_map (activated after.peer origin)) (sym opened.is_open)

  pub continuing_planned : (t : machine.Transaction) (found : Option (Bor Subscriber)) (e : Effect) (does : Outcome) (plan : Plan)
      → transaction_of after ≡ t → option_copied found ≡ finite.get s.records o.dialogue.subscriber → IsEffect e done
      → ((here : Local) (vs : List Invocation) (did : effects.Effect) → o.dialogue.subscriber ≡ here.imsi → here.hlr ≡ s.hlr → here.record_of ≡ known found
      → IsEffect e did
      → outcome_of here (Some (dialogue_with vs then_open)) [] does
      ≡ continues_as here o.id (dialogue_with vs then_open) (kind_of o.dialogue.kind) did o.new)
      → CanBeWritten does.after (option_copied found) → ForgetsNothing does.dialogue
      → IsPlanFor o.dialogue.subscriber (Continued o.id after.peer origin) o.new does plan
      → IsPlan s (Continues o.id (with_transaction s.dialogues o t) (map (component parameter) cs)) plan
  continuing_planned t found e does plan is copied did leaves can_write keeps parts =
      let imsi = o.dialogue.subscriber in
      let here = local_of (state_of s) s.shard imsi in
      let kind = kind_of o.dialogue.kind in
      let same : effect here.clock (offer_to kind) before (map (component parameter) cs) ≡ done =
      ap (λ now. effect now (offer_to kind) before (map (component parameter) cs)) (clock_seen s (Some imsi))
      ∙ parameters_have_no_effect parameter s.clock (offer_to kind) before cs in
      planned s (Continues o.id (with_transaction s.dialogues o t) (map (component parameter) cs)) imsi
      (Continued o.id after.peer origin) o.new does plan parts
      (is_there s o opened) (opened.next, opened.is_new) (written s imsi found does copied can_write) (forgets does.dialogue keeps) refl refl refl
      (ap (λ (w : effects.Effect). continues_as here o.id (with_transaction s.dialogues o t) kind w o.new) same
      ∙ ap (λ (u : machine.Transaction). continues_as here o.id (with_transaction s.dialogues o u) kind done o.new) (sym is)
      ∙ sym (leaves here before done (imsi_seen s imsi) (hlr_seen s imsi) (record_seen s (Some imsi) found copied) did)
      ∙ ap (λ (d : Option machine.Dialogue). outcome_of here d [] does) then_active)
    where
      forgets : (stays : DialogueChange) → ForgetsNothing stays → IsForgetting (Continued o.id after.peer origin) stays
      forgets Closes h = tt
      forgets (Opens opening) h = tt
      forgets (GoesOn left) h = tt
      forgets (Forgets invoke) h = h

-- The turn of a Continue for an open dialogue is what is planned for the transaction after it.
pub continue_planned : (s : ShardState) (from origin destination : List ℕ) (o : Opened) (cs : List (Component Parameter)) (plan : Plan)
    → IsForIt s.dialogues (Continue origin destination) o
    → ((t : machine.Transaction) → for_it (transact (Some (transaction_of o.dialogue.transaction)) (ContinueComes from origin)) ≡ Some t
    → IsPlan s (Continues o.id (with_transaction s.dialogues o t) (map (component parameter) cs)) plan)
    → IsPlan s (continue_at from origin destination (map (component parameter) cs) (dialogues_of s.dialogues destination)) plan
continue_planned s from origin destination o cs plan for_it_is plans =
    let heard_ones = map (component parameter) cs in
    let d = seen_as s.dialogues o in
    let there : dialogues_of s.dialogues destination ≡ Some d = ap (dialogues_of s.dialogues) (sym for_it_is.at) ∙ for_it_is.opened.is_open in
    let after = transaction_after from origin destination d (ap (looked from (Continue origin destination)) (sym there) ∙ for_it_is.told from) in
    let turn : Continues o.id (with_transaction s.dialogues o after.0) heard_ones
    ≡ continue_at from origin destination heard_ones (dialogues_of s.dialogues destination) =
    ap (λ id. Continues id (with_transaction s.dialogues o after.0) heard_ones) for_it_is.at
    ∙ sym (continue_is from origin destination heard_ones d after.0 after.1)
    ∙ ap (continue_at from origin destination heard_ones) (sym there) in
    subst (λ (t : Turn). IsPlan s t plan) turn (plans after.0 after.1)
