-- How the outcome of a procedure changes the records and the open dialogues.
use Rattle.std.specs.Prelude.{◌≡◌, ℕ, List, Option, Some, None, option_map, IfSome}
use Rattle.machine.specs.Keys.{put}
use Rattle.machine.specs.State as machine
use Rattle.machine.specs.Step.{named_stays, new_opens}
use Rattle.tidalloc.specs.LiveIds.{next_use}
use Rattle.dialogues.specs.Dialogues.{OpenDialogues, activated, next_of}
use Rattle.location.specs.declared.outcome.After.{After}
use Rattle.location.specs.declared.outcome.DialogueChange.{DialogueChange}
use Rattle.location.specs.Seen.{after_of, stays_of, opens_of}
use Rattle.hlrcore.specs.declared.plan.Named.{Named}
use Rattle.hlrcore.specs.declared.plan.Named.TheVariants.{Nothing, Open, Continued}
use Rattle.hlrcore.specs.Plans.{id_of}

-- the records after: that of the subscriber, if any, is changed as the outcome says
abbrev pub written : (codes : List ℕ) → After → (imsi : Option (List ℕ)) → (List ℕ → Option machine.Subscriber) → List ℕ → Option machine.Subscriber
written codes after None records = records
written codes after (Some imsi) records = put records imsi (after_of codes after (records imsi))

-- the named dialogue among the open ones, with its transaction as the received message leaves it
abbrev pub named_among : Named → (List ℕ → Option machine.Dialogue) → Option machine.Dialogue
named_among Nothing open_ones = None
named_among (Open id) open_ones = open_ones id
named_among (Continued id peer remote) open_ones = option_map (activated peer remote) (open_ones id)

-- the open dialogues after: the named one as it stays, and the one that opens
abbrev pub changed : (clock : ℕ) → Named → DialogueChange → (new : List ℕ) → (List ℕ → Option machine.Dialogue) → List ℕ → Option machine.Dialogue
changed clock named stays new open_ones =
    new_opens new (opens_of clock stays) (named_stays (id_of named) (stays_of (named_among named open_ones) stays) open_ones)

-- The id for a dialogue that opens, beside the open ones or in place of one.
abbrev pub IsNext : OpenDialogues → (place : Option (List ℕ)) → (new : List ℕ) → Type 0
IsNext d None new = IfSome (next_of d) (λ id. id ≡ new)
IsNext d (Some id) new = new ≡ next_use id
