-- A register with the frames that wait to be sent.
use Rattle.std.specs.Prelude.{◌≡◌, ◌++◌, ℕ, List, [], Bool, true, false, Option, None, refl}
use Rattle.std.specs.Coded.{Coded, code_by, coded×, coded_list, coded_option}
use Rattle.frames.specs.Octets.{RawEvent, RawOut}
use Rattle.records.specs.File.{Contents}
use Rattle.records.specs.Loaded.{loaded_from}
use Rattle.records.specs.Subscriber.{coded_digits}
use Rattle.hlrcore.specs.Frames.{raw_out_code}
use Rattle.shardlog.specs.declared.entry.Handled.{Handled}
use Rattle.shardlog.specs.declared.keep.Keep.{Keep}
use Rattle.shardlog.specs.declared.keep.Keep.TheVariants.{Nothing}
use Rattle.wholenode.specs.Handling.{Takes, sent_of}
use Rattle.wholenode.specs.Keeping.{NodeKeeps}
use Rattle.wholenode.specs.Nodes.{NodeState, node_state_code}
use Rattle.wholenode.specs.Opening.{BeginsWith}
use Rattle.wholenode.specs.Ticking.{TicksAll}
use Rattle.embed.specs.Keeping.{KeepsNothing}
use Rattle.embed.specs.Lookups.{IsIdle}
use Rattle.embed.specs.Numbers.{AreNumbered}
use Rattle.embed.specs.Waiting.{IsQueue}

-- The shards with their journals; the frames that were not taken yet, in the order in which they are sent; and the subject of the last event,
-- if it had one.
pub record RegisterState : Type 0 where
  pub node : NodeState
  pub waiting : List RawOut
  pub subject : Option (List ℕ)

abbrev pub register : NodeState → List RawOut → Option (List ℕ) → RegisterState
register node waiting subject = record { node = node; waiting = waiting; subject = subject }

abbrev pub register_state_code : Coded RegisterState
register_state_code =
    code_by (NodeState × (List RawOut × Option (List ℕ))) (coded× node_state_code (coded× (coded_list raw_out_code) (coded_option coded_digits)))
    (λ r. (r.node, (r.waiting, r.subject))) (λ p. register p.0 p.1.0 p.1.1) (λ _. refl)

-- What every register keeps: the frames that wait are a queue, and the directory is that of the records.
pub record IsKept (node : NodeState) (taken : ℕ) (lists : List (List RawOut)) : Type 0 where
  pub queue : IsQueue taken lists
  pub numbers : AreNumbered node

-- The register of a records file with these contents, at the start with this number, which keeps journals or none: no dialogue is open, each
-- clock is at 0, no frame waits, and no event has come.
pub record Opens (contents : Contents) (keep : Keep) (start : ℕ) (r : RegisterState) : Type 0 where
  pub begins : BeginsWith (loaded_from contents) keep start r.node
  pub keeps : NodeKeeps r.node
  pub waiting : r.waiting ≡ []
  pub subject : r.subject ≡ None
  pub nothing : keep ≡ Nothing → KeepsNothing r.node

-- The event is handled, exactly what it sends waits after the frames that still wait, and its subject is that of its step.
pub record Answers (before : RegisterState) (raw : RawEvent) (after : RegisterState) : Type 0 where
  pub handled : Handled
  pub takes : Takes before.node raw handled after.node
  pub keeps : NodeKeeps after.node
  pub waiting : after.waiting ≡ before.waiting ++ sent_of handled
  pub subject : after.subject ≡ handled.subject
  pub nothing : KeepsNothing before.node → KeepsNothing after.node

-- The event is handled, or it does nothing, and nothing changes.
abbrev pub Gives : (is_handled : Bool) → (before : RegisterState) → RawEvent → (after : RegisterState) → Type 0
Gives true before raw after = (IsIdle before.node raw → ⊥) × Answers before raw after
Gives false before raw after = IsIdle before.node raw × (after ≡ before)

-- Each of the sixteen shards handles the clock value, one after the other, and the same frames wait. A clock value is about nobody.
pub record SetsClocks (before : RegisterState) (now : ℕ) (after : RegisterState) : Type 0 where
  pub ticks : TicksAll before.node now after.node
  pub keeps : NodeKeeps after.node
  pub waiting : after.waiting ≡ before.waiting
  pub subject : after.subject ≡ None
  pub nothing : KeepsNothing before.node → KeepsNothing after.node
