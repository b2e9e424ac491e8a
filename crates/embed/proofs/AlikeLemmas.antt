-- The same lines lead registers that are alike to the same.
use Rattle.std.proofs.Common.{◌≡◌, ℕ, List, [], ◌∷◌, ◌++◌, append_assoc, Bool, true, false, Option, Some, None, refl, sym, ap, subst, ◌∙◌, inl, inr}
use Rattle.std.specs.Prelude.{slice_get}
use Rattle.std.specs.List.{flat_map}
use Rattle.std.proofs.lemmas.List.{append-nil, append_cancel_left}
use Rattle.machine.specs.Deadlines.{HasDue}
use Rattle.machine.specs.Parts.{union}
use Rattle.machine.specs.State.{State}
use Rattle.frames.specs.Octets.{RawEvent, RawFrame, RawClock, RawExpire, RawChange, RawOut}
use Rattle.shardlog.specs.Log.{Log}
use Rattle.wholenode.specs.Handling.{sent_of}
use Rattle.wholenode.specs.Nodes.{NodeState, state_at, whole}
use Rattle.wholenode.specs.Replaying.{AreAlike, AreAlikeAt}
use Rattle.wholenode.specs.Ticking.{clocks_from}
use Rattle.wholenode.proofs.ReplayLemmas.{replayed}
use Rattle.embed.specs.Lookups.{IsIdle}
use Rattle.embed.specs.Registers.{Gives, RegisterState, SetsClocks}
use Rattle.embed.specs.Replay.{Does}
use Rattle.embed.specs.Replaying.{AreReplayedAlike, IsRunReplayed}
use Rattle.embed.proofs.OnceLemmas.{clock_once, event_once, event_or_clock}

-- ---- an event that does nothing in one does nothing in the other

state_same : (o p : Option Log) → AreAlikeAt o p → state_at o ≡ state_at p
state_same None None alike = refl
state_same (Some l) (Some m) alike = alike.state
state_same None (Some m) alike = absurd alike
state_same (Some l) None alike = absurd alike

whole_same : (here there : NodeState) → AreAlike here there → whole here.shards ≡ whole there.shards
whole_same here there alike = ap union (λ i n. state_same (slice_get here.shards n) (slice_get there.shards n) (alike.shards n) i)

idle_also : (here there : NodeState) → whole here.shards ≡ whole there.shards → (raw : RawEvent) → IsIdle here raw → IsIdle there raw
idle_also here there same (RawFrame from octets) idle = idle
idle_also here there same (RawClock n now) idle = idle
idle_also here there same (RawExpire n) idle = subst (λ (S : State). HasDue S n → ⊥) same idle
idle_also here there same (RawChange imsi change) idle = subst (λ (S : State). S.records imsi ≡ None) same idle

-- ---- a line

-- The same is sent, and the nodes are alike again.
record Goes (here there after behind : RegisterState) : Type 0 where
  sent : List RawOut
  waits : after.waiting ≡ here.waiting ++ sent
  also : behind.waiting ≡ there.waiting ++ sent
  alike : AreAlike after.node behind.node

-- nothing was done
stays : (here there after behind : RegisterState) → AreAlike here.node there.node → after ≡ here → behind ≡ there → Goes here there after behind
stays here there after behind alike same other = record {
  sent = [];
  waits = ap (λ (r : RegisterState). r.waiting) same ∙ sym (append-nil here.waiting);
  also = ap (λ (r : RegisterState). r.waiting) other ∙ sym (append-nil there.waiting);
  alike = subst (λ (r : RegisterState). AreAlike r.node behind.node) (sym same) (subst (λ (r : RegisterState). AreAlike here.node r.node) (sym other) alike);
}

event_again : (here there after behind : RegisterState) (raw : RawEvent) (a b : Bool) → AreAlike here.node there.node → Gives a here raw after
    → Gives b there raw behind → Goes here there after behind
event_again here there after behind raw true true alike (does, t) (also, u) =
    let both = replayed here.node there.node after.node behind.node (raw ∷ []) (t.handled ∷ []) (u.handled ∷ []) alike
    (after.node, t.takes, refl) (behind.node, u.takes, refl) in
    let same : sent_of t.handled ≡ sent_of u.handled = cc (both.0) in record {
      sent = sent_of t.handled;
      waits = t.waiting;
      also = u.waiting ∙ ap (λ (frames : List RawOut). there.waiting ++ frames) (sym same);
      alike = both.1;
    }
event_again here there after behind raw false false alike (idle, same) (too, other) = stays here there after behind alike same other
event_again here there after behind raw true false alike (does, t) (idle, other) =
    absurd (does (idle_also there.node here.node (sym (whole_same here.node there.node alike)) raw idle))
event_again here there after behind raw false true alike (idle, same) (does, u) =
    absurd (does (idle_also here.node there.node (whole_same here.node there.node alike) raw idle))

clocks_again : (here there after behind : RegisterState) (now : ℕ) → AreAlike here.node there.node → SetsClocks here now after → SetsClocks there now behind
    → Goes here there after behind
clocks_again here there after behind now alike s t =
    let both = replayed here.node there.node after.node behind.node (clocks_from 0 16 now) s.ticks.handled t.ticks.handled alike s.ticks.runs t.ticks.runs in record {
      sent = [];
      waits = s.waiting ∙ sym (append-nil here.waiting);
      also = t.waiting ∙ sym (append-nil there.waiting);
      alike = both.1;
    }

line_again : (here there after behind : RegisterState) (line : List ℕ) → AreAlike here.node there.node → Does here line after → Does there line behind
    → Goes here there after behind
line_again here there after behind line alike (inl (raw, a, is, gives)) (inl (other, b, too, given)) =
    event_again here there after behind raw a b alike gives
    (subst (λ (r : RawEvent). Gives b there r behind) (event_once line other raw too is) given)
line_again here there after behind line alike (inr (now, is, sets)) (inr (other, too, set)) =
    clocks_again here there after behind now alike sets
    (subst (λ (n : ℕ). SetsClocks there n behind) (clock_once line other now too is) set)
line_again here there after behind line alike (inl (raw, a, is, gives)) (inr (other, too, set)) = absurd (event_or_clock line raw other is too)
line_again here there after behind line alike (inr (now, is, sets)) (inl (other, b, too, given)) = absurd (event_or_clock line other now too is)

-- ---- the lines of a log

pub replayed_alike : AreReplayedAlike
replayed_alike here there after behind [] alike same other = record {
  nodes = subst (λ (r : RegisterState). AreAlike r.node behind.node) (sym same)
      (subst (λ (r : RegisterState). AreAlike here.node r.node) (sym other) alike.nodes);
  waiting = ap (λ (r : RegisterState). r.waiting) same ∙ alike.waiting ∙ sym (ap (λ (r : RegisterState). r.waiting) other);
}
replayed_alike here there after behind (line ∷ more) alike (m, does, rest) (n, also, others) =
    let one = line_again here there m n line alike.nodes does also in
    replayed_alike m n after behind more (record {
      nodes = one.alike;
      waiting = one.waits ∙ ap (λ (frames : List RawOut). frames ++ one.sent) alike.waiting ∙ sym one.also;
    }) rest others

pub run_replayed : IsRunReplayed
run_replayed here there after behind [] [] alike same other = (
  subst (λ (n : NodeState). AreAlike n behind.node) (sym same) (subst (λ (r : RegisterState). AreAlike here.node r.node) (sym other) alike),
  ap (λ (r : RegisterState). r.waiting) other ∙ sym (append-nil there.waiting),
)
run_replayed here there after behind [] (frames ∷ rest) alike run replay = absurd run
run_replayed here there after behind (line ∷ more) [] alike run replay = absurd run
run_replayed here there after behind (line ∷ more) (frames ∷ rest) alike (given, done, same, does, sent, later) (n, also, others) =
    let one = line_again given there done n line (subst (λ (k : NodeState). AreAlike k there.node) (sym same) alike) does also in
    let frames_are : one.sent ≡ frames = append_cancel_left given.waiting one.sent frames (sym one.waits ∙ sent) in
    let then = run_replayed done n after behind more rest one.alike later others in
    let waits : n.waiting ≡ there.waiting ++ frames = one.also ∙ ap (λ (f : List RawOut). there.waiting ++ f) frames_are in
    (then.0, then.1 ∙ ap (λ (f : List RawOut). f ++ flat_map (λ l. l) rest) waits ∙ append_assoc there.waiting frames (flat_map (λ l. l) rest))
