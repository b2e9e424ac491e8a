use Rattle.std.proofs.Common.{◌≡◌, ℕ, List, [], ◌∷◌, Bool, true, false, refl, sym, ap, ◌∙◌, inl, inr}
use Rattle.std.specs.Fmt.{digits}
use Rattle.std.proofs.lemmas.Bool.{leb-true}
use Rattle.std.proofs.lemmas.List.{append-nil}
use Rattle.std.specs.Prelude.{codes as text}
use Rattle.frames.specs.Octets.{RawEvent, RawOut}
use Rattle.shardlog.specs.declared.entry.Handled.{Handled}
use Rattle.wholenode.specs.Handling.{Runs as NodeRuns}
use Rattle.wholenode.specs.Nodes.{NodeState}
use Rattle.wholenode.specs.Ticking.{clocks_from}
use Rattle.embed.specs.LogLines.{IsClockLine}
use Rattle.embed.specs.Registers.{Gives, RegisterState}
use Rattle.embed.specs.Replay.{Does}
use Rattle.embed.specs.Replaying.{Runs}
use Rattle.embed.proofs.examples.law_logged_runs.Goals as goal

clock_40 : IsClockLine (text "C 40") 40
unfolding digits
clock_40 = (refl, record { written_so = refl; most = leb-true _ _ refl })

clock_41 : IsClockLine (text "C 41") 41
unfolding digits
clock_41 = (refl, record { written_so = refl; most = leb-true _ _ refl })

-- ---- no line changes the directory

no_event : (before after : NodeState) (raws : List RawEvent) (handled : List Handled) → NodeRuns before raws handled after
    → after.directory ≡ before.directory
no_event before after [] [] runs = ap (λ (n : NodeState). n.directory) runs
no_event before after [] (h ∷ hs) runs = absurd runs
no_event before after (r ∷ rs) [] runs = absurd runs
no_event before after (r ∷ rs) (h ∷ hs) (between, takes, rest) =
    no_event between after rs hs rest ∙ ap (λ (n : NodeState). n.directory) takes.changed

no_given : (is_handled : Bool) (before : RegisterState) (raw : RawEvent) (after : RegisterState) → Gives is_handled before raw after
    → after.node.directory ≡ before.node.directory
no_given true before raw after (does, answers) = ap (λ (n : NodeState). n.directory) answers.takes.changed
no_given false before raw after (idle, same) = ap (λ (r : RegisterState). r.node.directory) same

no_line : (before : RegisterState) (line : List ℕ) (after : RegisterState) → Does before line after → after.node.directory ≡ before.node.directory
no_line before line after (inl (raw, is_handled, is, gives)) = no_given is_handled before raw after gives
no_line before line after (inr (now, is, sets)) = no_event before.node after.node (clocks_from 0 16 now) sets.ticks.handled sets.ticks.runs

no_run : (before after : RegisterState) (one other : List ℕ) (first second : List RawOut) → Runs before (one ∷ other ∷ []) (first ∷ second ∷ []) after
    → after.node.directory ≡ before.node.directory
no_run before after one other first second (given, done, same, does, sent, (next, last, also, goes, more, ends)) =
    ap (λ (n : NodeState). n.directory) ends ∙ no_line next other last goes ∙ ap (λ (n : NodeState). n.directory) also ∙ no_line given one done does
    ∙ ap (λ (n : NodeState). n.directory) same

pub returns : goal.returns
returns c = record {
  no_line = λ r. refl;
  two_lines = λ before between after first second. (
    before,
    between,
    refl,
    inr (40, clock_40, first),
    first.waiting ∙ sym (append-nil before.waiting),
    (between, after, refl, inr (41, clock_41, second), second.waiting ∙ sym (append-nil between.waiting), refl),
  );
  frames_taken = λ before between after first second. (
    before,
    between,
    refl,
    inr (40, clock_40, first),
    first.waiting ∙ sym (append-nil before.waiting),
    (record between { waiting = [] }, after, refl, inr (41, clock_41, second), second.waiting, refl),
  );
  other_directory = λ before after first second other runs. other (no_run before after _ _ first second runs);
  frames_of_no_line = λ before after frames runs. runs;
}
