-- Runs one after another.
use Rattle.std.proofs.Common.{◌≡◌, List, [], ◌∷◌, ◌++◌, map, length, refl, sym, ap, ◌∙◌, append_assoc}
use Rattle.std.specs.List.{flat_map}
use Rattle.std.proofs.lemmas.List.{length-map, map-append}
use Rattle.machine.specs.State.{State}
use Rattle.frames.specs.Octets.{RawEvent, RawOut}
use Rattle.wholenode.specs.Handling.{IsRun}
use Rattle.workers.proofs.Runs.{run_join}

pub runs_join : (S T U : State) (es bs : List RawEvent) (x y : List (List RawOut)) → IsRun S es x T → IsRun T bs y U → IsRun S (es ++ bs) (x ++ y) U
runs_join S T U es bs x y h k = record {
  entries = h.entries ++ k.entries;
  events = map-append (λ e. e.event) h.entries k.entries ∙ ap (λ (l : List RawEvent). l ++ map (λ e. e.event) k.entries) h.events
      ∙ ap (λ (l : List RawEvent). es ++ l) k.events;
  outs = map-append (λ e. e.outs) h.entries k.entries ∙ ap (λ (l : List (List RawOut)). l ++ map (λ e. e.outs) k.entries) h.outs
      ∙ ap (λ (l : List (List RawOut)). x ++ l) k.outs;
  run = run_join S T U h.entries k.entries h.run k.run;
}

pub no_run : (S : State) → IsRun S [] [] S
no_run S = record { entries = []; events = refl; outs = refl; run = refl }

-- an answer for each event
pub one_each : (S T : State) (es : List RawEvent) (x : List (List RawOut)) → IsRun S es x T → length x ≡ length es
one_each S T es x h =
    ap length (sym h.outs) ∙ length-map h.entries (λ e. e.outs) ∙ sym (length-map h.entries (λ e. e.event)) ∙ ap length h.events

pub flat_join : (x y : List (List RawOut)) → flat_map (λ o. o) (x ++ y) ≡ flat_map (λ o. o) x ++ flat_map (λ o. o) y
flat_join [] y = refl
flat_join (o ∷ x) y = ap (λ (l : List RawOut). o ++ l) (flat_join x y) ∙ sym (append_assoc o (flat_map (λ o. o) x) (flat_map (λ o. o) y))
