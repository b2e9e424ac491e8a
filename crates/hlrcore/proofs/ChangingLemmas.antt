-- The named dialogue goes on.
use Rattle.std.proofs.Common.{◌≡◌, ◌≢◌, List, ℕ, Option, Some, None, refl, sym, ap, ◌∙◌}
use Rattle.std.specs.Prelude.{option_map}
use Rattle.machine.specs.Keys.{put}
use Rattle.machine.specs.State.{Dialogue, Invocation}
use Rattle.machine_laws.proofs.Keys.{put-same}
use Rattle.dialogues.specs.Dialogues.{activated, gone_on}
use Rattle.hlrcore.proofs.RecordLemmas.{put_twice}

module _ (before after : List ℕ → Option Dialogue) (id : List ℕ) (left : List Invocation)
    (goes : after ≡ put before id (option_map (gone_on left) (before id))) where
  went : after id ≡ option_map (gone_on left) (before id)
  went = ap (λ f. f id) goes ∙ put-same before id (option_map (gone_on left) (before id))

  pub stays_open : before id ≢ None → after id ≢ None
  stays_open some none = by (before id) some (sym went ∙ none)
    where
      by : (o : Option Dialogue) → o ≢ None → option_map (gone_on left) o ≡ None → ⊥
      by None n e = n refl
      by (Some d) n e = absurd cc

  pub goes_on_active : (peer remote : List ℕ) (last : List ℕ → Option Dialogue) → last ≡ put after id (option_map (activated peer remote) (after id))
      → last ≡ put before id (option_map (gone_on left) (option_map (activated peer remote) (before id)))
  goes_on_active peer remote last sets =
      sets ∙ ap (λ f. put f id (option_map (activated peer remote) (after id))) goes
      ∙ put_twice before id (option_map (gone_on left) (before id)) (option_map (activated peer remote) (after id))
      ∙ ap (put before id) (ap (option_map (activated peer remote)) went ∙ turned (before id))
    where
      turned : (o : Option Dialogue) → option_map (activated peer remote) (option_map (gone_on left) o) ≡ option_map (gone_on left) (option_map (activated peer remote) o)
      turned None = refl
      turned (Some d) = refl
