-- How the register begins.
use Rattle.std.proofs.Common.{◌<◌, ℕ, List, [], refl, sym, Option}
use Rattle.machine.specs.Opening.{AreLoaded, opening}
use Rattle.machine.specs.Legal.{Legal}
use Rattle.machine.specs.Sound.{Sound}
use Rattle.machine.specs.State.{Subscriber}
use Rattle.machine.specs.Parts.{part}
use Rattle.machine_laws.proofs.Growing.{begins_sound, legal_begins}
use Rattle.machine_laws.proofs.Merging.{part_sound, part_alike, part_agrees}

pub opening_sound : (records : List ℕ → Option Subscriber) (directory : List ℕ → Option (List ℕ)) (hlr : List ℕ) → AreLoaded records
    → Sound (opening records directory hlr)
unfolding opening
opening_sound records directory hlr loaded = begins_sound (opening records directory hlr) (λ i. refl)
    (λ x s e. ((loaded x s e).unmarked, (loaded x s e).purged, (loaded x s e).withdrawn))

-- each shard begins with its part
pub opening_legal : (records : List ℕ → Option Subscriber) (directory : List ℕ → Option (List ℕ)) (hlr : List ℕ) (n : ℕ) → AreLoaded records → n < 16
    → Legal n (part (opening records directory hlr) n) [] (part (opening records directory hlr) n)
opening_legal records directory hlr n loaded small =
    legal_begins n (part (opening records directory hlr) n) small
    (part_sound n _ (opening_sound records directory hlr loaded))
    (sym (part_alike n _ _ (part_agrees n (opening records directory hlr))))
