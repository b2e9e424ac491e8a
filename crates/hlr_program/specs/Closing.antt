-- What is printed about the register at the end of a script, if the options ask for it (profile).
use Rattle.std.specs.Prelude.{◌≡◌, ℕ, Bool, true, false, List, [], ◌∷◌, ◌++◌, codes as text}
use Rattle.std.specs.List.{flat_map}
use Rattle.texts.specs.Lines.{lines}
use Rattle.audit.specs.Listing.{ListsRecords, ListsDialogues, ListsJournal}
use Rattle.audit.specs.Saving.{Saves}
use Rattle.shardlog.specs.Log.{Log}

-- The records, the open dialogues and the journals, in this order.
pub record Lists (shards : List Log) (listed : List ℕ) : Type 0 where
  pub records : List ℕ
  pub dialogues : List ℕ
  pub journals : List ℕ
  pub are_records : ListsRecords shards records
  pub are_dialogues : ListsDialogues shards dialogues
  pub are_journals : ListsJournal shards journals
  pub whole : listed ≡ records ++ dialogues ++ journals

-- The lines of the saved records file, each after `V `.
abbrev pub behind_v : List ℕ → List ℕ
behind_v file = flat_map (λ line. text "V " ++ line ++ 10 ∷ []) (lines file)

abbrev pub SavesLines : List Log → List ℕ → Type 0
SavesLines shards saved = (file : List ℕ) × Saves shards file × (saved ≡ behind_v file)

-- This if it is asked for, otherwise nothing.
abbrev pub Asked : Bool → (List ℕ → Type 0) → List ℕ → Type 0
Asked true Is printed = Is printed
Asked false Is printed = printed ≡ []

-- The listings, and at the very end what is saved.
pub record Closes (list save : Bool) (shards : List Log) (printed : List ℕ) : Type 0 where
  pub listed : List ℕ
  pub saved : List ℕ
  pub is_listed : Asked list (Lists shards) listed
  pub is_saved : Asked save (SavesLines shards) saved
  pub whole : printed ≡ listed ++ saved
