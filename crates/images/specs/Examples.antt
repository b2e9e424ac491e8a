-- Worked examples of the image of a shard: shard 1 with one open update.
use Rattle.std.specs.Prelude.{◌≡◌, ℕ, false, pos, List, [], ◌∷◌, ◌++◌, Option, Some, None, codes as text}
use Rattle.std.specs.FinMap as map
use Rattle.hlr_types.specs.Orders.{octets_cmp}
use Rattle.machine.specs.State.{Dialogue, Updates, OperationSent}
use Rattle.records.specs.Maps.{DirectoryMap, RecordMap}
use Rattle.records.specs.Subscriber.{Subscriber}
use Rattle.hlrcore.specs.Shards.{ShardState}
use Rattle.image_lines.specs.Examples.{digits, vlr}
use Rattle.images.specs.Written.{shard_text}

abbrev pub imsi : List ℕ
imsi = digits (text "234150000000001")

-- the local id of the update
abbrev pub id : List ℕ
id = 1 ∷ 0 ∷ 16 ∷ 0 ∷ []

-- the update, whose insert waits for its result
abbrev pub update : Dialogue
update = record {
  subscriber = imsi;
  transaction = record { peer = vlr; remote = Some (0 ∷ 11 ∷ []) };
  invocations = record { id = pos 1; was = OperationSent; deadline = 27 } ∷ [];
  kind = Updates (record { vlr = vlr; msc = digits (text "447700900012"); lmsi = None }) (pos 1);
}

-- the record of its subscriber, with this id as that of the current update
abbrev pub subscriber : (current : Option (List ℕ)) → Subscriber
subscriber current = record {
  imsi = imsi;
  msisdn = digits (text "447700900000");
  codes = [];
  roam = None;
  register = None;
  purged = false;
  current = current;
  withdrawn = false;
}

-- shard 1 at clock 7; slot 0 was used once, and no slot is free
abbrev pub shard : RecordMap → map.FinMap octets_cmp Dialogue → DirectoryMap → (hlr : List ℕ) → ShardState
shard records open_ones directory hlr = record {
  shard = 1;
  clock = 7;
  records = records;
  dialogues = record { shard = 1; supply = record { first = 0; generations = 1 ∷ []; free = [] }; open_ones = open_ones };
  directory = directory;
  hlr = hlr;
}

-- its image, with this mark of the update
abbrev pub image_with : (mark : List ℕ) → List ℕ
image_with mark =
    text "S1 1 7 0\nT 01001000\nI 1 sent 27\nD 01001000 234150000000001 447700900011 000B " ++ mark
    ++ text " update 447700900011 447700900012 - 1\nE\n"

-- If the update is the one open dialogue, and the shard has this record of its subscriber, the image has this mark.
abbrev pub IsMarked : Option Subscriber → (mark : List ℕ) → Type 0
IsMarked r mark =
    (records : RecordMap) (open_ones : map.FinMap octets_cmp Dialogue) (directory : DirectoryMap) (hlr : List ℕ) → map.entries open_ones ≡ (id, update) ∷ []
    → map.get records imsi ≡ r → shard_text (shard records open_ones directory hlr) ≡ image_with mark

-- The update has the mark of a current one exactly if its subscriber's record names it.
pub record MarkedUpdates : Type 0 where
  pub current : IsMarked (Some (subscriber (Some id))) (text "*")
  pub overtaken : IsMarked (Some (subscriber (Some (1 ∷ 0 ∷ 16 ∷ 1 ∷ [])))) (text "-")
  pub not_marked : IsMarked (Some (subscriber None)) (text "-")
  pub nobody : IsMarked None (text "-")
