-- Worked examples of lines, of the order of entries, and of the records file that is saved.
use Rattle.std.specs.Prelude.{◌≡◌, ℕ, false, List, [], ◌∷◌, ◌++◌, map as each, ◌-◌, pos, Option, Some, None, codes as text}
use Rattle.std.specs.declared.cmp.Ordering.TheVariants.{Less, Greater}
use Rattle.machine.specs.Events.{Withdraw}
use Rattle.machine.specs.Sent.{UpdateProcedure}
use Rattle.machine.specs.State.{Kind, Updates, Cancels, Data, OperationSent, WaitForReject}
use Rattle.frames.specs.Octets.{RawEvent, RawFrame, RawClock, RawExpire, RawChange}
use Rattle.records.specs.Subscriber.{Subscriber}
use Rattle.shardlog.specs.Log.{Log}
use Rattle.audit.specs.Lines.{dialogue_text, entry_text}
use Rattle.audit.specs.Listing.{place_cmp, records_in}
use Rattle.audit.specs.Saving.{SavesUnder}

-- the digits of a text
abbrev pub digits : List ℕ → List ℕ
digits written = each (λ character. character - 48) written

abbrev pub imsi : List ℕ
imsi = digits (text "234150000000001")

-- the line of an entry with this event, this subject and one frame sent, at position 2 of shard 12
abbrev pub line_of_entry : RawEvent → (subject : Option (List ℕ)) → List ℕ
line_of_entry event subject = entry_text 12 2 (record { event = event; id = None; subject = subject; outs = record { to = imsi; octets = [] } ∷ [] })

-- the lines of a dialogue of this kind, with this remote id
abbrev pub lines_of_dialogue : Kind → (remote : Option (List ℕ)) → List ℕ
lines_of_dialogue kind remote =
    dialogue_text (1 ∷ 0 ∷ 16 ∷ 0 ∷ []) (record {
      subscriber = imsi;
      transaction = record { peer = imsi; remote = remote };
      invocations = record { id = pos 1; was = WaitForReject; deadline = 8 } ∷ record { id = pos 2; was = OperationSent; deadline = 20 } ∷ [];
      kind = kind;
    })

abbrev pub lines_of_invocations : List ℕ
lines_of_invocations = text "I 1 wait 8" ++ 10 ∷ (text "I 2 sent 20" ++ 10 ∷ [])

-- The lines of entries and of open dialogues, and which of two entries comes first.
pub record WorkedLines : Type 0 where
  pub frame : line_of_entry (RawFrame imsi []) (Some imsi) ≡ text "J 12 2 F 234150000000001 1" ++ 10 ∷ []
  pub clock : line_of_entry (RawClock 12 5) None ≡ text "J 12 2 C - 1" ++ 10 ∷ []
  pub expiry : line_of_entry (RawExpire 12) (Some imsi) ≡ text "J 12 2 E 234150000000001 1" ++ 10 ∷ []
  pub change : line_of_entry (RawChange imsi Withdraw) (Some imsi) ≡ text "J 12 2 O 234150000000001 1" ++ 10 ∷ []
  pub update : lines_of_dialogue (Updates (record { vlr = imsi; msc = imsi; lmsi = None }) (pos 1)) (Some (0 ∷ 11 ∷ []))
      ≡ text "D 01001000 update Active 234150000000001 000B" ++ 10 ∷ lines_of_invocations
  pub cancel : lines_of_dialogue (Cancels imsi 1 UpdateProcedure) None ≡ text "D 01001000 cancel Sent 234150000000001 -" ++ 10 ∷ lines_of_invocations
  pub new_codes : lines_of_dialogue Data None ≡ text "D 01001000 data Sent 234150000000001 -" ++ 10 ∷ lines_of_invocations
  pub by_shard : place_cmp (0, 7) (1, 0) ≡ Less
  pub by_number : place_cmp (10, 0) (9, 7) ≡ Greater
  pub by_position : place_cmp (1, 2) (1, 10) ≡ Less

-- ---- the records file

abbrev pub hlr : List ℕ
hlr = digits (text "447700900100")

-- a record with this IMSI and this MSISDN
abbrev pub subscriber : (imsi msisdn : List ℕ) → Subscriber
subscriber imsi msisdn = record {
  imsi = imsi;
  msisdn = msisdn;
  codes = [];
  roam = None;
  register = None;
  purged = false;
  current = None;
  withdrawn = false;
}

-- The IMSI of the subscriber of shard 0 is the greater one.
abbrev pub of_shard_0 : Subscriber
of_shard_0 = subscriber (digits (text "234150000000016")) (digits (text "447700900000"))

abbrev pub of_shard_1 : Subscriber
of_shard_1 = subscriber imsi (digits (text "447700900001"))

-- the first line of the file, and its lines of the two records
abbrev pub header : List ℕ
header = text "HLR2 447700900100\n"

abbrev pub line_0 : List ℕ
line_0 = text "234150000000016 447700900000 - * - a\n"

abbrev pub line_1 : List ℕ
line_1 = text "234150000000001 447700900001 - * - a\n"

-- The records are saved by IMSI, and not by shard.
pub record SavedByImsi : Type 0 where
  pub saved : (shards : List Log) → records_in shards ≡ of_shard_0 ∷ of_shard_1 ∷ [] → SavesUnder hlr shards (header ++ line_1 ++ line_0)
  pub alone : (shards : List Log) (written : List ℕ) → records_in shards ≡ of_shard_0 ∷ of_shard_1 ∷ [] → SavesUnder hlr shards written
      → written ≡ header ++ line_1 ++ line_0
  pub not_by_shard : (shards : List Log) → records_in shards ≡ of_shard_0 ∷ of_shard_1 ∷ [] → SavesUnder hlr shards (header ++ line_0 ++ line_1) → ⊥
