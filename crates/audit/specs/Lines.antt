-- The lines of a listing, each with its line feed (profile).
use Rattle.std.specs.Prelude.{ℕ, List, [], ◌∷◌, ◌++◌, length, Option, Some, None, codes as text}
use Rattle.std.specs.Fmt.{decimal, signed_decimal}
use Rattle.std.specs.List.{flat_map}
use Rattle.hex.specs.Hex.{encode_upper}
use Rattle.hlr_types.specs.DigitTexts.{text_of}
use Rattle.machine.specs.State.{Dialogue, Invocation, Kind, Updates, Cancels, Data, Was, OperationSent, WaitForReject}
use Rattle.frames.specs.Octets.{RawEntry, RawEvent, RawFrame, RawClock, RawExpire, RawChange}
use Rattle.records.specs.declared.version.Version.TheVariants.{Two}
use Rattle.records.specs.Subscriber.{Subscriber}
use Rattle.records.specs.Written.{record_line}

-- ---- `R <record line>`

abbrev pub record_text : Subscriber → List ℕ
record_text s = text "R " ++ record_line Two s ++ 10 ∷ []

-- ---- `D <id> <update|cancel|data> <Sent|Active> <imsi> <remote id or ->`, and `I <invoke> <sent|wait> <deadline>` for each of the
-- dialogue's invocations

abbrev pub kind_text : Kind → List ℕ
kind_text (Updates register invoke) = text "update"
kind_text (Cancels vlr attempt why) = text "cancel"
kind_text Data = text "data"

abbrev pub standing_text : (remote : Option (List ℕ)) → List ℕ
standing_text None = text "Sent"
standing_text (Some remote) = text "Active"

abbrev pub remote_text : (remote : Option (List ℕ)) → List ℕ
remote_text None = text "-"
remote_text (Some remote) = encode_upper remote

abbrev pub was_text : Was → List ℕ
was_text OperationSent = text "sent"
was_text WaitForReject = text "wait"

abbrev pub invocation_text : Invocation → List ℕ
invocation_text v = text "I " ++ signed_decimal v.id ++ text " " ++ was_text v.was ++ text " " ++ decimal v.deadline ++ 10 ∷ []

abbrev pub dialogue_line : List ℕ → Dialogue → List ℕ
dialogue_line id d =
    text "D " ++ encode_upper id ++ text " " ++ kind_text d.kind ++ text " " ++ standing_text d.transaction.remote ++ text " " ++ text_of
    d.subscriber ++ text " "
    ++ remote_text d.transaction.remote ++ 10 ∷ []

-- The lines of an open dialogue.
abbrev pub dialogue_text : List ℕ → Dialogue → List ℕ
dialogue_text id d = dialogue_line id d ++ flat_map invocation_text d.invocations

-- ---- `J <shard> <position> <F|C|E|O> <subject or -> <frames sent>`

abbrev pub letter_text : RawEvent → List ℕ
letter_text (RawFrame from octets) = text "F"
letter_text (RawClock shard now) = text "C"
letter_text (RawExpire shard) = text "E"
letter_text (RawChange imsi change) = text "O"

abbrev pub subject_text : Option (List ℕ) → List ℕ
subject_text None = text "-"
subject_text (Some imsi) = text_of imsi

abbrev pub entry_text : (shard position : ℕ) → RawEntry → List ℕ
entry_text shard position e =
    text "J " ++ decimal shard ++ text " " ++ decimal position ++ text " " ++ letter_text e.event ++ text " " ++ subject_text e.subject ++
    text " "
    ++ decimal (length e.outs) ++ 10 ∷ []
