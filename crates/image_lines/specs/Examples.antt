-- Worked examples of lines, and of texts that are no line.
use Rattle.std.specs.Prelude.{◌≡◌, ◌-◌, ◌^◌, ℕ, true, false, pos, negsuc, List, [], ◌∷◌, map as each, Option, Some, None, codes as text}
use Rattle.machine.specs.Sent.{UpdateProcedure, SubscriptionWithdraw}
use Rattle.machine.specs.State.{Dialogue, Kind, Updates, Cancels, Data, OperationSent, WaitForReject}
use Rattle.image_lines.specs.Lines.{IsLine, Line, Shard, Used, Freed, Opened, Waits, End, line_text}

-- the digits of a text
abbrev pub digits : List ℕ → List ℕ
digits written = each (λ character. character - 48) written

-- shard 12
abbrev pub id : List ℕ
id = 12 ∷ 0 ∷ 16 ∷ 1 ∷ []

abbrev pub vlr : List ℕ
vlr = digits (text "447700900011")

-- a dialogue of this kind with this VLR, and this remote id
abbrev pub dialogue : Kind → (remote : Option (List ℕ)) → Dialogue
dialogue kind remote = record {
  subscriber = digits (text "234150000000001");
  transaction = record { peer = vlr; remote = remote };
  invocations = [];
  kind = kind;
}

abbrev pub update : (lmsi : Option (List ℕ)) → Kind
update lmsi = Updates (record { vlr = vlr; msc = digits (text "447700900012"); lmsi = lmsi }) (negsuc 127)

-- The text is that of the line, which may stand in an image.
abbrev pub Has : List ℕ → Line → Type 0
Has written line = (written ≡ line_text line) × IsLine line

pub record WorkedLines : Type 0 where
  pub first_shard : Has (text "S1 0 0 0") (Shard 0 0 0)
  pub last_shard : Has (text "S1 15 4611686018427387904 4095") (Shard 15 (2 ^ 62) 4095)
  pub used : Has (text "T 0C001001") (Used id)
  pub freed : Has (text "F 0C001001") (Freed id)
  pub current_update : Has
      (text "D 0C001001 234150000000001 447700900011 000B * update 447700900011 447700900012 DEADBEEF -128")
      (Opened id true (dialogue (update (Some (0xDE ∷ 0xAD ∷ 0xBE ∷ 0xEF ∷ []))) (Some (0 ∷ 11 ∷ []))))
  pub other_update : Has
      (text "D 0C001001 234150000000001 447700900011 0A0B0C0D - update 447700900011 447700900012 - -128")
      (Opened id false (dialogue (update None) (Some (10 ∷ 11 ∷ 12 ∷ 13 ∷ []))))
  pub cancel : Has
      (text "D 0C001001 234150000000001 447700900011 - - cancel 447700900011 3 update")
      (Opened id false (dialogue (Cancels vlr 3 UpdateProcedure) None))
  pub withdrawal : Has
      (text "D 0C001001 234150000000001 447700900011 FF - cancel 447700900011 1 withdraw")
      (Opened id false (dialogue (Cancels vlr 1 SubscriptionWithdraw) (Some (255 ∷ []))))
  pub new_codes : Has (text "D 0C001001 234150000000001 447700900011 - - data") (Opened id false (dialogue Data None))
  pub waits : Has (text "I 0 sent 20") (Waits (record { id = pos 0; was = OperationSent; deadline = 20 }))
  pub answered : Has
      (text "I -1 wait 18446744073709551615")
      (Waits (record { id = negsuc 0; was = WaitForReject; deadline = 18446744073709551615 }))
  pub whole : Has (text "E") End

-- The text is that of no line that may stand in an image.
abbrev pub IsNone : List ℕ → Type 0
IsNone written = (line : Line) → IsLine line → ¬ (written ≡ line_text line)

pub record NoLines : Type 0 where
  pub empty : IsNone []
  pub other_letter : IsNone (text "G 0C001001")
  pub other_version : IsNone (text "S2 0 0 0")
  pub shard_16 : IsNone (text "S1 16 0 0")
  pub late_clock : IsNone (text "S1 15 4611686018427387905 0")
  pub leading_zero : IsNone (text "S1 01 0 0")
  pub plus : IsNone (text "S1 +1 0 0")
  pub lower_case : IsNone (text "T 0c001001")
  pub seven_digits : IsNone (text "T 0C00100")
  pub no_id : IsNone (text "F ")
  pub two_spaces : IsNone (text "F  0C001001")
  pub space_at_end : IsNone (text "F 0C001001 ")
  pub seventeen_digits : IsNone (text "D 0C001001 234150000000001 12345678901234567 - - data")
  pub short_imsi : IsNone (text "D 0C001001 2341 447700900011 - - data")
  pub five_octets : IsNone (text "D 0C001001 234150000000001 447700900011 0A0B0C0D0E - data")
  pub no_mark : IsNone (text "D 0C001001 234150000000001 447700900011 - data")
  pub attempt_256 : IsNone (text "D 0C001001 234150000000001 447700900011 - - cancel 447700900011 256 update")
  pub data_with_more : IsNone (text "D 0C001001 234150000000001 447700900011 - - data 1")
  pub minus_zero : IsNone (text "I -0 sent 20")
  pub invoke_128 : IsNone (text "I 128 sent 20")
  pub late_deadline : IsNone (text "I 1 sent 18446744073709551616")
  pub line_feed : IsNone (text "I 1 sent 20\n")
  pub end_of_a_shard : IsNone (text "E 1")
  pub end_in_lower_case : IsNone (text "e")
