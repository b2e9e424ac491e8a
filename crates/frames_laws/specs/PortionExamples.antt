-- Worked examples of portions, octet for octet: what a dialogue portion and a component may be and may not be.
use Rattle.std.specs.Prelude.{◌≡◌, pos, negsuc, [], ◌∷◌, Some, None}
use Rattle.x690.specs.Spelling.{enc}
use Rattle.machine.specs.Received.{OfError, Number, Invoke, ReturnError, Bad, OfUser, Abrt, Begin, Continue, Discard, Refuse, Read}
use Rattle.machine.specs.Sent.{NoCause, SentContinue, SentAbort}
use Rattle.machine.specs.Events.{Withdraw, Clock, Expire, Frame, Operator}
use Rattle.frames.specs.Dialogues.{dialogue_of}
use Rattle.frames.specs.DialogueForms.{portion_tree}
use Rattle.frames.specs.Frames.{IsVerdict}
use Rattle.frames.specs.Octets.{RawFrame, RawClock, RawExpire, RawChange, IsEvent, spelled_out}
use Rattle.frames.specs.SentTrees.{abrt_tree, octets_of_sent}
use Rattle.frames_laws.specs.Written.{hex, digits}

-- A dialogue request and a dialogue response may end with user information of any contents, and with nothing else.
pub record UserInformation : Type 0 where
  pub in_a_request : IsVerdict (hex "62 28 48 04 00 00 00 01 6B 20 28 1E 06 07 00 11 86 05 01 01 01 A0 13 60 11 80 02 07 80 A1 09 06 07 04 00 00 01 00 14 03 BE 00")
      (Read (Begin (hex "00 00 00 01") (Some (hex "04 00 00 01 00 14 03")) []))
  pub in_a_response : IsVerdict (hex "65 3E 48 04 00 00 00 0B 49 04 01 00 00 01 6B 30 28 2E 06 07 00 11 86 05 01 01 01 A0 23 61 21 80 02 07 80 A1 09 06 07 04 00 00 01 00 01 03 A2 03 02 01 00 A3 05 A1 03 02 01 00 BE 04 28 02 05 00")
      (Read (Continue (hex "00 00 00 0B") (hex "01 00 00 01") (Some (record { context = hex "04 00 00 01 00 01 03"; result = 0; diagnostic = OfUser 0 })) []))
  pub another_tag : IsVerdict (hex "62 28 48 04 00 00 00 01 6B 20 28 1E 06 07 00 11 86 05 01 01 01 A0 13 60 11 80 02 07 80 A1 09 06 07 04 00 00 01 00 14 03 BD 00")
      (Refuse (hex "00 00 00 01") 3)
  pub primitive : IsVerdict (hex "62 28 48 04 00 00 00 01 6B 20 28 1E 06 07 00 11 86 05 01 01 01 A0 13 60 11 80 02 07 80 A1 09 06 07 04 00 00 01 00 14 03 9E 00")
      (Refuse (hex "00 00 00 01") 3)
  pub twice : IsVerdict (hex "62 2A 48 04 00 00 00 01 6B 22 28 20 06 07 00 11 86 05 01 01 01 A0 15 60 13 80 02 07 80 A1 09 06 07 04 00 00 01 00 14 03 BE 00 BE 00")
      (Refuse (hex "00 00 00 01") 3)

-- A context's name has 1 to 32 octets.
pub record NamesOfContexts : Type 0 where
  pub shortest : IsVerdict (hex "62 20 48 04 00 00 00 01 6B 18 28 16 06 07 00 11 86 05 01 01 01 A0 0B 60 09 80 02 07 80 A1 03 06 01 2A")
      (Read (Begin (hex "00 00 00 01") (Some (hex "2A")) []))
  pub longest : IsVerdict (hex "62 3F 48 04 00 00 00 01 6B 37 28 35 06 07 00 11 86 05 01 01 01 A0 2A 60 28 80 02 07 80 A1 22 06 20 2A 2A 2A 2A 2A 2A 2A 2A 2A 2A 2A 2A 2A 2A 2A 2A 2A 2A 2A 2A 2A 2A 2A 2A 2A 2A 2A 2A 2A 2A 2A 2A")
      (Read (Begin (hex "00 00 00 01") (Some (hex "2A 2A 2A 2A 2A 2A 2A 2A 2A 2A 2A 2A 2A 2A 2A 2A 2A 2A 2A 2A 2A 2A 2A 2A 2A 2A 2A 2A 2A 2A 2A 2A")) []))

-- A version is a BIT STRING whose first bit is set, with at most seven bits unused; it may be absent.
pub record Versions : Type 0 where
  pub left_out : IsVerdict (hex "62 22 48 04 00 00 00 01 6B 1A 28 18 06 07 00 11 86 05 01 01 01 A0 0D 60 0B A1 09 06 07 04 00 00 01 00 14 03")
      (Read (Begin (hex "00 00 00 01") (Some (hex "04 00 00 01 00 14 03")) []))
  pub two_bits : IsVerdict (hex "62 26 48 04 00 00 00 01 6B 1E 28 1C 06 07 00 11 86 05 01 01 01 A0 11 60 0F 80 02 06 C0 A1 09 06 07 04 00 00 01 00 14 03")
      (Read (Begin (hex "00 00 00 01") (Some (hex "04 00 00 01 00 14 03")) []))
  pub nine_bits : IsVerdict (hex "62 27 48 04 00 00 00 01 6B 1F 28 1D 06 07 00 11 86 05 01 01 01 A0 12 60 10 80 03 07 80 80 A1 09 06 07 04 00 00 01 00 14 03")
      (Read (Begin (hex "00 00 00 01") (Some (hex "04 00 00 01 00 14 03")) []))
  pub eight_bits_unused : IsVerdict (hex "62 26 48 04 00 00 00 01 6B 1E 28 1C 06 07 00 11 86 05 01 01 01 A0 11 60 0F 80 02 08 80 A1 09 06 07 04 00 00 01 00 14 03")
      (Refuse (hex "00 00 00 01") 3)
  pub no_bits : IsVerdict (hex "62 25 48 04 00 00 00 01 6B 1D 28 1B 06 07 00 11 86 05 01 01 01 A0 10 60 0E 80 01 00 A1 09 06 07 04 00 00 01 00 14 03")
      (Refuse (hex "00 00 00 01") 3)
  pub no_octets : IsVerdict (hex "62 24 48 04 00 00 00 01 6B 1C 28 1A 06 07 00 11 86 05 01 01 01 A0 0F 60 0D 80 00 A1 09 06 07 04 00 00 01 00 14 03")
      (Refuse (hex "00 00 00 01") 3)
  pub without_its_bit : IsVerdict (hex "62 26 48 04 00 00 00 01 6B 1E 28 1C 06 07 00 11 86 05 01 01 01 A0 11 60 0F 80 02 07 7F A1 09 06 07 04 00 00 01 00 14 03")
      (Refuse (hex "00 00 00 01") 3)

-- A dialogue abort says who aborts, the user or the provider.
pub record DialogueAborts : Type 0 where
  pub octets : enc (portion_tree (abrt_tree 0)) ≡ hex "6B 12 28 10 06 07 00 11 86 05 01 01 01 A0 05 64 03 80 01 00"
  pub by_the_user : dialogue_of (portion_tree (abrt_tree 0)) ≡ Some (Abrt 0)
  pub by_the_provider : dialogue_of (portion_tree (abrt_tree 1)) ≡ Some (Abrt 1)
  pub by_neither : dialogue_of (portion_tree (abrt_tree 2)) ≡ None

-- An operation's and an error's code have at least one octet. Ids and linked ids are signed.
pub record CodesOfComponents : Type 0 where
  pub empty : IsVerdict (hex "65 35 48 04 00 00 00 0B 49 04 01 00 00 01 6C 27 A1 05 02 01 01 06 00 A1 05 02 01 01 02 00 A2 07 02 01 01 30 02 06 00 A7 07 02 01 01 30 02 02 00 A3 05 02 01 01 06 00")
      (Read (Continue (hex "00 00 00 0B") (hex "01 00 00 01") None (Bad (Some (pos 1)) 1 ∷ Bad (Some (pos 1)) 1 ∷ Bad (Some (pos 1)) 1 ∷ Bad (Some (pos 1)) 1 ∷ Bad (Some (pos 1)) 1 ∷ [])))
  pub signed : IsVerdict (hex "65 21 48 04 00 00 00 0B 49 04 01 00 00 01 6C 13 A1 09 02 01 7F 80 01 FF 02 01 02 A3 06 02 01 FF 02 01 22")
      (Read (Continue (hex "00 00 00 0B") (hex "01 00 00 01") None (Invoke (pos 127) (Some (negsuc 0)) (Number 2) None ∷ ReturnError (negsuc 0) (Number 34) ∷ [])))
  pub signed_as_sent : octets_of_sent (SentContinue (hex "01 00 00 01") (hex "00 00 00 0B") None (record { id = Some (negsuc 0); side = OfError; problem = 0 } ∷ []) [])
      ≡ hex "65 16 48 04 01 00 00 01 49 04 00 00 00 0B 6C 08 A4 06 02 01 FF 83 01 00"

-- A long tag number has up to four octets (X.690, 8.1.2.4).
pub record LongTagNumbers : Type 0 where
  pub four_octets : IsVerdict (hex "7F 81 80 80 00 06 48 04 00 00 00 01")
      (Refuse (hex "00 00 00 01") 0)
  pub greatest : IsVerdict (hex "7F FF FF FF 7F 06 48 04 00 00 00 01")
      (Refuse (hex "00 00 00 01") 0)

-- What is sent keeps its address.
pub record SentAddress : Type 0 where
  pub out : spelled_out (record { to = digits "447700900011"; message = SentAbort (hex "00 00 00 0B") NoCause })
      ≡ record { to = digits "447700900011"; octets = hex "67 06 49 04 00 00 00 0B" }

-- What comes from outside is the event of the machine that has the same shard and clock value, or subscriber and change, or source.
pub record EventsFromOutside : Type 0 where
  pub clock : IsEvent (RawClock 1 5) (Clock 1 5)
  pub exchanged : IsEvent (RawClock 1 5) (Clock 5 1) → ⊥
  pub expiry : IsEvent (RawExpire 1) (Expire 1)
  pub change : IsEvent (RawChange (digits "234150000000001") Withdraw) (Operator (digits "234150000000001") Withdraw)
  pub another_event : IsEvent (RawExpire 1) (Clock 1 5) → ⊥
  pub another_source : IsEvent (RawFrame (1 ∷ []) []) (Frame [] Discard) → ⊥
