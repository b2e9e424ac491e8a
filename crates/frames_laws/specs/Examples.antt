-- Worked examples, octet for octet: what received octets read to, and the octets that are sent. Local ids are any allowed
-- ones.
use Rattle.std.specs.Prelude.{◌≡◌, pos, negsuc, [], ◌∷◌, ◌++◌, Some, None, true, false, replicate}
use Rattle.machine.specs.Received.{General, OfInvoke, OfResult, OfError, BadValue, Update, Purge, Route, Mistyped, Typed, Number, Other, Invoke, ResultLast, ResultNotLast, ReturnError, Reject, Bad, Ignored, OfUser, OfProvider, Begin, Continue, End, Abort, Discard, Refuse, Read}
use Rattle.machine.specs.Sent.{NetworkLocUp, LocationCancellation, SubscriberDataMngt, ShortMsgGateway, MsPurging, UpdateProcedure, SubscriptionWithdraw, Insert, Cancel, UpdateResult, PurgeResult, RouteResult, SentError, NoCause, Cause, Refusing, SentBegin, SentContinue, SentEnd, SentAbort}
use Rattle.frames.specs.Frames.{IsVerdict}
use Rattle.frames.specs.SentTrees.{octets_of_sent}
use Rattle.frames_laws.specs.Written.{hex, digits}

-- The first example: where a short message is routed to.
pub record FirstRoute : Type 0 where
  pub received : IsVerdict (hex "62 47 48 04 00 00 00 01 6B 1E 28 1C 06 07 00 11 86 05 01 01 01 A0 11 60 0F 80 02 07 80 A1 09 06 07 04 00 00 01 00 14 03 6C 1F A1 1D 02 01 01 02 01 2D 30 15 80 07 91 44 77 00 09 00 00 81 01 FF 82 07 91 44 77 00 09 99 99")
      (Read (Begin (hex "00 00 00 01") (Some (hex "04 00 00 01 00 14 03")) (Invoke (pos 1) None (Number 45) (Some (Typed (Route (digits "447700900000")))) ∷ [])))
  pub answer : octets_of_sent (SentEnd (hex "00 00 00 01") (Some ShortMsgGateway) [] (RouteResult (pos 1) (digits "234150000000001") (digits "447700900001") None ∷ []))
      ≡ hex "64 55 49 04 00 00 00 01 6B 2A 28 28 06 07 00 11 86 05 01 01 01 A0 1D 61 1B 80 02 07 80 A1 09 06 07 04 00 00 01 00 14 03 A2 03 02 01 00 A3 05 A1 03 02 01 00 6C 21 A2 1F 02 01 01 30 1A 02 01 2D 30 15 04 08 32 14 05 00 00 00 00 F1 A0 09 81 07 91 44 77 00 09 00 10"
  pub with_lmsi : octets_of_sent (SentEnd (hex "00 00 00 01") None [] (RouteResult (pos 1) (digits "234150000000001") (digits "447700900001") (Some (hex "01 02 03 04")) ∷ []))
      ≡ hex "64 2F 49 04 00 00 00 01 6C 27 A2 25 02 01 01 30 20 02 01 2D 30 1B 04 08 32 14 05 00 00 00 00 F1 A0 0F 81 07 91 44 77 00 09 00 10 04 04 01 02 03 04"

-- The same frame with each constructed length indefinite.
pub record IndefiniteRoute : Type 0 where
  pub received : IsVerdict (hex "62 80 48 04 00 00 00 01 6B 80 28 80 06 07 00 11 86 05 01 01 01 A0 80 60 80 80 02 07 80 A1 80 06 07 04 00 00 01 00 14 03 00 00 00 00 00 00 00 00 00 00 6C 80 A1 80 02 01 01 02 01 2D 30 80 80 07 91 44 77 00 09 00 00 81 01 FF 82 07 91 44 77 00 09 99 99 00 00 00 00 00 00 00 00")
      (Read (Begin (hex "00 00 00 01") (Some (hex "04 00 00 01 00 14 03")) (Invoke (pos 1) None (Number 45) (Some (Typed (Route (digits "447700900000")))) ∷ [])))

-- A route that is refused: absent, not provisioned, unknown.
pub record RouteErrors : Type 0 where
  pub absent : octets_of_sent (SentEnd (hex "00 00 00 01") (Some ShortMsgGateway) [] (SentError (pos 1) 6 ∷ []))
      ≡ hex "64 3C 49 04 00 00 00 01 6B 2A 28 28 06 07 00 11 86 05 01 01 01 A0 1D 61 1B 80 02 07 80 A1 09 06 07 04 00 00 01 00 14 03 A2 03 02 01 00 A3 05 A1 03 02 01 00 6C 08 A3 06 02 01 01 02 01 06"
  pub not_provisioned : octets_of_sent (SentEnd (hex "00 00 00 01") (Some ShortMsgGateway) [] (SentError (pos 1) 11 ∷ []))
      ≡ hex "64 3C 49 04 00 00 00 01 6B 2A 28 28 06 07 00 11 86 05 01 01 01 A0 1D 61 1B 80 02 07 80 A1 09 06 07 04 00 00 01 00 14 03 A2 03 02 01 00 A3 05 A1 03 02 01 00 6C 08 A3 06 02 01 01 02 01 0B"
  pub unknown : octets_of_sent (SentEnd (hex "00 00 00 01") (Some ShortMsgGateway) [] (SentError (pos 1) 1 ∷ []))
      ≡ hex "64 3C 49 04 00 00 00 01 6B 2A 28 28 06 07 00 11 86 05 01 01 01 A0 1D 61 1B 80 02 07 80 A1 09 06 07 04 00 00 01 00 14 03 A2 03 02 01 00 A3 05 A1 03 02 01 00 6C 08 A3 06 02 01 01 02 01 01"

-- Frames of another type, without an origin, and with another child.
pub record BadlyFormedTransactions : Type 0 where
  pub another_type : IsVerdict (hex "63 06 48 04 00 00 00 01")
      (Refuse (hex "00 00 00 01") 0)
  pub answer : octets_of_sent (SentAbort (hex "00 00 00 01") (Cause 0))
      ≡ hex "67 09 49 04 00 00 00 01 4A 01 00"
  pub no_origin : IsVerdict (hex "63 06 49 04 00 00 00 01") Discard
  pub another_child : IsVerdict (hex "62 08 48 04 00 00 00 01 05 00")
      (Refuse (hex "00 00 00 01") 3)
  pub answer_to_it : octets_of_sent (SentAbort (hex "00 00 00 01") (Cause 3))
      ≡ hex "67 09 49 04 00 00 00 01 4A 01 03"
  pub an_end_with_it : IsVerdict (hex "64 08 49 04 01 00 00 01 05 00") Discard
  pub unidirectional : IsVerdict (hex "61 06 48 04 00 00 00 01") Discard

-- Frames without an open dialogue, and a Continue without a destination id.
pub record UnknownDialogues : Type 0 where
  pub a_continue : IsVerdict (hex "65 0C 48 04 00 00 00 07 49 04 01 00 00 01")
      (Read (Continue (hex "00 00 00 07") (hex "01 00 00 01") None []))
  pub answer : octets_of_sent (SentAbort (hex "00 00 00 07") (Cause 1))
      ≡ hex "67 09 49 04 00 00 00 07 4A 01 01"
  pub an_end : IsVerdict (hex "64 06 49 04 01 00 00 01")
      (Read (End (hex "01 00 00 01") None []))
  pub an_abort : IsVerdict (hex "67 06 49 04 01 00 00 01")
      (Read (Abort (hex "01 00 00 01")))
  pub no_destination : IsVerdict (hex "65 0D 48 04 00 00 00 07 49 05 01 00 00 00 01")
      (Refuse (hex "00 00 00 07") 2)

-- Ids are octet strings: three octets are not the same id as four.
pub record ShortIds : Type 0 where
  pub received : IsVerdict (hex "65 0B 48 04 00 00 00 07 49 03 00 00 01")
      (Read (Continue (hex "00 00 00 07") (hex "00 00 01") None []))
  pub answer : octets_of_sent (SentAbort (hex "00 00 00 07") (Cause 1))
      ≡ hex "67 09 49 04 00 00 00 07 4A 01 01"
  pub to_a_short_id : octets_of_sent (SentAbort (hex "00 00 0B") (Cause 1))
      ≡ hex "67 08 49 03 00 00 0B 4A 01 01"

-- Nine codes go in two inserts.
pub record TwoInserts : Type 0 where
  pub sent : octets_of_sent (SentContinue (hex "02 00 00 01") (hex "00 00 00 0B") (Some NetworkLocUp) [] (Insert (pos 1) None (Some (digits "447700900202")) (hex "11 12 20 21 22 61 62 91") ∷ Insert (pos 2) None None (hex "92") ∷ []))
      ≡ hex "65 79 48 04 02 00 00 01 49 04 00 00 00 0B 6B 2A 28 28 06 07 00 11 86 05 01 01 01 A0 1D 61 1B 80 02 07 80 A1 09 06 07 04 00 00 01 00 01 03 A2 03 02 01 00 A3 05 A1 03 02 01 00 6C 3F A1 2E 02 01 01 02 01 07 30 26 81 07 91 44 77 00 09 20 20 83 01 00 A6 18 04 01 11 04 01 12 04 01 20 04 01 21 04 01 22 04 01 61 04 01 62 04 01 91 A1 0D 02 01 02 02 01 07 30 05 A6 03 04 01 92"
  pub result : IsVerdict (hex "65 13 48 04 00 00 00 0B 49 04 02 00 00 01 6C 05 A2 03 02 01 02")
      (Read (Continue (hex "00 00 00 0B") (hex "02 00 00 01") None (ResultLast (pos 2) ∷ [])))
  pub without_codes : octets_of_sent (SentContinue (hex "02 00 00 01") (hex "00 00 00 0B") None [] (Insert (pos 1) None (Some (digits "447700900202")) [] ∷ []))
      ≡ hex "65 24 48 04 02 00 00 01 49 04 00 00 00 0B 6C 16 A1 14 02 01 01 02 01 07 30 0C 81 07 91 44 77 00 09 20 20 83 01 00"

-- An update, its insert, the result of both, and the cancel at the old register.
pub record WholeUpdate : Type 0 where
  pub update : IsVerdict (hex "62 4E 48 04 00 00 00 0B 6B 1E 28 1C 06 07 00 11 86 05 01 01 01 A0 11 60 0F 80 02 07 80 A1 09 06 07 04 00 00 01 00 01 03 6C 26 A1 24 02 01 01 02 01 02 30 1C 04 08 32 14 05 00 00 00 00 F1 81 07 91 44 77 00 09 00 20 04 07 91 44 77 00 09 00 21")
      (Read (Begin (hex "00 00 00 0B") (Some (hex "04 00 00 01 00 01 03")) (Invoke (pos 1) None (Number 2) (Some (Typed (Update (digits "234150000000001") (record { vlr = digits "447700900012"; msc = digits "447700900002"; lmsi = None })))) ∷ [])))
  pub insert : octets_of_sent (SentContinue (hex "01 00 00 01") (hex "00 00 00 0B") (Some NetworkLocUp) [] (Insert (pos 1) None (Some (digits "447700900000")) (hex "11 21") ∷ []))
      ≡ hex "65 58 48 04 01 00 00 01 49 04 00 00 00 0B 6B 2A 28 28 06 07 00 11 86 05 01 01 01 A0 1D 61 1B 80 02 07 80 A1 09 06 07 04 00 00 01 00 01 03 A2 03 02 01 00 A3 05 A1 03 02 01 00 6C 1E A1 1C 02 01 01 02 01 07 30 14 81 07 91 44 77 00 09 00 00 83 01 00 A6 06 04 01 11 04 01 21"
  pub insert_result : IsVerdict (hex "65 13 48 04 00 00 00 0B 49 04 01 00 00 01 6C 05 A2 03 02 01 01")
      (Read (Continue (hex "00 00 00 0B") (hex "01 00 00 01") None (ResultLast (pos 1) ∷ [])))
  pub update_result : octets_of_sent (SentEnd (hex "00 00 00 0B") None [] (UpdateResult (pos 1) (digits "447700900100") ∷ []))
      ≡ hex "64 1D 49 04 00 00 00 0B 6C 15 A2 13 02 01 01 30 0E 02 01 02 30 09 04 07 91 44 77 00 09 10 00"
  pub cancel : octets_of_sent (SentBegin (hex "01 00 00 02") LocationCancellation (Cancel (pos 1) (digits "234150000000001") UpdateProcedure ∷ []))
      ≡ hex "62 3F 48 04 01 00 00 02 6B 1E 28 1C 06 07 00 11 86 05 01 01 01 A0 11 60 0F 80 02 07 80 A1 09 06 07 04 00 00 01 00 02 03 6C 17 A1 15 02 01 01 02 01 03 A3 0D 04 08 32 14 05 00 00 00 00 F1 0A 01 00"
  pub cancel_result : IsVerdict (hex "64 0D 49 04 01 00 00 02 6C 05 A2 03 02 01 01")
      (Read (End (hex "01 00 00 02") None (ResultLast (pos 1) ∷ [])))

-- A cancel that is sent again has another id.
pub record RepeatedCancel : Type 0 where
  pub again : octets_of_sent (SentBegin (hex "01 00 00 03") LocationCancellation (Cancel (pos 1) (digits "234150000000001") UpdateProcedure ∷ []))
      ≡ hex "62 3F 48 04 01 00 00 03 6B 1E 28 1C 06 07 00 11 86 05 01 01 01 A0 11 60 0F 80 02 07 80 A1 09 06 07 04 00 00 01 00 02 03 6C 17 A1 15 02 01 01 02 01 03 A3 0D 04 08 32 14 05 00 00 00 00 F1 0A 01 00"

-- An update that another one overtook ends with systemFailure.
pub record OvertakenUpdate : Type 0 where
  pub failed : octets_of_sent (SentEnd (hex "00 00 00 0B") None [] (SentError (pos 1) 34 ∷ []))
      ≡ hex "64 10 49 04 00 00 00 0B 6C 08 A3 06 02 01 01 02 01 22"

-- A purge by the serving register, by another, and without a VLR number.
pub record PurgeAnswered : Type 0 where
  pub received : IsVerdict (hex "62 45 48 04 00 00 00 0C 6B 1E 28 1C 06 07 00 11 86 05 01 01 01 A0 11 60 0F 80 02 07 80 A1 09 06 07 04 00 00 01 00 1B 03 6C 1D A1 1B 02 01 01 02 01 43 A3 13 04 08 32 14 05 00 00 00 00 F1 80 07 91 44 77 00 09 00 11")
      (Read (Begin (hex "00 00 00 0C") (Some (hex "04 00 00 01 00 1B 03")) (Invoke (pos 1) None (Number 67) (Some (Typed (Purge (digits "234150000000001") (Some (digits "447700900011"))))) ∷ [])))
  pub frozen : octets_of_sent (SentEnd (hex "00 00 00 0C") (Some MsPurging) [] (PurgeResult (pos 1) true ∷ []))
      ≡ hex "64 42 49 04 00 00 00 0C 6B 2A 28 28 06 07 00 11 86 05 01 01 01 A0 1D 61 1B 80 02 07 80 A1 09 06 07 04 00 00 01 00 1B 03 A2 03 02 01 00 A3 05 A1 03 02 01 00 6C 0E A2 0C 02 01 01 30 07 02 01 43 30 02 80 00"
  pub not_frozen : octets_of_sent (SentEnd (hex "00 00 00 0C") (Some MsPurging) [] (PurgeResult (pos 1) false ∷ []))
      ≡ hex "64 39 49 04 00 00 00 0C 6B 2A 28 28 06 07 00 11 86 05 01 01 01 A0 1D 61 1B 80 02 07 80 A1 09 06 07 04 00 00 01 00 1B 03 A2 03 02 01 00 A3 05 A1 03 02 01 00 6C 05 A2 03 02 01 01"
  pub without_number : IsVerdict (hex "62 3C 48 04 00 00 00 0C 6B 1E 28 1C 06 07 00 11 86 05 01 01 01 A0 11 60 0F 80 02 07 80 A1 09 06 07 04 00 00 01 00 1B 03 6C 14 A1 12 02 01 01 02 01 43 A3 0A 04 08 32 14 05 00 00 00 00 F1")
      (Read (Begin (hex "00 00 00 0C") (Some (hex "04 00 00 01 00 1B 03")) (Invoke (pos 1) None (Number 67) (Some (Typed (Purge (digits "234150000000001") None))) ∷ [])))
  pub data_missing : octets_of_sent (SentEnd (hex "00 00 00 0C") (Some MsPurging) [] (SentError (pos 1) 35 ∷ []))
      ≡ hex "64 3C 49 04 00 00 00 0C 6B 2A 28 28 06 07 00 11 86 05 01 01 01 A0 1D 61 1B 80 02 07 80 A1 09 06 07 04 00 00 01 00 1B 03 A2 03 02 01 00 A3 05 A1 03 02 01 00 6C 08 A3 06 02 01 01 02 01 23"

-- Another version, another context, no context; and names of one octet and of 32.
pub record RefusedContexts : Type 0 where
  pub version_2 : IsVerdict (hex "62 4E 48 04 00 00 00 0B 6B 1E 28 1C 06 07 00 11 86 05 01 01 01 A0 11 60 0F 80 02 07 80 A1 09 06 07 04 00 00 01 00 01 02 6C 26 A1 24 02 01 01 02 01 02 30 1C 04 08 32 14 05 00 00 00 00 F1 81 07 91 44 77 00 09 00 20 04 07 91 44 77 00 09 00 21")
      (Read (Begin (hex "00 00 00 0B") (Some (hex "04 00 00 01 00 01 02")) (Invoke (pos 1) None (Number 2) (Some (Typed (Update (digits "234150000000001") (record { vlr = digits "447700900012"; msc = digits "447700900002"; lmsi = None })))) ∷ [])))
  pub refused_version : octets_of_sent (SentAbort (hex "00 00 00 0B") (Refusing (hex "04 00 00 01 00 01 03")))
      ≡ hex "67 32 49 04 00 00 00 0B 6B 2A 28 28 06 07 00 11 86 05 01 01 01 A0 1D 61 1B 80 02 07 80 A1 09 06 07 04 00 00 01 00 01 03 A2 03 02 01 01 A3 05 A1 03 02 01 02"
  pub refused_context : octets_of_sent (SentAbort (hex "00 00 00 0B") (Refusing (hex "04 00 00 01 00 05 03")))
      ≡ hex "67 32 49 04 00 00 00 0B 6B 2A 28 28 06 07 00 11 86 05 01 01 01 A0 1D 61 1B 80 02 07 80 A1 09 06 07 04 00 00 01 00 05 03 A2 03 02 01 01 A3 05 A1 03 02 01 02"
  pub no_portion : IsVerdict (hex "62 2E 48 04 00 00 00 0B 6C 26 A1 24 02 01 01 02 01 02 30 1C 04 08 32 14 05 00 00 00 00 F1 81 07 91 44 77 00 09 00 20 04 07 91 44 77 00 09 00 21")
      (Read (Begin (hex "00 00 00 0B") None (Invoke (pos 1) None (Number 2) (Some (Typed (Update (digits "234150000000001") (record { vlr = digits "447700900012"; msc = digits "447700900002"; lmsi = None })))) ∷ [])))
  pub no_components : IsVerdict (hex "62 26 48 04 00 00 00 0B 6B 1E 28 1C 06 07 00 11 86 05 01 01 01 A0 11 60 0F 80 02 07 80 A1 09 06 07 04 00 00 01 00 01 03")
      (Read (Begin (hex "00 00 00 0B") (Some (hex "04 00 00 01 00 01 03")) []))
  pub answer : octets_of_sent (SentAbort (hex "00 00 00 0B") NoCause)
      ≡ hex "67 06 49 04 00 00 00 0B"
  pub short_name : octets_of_sent (SentAbort (hex "00 00 00 0B") (Refusing (hex "2A")))
      ≡ hex "67 2C 49 04 00 00 00 0B 6B 24 28 22 06 07 00 11 86 05 01 01 01 A0 17 61 15 80 02 07 80 A1 03 06 01 2A A2 03 02 01 01 A3 05 A1 03 02 01 02"
  pub long_name : octets_of_sent (SentAbort (hex "00 00 00 0B") (Refusing (hex "2A 2A 2A 2A 2A 2A 2A 2A 2A 2A 2A 2A 2A 2A 2A 2A 2A 2A 2A 2A 2A 2A 2A 2A 2A 2A 2A 2A 2A 2A 2A 2A")))
      ≡ hex "67 4B 49 04 00 00 00 0B 6B 43 28 41 06 07 00 11 86 05 01 01 01 A0 36 61 34 80 02 07 80 A1 22 06 20 2A 2A 2A 2A 2A 2A 2A 2A 2A 2A 2A 2A 2A 2A 2A 2A 2A 2A 2A 2A 2A 2A 2A 2A 2A 2A 2A 2A 2A 2A 2A 2A A2 03 02 01 01 A3 05 A1 03 02 01 02"
  pub empty_name : IsVerdict (hex "62 1F 48 04 00 00 00 0B 6B 17 28 15 06 07 00 11 86 05 01 01 01 A0 0A 60 08 80 02 07 80 A1 02 06 00")
      (Refuse (hex "00 00 00 0B") 3)
  pub too_long_name : IsVerdict (hex "62 40 48 04 00 00 00 0B 6B 38 28 36 06 07 00 11 86 05 01 01 01 A0 2B 60 29 80 02 07 80 A1 23 06 21 2A 2A 2A 2A 2A 2A 2A 2A 2A 2A 2A 2A 2A 2A 2A 2A 2A 2A 2A 2A 2A 2A 2A 2A 2A 2A 2A 2A 2A 2A 2A 2A 2A")
      (Refuse (hex "00 00 00 0B") 3)

-- A result for no invocation is rejected.
pub record ResultOfUnknownInvoke : Type 0 where
  pub received : IsVerdict (hex "65 13 48 04 00 00 00 0B 49 04 01 00 00 01 6C 05 A2 03 02 01 02")
      (Read (Continue (hex "00 00 00 0B") (hex "01 00 00 01") None (ResultLast (pos 2) ∷ [])))
  pub answer : octets_of_sent (SentContinue (hex "01 00 00 01") (hex "00 00 00 0B") None (record { id = Some (pos 2); side = OfResult; problem = 0 } ∷ []) [])
      ≡ hex "65 16 48 04 01 00 00 01 49 04 00 00 00 0B 6C 08 A4 06 02 01 02 82 01 00"

-- Of two Invokes in a Begin the first is answered and the second rejected.
pub record SecondInvokeRefused : Type 0 where
  pub received : IsVerdict (hex "62 66 48 04 00 00 00 01 6B 1E 28 1C 06 07 00 11 86 05 01 01 01 A0 11 60 0F 80 02 07 80 A1 09 06 07 04 00 00 01 00 14 03 6C 3E A1 1D 02 01 01 02 01 2D 30 15 80 07 91 44 77 00 09 00 00 81 01 FF 82 07 91 44 77 00 09 99 99 A1 1D 02 01 02 02 01 2D 30 15 80 07 91 44 77 00 09 00 00 81 01 FF 82 07 91 44 77 00 09 99 99")
      (Read (Begin (hex "00 00 00 01") (Some (hex "04 00 00 01 00 14 03")) (Invoke (pos 1) None (Number 45) (Some (Typed (Route (digits "447700900000")))) ∷ Invoke (pos 2) None (Number 45) (Some (Typed (Route (digits "447700900000")))) ∷ [])))
  pub answer : octets_of_sent (SentEnd (hex "00 00 00 01") (Some ShortMsgGateway) (record { id = Some (pos 2); side = OfInvoke; problem = 3 } ∷ []) (RouteResult (pos 1) (digits "234150000000001") (digits "447700900001") None ∷ []))
      ≡ hex "64 5D 49 04 00 00 00 01 6B 2A 28 28 06 07 00 11 86 05 01 01 01 A0 1D 61 1B 80 02 07 80 A1 09 06 07 04 00 00 01 00 14 03 A2 03 02 01 00 A3 05 A1 03 02 01 00 6C 29 A4 06 02 01 02 81 01 03 A2 1F 02 01 01 30 1A 02 01 2D 30 15 04 08 32 14 05 00 00 00 00 F1 A0 09 81 07 91 44 77 00 09 00 10"

-- An insert is answered with an error.
pub record InsertError : Type 0 where
  pub received : IsVerdict (hex "65 16 48 04 00 00 00 0B 49 04 02 00 00 01 6C 08 A3 06 02 01 01 02 01 22")
      (Read (Continue (hex "00 00 00 0B") (hex "02 00 00 01") None (ReturnError (pos 1) (Number 34) ∷ [])))
  pub failed : octets_of_sent (SentEnd (hex "00 00 00 0B") None [] (SentError (pos 1) 34 ∷ []))
      ≡ hex "64 10 49 04 00 00 00 0B 6C 08 A3 06 02 01 01 02 01 22"

-- A late result, an Invoke with an id in use, and an Invoke with a linked id.
pub record LateAndLinkedComponents : Type 0 where
  pub late : octets_of_sent (SentContinue (hex "02 00 00 01") (hex "00 00 00 0B") None (record { id = Some (pos 1); side = OfResult; problem = 0 } ∷ []) [])
      ≡ hex "65 16 48 04 02 00 00 01 49 04 00 00 00 0B 6C 08 A4 06 02 01 01 82 01 00"
  pub duplicate : IsVerdict (hex "65 16 48 04 00 00 00 0B 49 04 02 00 00 01 6C 08 A1 06 02 01 01 02 01 02")
      (Read (Continue (hex "00 00 00 0B") (hex "02 00 00 01") None (Invoke (pos 1) None (Number 2) None ∷ [])))
  pub duplicate_rejected : octets_of_sent (SentContinue (hex "02 00 00 01") (hex "00 00 00 0B") None (record { id = Some (pos 1); side = OfInvoke; problem = 0 } ∷ []) [])
      ≡ hex "65 16 48 04 02 00 00 01 49 04 00 00 00 0B 6C 08 A4 06 02 01 01 81 01 00"
  pub linked : IsVerdict (hex "65 19 48 04 00 00 00 0B 49 04 02 00 00 01 6C 0B A1 09 02 01 05 80 01 09 02 01 02")
      (Read (Continue (hex "00 00 00 0B") (hex "02 00 00 01") None (Invoke (pos 5) (Some (pos 9)) (Number 2) None ∷ [])))
  pub linked_rejected : octets_of_sent (SentContinue (hex "02 00 00 01") (hex "00 00 00 0B") None (record { id = Some (pos 5); side = OfInvoke; problem = 5 } ∷ []) [])
      ≡ hex "65 16 48 04 02 00 00 01 49 04 00 00 00 0B 6C 08 A4 06 02 01 05 81 01 05"

-- Updates without a parameter, with a short IMSI, of a subscriber who may not roam, and with another operation.
pub record RefusedUpdates : Type 0 where
  pub no_parameter : IsVerdict (hex "62 30 48 04 00 00 00 0B 6B 1E 28 1C 06 07 00 11 86 05 01 01 01 A0 11 60 0F 80 02 07 80 A1 09 06 07 04 00 00 01 00 01 03 6C 08 A1 06 02 01 01 02 01 02")
      (Read (Begin (hex "00 00 00 0B") (Some (hex "04 00 00 01 00 01 03")) (Invoke (pos 1) None (Number 2) None ∷ [])))
  pub mistyped_rejected : octets_of_sent (SentEnd (hex "00 00 00 0B") (Some NetworkLocUp) (record { id = Some (pos 1); side = OfInvoke; problem = 2 } ∷ []) [])
      ≡ hex "64 3C 49 04 00 00 00 0B 6B 2A 28 28 06 07 00 11 86 05 01 01 01 A0 1D 61 1B 80 02 07 80 A1 09 06 07 04 00 00 01 00 01 03 A2 03 02 01 00 A3 05 A1 03 02 01 00 6C 08 A4 06 02 01 01 81 01 02"
  pub another_type : IsVerdict (hex "62 33 48 04 00 00 00 0B 6B 1E 28 1C 06 07 00 11 86 05 01 01 01 A0 11 60 0F 80 02 07 80 A1 09 06 07 04 00 00 01 00 01 03 6C 0B A1 09 02 01 01 02 01 02 02 01 00")
      (Read (Begin (hex "00 00 00 0B") (Some (hex "04 00 00 01 00 01 03")) (Invoke (pos 1) None (Number 2) (Some Mistyped) ∷ [])))
  pub short_imsi : IsVerdict (hex "62 48 48 04 00 00 00 0B 6B 1E 28 1C 06 07 00 11 86 05 01 01 01 A0 11 60 0F 80 02 07 80 A1 09 06 07 04 00 00 01 00 01 03 6C 20 A1 1E 02 01 01 02 01 02 30 16 04 02 32 14 81 07 91 44 77 00 09 00 20 04 07 91 44 77 00 09 00 21")
      (Read (Begin (hex "00 00 00 0B") (Some (hex "04 00 00 01 00 01 03")) (Invoke (pos 1) None (Number 2) (Some (Typed BadValue)) ∷ [])))
  pub unexpected_value : octets_of_sent (SentEnd (hex "00 00 00 0B") (Some NetworkLocUp) [] (SentError (pos 1) 36 ∷ []))
      ≡ hex "64 3C 49 04 00 00 00 0B 6B 2A 28 28 06 07 00 11 86 05 01 01 01 A0 1D 61 1B 80 02 07 80 A1 09 06 07 04 00 00 01 00 01 03 A2 03 02 01 00 A3 05 A1 03 02 01 00 6C 08 A3 06 02 01 01 02 01 24"
  pub roaming_not_allowed : octets_of_sent (SentEnd (hex "00 00 00 0B") (Some NetworkLocUp) [] (SentError (pos 1) 8 ∷ []))
      ≡ hex "64 41 49 04 00 00 00 0B 6B 2A 28 28 06 07 00 11 86 05 01 01 01 A0 1D 61 1B 80 02 07 80 A1 09 06 07 04 00 00 01 00 01 03 A2 03 02 01 00 A3 05 A1 03 02 01 00 6C 0D A3 0B 02 01 01 02 01 08 30 03 0A 01 00"
  pub another_operation : IsVerdict (hex "62 4E 48 04 00 00 00 0B 6B 1E 28 1C 06 07 00 11 86 05 01 01 01 A0 11 60 0F 80 02 07 80 A1 09 06 07 04 00 00 01 00 01 03 6C 26 A1 24 02 01 01 02 01 03 30 1C 04 08 32 14 05 00 00 00 00 F1 81 07 91 44 77 00 09 00 20 04 07 91 44 77 00 09 00 21")
      (Read (Begin (hex "00 00 00 0B") (Some (hex "04 00 00 01 00 01 03")) (Invoke (pos 1) None (Number 3) (Some Mistyped) ∷ [])))
  pub operation_rejected : octets_of_sent (SentEnd (hex "00 00 00 0B") (Some NetworkLocUp) (record { id = Some (pos 1); side = OfInvoke; problem = 1 } ∷ []) [])
      ≡ hex "64 3C 49 04 00 00 00 0B 6B 2A 28 28 06 07 00 11 86 05 01 01 01 A0 1D 61 1B 80 02 07 80 A1 09 06 07 04 00 00 01 00 01 03 A2 03 02 01 00 A3 05 A1 03 02 01 00 6C 08 A4 06 02 01 01 81 01 01"

-- An address with another first octet has the same digits; one without bit 8 is a bad value.
pub record SameDigitsOtherKind : Type 0 where
  pub national : IsVerdict (hex "62 4E 48 04 00 00 00 0B 6B 1E 28 1C 06 07 00 11 86 05 01 01 01 A0 11 60 0F 80 02 07 80 A1 09 06 07 04 00 00 01 00 01 03 6C 26 A1 24 02 01 01 02 01 02 30 1C 04 08 32 14 05 00 00 00 00 F1 81 07 91 44 77 00 09 00 20 04 07 A1 44 77 00 09 00 21")
      (Read (Begin (hex "00 00 00 0B") (Some (hex "04 00 00 01 00 01 03")) (Invoke (pos 1) None (Number 2) (Some (Typed (Update (digits "234150000000001") (record { vlr = digits "447700900012"; msc = digits "447700900002"; lmsi = None })))) ∷ [])))
  pub extended : IsVerdict (hex "62 4E 48 04 00 00 00 0B 6B 1E 28 1C 06 07 00 11 86 05 01 01 01 A0 11 60 0F 80 02 07 80 A1 09 06 07 04 00 00 01 00 01 03 6C 26 A1 24 02 01 01 02 01 02 30 1C 04 08 32 14 05 00 00 00 00 F1 81 07 91 44 77 00 09 00 20 04 07 11 44 77 00 09 00 21")
      (Read (Begin (hex "00 00 00 0B") (Some (hex "04 00 00 01 00 01 03")) (Invoke (pos 1) None (Number 2) (Some (Typed BadValue)) ∷ [])))

-- An lmsi, a vlr-Number and an sgsn-Number have exactly their tag; a constructed element in their place is a further element.
pub record OptionalElements : Type 0 where
  pub with_lmsi : IsVerdict (hex "62 54 48 04 00 00 00 0B 6B 1E 28 1C 06 07 00 11 86 05 01 01 01 A0 11 60 0F 80 02 07 80 A1 09 06 07 04 00 00 01 00 01 03 6C 2C A1 2A 02 01 01 02 01 02 30 22 04 08 32 14 05 00 00 00 00 F1 81 07 91 44 77 00 09 00 20 04 07 91 44 77 00 09 00 21 8A 04 01 02 03 04")
      (Read (Begin (hex "00 00 00 0B") (Some (hex "04 00 00 01 00 01 03")) (Invoke (pos 1) None (Number 2) (Some (Typed (Update (digits "234150000000001") (record { vlr = digits "447700900012"; msc = digits "447700900002"; lmsi = Some (hex "01 02 03 04") })))) ∷ [])))
  pub short_lmsi : IsVerdict (hex "62 53 48 04 00 00 00 0B 6B 1E 28 1C 06 07 00 11 86 05 01 01 01 A0 11 60 0F 80 02 07 80 A1 09 06 07 04 00 00 01 00 01 03 6C 2B A1 29 02 01 01 02 01 02 30 21 04 08 32 14 05 00 00 00 00 F1 81 07 91 44 77 00 09 00 20 04 07 91 44 77 00 09 00 21 8A 03 01 02 03")
      (Read (Begin (hex "00 00 00 0B") (Some (hex "04 00 00 01 00 01 03")) (Invoke (pos 1) None (Number 2) (Some (Typed BadValue)) ∷ [])))
  pub constructed_lmsi : IsVerdict (hex "62 56 48 04 00 00 00 0B 6B 1E 28 1C 06 07 00 11 86 05 01 01 01 A0 11 60 0F 80 02 07 80 A1 09 06 07 04 00 00 01 00 01 03 6C 2E A1 2C 02 01 01 02 01 02 30 24 04 08 32 14 05 00 00 00 00 F1 81 07 91 44 77 00 09 00 20 04 07 91 44 77 00 09 00 21 AA 06 04 04 01 02 03 04")
      (Read (Begin (hex "00 00 00 0B") (Some (hex "04 00 00 01 00 01 03")) (Invoke (pos 1) None (Number 2) (Some (Typed (Update (digits "234150000000001") (record { vlr = digits "447700900012"; msc = digits "447700900002"; lmsi = None })))) ∷ [])))
  pub constructed_vlr_number : IsVerdict (hex "62 47 48 04 00 00 00 0C 6B 1E 28 1C 06 07 00 11 86 05 01 01 01 A0 11 60 0F 80 02 07 80 A1 09 06 07 04 00 00 01 00 1B 03 6C 1F A1 1D 02 01 01 02 01 43 A3 15 04 08 32 14 05 00 00 00 00 F1 A0 09 04 07 91 44 77 00 09 00 11")
      (Read (Begin (hex "00 00 00 0C") (Some (hex "04 00 00 01 00 1B 03")) (Invoke (pos 1) None (Number 67) (Some (Typed (Purge (digits "234150000000001") None))) ∷ [])))
  pub constructed_sgsn_number : IsVerdict (hex "62 47 48 04 00 00 00 0C 6B 1E 28 1C 06 07 00 11 86 05 01 01 01 A0 11 60 0F 80 02 07 80 A1 09 06 07 04 00 00 01 00 1B 03 6C 1F A1 1D 02 01 01 02 01 43 A3 15 04 08 32 14 05 00 00 00 00 F1 80 07 91 44 77 00 09 00 11 A1 00")
      (Read (Begin (hex "00 00 00 0C") (Some (hex "04 00 00 01 00 1B 03")) (Invoke (pos 1) None (Number 67) (Some (Typed (Purge (digits "234150000000001") (Some (digits "447700900011"))))) ∷ [])))
  pub sgsn_number : IsVerdict (hex "62 45 48 04 00 00 00 0C 6B 1E 28 1C 06 07 00 11 86 05 01 01 01 A0 11 60 0F 80 02 07 80 A1 09 06 07 04 00 00 01 00 1B 03 6C 1D A1 1B 02 01 01 02 01 43 A3 13 04 08 32 14 05 00 00 00 00 F1 81 07 91 44 77 00 09 00 31")
      (Read (Begin (hex "00 00 00 0C") (Some (hex "04 00 00 01 00 1B 03")) (Invoke (pos 1) None (Number 67) (Some (Typed (Purge (digits "234150000000001") None))) ∷ [])))

-- New codes go to the register in a dialogue of their own, with the imsi.
pub record CodesChanged : Type 0 where
  pub sent : octets_of_sent (SentBegin (hex "01 00 00 01") SubscriberDataMngt (Insert (pos 1) (Some (digits "234150000000001")) (Some (digits "447700900000")) (hex "11 22") ∷ []))
      ≡ hex "62 50 48 04 01 00 00 01 6B 1E 28 1C 06 07 00 11 86 05 01 01 01 A0 11 60 0F 80 02 07 80 A1 09 06 07 04 00 00 01 00 10 03 6C 28 A1 26 02 01 01 02 01 07 30 1E 80 08 32 14 05 00 00 00 00 F1 81 07 91 44 77 00 09 00 00 83 01 00 A6 06 04 01 11 04 01 22"

-- When a subscription ends, its register is cancelled with subscriptionWithdraw; then the subscriber is unknown.
pub record Withdrawn : Type 0 where
  pub cancel : octets_of_sent (SentBegin (hex "01 00 00 01") LocationCancellation (Cancel (pos 1) (digits "234150000000001") SubscriptionWithdraw ∷ []))
      ≡ hex "62 3F 48 04 01 00 00 01 6B 1E 28 1C 06 07 00 11 86 05 01 01 01 A0 11 60 0F 80 02 07 80 A1 09 06 07 04 00 00 01 00 02 03 6C 17 A1 15 02 01 01 02 01 03 A3 0D 04 08 32 14 05 00 00 00 00 F1 0A 01 01"
  pub unknown : octets_of_sent (SentEnd (hex "00 00 00 0B") (Some NetworkLocUp) [] (SentError (pos 1) 1 ∷ []))
      ≡ hex "64 3C 49 04 00 00 00 0B 6B 2A 28 28 06 07 00 11 86 05 01 01 01 A0 1D 61 1B 80 02 07 80 A1 09 06 07 04 00 00 01 00 01 03 A2 03 02 01 00 A3 05 A1 03 02 01 00 6C 08 A3 06 02 01 01 02 01 01"

-- An update that meets a full shard is aborted.
pub record FullShard : Type 0 where
  pub sent : octets_of_sent (SentAbort (hex "00 00 00 0B") (Cause 4))
      ≡ hex "67 09 49 04 00 00 00 0B 4A 01 04"

-- Seventeen components are too many.
pub record MostComponents : Type 0 where
  pub seventeen : IsVerdict (hex "62 7F 48 04 00 00 00 01 6C 77 A4 05 05 00 80 01 00 A4 05 05 00 80 01 00 A4 05 05 00 80 01 00 A4 05 05 00 80 01 00 A4 05 05 00 80 01 00 A4 05 05 00 80 01 00 A4 05 05 00 80 01 00 A4 05 05 00 80 01 00 A4 05 05 00 80 01 00 A4 05 05 00 80 01 00 A4 05 05 00 80 01 00 A4 05 05 00 80 01 00 A4 05 05 00 80 01 00 A4 05 05 00 80 01 00 A4 05 05 00 80 01 00 A4 05 05 00 80 01 00 A4 05 05 00 80 01 00")
      (Refuse (hex "00 00 00 01") 4)
  pub answer : octets_of_sent (SentAbort (hex "00 00 00 01") (Cause 4))
      ≡ hex "67 09 49 04 00 00 00 01 4A 01 04"
  pub sixteen : IsVerdict (hex "62 78 48 04 00 00 00 01 6C 70 A4 05 05 00 80 01 00 A4 05 05 00 80 01 00 A4 05 05 00 80 01 00 A4 05 05 00 80 01 00 A4 05 05 00 80 01 00 A4 05 05 00 80 01 00 A4 05 05 00 80 01 00 A4 05 05 00 80 01 00 A4 05 05 00 80 01 00 A4 05 05 00 80 01 00 A4 05 05 00 80 01 00 A4 05 05 00 80 01 00 A4 05 05 00 80 01 00 A4 05 05 00 80 01 00 A4 05 05 00 80 01 00 A4 05 05 00 80 01 00")
      (Read (Begin (hex "00 00 00 01") None (Reject None General 0 ∷ Reject None General 0 ∷ Reject None General 0 ∷ Reject None General 0 ∷ Reject None General 0 ∷ Reject None General 0 ∷ Reject None General 0 ∷ Reject None General 0 ∷ Reject None General 0 ∷ Reject None General 0 ∷ Reject None General 0 ∷ Reject None General 0 ∷ Reject None General 0 ∷ Reject None General 0 ∷ Reject None General 0 ∷ Reject None General 0 ∷ [])))
  pub answer_to_sixteen : octets_of_sent (SentAbort (hex "00 00 00 01") NoCause)
      ≡ hex "67 06 49 04 00 00 00 01"
  pub an_end : IsVerdict (hex "64 7F 49 04 01 00 00 01 6C 77 A4 05 05 00 80 01 00 A4 05 05 00 80 01 00 A4 05 05 00 80 01 00 A4 05 05 00 80 01 00 A4 05 05 00 80 01 00 A4 05 05 00 80 01 00 A4 05 05 00 80 01 00 A4 05 05 00 80 01 00 A4 05 05 00 80 01 00 A4 05 05 00 80 01 00 A4 05 05 00 80 01 00 A4 05 05 00 80 01 00 A4 05 05 00 80 01 00 A4 05 05 00 80 01 00 A4 05 05 00 80 01 00 A4 05 05 00 80 01 00 A4 05 05 00 80 01 00") Discard
  pub sent_reject : octets_of_sent (SentEnd (hex "00 00 00 01") None (record { id = None; side = General; problem = 0 } ∷ []) [])
      ≡ hex "64 0F 49 04 00 00 00 01 6C 07 A4 05 05 00 80 01 00"

-- Each kind of component, and each fault.
pub record Components : Type 0 where
  pub results : IsVerdict (hex "65 2E 48 04 00 00 00 0B 49 04 01 00 00 01 6C 20 A2 03 02 01 01 A7 03 02 01 01 A7 08 02 01 02 30 03 02 01 07 A2 0A 02 01 03 30 05 02 01 07 05 00")
      (Read (Continue (hex "00 00 00 0B") (hex "01 00 00 01") None (ResultLast (pos 1) ∷ ResultNotLast (pos 1) ∷ ResultNotLast (pos 2) ∷ ResultLast (pos 3) ∷ [])))
  pub errors : IsVerdict (hex "65 31 48 04 00 00 00 0B 49 04 01 00 00 01 6C 23 A3 06 02 01 01 02 01 22 A3 06 02 01 01 06 01 05 A3 07 02 01 01 02 02 00 22 A3 08 02 01 01 02 01 22 05 00")
      (Read (Continue (hex "00 00 00 0B") (hex "01 00 00 01") None (ReturnError (pos 1) (Number 34) ∷ ReturnError (pos 1) Other ∷ ReturnError (pos 1) Other ∷ ReturnError (pos 1) (Number 34) ∷ [])))
  pub rejects : IsVerdict (hex "65 2D 48 04 00 00 00 0B 49 04 01 00 00 01 6C 1F A4 06 02 01 01 80 01 01 A4 06 02 01 01 81 01 02 A4 06 02 01 01 82 01 00 A4 05 05 00 83 01 00")
      (Read (Continue (hex "00 00 00 0B") (hex "01 00 00 01") None (Reject (Some (pos 1)) General 1 ∷ Reject (Some (pos 1)) OfInvoke 2 ∷ Reject (Some (pos 1)) OfResult 0 ∷ Reject None OfError 0 ∷ [])))
  pub codes_of_invokes : IsVerdict (hex "65 27 48 04 00 00 00 0B 49 04 01 00 00 01 6C 19 A1 06 02 01 01 06 01 05 A1 07 02 01 01 02 02 00 02 A1 06 02 01 80 02 01 02")
      (Read (Continue (hex "00 00 00 0B") (hex "01 00 00 01") None (Invoke (pos 1) None Other None ∷ Invoke (pos 1) None Other None ∷ Invoke (negsuc 127) None (Number 2) None ∷ [])))
  pub faults : IsVerdict (hex "65 42 48 04 00 00 00 0B 49 04 01 00 00 01 6C 34 A5 00 A1 00 A3 02 05 00 81 00 A1 03 02 01 07 A1 0A 02 01 07 02 01 02 05 00 05 00 A2 07 02 01 07 30 02 02 00 A4 00 A4 06 02 01 01 84 01 00 A4 04 02 02 00 01")
      (Read (Continue (hex "00 00 00 0B") (hex "01 00 00 01") None (Bad None 0 ∷ Bad None 1 ∷ Bad None 1 ∷ Bad None 0 ∷ Bad (Some (pos 7)) 1 ∷ Bad (Some (pos 7)) 1 ∷ Bad (Some (pos 7)) 1 ∷ Ignored ∷ Ignored ∷ Ignored ∷ [])))

-- An AARE with its result and diagnostic, and portions that are unreadable or hold another APDU.
pub record DialoguePortions : Type 0 where
  pub of_user : IsVerdict (hex "65 38 48 04 00 00 00 0B 49 04 01 00 00 01 6B 2A 28 28 06 07 00 11 86 05 01 01 01 A0 1D 61 1B 80 02 07 80 A1 09 06 07 04 00 00 01 00 01 03 A2 03 02 01 01 A3 05 A1 03 02 01 02")
      (Read (Continue (hex "00 00 00 0B") (hex "01 00 00 01") (Some (record { context = hex "04 00 00 01 00 01 03"; result = 1; diagnostic = OfUser 2 })) ([])))
  pub of_provider : IsVerdict (hex "65 38 48 04 00 00 00 0B 49 04 01 00 00 01 6B 2A 28 28 06 07 00 11 86 05 01 01 01 A0 1D 61 1B 80 02 07 80 A1 09 06 07 04 00 00 01 00 01 03 A2 03 02 01 01 A3 05 A2 03 02 01 02")
      (Read (Continue (hex "00 00 00 0B") (hex "01 00 00 01") (Some (record { context = hex "04 00 00 01 00 01 03"; result = 1; diagnostic = OfProvider 2 })) ([])))
  pub in_an_end : IsVerdict (hex "64 2E 49 04 01 00 00 01 6B 26 28 24 06 07 00 11 86 05 01 01 01 A0 19 61 17 A1 09 06 07 04 00 00 01 00 01 03 A2 03 02 01 00 A3 05 A1 03 02 01 00")
      (Read (End (hex "01 00 00 01") (Some (record { context = hex "04 00 00 01 00 01 03"; result = 0; diagnostic = OfUser 0 })) []))
  pub version_without_its_bit : IsVerdict (hex "65 38 48 04 00 00 00 0B 49 04 01 00 00 01 6B 2A 28 28 06 07 00 11 86 05 01 01 01 A0 1D 61 1B 80 02 07 00 A1 09 06 07 04 00 00 01 00 01 03 A2 03 02 01 00 A3 05 A1 03 02 01 00")
      (Refuse (hex "00 00 00 0B") 3)
  pub an_abrt : IsVerdict (hex "65 20 48 04 00 00 00 0B 49 04 01 00 00 01 6B 12 28 10 06 07 00 11 86 05 01 01 01 A0 05 64 03 80 01 00")
      (Refuse (hex "00 00 00 0B") 3)
  pub an_aare_in_a_begin : IsVerdict (hex "62 32 48 04 00 00 00 0B 6B 2A 28 28 06 07 00 11 86 05 01 01 01 A0 1D 61 1B 80 02 07 80 A1 09 06 07 04 00 00 01 00 01 03 A2 03 02 01 00 A3 05 A1 03 02 01 00")
      (Refuse (hex "00 00 00 0B") 3)
  pub an_aarq_in_an_end : IsVerdict (hex "64 26 49 04 01 00 00 01 6B 1E 28 1C 06 07 00 11 86 05 01 01 01 A0 11 60 0F 80 02 07 80 A1 09 06 07 04 00 00 01 00 01 03") Discard
  pub an_empty_portion : IsVerdict (hex "62 08 48 04 00 00 00 0B 6B 00")
      (Refuse (hex "00 00 00 0B") 3)
  pub in_an_abort_unread : IsVerdict (hex "67 08 49 04 01 00 00 01 6B 00")
      (Read (Abort (hex "01 00 00 01")))

-- A length in four octets, and a tag with a long number.
pub record HostileSpellings : Type 0 where
  pub long_length : IsVerdict (hex "62 84 00 00 00 06 48 04 00 00 00 01")
      (Read (Begin (hex "00 00 00 01") None []))
  pub long_number : IsVerdict (hex "7F 1F 06 48 04 00 00 00 01")
      (Refuse (hex "00 00 00 01") 0)
  pub five_length_octets : IsVerdict (hex "62 85 00 00 00 00 06 48 04 00 00 00 01") Discard
  pub open_primitive : IsVerdict (hex "62 08 48 80 00 00 00 01 00 00") Discard
  pub small_long_number : IsVerdict (hex "7F 1E 06 48 04 00 00 00 01") Discard
  pub zero_first_group : IsVerdict (hex "7F 80 1F 06 48 04 00 00 00 01") Discard
  pub octet_after_tree : IsVerdict (hex "62 06 48 04 00 00 00 01 00") Discard

-- A frame of 4,096 octets is read; one of 4,097 and an empty one are not.
pub record LargestFrame : Type 0 where
  pub largest : IsVerdict ((hex "62 82 0F FC 48 04 00 00 00 01 6B 1E 28 1C 06 07 00 11 86 05 01 01 01 A0 11 60 0F 80 02 07 80 A1 09 06 07 04 00 00 01 00 14 03 6C 82 0F D2 A1 82 0F CE 02 01 01 02 01 2D 30 82 0F C4 80 07 91 44 77 00 09 00 00 81 01 FF 82 07 91 44 77 00 09 99 99 04 82 0F AB") ++ replicate 4011 0) (Read (Begin (hex "00 00 00 01") (Some (hex "04 00 00 01 00 14 03")) (Invoke (pos 1) None (Number 45) (Some (Typed (Route (digits "447700900000")))) ∷ [])))
  pub one_octet_more : IsVerdict ((hex "62 82 0F FD 48 04 00 00 00 01 6B 1E 28 1C 06 07 00 11 86 05 01 01 01 A0 11 60 0F 80 02 07 80 A1 09 06 07 04 00 00 01 00 14 03 6C 82 0F D3 A1 82 0F CF 02 01 01 02 01 2D 30 82 0F C5 80 07 91 44 77 00 09 00 00 81 01 FF 82 07 91 44 77 00 09 99 99 04 82 0F AC") ++ replicate 4012 0) Discard
  pub empty : IsVerdict [] Discard

-- 32 levels are read, 33 are not.
pub record DeepestTree : Type 0 where
  pub deepest : IsVerdict (hex "62 81 B8 48 04 00 00 00 01 6B 1E 28 1C 06 07 00 11 86 05 01 01 01 A0 11 60 0F 80 02 07 80 A1 09 06 07 04 00 00 01 00 14 03 6C 81 8F A1 81 8C 02 01 01 02 01 2D 30 81 83 80 07 91 44 77 00 09 00 00 81 01 FF 82 07 91 44 77 00 09 99 99 30 80 30 80 30 80 30 80 30 80 30 80 30 80 30 80 30 80 30 80 30 80 30 80 30 80 30 80 30 80 30 80 30 80 30 80 30 80 30 80 30 80 30 80 30 80 30 80 30 80 30 80 30 80 05 00 00 00 00 00 00 00 00 00 00 00 00 00 00 00 00 00 00 00 00 00 00 00 00 00 00 00 00 00 00 00 00 00 00 00 00 00 00 00 00 00 00 00 00 00 00 00 00 00 00 00 00 00 00 00")
      (Read (Begin (hex "00 00 00 01") (Some (hex "04 00 00 01 00 14 03")) (Invoke (pos 1) None (Number 45) (Some (Typed (Route (digits "447700900000")))) ∷ [])))
  pub one_level_more : IsVerdict (hex "62 81 BC 48 04 00 00 00 01 6B 1E 28 1C 06 07 00 11 86 05 01 01 01 A0 11 60 0F 80 02 07 80 A1 09 06 07 04 00 00 01 00 14 03 6C 81 93 A1 81 90 02 01 01 02 01 2D 30 81 87 80 07 91 44 77 00 09 00 00 81 01 FF 82 07 91 44 77 00 09 99 99 30 80 30 80 30 80 30 80 30 80 30 80 30 80 30 80 30 80 30 80 30 80 30 80 30 80 30 80 30 80 30 80 30 80 30 80 30 80 30 80 30 80 30 80 30 80 30 80 30 80 30 80 30 80 30 80 05 00 00 00 00 00 00 00 00 00 00 00 00 00 00 00 00 00 00 00 00 00 00 00 00 00 00 00 00 00 00 00 00 00 00 00 00 00 00 00 00 00 00 00 00 00 00 00 00 00 00 00 00 00 00 00 00 00") Discard
