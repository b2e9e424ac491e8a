-- Worked examples of command lines, of lines of a script, and of the ids that letters stand for.
use Rattle.std.specs.Prelude.{◌≡◌, ℕ, ◌-◌, Bool, true, false, List, [], ◌∷◌, map as each, Option, Some, None, codes as text}
use Rattle.hlr_input.specs.CommandLine.{Asked, asked_by}
use Rattle.hlr_input.specs.Letters.{noted, originating_id}
use Rattle.hlr_input.specs.Script.{Frame, Clock, Expire, Batch, Codes, Withdraw, IsLine}

-- what the name of the program, the paths `r` and `s` and these words ask for
abbrev pub asked_with : List (List ℕ) → Option Asked
asked_with words = asked_by (text "hlr" ∷ text "r" ∷ text "s" ∷ words)

abbrev pub with_options : (workers : ℕ) → (list save : Bool) → Option Asked
with_options workers list save = Some (record { records = text "r"; script = text "s"; workers = workers; list = list; save = save })

pub record CommandLines : Type 0 where
  pub paths_alone : asked_with [] ≡ with_options 0 false false
  pub number_after : asked_with (text "--workers" ∷ text "16" ∷ text "--list" ∷ []) ≡ with_options 16 true false
  pub number_in_word : asked_with (text "--save" ∷ text "--workers=3" ∷ []) ≡ with_options 3 false true
  pub hyphened_path : asked_by (text "hlr" ∷ text "r" ∷ text "--" ∷ text "--list" ∷ [])
      ≡ Some (record { records = text "r"; script = text "--list"; workers = 0; list = false; save = false })
  pub leading_zero : asked_with (text "--workers=01" ∷ []) ≡ None
  pub seventeen : asked_with (text "--workers=17" ∷ []) ≡ None
  pub no_number : asked_with (text "--workers" ∷ []) ≡ None
  pub list_twice : asked_with (text "--list" ∷ text "--list" ∷ []) ≡ None
  pub third_path : asked_with (text "t" ∷ []) ≡ None
  pub one_path : asked_by (text "hlr" ∷ text "r" ∷ []) ≡ None

-- the digits of a text
abbrev pub digits : List ℕ → List ℕ
digits written = each (λ character. character - 48) written

pub record ScriptLines : Type 0 where
  pub frame : IsLine (text "F 447700900011 6206$A") (Frame (digits (text "447700900011")) (text "6206$A"))
  pub clock : IsLine (text "C 4611686018427387904") (Clock 4611686018427387904)
  pub expiry : IsLine (text "E") Expire
  pub batch : IsLine (text "W") Batch
  pub codes : IsLine (text "O 234150000000001 11,2A") (Codes (digits (text "234150000000001")) (0x11 ∷ 0x2A ∷ []))
  pub withdrawal : IsLine (text "X 234150000000001") (Withdraw (digits (text "234150000000001")))

-- the octets of a message with this identifier octet, this length, and four octets under this tag
abbrev pub message_under : (tag length id_tag : ℕ) → List ℕ
message_under tag length id_tag = tag ∷ length ∷ id_tag ∷ 4 ∷ 1 ∷ 0 ∷ 16 ∷ 0 ∷ []

abbrev pub id_a : List ℕ
id_a = 1 ∷ 0 ∷ 16 ∷ 0 ∷ []

abbrev pub id_b : List ℕ
id_b = 1 ∷ 0 ∷ 16 ∷ 1 ∷ []

pub record NotedIds : Type 0 where
  pub of_begin : originating_id (message_under 0x62 6 0x48) ≡ Some id_a
  pub of_continue : originating_id (message_under 0x65 6 0x48) ≡ Some id_a
  pub of_end : originating_id (message_under 0x64 6 0x49) ≡ None
  pub long_length : originating_id (0x62 ∷ 0x81 ∷ 6 ∷ 0x48 ∷ 4 ∷ id_b) ≡ Some id_b
  pub in_order : noted (id_a ∷ []) (Some id_b) ≡ id_a ∷ id_b ∷ []
  pub once : noted (id_a ∷ id_b ∷ []) (Some id_a) ≡ id_a ∷ id_b ∷ []
