-- The lines that are printed (profile).
use Rattle.std.specs.Prelude.{◌≡◌, ℕ, List, [], ◌∷◌, ◌++◌, Option, codes as text}
use Rattle.hex.specs.Hex.{encode_upper}
use Rattle.std.specs.List.{flat_map}
use Rattle.std.specs.Io.KnownBytes.{Appends}
use Rattle.hlr_types.specs.DigitTexts.{text_of}
use Rattle.frames.specs.Octets.{RawOut}
use Rattle.hlr_input.specs.Letters.{noted, originating_id}

-- `S <to> <octets in upper case>`, and a line feed.
abbrev pub sent_line : List ℕ → List ℕ → List ℕ
sent_line to octets = text "S " ++ text_of to ++ text " " ++ encode_upper octets ++ 10 ∷ []

-- The lines of several frames.
abbrev pub sent_lines : List RawOut → List ℕ
sent_lines frames = flat_map (λ frame. sent_line frame.to frame.octets) frames

-- The ids of the letters, with those that these frames carry.
abbrev pub noted_in : List (List ℕ) → List RawOut → List (List ℕ)
noted_in ids [] = ids
noted_in ids (frame ∷ more) = noted_in (noted ids (originating_id frame.octets)) more

-- The lines that a batch has so far, and the ids that letters stand for after it.
pub record SoFar : Type 0 where
  pub text : List ℕ
  pub ids : List (List ℕ)

-- The lines of these frames are appended, and the ids in them recorded.
pub record Prints (before : SoFar) (frames : List RawOut) (after : SoFar) : Type 0 where
  pub text : after.text ≡ before.text ++ sent_lines frames
  pub ids : after.ids ≡ noted_in before.ids frames

-- What was written before is followed by a prefix of a text.
pub record WritesFront (old : Option (List ℕ)) (all : List ℕ) (new : Option (List ℕ)) : Type 0 where
  pub written : List ℕ
  pub left : List ℕ
  pub whole : all ≡ written ++ left
  pub appends : Appends old new written
