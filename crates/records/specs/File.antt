-- The records file as a whole, and its first fault (profile).
use Rattle.std.specs.Prelude.{◌≡◌, ◌⊎◌, ℕ, ◌+◌, List, [], ◌∷◌, ◌++◌, length}
use Rattle.std.specs.List.{AllByRecursion}
use Rattle.texts.specs.Lines.{lines}
use Rattle.records.specs.declared.version.Version.{Version}
use Rattle.records.specs.Subscriber.{Subscriber}
use Rattle.records.specs.Spelling.{IsHeader, IsRecordLine, Each}

-- The contents of a file: the HLR number, and the records in the order of their lines.
pub record Contents : Type 0 where
  pub hlr : List ℕ
  pub records : List Subscriber

-- Two records that must not be in one file.
abbrev pub Share : Subscriber → Subscriber → Type 0
Share s t = (s.imsi ≡ t.imsi) ⊎ (s.msisdn ≡ t.msisdn)

-- No two of the records share an IMSI or an MSISDN.
abbrev pub AreApart : List Subscriber → Type 0
AreApart [] = Unit {0}
AreApart (s ∷ ss) = AllByRecursion (λ t. ¬ (Share s t)) ss × AreApart ss

-- The record shares an IMSI or an MSISDN with one of these.
abbrev pub SharesWithOne : Subscriber → List Subscriber → Type 0
SharesWithOne s [] = ⊥
SharesWithOne s (t ∷ ts) = Share t s ⊎ SharesWithOne s ts

-- The first line has the HLR number, and each line below stands for a record. No two records share an IMSI or an MSISDN.
pub record AreLines (version : Version) (header : List ℕ) (below : List (List ℕ)) (contents : Contents) : Type 0 where
  pub is_header : IsHeader header version contents.hlr
  pub are_records : Each (IsRecordLine version) below contents.records
  pub are_apart : AreApart contents.records

-- The text is a records file, of either version, with these contents.
pub record File (written : List ℕ) (contents : Contents) : Type 0 where
  pub version : Version
  pub header : List ℕ
  pub below : List (List ℕ)
  pub whole : lines written ≡ header ∷ below
  pub are_lines : AreLines version header below contents

-- ---- the first fault

-- The lines before line n are those of a file with these contents, and line n follows.
pub record IsGoodBefore (written : List ℕ) (n : ℕ) (version : Version) (contents : Contents) (line : List ℕ) : Type 0 where
  pub header : List ℕ
  pub front : List (List ℕ)
  pub rest : List (List ℕ)
  pub whole : lines written ≡ header ∷ (front ++ line ∷ rest)
  pub place : n ≡ length front + 2
  pub are_lines : AreLines version header front contents

-- There is no first line, or it is no header.
abbrev pub HasNoHeader : List ℕ → Type 0
HasNoHeader written = (header : List ℕ) (below : List (List ℕ)) → lines written ≡ header ∷ below → (version : Version) (hlr : List ℕ)
    → ¬ (IsHeader header version hlr)

-- The first line with a fault is line n: it does not have its form.
abbrev pub IsBadLine : List ℕ → ℕ → Type 0
IsBadLine written n =
    ((n ≡ 1) × HasNoHeader written)
    ⊎ ((version : Version) × (contents : Contents) × (line : List ℕ) × IsGoodBefore written n version contents line
    × ((s : Subscriber) → ¬ (IsRecordLine version line s)))

-- The first line with a fault is line n: its IMSI or MSISDN is also on an earlier line.
abbrev pub IsTwice : List ℕ → ℕ → Type 0
IsTwice written n = (version : Version) × (contents : Contents) × (line : List ℕ) × IsGoodBefore written n version contents line
    × (s : Subscriber) × IsRecordLine version line s × SharesWithOne s contents.records
