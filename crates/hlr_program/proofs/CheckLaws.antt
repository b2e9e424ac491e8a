-- What is checked line by line.
use Rattle.std.proofs.Common.{◌≡◌, ℕ, ◌+◌, Bool, true, false, List, [], ◌∷◌, sym, ap, subst, ◌∙◌, inl, inr}
use Rattle.std.specs.List.{AllByRecursion}
use Rattle.std.proofs.lemmas.Bool.{cases_Bool, cond-true, cond-false}
use Rattle.std.specs.Prelude.{not, Option, Some, None, OnSome, codes}
use Rattle.records.specs.Reading.{is_text}
use Rattle.hlr_input.specs.declared.group.Group.{Group}
use Rattle.hlr_input.specs.Octets.{IsOctets, are_known}
use Rattle.hlr_input.specs.Script.{Line, Frame, IsLine, is_closed}
use Rattle.hlr_input.proofs.LineLaws.{octets_free}
use Rattle.hlr_program.specs.Batches.{HasIds, IsFirst, IsGood, LacksId, batch_of, behind_batch}

-- the remaining lines complete the result of the whole
pub record Completes (Good Bad : List ℕ → Type 0) (whole : List (List ℕ)) (start : ℕ) (rest : List (List ℕ)) (before : ℕ) : Type 0 where
  pub all : AllByRecursion Good rest → AllByRecursion Good whole
  pub first : (n : ℕ) → IsFirst Good Bad rest before n → IsFirst Good Bad whole start n

pub begins : (Good Bad : List ℕ → Type 0) (whole : List (List ℕ)) (start : ℕ) → Completes Good Bad whole start whole start
begins Good Bad whole start = record { all = λ h. h; first = λ n h. h }

pub goes_on : (Good Bad : List ℕ → Type 0) (whole : List (List ℕ)) (start : ℕ) (rest : List (List ℕ)) (before : ℕ) (line : List ℕ) (more : List (List ℕ))
    (next : ℕ)
    → Completes Good Bad whole start rest before → rest ≡ line ∷ more → next ≡ before + 1 → Good line → Completes Good Bad whole start more next
goes_on Good Bad whole start rest before line more next h is count good = record {
  all = λ a. h.all (subst (AllByRecursion Good) (sym is) (good, a));
  first = λ n f. h.first n (subst (λ (ls : List (List ℕ)). IsFirst Good Bad ls before n) (sym is)
      (inr (good, subst (λ (b : ℕ). IsFirst Good Bad more b n) count f)));
}

pub stops : (Good Bad : List ℕ → Type 0) (whole : List (List ℕ)) (start : ℕ) (rest : List (List ℕ)) (before : ℕ) (line : List ℕ) (more : List (List ℕ))
    (number : ℕ)
    → Completes Good Bad whole start rest before → rest ≡ line ∷ more → number ≡ before + 1 → Bad line → IsFirst Good Bad whole start number
stops Good Bad whole start rest before line more number h is count bad =
    h.first number (subst (λ (ls : List (List ℕ)). IsFirst Good Bad ls before number) (sym is) (inl (count, bad)))

pub ends : (Good Bad : List ℕ → Type 0) (whole : List (List ℕ)) (start : ℕ) (rest : List (List ℕ)) (before : ℕ) → Completes Good Bad whole start rest before
    → rest ≡ [] → AllByRecursion Good whole
ends Good Bad whole start rest before h is = h.all (subst (AllByRecursion Good) (sym is) tt)

-- ---- batches

pub batch_goes_on : (rest : List (List ℕ)) (line : List ℕ) (more : List (List ℕ))
    → rest ≡ line ∷ more → is_text line (codes "W") ≡ false → batch_of rest ≡ line ∷ batch_of more
batch_goes_on rest line more is no_end = ap batch_of is ∙ cond-false (is_text line (codes "W")) [] (line ∷ batch_of more) no_end

pub batch_ends : (rest : List (List ℕ)) (line : List ℕ) (more : List (List ℕ)) → rest ≡ line ∷ more → is_text line (codes "W") ≡ true → batch_of rest ≡ []
batch_ends rest line more is end = ap batch_of is ∙ cond-true (is_text line (codes "W")) [] (line ∷ batch_of more) end

pub behind_goes_on : (rest : List (List ℕ)) (line : List ℕ) (more : List (List ℕ))
    → rest ≡ line ∷ more → is_text line (codes "W") ≡ false → behind_batch rest ≡ behind_batch more
behind_goes_on rest line more is no_end = ap behind_batch is ∙ cond-false (is_text line (codes "W")) more (behind_batch more) no_end

pub behind_ends : (rest : List (List ℕ)) (line : List ℕ) (more : List (List ℕ))
    → rest ≡ line ∷ more → is_text line (codes "W") ≡ true → behind_batch rest ≡ more
behind_ends rest line more is end = ap behind_batch is ∙ cond-true (is_text line (codes "W")) more (behind_batch more) end

pub all_batch : (P : List ℕ → Type 0) (ls : List (List ℕ)) → AllByRecursion P ls → AllByRecursion P (batch_of ls)
all_batch P [] h = tt
all_batch P (l ∷ ls) h = elim (cases_Bool (is_text l (codes "W"))) [
  | inl end ↦ rw end tt
  | inr no_end ↦ rw no_end (h.0, all_batch P ls h.1)
]

pub all_behind : (P : List ℕ → Type 0) (ls : List (List ℕ)) → AllByRecursion P ls → AllByRecursion P (behind_batch ls)
all_behind P [] h = h
all_behind P (l ∷ ls) h = elim (cases_Bool (is_text l (codes "W"))) [
  | inl end ↦ rw end h.1
  | inr no_end ↦ rw no_end (all_behind P ls h.1)
]

-- ---- letters

-- The lines have no letter, if those that are left have none.
abbrev pub Lettered : (ls : List (List ℕ)) → Bool → (here : List (List ℕ)) → Type 0
Lettered ls lettered here = lettered ≡ false → AllByRecursion (HasIds 0) here → AllByRecursion (HasIds 0) ls

pub lettered_goes_on : (ls : List (List ℕ)) (lettered own : Bool) (here : List (List ℕ)) (line : List ℕ) (rest : List (List ℕ))
    → Lettered ls lettered here → here ≡ line ∷ rest → lettered ≡ false → (own ≡ false → HasIds 0 line) → Lettered ls own rest
lettered_goes_on ls lettered own here line rest h is so_far plain none left =
    h so_far (subst (AllByRecursion (HasIds 0)) (sym is) (plain none, left))

-- a frame's line, where its octets have their form
pub frame_good : {A : Type 0} (line from field : List ℕ) (said : Line) (r : Option A) → said ≡ Frame from field → (is_closed said ≡ true → IsLine line said)
    → OnSome r ((groups : List Group) × IsOctets field groups) → OnSome r (IsGood line)
frame_good line from field said None is found good = tt
frame_good line from field said (Some x) is found good =
    let here : is_closed (Frame from field) ≡ true → IsLine line (Frame from field) = subst (λ (l : Line). is_closed l ≡ true → IsLine line l) is found in
    (Frame from field, (here (ap not (octets_free field good.0 good.1)), good))

pub frame_lacks : (line from field : List ℕ) (said : Line) (r : Option Bool) → said ≡ Frame from field → (is_closed said ≡ true → IsLine line said)
    → OnSome r ((groups : List Group) × IsOctets field groups)
    → (r ≡ Some true → (groups : List Group) → IsOctets field groups → are_known 0 groups ≡ false) → r ≡ Some true → LacksId 0 line
frame_lacks line from field said None is found good lettered e = absurd cc
frame_lacks line from field said (Some b) is found good lettered e =
    let here : is_closed (Frame from field) ≡ true → IsLine line (Frame from field) = subst (λ (l : Line). is_closed l ≡ true → IsLine line l) is found in
    (from, field, here (ap not (octets_free field good.0 good.1)), lettered e)
