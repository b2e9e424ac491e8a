-- How many events lines stand for.
use Rattle.std.proofs.Common.{◌≡◌, ℕ, ◌+◌, ◌<◌, List, [], ◌∷◌, length, length-append, refl, ap, subst, ◌∙◌, arith}
use Rattle.std.specs.Prelude.{◌^◌}
use Rattle.std.specs.List.{range_with_len}
use Rattle.std.proofs.lemmas.List.{length-map}
use Rattle.frames.specs.Octets.{RawEvent, RawClock, RawExpire}
use Rattle.hlr_input.specs.Script.{Line, Frame, Clock, Expire, Batch, Codes, Withdraw}
use Rattle.hlr_input.proofs.LineLaws.{begins_with, kind_of, written}
use Rattle.hlr_program.specs.Runs.{AreEvents, LineEvents, LinesEvents}

-- ---- one line

abbrev pub count_of : Line → ℕ
count_of (Frame from field) = 1
count_of (Clock now) = 16
count_of Expire = 16
count_of Batch = 0
count_of (Codes imsi codes) = 1
count_of (Withdraw imsi) = 1

said_count : (ids : List (List ℕ)) (said : Line) (events : List RawEvent) → AreEvents ids said events → length events ≡ count_of said
said_count ids (Frame from field) events (groups, octets, stands, reads, are) = ap length are
said_count ids (Clock now) events are = ap length are ∙ length-map (range_with_len 0 16) (λ n. RawClock n now)
said_count ids Expire events are = ap length are ∙ length-map (range_with_len 0 16) (λ n. RawExpire n)
said_count ids Batch events are = ap length are
said_count ids (Codes imsi codes) events are = ap length are
said_count ids (Withdraw imsi) events are = ap length are

line_begins : (ids : List (List ℕ)) (line : List ℕ) (events : List RawEvent) → LineEvents ids line events
    → (said : Line) × (rest : List ℕ) × (line ≡ kind_of said ∷ rest) × (length events ≡ count_of said)
line_begins ids line events (said, is, are) =
    let start = begins_with line said (written line said is) in
    (said, start.0, start.1, said_count ids said events are)

-- ---- lines, one more

-- So many events stand in the lines before these.
pub record Counts (ids : List (List ℕ)) (all here : List (List ℕ)) (count : ℕ) : Type 0 where
  pub left : (events : List RawEvent) → LinesEvents ids all events
      → (seen : ℕ) × (rest : List RawEvent) × LinesEvents ids here rest × (length events ≡ seen + length rest) × (seen < 2 ^ 64 → count ≡ seen)

pub counts_begin : (ids : List (List ℕ)) (all : List (List ℕ)) → Counts ids all all 0
counts_begin ids all = record { left = λ events are. (0, events, are, omega arith, λ small. refl) }

pub counts_go_on : (ids : List (List ℕ)) (all here : List (List ℕ)) (count : ℕ) (line : List ℕ) (more : List (List ℕ)) (own next : ℕ)
    → Counts ids all here count → here ≡ line ∷ more
    → ((events : List RawEvent) → LineEvents ids line events → own ≡ length events)
    → (count + own < 2 ^ 64 → next ≡ count + own)
    → Counts ids all more next
counts_go_on ids all here count line more own next h is counted sum = record {
  left = λ events are.
      let (seen, rest, rest_are, split, known) = h.left events are in
      let (front, behind, front_are, behind_are, both) = subst (λ (ls : List (List ℕ)). LinesEvents ids ls rest) is rest_are in
      let first : own ≡ length front = counted front front_are in
      let whole : length rest ≡ length front + length behind = ap length both ∙ length-append front behind in (
        seen + own,
        behind,
        behind_are,
        omega (arith, split, first, whole),
        λ small. let was : count ≡ seen = known (omega (arith, small)) in omega (arith, was, sum (omega (arith, small, was))),
      );
}

pub counts_end : (ids : List (List ℕ)) (all here : List (List ℕ)) (count : ℕ) (events : List RawEvent) → Counts ids all here count → here ≡ []
    → LinesEvents ids all events → length events < 2 ^ 64 → count ≡ length events
counts_end ids all here count events h is are small =
    let (seen, rest, rest_are, split, known) = h.left events are in
    let none : rest ≡ [] = subst (λ (ls : List (List ℕ)). LinesEvents ids ls rest) is rest_are in
    let nothing : length rest ≡ 0 = ap length none in
    omega (arith, split, nothing, known (omega (arith, split, nothing, small)))
