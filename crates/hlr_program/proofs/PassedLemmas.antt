-- The ids of letters, where they are passed only if there is a letter.
use Rattle.std.proofs.Common.{◌≡◌, ℕ, ◌<◌, arith, Bool, true, false, List, [], ◌∷◌, length, refl, sym, subst, ◌∙◌, inl, inr}
use Rattle.std.specs.Prelude.{Option, Some, None, is_some, nat_lt, option_map}
use Rattle.std.specs.List.{AllByRecursion}
use Rattle.std.proofs.lemmas.Bool.{and_parts, false≢true, ltb-true}
use Rattle.frames.specs.Octets.{RawEvent, RawOut}
use Rattle.machine.specs.State.{State}
use Rattle.texts.specs.Lines.{parts}
use Rattle.hlr_input.specs.declared.group.Group.{Group}
use Rattle.hlr_input.specs.declared.group.Group.TheVariants.{Octet, Letter}
use Rattle.hlr_input.specs.Octets.{IsOctets, are_known, ids_in}
use Rattle.hlr_input.specs.Script.{Line, Frame, Clock, Expire, Batch, Codes, Withdraw, HasOctets, Say}
use Rattle.hlr_input.proofs.LineLaws.{o_is_not_f}
use Rattle.hlr_input.proofs.OctetLaws.{octets_any}
use Rattle.hlr_program.specs.declared.fault.Fault.{Fault}
use Rattle.hlr_program.specs.declared.fault.Fault.TheVariants.{CommandLine, UnreadableRecords, BadRecord, TwiceRecord, UnreadableScript, BadLine, NoRoom, Memory, Unaccounted, Output}
use Rattle.hlr_program.specs.declared.register.Register.{Register}
use Rattle.hlr_program.specs.Batches.{ArePassed, HasIds, IsFirst, IsGood, LacksId}
use Rattle.hlr_program.specs.Gathering.{Handles}
use Rattle.hlr_program.specs.Runs.{AreEvents, LinesEvents}
use Rattle.hlr_program.specs.Stopping.{BatchStops}

-- ---- what lines stand for without an id, they stand for with any ids

said_any : (ids : List (List ℕ)) (said : Line) (events : List RawEvent) → AreEvents [] said events → AreEvents ids said events
said_any ids (Frame from field) events (groups, octets, stands, reads, same) = (groups, octets, stands, octets_any ids groups octets reads, same)
said_any ids (Clock now) events h = h
said_any ids Expire events h = h
said_any ids Batch events h = h
said_any ids (Codes imsi codes) events h = h
said_any ids (Withdraw imsi) events h = h

lines_any : (ids : List (List ℕ)) (ls : List (List ℕ)) (events : List RawEvent) → LinesEvents [] ls events → LinesEvents ids ls events
lines_any ids [] events h = h
lines_any ids (l ∷ ls) events (front, rest, (said, is, are), later, both) =
    (front, rest, (said, is, said_any ids said front are), lines_any ids ls rest later, both)

known_any : (known : ℕ) (groups : List Group) → are_known 0 groups ≡ true → are_known known groups ≡ true
known_any known [] e = refl
known_any known (Octet octet ∷ gs) e = known_any known gs e
known_any known (Letter place ∷ gs) e =
    let low : place < 0 = ltb-true place 0 (and_parts (nat_lt place 0) (are_known 0 gs) e).0 in
    absurd (omega (arith, low))

have_any : (known : ℕ) (ls : List (List ℕ)) → AllByRecursion (HasIds 0) ls → AllByRecursion (HasIds known) ls
have_any known [] h = tt
have_any known (l ∷ ls) h =
    (λ from field groups is octets. known_any known groups (h.0 from field groups is octets), have_any known ls h.1)

-- ---- without a letter none lacks an id

frame_octets : (fields : List (List ℕ)) (said : Line) (from field : List ℕ) → Say fields said → Say fields (Frame from field) → HasOctets said
    → HasOctets (Frame from field)
frame_octets [] said from field h k octets = absurd k
frame_octets (kind ∷ []) said from field h k octets = absurd k
frame_octets (kind ∷ a ∷ []) said from field h k octets = absurd k
frame_octets (kind ∷ a ∷ b ∷ d ∷ more) said from field h k octets = absurd k
frame_octets (kind ∷ a ∷ b ∷ []) (Frame other own) from field h k octets =
    subst (λ (t : List ℕ). (groups : List Group) × IsOctets t groups) (sym h.2 ∙ k.2) octets
frame_octets (kind ∷ a ∷ b ∷ []) (Clock now) from field h k octets = absurd h
frame_octets (kind ∷ a ∷ b ∷ []) Expire from field h k octets = absurd h
frame_octets (kind ∷ a ∷ b ∷ []) Batch from field h k octets = absurd h
frame_octets (kind ∷ a ∷ b ∷ []) (Codes imsi codes) from field h k octets = absurd (o_is_not_f (sym h.0 ∙ k.0))
frame_octets (kind ∷ a ∷ b ∷ []) (Withdraw imsi) from field h k octets = absurd h

none_lacks : (ls : List (List ℕ)) (before n : ℕ) → AllByRecursion IsGood ls → AllByRecursion (HasIds 0) ls → IsFirst (HasIds 0) (LacksId 0) ls before n → ⊥
none_lacks [] before n good has first = first
none_lacks (l ∷ ls) before n good has (inr later) = none_lacks ls _ n good.1 has.1 later.1
none_lacks (l ∷ ls) before n ((said, (is, octets)), good) has (inl (number, (from, field, frame, lacks))) =
    let own = frame_octets (parts 32 l) said from field is frame octets in
    false≢true (sym (lacks own.0 own.1) ∙ has.0 from field own.0 frame own.1)

-- ---- a batch

pub passed_handles : (lettered : Bool) (passed : Option (List (List ℕ))) (ids : List (List ℕ)) (here next : Register) (ls : List (List ℕ)) (sent : List RawOut)
    → ArePassed lettered passed ids → Handles (ids_in passed) here ls sent next → Handles ids here ls sent next
passed_handles true passed ids here next ls sent are h = subst (λ (p : Option (List (List ℕ))). Handles (ids_in p) here ls sent next) are h
passed_handles false passed ids here next ls sent are h =
    let none : Handles [] here ls sent next = subst (λ (p : Option (List (List ℕ))). Handles (ids_in p) here ls sent next) are h in
    record {
      batch = none.batch;
      are_events = lines_any ids ls none.batch.events none.are_events;
      one_each = none.one_each;
      ran = none.ran;
      sent_is = none.sent_is;
    }

stops_any : (ids : List (List ℕ)) (before : ℕ) (known : Option State) (ls : List (List ℕ)) (fault : Fault)
    → AllByRecursion IsGood ls → AllByRecursion (HasIds 0) ls → BatchStops [] before known ls fault → BatchStops ids before known ls fault
stops_any ids before known ls (BadLine n) good has h = absurd (none_lacks ls before n good has h)
stops_any ids before known ls NoRoom good has h = record {
  have_ids = have_any (length ids) ls has;
  events = h.events;
  are_events = lines_any ids ls h.events h.are_events;
  meets = h.meets;
}
stops_any ids before known ls Memory good has h = h
stops_any ids before known ls CommandLine good has h = h
stops_any ids before known ls UnreadableRecords good has h = h
stops_any ids before known ls (BadRecord n) good has h = h
stops_any ids before known ls (TwiceRecord n) good has h = h
stops_any ids before known ls UnreadableScript good has h = h
stops_any ids before known ls (Unaccounted job) good has h = h
stops_any ids before known ls Output good has h = h

pub passed_stops : (lettered : Bool) (passed : Option (List (List ℕ))) (ids : List (List ℕ)) (before : ℕ) (known : Option State) (ls : List (List ℕ)) (fault : Fault)
    → ArePassed lettered passed ids → AllByRecursion IsGood ls → (lettered ≡ false → AllByRecursion (HasIds 0) ls)
    → BatchStops (ids_in passed) before known ls fault → BatchStops ids before known ls fault
passed_stops true passed ids before known ls fault are good plain h =
    subst (λ (p : Option (List (List ℕ))). BatchStops (ids_in p) before known ls fault) are h
passed_stops false passed ids before known ls fault are good plain h =
    stops_any ids before known ls fault good (plain refl) (subst (λ (p : Option (List (List ℕ))). BatchStops (ids_in p) before known ls fault) are h)

-- none are passed only where there is no letter
pub passed_none : (lettered : Bool) (passed : Option (List (List ℕ))) (ids : List (List ℕ)) → ArePassed lettered passed ids → passed ≡ None → lettered ≡ false
passed_none true passed ids are none = absurd cc
passed_none false passed ids are none = refl

pub none_passed : {A B : Type 0} (f : A → B) (o : Option A) → is_some o ≡ false → option_map f o ≡ None
none_passed f None none = refl
none_passed f (Some x) none = absurd (false≢true (sym none))
