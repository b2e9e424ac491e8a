-- Events that are gathered and handled, and those that stop.
use Rattle.std.proofs.Common.{◌≡◌, ℕ, zero, suc, ◌+◌, ◌-◌, ◌<◌, arith, true, List, [], ◌∷◌, ◌++◌, map, length, refl, sym, ap, subst, ◌∙◌, append_assoc}
use Rattle.std.specs.List.{AllByRecursion, flat_map, range_with_len}
use Rattle.std.specs.Prelude.{Option, Some, None, Result, Ok, Err, IfErr, IsErrAnd}
use Rattle.std.proofs.lemmas.Bool.{and_parts, ltb-true}
use Rattle.std.proofs.lemmas.List.{append-nil}
use Rattle.std.proofs.lemmas.List.FromFn.{map-range_with_len_more}
use Rattle.machine.specs.Events as machine
use Rattle.machine.specs.State.{State}
use Rattle.frames.specs.Octets.{RawEvent, RawFrame, RawClock, RawExpire, RawChange, RawOut}
use Rattle.wholenode.specs.Handling.{IsRun}
use Rattle.wholenode.specs.Nodes.{whole}
use Rattle.wholenode.proofs.Places.{there}
use Rattle.hlr_input.specs.declared.group.Group.{Group}
use Rattle.hlr_input.specs.declared.group.Group.TheVariants.{Octet, Letter}
use Rattle.hlr_input.specs.Octets.{are_known, is_known, octets_of, octets_of_group}
use Rattle.hlr_input.specs.Script.{Line, Frame, Clock, Expire, Batch, Codes, Withdraw, IsLine, HasOctets}
use Rattle.hlr_program.specs.declared.fault.Fault.{Fault}
use Rattle.hlr_program.specs.declared.fault.Fault.TheVariants.{CommandLine, UnreadableRecords, BadRecord, TwiceRecord, UnreadableScript, BadLine, NoRoom, Memory, Unaccounted, Output}
use Rattle.hlr_program.specs.Batches.{IsGood, HasIds}
use Rattle.hlr_program.specs.Gathering.{Progress, Adds, AddsLine, AddsLines, AddsSaid, AddingStops, Handles, LineStops, LinesMeetNoRoom, LinesStop, SaidStops, state_in}
use Rattle.hlr_program.specs.declared.register.Register.{Register}
use Rattle.hlr_program.specs.declared.register.Register.TheVariants.{Alone, Shared}
use Rattle.hlr_program.specs.Printed.{Prints, SoFar}
use Rattle.hlr_program.specs.Registers.{RunsTo, state_known}
use Rattle.hlr_program.specs.Runs.{AreEvents, LineEvents, LinesEvents}
use Rattle.hlr_program.specs.Stopping.{BatchMeetsNoRoom, BatchStops, EventsStop, IsUnknown, MeetsNoRoom, MeetsNoRoomFrom, StopsWhere}
use Rattle.hlr_program.proofs.PrintLemmas.{prints_join, prints_none}
use Rattle.hlr_program.proofs.RegisterLemmas.{ran_each, ran_join, ran_none, unknown_before}
use Rattle.hlr_program.proofs.RunLemmas.{flat_join, runs_join}

-- ---- events after events

pub adds_none : (a : Progress) → Adds a [] a
adds_none a = record { handled = []; outs = []; order = append-nil a.part; ran = ran_none a.register; prints = prints_none a.answers }

pub adds_join : (a b c : Progress) (r s : List RawEvent) → Adds a r b → Adds b s c → Adds a (r ++ s) c
adds_join a b c r s h k = record {
  handled = h.handled ++ k.handled;
  outs = h.outs ++ k.outs;
  order = sym (append_assoc a.part r s) ∙ ap (λ (l : List RawEvent). l ++ s) h.order ∙ append_assoc h.handled b.part s
      ∙ ap (λ (l : List RawEvent). h.handled ++ l) k.order ∙ sym (append_assoc h.handled k.handled c.part);
  ran = ran_join a.register b.register c.register h.handled k.handled h.outs k.outs h.ran k.ran;
  prints = subst (λ (frames : List RawOut). Prints a.answers frames c.answers) (sym (flat_join h.outs k.outs))
      (prints_join a.answers b.answers c.answers (flat_map (λ o. o) h.outs) (flat_map (λ o. o) k.outs) h.prints k.prints);
}

-- an event is appended to the part
pub adds_one : (a b : Progress) (raw : RawEvent) → RunsTo a.register [] [] b.register → b.part ≡ a.part ++ raw ∷ [] → b.answers ≡ a.answers
    → Adds a (raw ∷ []) b
adds_one a b raw same put sends = record {
  handled = [];
  outs = [];
  order = sym put;
  ran = same;
  prints = subst (λ (s : SoFar). Prints a.answers [] s) (sym sends) (prints_none a.answers);
}

-- the part is handled
pub adds_part : (a b : Progress) (outs : List (List RawOut)) → RunsTo a.register a.part outs b.register → b.part ≡ []
    → Prints a.answers (flat_map (λ o. o) outs) b.answers → Adds a [] b
adds_part a b outs ran none sends = record {
  handled = a.part;
  outs = outs;
  order = ap (λ (l : List RawEvent). a.part ++ l) (sym none);
  ran = ran;
  prints = sends;
}

-- events are handled at once, where none are gathered
pub adds_sent : (a b : Progress) (raws : List RawEvent) (outs : List (List RawOut)) → a.part ≡ [] → b.part ≡ [] → RunsTo a.register raws outs b.register
    → Prints a.answers (flat_map (λ o. o) outs) b.answers → Adds a raws b
adds_sent a b raws outs none left ran sends = record {
  handled = raws;
  outs = outs;
  order = ap (λ (l : List RawEvent). l ++ raws) none ∙ sym (ap (λ (l : List RawEvent). raws ++ l) left ∙ append-nil raws);
  ran = ran;
  prints = sends;
}

-- ---- events that stop

pub stops_weaker : {P Q M N : Type 0} (fault : Fault) → (P → Q) → (M → N) → StopsWhere P M fault → StopsWhere Q N fault
stops_weaker NoRoom f g h = f h
stops_weaker Memory f g h = tt
stops_weaker CommandLine f g h = absurd h
stops_weaker UnreadableRecords f g h = absurd h
stops_weaker (BadRecord n) f g h = absurd h
stops_weaker (TwiceRecord n) f g h = absurd h
stops_weaker UnreadableScript f g h = absurd h
stops_weaker (BadLine n) f g h = absurd h
stops_weaker (Unaccounted job) f g h = g h
stops_weaker Output f g h = absurd h

-- a fault that is passed on
pub passed_on : {A : Type 0} (r : Result A Fault) (e : Fault) (P : Fault → Type 0) → IsErrAnd r (λ f. f ≡ e) → P e → IfErr r P
passed_on (Ok x) e P h p = tt
passed_on (Err f) e P h p = subst P (sym h) p

-- events after those that are handled
meets_behind : (S M : State) (handled es : List RawEvent) (sent : List (List RawOut)) → IsRun S handled sent M → MeetsNoRoom M es
    → MeetsNoRoom S (handled ++ es)
meets_behind S M handled es sent run h = record {
  handled = handled ++ h.handled;
  next = h.next;
  rest = h.rest;
  split = ap (λ (l : List RawEvent). handled ++ l) h.split ∙ sym (append_assoc handled h.handled (h.next ∷ h.rest));
  sent = sent ++ h.sent;
  met = h.met;
  run = runs_join S M h.met handled h.handled sent h.sent run h.run;
  event = h.event;
  is_event = h.is_event;
  no_room = h.no_room;
}

-- the same, as far as the state is known
meets_behind_from : (a b : Register) (handled es : List RawEvent) (sent : List (List RawOut)) → RunsTo a handled sent b → MeetsNoRoomFrom (state_known b) es
    → MeetsNoRoomFrom (state_known a) (handled ++ es)
meets_behind_from (Alone a) (Alone b) handled es sent ran h = meets_behind (whole a.register.shards) (whole b.register.shards) handled es sent ran.0 h
meets_behind_from (Shared a) (Shared b) handled es sent ran h = tt
meets_behind_from (Alone a) (Shared b) handled es sent ran h = absurd ran
meets_behind_from (Shared a) (Alone b) handled es sent ran h = tt

-- and others after them
meets_before : (S : State) (es more : List RawEvent) → MeetsNoRoom S es → MeetsNoRoom S (es ++ more)
meets_before S es more h = record {
  handled = h.handled;
  next = h.next;
  rest = h.rest ++ more;
  split = ap (λ (l : List RawEvent). l ++ more) h.split ∙ append_assoc h.handled (h.next ∷ h.rest) more;
  sent = h.sent;
  met = h.met;
  run = h.run;
  event = h.event;
  is_event = h.is_event;
  no_room = h.no_room;
}

meets_before_from : (known : Option State) (es more : List RawEvent) → MeetsNoRoomFrom known es → MeetsNoRoomFrom known (es ++ more)
meets_before_from (Some S) es more h = meets_before S es more h
meets_before_from None es more h = tt

meets_join : (a b : Progress) (r s : List RawEvent) → Adds a r b → MeetsNoRoomFrom (state_in b) (b.part ++ s)
    → MeetsNoRoomFrom (state_in a) (a.part ++ (r ++ s))
meets_join a b r s h meets =
    let order : a.part ++ (r ++ s) ≡ h.handled ++ (b.part ++ s) =
    sym (append_assoc a.part r s) ∙ ap (λ (l : List RawEvent). l ++ s) h.order ∙ append_assoc h.handled b.part s in
    subst (λ (es : List RawEvent). MeetsNoRoomFrom (state_in a) es) (sym order)
    (meets_behind_from a.register b.register h.handled (b.part ++ s) h.outs h.ran meets)

meets_longer : (a : Progress) (r s : List RawEvent) → MeetsNoRoomFrom (state_in a) (a.part ++ r) → MeetsNoRoomFrom (state_in a) (a.part ++ (r ++ s))
meets_longer a r s meets = subst (λ (es : List RawEvent). MeetsNoRoomFrom (state_in a) es) (append_assoc a.part r s)
    (meets_before_from (state_in a) (a.part ++ r) s meets)

-- what is known of the state before
unknown_adds : (a : Progress) (r : List RawEvent) (b : Progress) → Adds a r b → IsUnknown (state_in b) → IsUnknown (state_in a)
unknown_adds a r b h = unknown_before a.register b.register h.handled h.outs h.ran

pub stops_join : (a b : Progress) (r s : List RawEvent) (fault : Fault) → Adds a r b → AddingStops b s fault → AddingStops a (r ++ s) fault
stops_join a b r s fault h stops = stops_weaker fault (meets_join a b r s h) (unknown_adds a r b h) stops

pub stops_longer : (a : Progress) (r s : List RawEvent) (fault : Fault) → AddingStops a r fault → AddingStops a (r ++ s) fault
stops_longer a r s fault stops = stops_weaker fault (meets_longer a r s) (λ u. u) stops

-- the part alone
pub stops_part : (a : Progress) (r : List RawEvent) (fault : Fault) → EventsStop (state_in a) a.part fault → AddingStops a r fault
stops_part a r fault stops = stops_weaker fault (meets_before_from (state_in a) a.part r) (λ u. u) stops

-- ---- one shard more

-- the events for the shards up to this one
pub each_more : (f : ℕ → RawEvent) (n shard : ℕ) (a b c : Progress) → Adds a (map f (range_with_len 0 n)) b → shard ≡ n → Adds b (f shard ∷ []) c
    → Adds a (map f (range_with_len 0 (n + 1))) c
each_more f n shard a b c h is one =
    subst (λ (events : List RawEvent). Adds a events c) (sym (map-range_with_len_more f 0 n n (omega arith)))
    (adds_join a b c (map f (range_with_len 0 n)) (f n ∷ []) h (subst (λ (k : ℕ). Adds b (f k ∷ []) c) is one))

each_longer : (f : ℕ → RawEvent) (a : Progress) (fault : Fault) (n more : ℕ) → AddingStops a (map f (range_with_len 0 n)) fault
    → AddingStops a (map f (range_with_len 0 (n + more))) fault
each_longer f a fault n more h = go more
  where
    go : (k : ℕ) → AddingStops a (map f (range_with_len 0 (n + k))) fault
    go zero = subst (λ (m : ℕ). AddingStops a (map f (range_with_len 0 m)) fault) (omega arith) h
    go (suc k) =
        let next : n + suc k ≡ (n + k) + 1 = omega arith in
        subst (λ (m : ℕ). AddingStops a (map f (range_with_len 0 m)) fault) (sym next)
        (subst (λ (events : List RawEvent). AddingStops a events fault) (sym (map-range_with_len_more f 0 (n + k) (n + k) (omega arith)))
        (stops_longer a (map f (range_with_len 0 (n + k))) (f (n + k) ∷ []) fault (go k)))

-- the event for this shard stops: so do all of them
pub each_stops : (f : ℕ → RawEvent) (n shard : ℕ) (a b : Progress) (fault : Fault) → n < 16 → Adds a (map f (range_with_len 0 n)) b → shard ≡ n
    → AddingStops b (f shard ∷ []) fault
    → AddingStops a (map f (range_with_len 0 16)) fault
each_stops f n shard a b fault lt h is stops =
    let here : AddingStops a (map f (range_with_len 0 n) ++ f n ∷ []) fault = stops_join a b (map f (range_with_len 0 n)) (f n ∷ []) fault h
    (subst (λ (k : ℕ). AddingStops b (f k ∷ []) fault) is stops) in
    let first : AddingStops a (map f (range_with_len 0 (n + 1))) fault =
    subst (λ (events : List RawEvent). AddingStops a events fault) (sym (map-range_with_len_more f 0 n n (omega arith))) here in
    let all : (n + 1) + (15 - n) ≡ 16 = omega (arith, lt) in
    subst (λ (m : ℕ). AddingStops a (map f (range_with_len 0 m)) fault) all (each_longer f a fault (n + 1) (15 - n) first)

-- ---- what a line says

pub adds_said : (ids : List (List ℕ)) (item said : Line) (events : List RawEvent) (before after : Progress) → item ≡ said → AreEvents ids said events
    → Adds before events after → AddsSaid ids before item after
adds_said ids item said events before after is are h = subst (λ (l : Line). AddsSaid ids before l after) (sym is) (events, are, h)

pub said_stops : (ids : List (List ℕ)) (item said : Line) (events : List RawEvent) (before : Progress) (fault : Fault) → item ≡ said → AreEvents ids said events
    → AddingStops before events fault
    → SaidStops ids before item fault
said_stops ids item said events before fault is are h =
    subst (λ (l : Line). SaidStops ids before l fault) (sym is) (stops_weaker fault (λ meets. (events, are, meets)) (λ u. u) h)

-- ---- lines whose letters have ids stand for events

known_group : (ids : List (List ℕ)) (g : Group) → is_known (length ids) g ≡ true → (front : List ℕ) × (octets_of_group ids g ≡ Some front)
known_group ids (Octet octet) e = (octet ∷ [], refl)
known_group ids (Letter place) e = there ids place (ltb-true place (length ids) e)

pub known_octets : (ids : List (List ℕ)) (groups : List Group) → are_known (length ids) groups ≡ true → (found : List ℕ) × (octets_of ids groups ≡ Some found)
known_octets ids [] e = ([], refl)
known_octets ids (g ∷ gs) e =
    let parts = and_parts (is_known (length ids) g) (are_known (length ids) gs) e in
    let front = known_group ids g parts.0 in
    let rest = known_octets ids gs parts.1 in
    (front.0 ++ rest.0, rw (front.1, rest.1) refl)

said_events : (ids : List (List ℕ)) (line : List ℕ) (said : Line) → IsLine line said → HasOctets said → HasIds (length ids) line
    → (events : List RawEvent) × AreEvents ids said events
said_events ids line (Frame from field) is (groups, stands) known =
    let found = known_octets ids groups (known from field groups is stands) in
    (RawFrame from found.0 ∷ [], (groups, found.0, stands, found.1, refl))
said_events ids line (Clock now) is octets known = (map (λ n. RawClock n now) (range_with_len 0 16), refl)
said_events ids line Expire is octets known = (map (λ n. RawExpire n) (range_with_len 0 16), refl)
said_events ids line Batch is octets known = ([], refl)
said_events ids line (Codes imsi codes) is octets known = (RawChange imsi (machine.Codes codes) ∷ [], refl)
said_events ids line (Withdraw imsi) is octets known = (RawChange imsi machine.Withdraw ∷ [], refl)

line_events : (ids : List (List ℕ)) (line : List ℕ) → IsGood line → HasIds (length ids) line → (events : List RawEvent) × LineEvents ids line events
line_events ids line (said, (is, octets)) known = let events = said_events ids line said is octets known in (events.0, (said, is, events.1))

lines_events : (ids : List (List ℕ)) (ls : List (List ℕ)) → AllByRecursion IsGood ls → AllByRecursion (HasIds (length ids)) ls
    → (events : List RawEvent) × LinesEvents ids ls events
lines_events ids [] good known = ([], refl)
lines_events ids (l ∷ ls) good known =
    let front = line_events ids l good.0 known.0 in
    let rest = lines_events ids ls good.1 known.1 in
    (front.0 ++ rest.0, (front.0, rest.0, front.1, rest.1, refl))

-- the item read from a good line stands for events
pub item_events : (ids : List (List ℕ)) (line : List ℕ) (item : Line) → IsGood line → HasIds (length ids) line
    → ((said : Line) → IsLine line said → item ≡ said)
    → (events : List RawEvent) × AreEvents ids item events
item_events ids line item (said, (is, octets)) known only =
    subst (λ (l : Line). (events : List RawEvent) × AreEvents ids l events) (sym (only said is)) (said_events ids line said is octets known)

pub line_stops : (ids : List (List ℕ)) (line : List ℕ) (item : Line) (before : Progress) (fault : Fault) → IsLine line item → SaidStops ids before item fault
    → LineStops ids before line fault
line_stops ids line item before fault is stops = stops_weaker fault (λ (raws, are, met). (item, is, raws, are, met)) (λ u. u) stops

-- ---- one line more

-- the remaining lines complete what the whole adds, and if they stop the whole does
pub record GoesOn (ids : List (List ℕ)) (start : Progress) (whole_lines : List (List ℕ)) (here : Progress) (rest : List (List ℕ)) : Type 0 where
  pub all : (after : Progress) → AddsLines ids here rest after → AddsLines ids start whole_lines after
  pub stops : LinesMeetNoRoom ids here rest → LinesMeetNoRoom ids start whole_lines
  pub unknown : IsUnknown (state_in here) → IsUnknown (state_in start)
  pub good : AllByRecursion IsGood rest
  pub known : AllByRecursion (HasIds (length ids)) rest

pub adding_begins : (ids : List (List ℕ)) (start : Progress) (ls : List (List ℕ)) → AllByRecursion IsGood ls → AllByRecursion (HasIds (length ids)) ls
    → GoesOn ids start ls start ls
adding_begins ids start ls good known = record { all = λ after h. h; stops = λ h. h; unknown = λ u. u; good = good; known = known }

-- the next line is good, and its letters have ids
pub next_good : (ids : List (List ℕ)) (start : Progress) (ls : List (List ℕ)) (here : Progress) (rest : List (List ℕ)) (line : List ℕ) (more : List (List ℕ))
    → GoesOn ids start ls here rest
    → rest ≡ line ∷ more → IsGood line
next_good ids start ls here rest line more h is = (subst (AllByRecursion IsGood) is h.good).0

pub next_known : (ids : List (List ℕ)) (start : Progress) (ls : List (List ℕ)) (here : Progress) (rest : List (List ℕ)) (line : List ℕ) (more : List (List ℕ))
    → GoesOn ids start ls here rest
    → rest ≡ line ∷ more → HasIds (length ids) line
next_known ids start ls here rest line more h is = (subst (AllByRecursion (HasIds (length ids))) is h.known).0

pub adding_goes_on : (ids : List (List ℕ)) (start : Progress) (ls : List (List ℕ)) (here next : Progress) (rest : List (List ℕ)) (line : List ℕ)
    (more : List (List ℕ))
    → GoesOn ids start ls here rest → rest ≡ line ∷ more → AddsLine ids here line next → GoesOn ids start ls next more
adding_goes_on ids start ls here next rest line more h is (said, reads, (raws, are, adds)) = record {
  all = λ after later. h.all after (subst (λ (k : List (List ℕ)). AddsLines ids here k after) (sym is)
      (raws ++ later.0, (raws, later.0, (said, reads, are), later.1, refl), adds_join here next after raws later.0 adds later.2));
  stops = λ later. h.stops (subst (λ (k : List (List ℕ)). LinesMeetNoRoom ids here k) (sym is)
      (raws ++ later.0, (raws, later.0, (said, reads, are), later.1, refl), meets_join here next raws later.0 adds later.2));
  unknown = λ u. h.unknown (unknown_adds here raws next adds u);
  good = (subst (AllByRecursion IsGood) is h.good).1;
  known = (subst (AllByRecursion (HasIds (length ids))) is h.known).1;
}

pub adding_ends : (ids : List (List ℕ)) (start : Progress) (ls : List (List ℕ)) (here : Progress) (rest : List (List ℕ)) → GoesOn ids start ls here rest
    → rest ≡ [] → AddsLines ids start ls here
adding_ends ids start ls here rest h is = h.all here (subst (λ (k : List (List ℕ)). AddsLines ids here k here) (sym is) ([], refl, adds_none here))

pub adding_stops : (ids : List (List ℕ)) (start : Progress) (ls : List (List ℕ)) (here : Progress) (rest : List (List ℕ)) (line : List ℕ) (more : List (List ℕ))
    (fault : Fault)
    → GoesOn ids start ls here rest → rest ≡ line ∷ more → LineStops ids here line fault → LinesStop ids start ls fault
adding_stops ids start ls here rest line more fault h is stops = stops_weaker fault meets h.unknown stops
  where
    later : (events : List RawEvent) × LinesEvents ids more events
    later = lines_events ids more (subst (AllByRecursion IsGood) is h.good).1 (subst (AllByRecursion (HasIds (length ids))) is h.known).1

    meets : (said : Line) × IsLine line said × (raws : List RawEvent) × AreEvents ids said raws × MeetsNoRoomFrom (state_in here) (here.part ++ raws)
        → LinesMeetNoRoom ids start ls
    meets (said, reads, raws, are, met) =
        h.stops (subst (λ (k : List (List ℕ)). LinesMeetNoRoom ids here k) (sym is)
        (raws ++ later.0, (raws, later.0, (said, reads, are), later.1, refl), meets_longer here raws later.0 met))

-- ---- a batch

-- a batch begins with an empty part, and ends with one
pub handles : (ids : List (List ℕ)) (a b c : Progress) (ls : List (List ℕ)) → a.part ≡ [] → AddsLines ids a ls b → Adds b [] c → c.part ≡ []
    → (sent : List RawOut) × Handles ids a.register ls sent c.register × Prints a.answers sent c.answers
handles ids a b c ls none (raws, are, adds) last empty =
    let all = adds_join a b c raws [] adds last in
    let events : raws ≡ all.handled =
    sym (append-nil raws) ∙ sym (ap (λ (l : List RawEvent). l ++ (raws ++ [])) none) ∙ all.order ∙ ap (λ (l : List RawEvent). all.handled ++ l) empty
    ∙ append-nil all.handled in (
      flat_map (λ o. o) all.outs,
      record {
        batch = record { events = all.handled; sent = all.outs };
        are_events = subst (λ (es : List RawEvent). LinesEvents ids ls es) events are;
        one_each = ran_each a.register c.register all.handled all.outs all.ran;
        ran = all.ran;
        sent_is = refl;
      },
      all.prints,
    )

batch_meets : (ids : List (List ℕ)) (a : Progress) (ls : List (List ℕ)) → a.part ≡ [] → AllByRecursion (HasIds (length ids)) ls → LinesMeetNoRoom ids a ls
    → BatchMeetsNoRoom ids (state_in a) ls
batch_meets ids a ls none known (raws, are, met) = record {
  have_ids = known;
  events = raws;
  are_events = are;
  meets = subst (λ (l : List RawEvent). MeetsNoRoomFrom (state_in a) (l ++ raws)) none met;
}

pub batch_stops : (ids : List (List ℕ)) (before : ℕ) (a : Progress) (ls : List (List ℕ)) (fault : Fault) → a.part ≡ [] → AllByRecursion (HasIds (length ids)) ls
    → LinesStop ids a ls fault → BatchStops ids before (state_in a) ls fault
batch_stops ids before a ls NoRoom none known h = batch_meets ids a ls none known h
batch_stops ids before a ls Memory none known h = tt
batch_stops ids before a ls CommandLine none known h = absurd h
batch_stops ids before a ls UnreadableRecords none known h = absurd h
batch_stops ids before a ls (BadRecord n) none known h = absurd h
batch_stops ids before a ls (TwiceRecord n) none known h = absurd h
batch_stops ids before a ls UnreadableScript none known h = absurd h
batch_stops ids before a ls (BadLine n) none known h = absurd h
batch_stops ids before a ls (Unaccounted job) none known h = h
batch_stops ids before a ls Output none known h = absurd h

-- its last part stops
pub last_stops : (ids : List (List ℕ)) (a b : Progress) (ls : List (List ℕ)) (fault : Fault) → AddsLines ids a ls b → AddingStops b [] fault
    → LinesStop ids a ls fault
last_stops ids a b ls fault (raws, are, adds) stops =
    stops_weaker fault (λ met. (
      raws,
      are,
      subst (λ (es : List RawEvent). MeetsNoRoomFrom (state_in a) (a.part ++ es)) (append-nil raws)
          (meets_join a b raws [] adds met),
    )) (unknown_adds a raws b adds) stops
