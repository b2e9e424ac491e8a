-- What is written of a shard is read again as that shard.
use Rattle.std.proofs.Common.{◌≡◌, ◌&&◌, ◌++◌, ◌∷◌, ◌-◌, ℕ, suc, List, [], Bool, true, false, cond, Option, Some, None, is_some, refl, sym, ap, ◌∙◌, append_assoc, subst, IsTrue, length, arith, inl, inr, ◌⊎◌, ap₂, true≢false, zero-lt-suc, subst₂}
use Rattle.std.specs.Prelude.{option_map, not, is_none, unwrap_or, map as each, T}
use Rattle.std.specs.FinMap as map
use Rattle.std.specs.FinMap.{find, is_sorted, slice_cmp-IsAntisymmetric, nat_cmp-IsAntisymmetric}
use Rattle.std.specs.FinMap.Entries.{below_all}
use Rattle.std.specs.Ordering.{is_lt}
use Rattle.std.specs.Cmp.{tied_itself}
use Rattle.std.specs.FinSet as set
use Rattle.std.specs.List.{flat_map}
use Rattle.std.specs.Ordering.{eq_by_cmp}
use Rattle.hlr_types.specs.Orders.{octets_cmp}
use Rattle.hlr_types.proofs.OrderLemmas.{eq_octets, ne_octets, octets_total, same_octets}
use Rattle.machine.specs.Effect.{AreRising}
use Rattle.machine.specs.Keys.{Every}
use Rattle.machine.specs.Sound.{IsUpdate, IsUpdateOf, MarkNames, SoundDialogue, SoundRecord}
use Rattle.machine.specs.State.{Dialogue, Invocation, Kind, Updates, Cancels, Data}
use Rattle.machine_laws.proofs.Keys.{none_some, some_inj, same_is, same_refl}
use Rattle.records.specs.Subscriber.{Subscriber, unmarked}
use Rattle.records.specs.Maps.{digits_cmp}
use Rattle.records.proofs.MapLemmas.{digits_total}
use Rattle.smroute.specs.Seen.{machine_subscriber}
use Rattle.tidalloc.specs.LiveIds.{LiveIds, Supply, given_back, next_id, after_taking, beginning_after, no_ids}
use Rattle.tidalloc.specs.Resumed.{AreTakenAgain, ascending, GivesInTurn, IsResumed, UsesInTurn, freed_ids, used_ids, untaken_all, with_used}
use Rattle.dialogues.specs.Dialogues.{dialogues_of, gone_on, next_of}
use Rattle.hlrcore.specs.Shards.{ShardState, records_of, state_of}
use Rattle.hlrcore.specs.Sound.{IsSoundShard}
use Rattle.hlrcore.specs.Resuming.{is_update, marked, marked_if, may_have, may_reopen, reopened, reopened_under, with_current}
use Rattle.image_lines.specs.Lines.{Line, Shard, Used, Freed, Opened, Waits, End}
use Rattle.images.specs.Reading.{Begins, Ends, HasIds, HasOpened, Whole, Reading, Takes, reading, with_ids}
use Rattle.images.specs.Written.{is_current, names, opened_lines, shard_lines}
use Rattle.images.specs.Again.{BeginsAs, TakesAll, TakesTo}

-- ---- the lines of one shard, one after the other

pub takes_more : (a b c : Reading) (these more : List Line) → TakesAll a these b → TakesAll b more c → TakesAll a (these ++ more) c
takes_more a b c [] more e t = subst (λ z. TakesAll z more c) (sym e) t
takes_more a b c (line ∷ these) more h t = (h.0, h.1, takes_more h.0 b c these more h.2 t)

pub takes_used : (s : ShardState) (clock : ℕ) (these : List (List ℕ)) (a b : LiveIds) → a.supply.free ≡ [] → UsesInTurn a these b
    → TakesAll (reading s (HasIds clock a)) (each (λ id. Used id) these) (reading s (HasIds clock b))
takes_used s clock [] a b none e = ap (λ z. reading s (HasIds clock z)) e
takes_used s clock (id ∷ more) a b none h =
    (reading s (HasIds clock (with_used a id)), (none, h.0, refl), takes_used s clock more (with_used a id) b none h.1)

pub takes_freed : (s : ShardState) (clock : ℕ) (these : List (List ℕ)) (a b : LiveIds) → GivesInTurn a these b
    → TakesAll (reading s (HasIds clock a)) (each (λ id. Freed id) these) (reading s (HasIds clock b))
takes_freed s clock [] a b e = ap (λ z. reading s (HasIds clock z)) e
takes_freed s clock (id ∷ more) a b h =
    (reading s (HasIds clock (given_back a id)), (h.0, refl), takes_freed s clock more (given_back a id) b h.1)

-- ---- invocations

every_front : (P : Invocation → Type 0) (us vs : List Invocation) → Every P (us ++ vs) → Every P us
every_front P [] vs h = tt
every_front P (u ∷ us) vs h = (h.0, every_front P us vs h.1)

rising_front : (us vs : List Invocation) → AreRising (us ++ vs) → AreRising us
rising_front [] vs h = tt
rising_front (u ∷ us) vs h = (every_front _ us vs h.0, rising_front us vs h.1)

append_one : (us vs : List Invocation) (v : Invocation) → us ++ v ∷ vs ≡ (us ++ v ∷ []) ++ vs
append_one [] vs v = refl
append_one (u ∷ us) vs v = ap (λ z. u ∷ z) (append_one us vs v)

append_none : {X : Type 0} (xs : List X) → xs ++ [] ≡ xs
append_none [] = refl
append_none (x ∷ xs) = ap (λ z. x ∷ z) (append_none xs)

takes_invocations : (s : ShardState) (left : ℕ) (us vs : List Invocation) → AreRising (us ++ vs)
    → TakesAll (reading s (HasOpened left us)) (each (λ v. Waits v) vs) (reading s (HasOpened left (us ++ vs)))
takes_invocations s left us [] h = ap (λ z. reading s (HasOpened left z)) (sym (append_none us))
takes_invocations s left us (v ∷ vs) h =
    let next : AreRising ((us ++ v ∷ []) ++ vs) = subst AreRising (append_one us vs v) h in (
      reading s (HasOpened left (us ++ v ∷ [])),
      (rising_front (us ++ v ∷ []) vs next, refl),
      subst (λ z. TakesAll (reading s (HasOpened left (us ++ v ∷ []))) (each (λ w. Waits w) vs) (reading s (HasOpened left z))) (sym (append_one us vs v))
          (takes_invocations s left (us ++ v ∷ []) vs next),
    )

-- ---- the first line of a dialogue follows those of the ids

enter : (s t : ShardState) (clock : ℕ) (ids : LiveIds) (lines : List Line) → TakesTo (reading (with_ids s clock ids) (HasOpened (set.len ids.live) [])) lines t
    → TakesTo (reading s (HasIds clock ids)) lines t
enter s t clock ids [] h = let P : Reading → Type 0 = λ z. Ends z t in absurd (subst P (sym h.1) h.2)
enter s t clock ids (Waits v ∷ more) h = (h.0, (h.1.0, h.1.1, h.1.2), h.2)
enter s t clock ids (Opened id mark d ∷ more) h = (h.0, (h.1.0, h.1.1, h.1.2), h.2)
enter s t clock ids (End ∷ more) h = (h.0, (h.1.0, h.1.1, h.1.2), h.2)
enter s t clock ids (Shard n later first ∷ more) h = absurd h.1.1
enter s t clock ids (Used id ∷ more) h = absurd h.1.1
enter s t clock ids (Freed id ∷ more) h = absurd h.1.1

-- ---- lists of entries

abbrev Entry : Type 0
Entry = List ℕ × Dialogue

abbrev keys_of : List Entry → List (List ℕ)
keys_of es = each (λ e. e.0) es

keys_split : (done : List Entry) (e : Entry) (more : List Entry) → keys_of (done ++ e ∷ more) ≡ keys_of done ++ e.0 ∷ keys_of more
keys_split [] e more = refl
keys_split (x ∷ done) e more = ap (λ z. x.0 ∷ z) (keys_split done e more)

split_one : (done : List Entry) (e : Entry) (more : List Entry) → done ++ e ∷ more ≡ (done ++ e ∷ []) ++ more
split_one [] e more = refl
split_one (x ∷ done) e more = ap (λ z. x ∷ z) (split_one done e more)

T-first : (a b : Bool) → T (a && b) → T a
T-first true b h = tt
T-first false b h = absurd h

T-second : (a b : Bool) → T (a && b) → T b
T-second true b h = h
T-second false b h = absurd h

not_less : (x y : List ℕ) → T (is_lt (octets_cmp x y)) → y ≡ x → ⊥
not_less x y h e = subst T (ap (λ z. is_lt (octets_cmp x z)) e ∙ ap is_lt (tied_itself octets_total x)) h

below_one : (x : List ℕ) (done : List Entry) (e : Entry) (more : List Entry) → T (below_all octets_cmp x (done ++ e ∷ more)) → e.0 ≡ x → ⊥
below_one x [] e more h = not_less x e.0 (T-first _ (below_all octets_cmp x more) h)
below_one x (y ∷ done) e more h = below_one x done e more (T-second (is_lt (octets_cmp x y.0)) _ h)

-- an entry's key is not among those before it
find_none : (done : List Entry) (e : Entry) (more : List Entry) → T (is_sorted octets_cmp (done ++ e ∷ more)) → find octets_cmp e.0 done ≡ None
find_none [] e more h = refl
find_none (x ∷ done) e more h =
    ap (λ b. cond b (Some x.1) (find octets_cmp e.0 done)) (ne_octets e.0 x.0 (below_one x.0 done e more (T-first _ (is_sorted octets_cmp (done ++ e ∷ more)) h)))
    ∙ find_none done e more (T-second (below_all octets_cmp x.0 (done ++ e ∷ more)) _ h)

find_here : (done : List Entry) (e : Entry) (more : List Entry) → T (is_sorted octets_cmp (done ++ e ∷ more)) → find octets_cmp e.0 (done ++ e ∷ more) ≡ Some e.1
find_here [] e more h = ap (λ b. cond b (Some e.1) (find octets_cmp e.0 more)) (eq_octets e.0 e.0 refl)
find_here (x ∷ done) e more h =
    ap (λ b. cond b (Some x.1) (find octets_cmp e.0 (done ++ e ∷ more))) (ne_octets e.0 x.0 (below_one x.0 done e more (T-first _ (is_sorted octets_cmp (done ++ e ∷ more)) h)))
    ∙ find_here done e more (T-second (below_all octets_cmp x.0 (done ++ e ∷ more)) _ h)

find_added : (done : List Entry) (e : Entry) (q : List ℕ) → find octets_cmp e.0 done ≡ None
    → find octets_cmp q (done ++ e ∷ []) ≡ cond (eq_by_cmp octets_cmp q e.0) (Some e.1) (find octets_cmp q done)
find_added done e q none = sym (map.get-from_entries octets_total (done ++ e ∷ []) q)
    ∙ ap (λ m. map.get m q) (map.from_entries_push octets_total (slice_cmp-IsAntisymmetric nat_cmp-IsAntisymmetric) done e.0 e.1 none)
    ∙ map.get-insert octets_total (map.from_entries done) e.0 e.1 q
    ∙ ap (λ z. cond (eq_by_cmp octets_cmp q e.0) (Some e.1) z) (map.get-from_entries octets_total done q)

-- ---- records of which only the marks of dialogues that are open again are set

abbrev kept_mark : List Entry → Option (List ℕ) → Option (List ℕ)
kept_mark done None = None
kept_mark done (Some current) = cond (is_some (find octets_cmp current done)) (Some current) None

abbrev kept : List Entry → Subscriber → Subscriber
kept done r = record r { current = kept_mark done r.current }

-- The shard in which these dialogues are open again, and those are left.
record Partly (s t : ShardState) (done left : List Entry) : Type 0 where
  shard : t.shard ≡ s.shard
  clock : t.clock ≡ s.clock
  directory : t.directory ≡ s.directory
  hlr : t.hlr ≡ s.hlr
  ids : t.dialogues.shard ≡ s.dialogues.shard
  supply : t.dialogues.supply ≡ untaken_all s.dialogues.supply (keys_of left)
  opened : t.dialogues.open_ones ≡ map.from_entries done
  records : (x : List ℕ) → map.get t.records x ≡ option_map (kept done) (map.get s.records x)

-- ---- one dialogue more

not_true : (b : Bool) → (b ≡ true → ⊥) → b ≡ false
not_true true h = absurd (h refl)
not_true false h = refl

true_or_not : (b : Bool) → (b ≡ true) ⊎ (b ≡ false)
true_or_not true = inl refl
true_or_not false = inr refl

is_update_of : (kind : Kind) → IsUpdate kind → is_update kind ≡ true
is_update_of (Updates register invoke) u = refl
is_update_of (Cancels vlr attempt why) u = absurd u
is_update_of Data u = absurd u

there_is : {X : Type 0} (o : Option X) → IsTrue (is_some o) → (x : X) × (o ≡ Some x)
there_is None h = absurd cc
there_is (Some x) h = (x, refl)

seen_there : (o : Option Subscriber) → IsTrue (is_some (option_map machine_subscriber o)) → (r : Subscriber) × (o ≡ Some r)
seen_there None h = absurd cc
seen_there (Some r) h = (r, refl)

module _ (s : ShardState) (is : IsSoundShard s) (done : List Entry) (id : List ℕ) (d : Dialogue) (more : List Entry)
    (entries_are : done ++ (id, d) ∷ more ≡ map.entries s.dialogues.open_ones) where
  abbrev after : List Entry
  after = done ++ (id, d) ∷ []

  sorted : T (is_sorted octets_cmp (done ++ (id, d) ∷ more))
  sorted = subst (λ es. T (is_sorted octets_cmp es)) (sym entries_are) (map.entries_sorted s.dialogues.open_ones)

  not_before : find octets_cmp id done ≡ None
  not_before = find_none done (id, d) more sorted

  is_open : dialogues_of s.dialogues id ≡ Some d
  unfolding dialogues_of
  is_open = map.get-entries s.dialogues.open_ones id ∙ ap (λ es. find octets_cmp id es) (sym entries_are) ∙ find_here done (id, d) more sorted

  sound : SoundDialogue (records_of s.records) id d
  unfolding state_of
  sound = is.sound.dialogues id d is_open

  subscriber : (r : Subscriber) × (map.get s.records d.subscriber ≡ Some r)
  subscriber = seen_there (map.get s.records d.subscriber) sound.has_record

  -- a mark with this id is that of the dialogue's subscriber
  marked_is : (x : List ℕ) (r : Subscriber) → map.get s.records x ≡ Some r → r.current ≡ Some id → (d.subscriber ≡ x) × IsUpdate d.kind
  unfolding state_of
  marked_is x r found current =
      let before : SoundRecord (dialogues_of s.dialogues) x (machine_subscriber r) = is.sound.records x (machine_subscriber r) (ap (option_map machine_subscriber) found) in
      let P : Option (List ℕ) → Type 0 = λ c. MarkNames x (dialogues_of s.dialogues) c in
      let Q : Option Dialogue → Type 0 = λ o. IsUpdateOf x o in
      subst Q is_open (subst P current before.mark)

  withdrawn_not : (x : List ℕ) (r : Subscriber) → map.get s.records x ≡ Some r → r.current ≡ Some id → r.withdrawn ≡ false
  unfolding state_of
  withdrawn_not x r found current =
      let before : SoundRecord (dialogues_of s.dialogues) x (machine_subscriber r) = is.sound.records x (machine_subscriber r) (ap (option_map machine_subscriber) found) in
      not_true r.withdrawn (λ w. none_some id r.current (before.withdrawn w).1 current)

  -- a mark that is not this one is kept or not as before
  kept_same : (c : Option (List ℕ)) → (c ≡ Some id → ⊥) → kept_mark done c ≡ kept_mark after c
  kept_same None h = refl
  kept_same (Some c) h = ap (λ o. cond (is_some o) (Some c) None) (sym (find_added done (id, d) c not_before
      ∙ ap (λ b. cond b (Some d) (find octets_cmp c done)) (ne_octets c id (λ e. h (ap (λ (z : List ℕ). Some z) e)))))

  kept_here : kept_mark after (Some id) ≡ Some id
  kept_here = ap (λ o. cond (is_some o) (Some id) None) (find_added done (id, d) id not_before
      ∙ ap (λ b. cond b (Some d) (find octets_cmp id done)) (eq_octets id id refl))

  kept_not : kept_mark done (Some id) ≡ None
  kept_not = ap (λ o. cond (is_some o) (Some id) None) not_before

  abbrev mark : Bool
  mark = is_current id (map.get s.records d.subscriber)

  -- it is marked exactly if the subscriber's record has its id
  mark_is : mark ≡ names id subscriber.0.current
  mark_is = ap (λ o. is_current id o) subscriber.1

  names_it : (c : Option (List ℕ)) → names id c ≡ true → c ≡ Some id
  names_it None e = absurd cc
  names_it (Some c) e = ap (λ (z : List ℕ). Some z) (same_is c id e)

  not_named : (c : Option (List ℕ)) → names id c ≡ false → c ≡ Some id → ⊥
  not_named c e f = true≢false (sym (ap (λ o. names id o) f ∙ same_refl id) ∙ e)

  -- the subscriber can have it
  can_have : (b : Bool) → names id subscriber.0.current ≡ b → may_have b d.kind (Some (kept done subscriber.0)) ≡ true
  can_have false e = refl
  can_have true e =
      let current = names_it subscriber.0.current e in
      let updates = is_update_of d.kind (marked_is d.subscriber subscriber.0 subscriber.1 current).1 in
      ap₂ (λ a b. a && b) (ap₂ (λ a b. a && not b) updates (withdrawn_not d.subscriber subscriber.0 subscriber.1 current))
      (ap is_none (ap (kept_mark done) current ∙ kept_not))

  module _ (t : ShardState) (part : Partly s t done ((id, d) ∷ more)) (next : next_of t.dialogues ≡ Some id)
      (taken : after_taking t.dialogues.supply ≡ untaken_all s.dialogues.supply (keys_of more)) where
    found : map.get t.records d.subscriber ≡ Some (kept done subscriber.0)
    found = part.records d.subscriber ∙ ap (option_map (kept done)) subscriber.1

    may : may_reopen t mark d ≡ true
    may = ap₂ (λ a b. a && b) (ap₂ (λ a b. is_some a && b) next sound.has_sent)
        (ap (λ o. may_have mark d.kind o) found ∙ ap (λ b. may_have b d.kind (Some (kept done subscriber.0))) mark_is ∙ can_have _ refl)

    record_at : (b : Bool) → names id subscriber.0.current ≡ b → (x : List ℕ)
        → map.get (marked_if b d.subscriber id t.records) x ≡ option_map (kept after) (map.get s.records x)
    record_at false e x = part.records x ∙ keeps (map.get s.records x) refl
      where
        keeps : (o : Option Subscriber) → map.get s.records x ≡ o → option_map (kept done) o ≡ option_map (kept after) o
        keeps None f = refl
        keeps (Some r) f = ap (λ c. Some (record r { current = c })) (kept_same r.current (λ current.
            let same_one : d.subscriber ≡ x = (marked_is x r f current).0 in
            let same_record : Some subscriber.0 ≡ Some r = sym subscriber.1 ∙ ap (map.get s.records) same_one ∙ f in
            not_named subscriber.0.current e (ap (λ (z : Subscriber). z.current) (some_inj _ _ _ refl same_record) ∙ current)))
    record_at true e x = ap (λ o. map.get (marked d.subscriber id o t.records) x) found
        ∙ map.get-insert digits_total t.records d.subscriber (with_current id (kept done subscriber.0)) x
        ∙ either (true_or_not (eq_by_cmp digits_cmp x d.subscriber))
      where
        current : subscriber.0.current ≡ Some id
        current = names_it subscriber.0.current e

        either : (eq_by_cmp digits_cmp x d.subscriber ≡ true) ⊎ (eq_by_cmp digits_cmp x d.subscriber ≡ false)
            → cond (eq_by_cmp digits_cmp x d.subscriber) (Some (with_current id (kept done subscriber.0))) (map.get t.records x)
            ≡ option_map (kept after) (map.get s.records x)
        either (inl h) =
            let here : x ≡ d.subscriber = same_octets x d.subscriber h in
            ap (λ b. cond b (Some (with_current id (kept done subscriber.0))) (map.get t.records x)) h
            ∙ ap (λ c. Some (record subscriber.0 { current = c })) (sym kept_here ∙ ap (kept_mark after) (sym current))
            ∙ ap (option_map (kept after)) (sym subscriber.1)
            ∙ ap (λ z. option_map (kept after) (map.get s.records z)) (sym here)
        either (inr h) = ap (λ b. cond b (Some (with_current id (kept done subscriber.0))) (map.get t.records x)) h
            ∙ part.records x ∙ keeps (map.get s.records x) refl
          where
            keeps : (o : Option Subscriber) → map.get s.records x ≡ o → option_map (kept done) o ≡ option_map (kept after) o
            keeps None f = refl
            keeps (Some r) f = ap (λ c. Some (record r { current = c })) (kept_same r.current (λ marks.
                true≢false (sym (eq_octets x d.subscriber (sym (marked_is x r f marks).0)) ∙ h)))

    reopened_is : reopened t mark d ≡ reopened_under id t mark d
    reopened_is = ap (λ o. reopened_under (unwrap_or o []) t mark d) next

    partly : Partly s (reopened_under id t mark d) after more
    partly = record {
      shard = part.shard;
      clock = part.clock;
      directory = part.directory;
      hlr = part.hlr;
      ids = part.ids;
      supply = taken;
      opened = ap (λ m. map.insert m id d) part.opened
          ∙ sym (map.from_entries_push octets_total (slice_cmp-IsAntisymmetric nat_cmp-IsAntisymmetric) done id d not_before);
      records = λ x. ap (λ b. map.get (marked_if b d.subscriber id t.records) x) mark_is ∙ record_at _ refl x;
    }

-- ---- all dialogues

open_again : (s : ShardState) (done : List Entry) → done ≡ map.entries s.dialogues.open_ones → map.from_entries done ≡ s.dialogues.open_ones
open_again s done e = map.same_map octets_total (slice_cmp-IsAntisymmetric nat_cmp-IsAntisymmetric) (map.from_entries done) s.dialogues.open_ones
    (λ q. map.get-from_entries octets_total done q ∙ ap (find octets_cmp q) e ∙ sym (map.get-entries s.dialogues.open_ones q))

-- with all dialogues open again each mark is kept
all_kept : (s : ShardState) → IsSoundShard s → (done : List Entry) → done ≡ map.entries s.dialogues.open_ones → (x : List ℕ) (o : Option Subscriber)
    → map.get s.records x ≡ o → option_map (kept done) o ≡ o
unfolding state_of dialogues_of
all_kept s is done e x None f = refl
all_kept s is done e x (Some r) f = ap (λ c. Some (record r { current = c })) (mark r.current refl)
  where
    before : SoundRecord (dialogues_of s.dialogues) x (machine_subscriber r)
    before = is.sound.records x (machine_subscriber r) (ap (option_map machine_subscriber) f)

    found : (c : List ℕ) (o : Option Dialogue) → IsUpdateOf x o → map.get s.dialogues.open_ones c ≡ o → find octets_cmp c done ≡ o
    found c o u g = ap (find octets_cmp c) e ∙ sym (map.get-entries s.dialogues.open_ones c) ∙ g

    is_there : (o : Option Dialogue) → IsUpdateOf x o → is_some o ≡ true
    is_there None u = absurd u
    is_there (Some d) u = refl

    mark : (c : Option (List ℕ)) → r.current ≡ c → kept_mark done c ≡ c
    mark None g = refl
    mark (Some c) g =
        let P : Option (List ℕ) → Type 0 = λ z. MarkNames x (dialogues_of s.dialogues) z in
        let u : IsUpdateOf x (map.get s.dialogues.open_ones c) = subst P g before.mark in
        ap (λ b. cond b (Some c) None) (ap is_some (found c _ u refl) ∙ is_there _ u)

one_less : (n : ℕ) → n ≡ suc n - 1
one_less n = omega arith

whole : (s t : ShardState) (done : List Entry) → IsSoundShard s → done ≡ map.entries s.dialogues.open_ones → Partly s t done [] → s ≡ t
whole s t done is e part = λ i. record {
  shard = sym part.shard i;
  clock = sym part.clock i;
  records = sym (map.same_map digits_total (slice_cmp-IsAntisymmetric nat_cmp-IsAntisymmetric) t.records s.records
      (λ x. part.records x ∙ all_kept s is done e x (map.get s.records x) refl)) i;
  dialogues = sym same_ones i;
  directory = sym part.directory i;
  hlr = sym part.hlr i;
}
  where
    same_ones : t.dialogues ≡ s.dialogues
    same_ones = λ i. record { shard = part.ids i; supply = part.supply i; open_ones = (part.opened ∙ open_again s done e) i }

module _ (s : ShardState) (is : IsSoundShard s) (ids : LiveIds) (shard_is : ids.shard ≡ s.dialogues.shard) (supply_is : ids.supply ≡ s.dialogues.supply)
    (live_are : ascending ids.live ≡ keys_of (map.entries s.dialogues.open_ones))
    (again : (front more : List (List ℕ)) (id : List ℕ) → ascending ids.live ≡ front ++ id ∷ more → AreTakenAgain ids id more) where
  opens_all : (left done : List Entry) (t : ShardState) → done ++ left ≡ map.entries s.dialogues.open_ones → Partly s t done left
      → TakesTo (reading t (HasOpened (length left) [])) (flat_map (opened_lines s.records) left ++ End ∷ []) s
  opens_all [] done t e part =
      (reading t Whole, (reading t Whole, (refl, refl, refl), refl), whole s t done is (sym (append_none done) ∙ e) part)
  opens_all ((id, d) ∷ more) done t e part =
      let taken : AreTakenAgain ids id (keys_of more) =
      again (keys_of done) (keys_of more) id (live_are ∙ ap keys_of (sym e) ∙ keys_split done (id, d) more) in
      let next : next_of t.dialogues ≡ Some id =
      ap₂ next_id (part.ids ∙ sym shard_is) (part.supply ∙ ap (λ z. untaken_all z (id ∷ keys_of more)) (sym supply_is)) ∙ taken.next in
      let goes : after_taking t.dialogues.supply ≡ untaken_all s.dialogues.supply (keys_of more) =
      ap after_taking (part.supply ∙ ap (λ z. untaken_all z (id ∷ keys_of more)) (sym supply_is)) ∙ taken.after
      ∙ ap (λ z. untaken_all z (keys_of more)) supply_is in
      let cur : Bool = is_current id (map.get s.records d.subscriber) in
      let rest = opens_all more (done ++ (id, d) ∷ []) (reopened_under id t cur d) (sym (split_one done (id, d) more) ∙ e)
      (partly s is done id d more e t part next goes) in
      let opened : Takes (reading t (HasOpened (suc (length more)) d.invocations)) (Opened id cur (gone_on [] d))
      (reading (reopened_under id t cur d) (HasOpened (length more) [])) = (
        zero-lt-suc _,
        next,
        may s is done id d more e t part next goes,
        ap₂ (λ z n. reading z (HasOpened n [])) (sym (reopened_is s is done id d more e t part next goes)) (one_less (length more)),
      ) in
      let own : List Line = each (λ v. Waits v) d.invocations ++ Opened id cur (gone_on [] d) ∷ [] in
      let others : List Line = flat_map (opened_lines s.records) more in
      let P : List Line → Type 0 = λ z. TakesAll (reading t (HasOpened (suc (length more)) [])) z rest.0 in (
        rest.0,
        subst P (sym (append_assoc own others (End ∷ [])))
            (takes_more (reading t (HasOpened (suc (length more)) [])) (reading (reopened_under id t cur d) (HasOpened (length more) [])) rest.0
            own (others ++ End ∷ [])
            (takes_more (reading t (HasOpened (suc (length more)) [])) (reading t (HasOpened (suc (length more)) d.invocations))
            (reading (reopened_under id t cur d) (HasOpened (length more) []))
            (each (λ v. Waits v) d.invocations) (Opened id cur (gone_on [] d) ∷ [])
            (takes_invocations t (suc (length more)) [] d.invocations (sound s is done id d more e).rising)
            (reading (reopened_under id t cur d) (HasOpened (length more) []), opened, refl))
            rest.1),
        rest.2,
      )

-- ---- all lines of a shard

none_kept : (o : Option Subscriber) → option_map unmarked o ≡ option_map (kept []) o
none_kept None = refl
none_kept (Some r) = ap (λ c. Some (record r { current = c })) (sym (none r.current))
  where
    none : (c : Option (List ℕ)) → kept_mark [] c ≡ None
    none None = refl
    none (Some c) = refl

none_open : Path (map.FinMap octets_cmp Dialogue) map.empty (map.from_entries [])
none_open = map.same_map octets_total (slice_cmp-IsAntisymmetric nat_cmp-IsAntisymmetric) _ _
    (λ q. map.get-empty octets_cmp q ∙ sym (map.get-from_entries octets_total [] q))

module _ (s o : ShardState) (is : IsSoundShard s) (begins : BeginsAs s o) (own : s.dialogues.shard ≡ s.shard)
    (ids : LiveIds) (shard_is : ids.shard ≡ s.dialogues.shard) (supply_is : ids.supply ≡ s.dialogues.supply)
    (live_are : ascending ids.live ≡ keys_of (map.entries s.dialogues.open_ones)) (count_is : set.len ids.live ≡ map.len s.dialogues.open_ones)
    (puts_back : IsResumed ids)
    (again : (front more : List (List ℕ)) (id : List ℕ) → ascending ids.live ≡ front ++ id ∷ more → AreTakenAgain ids id more) where
  all_ids : LiveIds
  all_ids = record ids { freed_last = puts_back.last }

  fresh : ShardState
  fresh = with_ids o s.clock all_ids

  none_yet : Partly s fresh [] (map.entries s.dialogues.open_ones)
  unfolding fresh all_ids
  none_yet = record {
    shard = begins.shard;
    clock = refl;
    directory = begins.directory;
    hlr = begins.hlr;
    ids = shard_is;
    supply = ap₂ untaken_all supply_is live_are;
    opened = none_open;
    records = λ x. begins.records x ∙ none_kept (map.get s.records x);
  }

  pub reads_shard : TakesTo (reading o Begins) (shard_lines s) s
  unfolding fresh all_ids
  reads_shard =
      let es = map.entries s.dialogues.open_ones in
      let count : length es ≡ set.len ids.live = sym (count_is ∙ map.len-entries s.dialogues.open_ones) in
      let dialogues = opens_all s is ids shard_is supply_is live_are again es [] fresh refl none_yet in
      let last : List Line = flat_map (opened_lines s.records) es ++ End ∷ [] in
      let P : ℕ → Type 0 = λ n. TakesTo (reading fresh (HasOpened n [])) last s in
      let rest = enter o s s.clock all_ids last (subst P count dialogues) in
      let n_is : ids.shard ≡ s.shard = shard_is ∙ own in
      let first : LiveIds = beginning_after (no_ids s.shard) s.dialogues.supply.first in
      let Q : ℕ → Supply → Type 0 = λ n z. UsesInTurn (beginning_after (no_ids n) z.first) (used_ids n 0 z.generations) puts_back.used in
      let uses : UsesInTurn first (used_ids s.shard 0 s.dialogues.supply.generations) puts_back.used = subst₂ Q n_is supply_is puts_back.uses in
      let R : ℕ → Supply → Type 0 = λ n z. GivesInTurn puts_back.used (freed_ids n z) all_ids in
      let gives : GivesInTurn puts_back.used (freed_ids s.shard s.dialogues.supply) all_ids = subst₂ R n_is supply_is puts_back.gives in (
        rest.0,
        (
          reading o (HasIds s.clock first),
          (sym begins.shard, refl),
          takes_more (reading o (HasIds s.clock first)) (reading o (HasIds s.clock puts_back.used)) rest.0
              (each (λ id. Used id) (used_ids s.shard 0 s.dialogues.supply.generations)) _
              (takes_used o s.clock _ first puts_back.used refl uses)
              (takes_more (reading o (HasIds s.clock puts_back.used)) (reading o (HasIds s.clock all_ids)) rest.0
              (each (λ id. Freed id) (freed_ids s.shard s.dialogues.supply)) _
              (takes_freed o s.clock _ puts_back.used all_ids gives) rest.1),
        ),
        rest.2,
      )
