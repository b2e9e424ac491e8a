-- A shard whose dialogues are put back is sound.
use Rattle.std.proofs.Common.{◌≡◌, ◌≢◌, ◌<◌, ◌&&◌, ℕ, List, [], Bool, true, false, cond, ◌==◌, Option, Some, None, is_some, refl, sym, ap, ◌∙◌, subst, IsTrue, true≢false}
use Rattle.std.specs.Prelude.{option_map, not, is_none, unwrap_or, IfSome, IsNone, ◌↔◌, Result, Ok, Err, IfOk, OnOk, OnErr}
use Rattle.std.specs.FinMap as map
use Rattle.machine.specs.Keys as keys
use Rattle.machine.specs.Keys.{put, same}
use Rattle.machine.specs.Parts.{part}
use Rattle.machine.specs.Sound.{IsUpdate, IsUpdateOf, MarkNames, Sound, SoundDialogue, SoundRecord}
use Rattle.machine.specs.State.{local_of, Local, AreOpen, Dialogue, Kind, Updates, Cancels, Data, IsFull, IsIdOf, State, Subscriber as MachineSubscriber, any_sent}
use Rattle.machine.specs.Outcome.{Outcome}
use Rattle.machine.specs.Step.{moved}
use Rattle.machine.specs.Holders.{serving, vlr_of_kind}
use Rattle.machine.specs.Effect.{AreRising}
use Rattle.machine_laws.proofs.Keys.{none_some, some_inj, put-at, put-other, put_again, put_cases}
use Rattle.machine_laws.proofs.Outcomes.{Good, Like, record_keeps, opens_keeps}
use Rattle.machine_laws.proofs.Soundness.{moved_sound}
use Rattle.std.proofs.lemmas.Bool.{and_parts, eqb-true, eq-eqb}
use Rattle.records.specs.Subscriber.{Subscriber, placed}
use Rattle.records.specs.Maps.{RecordMap}
use Rattle.smroute.specs.Seen.{machine_subscriber}
use Rattle.tidalloc.specs.LiveIds.{LiveIds, Supply, after_taking}
use Rattle.hlr_types.specs.Orders.{octets_cmp}
use Rattle.hlr_types.proofs.OrderLemmas.{octets_total, octets_exact}
use Rattle.dialogues.specs.Dialogues.{IsNew, OpenDialogues, dialogues_of, next_of}
use Rattle.hlrcore.specs.Resuming.{HasPlace, may_reopen, resumed, is_update, may_be_current, may_have, with_current, marked, marked_if, reopened, reopened_under}
use Rattle.hlrcore.proofs.RecordLemmas.{put_insert}
use Rattle.dialogues.proofs.ChangeLemmas.{get-inserted}
use Rattle.hlrcore.specs.Shards.{ShardState, records_of, directory_of, state_of}
use Rattle.hlrcore.specs.Sound.{IsSoundShard}

-- ---- no dialogue is open

none_in_empty : (ids : LiveIds) → dialogues_of (record { shard = ids.shard; supply = ids.supply; open_ones = map.empty }) ≡ (λ _. None)
unfolding dialogues_of
none_in_empty ids = λ i q. map.get-empty octets_cmp q i

part_clock : (b : Bool) (clock : ℕ) → cond b clock 0 ≡ cond b (cond b clock 0) 0
part_clock true clock = refl
part_clock false clock = refl

part_none : (b : Bool) → None ≡ cond {A = Option Dialogue} b None None
part_none true = refl
part_none false = refl

-- soundness asks for no clock
sound_alike : (S T : State) → T.records ≡ S.records → T.dialogues ≡ S.dialogues → Sound S → Sound T
sound_alike S T r d sound = record {
  dialogues = λ i e q. let P : (List ℕ → Option MachineSubscriber) → Type 0 = λ m. SoundDialogue m i e in
      subst P (sym r) (sound.dialogues i e (ap (λ f. f i) (sym d) ∙ q));
  records = λ x s q. let P : (List ℕ → Option Dialogue) → Type 0 = λ m. SoundRecord m x s in
      subst P (sym d) (sound.records x s (ap (λ f. f x) (sym r) ∙ q));
  few = λ n is open_ones. sound.few n is (record {
    different = open_ones.different;
    open_ones = let P : (List ℕ → Option Dialogue) → Type 0 = λ m. keys.Every (λ i. (keys.shard_of_id i ≡ n) × (m i ≢ None)) is in subst P d open_ones.open_ones;
  });
}

pub resumed_sound : (s : ShardState) (clock : ℕ) (ids : LiveIds) → IsSoundShard s → dialogues_of s.dialogues ≡ (λ _. None) → IsSoundShard (resumed s clock ids)
unfolding state_of part
resumed_sound s clock ids is none = record {
  shard = is.shard;
  sound = sound_alike (state_of s) (state_of (resumed s clock ids)) refl (none_in_empty ids ∙ sym none) is.sound;
  own = λ i. record {
    records = (ap (λ (S : State). S.records) is.own) i;
    dialogues = λ id. (ap (λ f. f id) (none_in_empty ids) ∙ part_none (keys.shard_of_id id == s.shard)
        ∙ ap (λ d. cond (keys.shard_of_id id == s.shard) d None) (ap (λ f. f id) (sym (none_in_empty ids)))) i;
    clocks = λ n. part_clock (n == s.shard) clock i;
    directory = directory_of s.directory;
    hlr = s.hlr;
  };
}

-- ---- a dialogue is put back

-- what is there is in the part
in_part : {X : Type 0} (b : Bool) (o : Option X) (y : X) → o ≡ cond b o None → o ≡ Some y → b ≡ true
in_part true o y e q = refl
in_part false o y e q = absurd (none_some y o e q)

is_an_update : (kind : Kind) → is_update kind ≡ true → IsUpdate kind
is_an_update (Updates register invoke) e = tt
is_an_update (Cancels vlr attempt why) e = absurd cc
is_an_update Data e = absurd cc

not_true : (b : Bool) → not b ≡ true → b ≡ false
not_true true e = absurd cc
not_true false e = refl

put_dialogue : (d : OpenDialogues) (id : List ℕ) (new : Dialogue) (supply : Supply)
    → dialogues_of (record d { supply = supply; open_ones = map.insert d.open_ones id new }) ≡ put (dialogues_of d) id (Some new)
unfolding dialogues_of put
put_dialogue d id new supply = λ i q. get-inserted d.open_ones id new q i

-- a part stays one if what changes in it is its own
own_put : {X : Type 0} (f : List ℕ → ℕ) (n : ℕ) (m : List ℕ → Option X) (x : List ℕ) (v : Option X)
    → m ≡ (λ q. cond (f q == n) (m q) None) → (f x == n) ≡ true
    → put m x v ≡ (λ q. cond (f q == n) (put m x v q) None)
own_put f n m x v own here = λ i q. each q i
  where
    each : (q : List ℕ) → put m x v q ≡ cond (f q == n) (put m x v q) None
    each q = put_cases m x v q (λ w. w ≡ cond (f q == n) w None)
        (λ e. ap (λ b. cond b v None) (sym (ap (λ z. f z == n) (sym e) ∙ here)))
        (λ ne. ap (λ g. g q) own)

module _ (s : ShardState) (is : IsSoundShard s) (id : List ℕ) (cur : Bool) (d : Dialogue) (r : Subscriber)
    (found : map.get s.records d.subscriber ≡ Some r) (may : may_have cur d.kind (Some r) ≡ true)
    (sent : any_sent d.invocations ≡ true) (rising : AreRising d.invocations)
    (own_id : IsIdOf s.shard id) (fresh : dialogues_of s.dialogues id ≡ None) (room : IsFull (state_of s) s.shard → ⊥) where
  abbrev x : List ℕ
  x = d.subscriber

  abbrev S : State
  S = state_of s

  abbrev kept : Subscriber
  kept = cond cur (with_current id r) r

  there : S.records x ≡ Some (machine_subscriber r)
  unfolding state_of
  there = ap (option_map machine_subscriber) found

  own_records : S.records ≡ (λ q. cond (keys.shard_of q == s.shard) (S.records q) None)
  unfolding part state_of
  own_records = ap (λ (T : State). T.records) is.own

  here_is : (keys.shard_of x == s.shard) ≡ true
  here_is = in_part _ (S.records x) (machine_subscriber r) (ap (λ f. f x) own_records) there

  here : s.shard ≡ keys.shard_of x
  here = sym (eqb-true _ _ here_is)

  abbrev o : Outcome
  o = record { after = Some (machine_subscriber kept); stays = None; opens = Some d; sent = [] }

  no_name : (j : List ℕ) → None ≡ Some j → ⊥
  no_name j e = none_some j None refl e

  -- the marked record names the new dialogue, any other what it named
  before : SoundRecord S.dialogues x (machine_subscriber r)
  before = is.sound.records x (machine_subscriber r) there

  not_open : S.dialogues id ≡ None
  unfolding state_of dialogues_of
  not_open = fresh

  sound_kept : (c : Bool) → may_have c d.kind (Some r) ≡ true
      → SoundRecord (put S.dialogues id (Some d)) x (machine_subscriber (cond c (with_current id r) r))
  sound_kept false m = record_keeps x S.dialogues (put S.dialogues id (Some d)) (machine_subscriber r) before
      (λ j c u. opens_keeps x S.dialogues id d j not_open u)
  sound_kept true m =
      let both = and_parts (is_update d.kind && not r.withdrawn) _ m in
      let kinds = and_parts (is_update d.kind) _ both.0 in
      record {
        mark = let P : Option Dialogue → Type 0 = λ v. IsUpdateOf x v in
            subst P (sym (put-at S.dialogues id (Some d) id refl)) (refl, is_an_update d.kind kinds.0);
        purged = before.purged;
        withdrawn = λ w. absurd (let no = not_true r.withdrawn kinds.1 in cc);
      }

  good : Good (local_of S s.shard x) S.dialogues None None (vlr_of_kind d.kind) id o
  unfolding local_of
  good = record {
    known = ap is_some (sym there);
    sound = λ new y e. let P : MachineSubscriber → Type 0 = λ z. SoundRecord (put S.dialogues id (Some d)) x z in
        subst P (some_inj _ _ _ refl e) (sound_kept cur may);
    stays = λ y e. absurd (none_some y None refl e);
    opens = λ y e. let P : Dialogue → Type 0 = λ z. Like x (vlr_of_kind d.kind) z in
        (subst P (some_inj _ _ _ refl e) (record { subscriber = refl; has_sent = sent; vlr_is = refl; rising = rising }), ap is_some there);
    alone = λ y j e f. refl;
    holds = λ w. ap (λ z. serving z w) there ∙ same_served cur w;
    others = λ y b h w other. refl;
  }
    where
      same_served : (c : Bool) (w : List ℕ) → serving (Some (machine_subscriber r)) w ≡ serving (Some (machine_subscriber (cond c (with_current id r) r))) w
      same_served true w = refl
      same_served false w = refl

  records_put : (c : Bool) → records_of (marked_if c x id s.records) ≡ put (records_of s.records) x (Some (machine_subscriber (cond c (with_current id r) r)))
  unfolding put
  records_put false = sym (ap (λ v. put (records_of s.records) x v) (sym (ap (option_map machine_subscriber) found)) ∙ put_again (records_of s.records) x)
  records_put true = ap (λ f. records_of (marked x id f s.records)) found ∙ put_insert s.records x (with_current id r)

  is_moved : state_of (reopened_under id s cur d) ≡ moved S (Some x) None id o
  unfolding state_of
  is_moved = λ i. record {
    records = records_put cur i;
    dialogues = put_dialogue s.dialogues id d (after_taking s.dialogues.supply) i;
    clocks = S.clocks;
    directory = S.directory;
    hlr = S.hlr;
  }

  moved_is_sound : Sound (moved S (Some x) None id o)
  moved_is_sound = moved_sound S s.shard x None id o None (vlr_of_kind d.kind) is.sound good here (λ j e. absurd (no_name j e))
      (λ e. own_id) (λ e. not_open) (λ e n full. room full)

  own_moved : moved S (Some x) None id o ≡ part (moved S (Some x) None id o) s.shard
  unfolding part
  own_moved = λ i. record {
    records = own_put keys.shard_of s.shard S.records x o.after own_records here_is i;
    dialogues = own_put keys.shard_of_id s.shard S.dialogues id (Some d) (ap (λ (T : State). T.dialogues) is.own) (eq-eqb _ _ own_id.shard) i;
    clocks = (ap (λ (T : State). T.clocks) is.own) i;
    directory = S.directory;
    hlr = S.hlr;
  }

  pub reopened_sound : IsSoundShard (reopened_under id s cur d)
  reopened_sound = record {
    shard = is.shard;
    sound = subst Sound (sym is_moved) moved_is_sound;
    own = let P : State → Type 0 = λ T. T ≡ part T s.shard in subst P (sym is_moved) own_moved;
  }

-- ---- what putting a dialogue back makes of the tables

opened_is : (old new : OpenDialogues) (id : List ℕ) (d : Dialogue) → new.shard ≡ old.shard → new.supply ≡ after_taking old.supply
    → dialogues_of new ≡ put (dialogues_of old) id (Some d) → new ≡ record old { supply = after_taking old.supply; open_ones = map.insert old.open_ones id d }
unfolding dialogues_of put
opened_is old new id d of_shard supply opened = λ i. record {
  shard = of_shard i;
  supply = supply i;
  open_ones = map.same_map octets_total octets_exact new.open_ones (map.insert old.open_ones id d)
      (λ q. ap (λ f. f q) opened ∙ sym (get-inserted old.open_ones id d q)) i;
}

pub reopened_is : (s : ShardState) (new : OpenDialogues) (records : RecordMap) (cur : Bool) (id : List ℕ) (d : Dialogue) → next_of s.dialogues ≡ Some id
    → records ≡ marked_if cur d.subscriber id s.records → new.shard ≡ s.dialogues.shard → new.supply ≡ after_taking s.dialogues.supply
    → dialogues_of new ≡ put (dialogues_of s.dialogues) id (Some d) → record s { records = records; dialogues = new } ≡ reopened s cur d
reopened_is s new records cur id d next marks of_shard supply opened =
    (λ i. record s { records = marks i; dialogues = opened_is s.dialogues new id d of_shard supply opened i })
    ∙ ap (λ o. reopened_under (unwrap_or o []) s cur d) (sym next)

-- the next id is a new one, and if there is one, the shard is not full
pub has_place : (s : ShardState) → s.dialogues.shard ≡ s.shard → (next : Option (List ℕ)) → next ≡ next_of s.dialogues → IfSome next (IsNew s.dialogues)
    → ((S : State) → S.dialogues ≡ dialogues_of s.dialogues → IsNone next ↔ IsFull S s.dialogues.shard) → is_some next ≡ true → HasPlace s
unfolding state_of
has_place s own next value is_new full some = record {
  own = own;
  is_new = subst (λ o. IfSome o (IsNew s.dialogues)) value is_new;
  not_full = λ f. true≢false (sym some ∙ (full (state_of s) refl).1 f);
}

-- ---- whether it can be or not

pub sound_resumed : {X E : Type 0} (r : Result X E) (s t : ShardState) (clock : ℕ) (ids : LiveIds) → IsSoundShard s → dialogues_of s.dialogues ≡ (λ _. None)
    → OnOk r (t ≡ resumed s clock ids) → OnErr r (t ≡ s) → IsSoundShard t
sound_resumed (Ok a) s t clock ids is none ok err = subst IsSoundShard (sym ok) (resumed_sound s clock ids is none)
sound_resumed (Err e) s t clock ids is none ok err = subst IsSoundShard (sym err) is

some_next : (s : ShardState) (next : Option (List ℕ)) → is_some next ≡ true → IfSome next (IsNew s.dialogues) → (id : List ℕ) × (next ≡ Some id) × IsNew s.dialogues id
some_next s None e is_new = absurd cc
some_next s (Some id) e is_new = (id, refl, is_new)

had : (cur : Bool) (kind : Kind) (o : Option Subscriber) → may_have cur kind o ≡ true → (r : Subscriber) × (o ≡ Some r) × (may_have cur kind (Some r) ≡ true)
had cur kind None e = absurd cc
had cur kind (Some r) e = (r, refl, e)

reopens : (s : ShardState) (cur : Bool) (d : Dialogue) → IsSoundShard s → AreRising d.invocations → may_reopen s cur d ≡ true → HasPlace s
    → IsSoundShard (reopened s cur d)
reopens s cur d is rising may place =
    let one = and_parts (is_some (next_of s.dialogues) && any_sent d.invocations) _ may in
    let two = and_parts (is_some (next_of s.dialogues)) _ one.0 in
    let next = some_next s (next_of s.dialogues) two.0 place.is_new in
    let found = had cur d.kind (map.get s.records d.subscriber) one.1 in
    let own_id : IsIdOf s.shard next.0 = subst (λ n. IsIdOf n next.0) place.own next.2.of_shard in
    let room : IsFull (state_of s) s.shard → ⊥ = subst (λ n. IsFull (state_of s) n → ⊥) place.own place.not_full in
    subst (λ o. IsSoundShard (reopened_under (unwrap_or o []) s cur d)) (sym next.1)
    (reopened_sound s is next.0 cur d found.0 found.1 found.2 two.1 rising own_id next.2.not_open room)

pub sound_reopened : {E : Type 0} (r : Result Bool E) (s t : ShardState) (cur : Bool) (d : Dialogue) → IsSoundShard s → AreRising d.invocations
    → IfOk r (λ is. is ≡ may_reopen s cur d) → (r ≡ Ok true → t ≡ reopened s cur d) → ((r ≡ Ok true → ⊥) → t ≡ s) → (r ≡ Ok true → HasPlace s)
    → IsSoundShard t
sound_reopened (Ok true) s t cur d is rising may opened same place =
    subst IsSoundShard (sym (opened refl)) (reopens s cur d is rising (sym may) (place refl))
sound_reopened (Ok false) s t cur d is rising may opened same place = subst IsSoundShard (sym (same (λ e. absurd cc))) is
sound_reopened (Err e) s t cur d is rising may opened same place = subst IsSoundShard (sym (same (λ f. absurd cc))) is
