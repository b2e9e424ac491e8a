-- The shards at the beginning.
use Rattle.std.proofs.Common.{◌≡◌, ℕ, ◌+◌, ◌<◌, zero, suc, List, [], ◌∷◌, ◌++◌, length, length-append, refl, sym, ap, subst, ◌∙◌, append_assoc, arith, inl, inr, eq-eqb, Bool, true, false, cond, ◌==◌}
use Rattle.std.specs.Prelude.{Some, None, Ok, Err, IfOk, Result, map as each, slice_get, nat_lt}
use Rattle.std.proofs.lemmas.Bool.{both_ways, ltb-true}
use Rattle.std.proofs.lemmas.Option.{get_or_from_slice_get, same_Some}
use Rattle.std.proofs.Math.Seq.{get_or-append_seam}
use Rattle.machine.specs.Keys.{shard_of, shard_of_id}
use Rattle.machine.specs.Opening.{opening}
use Rattle.machine.specs.Parts.{part, union}
use Rattle.machine.specs.State.{State}
use Rattle.machine_laws.proofs.Steps.{shard_small}
use Rattle.records.specs.Loaded.{Subscribers}
use Rattle.records.specs.Maps.{DirectoryMap, RecordMap, part_of}
use Rattle.records.specs.Parts.{AreParts}
use Rattle.hlrcore.specs.Shards.{ShardState, directory_of, records_of, state_of}
use Rattle.shardlog.specs.declared.keep.Keep.{Keep}
use Rattle.shardlog.specs.Log.{Log, fresh}
use Rattle.wholenode.specs.Keeping.{AreShards, AreStates, NodeKeeps}
use Rattle.wholenode.specs.Nodes.{NodeState, state_at, states as states_of, whole}
use Rattle.wholenode.specs.Opening.{AreBeginning, AreOpening, Begins, BeginsWith, IsNodeOf}
use Rattle.wholenode.proofs.Places.{below_or_last, there}

-- ---- one by one

-- no shard yet
pub no_state : (loaded : Subscribers) (start : ℕ) (states : List ShardState) → states ≡ [] → AreBeginning loaded start 0 states
no_state loaded start states is = subst (AreBeginning loaded start 0) (sym is) (record { length_is = refl; each = none_at })
  where
    none_at : (n : ℕ) (s : ShardState) → slice_get [] n ≡ Some s → Begins start n (part_of loaded.records n) loaded.directory loaded.hlr s
    none_at zero s e = absurd cc
    none_at (suc n) s e = absurd cc

-- one more shard
pub one_state_more : (loaded : Subscribers) (start : ℕ) (n : ℕ) (before after : List ShardState) (s : ShardState) → AreBeginning loaded start n before
    → Begins start n (part_of loaded.records n) loaded.directory loaded.hlr s
    → after ≡ before ++ s ∷ []
    → AreBeginning loaded start (n + 1) after
one_state_more loaded start n before after s so_far is pushed = subst (AreBeginning loaded start (n + 1)) (sym pushed) (record {
  length_is = length-append before (s ∷ []) ∙ ap (λ k. k + 1) so_far.length_is;
  each = λ m t e. elim (below_or_last before s t m e) [
    | inl h ↦ so_far.each m t h
    | inr h ↦
        subst (λ (k : ShardState). Begins start m (part_of loaded.records m) loaded.directory loaded.hlr k) h.1
        (subst (λ (p : ℕ). Begins start p (part_of loaded.records p) loaded.directory loaded.hlr s) (sym (h.0 ∙ so_far.length_is)) is)
  ];
})

-- the records that come next are those of the shard with the next number
next_part : (all : RecordMap) (taken rest : List RecordMap) (r : RecordMap) → AreParts all (taken ++ r ∷ rest)
    → r ≡ part_of all (length taken)
next_part all taken rest r parts =
    let small : length taken < 16 = omega (arith, parts.sixteen, length-append taken (r ∷ rest)) in
    sym (get_or-append_seam taken r rest r) ∙ get_or_from_slice_get (taken ++ r ∷ rest) (length taken) (part_of all (length taken)) r
    (parts.own (length taken) small)

-- the next records are those of the next shard
pub next_own : (all : RecordMap) (yielded left rest : List RecordMap) (records : RecordMap) (shard : ℕ) → AreParts all (yielded ++ left)
    → left ≡ records ∷ rest
    → shard ≡ length yielded → records ≡ part_of all shard
next_own all yielded left rest records shard parts is at =
    next_part all yielded rest records (subst (λ (ps : List RecordMap). AreParts all (yielded ++ ps)) is parts) ∙ ap (part_of all) (sym at)

-- and they are taken
pub part_taken : (all : RecordMap) (taken rest : List RecordMap) (r : RecordMap) → AreParts all (taken ++ r ∷ rest)
    → AreParts all ((taken ++ r ∷ []) ++ rest)
part_taken all taken rest r parts = subst (AreParts all) (sym (append_assoc taken (r ∷ []) rest)) parts

-- a shard that begins with its part
pub begins_as : (loaded : Subscribers) (n : ℕ) (records : RecordMap) (directory : DirectoryMap) (hlr : List ℕ) (start : ℕ) (s : ShardState)
    → records ≡ part_of loaded.records n
    → directory ≡ loaded.directory → hlr ≡ loaded.hlr → Begins start n records directory hlr s
    → Begins start n (part_of loaded.records n) loaded.directory loaded.hlr s
begins_as loaded n records directory hlr start s own shared number is =
    subst (λ (r : RecordMap). Begins start n r loaded.directory loaded.hlr s) own
    (subst (λ (d : DirectoryMap). Begins start n records d loaded.hlr s) shared
    (subst (λ (h : List ℕ). Begins start n records directory h s) number is))

-- ---- with their journals

pub logs_at : (keep : Keep) (states : List ShardState) (n : ℕ) (l : Log) → slice_get (each (fresh keep) states) n ≡ Some l
    → (s : ShardState) × (slice_get states n ≡ Some s) × (l ≡ fresh keep s)
logs_at keep [] zero l e = absurd cc
logs_at keep [] (suc n) l e = absurd cc
logs_at keep (s ∷ ss) zero l e = (s, refl, sym (same_Some (fresh keep s) l e))
logs_at keep (s ∷ ss) (suc n) l e = logs_at keep ss n l e

each_push : (keep : Keep) (ss : List ShardState) (s : ShardState) → each (fresh keep) ss ++ fresh keep s ∷ [] ≡ each (fresh keep) (ss ++ s ∷ [])
each_push keep [] s = refl
each_push keep (x ∷ ss) s = ap (λ z. fresh keep x ∷ z) (each_push keep ss s)

pub push_fresh : (keep : Keep) (ss : List ShardState) (s : ShardState) (shards after : List Log) (l : Log) → shards ≡ each (fresh keep) ss
    → l ≡ fresh keep s → after ≡ shards ++ l ∷ [] → after ≡ each (fresh keep) (ss ++ s ∷ [])
push_fresh keep ss s shards after l are is pushed =
    pushed ∙ ap (λ z. z ++ l ∷ []) are ∙ ap (λ z. each (fresh keep) ss ++ z ∷ []) is ∙ each_push keep ss s

pub are_opening : (loaded : Subscribers) (keep : Keep) (start : ℕ) (directory : DirectoryMap) (states : List ShardState) (shards : List Log)
    → AreBeginning loaded start 16 states
    → shards ≡ each (fresh keep) states → AreShards directory shards → AreOpening loaded keep start 16 shards
are_opening loaded keep start directory states shards begin are keeps = record {
  length_is = keeps.count;
  each = λ n l e.
      let P : List Log → Type 0 = λ z. slice_get z n ≡ Some l in
      let at = logs_at keep states n l (subst P are e) in
      let is = begin.each n at.0 at.1 in record {
        state = at.0;
        begins = at.2;
        opens_as = is.opens_as;
        part_is = is.part_is;
        keeps = (keeps.each n l e).keeps;
      };
}

-- ---- all of them

pub begin_states : (loaded : Subscribers) (start : ℕ) (directory : DirectoryMap) (states : List ShardState) → directory ≡ loaded.directory
    → AreBeginning loaded start 16 states → AreStates directory states
begin_states loaded start directory states same are = record {
  hlr = loaded.hlr;
  count = are.length_is;
  each = λ n s e. let is = (are.each n s e).opens_as in record {
    shard_is = is.shard_is;
    directory_is = is.directory_is ∙ sym same;
    hlr_is = is.hlr_is;
  };
}

-- the part of the state with which the register begins

at_true : {X : Type 0} (b : Bool) (x z : X) → b ≡ true → cond b x z ≡ x
at_true true x z e = refl
at_true false x z e = absurd (both_ways false refl e)

both_alike : {X : Type 0} (b : Bool) (x y : X) → (b ≡ true → y ≡ x) → cond b y x ≡ x
both_alike true x y h = h refl
both_alike false x y h = refl

part_record : (S : State) (x : List ℕ) → (part S (shard_of x)).records x ≡ S.records x
unfolding part
part_record S x = at_true _ _ _ (eq-eqb (shard_of x) (shard_of x) refl)

part_dialogue : (S : State) (n : ℕ) (i : List ℕ) → S.dialogues i ≡ None → (part S n).dialogues i ≡ None
unfolding part
part_dialogue S n i none = both_alike (shard_of_id i == n) None (S.dialogues i) (λ _. none)

part_clock : (S : State) (n m : ℕ) → S.clocks m ≡ 0 → (part S n).clocks m ≡ 0
unfolding part
part_clock S n m none = both_alike (m == n) 0 (S.clocks m) (λ _. none)

part_directory : (S : State) (n : ℕ) → (part S n).directory ≡ S.directory
unfolding part
part_directory S n = refl

part_hlr : (S : State) (n : ℕ) → (part S n).hlr ≡ S.hlr
unfolding part
part_hlr S n = refl

-- if each of sixteen states is the part of a state with no dialogue and each clock at 0, this state is their union
union_fresh : (S : State) (parts : ℕ → State) → ((n : ℕ) → n < 16 → parts n ≡ part S n) → ((i : List ℕ) → S.dialogues i ≡ None)
    → ((n : ℕ) → S.clocks n ≡ 0) → union parts ≡ S
unfolding union
union_fresh S parts are none zeros = λ k. record {
  records = λ x. record_at x k;
  dialogues = λ i. dialogue_at i k;
  clocks = λ n. clock_at n k;
  directory = (ap (λ (T : State). T.directory) (are 0 (omega arith)) ∙ part_directory S 0) k;
  hlr = (ap (λ (T : State). T.hlr) (are 0 (omega arith)) ∙ part_hlr S 0) k;
}
  where
    record_at : (x : List ℕ) → (parts (shard_of x)).records x ≡ S.records x
    record_at x = ap (λ (T : State). T.records x) (are (shard_of x) (shard_small x)) ∙ part_record S x

    dialogue_at : (i : List ℕ) → cond (nat_lt (shard_of_id i) 16) ((parts (shard_of_id i)).dialogues i) None ≡ S.dialogues i
    dialogue_at i =
        both_alike (nat_lt (shard_of_id i) 16) None _
        (λ lt. ap (λ (T : State). T.dialogues i) (are (shard_of_id i) (ltb-true _ _ lt)) ∙ part_dialogue S (shard_of_id i) i (none i))
        ∙ sym (none i)

    clock_at : (n : ℕ) → cond (nat_lt n 16) ((parts n).clocks n) 0 ≡ S.clocks n
    clock_at n =
        both_alike (nat_lt n 16) 0 _ (λ lt. ap (λ (T : State). T.clocks n) (are n (ltb-true _ _ lt)) ∙ part_clock S n n (zeros n))
        ∙ sym (zeros n)

-- the state with which the register begins has no dialogue, and each clock at 0
opening_none : (loaded : Subscribers) (i : List ℕ)
    → (opening (records_of loaded.records) (directory_of loaded.directory) loaded.hlr).dialogues i ≡ None
unfolding opening
opening_none loaded i = refl

opening_zero : (loaded : Subscribers) (n : ℕ)
    → (opening (records_of loaded.records) (directory_of loaded.directory) loaded.hlr).clocks n ≡ 0
unfolding opening
opening_zero loaded n = refl

begins_as_part : (loaded : Subscribers) (keep : Keep) (start : ℕ) (shards : List Log) → AreOpening loaded keep start 16 shards → (n : ℕ) → n < 16
    → states_of shards n ≡ part (opening (records_of loaded.records) (directory_of loaded.directory) loaded.hlr) n
begins_as_part loaded keep start shards are n lt =
    let found = there shards n (omega (arith, are.length_is, lt)) in
    let is = are.each n found.0 found.1 in
    ap state_at found.1 ∙ ap (λ (k : Log). state_of k.state) is.begins ∙ is.part_is loaded.records refl

-- together they are that state
pub whole_as_opened : (loaded : Subscribers) (keep : Keep) (start : ℕ) (shards : List Log) → AreOpening loaded keep start 16 shards
    → whole shards ≡ opening (records_of loaded.records) (directory_of loaded.directory) loaded.hlr
whole_as_opened loaded keep start shards are =
    union_fresh _ (states_of shards) (begins_as_part loaded keep start shards are) (opening_none loaded) (opening_zero loaded)

pub begins_with : (loaded : Subscribers) (keep : Keep) (start : ℕ) (directory : DirectoryMap) (states : List ShardState) (n : NodeState)
    → directory ≡ loaded.directory → AreBeginning loaded start 16 states → IsNodeOf directory keep states n → NodeKeeps n
    → BeginsWith loaded keep start n
begins_with loaded keep start directory states n same begin is keeps =
    let are = are_opening loaded keep start n.directory states n.shards begin is.shards_are keeps.shards in record {
      directory_is = is.directory_is ∙ same;
      shards_are = are;
      whole_is = whole_as_opened loaded keep start n.shards are;
    }

pub begins_if : {E : Type 0} (loaded : Subscribers) (keep : Keep) (start : ℕ) (directory : DirectoryMap) (states : List ShardState)
    (r : Result NodeState E) → directory ≡ loaded.directory → AreBeginning loaded start 16 states → IfOk r (IsNodeOf directory keep states)
    → IfOk r NodeKeeps
    → IfOk r (BeginsWith loaded keep start)
begins_if loaded keep start directory states (Ok n) same begin is keeps = begins_with loaded keep start directory states n same begin is keeps
begins_if loaded keep start directory states (Err e) same begin is keeps = is
