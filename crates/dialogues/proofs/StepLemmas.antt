-- What each call does to the tables.
use Rattle.std.proofs.Common.{◌≡◌, ◌≢◌, ◌+◌, ◌<◌, ◌≤◌, ◌↔◌, ℕ, List, [], Bool, true, false, cond, Option, Some, None, Result, Ok, Err, length, refl, sym, ap, ◌∙◌, subst, arith}
use Rattle.std.specs.FinMap as finite
use Rattle.std.specs.List.{slice_index_or, slice_set}
use Rattle.std.specs.Option.{option_map, is_some, IsNone}
use Rattle.std.specs.Result.{IfOk, OnErr}
use Rattle.std.proofs.lemmas.List.{length-set, get_or-set_same, get_or-set_other}
use Rattle.std.proofs.Math.Path.{fun_ext}
use Rattle.hlr_types.specs.Orders.{octets_cmp}
use Rattle.hlr_types.specs.Ids.{IsIdOf}
use Rattle.hlr_types.proofs.OrderLemmas.{octets_total, octets_exact}
use Rattle.machine.specs.Keys.{put, same}
use Rattle.machine.specs.State.{Invocation, Transaction, Dialogue}
use Rattle.machine_laws.proofs.Keys.{same_is, same_not, same_refl}
use Rattle.tidalloc.specs.LiveIds.{LiveIds, no_ids, slot_of}
use Rattle.tsl.specs.Transactions.{OpenTransactions, Begins, HaveOwnSlots, MayBegin, at, closed, next_of, none_with, slot_if_open, count, with_transaction}
use Rattle.csl.specs.Tables.{InvocationLists, invocations_at, put_list, list_in}
use Rattle.dialogues.specs.declared.talk.Talk.{Talk}
use Rattle.dialogues.specs.Dialogues.{OpenDialogues, IsFresh, dialogues_of}
use Rattle.dialogues.specs.Dialogues as dialogues
use Rattle.dialogues.specs.Joined.{no_talk, talk_of, dialogue_from, dialogue_at, joined, AreTied}
use Rattle.dialogues.proofs.JoinLemmas.{dialogues-joined, get-remade, transaction_open}
use Rattle.dialogues.proofs.ChangeLemmas.{ChangesAt, some≢none, get-inserted, at-closed, count-closed, count-set, count-opened, invocations-put, changed, tied_changed, same_joined}

-- ---- nothing open yet
at_none : (ids : LiveIds) (q : List ℕ) → at (none_with ids) q ≡ None
at_none ids q = finite.get-empty octets_cmp q

pub tied_none : (ids : LiveIds) → AreTied (none_with ids) finite.empty []
tied_none ids = record {
  have_talks = λ q some. absurd (some (at_none ids q));
  only_open = λ q none. ap list_in (finite.get-empty octets_cmp q);
  of_shard = λ q some. absurd (some (at_none ids q));
  few = let none : finite.len (none_with ids).open_ones ≡ 0 = finite.len-empty octets_cmp Transaction in omega (arith, none);
}

pub joined_none : (ids : LiveIds) → joined (none_with ids) finite.empty [] ≡ dialogues.none_with ids
joined_none ids = λ i. record { shard = ids.shard; supply = ids.supply; open_ones = none i }
  where
    none : (joined (none_with ids) finite.empty []).open_ones ≡ finite.empty
    none = finite.same_map octets_total octets_exact _ _ (λ q.
        get-remade (dialogue_at finite.empty []) (none_with ids).open_ones q
        ∙ ap (option_map (dialogue_at finite.empty [] q)) (at_none ids q)
        ∙ sym (finite.get-empty octets_cmp q))

fresh_none : (shard : ℕ) → IsFresh shard (dialogues.none_with (no_ids shard))
unfolding dialogues_of
fresh_none shard = record {
  of_shard = refl;
  never_used = refl;
  none_open = fun_ext (λ q. finite.get-empty octets_cmp q);
}

pub fresh_if_none : {E : Type 0} (shard : ℕ) (ids : LiveIds) (r : Result OpenDialogues E) → ids ≡ no_ids shard
    → IfOk r (λ d. d ≡ dialogues.none_with ids) → IfOk r (IsFresh shard)
fresh_if_none shard ids (Ok d) e is =
    subst (IsFresh shard) (sym (is ∙ ap (λ (v : LiveIds). dialogues.none_with v) e)) (fresh_none shard)
fresh_if_none shard ids (Err e) same is = tt

-- ---- one closes
module _ (id : List ℕ) (t t' : OpenTransactions) (lists lists' : InvocationLists) (talks : List Talk) (closes : t' ≡ closed t id)
    (forgets : lists' ≡ put_list lists id []) where
  changes_closed : ChangesAt id None [] t t' lists lists' talks talks
  changes_closed = record {
    transactions = λ q. ap (λ (s : OpenTransactions). at s q) closes ∙ at-closed t id q;
    invocations = λ q. ap (λ (l : InvocationLists). invocations_at l q) forgets ∙ invocations-put lists id [] q;
    others = λ q some e. refl;
  }

  pub dialogues_closed : (d : OpenDialogues) → joined t lists talks ≡ d → dialogues_of (joined t' lists' talks) ≡ put (dialogues_of d) id None
  dialogues_closed d view =
      changed id None [] t t' lists lists' talks talks changes_closed ∙ ap (λ (e : OpenDialogues). put (dialogues_of e) id None) view

  pub tied_closed : AreTied t lists talks → at t id ≢ None → AreTied t' lists' talks
  tied_closed tied some =
      let fewer = ap count closes ∙ count-closed t id some in
      tied_changed id None [] t t' lists lists' talks talks changes_closed tied (omega arith)
      (λ some. absurd (some refl)) (λ e. refl) (λ some. absurd (some refl)) (ap (λ (s : OpenTransactions). s.shard) closes)
      (omega (arith, fewer, tied.few))

  pub place_after : AreTied t lists talks → at t id ≢ None → count t' + 1 ≤ 4096
  place_after tied some = omega (arith, ap count closes ∙ count-closed t id some, tied.few)

-- what a caller claims to be open is open
pub open_here : (t : OpenTransactions) (lists : InvocationLists) (talks : List Talk) (d : OpenDialogues) (id : List ℕ) → joined t lists talks ≡ d
    → dialogues_of d id ≢ None → at t id ≢ None
open_here t lists talks d id view some = transaction_open t lists talks id (subst (λ (e : OpenDialogues). dialogues_of e id ≢ None) (sym view) some)

-- ---- where a growth is refused
pub on_err : {X E P : Type 0} (r : Result X E) → P → OnErr r P
on_err (Ok x) p = tt
on_err (Err e) p = p

module _ (t s : OpenTransactions) (lists : InvocationLists) (talks roomy : List Talk) (d : OpenDialogues)
    (tied : AreTied t lists talks) (view : joined t lists talks ≡ d) (more : s ≡ record t { room = s.room })
    (kept : (k : ℕ) (n : Talk) → k < length talks → slice_index_or roomy k n ≡ slice_index_or talks k n) where
  talk_kept : (q : List ℕ) → at t q ≢ None → talk_of roomy q ≡ talk_of talks q
  talk_kept q some = kept (slot_of q) no_talk (tied.have_talks q some)

  pub still : joined s lists roomy ≡ d
  still = same_joined t s lists talks roomy more talk_kept ∙ view

  pub tied_still : length talks ≤ length roomy → AreTied s lists roomy
  tied_still longer = subst (λ (u : OpenTransactions). AreTied u lists roomy) (sym more) (record {
    have_talks = λ q some. let h : slot_of q < length talks = tied.have_talks q some in omega arith;
    only_open = tied.only_open;
    of_shard = tied.of_shard;
    few = tied.few;
  })

-- ---- one opens

-- if there is a next id, there is room for one more
pub place_for_one : (t : OpenTransactions) (next : Option (List ℕ)) (id : List ℕ) → next ≡ Some id → IsNone next ↔ (count t ≡ 4096) → count t ≤ 4096
    → count t + 1 ≤ 4096
place_for_one t next id some none few =
    let not_full : count t ≢ 4096 = λ full. let h : IsNone next = none.1 full in let gone : IsNone (Some id) = subst IsNone some h in cc in
    omega arith

pub open_when_begun : (s t' : OpenTransactions) (id : List ℕ) (x : Transaction) → Begins s id x t' → at t' id ≡ Some x
open_when_begun s t' id x b = ap (λ (u : OpenTransactions). at u id) b.after ∙ get-inserted s.open_ones id x id
    ∙ ap (λ c. cond c (Some x) (at s id)) (same_refl id)

-- the one that begins has the id that was next
pub begun_next : (t s t' : OpenTransactions) (id begun : List ℕ) (x : Transaction) → next_of t ≡ Some id → s ≡ record t { room = s.room } → Begins s begun x t'
    → id ≡ begun
begun_next t s t' id begun x next more b =
    let known : Some begun ≡ Some id = sym b.was_next ∙ ap next_of more ∙ next in cc

pub slot_there : (t : OpenTransactions) (id : List ℕ) (x : Transaction) (o : Option ℕ) → at t id ≡ Some x → o ≡ slot_if_open t id → o ≡ Some (slot_of id)
slot_there t id x o there e = e ∙ ap (λ (a : Option Transaction). cond (is_some a) (Some (slot_of id)) None) there

module _ (id : List ℕ) (t s t' : OpenTransactions) (lists lists' : InvocationLists) (talks roomy talks' : List Talk) (x : Transaction) (vs : List Invocation)
    (talk : Talk)
    (more : s ≡ record t { room = s.room }) (begins : Begins s id x t') (own : HaveOwnSlots t') (writes : talks' ≡ slice_set roomy (slot_of id) talk)
    (invokes : (q : List ℕ) → invocations_at lists' q ≡ cond (same id q) vs (invocations_at lists q))
    (tied : AreTied t lists talks) (place : count t + 1 ≤ 4096) (room : slot_of id < length roomy) (longer : length talks ≤ length roomy)
    (kept : (k : ℕ) (n : Talk) → k < length talks → slice_index_or roomy k n ≡ slice_index_or talks k n) where
  at_opened : (q : List ℕ) → at t' q ≡ cond (same id q) (Some x) (at t q)
  at_opened q =
      ap (λ (u : OpenTransactions). at u q) begins.after ∙ get-inserted s.open_ones id x q
      ∙ ap (λ (u : OpenTransactions). cond (same id q) (Some x) (at u q)) more

  other_slot : (q : List ℕ) → at t q ≢ None → same id q ≡ false → slot_of q ≢ slot_of id
  other_slot q some apart slots =
      let here : at t' id ≡ Some x = open_when_begun s t' id x begins in
      let there : at t' q ≡ at t q = at_opened q ∙ ap (λ b. cond b (Some x) (at t q)) apart in
      let one : q ≡ id = own q id (λ n. some (sym there ∙ n)) (λ n. some≢none x (sym here ∙ n)) slots in
      same_not id q apart (sym one)

  changes_opened : ChangesAt id (Some x) vs t t' lists lists' talks talks'
  changes_opened = record {
    transactions = at_opened;
    invocations = invokes;
    others = λ q some apart.
        ap (λ ks. talk_of ks q) writes ∙ get_or-set_other roomy (slot_of id) (slot_of q) talk no_talk (other_slot q some apart)
        ∙ kept (slot_of q) no_talk (tied.have_talks q some);
  }

  pub dialogues_opened : (d : OpenDialogues) → joined t lists talks ≡ d
      → dialogues_of (joined t' lists' talks') ≡ put (dialogues_of d) id (Some (dialogue_from talk vs x))
  dialogues_opened d view =
      let here : talk_of talks' id ≡ talk = ap (λ ks. talk_of ks id) writes ∙ get_or-set_same roomy (slot_of id) talk no_talk room in
      changed id (Some x) vs t t' lists lists' talks talks' changes_opened
      ∙ (λ i. put (dialogues_of (view i)) id (Some (dialogue_from (here i) vs x)))

  pub tied_opened : AreTied t' lists' talks'
  tied_opened =
      let long : length talks' ≡ length roomy = ap length writes ∙ length-set roomy (slot_of id) talk in
      tied_changed id (Some x) vs t t' lists lists' talks talks' changes_opened tied
      (omega arith) (λ some. omega arith) (λ e. absurd (some≢none x e))
      (λ some. subst (λ (n : ℕ). IsIdOf n id) (ap (λ (u : OpenTransactions). u.shard) more) begins.may.of_shard)
      (ap (λ (u : OpenTransactions). u.shard) begins.after ∙ ap (λ (u : OpenTransactions). u.shard) more)
      (omega (arith, ap count begins.after, count-opened s id x, ap count more))

-- ---- one closes and another opens in its place
module _ (id next : List ℕ) (apart : id ≢ next) (vs : List Invocation) (lists l l' : InvocationLists) (invokes : l ≡ put_list lists next vs)
    (forgets : l' ≡ put_list l id []) where
  pub invocations_replaced : (q : List ℕ) → invocations_at l' q ≡ cond (same next q) vs (invocations_at (put_list lists id []) q)
  invocations_replaced q =
      ap (λ (k : InvocationLists). invocations_at k q) forgets
      ∙ invocations-put l id [] q
      ∙ ap (λ (k : InvocationLists). cond (same id q) [] (invocations_at k q)) invokes
      ∙ ap (cond (same id q) []) (invocations-put lists next vs q)
      ∙ by (same id q) (same next q) refl refl
      ∙ ap (cond (same next q) vs) (sym (invocations-put lists id [] q))
    where
      by : (a b : Bool) → same id q ≡ a → same next q ≡ b → cond a [] (cond b vs (invocations_at lists q)) ≡ cond b vs (cond a [] (invocations_at lists q))
      by true true e f = absurd (apart (same_is id q e ∙ sym (same_is next q f)))
      by true false e f = refl
      by false true e f = refl
      by false false e f = refl

-- the id of the next one differs
pub next_apart : (t : OpenTransactions) (id next : List ℕ) → MayBegin (closed t id) next → id ≢ next
next_apart t id next may e = may.not_freed_last (ap Some e)

-- ---- one is Active
module _ (id : List ℕ) (t t' : OpenTransactions) (lists : InvocationLists) (talks : List Talk) (x : Transaction) (sets : t' ≡ with_transaction t id x) where
  changes_active : ChangesAt id (Some x) (invocations_at lists id) t t' lists lists talks talks
  changes_active = record {
    transactions = λ q. ap (λ (s : OpenTransactions). at s q) sets ∙ get-inserted t.open_ones id x q;
    invocations = λ q. by q (same id q) refl;
    others = λ q some e. refl;
  }
    where
      by : (q : List ℕ) (b : Bool) → same id q ≡ b → invocations_at lists q ≡ cond b (invocations_at lists id) (invocations_at lists q)
      by q true e = ap (invocations_at lists) (sym (same_is id q e))
      by q false e = refl

  pub dialogues_active : (d : OpenDialogues) (f : Dialogue → Dialogue) → joined t lists talks ≡ d → at t id ≢ None
      → ((s : Transaction) → f (dialogue_at lists talks id s) ≡ dialogue_at lists talks id x)
      → dialogues_of (joined t' lists talks) ≡ put (dialogues_of d) id (option_map f (dialogues_of d id))
  dialogues_active d f view some same_as =
      changed id (Some x) (invocations_at lists id) t t' lists lists talks talks changes_active
      ∙ ap (put (dialogues_of (joined t lists talks)) id) (sym (ap (option_map f) (dialogues-joined t lists talks id) ∙ by (at t id) some))
      ∙ ap (λ (e : OpenDialogues). put (dialogues_of e) id (option_map f (dialogues_of e id))) view
    where
      by : (o : Option Transaction) → o ≢ None → option_map f (option_map (dialogue_at lists talks id) o) ≡ Some (dialogue_at lists talks id x)
      by None n = absurd (n refl)
      by (Some s) n = ap Some (same_as s)

  pub tied_active : AreTied t lists talks → at t id ≢ None → AreTied t' lists talks
  tied_active tied some =
      tied_changed id (Some x) (invocations_at lists id) t t' lists lists talks talks changes_active tied (omega arith) (λ _. tied.have_talks id some)
      (λ e. absurd (some≢none x e)) (λ _. tied.of_shard id some)
      (ap (λ (s : OpenTransactions). s.shard) sets) (omega (arith, ap count sets ∙ count-set t id x some, tied.few))

-- ---- one keeps these invocations
module _ (id : List ℕ) (vs : List Invocation) (t : OpenTransactions) (lists lists' : InvocationLists) (talks : List Talk)
    (keeps : lists' ≡ put_list lists id vs) where
  changes_keeping : ChangesAt id (at t id) vs t t lists lists' talks talks
  changes_keeping = record {
    transactions = λ q. by q (same id q) refl;
    invocations = λ q. ap (λ (l : InvocationLists). invocations_at l q) keeps ∙ invocations-put lists id vs q;
    others = λ q some e. refl;
  }
    where
      by : (q : List ℕ) (b : Bool) → same id q ≡ b → at t q ≡ cond b (at t id) (at t q)
      by q true e = ap (at t) (sym (same_is id q e))
      by q false e = refl

  pub dialogues_keeping : (d : OpenDialogues) (f : Dialogue → Dialogue) → joined t lists talks ≡ d
      → ((s : Transaction) → f (dialogue_at lists talks id s) ≡ dialogue_from (talk_of talks id) vs s)
      → dialogues_of (joined t lists' talks) ≡ put (dialogues_of d) id (option_map f (dialogues_of d id))
  dialogues_keeping d f view same_as =
      changed id (at t id) vs t t lists lists' talks talks changes_keeping
      ∙ ap (put (dialogues_of (joined t lists talks)) id) (sym (ap (option_map f) (dialogues-joined t lists talks id) ∙ by (at t id)))
      ∙ ap (λ (e : OpenDialogues). put (dialogues_of e) id (option_map f (dialogues_of e id))) view
    where
      by : (o : Option Transaction) → option_map f (option_map (dialogue_at lists talks id) o) ≡ option_map (dialogue_from (talk_of talks id) vs) o
      by None = refl
      by (Some s) = ap Some (same_as s)

  pub tied_keeping : AreTied t lists talks → (at t id ≡ None → vs ≡ []) → AreTied t lists' talks
  tied_keeping tied none =
      tied_changed id (at t id) vs t t lists lists' talks talks changes_keeping tied (omega arith)
      (tied.have_talks id) none (tied.of_shard id) refl tied.few
