-- A change of the tables at one id is a change of the dialogues there.
use Rattle.std.proofs.Common.{◌≡◌, ◌≢◌, ◌+◌, ◌-◌, ◌<◌, ◌≤◌, ℕ, List, [], Bool, true, false, cond, Option, Some, None, length, refl, sym, ap, ◌∙◌, subst, arith}
use Rattle.std.specs.Option.{option_map, is_some}
use Rattle.std.specs.Ordering.{eq_by_cmp}
use Rattle.std.specs.Cmp.{eq_by_cmp_equiv}
use Rattle.std.specs.FinMap as finite
use Rattle.std.proofs.Math.Path.{fun_ext}
use Rattle.hlr_types.specs.Ids.{IsIdOf}
use Rattle.hlr_types.specs.Orders.{octets_cmp}
use Rattle.hlr_types.proofs.OrderLemmas.{octets_total, octets_exact, pointwise-octets}
use Rattle.machine.specs.Keys.{put, same}
use Rattle.machine.specs.State.{Invocation, Transaction}
use Rattle.machine_laws.proofs.Keys.{same_is}
use Rattle.tidalloc.specs.LiveIds.{slot_of}
use Rattle.tsl.specs.Transactions.{OpenTransactions, at, closed, count, with_transaction}
use Rattle.csl.specs.Tables.{InvocationLists, invocations_at, put_list}
use Rattle.csl.proofs.Putting.{at-put_list}
use Rattle.dialogues.specs.declared.talk.Talk.{Talk}
use Rattle.dialogues.specs.Dialogues.{dialogues_of}
use Rattle.dialogues.specs.Joined.{talk_of, dialogue_from, joined, AreTied}
use Rattle.dialogues.proofs.JoinLemmas.{dialogues-joined, get-remade}

-- ---- each table after a change at one id
same_key : (id q : List ℕ) → eq_by_cmp octets_cmp q id ≡ same id q
same_key id q = (eq_by_cmp_equiv octets_total).symm q id ∙ sym (pointwise-octets id q)

pub get-inserted : {X : Type 0} (m : finite.FinMap octets_cmp X) (id : List ℕ) (x : X) (q : List ℕ)
    → finite.get (finite.insert m id x) q ≡ cond (same id q) (Some x) (finite.get m q)
get-inserted m id x q = finite.get-insert octets_total m id x q ∙ ap (λ b. cond b (Some x) (finite.get m q)) (same_key id q)

pub at-closed : (t : OpenTransactions) (id q : List ℕ) → at (closed t id) q ≡ cond (same id q) None (at t q)
at-closed t id q = finite.get-remove octets_total t.open_ones id q ∙ ap (λ b. cond b None (at t q)) (same_key id q)

pub invocations-put : (lists : InvocationLists) (id : List ℕ) (vs : List Invocation) (q : List ℕ)
    → invocations_at (put_list lists id vs) q ≡ cond (same id q) vs (invocations_at lists q)
invocations-put lists id vs q = at-put_list lists id vs q ∙ ap (λ b. cond b vs (invocations_at lists q)) (sym (pointwise-octets id q))

-- ---- how many are open after a change at one id
module _ (t : OpenTransactions) (id : List ℕ) where
  pub is_there : at t id ≢ None → finite.contains_key t.open_ones id ≡ true
  is_there some = by (at t id) some
    where
      by : (o : Option Transaction) → o ≢ None → is_some o ≡ true
      by None n = absurd (n refl)
      by (Some x) n = refl

  pub count-closed : at t id ≢ None → count (closed t id) ≡ count t - 1
  count-closed some = finite.len-remove octets_total t.open_ones id ∙ ap (λ b. cond b (count t - 1) (count t)) (is_there some)

  pub count-set : (x : Transaction) → at t id ≢ None → count (with_transaction t id x) ≡ count t
  count-set x some = finite.len-insert octets_total t.open_ones id x ∙ ap (λ b. cond b (count t) (count t + 1)) (is_there some)

  pub count-opened : (x : Transaction) → finite.len (finite.insert t.open_ones id x) ≤ count t + 1
  count-opened x = by (finite.contains_key t.open_ones id) (finite.len-insert octets_total t.open_ones id x)
    where
      by : (b : Bool) → finite.len (finite.insert t.open_ones id x) ≡ cond b (count t) (count t + 1) → finite.len (finite.insert t.open_ones id x) ≤ count t + 1
      by true e = omega arith
      by false e = omega arith

-- ---- a change at one id, of all tables
pub record ChangesAt (id : List ℕ) (a : Option Transaction) (vs : List Invocation) (t t' : OpenTransactions) (lists lists' : InvocationLists)
    (talks talks' : List Talk) : Type 0 where
  pub transactions : (q : List ℕ) → at t' q ≡ cond (same id q) a (at t q)
  pub invocations : (q : List ℕ) → invocations_at lists' q ≡ cond (same id q) vs (invocations_at lists q)
  pub others : (q : List ℕ) → at t q ≢ None → same id q ≡ false → talk_of talks' q ≡ talk_of talks q

pub some≢none : {X : Type 0} (x : X) → Some x ≢ None
some≢none x e = cc

module _ (id : List ℕ) (a : Option Transaction) (vs : List Invocation) (t t' : OpenTransactions) (lists lists' : InvocationLists) (talks talks' : List Talk)
    (c : ChangesAt id a vs t t' lists lists' talks talks') where
  here : (q : List ℕ) → same id q ≡ true
      → option_map (dialogue_from (talk_of talks' q) (invocations_at lists' q)) (at t' q) ≡ option_map (dialogue_from (talk_of talks' id) vs) a
  here q e =
      let talk : talk_of talks' q ≡ talk_of talks' id = ap (talk_of talks') (sym (same_is id q e)) in
      let list : invocations_at lists' q ≡ vs = c.invocations q ∙ ap (λ b. cond b vs (invocations_at lists q)) e in
      let transaction : at t' q ≡ a = c.transactions q ∙ ap (λ b. cond b a (at t q)) e in
      λ i. option_map (dialogue_from (talk i) (list i)) (transaction i)

  there : (q : List ℕ) → same id q ≡ false
      → option_map (dialogue_from (talk_of talks' q) (invocations_at lists' q)) (at t' q)
      ≡ option_map (dialogue_from (talk_of talks q) (invocations_at lists q)) (at t q)
  there q e =
      let list : invocations_at lists' q ≡ invocations_at lists q = c.invocations q ∙ ap (λ b. cond b vs (invocations_at lists q)) e in
      let transaction : at t' q ≡ at t q = c.transactions q ∙ ap (λ b. cond b a (at t q)) e in
      (λ i. option_map (dialogue_from (talk_of talks' q) (list i)) (transaction i)) ∙ by (at t q) (λ some. c.others q some e)
    where
      by : (o : Option Transaction) → (o ≢ None → talk_of talks' q ≡ talk_of talks q)
          → option_map (dialogue_from (talk_of talks' q) (invocations_at lists q)) o ≡ option_map (dialogue_from (talk_of talks q) (invocations_at lists q)) o
      by None talk = refl
      by (Some s) talk = ap (λ (k : Talk). Some (dialogue_from k (invocations_at lists q) s)) (talk (some≢none s))

  pub changed : dialogues_of (joined t' lists' talks') ≡ put (dialogues_of (joined t lists talks)) id (option_map (dialogue_from (talk_of talks' id) vs) a)
  unfolding put
  changed = fun_ext (λ q. dialogues-joined t' lists' talks' q ∙ by q (same id q) refl
      ∙ ap (cond (same id q) (option_map (dialogue_from (talk_of talks' id) vs) a)) (sym (dialogues-joined t lists talks q)))
    where
      by : (q : List ℕ) (b : Bool) → same id q ≡ b
          → option_map (dialogue_from (talk_of talks' q) (invocations_at lists' q)) (at t' q)
          ≡ cond b (option_map (dialogue_from (talk_of talks' id) vs) a) (option_map (dialogue_from (talk_of talks q) (invocations_at lists q)) (at t q))
      by q true e = here q e
      by q false e = there q e

  pub tied_changed : AreTied t lists talks → length talks ≤ length talks' → (a ≢ None → slot_of id < length talks') → (a ≡ None → vs ≡ [])
      → (a ≢ None → IsIdOf t.shard id) → t'.shard ≡ t.shard → count t' ≤ 4096
      → AreTied t' lists' talks'
  tied_changed tied longer has_talk none of_shard shard few = record {
    have_talks = λ q some. talk q some (same id q) refl;
    only_open = λ q none_there. list q none_there (same id q) refl;
    of_shard = λ q some. subst (λ (n : ℕ). IsIdOf n q) (sym shard) (own q some (same id q) refl);
    few = few;
  }
    where
      at_id : (q : List ℕ) → same id q ≡ true → at t' q ≡ a
      at_id q e = c.transactions q ∙ ap (λ b. cond b a (at t q)) e

      at_other : (q : List ℕ) → same id q ≡ false → at t' q ≡ at t q
      at_other q e = c.transactions q ∙ ap (λ b. cond b a (at t q)) e

      talk : (q : List ℕ) → at t' q ≢ None → (b : Bool) → same id q ≡ b → slot_of q < length talks'
      talk q some true e = subst (λ (k : List ℕ). slot_of k < length talks') (same_is id q e) (has_talk (λ n. some (at_id q e ∙ n)))
      talk q some false e = let h : slot_of q < length talks = tied.have_talks q (λ n. some (at_other q e ∙ n)) in omega arith

      list : (q : List ℕ) → at t' q ≡ None → (b : Bool) → same id q ≡ b → invocations_at lists' q ≡ []
      list q n true e = c.invocations q ∙ ap (λ b. cond b vs (invocations_at lists q)) e ∙ none (sym (at_id q e) ∙ n)
      list q n false e = c.invocations q ∙ ap (λ b. cond b vs (invocations_at lists q)) e ∙ tied.only_open q (sym (at_other q e) ∙ n)

      own : (q : List ℕ) → at t' q ≢ None → (b : Bool) → same id q ≡ b → IsIdOf t.shard q
      own q some true e = subst (IsIdOf t.shard) (same_is id q e) (of_shard (λ n. some (at_id q e ∙ n)))
      own q some false e = tied.of_shard q (λ n. some (at_other q e ∙ n))

-- ---- where nothing changes
pub same_joined : (t t' : OpenTransactions) (lists : InvocationLists) (talks talks' : List Talk) → t' ≡ record t { room = t'.room }
    → ((q : List ℕ) → at t q ≢ None → talk_of talks' q ≡ talk_of talks q)
    → joined t' lists talks' ≡ joined t lists talks
same_joined t t' lists talks talks' e kept = ap (λ (s : OpenTransactions). joined s lists talks') e
    ∙ (λ i. record { shard = t.shard; supply = t.supply; open_ones = same_ones i })
  where
    by : (q : List ℕ) (o : Option Transaction) → (o ≢ None → talk_of talks' q ≡ talk_of talks q)
        → option_map (dialogue_from (talk_of talks' q) (invocations_at lists q)) o ≡ option_map (dialogue_from (talk_of talks q) (invocations_at lists q)) o
    by q None talk = refl
    by q (Some s) talk = ap (λ (k : Talk). Some (dialogue_from k (invocations_at lists q) s)) (talk (some≢none s))

    same_ones : (joined t lists talks').open_ones ≡ (joined t lists talks).open_ones
    same_ones = finite.same_map octets_total octets_exact _ _ (λ q.
        get-remade (λ k s. dialogue_from (talk_of talks' k) (invocations_at lists k) s) t.open_ones q
        ∙ by q (at t q) (kept q)
        ∙ sym (get-remade (λ k s. dialogue_from (talk_of talks k) (invocations_at lists k) s) t.open_ones q))
