-- Each change of the transactions is a row of the transaction table.
use Rattle.std.proofs.Common.{◌≡◌, ◌≢◌, ℕ, List, Option, Some, None, true, false, cond, refl, sym, ap, ◌∙◌, inl, inr}
use Rattle.std.specs.Option.{is_some}
use Rattle.std.specs.FinMap as map
use Rattle.machine.specs.Keys.{same}
use Rattle.machine.specs.State.{Transaction}
use Rattle.machine.specs.Transactions.{OwnBegin, Answered, ContinueComes, CloseComes, OwnEnd, OwnClose, IsSent, ForIt, Unassigned, Nothing, transact, row, continue_row, if_active}
use Rattle.hlr_types.proofs.OrderLemmas.{octets_total, octets_exact, eq_octets, ne_octets, cases_octets, pointwise-octets}
use Rattle.tsl.specs.Transactions.{OpenTransactions, Begins, IsActive, IsInitiated, at, initiated, active, closed, with_transaction}
use Rattle.tsl.specs.declared.received.Head.{Head}
use Rattle.tsl.specs.declared.received.Head.TheVariants.{Continue, End, Abort}
use Rattle.tsl.specs.declared.received.Received.TheVariants.{For, NotAssigned}
use Rattle.tsl.specs.Received.{told_of, put_back, after, activated, activated_from, IsReceived, AreReceivedRows}

-- ---- a transaction begins
module _ (old new : OpenTransactions) (id : List ℕ) where
  begun_at : (t : Transaction) → Begins old id t new → at new id ≡ Some t
  begun_at t begins =
      ap (λ (n : OpenTransactions). at n id) begins.after ∙ map.get-insert octets_total old.open_ones id t id
      ∙ ap (λ b. cond b (Some t) (at old id)) (eq_octets id id refl)

  pub row_of_begin : (to : List ℕ) → Begins old id (initiated to) new → transact (at old id) (OwnBegin to) ≡ row (at new id) IsSent
  row_of_begin to begins = ap (λ o. transact o (OwnBegin to)) begins.may.not_open ∙ ap (λ o. row o IsSent) (sym (begun_at (initiated to) begins))

  pub row_of_answer : (from origin : List ℕ) → Begins old id (active from origin) new → transact (at old id) (Answered from origin) ≡ row (at new id) IsSent
  row_of_answer from origin begins =
      ap (λ o. transact o (Answered from origin)) begins.may.not_open ∙ ap (λ o. row o IsSent) (sym (begun_at (active from origin) begins))

-- ---- a transaction closes
module _ (old new : OpenTransactions) (id : List ℕ) where
  closed_at : new ≡ closed old id → at new id ≡ None
  closed_at closes =
      ap (λ (n : OpenTransactions). at n id) closes ∙ map.get-remove octets_total old.open_ones id id
      ∙ ap (λ b. cond b None (at old id)) (eq_octets id id refl)

  pub row_of_close : (t : Transaction) → at old id ≡ Some t → new ≡ closed old id → transact (at old id) CloseComes ≡ row (at new id) ForIt
  row_of_close t was closes = ap (λ o. transact o CloseComes) was ∙ ap (λ o. row o ForIt) (sym (closed_at closes))

  own_close : (o : Option Transaction) → IsInitiated o → transact o OwnClose ≡ row None Nothing
  own_close None h = absurd h
  own_close (Some t) h = ap (λ r. transact (Some (record { peer = t.peer; remote = r })) OwnClose) h

  pub row_of_own_close : (t : Transaction) → at old id ≡ Some t → new ≡ closed old id → IsInitiated (at old id)
      → transact (at old id) OwnClose ≡ row (at new id) Nothing
  row_of_own_close t was closes initiated = own_close (at old id) initiated ∙ ap (λ o. row o Nothing) (sym (closed_at closes))

  own_end : (o : Option Transaction) → IsActive o → transact o OwnEnd ≡ row None IsSent
  own_end None h = absurd h
  own_end (Some t) h = sent t.remote h
    where
      sent : (r : Option (List ℕ)) → is_some r ≡ true → if_active r (row None IsSent) ≡ row None IsSent
      sent None h = cc
      sent (Some remote) h = refl

  pub row_of_own_end : (active : IsActive (at old id)) → new ≡ closed old id → transact (at old id) OwnEnd ≡ row (at new id) IsSent
  row_of_own_end active closes = own_end (at old id) active ∙ ap (λ o. row o IsSent) (sym (closed_at closes))

-- ---- a received Continue
same_again : (t : OpenTransactions) (id : List ℕ) (transaction : Transaction) → at t id ≡ Some transaction → with_transaction t id transaction ≡ t
same_again t id transaction there = λ i. record t { open_ones = open_ones i }
  where
    open_ones : map.insert t.open_ones id transaction ≡ t.open_ones
    open_ones = map.same_map octets_total octets_exact _ _ (λ q.
        map.get-insert octets_total t.open_ones id transaction q
        ∙ elim (cases_octets q id) [
          | inl e ↦ ap (λ b. cond b (Some transaction) (at t q)) (eq_octets q id e) ∙ sym there ∙ ap (at t) (sym e)
          | inr other ↦ ap (λ b. cond b (Some transaction) (at t q)) (ne_octets q id other)
        ])

module _ (t : OpenTransactions) (from origin destination : List ℕ) where
  after_open : (s : Transaction) → at t destination ≡ Some s → (r : Option (List ℕ)) → s.remote ≡ r
      → activated_from t destination from origin r ≡ put_back t destination (continue_row s r from origin)
  after_open s there None e = refl
  after_open s there (Some known) e =
      elim (same known origin) as (λ b. t ≡ put_back t destination (cond b (row (Some s) ForIt) (row (Some s) Unassigned))) [
        | true ↦ sym (same_again t destination s there)
        | false ↦ sym (same_again t destination s there)
      ]

  after_any : (o : Option Transaction) → at t destination ≡ o → activated t destination from origin o
      ≡ put_back t destination (transact o (ContinueComes from origin))
  after_any None e = refl
  after_any (Some s) e = after_open s e s.remote refl

  pub after_continue : activated t destination from origin (at t destination) ≡ after t from (Continue origin destination)
  after_continue = after_any (at t destination) refl

-- ---- the rows of what is received
same_twice : (p : List ℕ) → same p p ≡ true
same_twice p = pointwise-octets p p ∙ eq_octets p p refl

not_same : (p q : List ℕ) → p ≢ q → same p q ≡ false
not_same p q other = pointwise-octets p q ∙ ne_octets p q other

module _ (t : OpenTransactions) (from id : List ℕ) where
  told_at_open : (head : Head) → ((s : Transaction) → told_of head (transact (Some s) CloseComes) ≡ For id) → (o : Option Transaction) → o ≢ None
      → told_of head (transact o CloseComes) ≡ For id
  told_at_open head each None some = absurd (some refl)
  told_at_open head each (Some s) some = each s

  pub of_the_peer : (peer origin : List ℕ) → at t id ≡ Some (active peer origin) → IsReceived t from (Continue origin id) (For id) t
  of_the_peer peer origin e =
      let whole : transact (at t id) (ContinueComes from origin) ≡ row (Some (active peer origin)) ForIt =
      ap (λ o. transact o (ContinueComes from origin)) e ∙ ap (λ b. cond b (row (Some (active peer origin)) ForIt) (row (Some (active peer origin)) Unassigned))
      (same_twice origin) in
      record { told = ap (told_of (Continue origin id)) whole; left = ap (put_back t id) whole ∙ same_again t id (active peer origin) e }

  pub of_another : (peer known origin : List ℕ) → at t id ≡ Some (active peer known) → known ≢ origin
      → IsReceived t from (Continue origin id) (NotAssigned origin) t
  of_another peer known origin e other =
      let whole : transact (at t id) (ContinueComes from origin) ≡ row (Some (active peer known)) Unassigned =
      ap (λ o. transact o (ContinueComes from origin)) e ∙ ap (λ b. cond b (row (Some (active peer known)) ForIt) (row (Some (active peer known)) Unassigned))
      (not_same known origin other) in
      record { told = ap (told_of (Continue origin id)) whole; left = ap (put_back t id) whole ∙ same_again t id (active peer known) e }

pub received_rows : AreReceivedRows
received_rows = record {
  continue_at_sent = λ t peer from origin id e. record {
    told = ap (λ o. told_of (Continue origin id) (transact o (ContinueComes from origin))) e;
    left = ap (λ o. put_back t id (transact o (ContinueComes from origin))) e;
  };
  continue_of_the_peer = λ t peer from origin id e. of_the_peer t from id peer origin e;
  continue_of_another = λ t peer known from origin id e other. of_another t from id peer known origin e other;
  continue_at_none = λ t from origin id e. record {
    told = ap (λ o. told_of (Continue origin id) (transact o (ContinueComes from origin))) e;
    left = ap (λ o. put_back t id (transact o (ContinueComes from origin))) e;
  };
  end_at_open = λ t from id open_there. record { told = told_at_open t from id (End id) (λ s. refl) (at t id) open_there; left = refl };
  end_at_none = λ t from id e. record { told = ap (λ o. told_of (End id) (transact o CloseComes)) e; left = refl };
  abort_at_open = λ t from id open_there. record { told = told_at_open t from id (Abort id) (λ s. refl) (at t id) open_there; left = refl };
  abort_at_none = λ t from id e. record { told = ap (λ o. told_of (Abort id) (transact o CloseComes)) e; left = refl };
}
