use Rattle.std.proofs.Common.{◌≡◌, ◌↔◌, ◌<◌, [], ◌∷◌, ◌++◌, Ok, Err, refl, sym, ap, subst, ◌∙◌, arith}
use Rattle.std.proofs.Math.ListN.{length-append}
use Rattle.std.specs.FinSet as set
use Rattle.std.specs.declared.result.Result.{Result}
use Rattle.std.specs.Result.{IsErrAnd}
use Rattle.tsl.specs.declared.transactions.TslFault.{TslFault}
use Rattle.tsl.specs.declared.transactions.TslFault.TheVariants.{NoRoom, Memory}
use Rattle.slab.specs.Slab.{Slab}
use Rattle.tsl.specs.declared.transactions.Entry.{Entry}
use Rattle.tsl.specs.declared.transactions.Transactions.TheInside.{Inside}
use Rattle.tsl.specs.Transactions.{OpenTransactions, count}
use Rattle.tsl.specs.Table.{open_of, AreEntries}
use Rattle.tsl.proofs.ViewLemmas.{count-open_of}
use Rattle.tsl.proofs.StepLemmas.{key-pushed, AreEntries-reserve, reserves}
use Rattle.tsl.proofs.transactions.Transactions.reserve.Goals as goal
use Rattle.tsl.proofs.transactions.Transactions.reserve.Goals.{then-len-live_count+in_ok-reserve-2, else-len-live_count}

pub returns-then-self-gt0-clause-no_room : goal.returns-then-self-gt0-clause-no_room
returns-then-self-gt0-clause-no_room c =
    let i = c.self.inside in
    let counted = sym (ap count c.self.view_is) ∙ count-open_of i.ids i.keys.items i.entries i.room c.self.invariant in
    (λ e. cc, λ full. absurd (omega (arith, c.self.invariant.few, c.if-self-gt0.true, counted)))

pub returns-then-is_full-clause-no_room : goal.returns-then-is_full-clause-no_room
returns-then-is_full-clause-no_room c =
    let i = c.self.inside in
    let counted = sym (ap count c.self.view_is) ∙ count-open_of i.ids i.keys.items i.entries i.room c.self.invariant in
    (λ e. counted ∙ c.is_full.ensures.full.0 c.if-is_full.true, λ full. refl)

of_memory : (result : Result (Unit {0}) TslFault) (P : Type 0) → IsErrAnd result (λ x. x ≡ Memory) → (P → ⊥) → (result ≡ Err NoRoom) ↔ P
of_memory (Ok _) P is not_so = absurd is
of_memory (Err x) P is not_so = (λ e. let other : ◌≡◌ {A = Result (Unit {0}) TslFault} (Err Memory) (Err NoRoom) = ap Err (sym is) ∙ e in cc, λ p. absurd (not_so p))

pub returns-in_err-reserve-clause-no_room : goal.returns-in_err-reserve-clause-no_room
returns-in_err-reserve-clause-no_room c =
    let i = c.self.inside in
    let counted = sym (ap count c.self.view_is) ∙ count-open_of i.ids i.keys.items i.entries i.room c.self.invariant in
    of_memory c.from_residual.result _ c.from_residual.ensures.1
    (λ full. let some = c.is_full.ensures.room.0 c.if-is_full.false in omega (arith, some, counted, full))

pub returns-clause-no_room : goal.returns-clause-no_room
returns-clause-no_room c =
    let i = c.self.inside in
    let counted = sym (ap count c.self.view_is) ∙ count-open_of i.ids i.keys.items i.entries i.room c.self.invariant in
    (λ e. cc, λ full. let some = c.is_full.ensures.room.0 c.if-is_full.false in absurd (omega (arith, some, counted, full)))

pub returns-in_err-reserve-2-clause-no_room : goal.returns-in_err-reserve-2-clause-no_room
returns-in_err-reserve-2-clause-no_room c =
    let i = c.self.inside in
    let counted = sym (ap count c.self.view_is) ∙ count-open_of i.ids i.keys.items i.entries i.room c.self.invariant in
    of_memory c.from_residual-in_err-reserve-2.result _ c.from_residual-in_err-reserve-2.ensures.1
    (λ full. let some = c.is_full.ensures.room.0 c.if-is_full.false in omega (arith, some, counted, full))

pub invariant_of-self-2 : goal.invariant_of-self-2
invariant_of-self-2 c =
    let i = c.self.inside in
    let slots = ap (λ (s : Slab Entry). s.slots) c.in_ok-reserve.ensures.rest_kept in
    let few : set.len i.ids.live < 4096 = c.is_full.ensures.room.0 c.if-is_full.false in
    elim c.if-len-live_count.branch [
      | then-len-live_count+in_ok-reserve-2 w ↦
          let longer = length-append i.keys.items (0 ∷ []) in
          subst (λ (s : Inside). AreEntries s.ids s.keys.items s.entries 1) (sym w.self-inside-is)
          (rw (w.push_reserved.ensures.items, w.in_ok-reserve-2.ensures.items)
          (AreEntries-reserve i.ids i.keys.items (i.keys.items ++ 0 ∷ []) i.entries c.reserve.new.self i.room (key-pushed i.keys.items) slots c.self.invariant
          (omega (arith, longer)) (omega (arith, longer, w.if-len-live_count.true, c.len.ensures, c.live_count.ensures, i.keys.ok.0)) c.in_ok-reserve.ensures.room few))
      | else-len-live_count w ↦
          let other = w.if-len-live_count.false in
          subst (λ (s : Inside). AreEntries s.ids s.keys.items s.entries 1) (sym w.self-inside-is)
          (AreEntries-reserve i.ids i.keys.items i.keys.items i.entries c.reserve.new.self i.room (λ n. refl) slots c.self.invariant
          (omega arith) (omega (arith, other, c.len.ensures, c.live_count.ensures, i.keys.ok.0, c.self.invariant.room_in_keys)) c.in_ok-reserve.ensures.room few)
    ]

pub returns-clause-ok : goal.returns-clause-ok
returns-clause-ok c =
    let i = c.self.inside in
    let slots = ap (λ (s : Slab Entry). s.slots) c.in_ok-reserve.ensures.rest_kept in
    elim c.if-len-live_count.branch [
      | then-len-live_count+in_ok-reserve-2 w ↦
          ap (λ (s : Inside). open_of s.ids s.keys.items s.entries 1) w.self-inside-is
          ∙ ap (λ keys. open_of i.ids keys c.reserve.new.self 1) (w.push_reserved.ensures.items ∙ ap (λ keys. keys ++ 0 ∷ []) w.in_ok-reserve-2.ensures.items)
          ∙ reserves i.ids i.keys.items (i.keys.items ++ 0 ∷ []) i.entries c.reserve.new.self i.room (key-pushed i.keys.items) slots
          ∙ ap (λ (t : OpenTransactions). record t { room = 1 }) c.self.view_is
      | else-len-live_count w ↦
          ap (λ (s : Inside). open_of s.ids s.keys.items s.entries 1) w.self-inside-is
          ∙ reserves i.ids i.keys.items i.keys.items i.entries c.reserve.new.self i.room (λ n. refl) slots
          ∙ ap (λ (t : OpenTransactions). record t { room = 1 }) c.self.view_is
    ]
