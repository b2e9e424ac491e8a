-- An update whose inserts have all succeeded, by the record.
use Rattle.std.proofs.Common.{◌≡◌, ℕ, ℤ, List, [], ◌∷◌, Bool, true, false, cond, Option, Some, None, sym, ap, ◌∙◌}
use Rattle.machine.specs.Received.{Register}
use Rattle.machine.specs.Sent.{Rejection, UpdateResult}
use Rattle.machine.specs.State.{Dialogue, Local, Subscriber}
use Rattle.machine.specs.Outcome.{Outcome, end_in_dialogue, is_marked}
use Rattle.machine.specs.Dialogues.{update_completes, update_done, update_fails}

module _ (here : Local) (id : List ℕ) (d : Dialogue) (register : Register) (invoke : ℤ) (rejects : List Rejection) (new : List ℕ) (x : Option Subscriber) where
  abbrev completes_if : Subscriber → Bool → Outcome
  completes_if s marked =
      cond marked
      (update_done here register s (end_in_dialogue d.transaction d.transaction.remote rejects (UpdateResult invoke here.hlr ∷ [])) new s.register)
      (update_fails here id d invoke rejects)

  pub completes_marked : (s : Subscriber) → x ≡ Some s → is_marked s.current id ≡ true
      → completes_if s true ≡ update_completes here id d register invoke rejects new x
  completes_marked s is marked = ap (completes_if s) (sym marked) ∙ ap (update_completes here id d register invoke rejects new) (sym is)

  pub completes_other : (s : Subscriber) → x ≡ Some s → is_marked s.current id ≡ false
      → completes_if s false ≡ update_completes here id d register invoke rejects new x
  completes_other s is marked = ap (completes_if s) (sym marked) ∙ ap (update_completes here id d register invoke rejects new) (sym is)

  pub completes_none : x ≡ None → update_fails here id d invoke rejects ≡ update_completes here id d register invoke rejects new x
  completes_none is = ap (update_completes here id d register invoke rejects new) (sym is)
