use Rattle.std.proofs.Common.{◌≡◌, ℕ, List, Option, Some, None, get_or, refl, sym, ap, ◌∙◌, arith}
use Rattle.std.proofs.lemmas.Option.{same_Some}
use Rattle.std.specs.FinMap as map
use Rattle.hlr_types.specs.Orders.{octets_cmp}
use Rattle.tidalloc.specs.LiveIds.{next_id, unused}
use Rattle.dialogues.specs.Dialogues.{OpenDialogues, dialogues_of, freed}
use Rattle.hlrcore.specs.Examples as example
use Rattle.hlrcore.specs.Ids.{MovesIds}
use Rattle.hlrcore.proofs.laws.law_first_ids.Goals as goal

-- where no dialogue is open none closes
none_closes : (before after : OpenDialogues) (id : List ℕ) → ((other : List ℕ) → dialogues_of before other ≡ None)
    → (moves : MovesIds before (Some id) after) → moves.closed ≡ None
none_closes before after id nothing moves = by moves.closed refl
  where
    by : (o : Option (List ℕ)) → moves.closed ≡ o → moves.closed ≡ None
    by None is = is
    by (Some other) is = absurd (((moves.closes other).0 is).0 (nothing other))

is_first : (before after : OpenDialogues) (id : List ℕ) → before.shard ≡ 3 → before.supply ≡ unused 0
    → ((other : List ℕ) → dialogues_of before other ≡ None) → MovesIds before (Some id) after → id ≡ example.first_id
is_first before after id shard supply nothing moves =
    let closed : moves.closed ≡ None = none_closes before after id nothing moves in
    let next : next_id before.shard (freed moves.closed before.supply) ≡ Some example.first_id =
    (λ i. next_id (shard i) (freed (closed i) (supply i))) in
    sym (same_Some example.first_id id (sym next ∙ moves.next))

pub returns : goal.returns
unfolding dialogues_of
returns c = record {
  first = λ d. record {
    closed = None;
    closes = λ id. (
      (λ e. absurd (let none : None ≡ Some id = e in cc)),
      (λ gone. absurd (gone.0 (map.get-empty octets_cmp id))),
    );
    shard = refl;
    next = refl;
    supply = refl;
  };
  alone = is_first;
  not_second = λ before after shard supply nothing moves.
      let same : example.second_id ≡ example.first_id = is_first before after example.second_id shard supply nothing moves in
      let last : 1 ≡ 0 = ap (λ (id : List ℕ). get_or id 3 0) same in
      absurd (omega (arith, last));
}
