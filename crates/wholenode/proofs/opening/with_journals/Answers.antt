use Rattle.std.proofs.Common.{rules, ◌≡◌, ◌∷◌, ◌++◌, [], length, sym, ap, subst, ◌∙◌, append_assoc, append-nil}
use Rattle.std.specs.Prelude.{map as each}
use Rattle.std.specs.List.{All}
use Rattle.std.proofs.lemmas.List.{nil_from_length}
use Rattle.std.proofs.lemmas.List.Elements.{All-nil, All-push}
use Rattle.shardlog.specs.Log.{LogKeeps, fresh}
use Rattle.wholenode.proofs.OpeningLemmas.{push_fresh}
use Rattle.wholenode.proofs.opening.with_journals.Goals as goal

pub loop-state-init : goal.loop-state-init
loop-state-init c =
    let same : c.into_iter-state-iterator.result.rest.items ≡ c.args.states.items = search rules in (
      tt,
      tt,
      c.in_ok-shards.ensures.items,
      subst (All LogKeeps) (sym c.in_ok-shards.ensures.items) (All-nil LogKeeps),
      same,
    )

pub loop-state-preserved : goal.loop-state-preserved
loop-state-preserved c =
    let at = c.loop-state.invariant in
    let left : c.loop-state.state-iterator.rest.items ≡ c.in-Some.state ∷ c.next.new.self.rest.items = search rules in
    let shard = c.in_ok-with_journal.field-0 in (
      tt,
      tt,
      push_fresh c.args.keep c.loop-state.yielded c.in-Some.state c.loop-state.shards.items _ shard at.2 c.in_ok-with_journal.ensures.begins
          c.in_ok-push.ensures.items,
      subst (All LogKeeps) (sym c.in_ok-push.ensures.items)
          (All-push LogKeeps c.loop-state.shards.items shard at.3 c.in_ok-with_journal.ensures.keeps),
      append_assoc c.loop-state.yielded (c.in-Some.state ∷ []) c.next.new.self.rest.items ∙ ap (λ z. c.loop-state.yielded ++ z) (sym left) ∙ at.4,
    )

pub returns-clause-shards : goal.returns-clause-shards
returns-clause-shards c =
    let at = c.loop-state.invariant in
    let none_left : length c.loop-state.state-iterator.rest.items ≡ 0 = search rules in
    let all : c.loop-state.yielded ≡ c.args.states.items =
    sym (append-nil c.loop-state.yielded) ∙ ap (λ z. c.loop-state.yielded ++ z) (sym (nil_from_length _ none_left)) ∙ at.4 in
    at.2 ∙ ap (each (fresh c.args.keep)) all

pub returns-clause-keeps : goal.returns-clause-keeps
returns-clause-keeps c = c.loop-state.invariant.3
