use Rattle.std.proofs.Common.{◌≡◌, rules, subst, sym}
use Rattle.std.specs.Prelude.{Err}
use Rattle.records.specs.Loaded.{Subscribers}
use Rattle.wholenode.specs.Opening.{BeginsWith}
use Rattle.embed.specs.Registers.{Opens}
use Rattle.embed.specs.Waiting.{IsQueue, waiting_in}
use Rattle.embed.proofs.NumberLemmas.{begins_numbered}
use Rattle.embed.proofs.RegisterLemmas.{only_memory, opens}
use Rattle.embed.proofs.register.Register.open.Goals as goal

pub returns-in_err-loaded-clause-only : goal.returns-in_err-loaded-clause-only
returns-in_err-loaded-clause-only c = λ contents file.
    let is : c.from_residual.result ≡ Err c.in_err-loaded.field-0.0 = search rules in
    only_memory c.from_residual.result c.in_err-loaded.field-0.0 (Opens contents c.args.keep c.args.start) is (c.in_err-loaded.ensures.only contents file)

pub invariant_of-result : goal.invariant_of-result
invariant_of-result c =
    let found = c.in_ok-loaded.ensures.found in
    record {
      queue = subst (IsQueue c.none.result.taken) (sym c.none.ensures.lists) c.none.ensures.taken;
      numbers = begins_numbered found.0 c.args.keep c.args.start c.in_ok-node.node found.1.are_lines.are_apart
          (subst (λ (it : Subscribers). BeginsWith it c.args.keep c.args.start c.in_ok-node.node) found.2 c.in_ok-node.ensures.begins);
    }

pub returns-clause-found : goal.returns-clause-found
returns-clause-found c =
    let found = c.in_ok-loaded.ensures.found in (
      found.0,
      found.1,
      opens found.0 c.in_ok-loaded.loaded c.args.keep c.args.start c.in_ok-node.node (waiting_in c.none.result.taken c.none.result.lists.items) found.2
          c.in_ok-node.ensures.begins c.in_ok-node.ensures.keeps (λ i. waiting_in (c.none.ensures.taken i) (c.none.ensures.lists i)),
    )

pub returns-clause-only : goal.returns-clause-only
returns-clause-only c = λ contents file.
    opens contents c.in_ok-loaded.loaded c.args.keep c.args.start c.in_ok-node.node (waiting_in c.none.result.taken c.none.result.lists.items)
    (c.in_ok-loaded.ensures.only contents file) c.in_ok-node.ensures.begins c.in_ok-node.ensures.keeps
    (λ i. waiting_in (c.none.ensures.taken i) (c.none.ensures.lists i))
