use Rattle.std.proofs.Common.{◌≡◌, rules, subst, sym}
use Rattle.std.specs.Prelude.{Err, IfErr, Result}
use Rattle.records.specs.Loaded.{Subscribers}
use Rattle.restoring.specs.Restoring.{IsImageOver, Restores}
use Rattle.images.specs.Beginnings.{beginnings}
use Rattle.images.specs.Texts.{IsImageFault}
use Rattle.embed.specs.declared.fault.RestoreFault.{RestoreFault}
use Rattle.embed.specs.declared.fault.RestoreFault.TheVariants.{Image, Records}
use Rattle.embed.specs.Registers.{RegisterState}
use Rattle.embed.specs.Restoring.{IsMemoryFault, IsRestoreFault}
use Rattle.embed.specs.Waiting.{IsQueue, waiting_in}
use Rattle.embed.proofs.RegisterLemmas.{goes_on_from}
use Rattle.embed.proofs.RestoredNumbers.{restored_numbered}
use Rattle.embed.proofs.register.Register.restore.Goals as goal

pub returns-in_err-loaded-clause-only : goal.returns-in_err-loaded-clause-only
returns-in_err-loaded-clause-only c = λ contents shards file is.
    let told : c.from_residual.result ≡ Err (Records c.in_err-loaded.field-0.0) = search rules in
    let P : Result RegisterState RestoreFault → Type 0 = λ z. IfErr z IsMemoryFault in
    subst P (sym told) (c.in_err-loaded.ensures.only contents file)

pub returns-in_err-node-clause-only : goal.returns-in_err-node-clause-only
returns-in_err-node-clause-only c = λ contents shards file is.
    let told : c.from_residual-in_err-node.result ≡ Err (Image c.in_err-node.field-0.0) = search rules in
    let P : Result RegisterState RestoreFault → Type 0 = λ z. IfErr z IsMemoryFault in
    let Q : Subscribers → Type 0 = λ z. IsImageOver z c.args.image.now shards in
    subst P (sym told) (c.in_err-node.ensures.only shards (subst Q (sym (c.in_ok-loaded.ensures.only contents file)) is))

pub returns-in_err-node-clause-fault : goal.returns-in_err-node-clause-fault
returns-in_err-node-clause-fault c =
    let told : c.from_residual-in_err-node.result ≡ Err (Image c.in_err-node.field-0.0) = search rules in
    let P : Result RegisterState RestoreFault → Type 0 = λ z. IfErr z (IsRestoreFault c.args.text.now c.args.image.now) in
    let Q : Subscribers → Type 0 = λ z. IsImageFault c.args.image.now (beginnings z) c.in_err-node.field-0.0 in
    let found = c.in_ok-loaded.ensures.found in
    subst P (sym told) (found.0, found.1, subst Q found.2 c.in_err-node.ensures.fault)

pub invariant_of-result : goal.invariant_of-result
invariant_of-result c =
    let found = c.in_ok-loaded.ensures.found in
    record {
      queue = subst (IsQueue c.none.result.taken) (sym c.none.ensures.lists) c.none.ensures.taken;
      numbers = restored_numbered found.0 c.args.keep c.args.image.now c.in_ok-node.node found.1.are_lines.are_apart
          (subst (λ (it : Subscribers). Restores it c.args.keep c.args.image.now c.in_ok-node.node) found.2 c.in_ok-node.ensures.restores);
    }

pub returns-clause-found : goal.returns-clause-found
returns-clause-found c =
    let found = c.in_ok-loaded.ensures.found in (
      found.0,
      found.1,
      goes_on_from found.0 c.in_ok-loaded.loaded c.args.keep c.args.image.now c.in_ok-node.node (waiting_in c.none.result.taken c.none.result.lists.items)
          found.2 c.in_ok-node.ensures.restores c.in_ok-node.ensures.keeps (λ i. waiting_in (c.none.ensures.taken i) (c.none.ensures.lists i)),
    )
