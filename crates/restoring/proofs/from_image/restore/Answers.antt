use Rattle.std.proofs.Common.{◌≡◌, List, rules, subst, sym, ◌∙◌}
use Rattle.std.specs.Prelude.{Err, IfErr, Result}
use Rattle.hlrcore.specs.Shards.{ShardState}
use Rattle.images.specs.Beginnings.{beginnings}
use Rattle.images.specs.Texts.{IsImage, IsImageFault}
use Rattle.images.specs.declared.fault.ImageFault.{ImageFault}
use Rattle.images.specs.declared.fault.ImageFault.TheVariants.{Memory}
use Rattle.wholenode.specs.Nodes.{NodeState}
use Rattle.restoring.proofs.RestoringLemmas.{are_beginnings, none_is_open, restored_states, there_are}
use Rattle.restoring.proofs.from_image.restore.Goals as goal

pub read_image-requires-clause-begin : goal.read_image-requires-clause-begin
read_image-requires-clause-begin c = none_is_open c.args.loaded 0 _ c.in_ok-begin.ensures

pub read_image-requires-clause-some : goal.read_image-requires-clause-some
read_image-requires-clause-some c = there_are c.args.loaded 0 _ c.in_ok-begin.ensures

pub of_states-requires : goal.of_states-requires
of_states-requires c = restored_states c.args.loaded 0 _ _ _ c.in_ok-directory.ensures c.in_ok-begin.ensures c.in_ok-states.ensures.same

pub returns-in_err-states-clause-only : goal.returns-in_err-states-clause-only
returns-in_err-states-clause-only c = λ shards is.
    let begin = are_beginnings c.args.loaded _ c.in_ok-begin.ensures in
    let P : List ShardState → Type 0 = λ z. IsImage c.args.image.now z shards in
    let told : c.from_residual-in_err-states.result ≡ Err c.in_err-states.field-0.0 = search rules in
    let Q : Result NodeState ImageFault → Type 0 = λ z. IfErr z (λ fault. fault ≡ Memory) in
    subst Q (sym told) (c.in_err-states.ensures.only shards (subst P (sym begin) is))

pub returns-in_err-states-clause-fault : goal.returns-in_err-states-clause-fault
returns-in_err-states-clause-fault c =
    let begin = are_beginnings c.args.loaded _ c.in_ok-begin.ensures in
    let P : List ShardState → Type 0 = λ z. IsImageFault c.args.image.now z c.in_err-states.field-0.0 in
    let told : c.from_residual-in_err-states.result ≡ Err c.in_err-states.field-0.0 = search rules in
    let Q : Result NodeState ImageFault → Type 0 = λ z. IfErr z (IsImageFault c.args.image.now (beginnings c.args.loaded)) in
    subst Q (sym told) (subst P begin c.in_err-states.ensures.fault)

pub returns-clause-restores : goal.returns-clause-restores
returns-clause-restores c =
    let P : List ShardState → Type 0 = λ z. IsImage c.args.image.now z c.in_ok-states.states.items in
    record {
      directory_is = c.in_ok-of_states.ensures.is.directory_is ∙ c.in_ok-directory.ensures;
      shards = c.in_ok-states.states.items;
      is_image = subst P (are_beginnings c.args.loaded _ c.in_ok-begin.ensures) c.in_ok-states.ensures.read;
      shards_are = c.in_ok-of_states.ensures.is.shards_are;
    }
