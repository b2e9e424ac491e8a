-- The answers of the readers are tied to the forms of their operations.
use Rattle.std.proofs.Common.{◌≡◌}
use Rattle.std.specs.Prelude.{Result}
use Rattle.x690.specs.Tree.{Tree}
use Rattle.machine.specs.Received.{BadValue}
use Rattle.machine.specs.declared.numbers.TheConstants.{UPDATE_LOCATION, PURGE_MS}
use Rattle.frames.specs.Arguments.{update_of, purge_of}
use Rattle.frames.proofs.ArgumentLaws.{update_found, update_again, purge_found, purge_again}
use Rattle.mapargs_loc.specs.declared.fault.ArgFault.{ArgFault}
use Rattle.mapargs_loc.specs.declared.update.UpdateArg.{UpdateArg}
use Rattle.mapargs_loc.specs.declared.purge.PurgeArg.{PurgeArg}
use Rattle.mapargs_loc.specs.Seen.{answer, update_argument, purge_argument}
use Rattle.mapargs_loc.proofs.Reading.{IsOnly, answer-only}

pub update_only : (t : Tree) (r : Result UpdateArg ArgFault) → answer update_argument r ≡ update_of t → IsOnly UPDATE_LOCATION t (answer update_argument r)
update_only t r is = answer-only update_argument UPDATE_LOCATION t r (update_of t) is (record { found = update_found t; again = update_again t })

pub purge_only : (t : Tree) (r : Result PurgeArg ArgFault) → answer purge_argument r ≡ purge_of t → IsOnly PURGE_MS t (answer purge_argument r)
purge_only t r is = answer-only purge_argument PURGE_MS t r (purge_of t) is (record { found = purge_found t; again = purge_again t })

pub update_is_value : (u : UpdateArg) → update_argument u ≡ BadValue → ⊥
update_is_value u e = cc

pub purge_is_value : (p : PurgeArg) → purge_argument p ≡ BadValue → ⊥
purge_is_value p e = cc
