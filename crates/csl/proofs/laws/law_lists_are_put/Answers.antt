use Rattle.std.proofs.Common.{sym, ap, ◌∙◌, cond}
use Rattle.std.specs.FinMap as finite
use Rattle.hlr_types.specs.Orders.{octets_cmp}
use Rattle.hlr_types.proofs.OrderLemmas.{pointwise-octets}
use Rattle.csl.specs.Tables.{invocations_at, list_in}
use Rattle.csl.proofs.Putting.{at-put_list}
use Rattle.csl.proofs.laws.law_lists_are_put.Goals as goal

pub returns-clause-put : goal.returns-clause-put
returns-clause-put c = λ lists id vs q. at-put_list lists id vs q ∙ ap (λ b. cond b vs (invocations_at lists q)) (sym (pointwise-octets id q))

pub returns-clause-none : goal.returns-clause-none
returns-clause-none c = λ q. ap list_in (finite.get-empty octets_cmp q)
