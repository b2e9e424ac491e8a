use Rattle.std.proofs.Common.{sym, ◌∙◌, Ok, Err, rules}
use Rattle.std.proofs.lemmas.List.Sorted.{answers_always}
use Rattle.records.proofs.MapLemmas.{get_view}
use Rattle.records.proofs.OrderLemmas.{searched, hit, missed, found_at_its_key}
use Rattle.records.proofs.directory.find_in.Goals as goal

pub returns-in_default-clause-value : goal.returns-in_default-clause-value
returns-in_default-clause-value c = λ ordered.
    let es = c.args.entries.now in
    let k = c.args.msisdn.now in
    let by_key = c.in_default.ensures.position (λ e. e.0) (answers_always _ _ _ (λ f a r g called. search rules)) in
    sym (missed es k (searched (λ e. e.0) es ordered k (Err c.in_default.field-0) by_key c.in_default.ensures.bound)) ∙ sym (get_view es k)

pub returns-clause-found : goal.returns-clause-found
returns-clause-found c =
    let by_key = c.in-Ok.ensures.position (λ e. e.0) (answers_always _ _ _ (λ f a r g called. search rules)) in
    found_at_its_key c.args.entries.now c.args.msisdn.now c.in-Ok.at c.index-entries-at.result c.in-Ok.ensures.bound by_key

pub returns-clause-value : goal.returns-clause-value
returns-clause-value c = λ ordered.
    let es = c.args.entries.now in
    let k = c.args.msisdn.now in
    let by_key = c.in-Ok.ensures.position (λ e. e.0) (answers_always _ _ _ (λ f a r g called. search rules)) in
    let found = searched (λ e. e.0) es ordered k (Ok c.in-Ok.at) by_key c.in-Ok.ensures.bound in
    sym (hit es k c.in-Ok.at c.index-entries-at.result ordered c.in-Ok.ensures.bound (found c.index-entries-at.result)) ∙ sym (get_view es k)
