use Rattle.std.proofs.Common.{List, ℕ, map, sym, subst}
use Rattle.records.specs.File.{File}
use Rattle.records.specs.Written.{saved_contents}
use Rattle.records.proofs.SavedLaws.{saved_text, saved_is_read, facts_as}
use Rattle.records.proofs.write.save.Goals as goal

pub returns-clause-text : goal.returns-clause-text
returns-clause-text c = saved_text
    (λ s. s.now) c.args.hlr.now c.args.subscribers.now _ _ _ c.new-text.ensures.bytes c.in_ok-push_header.ensures.line c.in_ok-push_lines.ensures.lines

pub returns-clause-again : goal.returns-clause-again
returns-clause-again c = λ apart.
    let written = saved_text
    (λ s. s.now) c.args.hlr.now c.args.subscribers.now _ _ _ c.new-text.ensures.bytes c.in_ok-push_header.ensures.line c.in_ok-push_lines.ensures.lines in
    let facts = facts_as (λ s. s.now) c.args.subscribers.now c.in_ok-push_lines.ensures.facts in
    subst (λ (text : List ℕ). File text (saved_contents c.args.hlr.now (map (λ s. s.now) c.args.subscribers.now))) (sym written)
    (saved_is_read c.args.hlr.now (map (λ s. s.now) c.args.subscribers.now) c.in_ok-push_header.ensures.digits facts apart)
