use Rattle.std.proofs.Common.{ap, sym, ◌∙◌}
use Rattle.std.specs.Prelude.{is_some, not}
use Rattle.std.specs.FinMap as map
use Rattle.records.specs.Maps.{DirectoryMap}
use Rattle.records.proofs.LoadLemmas.{turned}
use Rattle.records.proofs.MapLemmas.{get_view, view_insert}
use Rattle.records.proofs.directory_tree.DirectoryTree.add.Goals as goal

pub returns-clause-ok : goal.returns-clause-ok
returns-clause-ok c =
    view_insert c.self.inside.imsis.entries c.insert.new.self.entries c.args.msisdn c.args.imsi c.in_ok-before.ensures.updates.0
    ∙ ap (λ (m : DirectoryMap). map.insert m c.args.msisdn c.args.imsi) c.self.view_is

pub returns-clause-is_new : goal.returns-clause-is_new
returns-clause-is_new c =
    let k = c.args.msisdn in
    turned (is_some c.in_ok-before.before) c.is_none.result c.is_none.ensures
    ∙ ap (λ o. not (is_some o)) (c.in_ok-before.ensures.old
    ∙ sym (get_view c.self.inside.imsis.entries k) ∙ ap (λ (m : DirectoryMap). map.get m k) c.self.view_is)
