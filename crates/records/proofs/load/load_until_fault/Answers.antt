use Rattle.std.proofs.Common.{◌≡◌, [], sym, ap, ◌∙◌, arith}
use Rattle.std.proofs.lemmas.List.{nil_from_length}
use Rattle.std.proofs.lemmas.Grind.{common_steps}
use Rattle.texts.specs.Lines.{lines}
use Rattle.texts.proofs.LinesLemmas.{lines_nil}
use Rattle.records.proofs.LoadLemmas.{on_true, begins, line_is_bad, stands_twice, line_goes_on, lines_end}
use Rattle.records.proofs.FreshLemmas.{read_unmarked}
use Rattle.records.proofs.load.load_until_fault.Goals as goal

pub loop-rest-init : goal.loop-rest-init
loop-rest-init c = (begins _ _ _ _ c.in_ok-loading.ensures, omega arith)

pub returns-in_default : goal.returns-in_default
returns-in_default c = line_is_bad _ _ _ _ _ _ c.loop-rest.invariant.0 _ _ c.first_line.ensures.lines (sym c.in_ok-subscriber.ensures ∙ c.in_default.is)

pub add-requires : goal.add-requires
add-requires c = record {
  unmarked = read_unmarked c.args.version c.first_line.result.0.now c.in-Some.subscriber (sym c.in_ok-subscriber.ensures ∙ c.in-Some.is);
}

pub returns-then-not-is_new : goal.returns-then-not-is_new
returns-then-not-is_new c =
    stands_twice _ _ _ _ _ _ c.loop-rest.invariant.0 _ _ _ c.first_line.ensures.lines (sym c.in_ok-subscriber.ensures ∙ c.in-Some.is)
    (sym c.in_ok-is_new.ensures.is_new ∙ c.if-not-is_new.true)

pub loop-rest-preserved : goal.loop-rest-preserved
loop-rest-preserved c = (
  line_goes_on _ _ _ _ _ _ c.loop-rest.invariant.0 _ _ _ c.first_line.ensures.lines (sym c.in_ok-subscriber.ensures ∙ c.in-Some.is)
      (sym c.in_ok-is_new.ensures.is_new ∙ c.if-not-is_new.false) _ (on_true _ _ c.if-not-is_new.false c.in_ok-is_new.ensures.added),
  omega (arith, c.first_line.ensures.shorter, c.loop-rest.invariant.1),
)

pub returns : goal.returns
returns c =
    let none : c.loop-rest.rest.now ≡ [] = nil_from_length c.loop-rest.rest.now (grind (arith, common_steps)) in
    let (contents, reads, same) = lines_end _ _ _ _ _ _ c.loop-rest.invariant.0 (ap lines none ∙ lines_nil) in
    (contents, reads, c.in_ok-finish.ensures ∙ same)
