use Rattle.std.proofs.Common.{◌≡◌, ◌++◌, ◌<◌, ℕ, List, length, refl, sym, ap, subst, ◌∙◌, rules}
use Rattle.std.specs.Prelude.{option_map}
use Rattle.std.specs.List.{AllByRecursion}
use Rattle.texts.specs.Lines.{lines}
use Rattle.hlr_program.specs.Registers.{state_known}
use Rattle.hlr_program.specs.declared.fault.Fault.TheVariants.{Memory}
use Rattle.hlr_program.specs.Batches.{HasIds, IsGood, batch_of}
use Rattle.hlr_program.specs.Gathering.{Handles}
use Rattle.hlr_program.specs.Printed.{sent_lines}
use Rattle.hlr_program.specs.Stopping.{BatchStops}
use Rattle.hlr_program.proofs.GatherLemmas.{passed_on}
use Rattle.hlr_program.proofs.CheckLaws.{all_batch, all_behind}
use Rattle.hlr_program.proofs.PassedLemmas.{none_passed, passed_handles, passed_none, passed_stops}
use Rattle.hlr_program.proofs.ScriptLemmas.{Stopped, batch_broken, batch_printed, batch_stopped, batch_unwritten, nothing_left, script_begins, script_ends}
use Rattle.hlr_program.proofs.serve.run.Goals as goal

pub batches-init : goal.batches-init
batches-init g c = record {
  at = script_begins c.args.register.now c.args.script.now.text.items c.new-left.result.rest.now
      (g.W.Write.contents c.args.out.now) c.new-answers.result.letters c.new-left.result.before c.new-answers.ensures.letters
      (c.new-left.ensures.whole ∙ c.deref.ensures.value) c.new-left.ensures.first c.requires.checked.good;
  plain = λ none. subst (λ (t : List ℕ). AllByRecursion (HasIds 0) (lines t)) (sym (c.new-left.ensures.whole ∙ c.deref.ensures.value))
      (c.requires.checked.plain none);
  none = c.requires.none;
  blank = c.new-answers.ensures.text;
}

pub returns-in_err-extend_from_slice-clause-stops : goal.returns-in_err-extend_from_slice-clause-stops
returns-in_err-extend_from_slice-clause-stops g c =
    let some : 0 < length c.batches.left.rest.now = search rules in
    passed_on c.from_residual.result Memory (λ fault. Stopped c.args.script.now.text.items c.args.register.now fault (g.W.Write.contents c.args.out.now)
    (g.W.Write.contents c.batches.out))
    c.from_residual.ensures.1
    (batch_unwritten c.args.register.now c.args.script.now.text.items (g.W.Write.contents c.args.out.now)
    (g.W.Write.contents c.batches.out) c.batches.answers.letters c.batches.register c.batches.left.rest.now
    c.batches.left.before Memory some c.batches.invariant.at refl)

pub handle_batch-requires-clause-good : goal.handle_batch-requires-clause-good
handle_batch-requires-clause-good g c κs within = all_batch IsGood (lines c.batches.left.rest.now) c.batches.invariant.at.at.good

pub handle_batch-requires-clause-plain : goal.handle_batch-requires-clause-plain
handle_batch-requires-clause-plain g c κs within none =
    all_batch (HasIds 0) (lines c.batches.left.rest.now) (c.batches.invariant.plain
    (passed_none c.args.script.now.lettered (option_map (λ i. i.now) c.ids_for-letters.result) c.deref-in-batches.result.now c.ids_for-letters.ensures
    (none_passed (λ i. i.now) c.ids_for-letters.result none)))

pub returns-in_err-left-clause-stops : goal.returns-in_err-left-clause-stops
returns-in_err-left-clause-stops g c =
    let some : 0 < length c.batches.left.rest.now = search rules in
    let ids : c.deref-in-batches.result.now ≡ c.batches.answers.letters = search rules in
    passed_on c.from_residual-in_err-left.result c.in_err-left.field-0.0
    (λ fault. Stopped c.args.script.now.text.items c.args.register.now fault (g.W.Write.contents c.args.out.now) (g.W.Write.contents c.batches.out))
    c.from_residual-in_err-left.ensures.1
    (batch_stopped c.args.register.now c.args.script.now.text.items (g.W.Write.contents c.args.out.now)
    (g.W.Write.contents c.batches.out) c.batches.answers.letters c.batches.register c.batches.left.rest.now
    c.batches.left.before c.in_err-left.field-0.0 some c.batches.invariant.at
    (subst (λ (i : List (List ℕ)). BatchStops i c.batches.left.before (state_known c.batches.register)
    (batch_of (lines c.batches.left.rest.now)) c.in_err-left.field-0.0) ids
    (passed_stops c.args.script.now.lettered (option_map (λ i. i.now) c.ids_for-letters.result) c.deref-in-batches.result.now c.batches.left.before
    (state_known c.batches.register) (batch_of (lines c.batches.left.rest.now)) c.in_err-left.field-0.0 c.ids_for-letters.ensures
    (all_batch IsGood (lines c.batches.left.rest.now) c.batches.invariant.at.at.good)
    (λ none. all_batch (HasIds 0) (lines c.batches.left.rest.now) (c.batches.invariant.plain none)) c.in_err-left.ensures.stops)))

pub returns-in_err-print-clause-stops : goal.returns-in_err-print-clause-stops
returns-in_err-print-clause-stops g c =
    let some : 0 < length c.batches.left.rest.now = search rules in
    let ids : c.deref-in-batches.result.now ≡ c.batches.answers.letters = search rules in
    let sent = c.in_ok-left.ensures.handles in
    let written : c.deref-in-batches-2.result.now ≡ sent_lines sent.0 =
    c.deref-in-batches-2.ensures.value ∙ sent.2.text ∙ ap (λ (t : List ℕ). t ++ sent_lines sent.0) c.batches.invariant.blank in
    passed_on c.from_residual-in_err-print.result c.in_err-print.field-0.0
    (λ fault. Stopped c.args.script.now.text.items c.args.register.now fault (g.W.Write.contents c.args.out.now) (g.W.Write.contents c.print.new.out))
    c.from_residual-in_err-print.ensures.1
    (batch_broken c.args.register.now c.args.script.now.text.items (g.W.Write.contents c.args.out.now) (g.W.Write.contents c.batches.out)
    (g.W.Write.contents c.print.new.out) c.batches.answers.letters
    c.handle_batch.new.answers.letters c.batches.register c.handle_batch.new.register c.batches.left.rest.now
    c.in_ok-left.left.rest.now c.batches.left.before c.in_ok-left.left.before
    sent.0 c.deref-in-batches-2.result.now c.in_err-print.field-0.0 some c.batches.invariant.at
    (subst (λ (i : List (List ℕ)). Handles i c.batches.register (batch_of (lines c.batches.left.rest.now))
    sent.0 c.handle_batch.new.register) ids
    (passed_handles c.args.script.now.lettered (option_map (λ i. i.now) c.ids_for-letters.result) c.deref-in-batches.result.now c.batches.register
    c.handle_batch.new.register (batch_of (lines c.batches.left.rest.now)) sent.0 c.ids_for-letters.ensures sent.1))
    c.in_ok-left.ensures.behind.lines_are c.in_ok-left.ensures.behind.number sent.2.ids written c.in_err-print.ensures.failed c.in_err-print.ensures.front)

pub batches-preserved : goal.batches-preserved
batches-preserved g c =
    let some : 0 < length c.batches.left.rest.now = search rules in
    let ids : c.deref-in-batches.result.now ≡ c.batches.answers.letters = search rules in
    let sent = c.in_ok-left.ensures.handles in
    let written : c.deref-in-batches-2.result.now ≡ sent_lines sent.0 =
    c.deref-in-batches-2.ensures.value ∙ sent.2.text ∙ ap (λ (t : List ℕ). t ++ sent_lines sent.0) c.batches.invariant.blank in
    record {
      at = batch_printed c.args.register.now (lines c.args.script.now.text.items) (g.W.Write.contents c.args.out.now) (g.W.Write.contents c.batches.out)
          (g.W.Write.contents c.print.new.out) c.batches.answers.letters
          c.handle_batch.new.answers.letters c.batches.register c.handle_batch.new.register c.batches.left.rest.now
          c.in_ok-left.left.rest.now c.batches.left.before c.in_ok-left.left.before
          sent.0 c.deref-in-batches-2.result.now some c.batches.invariant.at
          (subst (λ (i : List (List ℕ)). Handles i c.batches.register (batch_of (lines c.batches.left.rest.now))
          sent.0 c.handle_batch.new.register) ids
          (passed_handles c.args.script.now.lettered (option_map (λ i. i.now) c.ids_for-letters.result) c.deref-in-batches.result.now c.batches.register
          c.handle_batch.new.register (batch_of (lines c.batches.left.rest.now)) sent.0 c.ids_for-letters.ensures sent.1))
          c.in_ok-left.ensures.behind.lines_are c.in_ok-left.ensures.behind.number sent.2.ids written c.in_ok-print.ensures.printed;
      plain = λ none. subst (AllByRecursion (HasIds 0)) (sym c.in_ok-left.ensures.behind.lines_are)
          (all_behind (HasIds 0) (lines c.batches.left.rest.now) (c.batches.invariant.plain none));
      none = c.in_ok-left.ensures.none;
      blank = c.clear-in-batches.ensures.items;
    }

pub returns-clause-ran : goal.returns-clause-ran
returns-clause-ran g c =
    let none : length c.batches.left.rest.now ≡ 0 = search rules in
    script_ends c.args.register.now c.args.script.now.text.items (g.W.Write.contents c.args.out.now)
    (g.W.Write.contents c.batches.out) c.batches.answers.letters c.batches.register c.batches.left.rest.now
    c.batches.left.before c.batches.invariant.at (nothing_left c.batches.left.rest.now none)
