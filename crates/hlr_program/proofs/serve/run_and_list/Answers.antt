use Rattle.std.proofs.Common.{List, subst}
use Rattle.shardlog.specs.Log.{Log}
use Rattle.hlr_program.specs.declared.fault.Fault.TheVariants.{Memory}
use Rattle.hlr_program.specs.Closing.{Closes}
use Rattle.hlr_program.proofs.EndLemmas.{listing_broken, listing_printed, listing_stopped, opens_empty, script_stopped}
use Rattle.hlr_program.proofs.GatherLemmas.{passed_on}
use Rattle.hlr_program.proofs.ListLemmas.{else_on, then_on}
use Rattle.hlr_program.proofs.serve.run_and_list.Goals as goal

pub returns-in_err-run-clause-stops : goal.returns-in_err-run-clause-stops
returns-in_err-run-clause-stops g c =
    passed_on c.from_residual-in_err-run.result c.in_err-run.field-0.0 _ c.from_residual-in_err-run.ensures.1
    (script_stopped c.args.options.now c.args.loaded c.args.script.now.text.items c.in_ok-register.register
    c.workers_for-workers.result c.workers_for-workers.ensures.workers c.in_ok-register.ensures.is_of
    c.in_ok-register.ensures.opens c.requires.sound c.in_err-run.field-0.0 (g.W.Write.contents c.args.out.now)
    (g.W.Write.contents c.run.new.out) c.in_err-run.ensures.stops)

pub returns-in_err-shards-clause-stops : goal.returns-in_err-shards-clause-stops
returns-in_err-shards-clause-stops g c =
    let ran = c.in_ok-run.ensures.ran in
    passed_on c.from_residual-in_err-shards.result c.in_err-shards.field-0.0 _ c.from_residual-in_err-shards.ensures.1
    (listing_stopped c.args.options.now c.args.loaded c.args.script.now.text.items c.in_ok-register.register
    c.workers_for-workers.result c.workers_for-workers.ensures.workers c.in_ok-register.ensures.is_of
    c.in_ok-register.ensures.opens c.requires.sound c.in_err-shards.field-0.0 (g.W.Write.contents c.args.out.now)
    (g.W.Write.contents c.run.new.out) ran.0 c.run.new.register c.in_err-shards.ensures.stops ran.1 ran.2)

pub returns-in_err-text-clause-stops : goal.returns-in_err-text-clause-stops
returns-in_err-text-clause-stops g c =
    let ran = c.in_ok-run.ensures.ran in
    passed_on c.from_residual-in_err-text.result Memory _ c.from_residual-in_err-text.ensures.1
    (listing_stopped c.args.options.now c.args.loaded c.args.script.now.text.items c.in_ok-register.register
    c.workers_for-workers.result c.workers_for-workers.ensures.workers c.in_ok-register.ensures.is_of
    c.in_ok-register.ensures.opens c.requires.sound Memory (g.W.Write.contents c.args.out.now)
    (g.W.Write.contents c.run.new.out) ran.0 c.run.new.register tt ran.1 ran.2)

pub returns-clause-ran : goal.returns-clause-ran
returns-clause-ran g c =
    let ran = c.in_ok-run.ensures.ran in
    let closes : Closes c.args.options.now.list c.args.options.now.save c.in_ok-shards.shards.items c.in_ok-text.text.items =
    subst (λ (ls : List Log). Closes c.args.options.now.list c.args.options.now.save ls c.in_ok-text.text.items) c.deref.ensures.value c.in_ok-text.ensures in
    then_on c.print-printed.result c.print-printed.ensures.printed
    (listing_printed c.args.options.now c.args.loaded c.args.script.now.text.items c.in_ok-register.register
    c.workers_for-workers.result c.workers_for-workers.ensures.workers c.in_ok-register.ensures.is_of
    c.in_ok-register.ensures.opens c.requires.sound (g.W.Write.contents c.args.out.now)
    (g.W.Write.contents c.run.new.out)
    (g.W.Write.contents c.print-printed.new.out) ran.0 c.run.new.register c.in_ok-shards.shards.items c.in_ok-text.text.items c.deref-2.result.now ran.1 ran.2
    c.in_ok-shards.ensures.hands_over closes c.deref-2.ensures.value)

pub returns-clause-stops : goal.returns-clause-stops
returns-clause-stops g c =
    let ran = c.in_ok-run.ensures.ran in
    let closes : Closes c.args.options.now.list c.args.options.now.save c.in_ok-shards.shards.items c.in_ok-text.text.items =
    subst (λ (ls : List Log). Closes c.args.options.now.list c.args.options.now.save ls c.in_ok-text.text.items) c.deref.ensures.value c.in_ok-text.ensures in
    else_on _ _ c.print-printed.result c.print-printed.ensures.failed
    (λ fault output. listing_broken c.args.options.now c.args.loaded c.args.script.now.text.items c.in_ok-register.register
    c.workers_for-workers.result c.workers_for-workers.ensures.workers c.in_ok-register.ensures.is_of
    c.in_ok-register.ensures.opens c.requires.sound fault (g.W.Write.contents c.args.out.now)
    (g.W.Write.contents c.run.new.out)
    (g.W.Write.contents c.print-printed.new.out) ran.0 c.run.new.register c.in_ok-shards.shards.items c.in_ok-text.text.items c.deref-2.result.now ran.1 ran.2
    c.in_ok-shards.ensures.hands_over closes c.deref-2.ensures.value output c.print-printed.ensures.front)

pub run-requires-clause-none : goal.run-requires-clause-none
run-requires-clause-none g c = λ lifetimes lives. opens_empty c.args.options.now.list c.args.loaded c.in_ok-register.register c.in_ok-register.ensures.opens
