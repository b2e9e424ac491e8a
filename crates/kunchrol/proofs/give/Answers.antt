use Rattle.std.proofs.Common.{◌≡◌, rules, inr}
use Rattle.std.specs.Prelude.{Some}
use Rattle.kunchrol.proofs.CallLemmas.{takes}
use Rattle.kunchrol.proofs.give.Goals as goal

pub returns-clause-handled : goal.returns-clause-handled
returns-clause-handled c = λ is.
    let before : c.args.handle.now.value ≡ Some c.deref_mut.result.now = search rules in
    let after : c.put.new.self.value ≡ Some c.answer-code.new.register = search rules in
    takes before after (c.answer-code.ensures.handled is)

pub returns-clause-why : goal.returns-clause-why
returns-clause-why c = λ no.
    let before : c.args.handle.now.value ≡ Some c.deref_mut.result.now = search rules in
    inr (c.deref_mut.result.now, before, c.answer-code.ensures.why no)
