use Rattle.std.proofs.Common.{◌≡◌, rules, inr}
use Rattle.std.specs.Prelude.{Some}
use Rattle.kunchrol.proofs.replay.kunchrol_replay.Goals as goal

pub returns-clause-replayed : goal.returns-clause-replayed
returns-clause-replayed c = λ is.
    let was = c.deref_mut.result.now in
    let after = c.replay_text-code.new.register in
    let before_is : c.args.handle.now.value ≡ Some was = search rules in
    let after_is : c.put.new.self.value ≡ Some after = search rules in
    record {
      was = was;
      is = after;
      before_is = before_is;
      after_is = after_is;
      replays = c.replay_text-code.ensures.replayed is;
      used_is = c.replay_text-code.ensures.used is;
    }

pub returns-clause-why : goal.returns-clause-why
returns-clause-why c = λ no.
    let was = c.deref_mut.result.now in
    let after = c.replay_text-code.new.register in
    let before_is : c.args.handle.now.value ≡ Some was = search rules in
    let after_is : c.put.new.self.value ≡ Some after = search rules in
    inr (was, after, before_is, after_is, c.replay_text-code.ensures.why no)
