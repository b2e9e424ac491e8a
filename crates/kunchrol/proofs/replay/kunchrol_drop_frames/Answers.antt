use Rattle.std.proofs.Common.{◌≡◌, rules}
use Rattle.std.specs.Prelude.{Some}
use Rattle.kunchrol.proofs.replay.kunchrol_drop_frames.Goals as goal

pub returns-clause-dropped : goal.returns-clause-dropped
returns-clause-dropped c = λ _.
    let was = c.deref_mut.result.now in
    let after = c.drop_waiting.new.self in
    let before_is : c.args.handle.now.value ≡ Some was = search rules in
    let after_is : c.put.new.self.value ≡ Some after = search rules in
    record {
      was = was;
      is = after;
      before_is = before_is;
      after_is = after_is;
      none = c.drop_waiting.ensures.none;
      node = c.drop_waiting.ensures.node;
    }
