use Rattle.std.proofs.Common.{◌≡◌, rules, inr}
use Rattle.std.specs.Prelude.{Some}
use Rattle.kunchrol.proofs.kunchrol_next.Goals as goal

pub returns-clause-sent : goal.returns-clause-sent
returns-clause-sent c = λ is.
    let before : c.args.handle.now.value ≡ Some c.deref_mut.result.now = search rules in
    let after : c.put.new.self.value ≡ Some c.next_frame-code.new.register = search rules in
    let sent = c.next_frame-code.ensures.sent is in
    record {
      was = c.deref_mut.result.now;
      is = c.next_frame-code.new.register;
      before_is = before;
      after_is = after;
      out = sent.0;
      first = sent.1;
      rest = c.next_frame-code.ensures.rest is;
      node = c.next_frame-code.ensures.node;
      to_len_is = sent.2;
      to_is = sent.3;
      octets_len_is = sent.4;
      octets_is = sent.5;
    }

pub returns-clause-why : goal.returns-clause-why
returns-clause-why c = λ no.
    let before : c.args.handle.now.value ≡ Some c.deref_mut.result.now = search rules in
    inr (c.deref_mut.result.now, before, c.next_frame-code.ensures.why no)
