use Rattle.std.proofs.Common.{◌≡◌, ◌<◌, ℕ, length, rules, subst, inr}
use Rattle.std.specs.Prelude.{Some}
use Rattle.embed.specs.Journals.{CutsOff, ListsShard}
use Rattle.kunchrol.specs.Refusals.{RefusesRoom}
use Rattle.kunchrol.proofs.kunchrol_cut.Goals as goal

pub returns-clause-cut : goal.returns-clause-cut
returns-clause-cut c = λ is.
    let was = c.deref_mut.result.now in
    let after = c.cut_journal-code.new.register in
    let before_is : c.args.handle.now.value ≡ Some was = search rules in
    let after_is : c.put.new.self.value ≡ Some after = search rules in
    let shard_is : c.in-Some.shard ≡ c.args.shard = search rules in
    let listed = c.cut_journal-code.ensures.lists is in
    record {
      was = was;
      is = after;
      before_is = before_is;
      after_is = after_is;
      cuts = subst (λ (n : ℕ). CutsOff was n after) shard_is (c.cut_journal-code.ensures.cut is);
      text = listed.0;
      lists = subst (λ (n : ℕ). ListsShard was.node n listed.0) shard_is listed.1;
      writes = listed.2;
    }

pub returns-clause-why : goal.returns-clause-why
returns-clause-why c = λ no.
    let was = c.deref_mut.result.now in
    let buffer = length c.args.buffer.now in
    let len = c.cut_journal-code.new.len in
    let code = c.cut_journal-code.result in
    let before : c.args.handle.now.value ≡ Some was = search rules in
    let shard_is : c.in-Some.shard ≡ c.args.shard = search rules in
    let stands : c.args.shard < 16 = search rules in
    inr (
      stands,
      inr (was, before, subst (λ (n : ℕ). RefusesRoom (ListsShard was.node n) buffer len code) shard_is (c.cut_journal-code.ensures.why no)),
    )
