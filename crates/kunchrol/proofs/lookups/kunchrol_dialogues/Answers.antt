use Rattle.std.proofs.Common.{◌≡◌, ◌<◌, ℕ, length, rules, subst, inr}
use Rattle.std.specs.Prelude.{Some}
use Rattle.embed.specs.Journals.{ListsOpen}
use Rattle.kunchrol.specs.Refusals.{RefusesRoom}
use Rattle.kunchrol.proofs.lookups.kunchrol_dialogues.Goals as goal

pub returns-clause-listed : goal.returns-clause-listed
returns-clause-listed c = λ is.
    let was = c.deref.result.now in
    let before : c.args.handle.now.value ≡ Some was = search rules in
    let shard_is : c.in-Some.shard ≡ c.args.shard = search rules in
    let listed = c.list_dialogues-code.ensures.listed is in
    record {
      is = was;
      held_is = before;
      text = listed.0;
      lists = subst (λ (n : ℕ). ListsOpen was.node n listed.0) shard_is listed.1;
      writes = listed.2;
    }

pub returns-clause-why : goal.returns-clause-why
returns-clause-why c = λ no.
    let was = c.deref.result.now in
    let buffer = length c.args.buffer.now in
    let len = c.list_dialogues-code.new.len in
    let code = c.list_dialogues-code.result in
    let before : c.args.handle.now.value ≡ Some was = search rules in
    let shard_is : c.in-Some.shard ≡ c.args.shard = search rules in
    let stands : c.args.shard < 16 = search rules in
    inr (
      stands,
      inr (was, before, subst (λ (n : ℕ). RefusesRoom (ListsOpen was.node n) buffer len code) shard_is (c.list_dialogues-code.ensures.why no)),
    )
