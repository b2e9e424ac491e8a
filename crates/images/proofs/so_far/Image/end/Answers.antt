use Rattle.std.proofs.Common.{Option, subst}
use Rattle.hlrcore.specs.Shards.{ShardState}
use Rattle.images.specs.Reading.{Ends}
use Rattle.images.specs.Seen.{EndsIf, seen}
use Rattle.images.proofs.NextLemmas.{nothing_there, not_whole}
use Rattle.images.proofs.so_far.Image.end.Goals as goal

pub returns-in_default-end : goal.returns-in_default-end
returns-in_default-end c = λ shards whole.
    not_whole (Ends (seen c.args.self.now)) c.end.result c.in_default-end.not-Some c.end.ensures whole.0 whole.1

pub returns : goal.returns
returns c =
    let E : Option ShardState → Type 0 = λ z. EndsIf (λ (t : ShardState). t) (Ends (seen c.args.self.now)) z in
    let ends : Ends (seen c.args.self.now) c.in-Some-end.whole = subst E c.in-Some-end.is c.end.ensures in
    (c.in-Some-end.whole, ends, nothing_there c.args.self.later.items c.front.result c.in_default.not-Some c.front.ensures.item, c.in_ok-push.ensures.items)
