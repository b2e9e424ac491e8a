use Rattle.std.proofs.Common.{◌≡◌, Some, ap, sym, ◌∙◌}
use Rattle.machine.specs.Expiries.{current_register}
use Rattle.machine.specs.State.{local_of}
use Rattle.records.specs.Subscriber.{Subscriber}
use Rattle.hlrcore.specs.Shards.{state_of}
use Rattle.hlrcore.proofs.ExpiryLemmas.{current_is}
use Rattle.hlrcore.proofs.expiry.current_register.Goals as goal

pub returns : goal.returns
returns c =
    let s = c.args.shard.now in
    let imsi = c.args.imsi.now in
    let marked : c.in_ok-subscriber.field-0.now.current ≡ Some c.in_ok-current.current =
    sym (ap (λ (x : Subscriber). x.current) c.branch.view_is) ∙ c.in_ok-current.was in
    rw c.in_ok-subscriber.was (
    ap (current_register (local_of (state_of s) s.shard imsi)) marked
    ∙ current_is s imsi c.in_ok-current.current c.dialogues.result.now c.get.result
    c.register_of.result c.dialogues.ensures.value c.get.ensures c.register_of.ensures
    )
