use Rattle.std.proofs.Common.{◌≡◌, ap, subst, ◌∙◌, length, sym}
use Rattle.std.specs.Prelude.{Some, slice_get}
use Rattle.std.specs.FinMap as map
use Rattle.std.proofs.lemmas.List.{length-map}
use Rattle.hlrcore.specs.Shards.{ShardState}
use Rattle.shardlog.specs.Entries.{raw_entry}
use Rattle.embed.specs.Counts.{IsCountOf}
use Rattle.embed.specs.Registers.{RegisterState}
use Rattle.embed.proofs.register.Register.counts.Goals as goal

pub returns : goal.returns
returns c =
    let l = c.shard_at-shard.result.now in
    let node = c.self.inside.node in
    let P : RegisterState → Type 0 = λ r. IsCountOf r.node c.args.shard c.len.result (length c.entries.result.now) in
    subst P c.self.view_is (record {
      shard = l;
      stands = subst (λ n. slice_get node.shards n ≡ Some l) c.number.ensures.value c.shard_at-shard.ensures.stands;
      dialogues_are =
          c.len.ensures.value ∙ ap (λ d. map.len d.open_ones) c.dialogues.ensures.value
          ∙ ap (λ (s : ShardState). map.len s.dialogues.open_ones) c.state.ensures;
      entries_are = sym (length-map c.entries.result.now raw_entry) ∙ ap length c.entries.ensures.entries;
    })
