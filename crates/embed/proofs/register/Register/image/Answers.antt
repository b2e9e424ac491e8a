use Rattle.std.proofs.Common.{◌≡◌, ◌++◌, ap, subst, ◌∙◌}
use Rattle.std.specs.Prelude.{Some, slice_get, string_bytes}
use Rattle.std.specs.List.{AllByRecursion}
use Rattle.hlrcore.specs.Shards.{ShardState}
use Rattle.image_lines.specs.Lines.{IsLine}
use Rattle.images.specs.Written.{shard_lines, shard_text}
use Rattle.embed.specs.Images.{IsImageOf}
use Rattle.embed.specs.Registers.{RegisterState}
use Rattle.embed.proofs.register.Register.image.Goals as goal

pub returns : goal.returns
returns c =
    let l = c.shard_at-shard.result.now in
    let node = c.self.inside.node in
    let P : RegisterState → Type 0 = λ r. IsImageOf r.node c.args.shard (string_bytes c.write_shard.new.text) in
    let Q : ShardState → Type 0 = λ s. AllByRecursion IsLine (shard_lines s) in
    subst P c.self.view_is (record {
      shard = l;
      stands = subst (λ n. slice_get node.shards n ≡ Some l) c.number.ensures.value c.shard_at-shard.ensures.stands;
      text_is =
          c.in_ok-write_shard.ensures.text ∙ ap (λ z. z ++ shard_text c.state.result.now) c.new-image.ensures.bytes
          ∙ ap shard_text c.state.ensures;
      lines = subst Q c.state.ensures c.in_ok-write_shard.ensures.lines;
    })
