-- The shards of a register as they begin.
use Rattle.std.proofs.Common.{◌≡◌, ℕ, sym, ap, ◌∙◌}
use Rattle.std.specs.FinMap as map
use Rattle.std.specs.FinMap.{nat_cmp-IsAntisymmetric, slice_cmp-IsAntisymmetric}
use Rattle.hlr_types.specs.Orders.{octets_cmp}
use Rattle.hlr_types.proofs.OrderLemmas.{octets_total}
use Rattle.records.specs.Loaded.{Subscribers}
use Rattle.records.specs.Maps.{part_of}
use Rattle.dialogues.specs.Dialogues.{dialogues_of}
use Rattle.hlrcore.specs.Shards.{IsOpening, ShardState}
use Rattle.images.specs.Beginnings.{beginning}

pub beginning_is : (loaded : Subscribers) (n : ℕ) (s : ShardState) → IsOpening 0 n (part_of loaded.records n) loaded.directory loaded.hlr s
    → s.dialogues.shard ≡ n → s ≡ beginning loaded n
unfolding dialogues_of
beginning_is loaded n s opens own = λ i. record {
  shard = opens.shard_is i;
  clock = opens.clock i;
  records = opens.records_are i;
  dialogues = record { shard = own i; supply = opens.no_id_used i; open_ones = none i };
  directory = opens.directory_is i;
  hlr = opens.hlr_is i;
}
  where
    none : s.dialogues.open_ones ≡ map.empty
    none = map.same_map octets_total (slice_cmp-IsAntisymmetric nat_cmp-IsAntisymmetric) _ _
        (λ q. ap (λ f. f q) opens.none_open ∙ sym (map.get-empty octets_cmp q))
