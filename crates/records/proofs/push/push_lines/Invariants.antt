use Rattle.std.proofs.Common.{◌≡◌, ◌++◌, ◌∷◌, [], take}
use Rattle.std.specs.Prelude.{string_bytes}
use Rattle.std.specs.List.{AllByRecursion, flat_map}
use Rattle.records.specs.declared.version.Version.TheVariants.{Two}
use Rattle.records.specs.Subscriber.{IsRecord}
use Rattle.records.specs.Written.{record_line}
use Rattle.records.proofs.push.push_lines.Given as goal

abbrev pub invariant-loop-subscriber : goal.invariant-loop-subscriber
invariant-loop-subscriber l =
    (string_bytes l.out ≡ string_bytes l.fn.out ++ flat_map (λ s. record_line Two s.now ++ 10 ∷ []) (take l.subscriber-index l.subscribers))
    × AllByRecursion (λ s. IsRecord s.now) (take l.subscriber-index l.subscribers)
