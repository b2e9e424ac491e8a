use Rattle.std.proofs.Common.{◌∙◌, refl, ap}
use Rattle.std.specs.Arc.{arc_value}
use Rattle.tidalloc.specs.LiveIds.{unused}
use Rattle.hlrcore.proofs.OpeningLemmas.{ids_begin, none_begun, opens_part}
use Rattle.hlrcore.proofs.parts.ShardParts.of_part.Goals as goal

pub returns-clause-opening : goal.returns-clause-opening
returns-clause-opening c = record {
  shard_is = refl;
  clock = refl;
  records_are = refl;
  none_open = none_begun c.in_ok-dialogues.dialogues c.begin_after.new.self c.args.number _ c.in_ok-dialogues.ensures c.begin_after.ensures;
  no_id_used = ids_begin c.in_ok-dialogues.dialogues c.begin_after.new.self c.args.number _ c.in_ok-dialogues.ensures c.begin_after.ensures
      ∙ ap unused c.first_generation.ensures.value;
  directory_is = refl;
  hlr_is = refl;
}

pub returns-clause-part : goal.returns-clause-part
returns-clause-part c = λ all is.
    opens_part c.args.number c.args.records all c.begin_after.new.self (arc_value c.args.directory) c.args.hlr
    (none_begun c.in_ok-dialogues.dialogues c.begin_after.new.self c.args.number _ c.in_ok-dialogues.ensures c.begin_after.ensures) is
