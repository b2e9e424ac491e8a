use Rattle.std.proofs.Common.{◌<◌, length, rules, sym, ◌∙◌}
use Rattle.hlr_input.specs.Reading.{are_groups}
use Rattle.hlr_input.proofs.OctetLaws.{groups_bad, groups_more, are_groups-end}
use Rattle.hlr_input.proofs.frame_octets.groups_stand.Goals as goal

pub returns-then-not-stands : goal.returns-then-not-stands
returns-then-not-stands c =
    groups_bad c.args.known c.groups.rest.now c.split_at.result.0.now c.group.result c.stands.result (are_groups c.args.known c.args.text.now)
    (search rules) c.split_at.ensures.front c.group.ensures
    c.stands.ensures (search rules) c.groups.invariant

pub groups-preserved : goal.groups-preserved
groups-preserved c =
    groups_more c.args.known c.groups.rest.now c.split_at.result.0.now c.split_at.result.1.now c.group.result c.stands.result
    (are_groups c.args.known c.args.text.now) (search rules) c.split_at.ensures.front
    c.split_at.ensures.back c.group.ensures c.stands.ensures (search rules) c.groups.invariant

pub returns : goal.returns
returns c = let short : length c.groups.rest.now < 2 = search rules in c.is_empty.ensures ∙ sym (are_groups-end c.args.known c.groups.rest.now short)
    ∙ c.groups.invariant
