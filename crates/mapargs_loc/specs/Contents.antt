-- The contents of the elements of an argument, as those of the definitions.
use Rattle.std.specs.Prelude.{option_map}
use Rattle.frames.specs.Arguments.{UpdateContents, PurgeContents}
use Rattle.mapargs_loc.specs.declared.update.UpdateOctets.{UpdateOctets}
use Rattle.mapargs_loc.specs.declared.purge.PurgeOctets.{PurgeOctets}

abbrev pub update_contents : UpdateOctets → UpdateContents
update_contents c = record { imsi = c.imsi.now; msc = c.msc.now; vlr = c.vlr.now; lmsi = option_map (λ l. l.now) c.lmsi }

abbrev pub purge_contents : PurgeOctets → PurgeContents
purge_contents c = record { imsi = c.imsi.now; vlr = option_map (λ v. v.now) c.vlr }
