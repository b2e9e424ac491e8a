use Rattle.machine_laws.proofs.Rising.{rising_map}
use Rattle.machine_laws.proofs.OneByOne.{moves_by_row, other_standing}
use Rattle.machine_laws.proofs.components_follow_the_table.Goals as goal

pub returns-clause-concerned : goal.returns-clause-concerned
returns-clause-concerned g c = λ now offer vs k j x rising h. moves_by_row now offer vs (rising_map vs rising) j k x h

pub returns-clause-others : goal.returns-clause-others
returns-clause-others g c = λ now vs k j h. other_standing now vs k j h
