use Rattle.machine_laws.proofs.Unions.{union_of_parts, parts_of_union}
use Rattle.machine_laws.proofs.Merging.{union_goes}
use Rattle.machine_laws.proofs.unions_have_parts.Goals as goal

pub returns-clause-whole : goal.returns-clause-whole
returns-clause-whole c = λ S sound late. union_of_parts S sound late

pub returns-clause-parts : goal.returns-clause-parts
returns-clause-parts c = λ states n sounds directories hlrs small is_part. parts_of_union states n sounds directories hlrs small is_part

pub returns-clause-sound : goal.returns-clause-sound
returns-clause-sound c = λ states sounds directories hlrs. (union_goes states sounds directories hlrs).sound
