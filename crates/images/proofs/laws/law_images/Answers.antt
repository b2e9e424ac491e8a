use Rattle.images.specs.Written.{image_text}
use Rattle.images.proofs.AgainLemmas.{image_of, one_image}
use Rattle.images.proofs.laws.law_images.Goals as goal

pub returns-clause-image : goal.returns-clause-image
returns-clause-image c = image_of

pub returns-clause-alone : goal.returns-clause-alone
returns-clause-alone c = λ shards begin others again is. one_image (image_text shards) begin shards others (image_of shards begin again) is
