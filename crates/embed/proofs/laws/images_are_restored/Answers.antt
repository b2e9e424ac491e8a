use Rattle.embed.proofs.SavedLemmas.{goes_on_saved}
use Rattle.embed.proofs.laws.images_are_restored.Goals as goal

pub returns : goal.returns
returns c = λ text contents keep texts again saved file images on.
    goes_on_saved c.args.register.now again text contents keep texts c.law_shards_are_read.ensures.keeps saved file images
    c.law_shards_are_read.ensures.read on
