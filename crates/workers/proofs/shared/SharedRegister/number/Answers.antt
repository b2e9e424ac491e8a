use Rattle.std.proofs.Common.{map, ap}
use Rattle.hlrcore.specs.Events.{raw_event}
use Rattle.workers.proofs.NumberingLemmas.{adds_if}
use Rattle.workers.proofs.shared.SharedRegister.number.Goals as goal

pub returns-clause-adds : goal.returns-clause-adds
returns-clause-adds c =
    adds_if _ (map raw_event c.args.part.now.items) c.self.inside.jobs.items c.args.self.now.jobs c.number_jobs.new.jobs.items c.number_jobs.result
    (ap (λ s. s.jobs) c.self.view_is) c.number_jobs.ensures.adds
