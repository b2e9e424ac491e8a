use Rattle.std.proofs.lemmas.Int.{to_z-of_z}
use Rattle.csl.proofs.Expiry.{expires}
use Rattle.csl.proofs.invocations.Invocations.expire.Goals as goal

pub returns-clause-due : goal.returns-clause-due
returns-clause-due c =
    let fits = c.in-Some.ensures.fits in
    rw to_z-of_z (expires c.args.self.now c.forget_one.new.self c.args.now c.in-Some.due.id c.in-Some.due.invoke
    _ c.in-Some.ensures.due c.forget_one.ensures.rising (simp to_z-of_z at c.forget_one.ensures.idle))
