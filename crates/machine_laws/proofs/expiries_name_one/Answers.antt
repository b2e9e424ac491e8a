use Rattle.machine_laws.proofs.Determined.{same_triple}
use Rattle.machine_laws.proofs.Timing.{not_later}
use Rattle.machine_laws.proofs.expiries_name_one.Goals as goal

pub returns-clause-one : goal.returns-clause-one
returns-clause-one c = λ S n i k a b. let (d, j, v, due, least) = a in let (e, m, w, other, first) = b in
    (same_triple v.deadline i j w.deadline k m (least k e m w other) (first i d j v due)).id

pub returns-clause-which : goal.returns-clause-which
returns-clause-which c = λ S n i k d j v named due. let (e, m, w, first, least) = named in record {
  dialogue = e;
  invoke = m;
  timer = w;
  due = first;
  first = not_later w.deadline v.deadline _ (least k d j v due);
}
