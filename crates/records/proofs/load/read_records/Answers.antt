use Rattle.records.proofs.Readings.{answers_found, answers_only, answers_bad_line, answers_twice, answers_at_bad_line, answers_at_twice}
use Rattle.records.proofs.load.read_records.Goals as goal

pub returns : goal.returns
returns c = record {
  found = answers_found c.args.text.now c.load.result c.load.ensures;
  only = λ f is. answers_only c.args.text.now c.load.result f c.load.ensures is;
  bad_line = λ n e. answers_bad_line c.args.text.now c.load.result n c.load.ensures e;
  twice = λ n e. answers_twice c.args.text.now c.load.result n c.load.ensures e;
  at_bad_line = λ n is. answers_at_bad_line c.args.text.now c.load.result n c.load.ensures is;
  at_twice = λ n is. answers_at_twice c.args.text.now c.load.result n c.load.ensures is;
}
