-- Jobs and receipts as values, and codes that distinguish them.
use Rattle.std.specs.Prelude.{ℕ, List, Option, refl}
use Rattle.std.specs.Coded.{Coded, code_by, coded×, coded_list, coded_option, coded_ℕ}
use Rattle.frames.specs.Octets.{RawEvent, RawOut}
use Rattle.frames.specs.Account.{Job, Place, Receipt}
use Rattle.hlrcore.specs.Frames.{raw_out_code}
use Rattle.shardlog.specs.Codes.{event_code}

abbrev pub job_of : ℕ → RawEvent → Job
job_of number event = record { number = number; event = event }

abbrev pub place_at : (shard position : ℕ) → List RawOut → Place
place_at shard position outs = record { shard = shard; position = position; outs = outs }

abbrev pub receipt_of : ℕ → Option Place → Receipt
receipt_of job place = record { job = job; place = place }

abbrev pub job_code : Coded Job
job_code = code_by (ℕ × RawEvent) (coded× coded_ℕ event_code) (λ j. (j.number, j.event)) (λ p. job_of p.0 p.1) (λ _. refl)

abbrev pub place_code : Coded Place
place_code =
    code_by (ℕ × (ℕ × List RawOut)) (coded× coded_ℕ (coded× coded_ℕ (coded_list raw_out_code)))
    (λ p. (p.shard, (p.position, p.outs))) (λ p. place_at p.0 p.1.0 p.1.1) (λ _. refl)

abbrev pub receipt_code : Coded Receipt
receipt_code = code_by (ℕ × Option Place) (coded× coded_ℕ (coded_option place_code)) (λ r. (r.job, r.place)) (λ p. receipt_of p.0 p.1) (λ _. refl)
