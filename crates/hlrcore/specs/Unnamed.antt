-- The plan of an event that names no open dialogue.
use Rattle.std.specs.Prelude.{ℕ, List, Option, option_map}
use Rattle.std.specs.Borrow.{Bor}
use Rattle.records.specs.Subscriber.{Subscriber}
use Rattle.location.specs.declared.outcome.Outcome.{Outcome}
use Rattle.hlrcore.specs.declared.plan.Plan.{Plan}
use Rattle.hlrcore.specs.declared.plan.Named.TheVariants.{Nothing}

-- the IMSI of the record that was found, if one was
abbrev pub known_imsi : Option (Bor Subscriber) → Option (List ℕ)
known_imsi found = option_map (λ f. f.now.imsi) found

-- The plan for this subscriber, with or without a record.
abbrev pub unnamed_plan : (imsi : Option (List ℕ)) → (found : Option (Bor Subscriber)) → (new : List ℕ) → (codes : List ℕ) → Outcome → Plan
unnamed_plan imsi found new codes outcome = record {
  imsi = imsi;
  subject = known_imsi found;
  named = Nothing;
  new = new;
  codes = codes;
  outcome = outcome;
}
