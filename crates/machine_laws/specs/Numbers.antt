-- Who is a subscriber, and under which number.
use Rattle.std.specs.Prelude.{ℕ, List, Option, option_map}
use Rattle.machine.specs.State.{State, Subscriber}

-- the MSISDN of a record, if there is one
abbrev pub msisdn_of : Option Subscriber → Option (List ℕ)
msisdn_of found = option_map (λ (s : Subscriber). s.msisdn) found

-- the MSISDN of the subscriber with this IMSI
abbrev pub msisdn_in : State → (imsi : List ℕ) → Option (List ℕ)
msisdn_in S imsi = msisdn_of (S.records imsi)
