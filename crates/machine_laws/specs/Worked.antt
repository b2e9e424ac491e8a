-- The subscribers and the messages of the worked examples.
use Rattle.std.specs.Prelude.{ℕ, ◌-◌, ℤ, pos, List, [], ◌∷◌, map, false, cond, Option, Some, None, codes}
use Rattle.machine.specs.Keys.{same}
use Rattle.machine.specs.declared.numbers.TheConstants.{UPDATE_LOCATION, PURGE_MS, SEND_ROUTING_INFO_FOR_SM}
use Rattle.machine.specs.Received.{Register, Update, Purge, Route, Typed, Number, Component, Invoke, ResultLast, Message, Begin, Continue}
use Rattle.machine.specs.Sent.{Context, SentMessage, Out}
use Rattle.machine.specs.Contexts.{name_of}
use Rattle.machine.specs.State.{Subscriber, State}
use Rattle.machine.specs.Opening.{opening}

-- the digits of a text
abbrev pub digits : List ℕ → List ℕ
digits text = map (λ c. c - 48) text

abbrev pub hlr : List ℕ
hlr = digits (codes "447700900100")

abbrev pub gateway : List ℕ
gateway = digits (codes "447700909999")

-- three registers

abbrev pub vlr_a : List ℕ
vlr_a = digits (codes "447700900011")

abbrev pub vlr_b : List ℕ
vlr_b = digits (codes "447700900012")

abbrev pub vlr_c : List ℕ
vlr_c = digits (codes "447700900013")

abbrev pub at_a : Register
at_a = record { vlr = vlr_a; msc = digits (codes "447700900001"); lmsi = None }

abbrev pub at_b : Register
at_b = record { vlr = vlr_b; msc = digits (codes "447700900002"); lmsi = None }

abbrev pub at_c : Register
at_c = record { vlr = vlr_c; msc = digits (codes "447700900003"); lmsi = None }

-- five subscribers: the first is served by A, the third may roam only at VLR numbers that begin with 4478, and the fifth is
-- in the same shard as the first

abbrev pub first_imsi : List ℕ
first_imsi = digits (codes "234150000000001")

abbrev pub second_imsi : List ℕ
second_imsi = digits (codes "234150000000002")

abbrev pub third_imsi : List ℕ
third_imsi = digits (codes "234150000000003")

abbrev pub fourth_imsi : List ℕ
fourth_imsi = digits (codes "234150000000004")

abbrev pub fifth_imsi : List ℕ
fifth_imsi = digits (codes "234150000000017")

abbrev pub first_msisdn : List ℕ
first_msisdn = digits (codes "447700900000")

abbrev pub second_msisdn : List ℕ
second_msisdn = digits (codes "447700900202")

abbrev pub third_msisdn : List ℕ
third_msisdn = digits (codes "447700900203")

abbrev pub fourth_msisdn : List ℕ
fourth_msisdn = digits (codes "447700900204")

abbrev pub fifth_msisdn : List ℕ
fifth_msisdn = digits (codes "447700900217")

abbrev pub nine_codes : List ℕ
nine_codes = 0x11 ∷ 0x12 ∷ 0x20 ∷ 0x21 ∷ 0x22 ∷ 0x61 ∷ 0x62 ∷ 0x91 ∷ 0x92 ∷ []

abbrev pub subscriber : (msisdn codes : List ℕ) → Option (List (List ℕ)) → Option Register → Subscriber
subscriber msisdn teleservices roam register = record {
  msisdn = msisdn;
  codes = teleservices;
  roam = roam;
  register = register;
  purged = false;
  current = None;
  withdrawn = false;
}

abbrev pub first_record : Subscriber
first_record = subscriber first_msisdn (0x11 ∷ 0x21 ∷ []) None (Some at_a)

abbrev pub second_record : Subscriber
second_record = subscriber second_msisdn nine_codes None None

abbrev pub third_record : Subscriber
third_record = subscriber third_msisdn (0x21 ∷ []) (Some (digits (codes "4478") ∷ [])) None

abbrev pub fourth_record : Subscriber
fourth_record = subscriber fourth_msisdn (0x11 ∷ []) None None

abbrev pub fifth_record : Subscriber
fifth_record = subscriber fifth_msisdn (0x11 ∷ []) None None

abbrev pub records : List ℕ → Option Subscriber
records imsi =
    cond (same imsi first_imsi) (Some first_record)
    (cond (same imsi second_imsi) (Some second_record)
    (cond (same imsi third_imsi) (Some third_record)
    (cond (same imsi fourth_imsi) (Some fourth_record)
    (cond (same imsi fifth_imsi) (Some fifth_record) None))))

abbrev pub directory : List ℕ → Option (List ℕ)
directory msisdn =
    cond (same msisdn first_msisdn) (Some first_imsi)
    (cond (same msisdn second_msisdn) (Some second_imsi)
    (cond (same msisdn third_msisdn) (Some third_imsi)
    (cond (same msisdn fourth_msisdn) (Some fourth_imsi)
    (cond (same msisdn fifth_msisdn) (Some fifth_imsi) None))))

abbrev pub start : State
start = opening records directory hlr

-- messages

-- the originating id of the peers, and local ids of the shards 1, 2 and 3
abbrev pub theirs : List ℕ
theirs = 0 ∷ 0 ∷ 0 ∷ 11 ∷ []

abbrev pub id_a : List ℕ
id_a = 1 ∷ 0 ∷ 16 ∷ 0 ∷ []

abbrev pub id_b : List ℕ
id_b = 1 ∷ 0 ∷ 16 ∷ 1 ∷ []

abbrev pub id_c : List ℕ
id_c = 1 ∷ 0 ∷ 16 ∷ 2 ∷ []

abbrev pub id_d : List ℕ
id_d = 2 ∷ 0 ∷ 16 ∷ 0 ∷ []

abbrev pub id_e : List ℕ
id_e = 3 ∷ 0 ∷ 16 ∷ 0 ∷ []

abbrev pub begin_in : Context → List Component → Message
begin_in context components = Begin theirs (Some (name_of context)) components

abbrev pub continue_to : List ℕ → List Component → Message
continue_to id components = Continue theirs id None components

abbrev pub update_of : List ℕ → Register → Component
update_of imsi register = Invoke (pos 1) None (Number UPDATE_LOCATION) (Some (Typed (Update imsi register)))

abbrev pub purge_of : List ℕ → Option (List ℕ) → Component
purge_of imsi vlr = Invoke (pos 1) None (Number PURGE_MS) (Some (Typed (Purge imsi vlr)))

abbrev pub route_of : List ℕ → Component
route_of msisdn = Invoke (pos 1) None (Number SEND_ROUTING_INFO_FOR_SM) (Some (Typed (Route msisdn)))

abbrev pub result_of : ℤ → Component
result_of id = ResultLast id

-- one message to one address
abbrev pub one : List ℕ → SentMessage → List Out
one to message = record { to = to; message = message } ∷ []
