-- Codes of the machine's dialogues, by which proofs distinguish values.
use Rattle.std.specs.Prelude.{◌≡◌, ◌⊎◌, ℕ, ℤ, List, Bool, true, false, Option, Some, None, refl}
use mathlib.Core.Logic.{inl, inr}
use Rattle.std.specs.Coded.{Coded, code_by, coded×, coded⊎, coded_ℕ, coded_ℤ, coded_bool, coded_list, coded_option}
use Rattle.machine.specs.Received.{Register}
use Rattle.machine.specs.Sent.{CancellationType, UpdateProcedure, SubscriptionWithdraw}
use Rattle.machine.specs.State.{Transaction, Invocation, Kind, Updates, Cancels, Data, Dialogue}
use Rattle.tsl.specs.Transactions.{coded_transaction}
use Rattle.csl.specs.Tables.{coded_invocation}

abbrev pub coded_octets : Coded (List ℕ)
coded_octets = coded_list coded_ℕ

abbrev pub coded_register : Coded Register
coded_register =
    code_by (List ℕ × (List ℕ × Option (List ℕ))) (coded× coded_octets (coded× coded_octets (coded_option coded_octets)))
    (λ r. (r.vlr, (r.msc, r.lmsi))) (λ p. record { vlr = p.0; msc = p.1.0; lmsi = p.1.1 }) (λ _. refl)

abbrev pub is_withdrawal : CancellationType → Bool
is_withdrawal UpdateProcedure = false
is_withdrawal SubscriptionWithdraw = true

abbrev pub cancellation_of : Bool → CancellationType
cancellation_of false = UpdateProcedure
cancellation_of true = SubscriptionWithdraw

abbrev pub cancellation_kept : (why : CancellationType) → cancellation_of (is_withdrawal why) ≡ why
cancellation_kept UpdateProcedure = refl
cancellation_kept SubscriptionWithdraw = refl

-- The data of a kind: of an update, of a cancel, or none.
abbrev pub Held : Type 0
Held = Option ((Register × ℤ) ⊎ (List ℕ × (ℕ × Bool)))

abbrev pub held : Kind → Held
held (Updates register invoke) = Some (inl (register, invoke))
held (Cancels vlr attempt why) = Some (inr (vlr, (attempt, is_withdrawal why)))
held Data = None

abbrev pub kind_holding : Held → Kind
kind_holding (Some (inl p)) = Updates p.0 p.1
kind_holding (Some (inr p)) = Cancels p.0 p.1.0 (cancellation_of p.1.1)
kind_holding None = Data

abbrev pub kind_kept : (kind : Kind) → kind_holding (held kind) ≡ kind
kind_kept (Updates register invoke) = refl
kind_kept (Cancels vlr attempt why) = λ i. Cancels vlr attempt (cancellation_kept why i)
kind_kept Data = refl

abbrev pub coded_kind : Coded Kind
coded_kind =
    code_by Held (coded_option (coded⊎ (coded× coded_register coded_ℤ) (coded× coded_octets (coded× coded_ℕ coded_bool))))
    held kind_holding kind_kept

abbrev pub coded_dialogue : Coded Dialogue
coded_dialogue =
    code_by (List ℕ × (Transaction × (List Invocation × Kind)))
    (coded× coded_octets (coded× coded_transaction (coded× (coded_list coded_invocation) coded_kind)))
    (λ d. (d.subscriber, (d.transaction, (d.invocations, d.kind))))
    (λ p. record { subscriber = p.0; transaction = p.1.0; invocations = p.1.1.0; kind = p.1.1.1 })
    (λ _. refl)
