-- Codes that distinguish entries, and whether they are kept.
use Rattle.std.specs.Prelude.{◌≡◌, ◌⊎◌, ℕ, Bool, true, false, List, Option, Some, None, refl}
use Rattle.std.specs.Coded.{Coded, code_by, coded×, coded⊎, coded_bool, coded_list, coded_option, coded_ℕ}
use mathlib.Core.Logic.{inl, inr}
use Rattle.machine.specs.Events.{Change, Codes, Withdraw}
use Rattle.frames.specs.Octets.{RawEvent, RawFrame, RawClock, RawExpire, RawChange, RawEntry, RawOut}
use Rattle.hlrcore.specs.Frames.{raw_out_code}
use Rattle.shardlog.specs.declared.keep.Keep.{Keep}
use Rattle.shardlog.specs.declared.keep.Keep.TheVariants.{Entries, Nothing}

abbrev pub coded_octets : Coded (List ℕ)
coded_octets = coded_list coded_ℕ

-- the codes, none for a withdrawal
abbrev pub split_change : Change → Option (List ℕ)
split_change (Codes codes) = Some codes
split_change Withdraw = None

abbrev pub join_change : Option (List ℕ) → Change
join_change (Some codes) = Codes codes
join_change None = Withdraw

pub change_again : (c : Change) → join_change (split_change c) ≡ c
change_again (Codes codes) = refl
change_again Withdraw = refl

abbrev pub change_code : Coded Change
change_code = code_by (Option (List ℕ)) (coded_option coded_octets) split_change join_change change_again

-- a frame and its source, a clock value, an expiry, or a change
abbrev pub Parts : Type 0
Parts = (List ℕ × List ℕ) ⊎ ((ℕ × ℕ) ⊎ (ℕ ⊎ (List ℕ × Change)))

abbrev pub split_event : RawEvent → Parts
split_event (RawFrame from octets) = inl (from, octets)
split_event (RawClock shard now) = inr (inl (shard, now))
split_event (RawExpire shard) = inr (inr (inl shard))
split_event (RawChange imsi change) = inr (inr (inr (imsi, change)))

abbrev pub join_event : Parts → RawEvent
join_event (inl frame) = RawFrame frame.0 frame.1
join_event (inr (inl clock)) = RawClock clock.0 clock.1
join_event (inr (inr (inl shard))) = RawExpire shard
join_event (inr (inr (inr changed))) = RawChange changed.0 changed.1

pub event_again : (raw : RawEvent) → join_event (split_event raw) ≡ raw
event_again (RawFrame from octets) = refl
event_again (RawClock shard now) = refl
event_again (RawExpire shard) = refl
event_again (RawChange imsi change) = refl

abbrev pub event_code : Coded RawEvent
event_code =
    code_by Parts (coded⊎ (coded× coded_octets coded_octets) (coded⊎ (coded× coded_ℕ coded_ℕ) (coded⊎ coded_ℕ (coded× coded_octets change_code))))
    split_event join_event event_again

abbrev pub entry_code : Coded RawEntry
entry_code =
    code_by (RawEvent × (Option (List ℕ) × (Option (List ℕ) × List RawOut)))
    (coded× event_code (coded× (coded_option coded_octets) (coded× (coded_option coded_octets) (coded_list raw_out_code))))
    (λ e. (e.event, (e.id, (e.subject, e.outs)))) (λ p. record { event = p.0; id = p.1.0; subject = p.1.1.0; outs = p.1.1.1 }) (λ _. refl)

-- whether entries are kept
abbrev pub are_kept : Keep → Bool
are_kept Entries = true
are_kept Nothing = false

abbrev pub kept_if : Bool → Keep
kept_if true = Entries
kept_if false = Nothing

pub keep_again : (keep : Keep) → kept_if (are_kept keep) ≡ keep
keep_again Entries = refl
keep_again Nothing = refl

abbrev pub keep_code : Coded Keep
keep_code = code_by Bool coded_bool are_kept kept_if keep_again
