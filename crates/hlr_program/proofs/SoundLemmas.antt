-- The state with which a register begins is sound.
use Rattle.std.proofs.Common.{◌≡◌, ℕ, Bool, true, false, List, [], ◌∷◌, refl, sym, ap, subst, ◌∙◌}
use Rattle.std.specs.Prelude.{Option, Some, None, option_map}
use Rattle.std.specs.FinMap as map
use Rattle.machine.specs.Opening.{IsLoaded}
use Rattle.machine.specs.Sound.{Sound}
use Rattle.machine.specs.State as machine
use Rattle.machine_laws.proofs.Openings.{opening_sound}
use Rattle.hlr_types.specs.declared.register.Register.{Register}
use Rattle.records.specs.declared.version.Version.{Version}
use Rattle.records.specs.declared.version.Version.TheVariants.{One, Two}
use Rattle.records.specs.Fresh.{AreFresh, IsFresh}
use Rattle.records.specs.Loaded.{Subscribers, by_imsi}
use Rattle.records.specs.Spelling.{Each, IsRecordLine, IsRegister, MayBeWithdrawn}
use Rattle.records.specs.Subscriber.{Subscriber}
use Rattle.records.proofs.FreshLemmas.{fresh_empty, fresh_insert}
use Rattle.hlrcore.specs.Shards.{directory_of, records_of}
use Rattle.smroute.specs.Seen.{machine_register, machine_subscriber}
use Rattle.hlr_program.specs.Runs.{IsLoadedFrom, opening_of}

-- ---- a line of a records file

not_purged : (field : List ℕ) (r : Option Register) (purged : Bool) → IsRegister field r purged → r ≡ None → purged ≡ false
not_purged field None purged is none = is.1
not_purged field (Some register) purged is none = absurd cc

not_registered : (version : Version) (s : Subscriber) → MayBeWithdrawn version s → s.withdrawn ≡ true → s.register ≡ None
not_registered One s never withdrawn = absurd (cc (sym never ∙ withdrawn))
not_registered Two s left withdrawn = left withdrawn

line_fresh : (version : Version) (line : List ℕ) (s : Subscriber) → IsRecordLine version line s → IsFresh s
line_fresh version line s is = record {
  unmarked = is.no_current;
  purged = not_purged is.register s.register s.purged is.is_register;
  withdrawn = not_registered version s is.may_be_withdrawn;
}

lines_fresh : (version : Version) (ls : List (List ℕ)) (ss : List Subscriber) → Each (IsRecordLine version) ls ss → AreFresh (by_imsi ss)
lines_fresh version [] [] are = fresh_empty
lines_fresh version [] (s ∷ ss) are = absurd are
lines_fresh version (l ∷ ls) [] are = absurd are
lines_fresh version (l ∷ ls) (s ∷ ss) are = fresh_insert (by_imsi ss) s.imsi s (lines_fresh version ls ss are.1) (line_fresh version l s are.0)

-- ---- as records of the machine

unregistered : (r : Option Register) → option_map machine_register r ≡ None → r ≡ None
unregistered None e = refl
unregistered (Some register) e = absurd cc

may_be_loaded : (s : Subscriber) → IsFresh s → IsLoaded (machine_subscriber s)
may_be_loaded s is = record {
  unmarked = is.unmarked;
  purged = λ none. is.purged (unregistered s.register none);
  withdrawn = λ w. ap (option_map machine_register) (is.withdrawn w);
}

found_loaded : (found : Option Subscriber) (s : machine.Subscriber) → ((c : Subscriber) → found ≡ Some c → IsFresh c)
    → option_map machine_subscriber found ≡ Some s → IsLoaded s
found_loaded None s fresh e = absurd cc
found_loaded (Some c) s fresh e = let same : machine_subscriber c ≡ s = cc in subst IsLoaded same (may_be_loaded c (fresh c refl))

-- what is loaded from a records file
pub loaded_sound : (file : List ℕ) (loaded : Subscribers) → IsLoadedFrom file loaded → Sound (opening_of loaded)
loaded_sound file loaded (contents, is_file, same) =
    opening_sound (records_of loaded.records) (directory_of loaded.directory) loaded.hlr (λ x s e. found_loaded (map.get loaded.records x) s (fresh x) e)
  where
    fresh : AreFresh loaded.records
    fresh = subst AreFresh (sym (ap (λ (l : Subscribers). l.records) same))
        (lines_fresh is_file.version is_file.below contents.records is_file.are_lines.are_records)
