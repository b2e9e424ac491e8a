-- A shard's part of the state with which the register begins, and its ids.
use Rattle.std.proofs.Common.{◌≡◌, ℕ, List, Bool, true, false, cond, ◌==◌, Option, None, refl, sym, ap, ◌∙◌}
use Rattle.std.specs.FinMap as map
use Rattle.std.specs.Prelude.{option_map}
use Rattle.records.specs.Maps.{RecordMap, DirectoryMap, part_of, shard_of}
use Rattle.machine.specs.Keys as keys
use Rattle.machine.specs.State.{Dialogue}
use Rattle.machine.specs.Opening.{opening}
use Rattle.machine.specs.Parts.{part}
use Rattle.smroute.specs.Seen.{machine_subscriber}
use Rattle.tidalloc.specs.LiveIds.{Supply, unused}
use Rattle.dialogues.specs.Dialogues.{IsFresh, OpenDialogues, beginning_after, dialogues_of}
use Rattle.hlrcore.specs.Shards.{shard_of_fields, records_of, directory_of, state_of}
use Rattle.records.proofs.MapLemmas.{digits_exact}

same_shard : (imsi : List ℕ) → shard_of imsi ≡ keys.shard_of imsi
unfolding shard_of keys.shard_of
same_shard imsi = refl

seen_if : {X Y : Type 0} (f : X → Y) (b : Bool) (o : Option X) → option_map f (cond b o None) ≡ cond b (option_map f o) None
seen_if f true o = refl
seen_if f false o = refl

record_at : (records : RecordMap) (n : ℕ) (x : List ℕ) → records_of (part_of records n) x ≡ cond (keys.shard_of x == n) (records_of records x) None
record_at records n x =
    ap (option_map machine_subscriber) (map.get-retain_keys records (λ imsi. shard_of imsi == n) x
    (λ y tie. ap (λ imsi. shard_of imsi == n) (sym (digits_exact x y tie))))
    ∙ seen_if machine_subscriber (shard_of x == n) (map.get records x)
    ∙ ap (λ k. cond (k == n) (records_of records x) None) (same_shard x)

-- no dialogue is open, and no id was used, where the first ids were moved
same_ones : (d : OpenDialogues) (generation : ℕ) → dialogues_of (beginning_after d generation) ≡ dialogues_of d
unfolding dialogues_of
same_ones d generation = refl

pub none_begun : (d e : OpenDialogues) (n generation : ℕ) → IsFresh n d → e ≡ beginning_after d generation → dialogues_of e ≡ (λ _. None)
none_begun d e n generation fresh is = ap dialogues_of is ∙ same_ones d generation ∙ fresh.none_open

pub ids_begin : (d e : OpenDialogues) (n generation : ℕ) → IsFresh n d → e ≡ beginning_after d generation → e.supply ≡ unused generation
ids_begin d e n generation fresh is =
    ap (λ (x : OpenDialogues). x.supply) is ∙ ap (λ (s : Supply). record s { first = generation }) fresh.never_used

dialogue_at : (b : Bool) → None ≡ cond {A = Option Dialogue} b None None
dialogue_at true = refl
dialogue_at false = refl

pub opens_part : (number : ℕ) (records all : RecordMap) (d : OpenDialogues) (directory : DirectoryMap) (hlr : List ℕ)
    → dialogues_of d ≡ (λ _. None) → records ≡ part_of all number
    → state_of (shard_of_fields number 0 records d directory hlr) ≡ part (opening (records_of all) (directory_of directory) hlr) number
unfolding state_of part opening
opens_part number records all d directory hlr none is_part = λ i. record {
  records = λ x. (ap (λ r. records_of r x) is_part ∙ record_at all number x) i;
  dialogues = λ id. (ap (λ f. f id) none ∙ dialogue_at (keys.shard_of_id id == number)) i;
  clocks = λ n. cond (n == number) 0 0;
  directory = λ msisdn. map.get directory msisdn;
  hlr = hlr;
}
