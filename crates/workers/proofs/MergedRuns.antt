-- A merge of journals that are accounted for is a run of the jobs.
use Rattle.std.proofs.Common.{◌≡◌, ℕ, zero, suc, ◌<◌, List, [], ◌∷◌, length, refl, sym, ap, ◌∙◌, arith, Some}
use Rattle.std.specs.Prelude.{option_map, slice_get}
use Rattle.std.proofs.lemmas.List.{length-map}
use Rattle.std.proofs.lemmas.Option.{slice_get-map}
use Rattle.shardlog.specs.Log.{Log}
use Rattle.wholenode.specs.Nodes.{journal_at, journals}
use Rattle.wholenode.proofs.WholeLemmas.{journals_merge}
use Rattle.receipts.specs.Journals.{journal_list}
use Rattle.workers.specs.Merged.{MergesAreRunsOfJobs}
use Rattle.receipts.proofs.Places.{entries_of}
use Rattle.frames_laws.proofs.MergedJobs.{merged_jobs}

there : {X : Type 0} (xs : List X) (n : ℕ) → n < length xs → (x : X) × (slice_get xs n ≡ Some x)
there [] n low = absurd (omega (arith, low))
there (x ∷ xs) zero low = (x, refl)
there (x ∷ xs) (suc n) low = there xs n (omega (arith, low))

-- the journal of a shard, in the list of all
journal_there : (shards : List Log) (n : ℕ) → n < length shards → slice_get (journal_list shards) n ≡ Some (journals shards n)
journal_there shards n low =
    let found = there shards n low in
    slice_get-map entries_of shards n ∙ ap (option_map entries_of) found.1 ∙ ap Some (sym (ap journal_at found.1))

pub merges_are_runs_of_jobs : MergesAreRunsOfJobs
merges_are_runs_of_jobs directory shards jobs receipts merge are account merges = record {
  run = journals_merge directory shards merge are merges;
  jobs_are = merged_jobs (journals shards) (journal_list shards) jobs receipts merge (length-map shards entries_of ∙ are.count)
      (λ n low. journal_there shards n (omega (arith, are.count, low))) account merges;
}
