-- Merges of journals that are accounted for.
use Rattle.std.specs.Prelude.{List}
use Rattle.frames.specs.Octets.{RawEntry}
use Rattle.frames.specs.OctetJournals.{MergesOctets}
use Rattle.frames.specs.Account.{Job, Receipt, Reconciles}
use Rattle.frames_laws.specs.MergedJobs.{IsRunOfJobs}
use Rattle.records.specs.Maps.{DirectoryMap}
use Rattle.shardlog.specs.Log.{Log}
use Rattle.wholenode.specs.Keeping.{AreShards}
use Rattle.wholenode.specs.Nodes.{journals, whole, whole_base}
use Rattle.receipts.specs.Journals.{journal_list}

-- If jobs and receipts account for the journals of sixteen shards, every merge of these is such a run, from the union of the
-- bases to the union of the states.
abbrev pub MergesAreRunsOfJobs : Type 0
MergesAreRunsOfJobs =
    (directory : DirectoryMap) (shards : List Log) (jobs : List Job) (receipts : List Receipt) (merge : List RawEntry)
    → AreShards directory shards → Reconciles (journal_list shards) jobs receipts → MergesOctets (journals shards) merge
    → IsRunOfJobs (whole_base shards) jobs receipts merge (whole shards)
