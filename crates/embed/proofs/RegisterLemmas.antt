-- What a register's calls leave, from what the node's leave.
use Rattle.std.proofs.Common.{◌≡◌, ℕ, List, [], ◌∷◌, ◌++◌, refl, subst, sym}
use Rattle.std.specs.Prelude.{Result, Ok, Err, IfOk, MatchResult, Option, None, Some, slice_get}
use Rattle.frames.specs.Octets.{RawEvent, RawOut}
use Rattle.records.specs.File.{Contents}
use Rattle.records.specs.Loaded.{Subscribers, loaded_from}
use Rattle.records.specs.declared.fault.RecordsFault.{RecordsFault}
use Rattle.records.specs.declared.fault.RecordsFault.TheVariants.{Memory}
use Rattle.shardlog.specs.declared.entry.Epoch.{Epoch}
use Rattle.shardlog.specs.declared.entry.Handled.{Handled}
use Rattle.shardlog.specs.declared.keep.Keep.{Keep}
use Rattle.shardlog.specs.Log.{Log}
use Rattle.audit.specs.Listing.{ListsDialogues, ListsJournal}
use Rattle.wholenode.specs.Handling.{Cuts, Takes, sent_of}
use Rattle.wholenode.specs.Keeping.{NodeKeeps}
use Rattle.wholenode.specs.Nodes.{NodeState}
use Rattle.wholenode.specs.Opening.{BeginsWith}
use Rattle.restoring.specs.Restoring.{Restores}
use Rattle.wholenode.specs.Ticking.{TicksAll, clocks_from}
use Rattle.embed.specs.Images.{GoesOnFrom}
use Rattle.embed.specs.Journals.{CutsOff, ListsOpen, ListsShard}
use Rattle.embed.specs.Registers.{Answers, Opens, RegisterState, SetsClocks, register}
use Rattle.embed.proofs.KeepingLemmas.{begins_nothing, cuts_nothing, restores_nothing, runs_nothing, takes_nothing}

pub opens : (contents : Contents) (loaded : Subscribers) (keep : Keep) (start : ℕ) (n : NodeState) (waiting : List RawOut) → loaded ≡ loaded_from contents
    → BeginsWith loaded keep start n → NodeKeeps n → waiting ≡ [] → Opens contents keep start (register n waiting None)
opens contents loaded keep start n waiting is begins keeps none = record {
  begins = subst (λ (it : Subscribers). BeginsWith it keep start n) is begins;
  keeps = keeps;
  waiting = none;
  subject = refl;
  nothing = begins_nothing loaded keep start n begins;
}

pub goes_on_from : (contents : Contents) (loaded : Subscribers) (keep : Keep) (image : List ℕ) (n : NodeState) (waiting : List RawOut)
    → loaded ≡ loaded_from contents → Restores loaded keep image n → NodeKeeps n → waiting ≡ []
    → GoesOnFrom contents keep image (register n waiting None)
goes_on_from contents loaded keep image n waiting is restores keeps none = record {
  restores = subst (λ (it : Subscribers). Restores it keep image n) is restores;
  keeps = keeps;
  waiting = none;
  subject = refl;
  nothing = restores_nothing loaded keep image n restores;
}

-- a fault of a records file that is one can only be want of memory
pub only_memory : {T : Type 0} (r : Result T RecordsFault) (fault : RecordsFault) (P : T → Type 0) → r ≡ Err fault → fault ≡ Memory
    → MatchResult r P (λ f. f ≡ Memory)
only_memory {T} r fault P is memory =
    subst (λ (it : Result T RecordsFault). MatchResult it P (λ f. f ≡ Memory)) (sym is) memory

pub answers : (before : RegisterState) (n m : NodeState) (raw : RawEvent) (waited waiting : List RawOut) (was subject : Option (List ℕ)) (handled : Handled)
    → register n waited was ≡ before → Takes n raw handled m → NodeKeeps m → waiting ≡ waited ++ sent_of handled → subject ≡ handled.subject
    → Answers before raw (register m waiting subject)
answers before n m raw waited waiting was subject handled is takes keeps sent about =
    subst (λ (b : RegisterState). Answers b raw (register m waiting subject)) is (record {
      handled = handled;
      takes = takes;
      keeps = keeps;
      waiting = sent;
      subject = about;
      nothing = takes_nothing n raw handled m takes;
    })

pub cuts_off : (before : RegisterState) (n m : NodeState) (place shard : ℕ) (waiting : List RawOut) (subject : Option (List ℕ)) (epoch : Epoch)
    → register n waiting subject ≡ before → place ≡ shard → Cuts n place epoch m → NodeKeeps m → CutsOff before shard (register m waiting subject)
cuts_off before n m place shard waiting subject epoch is same cuts keeps =
    subst (λ (b : RegisterState). CutsOff b shard (register m waiting subject)) is (record {
      epoch = epoch;
      cuts = subst (λ (k : ℕ). Cuts n k epoch m) same cuts;
      keeps = keeps;
      waiting = refl;
      subject = refl;
      nothing = cuts_nothing n place epoch m cuts;
    })

pub sets_clocks : (before : RegisterState) (n m : NodeState) (now : ℕ) (waiting : List RawOut) (was : Option (List ℕ)) → register n waiting was ≡ before
    → TicksAll n now m → NodeKeeps m → SetsClocks before now (register m waiting None)
sets_clocks before n m now waiting was is ticks keeps =
    subst (λ (b : RegisterState). SetsClocks b now (register m waiting None)) is (record {
      ticks = ticks;
      keeps = keeps;
      waiting = refl;
      subject = refl;
      nothing = runs_nothing n (clocks_from 0 16 now) ticks.handled m ticks.runs;
    })

-- the listing of one shard's journal
pub lists_shard : {T F : Type 0} (node : NodeState) (n : ℕ) (l : Log) (lines : T → List ℕ) (r : Result T F)
    → slice_get node.shards n ≡ Some l → IfOk r (λ text. ListsJournal (l ∷ []) (lines text))
    → IfOk r (λ text. ListsShard node n (lines text))
lists_shard node n l lines (Ok text) at h = record { shard = l; stands = at; lists = h }
lists_shard node n l lines (Err e) at h = tt

-- the listing of one shard's open dialogues
pub lists_open : {T F : Type 0} (node : NodeState) (n : ℕ) (l : Log) (lines : T → List ℕ) (r : Result T F)
    → slice_get node.shards n ≡ Some l → IfOk r (λ text. ListsDialogues (l ∷ []) (lines text))
    → IfOk r (λ text. ListsOpen node n (lines text))
lists_open node n l lines (Ok text) at h = record { shard = l; stands = at; lists = h }
lists_open node n l lines (Err e) at h = tt
