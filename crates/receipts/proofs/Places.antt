-- The journal of a shard, among those of all.
use Rattle.std.proofs.Common.{◌≡◌, ℕ, ◌<◌, ◌≤◌, List, length, get_or, refl, sym, ap, ◌∙◌, Option, Some, None, Bor}
use Rattle.std.specs.Prelude.{option_map, slice_get}
use Rattle.std.specs.Option.{option_copied}
use Rattle.std.proofs.lemmas.List.{length-map}
use Rattle.std.proofs.lemmas.Option.{slice_get-map, slice_get_past, slice_get_read}
use Rattle.frames.specs.Octets.{RawEntry}
use Rattle.frames.specs.Account.{entry_at, in_journal}
use Rattle.shardlog.specs.declared.entry.Entry.{Entry}
use Rattle.shardlog.specs.Entries.{raw_entry, raw_entries}
use Rattle.shardlog.specs.Log.{Log}
use Rattle.receipts.specs.Journals.{journal_list}

abbrev pub entries_of : Log → List RawEntry
entries_of l = l.entries

module _ (logs : List Log) (n : ℕ) where
  pub own : (l : Log) → n < length logs → l ≡ get_or logs n l → slice_get (journal_list logs) n ≡ Some l.entries
  own l low is = slice_get-map entries_of logs n ∙ ap (option_map entries_of) (slice_get_read logs (length logs) n l refl low is)

  pub gone : length logs ≤ n → slice_get (journal_list logs) n ≡ None
  gone over = slice_get-map entries_of logs n ∙ ap (option_map entries_of) (slice_get_past logs n over)

  -- an entry that is found
  pub found : (position : ℕ) (l : Log) (es : List Entry) (o : Option (Bor Entry)) → slice_get logs n ≡ Some l → raw_entries es ≡ l.entries
      → option_copied o ≡ slice_get es position → option_map raw_entry (option_copied o) ≡ entry_at (journal_list logs) n position
  found position l es o at same is =
      ap (option_map raw_entry) is ∙ sym (slice_get-map raw_entry es position) ∙ ap (λ (xs : List RawEntry). slice_get xs position) same
      ∙ sym (ap (λ x. in_journal x position) (slice_get-map entries_of logs n ∙ ap (option_map entries_of) at))

  -- if there is no such shard
  pub nowhere : (position : ℕ) → slice_get logs n ≡ None → None ≡ entry_at (journal_list logs) n position
  nowhere position none = sym (ap (λ x. in_journal x position) (slice_get-map entries_of logs n ∙ ap (option_map entries_of) none))

pub count_of : (es : List Entry) (l : Log) → raw_entries es ≡ l.entries → length es ≡ length l.entries
count_of es l same = sym (length-map es raw_entry) ∙ ap length same
