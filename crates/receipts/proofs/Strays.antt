-- Entries that no receipt names.
use Rattle.std.proofs.Common.{◌≡◌, ℕ, ◌<◌, ◌≤◌, List, [], ◌∷◌, length, get_or, sym, ap, ◌∙◌, arith, Some, None, ⊎_elim}
use Rattle.std.specs.Prelude.{count_by, slice_get}
use Rattle.std.proofs.lemmas.Option.{slice_get_cases, slice_get_within, slice_get-get_or}
use Rattle.frames.specs.Octets.{RawEntry}
use Rattle.frames.specs.Account.{Receipt, IsStray, NoStray, in_journal, names_place}
use Rattle.shardlog.specs.Log.{Log}
use Rattle.receipts.specs.Journals.{journal_list}
use Rattle.receipts.specs.Least.{HasStray}
use Rattle.receipts.proofs.Places.{own, gone}

there : (entries : List RawEntry) (k : ℕ) → k < length entries → (e : RawEntry) × (slice_get entries k ≡ Some e)
there [] k low = absurd (omega arith)
there (e ∷ es) k low = (get_or (e ∷ es) k e, slice_get-get_or (e ∷ es) k e low)

module _ (logs : List Log) (receipts : List Receipt) (n : ℕ) where
  -- a shard's entry that is not named is stray
  pub stray : (l : Log) → n < length logs → l ≡ get_or logs n l → (k : ℕ) × (k < length l.entries) × (count_by (names_place n k) receipts ≡ 0)
      → HasStray (journal_list logs) receipts
  stray l low is h =
      let at = there l.entries h.0 h.1 in
      (n, h.0, record { entry = at.0; stands = ap (λ o. in_journal o h.0) (own logs n l low is) ∙ at.1; unnamed = h.2 })

  -- if each entry of a shard is named, none is stray
  pub named : (l : Log) → n < length logs → l ≡ get_or logs n l → ((k : ℕ) → k < length l.entries → 0 < count_by (names_place n k) receipts)
      → (position : ℕ) → IsStray (journal_list logs) receipts n position → ⊥
  named l low is all position s =
      let at : slice_get l.entries position ≡ Some s.entry = ap (λ o. in_journal o position) (sym (own logs n l low is)) ∙ s.stands in
      let some = all position (slice_get_within l.entries position s.entry at) in let none = s.unnamed in omega arith

  -- there is nothing past the last shard
  past : (position : ℕ) → length logs ≤ n → IsStray (journal_list logs) receipts n position → ⊥
  past position over s = let e : None ≡ Some s.entry = ap (λ o. in_journal o position) (sym (gone logs n over)) ∙ s.stands in cc

-- if no shard has a stray entry, there is none
pub nowhere : (logs : List Log) (receipts : List Receipt) (n : ℕ) → length logs ≤ n
    → ((k position : ℕ) → k < n → IsStray (journal_list logs) receipts k position → ⊥) → NoStray (journal_list logs) receipts
nowhere logs receipts n all none shard position s =
    ⊎_elim (λ here. let low = here.1 in none shard position (omega arith) s) (λ over. past logs receipts shard position over.0 s) (slice_get_cases logs shard).1
