use Rattle.std.proofs.Common.{◌≡◌, ℕ, List, [], ◌∷◌, ◌++◌, Bool, true, false, cond, Some, None, refl, sym, ap, subst, ◌∙◌, arith}
use Rattle.std.specs.Prelude.{Ok, codes as text, option_map, slice_get}
use Rattle.std.specs.Fmt.{digits}
use Rattle.std.specs.FinMap as map
use Rattle.std.specs.Ordering.{eq_by_cmp}
use Rattle.std.proofs.lemmas.List.Sorted.{IsPermutation-refl}
use Rattle.hex.specs.Hex.{decode_pairs, encode_with}
use Rattle.texts.specs.Lines.{lines}
use Rattle.records.specs.File.{Contents, File}
use Rattle.records.specs.Loaded.{by_imsi, loaded_from}
use Rattle.records.specs.Maps.{digits_cmp}
use Rattle.records.specs.Reading.{codes_after, codes_in, contents_of, header_in, prefixes_after, record_of as record_in_line, records_after, register_in, register_of, roam_in, subscriber_from, subscriber_of}
use Rattle.records.specs.Subscriber.{Subscriber, unmarked}
use Rattle.records.specs.Written.{saved_contents}
use Rattle.records.proofs.AgainFiles.{file_again}
use Rattle.records.proofs.FileLaws.{file_found}
use Rattle.records.proofs.MapLemmas.{digits_tie, digits_total}
use Rattle.shardlog.specs.Log.{Log}
use Rattle.audit.specs.Listing.{imsi_of}
use Rattle.audit.specs.Orders.{InOrder}
use Rattle.audit.specs.Saving.{Saves, SavesUnder}
use Rattle.wholenode.specs.Nodes.{NodeState}
use Rattle.embed.specs.Examples as example
use Rattle.embed.specs.Examples.{HasOneRecord, ended}
use Rattle.embed.specs.Images.{IsSaved}
use Rattle.embed.proofs.examples.law_saved_files.Goals as goal

abbrev file : List ℕ
file = ended (text "HLR2 447700900100") ++ ended (text "234150000000001 447700900000 11,2A * - a")

abbrev loaded : Contents
loaded = saved_contents example.hlr (example.marked ∷ [])

is_file : File file loaded
unfolding decode_pairs lines contents_of header_in records_after record_in_line subscriber_of subscriber_from codes_in codes_after roam_in prefixes_after register_in register_of
is_file = file_found _ _ refl

one_in_order : InOrder imsi_of digits_cmp (example.marked ∷ []) (example.marked ∷ [])
one_in_order = record {
  same = IsPermutation-refl (example.marked ∷ []);
  sorted = λ k d low high. absurd (omega (arith, high));
  stable = λ k d lt. refl;
}

-- the record is found under its IMSI alone, and is loaded without the mark
found : (imsi : List ℕ) → map.get (by_imsi (unmarked example.marked ∷ [])) imsi ≡ option_map unmarked (map.get (by_imsi (example.marked ∷ [])) imsi)
found imsi =
    map.get-insert digits_total map.empty example.marked.imsi (unmarked example.marked) imsi
    ∙ by (eq_by_cmp digits_cmp imsi example.marked.imsi)
    ∙ sym (ap (option_map unmarked) (map.get-insert digits_total map.empty example.marked.imsi example.marked imsi))
  where
    by : (b : Bool) → cond b (Some (unmarked example.marked)) (map.get {R = digits_cmp} map.empty imsi)
        ≡ option_map unmarked (cond b (Some example.marked) (map.get {R = digits_cmp} map.empty imsi))
    by true = refl
    by false = map.get-empty digits_cmp imsi ∙ sym (ap (option_map unmarked) (map.get-empty digits_cmp imsi))

module _ (node : NodeState) (first : Log) (others : List Log) (has : HasOneRecord node first others) where
  under : SavesUnder example.hlr node.shards file
  unfolding digits encode_with
  under = record {
    records = example.marked ∷ [];
    ordered = subst (λ (rs : List Subscriber). InOrder imsi_of digits_cmp rs (example.marked ∷ [])) (sym has.records) one_in_order;
    file = refl;
    again = λ apart. is_file;
  }

  saves : Saves node.shards file
  saves =
      let number : first.state.hlr ≡ example.hlr = has.hlr_is 0 first (ap (λ (shards : List Log). slice_get shards 0) has.shards) in
      subst (λ (shards : List Log). Saves shards file) (sym has.shards)
      (subst (λ (h : List ℕ). SavesUnder h (first ∷ others) file) (sym number)
      (subst (λ (shards : List Log). SavesUnder example.hlr shards file) has.shards under))

  is_saved : IsSaved node file
  is_saved = record {
    saves = saves;
    contents = loaded;
    file = is_file;
    has = record {
      directory = sym has.directory;
      records = λ imsi. found imsi ∙ ap (option_map unmarked) (sym (has.record_is imsi));
      hlr = has.hlr_is;
    };
  }

  -- the first line alone is the file of no record
  not_empty : IsSaved node (ended (text "HLR2 447700900100")) → ⊥
  unfolding lines contents_of header_in records_after
  not_empty saved =
      let empty : Contents = record { hlr = example.hlr; records = [] } in
      let read : Ok empty ≡ Ok saved.contents = file_again (ended (text "HLR2 447700900100")) saved.contents saved.file in
      let same : empty ≡ saved.contents = cc in
      let imsi : List ℕ = example.marked.imsi in
      let there : map.get (by_imsi (example.marked ∷ [])) imsi ≡ Some example.marked =
      map.get-insert digits_total map.empty imsi example.marked imsi
      ∙ ap (λ b. cond b (Some example.marked) (map.get {R = digits_cmp} map.empty imsi)) (digits_tie imsi) in
      let none : None ≡ Some (unmarked example.marked) =
      sym (map.get-empty digits_cmp imsi) ∙ ap (λ (c : Contents). map.get (loaded_from c).records imsi) same ∙ saved.has.records imsi
      ∙ ap (option_map unmarked) (has.record_is imsi ∙ there) in
      absurd cc

pub returns : goal.returns
returns c = record { one_record = is_saved; no_record = not_empty }
