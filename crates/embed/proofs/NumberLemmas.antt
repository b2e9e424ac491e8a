-- The directory is that of the records, at the beginning and after each event.
use Rattle.std.proofs.Common.{◌≡◌, ℕ, List, [], ◌∷◌, Bool, true, false, cond, Option, Some, None, inl, inr, refl, sym, ap, ◌∙◌, subst}
use Rattle.std.specs.Prelude.{◌↔◌, option_map}
use Rattle.std.specs.FinMap as map
use Rattle.std.specs.List.{AllByRecursion}
use Rattle.std.specs.Ordering.{eq_by_cmp}
use Rattle.std.proofs.lemmas.Bool.{both_ways}
use Rattle.std.proofs.lemmas.Option.{same_Some}
use Rattle.machine.specs.Opening.{opening}
use Rattle.machine.specs.State as machine
use Rattle.machine_laws.specs.Numbers.{msisdn_in, msisdn_of}
use Rattle.machine_laws.proofs.Numbering.{number_stays}
use Rattle.frames.specs.Octets.{RawEntry, RawEvent, StepOctets}
use Rattle.records.specs.File.{AreApart, Contents, Share}
use Rattle.records.specs.Loaded.{by_imsi, by_msisdn, loaded_from}
use Rattle.records.specs.Maps.{DirectoryMap, RecordMap, digits_cmp}
use Rattle.records.specs.Subscriber.{Subscriber}
use Rattle.records.proofs.MapLemmas.{digits_tie, digits_total, same_digits}
use Rattle.smroute.specs.Seen.{machine_subscriber}
use Rattle.hlrcore.specs.Shards.{directory_of, records_of}
use Rattle.shardlog.specs.declared.entry.Epoch.{Epoch}
use Rattle.shardlog.specs.declared.entry.Handled.{Handled}
use Rattle.shardlog.specs.declared.keep.Keep.{Keep}
use Rattle.wholenode.specs.Handling.{Cuts, Runs, Takes}
use Rattle.wholenode.specs.Nodes.{NodeState, whole}
use Rattle.wholenode.specs.Opening.{BeginsWith}
use Rattle.embed.specs.Numbers.{AreNumbered}

-- ---- the numbers of records

-- the MSISDN of the record with this IMSI
abbrev pub number_at : RecordMap → (imsi : List ℕ) → Option (List ℕ)
number_at records imsi = option_map (λ (s : Subscriber). s.msisdn) (map.get records imsi)

pub seen_number : (o : Option Subscriber) → msisdn_of (option_map machine_subscriber o) ≡ option_map (λ (s : Subscriber). s.msisdn) o
seen_number None = refl
seen_number (Some s) = refl

-- ---- records of which no two share an IMSI or an MSISDN

imsi_is_new : (ss : List Subscriber) (s : Subscriber) → AllByRecursion (λ t. ¬ (Share s t)) ss → map.get (by_imsi ss) s.imsi ≡ None
imsi_is_new [] s apart = map.get-empty digits_cmp s.imsi
imsi_is_new (t ∷ ts) s apart =
    map.get-insert digits_total (by_imsi ts) t.imsi t s.imsi
    ∙ by (imsi_is_new ts s apart.1) (eq_by_cmp digits_cmp s.imsi t.imsi) refl
  where
    by : map.get (by_imsi ts) s.imsi ≡ None → (b : Bool) → eq_by_cmp digits_cmp s.imsi t.imsi ≡ b
        → cond b (Some t) (map.get (by_imsi ts) s.imsi) ≡ None
    by none true tie = absurd (apart.0 (inl (same_digits s.imsi t.imsi tie)))
    by none false other = none

msisdn_is_new : (ss : List Subscriber) (s : Subscriber) → AllByRecursion (λ t. ¬ (Share s t)) ss → map.get (by_msisdn ss) s.msisdn ≡ None
msisdn_is_new [] s apart = map.get-empty digits_cmp s.msisdn
msisdn_is_new (t ∷ ts) s apart =
    map.get-insert digits_total (by_msisdn ts) t.msisdn t.imsi s.msisdn
    ∙ by (msisdn_is_new ts s apart.1) (eq_by_cmp digits_cmp s.msisdn t.msisdn) refl
  where
    by : map.get (by_msisdn ts) s.msisdn ≡ None → (b : Bool) → eq_by_cmp digits_cmp s.msisdn t.msisdn ≡ b
        → cond b (Some t.imsi) (map.get (by_msisdn ts) s.msisdn) ≡ None
    by none true tie = absurd (apart.0 (inr (same_digits s.msisdn t.msisdn tie)))
    by none false other = none

-- other digits do not tie
pub untied : (p q : List ℕ) → eq_by_cmp digits_cmp p q ≡ false → p ≡ q → ⊥
untied p q other same = both_ways _ other (subst (λ (z : List ℕ). eq_by_cmp digits_cmp p z ≡ true) same (digits_tie p))

-- their directory has an IMSI under a number exactly if the record has it
pub apart_numbered : (ss : List Subscriber) → AreApart ss → (m x : List ℕ) → (map.get (by_msisdn ss) m ≡ Some x) ↔ (number_at (by_imsi ss) x ≡ Some m)
apart_numbered [] apart m x = (
  λ e. (let none : None ≡ Some x = sym (map.get-empty digits_cmp m) ∙ e in absurd cc),
  λ e. (let none : None ≡ Some m = sym (ap (option_map (λ (s : Subscriber). s.msisdn)) (map.get-empty digits_cmp x)) ∙ e in absurd cc),
)
apart_numbered (s ∷ ss) apart m x =
    let number = λ (o : Option Subscriber). option_map (λ (t : Subscriber). t.msisdn) o in
    let both = go (apart_numbered ss apart.1) (eq_by_cmp digits_cmp m s.msisdn) refl (eq_by_cmp digits_cmp x s.imsi) refl in
    let left = map.get-insert digits_total (by_msisdn ss) s.msisdn s.imsi m in
    let right = ap number (map.get-insert digits_total (by_imsi ss) s.imsi s x) in (
      λ e. right ∙ both.0 (sym left ∙ e),
      λ e. left ∙ both.1 (sym right ∙ e),
    )
  where
    go : ((n y : List ℕ) → (map.get (by_msisdn ss) n ≡ Some y) ↔ (number_at (by_imsi ss) y ≡ Some n)) → (b : Bool)
        → eq_by_cmp digits_cmp m s.msisdn ≡ b → (c : Bool) → eq_by_cmp digits_cmp x s.imsi ≡ c
        → (cond b (Some s.imsi) (map.get (by_msisdn ss) m) ≡ Some x)
        ↔ (option_map (λ (t : Subscriber). t.msisdn) (cond c (Some s) (map.get (by_imsi ss) x)) ≡ Some m)
    go others true tie true also =
        (λ e. ap Some (sym (same_digits m s.msisdn tie)), λ e. ap Some (sym (same_digits x s.imsi also)))
    go others true tie false also = (
      λ e. absurd (untied x s.imsi also (sym (same_Some s.imsi x e))),
      λ e.
          let none = msisdn_is_new ss s apart.0 in
          let found = (others m x).1 e in
          let both : None ≡ Some x = sym none ∙ ap (map.get (by_msisdn ss)) (sym (same_digits m s.msisdn tie)) ∙ found in
          absurd cc,
    )
    go others false tie true also = (
      λ e.
          let none = ap (option_map (λ (t : Subscriber). t.msisdn)) (imsi_is_new ss s apart.0) in
          let found = (others m x).0 e in
          let both : None ≡ Some m = sym none ∙ ap (number_at (by_imsi ss)) (sym (same_digits x s.imsi also)) ∙ found in
          absurd cc,
      λ e. absurd (untied m s.msisdn tie (sym (same_Some s.msisdn m e))),
    )
    go others false tie false also = others m x

-- ---- at the beginning

pub loaded_numbered : (contents : Contents) (node : NodeState) → AreApart contents.records → node.directory ≡ (loaded_from contents).directory
    → ((x : List ℕ) → msisdn_in (whole node.shards) x ≡ number_at (loaded_from contents).records x) → AreNumbered node
loaded_numbered contents node apart directory numbers = λ m x.
    let is = apart_numbered contents.records apart m x in
    let found = ap (λ (d : DirectoryMap). map.get d m) directory in (
      λ e. numbers x ∙ is.0 (sym found ∙ e),
      λ e. found ∙ is.1 (sym (numbers x) ∙ e),
    )

opening_number : (records : RecordMap) (directory : DirectoryMap) (hlr x : List ℕ)
    → msisdn_in (opening (records_of records) (directory_of directory) hlr) x ≡ number_at records x
unfolding opening
opening_number records directory hlr x = seen_number (map.get records x)

pub begins_numbered : (contents : Contents) (keep : Keep) (start : ℕ) (node : NodeState) → AreApart contents.records
    → BeginsWith (loaded_from contents) keep start node → AreNumbered node
begins_numbered contents keep start node apart begins =
    let loaded = loaded_from contents in
    loaded_numbered contents node apart begins.directory_is
    (λ x. ap (λ (S : machine.State). msisdn_in S x) begins.whole_is ∙ opening_number loaded.records loaded.directory loaded.hlr x)

-- ---- after events

stays : (before after : NodeState) → after.directory ≡ before.directory
    → ((x : List ℕ) → msisdn_in (whole after.shards) x ≡ msisdn_in (whole before.shards) x) → AreNumbered before → AreNumbered after
stays before after directory numbers was = λ m x.
    let found = ap (λ (d : DirectoryMap). map.get d m) directory in (
      λ e. numbers x ∙ (was m x).0 (sym found ∙ e),
      λ e. found ∙ (was m x).1 (sym (numbers x) ∙ e),
    )

step_number : (S T : machine.State) (entry : RawEntry) (x : List ℕ) → StepOctets S entry T → msisdn_in T x ≡ msisdn_in S x
step_number S T entry x (said, spells, step) = number_stays S said.event T said.answer x step

pub takes_numbered : (before : NodeState) (raw : RawEvent) (handled : Handled) (after : NodeState) → Takes before raw handled after
    → AreNumbered before → AreNumbered after
takes_numbered before raw handled after takes =
    stays before after (ap (λ (n : NodeState). n.directory) takes.changed)
    (λ x. step_number (whole before.shards) (whole after.shards) takes.handles.entry x takes.step)

pub runs_numbered : (before : NodeState) (raws : List RawEvent) (handled : List Handled) (after : NodeState) → Runs before raws handled after
    → AreNumbered before → AreNumbered after
runs_numbered before [] [] after runs was = subst AreNumbered (sym runs) was
runs_numbered before [] (h ∷ hs) after runs was = absurd runs
runs_numbered before (r ∷ rs) [] after runs was = absurd runs
runs_numbered before (r ∷ rs) (h ∷ hs) after (between, first, rest) was =
    runs_numbered between rs hs after rest (takes_numbered before r h between first was)

pub cuts_numbered : (before : NodeState) (n : ℕ) (epoch : Epoch) (after : NodeState) → Cuts before n epoch after → AreNumbered before
    → AreNumbered after
cuts_numbered before n epoch after cuts =
    stays before after (ap (λ (it : NodeState). it.directory) cuts.changed) (λ x. ap (λ (S : machine.State). msisdn_in S x) cuts.same)
