-- What a line reads to is what it is written for, and is read from it.
use Rattle.std.proofs.Common.{◌≡◌, ℕ, Bool, true, false, cond, List, [], ◌∷◌, refl, sym, ap, subst, ◌∙◌, arith, inl, inr}
use Rattle.std.specs.Prelude.{◌⊎◌, Option, Some, None, IfSome, option_map, codes}
use Rattle.std.specs.Fmt.{decimal, signed_decimal}
use Rattle.std.specs.List.{join_with_byte}
use Rattle.std.proofs.lemmas.Option.{cond_some}
use Rattle.hex.specs.Hex.{encode_upper}
use Rattle.hlr_types.specs.DigitTexts.{digits_in, text_of}
use Rattle.texts.specs.Lines.{parts}
use Rattle.machine.specs.declared.numbers.TheConstants.{MAX_CLOCK}
use Rattle.machine.specs.State.{Dialogue, Invocation}
use Rattle.records.specs.Reading.{imsi_in, is_text}
use Rattle.records.proofs.FieldLaws.{bind_some, is_text_true, joined_again, number_found}
use Rattle.records.proofs.LineLaws.{imsi_found}
use Rattle.records.proofs.AgainFields.{imsi_again, parts-join}
use Rattle.image_lines.specs.Lines.{AreFour, IsLine, IsOpened, Line, Shard, Used, Freed, Opened, Waits, End, dialogue_fields, fields, kind_fields, line_text, mark_text, octets_text, was_text}
use Rattle.image_lines.specs.Reading.{Said, decimal_in, dialogue_in, end_in, first_of, id_in, kind_in, line_by, line_from, line_in, mark_in, octets_in, only_of, opened_in, remote_in, shard_in, signed_in, up_to, waits_in, was_in}
use Rattle.image_lines.specs.declared.line.Line as code
use Rattle.image_lines.specs.Examples.{IsNone}
use Rattle.image_lines.specs.Seen.{line_of}
use Rattle.image_lines.proofs.NumberLemmas.{decimal_again, decimal_found, up_to_found}
use Rattle.image_lines.proofs.SignedLemmas.{signed_again, signed_found}
use Rattle.image_lines.proofs.OctetLemmas.{four_again, four_found, remote_again, remote_found}
use Rattle.image_lines.proofs.WordLemmas.{first_found, mark_again, mark_found, only_found, was_again, was_found}
use Rattle.image_lines.proofs.KindLaws.{digits_read, few_read, kind_again, kind_found, three_parts}
use Rattle.image_lines.proofs.LackLemmas.{fields_lack}

some_same : {A : Type 0} (x y : A) → Some x ≡ Some y → x ≡ y
some_same x y e = cc

-- the fields of a line, and what holds of it
record Found (ps : List (List ℕ)) (line : Line) : Type 0 where
  are : ps ≡ fields line
  is : IsLine line

after : (letter : List ℕ) (ps qs : List (List ℕ)) → ps ≡ qs → letter ∷ ps ≡ letter ∷ qs
after letter ps qs e = ap (λ (xs : List (List ℕ)). letter ∷ xs) e

shard_found : (ps : List (List ℕ)) (line : Line) → shard_in ps ≡ Some line → Found (codes "S1" ∷ ps) line
unfolding shard_in
shard_found ps line e =
    let a = bind_some (first_of ps) _ line e in
    let b = bind_some (first_of a.0.1) _ line a.2 in
    let c = bind_some (only_of b.0.1) _ line b.2 in
    let s = bind_some (up_to 15 a.0.0) _ line c.2 in
    let t = bind_some (up_to MAX_CLOCK b.0.0) _ line s.2 in
    let f = bind_some (up_to 4095 c.0) _ line t.2 in
    let shard = up_to_found 15 a.0.0 s.0 s.1 in
    let clock = up_to_found MAX_CLOCK b.0.0 t.0 t.1 in
    let first = up_to_found 4095 c.0 f.0 f.1 in
    let few = shard.1 in
    let most = first.1 in
    subst (Found (codes "S1" ∷ ps)) (some_same (Shard s.0 t.0 f.0) line f.2) (record {
      are = after (codes "S1") ps _ (three_parts ps a.0.1 b.0.1 a.0.0 b.0.0 c.0 (decimal s.0) (decimal t.0) (decimal f.0)
          (first_found ps a.0 a.1) (first_found a.0.1 b.0 b.1) (only_found b.0.1 c.0 c.1) shard.0 clock.0 first.0);
      is = record { number = omega (arith, few); ticks = clock.1; generation = omega (arith, most) };
    })

waits_found : (ps : List (List ℕ)) (line : Line) → waits_in ps ≡ Some line → Found (codes "I" ∷ ps) line
unfolding waits_in
waits_found ps line e =
    let a = bind_some (first_of ps) _ line e in
    let b = bind_some (first_of a.0.1) _ line a.2 in
    let c = bind_some (only_of b.0.1) _ line b.2 in
    let i = bind_some (signed_in a.0.0) _ line c.2 in
    let w = bind_some (was_in b.0.0) _ line i.2 in
    let d = bind_some (decimal_in c.0) _ line w.2 in
    let invocation : Invocation = record { id = i.0; was = w.0; deadline = d.0 } in
    let invoke = signed_found a.0.0 i.0 i.1 in
    let deadline = decimal_found c.0 d.0 d.1 in
    subst (Found (codes "I" ∷ ps)) (some_same (Waits invocation) line d.2) (record {
      are = after (codes "I") ps _ (three_parts ps a.0.1 b.0.1 a.0.0 b.0.0 c.0 (signed_decimal i.0) (was_text w.0) (decimal d.0)
          (first_found ps a.0 a.1) (first_found a.0.1 b.0 b.1) (only_found b.0.1 c.0 c.1) invoke.0 (was_found b.0.0 w.0 w.1) deadline.0);
      is = (invoke.1, deadline.1);
    })

id_found : (ps : List (List ℕ)) (id : List ℕ) → id_in ps ≡ Some id → (ps ≡ encode_upper id ∷ []) × AreFour id
unfolding id_in
id_found ps id e =
    let a = bind_some (only_of ps) _ id e in
    let f = four_found a.0 id a.2 in
    (only_found ps a.0 a.1 ∙ ap (λ (w : List ℕ). w ∷ []) f.0, f.1)

map_some : {A B : Type 0} (f : A → B) (o : Option A) (y : B) → option_map f o ≡ Some y → (x : A) × (o ≡ Some x) × (f x ≡ y)
map_some f None y e = absurd cc
map_some f (Some x) y e = (x, refl, cc)

used_found : (ps : List (List ℕ)) (line : Line) → option_map (λ id. Used id) (id_in ps) ≡ Some line → Found (codes "T" ∷ ps) line
used_found ps line e =
    let m = map_some (λ (id : List ℕ). Used id) (id_in ps) line e in
    let f = id_found ps m.0 m.1 in
    subst (Found (codes "T" ∷ ps)) m.2 (record { are = after (codes "T") ps _ f.0; is = f.1 })

freed_found : (ps : List (List ℕ)) (line : Line) → option_map (λ id. Freed id) (id_in ps) ≡ Some line → Found (codes "F" ∷ ps) line
freed_found ps line e =
    let m = map_some (λ (id : List ℕ). Freed id) (id_in ps) line e in
    let f = id_found ps m.0 m.1 in
    subst (Found (codes "F" ∷ ps)) m.2 (record { are = after (codes "F") ps _ f.0; is = f.1 })

-- ---- open dialogues

five_parts : (ps r1 r2 r3 r4 s : List (List ℕ)) (a b c d a1 b1 c1 d1 : List ℕ) → ps ≡ a ∷ r1 → r1 ≡ b ∷ r2 → r2 ≡ c ∷ r3 → r3 ≡ d ∷ r4 → r4 ≡ s
    → a ≡ a1 → b ≡ b1 → c ≡ c1 → d ≡ d1 → ps ≡ a1 ∷ b1 ∷ c1 ∷ d1 ∷ s
five_parts ps r1 r2 r3 r4 s a b c d a1 b1 c1 d1 e1 e2 e3 e4 e5 ea eb ec ed = rw (e1, e2, e3, e4, e5, ea, eb, ec, ed) refl

record DialogueFound (ps : List (List ℕ)) (said : Said) : Type 0 where
  are : ps ≡ dialogue_fields said.0 said.1
  is : IsOpened said.1

dialogue_found : (ps : List (List ℕ)) (said : Said) → dialogue_in ps ≡ Some said → DialogueFound ps said
unfolding dialogue_in
dialogue_found ps said e =
    let a = bind_some (first_of ps) _ said e in
    let b = bind_some (first_of a.0.1) _ said a.2 in
    let c = bind_some (first_of b.0.1) _ said b.2 in
    let d = bind_some (first_of c.0.1) _ said c.2 in
    let s = bind_some (imsi_in a.0.0) _ said d.2 in
    let p = bind_some (digits_in b.0.0) _ said s.2 in
    let r = bind_some (remote_in c.0.0) _ said p.2 in
    let m = bind_some (mark_in d.0.0) _ said r.2 in
    let k = bind_some (kind_in d.0.1) _ said m.2 in
    let dialogue : Dialogue = record { subscriber = s.0; transaction = record { peer = p.0; remote = r.0 }; invocations = []; kind = k.0 } in
    let subscriber = imsi_found a.0.0 s.0 s.1 in
    let peer = number_found b.0.0 p.0 p.1 in
    let remote = remote_found c.0.0 r.0 r.1 in
    let kind = kind_found d.0.1 k.0 k.1 in
    subst (DialogueFound ps) (some_same (m.0, dialogue) said k.2) (record {
      are = five_parts ps a.0.1 b.0.1 c.0.1 d.0.1 (kind_fields k.0) a.0.0 b.0.0 c.0.0 d.0.0
          (text_of s.0) (text_of p.0) (octets_text r.0) (mark_text m.0)
          (first_found ps a.0 a.1) (first_found a.0.1 b.0 b.1) (first_found b.0.1 c.0 c.1) (first_found c.0.1 d.0 d.1) kind.0
          subscriber.0.0 peer.0 remote.0 (mark_found d.0.0 m.0 m.1);
      is = record {
        digits = subscriber.0.1;
        imsi = subscriber.1;
        peer = peer.1;
        remote = remote.1;
        no_invocations = refl;
        kind = kind.1;
      };
    })

opened_found : (ps : List (List ℕ)) (line : Line) → opened_in ps ≡ Some line → Found (codes "D" ∷ ps) line
unfolding opened_in
opened_found ps line e =
    let a = bind_some (first_of ps) _ line e in
    let i = bind_some (octets_in 4 a.0.0) _ line a.2 in
    let d = bind_some (dialogue_in a.0.1) _ line i.2 in
    let id = four_found a.0.0 i.0 i.1 in
    let dialogue = dialogue_found a.0.1 d.0 d.1 in
    let whole : ps ≡ encode_upper i.0 ∷ dialogue_fields d.0.0 d.0.1 =
    first_found ps a.0 a.1 ∙ ap (λ (w : List ℕ). w ∷ a.0.1) id.0 ∙ after (encode_upper i.0) a.0.1 _ dialogue.are in
    subst (Found (codes "D" ∷ ps)) (some_same (Opened i.0 d.0.0 d.0.1) line d.2) (record { are = after (codes "D") ps _ whole; is = (id.1, dialogue.is) })

-- ---- a line by its first field

chosen_or : (b : Bool) (o p : Option Line) (line : Line) → cond b o p ≡ Some line → ((b ≡ true) × (o ≡ Some line)) ⊎ ((b ≡ false) × (p ≡ Some line))
chosen_or true o p line e = inl (refl, e)
chosen_or false o p line e = inr (refl, e)

-- the reading of one letter, or that of the letters after it
choice : (word letter : List ℕ) (ps : List (List ℕ)) (o p : Option Line) (line : Line)
    → (o ≡ Some line → Found (letter ∷ ps) line) → (p ≡ Some line → Found (word ∷ ps) line) → cond (is_text word letter) o p ≡ Some line → Found (word ∷ ps) line
choice word letter ps o p line this others e =
    elim (chosen_or (is_text word letter) o p line e) [
      | inl q ↦ subst (λ (w : List ℕ). Found (w ∷ ps) line) (sym (is_text_true word letter q.0)) (this q.1)
      | inr q ↦ others q.1
    ]

none_found : (ps : List (List ℕ)) (line : Line) → None ≡ Some line → Found ps line
none_found ps line e = absurd cc

by_found : (word : List ℕ) (ps : List (List ℕ)) (line : Line) → line_by word ps ≡ Some line → Found (word ∷ ps) line
unfolding line_by
by_found word ps line e =
    choice word (codes "S1") ps _ _ line (shard_found ps line)
    (choice word (codes "T") ps _ _ line (used_found ps line)
    (choice word (codes "F") ps _ _ line (freed_found ps line)
    (choice word (codes "D") ps _ _ line (opened_found ps line)
    (choice word (codes "I") ps _ _ line (waits_found ps line) (none_found (word ∷ ps) line))))) e

end_found : (ps : List (List ℕ)) (line : Line) → end_in ps ≡ Some line → Found ps line
unfolding end_in
end_found ps line e =
    let a = bind_some (only_of ps) _ line e in
    let p = cond_some (is_text a.0 (codes "E")) End line a.2 in
    let whole : ps ≡ codes "E" ∷ [] = only_found ps a.0 a.1 ∙ ap (λ (w : List ℕ). w ∷ []) (is_text_true a.0 (codes "E") p.0) in
    subst (Found ps) p.1 (record { are = whole; is = tt })

from_found : (ps : List (List ℕ)) (first : Option (List ℕ × List (List ℕ))) (line : Line) → first_of ps ≡ first → line_from ps first ≡ Some line
    → Found ps line
from_found ps None line is e = end_found ps line e
from_found ps (Some f) line is e = subst (λ (qs : List (List ℕ)). Found qs line) (sym (first_found ps f is)) (by_found f.0 f.1 line e)

in_found : (ps : List (List ℕ)) (line : Line) → line_in ps ≡ Some line → Found ps line
unfolding line_in
in_found ps line e = from_found ps (first_of ps) line refl e

pub read_found : (text : List ℕ) (line : Line) → line_in (parts 32 text) ≡ Some line → (text ≡ line_text line) × IsLine line
read_found text line e =
    let f = in_found (parts 32 text) line e in
    (joined_again 32 text ∙ ap (join_with_byte 32) f.are, f.is)

-- ---- what is written is read

dialogue_again : (is_current : Bool) (d : Dialogue) → IsOpened d → dialogue_in (dialogue_fields is_current d) ≡ Some (is_current, d)
unfolding dialogue_in
dialogue_again is_current d is =
    let same : record { subscriber = d.subscriber; transaction = d.transaction; invocations = []; kind = d.kind } ≡ d =
    ap (λ (vs : List Invocation). record d { invocations = vs }) (sym is.no_invocations) in
    rw (
      imsi_again (text_of d.subscriber) d.subscriber ((refl, is.digits), is.imsi),
      digits_read d.transaction.peer is.peer,
      remote_again d.transaction.remote is.remote,
      mark_again is_current,
      kind_again d.kind is.kind,
    )
    (ap (λ (x : Dialogue). Some (is_current, x)) same)

fields_again : (line : Line) → IsLine line → line_in (fields line) ≡ Some line
unfolding line_in line_by shard_in id_in opened_in waits_in end_in
fields_again (Shard shard clock first) is =
    let few = is.number in
    let most = is.generation in
    rw (
      few_read 15 shard (omega (arith, few)) (omega arith),
      few_read MAX_CLOCK clock is.ticks (omega arith),
      few_read 4095 first (omega (arith, most)) (omega arith),
    )
    refl
fields_again (Used id) is = rw (four_again id is) refl
fields_again (Freed id) is = rw (four_again id is) refl
fields_again (Opened id is_current d) is = rw (four_again id is.0, dialogue_again is_current d is.1) refl
fields_again (Waits v) is =
    rw (signed_again (signed_decimal v.id) v.id is.0 refl, was_again v.was, decimal_again (decimal v.deadline) v.deadline is.1 refl) refl
fields_again End is = refl

written_parts : (line : Line) → IsLine line → parts 32 (line_text line) ≡ fields line
written_parts (Shard shard clock first) is = parts-join 32 (codes "S1") _ (fields_lack (Shard shard clock first) is)
written_parts (Used id) is = parts-join 32 (codes "T") _ (fields_lack (Used id) is)
written_parts (Freed id) is = parts-join 32 (codes "F") _ (fields_lack (Freed id) is)
written_parts (Opened id is_current d) is = parts-join 32 (codes "D") _ (fields_lack (Opened id is_current d) is)
written_parts (Waits v) is = parts-join 32 (codes "I") _ (fields_lack (Waits v) is)
written_parts End is = parts-join 32 (codes "E") _ (fields_lack End is)

pub read_again : (text : List ℕ) (line : Line) → IsLine line → text ≡ line_text line → line_in (parts 32 text) ≡ Some line
read_again text line is e = ap (λ (t : List ℕ). line_in (parts 32 t)) e ∙ ap line_in (written_parts line is) ∙ fields_again line is

-- ---- what the code reads

pub line_found : (text : List ℕ) (r : Option code.Line) → option_map line_of r ≡ line_in (parts 32 text) → IfSome r (λ line. text ≡ line_text (line_of line))
line_found text None e = tt
line_found text (Some line) e = (read_found text (line_of line) (sym e)).0

pub line_bounded : (text : List ℕ) (r : Option code.Line) → option_map line_of r ≡ line_in (parts 32 text) → IfSome r (λ line. IsLine (line_of line))
line_bounded text None e = tt
line_bounded text (Some line) e = (read_found text (line_of line) (sym e)).1

-- ---- texts that are no line

pub no_line : (text : List ℕ) → line_in (parts 32 text) ≡ None → IsNone text
no_line text none line is e = let read = read_again text line is e in none_there (sym none ∙ read)
  where
    none_there : None ≡ Some line → ⊥
    none_there e = cc
