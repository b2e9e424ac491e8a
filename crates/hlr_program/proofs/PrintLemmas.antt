-- The lines of sent frames, and the ids in them, some frames more.
use Rattle.std.proofs.Common.{◌≡◌, ℕ, ◌+◌, ◌<◌, List, [], ◌∷◌, ◌++◌, map, length, take, get_or, refl, sym, ap, subst, ◌∙◌, append_assoc}
use Rattle.std.specs.List.{flat_map}
use Rattle.std.proofs.lemmas.Grind.{flat_map-append}
use Rattle.std.proofs.lemmas.List.{append-nil, take_more, map-append}
use Rattle.frames.specs.Octets.{RawOut}
use Rattle.hlrcore.specs.declared.answer.Out.{Out}
use Rattle.hlrcore.specs.Frames.{raw_out}
use Rattle.hlr_input.specs.Letters.{noted, originating_id}
use Rattle.hlr_program.specs.Printed.{Prints, SoFar, noted_in, sent_line, sent_lines}

sent_lines-join : (xs ys : List RawOut) → sent_lines (xs ++ ys) ≡ sent_lines xs ++ sent_lines ys
sent_lines-join [] ys = refl
sent_lines-join (x ∷ xs) ys =
    ap (λ (t : List ℕ). sent_line x.to x.octets ++ t) (sent_lines-join xs ys) ∙ sym (append_assoc (sent_line x.to x.octets) (sent_lines xs) (sent_lines ys))

noted_in-join : (ids : List (List ℕ)) (xs ys : List RawOut) → noted_in ids (xs ++ ys) ≡ noted_in (noted_in ids xs) ys
noted_in-join ids [] ys = refl
noted_in-join ids (x ∷ xs) ys = noted_in-join (noted ids (originating_id x.octets)) xs ys

pub prints_none : (a : SoFar) → Prints a [] a
prints_none a = record { text = sym (append-nil a.text); ids = refl }

pub prints_join : (a b c : SoFar) (xs ys : List RawOut) → Prints a xs b → Prints b ys c → Prints a (xs ++ ys) c
prints_join a b c xs ys h k = record {
  text = k.text ∙ ap (λ (t : List ℕ). t ++ sent_lines ys) h.text ∙ append_assoc a.text (sent_lines xs) (sent_lines ys)
      ∙ ap (λ (t : List ℕ). a.text ++ t) (sym (sent_lines-join xs ys));
  ids = k.ids ∙ ap (λ (i : List (List ℕ)). noted_in i ys) h.ids ∙ sym (noted_in-join a.ids xs ys);
}

-- one frame
pub prints_one : (a b : SoFar) (frame : RawOut) → b.text ≡ a.text ++ sent_line frame.to frame.octets → b.ids ≡ noted a.ids (originating_id frame.octets)
    → Prints a (frame ∷ []) b
prints_one a b frame text ids = record {
  text = text ∙ ap (λ (t : List ℕ). a.text ++ t) (sym (append-nil (sent_line frame.to frame.octets)));
  ids = ids;
}

-- the frames up to the next one
one_more : (frames : List Out) (i : ℕ) (frame : Out) → i < length frames → frame ≡ get_or frames i frame
    → map raw_out (take (i + 1) frames) ≡ map raw_out (take i frames) ++ raw_out frame ∷ []
one_more frames i frame lt is =
    ap (map raw_out) (take_more frames i frame lt ∙ ap (λ (f : Out). take i frames ++ f ∷ []) (sym is)) ∙ map-append raw_out (take i frames) (frame ∷ [])

pub prints_more : (a b c : SoFar) (frames : List Out) (i : ℕ) (frame : Out) → i < length frames → frame ≡ get_or frames i frame
    → Prints a (map raw_out (take i frames)) b → Prints b (raw_out frame ∷ []) c → Prints a (map raw_out (take (i + 1) frames)) c
prints_more a b c frames i frame lt is so_far more =
    subst (λ (sent : List RawOut). Prints a sent c) (sym (one_more frames i frame lt is))
    (prints_join a b c (map raw_out (take i frames)) (raw_out frame ∷ []) so_far more)

-- the frames of those up to the next one
module _ {X : Type 0} (f : X → List RawOut) where
  one_list_more : (xs : List X) (i : ℕ) (x : X) → i < length xs → x ≡ get_or xs i x
      → flat_map f (take (i + 1) xs) ≡ flat_map f (take i xs) ++ f x
  one_list_more xs i x lt is =
      ap (flat_map f) (take_more xs i x lt ∙ ap (λ (y : X). take i xs ++ y ∷ []) (sym is))
      ∙ flat_map-append f (take i xs) (x ∷ []) ∙ ap (λ (l : List RawOut). flat_map f (take i xs) ++ l) (append-nil (f x))

  pub prints_list_more : (a b c : SoFar) (xs : List X) (i : ℕ) (x : X) → i < length xs → x ≡ get_or xs i x
      → Prints a (flat_map f (take i xs)) b → Prints b (f x) c → Prints a (flat_map f (take (i + 1) xs)) c
  prints_list_more a b c xs i x lt is so_far more =
      subst (λ (sent : List RawOut). Prints a sent c) (sym (one_list_more xs i x lt is))
      (prints_join a b c (flat_map f (take i xs)) (f x) so_far more)
