-- The octets of a frame read to exactly what they stand for.
use Rattle.std.proofs.Common.{◌≡◌, ℕ, zero, suc, ◌+◌, ◌-◌, ◌%◌, ◌<◌, ◌≤◌, Bool, true, false, cond, List, [], ◌∷◌, ◌++◌, length, take, drop, refl, sym, ap, subst, ◌∙◌, arith, append_assoc, inl, inr}
use Rattle.std.specs.Prelude.{◌&&◌, ◌==◌, nat_le, nat_lt, IsTrue, Option, Some, None, option_map, option_and_then, slice_index, slice_index_or, slice_get, codes, IfSome}
use Rattle.std.specs.List.{list_all}
use Rattle.std.proofs.lemmas.Bool.{and_left, and_parts, and_from, leb-true, le-leb, lt-ltb, false≢true, eqb-true, ne_eqb, cases_Bool, cond-false, cond-true}
use Rattle.std.proofs.lemmas.List.{append-nil}
use Rattle.std.proofs.lemmas.List.Elements.{recursion_from_All}
use Rattle.hex.specs.Hex.{is_hex_digit}
use Rattle.hex.proofs.HexLemmas.{decode_of-ok}
use Rattle.records.specs.Reading.{◌>>=◌, is_text, octet_in}
use Rattle.records.specs.Spelling.{IsCode}
use Rattle.records.proofs.FieldLaws.{bind_some, guard_some, octet_found, is_text_true}
use Rattle.records.proofs.AgainFields.{octet_again}
use Rattle.hlr_input.specs.declared.group.Group.{Group}
use Rattle.hlr_input.specs.declared.group.Group.TheVariants.{Octet, Letter}
use Rattle.hlr_input.specs.Octets.{IsGroup, AreGroups, IsOctets, octets_of_group, octets_of, are_known}
use Rattle.hlr_input.specs.Reading.{letter_in, group_in, stands, are_groups, octets_after, octets_in, octets_stand}

-- ---- a step of the loops

pub are_groups-next : (known : ℕ) (text : List ℕ) → 2 ≤ length text
    → are_groups known text ≡ (stands known (group_in (slice_index (take 2 text) 0) (slice_index (take 2 text) 1)) && are_groups known (drop 2 text))
unfolding are_groups
are_groups-next known [] h = absurd (omega arith)
are_groups-next known (a ∷ []) h = absurd (omega arith)
are_groups-next known (a ∷ b ∷ more) h = refl

pub are_groups-end : (known : ℕ) (text : List ℕ) → length text < 2 → are_groups known text ≡ (length text == 0)
unfolding are_groups
are_groups-end known [] h = refl
are_groups-end known (a ∷ []) h = refl
are_groups-end known (a ∷ b ∷ more) h = absurd (omega arith)

pub octets_after-next : (ids : List (List ℕ)) (found text : List ℕ) → 2 ≤ length text
    → octets_after ids found text ≡ (group_in (slice_index (take 2 text) 0)
    (slice_index (take 2 text) 1) >>= λ group. octets_of_group ids group >>= λ octets. octets_after ids (found ++ octets) (drop 2 text))
unfolding octets_after
octets_after-next ids found [] h = absurd (omega arith)
octets_after-next ids found (a ∷ []) h = absurd (omega arith)
octets_after-next ids found (a ∷ b ∷ more) h = refl

pub octets_after-end : (ids : List (List ℕ)) (found text : List ℕ) → length text < 2 → octets_after ids found text ≡ cond (length text == 0) (Some found) None
unfolding octets_after
octets_after-end ids found [] h = refl
octets_after-end ids found (a ∷ []) h = refl
octets_after-end ids found (a ∷ b ∷ more) h = absurd (omega arith)

pub groups_bad : (known : ℕ) (text pair : List ℕ) (g : Option Group) (b total : Bool) → 2 ≤ length text → pair ≡ take 2 text
    → g ≡ group_in (slice_index pair 0) (slice_index pair 1)
    → b ≡ stands known g → b ≡ false → are_groups known text ≡ total → false ≡ total
groups_bad known text pair g b total long front is standing bad so_far =
    let here : stands known (group_in (slice_index (take 2 text) 0) (slice_index (take 2 text) 1)) ≡ false = rw (← front, ← is) (sym standing ∙ bad) in
    sym (and_left (stands known (group_in (slice_index (take 2 text) 0) (slice_index (take 2 text) 1))) (are_groups known (drop 2 text)) here)
    ∙ sym (are_groups-next known text long) ∙ so_far

pub groups_more : (known : ℕ) (text pair more : List ℕ) (g : Option Group) (b total : Bool) → 2 ≤ length text → pair ≡ take 2 text → more ≡ drop 2 text
    → g ≡ group_in (slice_index pair 0) (slice_index pair 1)
    → b ≡ stands known g → b ≡ true → are_groups known text ≡ total → are_groups known more ≡ total
groups_more known text pair more g b total long front back is standing good so_far =
    let here : stands known (group_in (slice_index (take 2 text) 0) (slice_index (take 2 text) 1)) ≡ true = rw (← front, ← is) (sym standing ∙ good) in
    let next : are_groups known text ≡ are_groups known (drop 2 text) = rw (are_groups-next known text long, here) refl in
    rw back (sym next ∙ so_far)

pub octets_bad : (ids : List (List ℕ)) (found text pair : List ℕ) (total : Option (List ℕ)) → 2 ≤ length text → pair ≡ take 2 text
    → None ≡ group_in (slice_index pair 0) (slice_index pair 1)
    → octets_after ids found text ≡ total → None ≡ total
octets_bad ids found text pair total long front is so_far =
    let here : group_in (slice_index (take 2 text) 0) (slice_index (take 2 text) 1) ≡ None = rw (← front) (sym is) in
    let next : octets_after ids found text ≡ None = rw (octets_after-next ids found text long, here) refl in
    sym next ∙ so_far

pub octets_lacking : (ids : List (List ℕ)) (found text pair : List ℕ) (group : Group) (total : Option (List ℕ)) → 2 ≤ length text → pair ≡ take 2 text
    → Some group ≡ group_in (slice_index pair 0) (slice_index pair 1)
    → octets_of_group ids group ≡ None → octets_after ids found text ≡ total → None ≡ total
octets_lacking ids found text pair group total long front is none so_far =
    let here : group_in (slice_index (take 2 text) 0) (slice_index (take 2 text) 1) ≡ Some group = rw (← front) (sym is) in
    let next : octets_after ids found text ≡ None = rw (octets_after-next ids found text long, here, none) refl in
    sym next ∙ so_far

pub octets_more : (ids : List (List ℕ)) (found text pair more octets : List ℕ) (group : Group) (total : Option (List ℕ)) → 2 ≤ length text → pair ≡ take 2 text
    → more ≡ drop 2 text
    → Some group ≡ group_in (slice_index pair 0) (slice_index pair 1) → octets_of_group ids group ≡ Some octets → octets_after ids found text ≡ total
    → octets_after ids (found ++ octets) more ≡ total
octets_more ids found text pair more octets group total long front back is some so_far =
    let here : group_in (slice_index (take 2 text) 0) (slice_index (take 2 text) 1) ≡ Some group = rw (← front) (sym is) in
    let next : octets_after ids found text ≡ octets_after ids (found ++ octets) (drop 2 text) = rw (octets_after-next ids found text long, here, some) refl in
    rw back (sym next ∙ so_far)

pub slice_get-at : {X : Type 0} (xs : List X) (i : ℕ) (x : X) → i < length xs → x ≡ slice_index_or xs i x → slice_get xs i ≡ Some x
slice_get-at [] i x lt e = absurd (omega arith)
slice_get-at {X} (y ∷ ys) zero x lt e = ap (λ (z : X). Some z) (sym e)
slice_get-at (y ∷ ys) (suc i) x lt e = slice_get-at ys i x (omega arith) e

pub slice_get-past : {X : Type 0} (xs : List X) (i : ℕ) → length xs ≤ i → slice_get xs i ≡ None
slice_get-past [] i le = refl
slice_get-past (y ∷ ys) zero le = absurd (omega arith)
slice_get-past (y ∷ ys) (suc i) le = slice_get-past ys i (omega arith)

-- ---- a group

no_octet : (b : ℕ) (octet : ℕ) → IsCode (36 ∷ b ∷ []) octet → ⊥
no_octet b octet h = let p = recursion_from_All (λ x. is_hex_digit x ≡ true) (36 ∷ b ∷ []) (decode_of-ok (36 ∷ b ∷ []) (octet ∷ []) h).1 in false≢true p.0

octet_group : (a b octet : ℕ) → IsCode (a ∷ b ∷ []) octet → group_in a b ≡ Some (Octet octet)
octet_group a b octet h =
    let other : (a == 36) ≡ false = ne_eqb a 36 (λ e. no_octet b octet (subst (λ (x : ℕ). IsCode (x ∷ b ∷ []) octet) e h)) in
    rw (other, octet_again (a ∷ b ∷ []) octet h) refl

letter_group : (place : ℕ) → place < 26 → group_in 36 (65 + place) ≡ Some (Letter place)
letter_group place lt =
    let low : nat_le 65 (65 + place) ≡ true = le-leb 65 (65 + place) (omega arith) in
    let high : nat_le (65 + place) 90 ≡ true = le-leb (65 + place) 90 (omega arith) in
    let same : (65 + place) - 65 ≡ place = omega arith in
    rw (low, high, same) refl

pub group_again : (a b : ℕ) (group : Group) → IsGroup (a ∷ b ∷ []) group → group_in a b ≡ Some group
group_again a b (Octet octet) h = octet_group a b octet h
group_again a b (Letter place) h =
    let first : a ≡ 36 = cc (h.0) in
    let second : b ≡ 65 + place = cc (h.0) in
    rw (first, second) (letter_group place h.1)

letter_found : (b : ℕ) (group : Group) → letter_in b ≡ Some group → IsGroup (36 ∷ b ∷ []) group
letter_found b group e =
    let g = guard_some (nat_le 65 b && nat_le b 90) (Some (Letter (b - 65))) group e in
    let p = and_parts (nat_le 65 b) (nat_le b 90) g.0 in
    let low = leb-true 65 b p.0 in
    let high = leb-true b 90 p.1 in
    let back : b ≡ 65 + (b - 65) = omega (arith, low) in
    let same : Letter (b - 65) ≡ group = cc (g.1) in
    subst (IsGroup (36 ∷ b ∷ [])) same (ap (λ (x : ℕ). 36 ∷ x ∷ []) back, omega (arith, high, low))

octet_in_found : (a b : ℕ) (o : Option ℕ) (group : Group) → octet_in (a ∷ b ∷ []) ≡ o → option_map (λ octet. Octet octet) o ≡ Some group
    → IsGroup (a ∷ b ∷ []) group
octet_in_found a b None group is e = absurd cc
octet_in_found a b (Some octet) group is e =
    let same : Octet octet ≡ group = cc (e) in
    subst (IsGroup (a ∷ b ∷ [])) same (octet_found (a ∷ b ∷ []) octet is)

pub group_found : (a b : ℕ) (group : Group) → group_in a b ≡ Some group → IsGroup (a ∷ b ∷ []) group
group_found a b group e =
    elim (cases_Bool (a == 36)) [
      | inl t ↦
          let first : a ≡ 36 = eqb-true a 36 t in
          subst (λ (x : ℕ). IsGroup (x ∷ b ∷ []) group) (sym first)
          (letter_found b group (sym (cond-true (a == 36) (letter_in b) (option_map (λ octet. Octet octet) (octet_in (a ∷ b ∷ []))) t) ∙ e))
      | inr f ↦ octet_in_found a b (octet_in (a ∷ b ∷ [])) group refl
          (sym (cond-false (a == 36) (letter_in b) (option_map (λ octet. Octet octet) (octet_in (a ∷ b ∷ []))) f) ∙ e)
    ]

-- ---- many groups

pub groups_again : (known : ℕ) (text : List ℕ) (groups : List Group) → AreGroups text groups → are_groups known text ≡ are_known known groups
unfolding are_groups
groups_again known [] [] h = refl
groups_again known [] (g ∷ gs) h = absurd h
groups_again known (a ∷ []) [] h = absurd h
groups_again known (a ∷ []) (g ∷ gs) h = absurd h
groups_again known (a ∷ b ∷ more) [] h = absurd h
groups_again known (a ∷ b ∷ more) (g ∷ gs) h = rw (group_again a b g h.0, groups_again known more gs h.1) refl

record Found (known : ℕ) (text : List ℕ) : Type 0 where
  groups : List Group
  are : AreGroups text groups

stood : (known : ℕ) (o : Option Group) → stands known o ≡ true → (g : Group) × (o ≡ Some g)
stood known None e = absurd (false≢true e)
stood known (Some g) e = (g, refl)

groups_found : (known : ℕ) (text : List ℕ) → are_groups known text ≡ true → Found known text
unfolding are_groups
groups_found known [] e = record { groups = []; are = tt }
groups_found known (a ∷ []) e = absurd (false≢true e)
groups_found known (a ∷ b ∷ more) e =
    let p = and_parts (stands known (group_in a b)) (are_groups known more) e in
    let g = stood known (group_in a b) p.0 in
    let r = groups_found known more p.1 in
    record { groups = g.0 ∷ r.groups; are = (group_found a b g.0 g.1, r.are) }

all_known : (text : List ℕ) (groups : List Group) → AreGroups text groups → are_known 26 groups ≡ true
all_known [] [] h = refl
all_known [] (g ∷ gs) h = absurd h
all_known (a ∷ []) [] h = absurd h
all_known (a ∷ []) (g ∷ gs) h = absurd h
all_known (a ∷ b ∷ more) [] h = absurd h
all_known (a ∷ b ∷ more) (Octet octet ∷ gs) h = all_known more gs h.1
all_known (a ∷ b ∷ more) (Letter place ∷ gs) h = and_from (nat_lt place 26) (are_known 26 gs) (lt-ltb place 26 h.0.1) (all_known more gs h.1)

-- without an id for any letter there is none: they are digits
all_after : (front : List ℕ) (o : Option (List ℕ)) (octets : List ℕ) → option_map (λ (rest : List ℕ). front ++ rest) o ≡ Some octets
    → (rest : List ℕ) × (o ≡ Some rest)
all_after front None octets e = absurd cc
all_after front (Some rest) octets e = (rest, refl)

even_more : (more : List ℕ) (a b : ℕ) → length (a ∷ b ∷ more) % 2 ≡ length more % 2
even_more more a b = omega arith

groups_plain : (text : List ℕ) (groups : List Group) (octets : List ℕ) → AreGroups text groups → octets_of [] groups ≡ Some octets
    → (length text % 2 ≡ 0) × (list_all is_hex_digit text ≡ true)
groups_plain [] [] octets h e = (refl, refl)
groups_plain [] (g ∷ gs) octets h e = absurd h
groups_plain (a ∷ []) [] octets h e = absurd h
groups_plain (a ∷ []) (g ∷ gs) octets h e = absurd h
groups_plain (a ∷ b ∷ more) [] octets h e = absurd h
groups_plain (a ∷ b ∷ more) (Octet octet ∷ gs) octets h e =
    let p = recursion_from_All (λ x. is_hex_digit x ≡ true) (a ∷ b ∷ []) (decode_of-ok (a ∷ b ∷ []) (octet ∷ []) h.0).1 in
    let rest = all_after (octet ∷ []) (octets_of [] gs) octets e in
    let later = groups_plain more gs rest.0 h.1 rest.1 in
    (even_more more a b ∙ later.0, rw (p.0, p.1.0) later.1)
groups_plain (a ∷ b ∷ more) (Letter place ∷ gs) octets h e = absurd cc

-- and these octets they are with any ids
pub octets_any : (ids : List (List ℕ)) (groups : List Group) (octets : List ℕ) → octets_of [] groups ≡ Some octets → octets_of ids groups ≡ Some octets
octets_any ids [] octets e = e
octets_any ids (Octet octet ∷ gs) octets e =
    let rest = all_after (octet ∷ []) (octets_of [] gs) octets e in
    let same : octets_of ids gs ≡ octets_of [] gs = octets_any ids gs rest.0 rest.1 ∙ sym rest.1 in
    ap (option_map (λ (more : List ℕ). (octet ∷ []) ++ more)) same ∙ e
octets_any ids (Letter place ∷ gs) octets e = absurd cc

pub octets_plain : (text : List ℕ) (groups : List Group) (octets : List ℕ) → IsOctets text groups → octets_of [] groups ≡ Some octets
    → is_text text (codes "-") ≡ false → (length text % 2 ≡ 0) × (list_all is_hex_digit text ≡ true)
octets_plain text [] octets h e other = absurd (false≢true (sym other ∙ ap (λ (t : List ℕ). is_text t (codes "-")) h))
octets_plain text (g ∷ gs) octets h e other = groups_plain text (g ∷ gs) octets h e

-- a text of groups is neither `-` nor empty
pub no_dash : (text : List ℕ) (g : Group) (gs : List Group) → AreGroups text (g ∷ gs) → is_text text (codes "-") ≡ false
no_dash [] g gs h = absurd h
no_dash (a ∷ []) g gs h = absurd h
no_dash (a ∷ b ∷ more) g gs h =
    elim (cases_Bool (is_text (a ∷ b ∷ more) (codes "-"))) [
      | inl t ↦ absurd (cc (is_text_true (a ∷ b ∷ more) (codes "-") t))
      | inr f ↦ f
    ]

pub not_empty : (text : List ℕ) (g : Group) (gs : List Group) → AreGroups text (g ∷ gs) → (length text == 0) ≡ false
not_empty [] g gs h = absurd h
not_empty (a ∷ more) g gs h = ne_eqb (length (a ∷ more)) 0 (λ e. omega arith)

stand_is : (known : ℕ) (text : List ℕ) (g : Group) (gs : List Group) → AreGroups text (g ∷ gs) → octets_stand known text ≡ are_groups known text
stand_is known text g gs h = rw (no_dash text g gs h, not_empty text g gs h) refl

pub stand_known : (known : ℕ) (text : List ℕ) (groups : List Group) → IsOctets text groups → octets_stand known text ≡ are_known known groups
stand_known known text [] h = rw h refl
stand_known known text (g ∷ gs) h = stand_is known text g gs h ∙ groups_again known text (g ∷ gs) h

pub known_of : (text : List ℕ) (groups : List Group) → IsOctets text groups → are_known 26 groups ≡ true
known_of text [] h = refl
known_of text (g ∷ gs) h = all_known text (g ∷ gs) h

octets_from : (text : List ℕ) (groups : List Group) → (length text == 0) ≡ false → AreGroups text groups → IsOctets text groups
octets_from [] [] some h = absurd (false≢true (sym some))
octets_from (a ∷ []) [] some h = absurd h
octets_from (a ∷ b ∷ more) [] some h = absurd h
octets_from text (g ∷ gs) some h = h

stood_so : (known : ℕ) (text : List ℕ) → octets_stand known text ≡ true → (groups : List Group) × IsOctets text groups
stood_so known text e =
    elim (cases_Bool (is_text text (codes "-"))) [
      | inl t ↦ ([], is_text_true text (codes "-") t)
      | inr f ↦
          let rest : cond (length text == 0) false (are_groups known text) ≡ true =
          sym (cond-false (is_text text (codes "-")) true (cond (length text == 0) false (are_groups known text)) f) ∙ e in
          elim (cases_Bool (length text == 0)) [
            | inl z ↦ absurd (false≢true (sym (cond-true (length text == 0) false (are_groups known text) z) ∙ rest))
            | inr some ↦
                let r = groups_found known text (sym (cond-false (length text == 0) false (are_groups known text) some) ∙ rest) in
                (r.groups, octets_from text r.groups some r.are)
          ]
    ]

pub stand_found : (known : ℕ) (text : List ℕ) (b : Bool) → b ≡ octets_stand known text → IsTrue b → (groups : List Group) × IsOctets text groups
stand_found known text b e is = stood_so known text (sym e ∙ is)

-- ---- the octets that they stand for

joined : (found front : List ℕ) (rest : Option (List ℕ)) → option_map (λ (ys : List ℕ). (found ++ front) ++ ys) rest
    ≡ option_map (λ (ys : List ℕ). found ++ ys) (option_map (λ (ys : List ℕ). front ++ ys) rest)
joined found front None = refl
joined found front (Some ys) = ap (λ (zs : List ℕ). Some zs) (append_assoc found front ys)

after_group : (ids : List (List ℕ)) (found more : List ℕ) (gs : List Group)
    → ((found : List ℕ) → octets_after ids found more ≡ option_map (λ (ys : List ℕ). found ++ ys) (octets_of ids gs))
    → (o : Option (List ℕ)) → (o >>= λ octets. octets_after ids (found ++ octets) more)
    ≡ option_map (λ (ys : List ℕ). found ++ ys) (option_and_then (λ front. option_map (λ rest. front ++ rest) (octets_of ids gs)) o)
after_group ids found more gs rest None = refl
after_group ids found more gs rest (Some front) = rest (found ++ front) ∙ joined found front (octets_of ids gs)

after_again : (ids : List (List ℕ)) (found text : List ℕ) (groups : List Group) → AreGroups text groups
    → octets_after ids found text ≡ option_map (λ (ys : List ℕ). found ++ ys) (octets_of ids groups)
unfolding octets_after
after_again ids found [] [] h = ap (λ (zs : List ℕ). Some zs) (sym (append-nil found))
after_again ids found [] (g ∷ gs) h = absurd h
after_again ids found (a ∷ []) [] h = absurd h
after_again ids found (a ∷ []) (g ∷ gs) h = absurd h
after_again ids found (a ∷ b ∷ more) [] h = absurd h
after_again ids found (a ∷ b ∷ more) (g ∷ gs) h =
    rw (group_again a b g h.0) (after_group ids found more gs (λ f. after_again ids f more gs h.1) (octets_of_group ids g))

front_nil : (o : Option (List ℕ)) → option_map (λ (ys : List ℕ). [] ++ ys) o ≡ o
front_nil None = refl
front_nil (Some ys) = refl

pub octets_again : (ids : List (List ℕ)) (text : List ℕ) (groups : List Group) → IsOctets text groups → octets_in ids text ≡ octets_of ids groups
octets_again ids text [] h = rw h refl
octets_again ids text (g ∷ gs) h = rw (no_dash text g gs h, not_empty text g gs h) (after_again ids [] text (g ∷ gs) h ∙ front_nil (octets_of ids (g ∷ gs)))

after_found : (ids : List (List ℕ)) (found text octets : List ℕ) → octets_after ids found text ≡ Some octets → (groups : List Group) × AreGroups text groups
unfolding octets_after
after_found ids found [] octets e = ([], tt)
after_found ids found (a ∷ []) octets e = absurd cc
after_found ids found (a ∷ b ∷ more) octets e =
    let g = bind_some (group_in a b) _ octets e in
    let o = bind_some (octets_of_group ids g.0) _ octets g.2 in
    let r = after_found ids (found ++ o.0) more octets o.2 in
    (g.0 ∷ r.0, (group_found a b g.0 g.1, r.1))

octets_in_found : (ids : List (List ℕ)) (text octets : List ℕ) → octets_in ids text ≡ Some octets → (groups : List Group) × IsOctets text groups
octets_in_found ids text octets e =
    elim (cases_Bool (is_text text (codes "-"))) [
      | inl t ↦ ([], is_text_true text (codes "-") t)
      | inr f ↦
          let rest : cond (length text == 0) None (octets_after ids [] text) ≡ Some octets =
          sym (cond-false (is_text text (codes "-")) (Some []) (cond (length text == 0) None (octets_after ids [] text)) f) ∙ e in
          elim (cases_Bool (length text == 0)) [
            | inl z ↦ let bad : None ≡ Some octets = sym (cond-true (length text == 0) None (octets_after ids [] text) z) ∙ rest in absurd cc
            | inr some ↦
                let r = after_found ids [] text octets (sym (cond-false (length text == 0) None (octets_after ids [] text) some) ∙ rest) in
                (r.0, octets_from text r.0 some r.1)
          ]
    ]

-- the octets that were read are those of the text
pub octets_found : {A : Type 0} (items : A → List ℕ) (ids : List (List ℕ)) (text : List ℕ) (read : Option A) → option_map items read ≡ octets_in ids text
    → IfSome read (λ octets. (groups : List Group) × IsOctets text groups × (octets_of ids groups ≡ Some (items octets)))
octets_found items ids text None e = tt
octets_found items ids text (Some octets) e =
    let p = octets_in_found ids text (items octets) (sym e) in
    (p.0, p.1, sym (octets_again ids text p.0 p.1) ∙ sym e)
