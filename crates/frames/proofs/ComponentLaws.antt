-- A tree is read as a component exactly if it has the component's form, ill-formed ones among them.
use Rattle.std.proofs.Common.{◌≡◌, ℕ, ℤ, List, [], ◌∷◌, ◌++◌, refl, ap, sym, ◌∙◌, subst, arith, inl, inr, ◌⊎◌}
use Rattle.std.specs.Prelude.{Option, Some, None, option_and_then, option_map, option_to_list, unwrap_or}
use Rattle.std.specs.Int.{w8, cast_signed}
use Rattle.x690.specs.declared.Tag.{Tag}
use Rattle.x690.specs.Tree.{Tree, Primitive, element}
use Rattle.x690.specs.Reading.{octets_of, octet_of, children_of}
use Rattle.x690.specs.Elements.{first, optional, or_all, at_most_one}
use Rattle.x690.proofs.Forests.{list_of-trees}
use Rattle.x690.proofs.Readings.{bind_some, map_some, some_is, octets_of-some, octet_of-some, children_of-some, children_of-element, first-some, at_most_one-some}
use Rattle.machine.specs.Received.{Code, Number, Other, Side, General, OfInvoke, OfResult, OfError, ComponentOf, Invoke, ResultLast, ResultNotLast, ReturnError, Reject, Bad, Ignored}
use Rattle.frames.specs.declared.tags.TheConstants.{INTEGER, NULL, OBJECT_IDENTIFIER, SEQUENCE, LINKED_ID, GENERAL_PROBLEM, INVOKE_PROBLEM, RESULT_PROBLEM, ERROR_PROBLEM, INVOKE, RESULT_LAST, RETURN_ERROR, REJECT, RESULT_NOT_LAST}
use Rattle.frames.specs.declared.numbers.TheConstants.{UNRECOGNIZED_COMPONENT, MISTYPED_COMPONENT}
use Rattle.frames.specs.Choices.{or, if_under}
use Rattle.frames.specs.Components.{id_under, local_code, global_code, code_of, coded, invoke, outcome, error, problem_under, problem_of, open_id, rejected_id, reject, behind_id, identified, reject_or_ignored, component_of}
use Rattle.frames.specs.ComponentForms.{IsId, AreLinked, IsCode, AreCoded, AreOutcome, problem_tag, IsRejected, IsWellFormed, IsIll, HasIdTag, BeginsWithId, IsComponent}

or-some : {A : Type 0} (a b : Option A) (x : A) → or a b ≡ Some x → (a ≡ Some x) ⊎ (b ≡ Some x)
or-some None b x e = inr e
or-some (Some a) b x e = inl e

id_found : (tag : Tag) (t : Tree) (id : ℤ) → id_under tag t ≡ Some id → IsId tag t id
id_found tag t id e =
    let (n, is, same) = map_some (octet_of tag t) (λ octet. cast_signed w8 octet) id e in
    (n, octet_of-some tag t n is, same)

linked_found : (ts : List Tree) (o : Option (ℤ × List Tree)) → first (id_under LINKED_ID) ts ≡ o →
    (ls : List Tree) × AreLinked ls (or_all ts o).0 × (ts ≡ ls ++ (or_all ts o).1)
linked_found ts None e = ([], refl, refl)
linked_found ts (Some x) e =
    let (t, is, read) = first-some (id_under LINKED_ID) ts x e in
    (t ∷ [], (t, refl, id_found LINKED_ID t x.0 read), is)

local_found : (t : Tree) (octets : List ℕ) (code : Code) → t ≡ Primitive INTEGER octets → local_code octets ≡ Some code → IsCode t code
local_found t [] code e f = absurd cc
local_found t (n ∷ []) (Number m) e f = cc
local_found t (n ∷ []) Other e f = absurd cc
local_found t (n ∷ m ∷ rest) (Number k) e f = absurd cc
local_found t (n ∷ m ∷ rest) Other e f = (n ∷ m ∷ rest, inl (e, omega arith))

global_found : (t : Tree) (octets : List ℕ) (code : Code) → t ≡ Primitive OBJECT_IDENTIFIER octets → global_code octets ≡ Some code → IsCode t code
global_found t [] code e f = absurd cc
global_found t (n ∷ rest) (Number m) e f = absurd cc
global_found t (n ∷ rest) Other e f = (n ∷ rest, inr (e, omega arith))

code_found : (t : Tree) (code : Code) → code_of t ≡ Some code → IsCode t code
code_found t code e =
    elim (or-some (option_and_then local_code (octets_of INTEGER t)) _ code e) [
      | inl f ↦ let (octets, is, local) = bind_some (octets_of INTEGER t) local_code code f in
          local_found t octets code (octets_of-some INTEGER t octets is) local
      | inr f ↦ let (octets, is, global) = bind_some (octets_of OBJECT_IDENTIFIER t) global_code code f in
          global_found t octets code (octets_of-some OBJECT_IDENTIFIER t octets is) global
    ]

coded_found : (ts : List Tree) (x : Code × List Tree) (parameter : Option Tree) → first code_of ts ≡ Some x → at_most_one x.1 ≡ Some parameter
    → AreCoded ts x.0 parameter
coded_found ts x parameter e f =
    let (t, is, read) = first-some code_of ts x e in
    (t, code_found t x.0 read, is ∙ ap (λ r. t ∷ r) (at_most_one-some x.1 parameter f))

body_found : (ts : List Tree) (x : Code × Option Tree) → coded ts ≡ Some x → AreCoded ts x.0 x.1
unfolding coded
body_found ts x e =
    let (code, is_code, e1) = bind_some (first code_of ts) _ x e in
    let (parameter, is_parameter, e2) = bind_some (at_most_one code.1) _ x e1 in
    let same : (code.0, parameter) ≡ x = some_is e2 in
    subst (λ y. AreCoded ts y.0 y.1) same (coded_found ts code parameter is_code is_parameter)

-- what was read as a component after its id i is one
invoke_found : (i : Tree) (id : ℤ) (ts : List Tree) (c : ComponentOf Tree) → IsId INTEGER i id → invoke id ts ≡ Some c
    → IsWellFormed (element INVOKE (i ∷ ts)) c
unfolding invoke
invoke_found i id ts c is_id e =
    let (ls, linked, parts) = linked_found ts (first (id_under LINKED_ID) ts) refl in
    let rest = optional (id_under LINKED_ID) ts in
    let (body, is_body, e1) = bind_some (coded rest.1) _ c e in
    let got : IsWellFormed (element INVOKE (i ∷ ts)) (Invoke id rest.0 body.0 body.1) =
    (i, is_id, ls, linked, rest.1, body_found rest.1 body is_body, ap (λ r. element INVOKE (i ∷ r)) parts)
    in
    subst (IsWellFormed (element INVOKE (i ∷ ts))) (some_is e1) got

outcome_found : (made c : ComponentOf Tree) (ts : List Tree) → outcome made ts ≡ Some c → AreOutcome ts × (made ≡ c)
unfolding outcome
outcome_found made c [] e = (inl refl, some_is e)
outcome_found made c (t ∷ []) e =
    let (ts, is_ts, e1) = bind_some (children_of SEQUENCE t) _ c e in
    let (body, is_body, e2) = bind_some (coded ts) _ c e1 in
    (inr (ts, body.0, body.1, body_found ts body is_body, ap (λ u. u ∷ []) (children_of-some SEQUENCE t ts is_ts)), some_is e2)
outcome_found made c (t ∷ u ∷ ts) e = absurd cc

last_found : (i : Tree) (id : ℤ) (ts : List Tree) (c : ComponentOf Tree) → IsId INTEGER i id → outcome (ResultLast id) ts ≡ Some c
    → IsWellFormed (element RESULT_LAST (i ∷ ts)) c
last_found i id ts c is_id e =
    let (are, same) = outcome_found (ResultLast id) c ts e in
    subst (IsWellFormed (element RESULT_LAST (i ∷ ts))) same (i, is_id, ts, are, refl)

not_last_found : (i : Tree) (id : ℤ) (ts : List Tree) (c : ComponentOf Tree) → IsId INTEGER i id → outcome (ResultNotLast id) ts ≡ Some c
    → IsWellFormed (element RESULT_NOT_LAST (i ∷ ts)) c
not_last_found i id ts c is_id e =
    let (are, same) = outcome_found (ResultNotLast id) c ts e in
    subst (IsWellFormed (element RESULT_NOT_LAST (i ∷ ts))) same (i, is_id, ts, are, refl)

error_found : (i : Tree) (id : ℤ) (ts : List Tree) (c : ComponentOf Tree) → IsId INTEGER i id → error id ts ≡ Some c
    → IsWellFormed (element RETURN_ERROR (i ∷ ts)) c
unfolding error
error_found i id ts c is_id e =
    let (body, is_body, e1) = bind_some (coded ts) _ c e in
    subst (IsWellFormed (element RETURN_ERROR (i ∷ ts))) (some_is e1) (i, is_id, ts, body.1, body_found ts body is_body, refl)

under_found : (tag : Tag) (side : Side) (t : Tree) (x : Side × ℕ) → problem_tag side ≡ tag → problem_under tag side t ≡ Some x
    → t ≡ Primitive (problem_tag x.0) (x.1 ∷ [])
under_found tag side t x is e =
    let (n, is_n, same) = map_some (octet_of tag t) (λ octet. (side, octet)) x e in
    octet_of-some tag t n is_n ∙ ap (λ g. Primitive g (n ∷ [])) (sym is) ∙ ap (λ y. Primitive (problem_tag y.0) (y.1 ∷ [])) same

problem_found : (t : Tree) (x : Side × ℕ) → problem_of t ≡ Some x → t ≡ Primitive (problem_tag x.0) (x.1 ∷ [])
problem_found t x e =
    elim (or-some _ _ x e) [
      | inl f ↦ under_found GENERAL_PROBLEM General t x refl f
      | inr f ↦ elim (or-some _ _ x f) [
        | inl g ↦ under_found INVOKE_PROBLEM OfInvoke t x refl g
        | inr g ↦ elim (or-some _ _ x g) [
          | inl h ↦ under_found RESULT_PROBLEM OfResult t x refl h
          | inr h ↦ under_found ERROR_PROBLEM OfError t x refl h
        ]
      ]
    ]

open_found : (octets : List ℕ) (x : Option ℤ) → open_id octets ≡ Some x → (octets ≡ []) × (x ≡ None)
open_found [] x e = (refl, sym (some_is e))
open_found (n ∷ rest) x e = absurd cc

rejected_found : (t : Tree) (x : Option ℤ) → rejected_id t ≡ Some x → IsRejected t x
rejected_found t x e =
    elim (or-some _ _ x e) [
      | inl f ↦ let (id, is, same) = map_some (id_under INTEGER t) Some x f in
          subst (IsRejected t) same (id_found INTEGER t id is)
      | inr f ↦ let (octets, is, opened) = bind_some (octets_of NULL t) open_id x f in
          let (empty, none) = open_found octets x opened in
          subst (IsRejected t) (sym none) (octets_of-some NULL t octets is ∙ ap (Primitive NULL) empty)
    ]

reject_found : (ts : List Tree) (c : ComponentOf Tree) → reject ts ≡ Some c → IsWellFormed (element REJECT ts) c
unfolding reject
reject_found [] c e = absurd cc
reject_found (r ∷ []) c e = absurd cc
reject_found (r ∷ p ∷ []) c e =
    let (id, is_id, e1) = bind_some (rejected_id r) _ c e in
    let (problem, is_problem, e2) = bind_some (problem_of p) _ c e1 in
    let got : IsWellFormed (element REJECT (r ∷ p ∷ [])) (Reject id problem.0 problem.1) =
    (r, rejected_found r id is_id, ap (λ u. element REJECT (r ∷ u ∷ [])) (problem_found p problem is_problem))
    in
    subst (IsWellFormed (element REJECT (r ∷ p ∷ []))) (some_is e2) got
reject_found (r ∷ p ∷ q ∷ ts) c e = absurd cc

-- ---- a well-formed component is read as it is

coded_at : (t : Tree) (code : Code) (p : Option Tree) → IsCode t code → coded (t ∷ option_to_list p) ≡ Some (code, p)
unfolding coded
coded_at t (Number n) None h = ap (λ u. coded (u ∷ [])) h
coded_at t (Number n) (Some p) h = ap (λ u. coded (u ∷ p ∷ [])) h
coded_at t Other p ([], inl h) = absurd (omega (arith, h.1))
coded_at t Other p (n ∷ [], inl h) = absurd (omega (arith, h.1))
coded_at t Other None (n ∷ m ∷ rest, inl h) = ap (λ u. coded (u ∷ [])) h.0
coded_at t Other (Some p) (n ∷ m ∷ rest, inl h) = ap (λ u. coded (u ∷ p ∷ [])) h.0
coded_at t Other p ([], inr h) = absurd (omega (arith, h.1))
coded_at t Other None (n ∷ rest, inr h) = ap (λ u. coded (u ∷ [])) h.0
coded_at t Other (Some p) (n ∷ rest, inr h) = ap (λ u. coded (u ∷ p ∷ [])) h.0

coded_again : (ts : List Tree) (code : Code) (p : Option Tree) → AreCoded ts code p → coded ts ≡ Some (code, p)
coded_again ts code p (t, is_code, is) = ap coded is ∙ coded_at t code p is_code

-- a code is no linked id
unlinked : (t : Tree) (code : Code) → IsCode t code → id_under LINKED_ID t ≡ None
unlinked t (Number n) h = ap (id_under LINKED_ID) h
unlinked t Other (octets, inl h) = ap (id_under LINKED_ID) h.0
unlinked t Other (octets, inr h) = ap (id_under LINKED_ID) h.0

linked_again : (ls : List Tree) (linked : Option ℤ) (cs : List Tree) (code : Code) (p : Option Tree) → AreLinked ls linked → AreCoded cs code p
    → optional (id_under LINKED_ID) (ls ++ cs) ≡ (linked, cs)
linked_again ls None cs code p h (t, is_code, is) =
    ap (λ l. optional (id_under LINKED_ID) (l ++ cs)) h ∙ ap (optional (id_under LINKED_ID)) is
    ∙ ap (λ o. or_all (t ∷ option_to_list p) (option_map (λ a. (a, option_to_list p)) o)) (unlinked t code is_code) ∙ ap (λ us. (None, us)) (sym is)
linked_again ls (Some id) cs code p (t, l_is, (n, t_is, id_is)) are_coded =
    ap (λ l. optional (id_under LINKED_ID) (l ++ cs)) (l_is ∙ ap (λ u. u ∷ []) t_is) ∙ ap (λ i. (Some i, cs)) id_is

invoke_again : (id : ℤ) (ls : List Tree) (linked : Option ℤ) (cs : List Tree) (code : Code) (p : Option Tree) → AreLinked ls linked → AreCoded cs code p
    → invoke id (ls ++ cs) ≡ Some (Invoke id linked code p)
unfolding invoke
invoke_again id ls linked cs code p are_linked are_coded =
    ap (λ l. option_and_then (λ body. Some (Invoke id l.0 body.0 body.1)) (coded l.1)) (linked_again ls linked cs code p are_linked are_coded)
    ∙ ap (option_and_then (λ body. Some (Invoke id linked body.0 body.1))) (coded_again cs code p are_coded)

outcome_again : (made : ComponentOf Tree) (ts : List Tree) → AreOutcome ts → outcome made ts ≡ Some made
unfolding outcome
outcome_again made ts (inl e) = ap (outcome made) e
outcome_again made ts (inr (cs, code, p, are, e)) =
    ap (outcome made) e ∙ ap (λ us. option_and_then (λ body. Some made) (coded us)) (list_of-trees cs)
    ∙ ap (option_and_then (λ body. Some made)) (coded_again cs code p are)

error_again : (id : ℤ) (cs : List Tree) (code : Code) (p : Option Tree) → AreCoded cs code p → error id cs ≡ Some (ReturnError id code)
unfolding error
error_again id cs code p h = ap (option_and_then (λ body. Some (ReturnError id body.0))) (coded_again cs code p h)

-- a body after an id
body_again : (body : ℤ → List Tree → Option (ComponentOf Tree)) (i : Tree) (id : ℤ) (ts : List Tree) (c : ComponentOf Tree) → IsId INTEGER i id
    → body id ts ≡ Some c → identified body (i ∷ ts) ≡ c
body_again body i id ts c (n, is, same) e =
    ap (λ u. identified body (u ∷ ts)) is ∙ ap (λ j. behind_id body (Some (j, ts))) same ∙ ap (λ o. unwrap_or o (Bad (Some id) MISTYPED_COMPONENT)) e

-- what stands under each tag
at_INVOKE : (ts : List Tree) → component_of (element INVOKE ts) ≡ identified invoke ts
unfolding component_of
at_INVOKE ts = ap (identified invoke) (list_of-trees ts)

at_RESULT_LAST : (ts : List Tree) → component_of (element RESULT_LAST ts) ≡ identified (λ id. outcome (ResultLast id)) ts
unfolding component_of
at_RESULT_LAST ts = ap (identified (λ id. outcome (ResultLast id))) (list_of-trees ts)

at_RESULT_NOT_LAST : (ts : List Tree) → component_of (element RESULT_NOT_LAST ts) ≡ identified (λ id. outcome (ResultNotLast id)) ts
unfolding component_of
at_RESULT_NOT_LAST ts = ap (identified (λ id. outcome (ResultNotLast id))) (list_of-trees ts)

at_RETURN_ERROR : (ts : List Tree) → component_of (element RETURN_ERROR ts) ≡ identified error ts
unfolding component_of
at_RETURN_ERROR ts = ap (identified error) (list_of-trees ts)

at_REJECT : (ts : List Tree) → component_of (element REJECT ts) ≡ reject_or_ignored ts
unfolding component_of
at_REJECT ts = ap reject_or_ignored (list_of-trees ts)

reject_again : (r : Tree) (id : Option ℤ) (side : Side) (problem : ℕ) → IsRejected r id
    → reject (r ∷ Primitive (problem_tag side) (problem ∷ []) ∷ []) ≡ Some (Reject id side problem)
unfolding reject
reject_again r None General problem h = ap (λ u. reject (u ∷ Primitive GENERAL_PROBLEM (problem ∷ []) ∷ [])) h
reject_again r None OfInvoke problem h = ap (λ u. reject (u ∷ Primitive INVOKE_PROBLEM (problem ∷ []) ∷ [])) h
reject_again r None OfResult problem h = ap (λ u. reject (u ∷ Primitive RESULT_PROBLEM (problem ∷ []) ∷ [])) h
reject_again r None OfError problem h = ap (λ u. reject (u ∷ Primitive ERROR_PROBLEM (problem ∷ []) ∷ [])) h
reject_again r (Some id) General problem (n, is, same) = ap (λ u. reject (u ∷ Primitive GENERAL_PROBLEM (problem ∷ []) ∷ [])) is
    ∙ ap (λ j. Some (Reject (Some j) General problem)) same
reject_again r (Some id) OfInvoke problem (n, is, same) = ap (λ u. reject (u ∷ Primitive INVOKE_PROBLEM (problem ∷ []) ∷ [])) is
    ∙ ap (λ j. Some (Reject (Some j) OfInvoke problem)) same
reject_again r (Some id) OfResult problem (n, is, same) = ap (λ u. reject (u ∷ Primitive RESULT_PROBLEM (problem ∷ []) ∷ [])) is
    ∙ ap (λ j. Some (Reject (Some j) OfResult problem)) same
reject_again r (Some id) OfError problem (n, is, same) = ap (λ u. reject (u ∷ Primitive ERROR_PROBLEM (problem ∷ []) ∷ [])) is
    ∙ ap (λ j. Some (Reject (Some j) OfError problem)) same

pub well_formed_again : (t : Tree) (c : ComponentOf Tree) → IsWellFormed t c → component_of t ≡ c
well_formed_again t (Invoke id linked code p) (i, is_id, ls, are_linked, cs, are_coded, is) =
    ap component_of is ∙ at_INVOKE (i ∷ ls ++ cs) ∙ body_again invoke i id (ls ++ cs) _ is_id (invoke_again id ls linked cs code p are_linked are_coded)
well_formed_again t (ResultLast id) (i, is_id, ts, are, is) =
    ap component_of is ∙ at_RESULT_LAST (i ∷ ts) ∙ body_again (λ id. outcome (ResultLast id)) i id ts _ is_id (outcome_again (ResultLast id) ts are)
well_formed_again t (ResultNotLast id) (i, is_id, ts, are, is) =
    ap component_of is ∙ at_RESULT_NOT_LAST (i ∷ ts) ∙ body_again (λ id. outcome (ResultNotLast id)) i id ts _ is_id (outcome_again (ResultNotLast id) ts are)
well_formed_again t (ReturnError id code) (i, is_id, cs, p, are_coded, is) =
    ap component_of is ∙ at_RETURN_ERROR (i ∷ cs) ∙ body_again error i id cs _ is_id (error_again id cs code p are_coded)
well_formed_again t (Reject id side problem) (r, is_r, is) =
    ap component_of is ∙ at_REJECT (r ∷ Primitive (problem_tag side) (problem ∷ []) ∷ []) ∙ ap (λ o. unwrap_or o Ignored) (reject_again r id side problem is_r)
well_formed_again t (Bad id problem) h = absurd h
well_formed_again t Ignored h = absurd h

-- ---- what is read has its form

-- what is read as no well-formed component is ill-formed
ill_if_bad : (t : Tree) (id : Option ℤ) (problem : ℕ) → component_of t ≡ Bad id problem → IsIll t
ill_if_bad t id problem e c h = subst (IsWellFormed t) (sym (well_formed_again t c h) ∙ e) h

ill_if_ignored : (t : Tree) → component_of t ≡ Ignored → IsIll t
ill_if_ignored t e c h = subst (IsWellFormed t) (sym (well_formed_again t c h) ∙ e) h

pub well_formed : (t : Tree) (c : ComponentOf Tree) → IsWellFormed t c → IsComponent t c
well_formed t (Invoke id linked code p) h = h
well_formed t (ResultLast id) h = h
well_formed t (ResultNotLast id) h = h
well_formed t (ReturnError id code) h = h
well_formed t (Reject id side problem) h = h
well_formed t (Bad id problem) h = absurd h
well_formed t Ignored h = absurd h

abbrev Finds : Tag → (ℤ → List Tree → Option (ComponentOf Tree)) → Type 0
Finds tag body = (i : Tree) (id : ℤ) (ts : List Tree) (c : ComponentOf Tree) → IsId INTEGER i id → body id ts ≡ Some c → IsWellFormed (element tag (i ∷ ts)) c

-- an id that comes first is read, and if none is read none comes first
front_read : (ts : List Tree) (id : ℤ) → BeginsWithId ts id → (rest : List Tree) × (first (id_under INTEGER) ts ≡ Some (id, rest))
front_read ts id (i, rest, (n, is, same), e) = (rest, ap (first (id_under INTEGER)) (e ∙ ap (λ u. u ∷ rest) is) ∙ ap (λ j. Some (j, rest)) same)

no_front : (ts : List Tree) → first (id_under INTEGER) ts ≡ None → (id : ℤ) → BeginsWithId ts id → ⊥
no_front ts e id h = let (rest, f) = front_read ts id h in cc

body_is : (t : Tree) (tag : Tag) (body : ℤ → List Tree → Option (ComponentOf Tree)) → Finds tag body → (i : Tree) (id : ℤ) (ts : List Tree)
    → t ≡ element tag (i ∷ ts) → HasIdTag t (i ∷ ts) → IsId INTEGER i id →
    (o : Option (ComponentOf Tree)) → body id ts ≡ o → component_of t ≡ unwrap_or o (Bad (Some id) MISTYPED_COMPONENT)
    → IsComponent t (unwrap_or o (Bad (Some id) MISTYPED_COMPONENT))
body_is t tag body finds i id ts is has is_id None e f = (refl, i ∷ ts, has, (i, ts, is_id, refl), ill_if_bad t _ _ f)
body_is t tag body finds i id ts is has is_id (Some c) e f = well_formed t c (subst (λ u. IsWellFormed u c) (sym is) (finds i id ts c is_id e))

identified_is : (t : Tree) (tag : Tag) (body : ℤ → List Tree → Option (ComponentOf Tree)) → Finds tag body → (ts : List Tree) → t ≡ element tag ts
    → HasIdTag t ts →
    (o : Option (ℤ × List Tree)) → first (id_under INTEGER) ts ≡ o → component_of t ≡ behind_id body o → IsComponent t (behind_id body o)
identified_is t tag body finds ts is has None e f = inr (refl, ts, has, no_front ts e)
identified_is t tag body finds ts is has (Some x) e f =
    let (i, parts, read) = first-some (id_under INTEGER) ts x e in
    body_is t tag body finds i x.0 x.1 (is ∙ ap (element tag) parts) (subst (HasIdTag t) parts has) (id_found INTEGER i x.0 read) (body x.0 x.1) refl f

reject_is : (t : Tree) (ts : List Tree) → t ≡ element REJECT ts → (o : Option (ComponentOf Tree)) → reject ts ≡ o → component_of t ≡ unwrap_or o Ignored
    → IsComponent t (unwrap_or o Ignored)
reject_is t ts is None e f = (ts, is, ill_if_ignored t f)
reject_is t ts is (Some c) e f = well_formed t c (subst (λ u. IsWellFormed u c) (sym is) (reject_found ts c e))

-- the children under each tag
abbrev by_tags : (invokes lasts not_lasts errors rejects : Option (List Tree)) → ComponentOf Tree
by_tags a b c d e =
    if_under a (identified invoke)
    (if_under b (identified (λ id. outcome (ResultLast id)))
    (if_under c (identified (λ id. outcome (ResultNotLast id)))
    (if_under d (identified error) (if_under e reject_or_ignored (Bad None UNRECOGNIZED_COMPONENT)))))

none_under : (tag : Tag) (t : Tree) → children_of tag t ≡ None → (ts : List Tree) → t ≡ element tag ts → ⊥
none_under tag t e ts is = let f : children_of tag t ≡ Some ts = ap (children_of tag) is ∙ children_of-element tag ts in cc

tag_is : (t : Tree) (a b c d e : Option (List Tree)) → children_of INVOKE t ≡ a → children_of RESULT_LAST t ≡ b → children_of RESULT_NOT_LAST t ≡ c
    → children_of RETURN_ERROR t ≡ d → children_of REJECT t ≡ e →
    component_of t ≡ by_tags a b c d e → IsComponent t (by_tags a b c d e)
tag_is t (Some ts) b c d e ea eb ec ed ee f =
    let is = children_of-some INVOKE t ts ea in
    identified_is t INVOKE invoke invoke_found ts is (inl is) (first (id_under INTEGER) ts) refl f
tag_is t None (Some ts) c d e ea eb ec ed ee f =
    let is = children_of-some RESULT_LAST t ts eb in
    identified_is t RESULT_LAST (λ id. outcome (ResultLast id)) last_found ts is (inr (inl is)) (first (id_under INTEGER) ts) refl f
tag_is t None None (Some ts) d e ea eb ec ed ee f =
    let is = children_of-some RESULT_NOT_LAST t ts ec in
    identified_is t RESULT_NOT_LAST (λ id. outcome (ResultNotLast id)) not_last_found ts is (inr (inr (inl is))) (first (id_under INTEGER) ts) refl f
tag_is t None None None (Some ts) e ea eb ec ed ee f =
    let is = children_of-some RETURN_ERROR t ts ed in
    identified_is t RETURN_ERROR error error_found ts is (inr (inr (inr is))) (first (id_under INTEGER) ts) refl f
tag_is t None None None None (Some ts) ea eb ec ed ee f = reject_is t ts (children_of-some REJECT t ts ee) (reject ts) refl f
tag_is t None None None None None ea eb ec ed ee f = inl (refl, no_id_tag, none_under REJECT t ee)
  where
    no_id_tag : (ts : List Tree) → HasIdTag t ts → ⊥
    no_id_tag ts (inl is) = none_under INVOKE t ea ts is
    no_id_tag ts (inr (inl is)) = none_under RESULT_LAST t eb ts is
    no_id_tag ts (inr (inr (inl is))) = none_under RESULT_NOT_LAST t ec ts is
    no_id_tag ts (inr (inr (inr is))) = none_under RETURN_ERROR t ed ts is

-- each tree is the component that it is read as
pub component_found : (t : Tree) → IsComponent t (component_of t)
unfolding component_of
component_found t = tag_is t (children_of INVOKE t) (children_of RESULT_LAST t) (children_of RESULT_NOT_LAST t) (children_of RETURN_ERROR t)
    (children_of REJECT t) refl refl refl refl refl refl

-- ---- and no other

-- with an id's tag, what is read is what follows the id
record Under (t : Tree) (ts : List Tree) : Type 0 where
  tag : Tag
  body : ℤ → List Tree → Option (ComponentOf Tree)
  finds : Finds tag body
  spelled : t ≡ element tag ts
  read : component_of t ≡ identified body ts

under_tag : (t : Tree) (ts : List Tree) → HasIdTag t ts → Under t ts
under_tag t ts (inl is) = record { tag = INVOKE; body = invoke; finds = invoke_found; spelled = is; read = ap component_of is ∙ at_INVOKE ts }
under_tag t ts (inr (inl is)) = record {
  tag = RESULT_LAST;
  body = λ id. outcome (ResultLast id);
  finds = last_found;
  spelled = is;
  read = ap component_of is
      ∙ at_RESULT_LAST ts;
}
under_tag t ts (inr (inr (inl is))) = record {
  tag = RESULT_NOT_LAST;
  body = λ id. outcome
      (ResultNotLast id);
  finds = not_last_found;
  spelled = is;
  read = ap component_of is ∙ at_RESULT_NOT_LAST ts;
}
under_tag t ts (inr (inr (inr is))) = record {
  tag = RETURN_ERROR;
  body = error;
  finds = error_found;
  spelled = is;
  read = ap component_of is
      ∙ at_RETURN_ERROR ts;
}

no_id_again : (t : Tree) (ts : List Tree) → HasIdTag t ts → ((id : ℤ) → BeginsWithId ts id → ⊥) → component_of t ≡ Bad None MISTYPED_COMPONENT
no_id_again t ts has none = let u = under_tag t ts has in u.read ∙ go u.body (first (id_under INTEGER) ts) refl
  where
    go : (body : ℤ → List Tree → Option (ComponentOf Tree)) (o : Option (ℤ × List Tree)) → first (id_under INTEGER) ts ≡ o
        → behind_id body o ≡ Bad None MISTYPED_COMPONENT
    go body None e = refl
    go body (Some x) e = let (i, parts, read) = first-some (id_under INTEGER) ts x e in absurd (none x.0 (i, x.1, id_found INTEGER i x.0 read, parts))

-- what begins with an id and is no well-formed component is bad, with this id
bad_again : (t : Tree) (ts : List Tree) (id : ℤ) → HasIdTag t ts → BeginsWithId ts id → IsIll t → component_of t ≡ Bad (Some id) MISTYPED_COMPONENT
bad_again t ts id has (i, rest, is_id, parts) ill =
    let u = under_tag t ts has in
    u.read ∙ ap (identified u.body) parts ∙ front i rest is_id u.body ∙ behind u (u.body id rest) refl
  where
    front : (i : Tree) (rest : List Tree) → IsId INTEGER i id → (body : ℤ → List Tree → Option (ComponentOf Tree))
        → identified body (i ∷ rest) ≡ behind_id body (Some (id, rest))
    front i rest (n, is, same) body = ap (λ v. identified body (v ∷ rest)) is ∙ ap (λ j. behind_id body (Some (j, rest))) same

    behind : (u : Under t ts) (o : Option (ComponentOf Tree)) → u.body id rest ≡ o
        → unwrap_or (u.body id rest) (Bad (Some id) MISTYPED_COMPONENT) ≡ Bad (Some id) MISTYPED_COMPONENT
    behind u None e = ap (λ o. unwrap_or o (Bad (Some id) MISTYPED_COMPONENT)) e
    behind u (Some c) e = absurd (ill c (subst (λ v. IsWellFormed v c) (sym (u.spelled ∙ ap (element u.tag) parts)) (u.finds i id rest c is_id e)))

ignored_again : (t : Tree) (ts : List Tree) → t ≡ element REJECT ts → IsIll t → component_of t ≡ Ignored
ignored_again t ts is ill = ap component_of is ∙ at_REJECT ts ∙ go (reject ts) refl
  where
    go : (o : Option (ComponentOf Tree)) → reject ts ≡ o → unwrap_or o Ignored ≡ Ignored
    go None e = refl
    go (Some c) e = absurd (ill c (subst (λ v. IsWellFormed v c) (sym is) (reject_found ts c e)))

unrecognized_again : (t : Tree) → ((ts : List Tree) → HasIdTag t ts → ⊥) → ((ts : List Tree) → t ≡ element REJECT ts → ⊥)
    → component_of t ≡ Bad None UNRECOGNIZED_COMPONENT
unfolding component_of
unrecognized_again t no_id no_reject = go (children_of INVOKE t) (children_of RESULT_LAST t) (children_of RESULT_NOT_LAST t) (children_of RETURN_ERROR t)
    (children_of REJECT t) refl refl refl refl refl
  where
    go : (a b c d e : Option (List Tree)) → children_of INVOKE t ≡ a → children_of RESULT_LAST t ≡ b → children_of RESULT_NOT_LAST t ≡ c
        → children_of RETURN_ERROR t ≡ d → children_of REJECT t ≡ e →
        by_tags a b c d e ≡ Bad None UNRECOGNIZED_COMPONENT
    go (Some ts) b c d e ea eb ec ed ee = absurd (no_id ts (inl (children_of-some INVOKE t ts ea)))
    go None (Some ts) c d e ea eb ec ed ee = absurd (no_id ts (inr (inl (children_of-some RESULT_LAST t ts eb))))
    go None None (Some ts) d e ea eb ec ed ee = absurd (no_id ts (inr (inr (inl (children_of-some RESULT_NOT_LAST t ts ec)))))
    go None None None (Some ts) e ea eb ec ed ee = absurd (no_id ts (inr (inr (inr (children_of-some RETURN_ERROR t ts ed)))))
    go None None None None (Some ts) ea eb ec ed ee = absurd (no_reject ts (children_of-some REJECT t ts ee))
    go None None None None None ea eb ec ed ee = refl

pub component_again : (t : Tree) (c : ComponentOf Tree) → IsComponent t c → component_of t ≡ c
component_again t (Invoke id linked code p) h = well_formed_again t (Invoke id linked code p) h
component_again t (ResultLast id) h = well_formed_again t (ResultLast id) h
component_again t (ResultNotLast id) h = well_formed_again t (ResultNotLast id) h
component_again t (ReturnError id code) h = well_formed_again t (ReturnError id code) h
component_again t (Reject id side problem) h = well_formed_again t (Reject id side problem) h
component_again t (Bad None problem) (inl (is, no_id, no_reject)) = unrecognized_again t no_id no_reject ∙ ap (Bad None) (sym is)
component_again t (Bad None problem) (inr (is, ts, has, none)) = no_id_again t ts has none ∙ ap (Bad None) (sym is)
component_again t (Bad (Some id) problem) (is, ts, has, front, ill) = bad_again t ts id has front ill ∙ ap (Bad (Some id)) (sym is)
component_again t Ignored (ts, is, ill) = ignored_again t ts is ill

pub ruleset component_laws = (component_found, component_again)
