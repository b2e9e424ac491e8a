-- A dialogue portion is read exactly if the tree has its form.
use Rattle.std.proofs.Common.{◌≡◌, ℕ, ◌≤◌, Bool, true, false, leb, ltb, cond, ◌&&◌, List, [], ◌∷◌, ◌++◌, length, refl, ap, sym, ◌∙◌, subst, arith, inl, inr, ◌⊎◌}
use Rattle.std.specs.Prelude.{Option, Some, None, option_and_then, option_map, is_some}
use Rattle.std.specs.Str.{bytes_eq}
use Rattle.std.proofs.lemmas.Bool.{leb-true, le-leb, ltb-true, lt-ltb}
use Rattle.std.proofs.lemmas.Slice.Eq.{bytes_eq-Decides}
use Rattle.x690.specs.declared.Tag.{Tag}
use Rattle.x690.specs.Tree.{Tree, Primitive, element}
use Rattle.x690.specs.Reading.{octets_of, octet_of, children_of, only_child}
use Rattle.x690.specs.Elements.{first, optional, or_all}
use Rattle.x690.proofs.Forests.{list_of-trees}
use Rattle.x690.proofs.Readings.{bind_some, some_is, none_not, octets_of-some, octet_of-some, children_of-some, only_child-some, first-some, first_octets, both_true}
use Rattle.machine.specs.Received.{Diagnostic, OfUser, OfProvider, Apdu, Aarq, Aare, Abrt}
use Rattle.frames.specs.declared.tags.TheConstants.{INTEGER, OBJECT_IDENTIFIER, EXTERNAL, DIALOGUE_PORTION, SINGLE_ASN1_TYPE, AARQ, AARE, ABRT, VERSION, CONTEXT_NAME, RESULT, RESULT_SOURCE, DIAGNOSTIC_OF_USER, DIAGNOSTIC_OF_PROVIDER, ABORT_SOURCE, USER_INFORMATION}
use Rattle.frames.specs.declared.numbers.TheConstants.{DIALOGUE_AS_ID}
use Rattle.frames.specs.Choices.{or, when}
use Rattle.frames.specs.Dialogues.{is_version, after_version, context_of, result_of, diagnostic_under, diagnostic_of, may_end_apdu, request_of, response_of, dialogue_abort_of, apdu_of, in_external, dialogue_of}
use Rattle.frames.specs.DialogueForms.{IsVersion, AreVersion, IsContext, octet_in, diagnostic_tree, AreInformation, IsApdu, IsDialogue}

abbrev aare : List ℕ → ℕ → Diagnostic → Apdu
aare name n d = Aare (record { context = name; result = n; diagnostic = d })

or-some : {A : Type 0} (a b : Option A) (x : A) → or a b ≡ Some x → (a ≡ Some x) ⊎ (b ≡ Some x)
or-some None b x e = inr e
or-some (Some a) b x e = inl e

when-some : {A : Type 0} (b : Bool) (x y : A) → when b x ≡ Some y → (b ≡ true) × (x ≡ y)
when-some true x y e = (refl, some_is e)
when-some false x y e = absurd cc

version_is : (octets : List ℕ) → is_version octets ≡ true → IsVersion octets
version_is [] e = absurd cc
version_is (unused ∷ []) e = absurd cc
version_is (unused ∷ bits ∷ rest) e =
    let (few, set) = both_true (leb unused 7) (leb 128 bits) e in
    (unused, bits, rest, refl, leb-true unused 7 few, leb-true 128 bits set)

version_test : (octets : List ℕ) → IsVersion octets → is_version octets ≡ true
version_test octets (unused, bits, rest, is, few, set) =
    ap is_version is ∙ ap (λ b. b && leb 128 bits) (le-leb unused 7 few) ∙ le-leb 128 bits set

version_found : (ts : List Tree) (o : Option (List ℕ × List Tree)) (rest : List Tree) → first (octets_of VERSION) ts ≡ o
    → after_version (or_all ts o) ≡ Some rest → (vs : List Tree) × AreVersion vs × (ts ≡ vs ++ rest)
version_found ts None rest e f = ([], inl refl, some_is f)
version_found ts (Some x) rest e f =
    let (good, same) = when-some (is_version x.0) x.1 rest f in
    (Primitive VERSION x.0 ∷ [], inr (x.0, refl, version_is x.0 good), first_octets VERSION ts x e ∙ ap (λ r. Primitive VERSION x.0 ∷ r) same)

context_found : (t : Tree) (name : List ℕ) → context_of t ≡ Some name → IsContext t name
context_found t name e =
    let (u, is_u, e1) = bind_some (only_child CONTEXT_NAME t) _ name e in
    let (octets, is_octets, e2) = bind_some (octets_of OBJECT_IDENTIFIER u) _ name e1 in
    let (fits, same) = when-some (ltb 0 (length octets) && leb (length octets) 32) octets name e2 in
    let (low, high) = both_true (ltb 0 (length octets)) (leb (length octets) 32) fits in
    let low' = ltb-true 0 (length octets) low in
    let high' = leb-true (length octets) 32 high in
    let len = ap length same in (
      only_child-some CONTEXT_NAME t u is_u ∙ ap (λ v. element CONTEXT_NAME (v ∷ []))
          (octets_of-some OBJECT_IDENTIFIER u octets is_octets ∙ ap (Primitive OBJECT_IDENTIFIER) same),
      omega arith,
      omega arith,
    )

outcome_found : (t : Tree) (n : ℕ) → result_of t ≡ Some n → t ≡ octet_in RESULT n
outcome_found t n e =
    let (u, is_u, e1) = bind_some (only_child RESULT t) _ n e in
    only_child-some RESULT t u is_u ∙ ap (λ v. element RESULT (v ∷ [])) (octet_of-some INTEGER u n e1)

under_found : (tag : Tag) (source : ℕ → Diagnostic) (t : Tree) (d : Diagnostic) → diagnostic_under tag source t ≡ Some d
    → (n : ℕ) × (t ≡ octet_in tag n) × (source n ≡ d)
under_found tag source t d e =
    let (u, is_u, e1) = bind_some (only_child tag t) _ d e in
    let (n, is_n, e2) = bind_some (octet_of INTEGER u) _ d e1 in
    (n, only_child-some tag t u is_u ∙ ap (λ v. element tag (v ∷ [])) (octet_of-some INTEGER u n is_n), some_is e2)

diagnostic_found : (t : Tree) (d : Diagnostic) → diagnostic_of t ≡ Some d → t ≡ diagnostic_tree d
diagnostic_found t d e =
    let (u, is_u, e1) = bind_some (only_child RESULT_SOURCE t) _ d e in
    let outer = only_child-some RESULT_SOURCE t u is_u in
    elim (or-some (diagnostic_under DIAGNOSTIC_OF_USER OfUser u) _ d e1) [
      | inl f ↦ let (n, is, same) = under_found DIAGNOSTIC_OF_USER OfUser u d f in outer ∙ ap (λ v. element RESULT_SOURCE (v ∷ [])) is ∙ ap diagnostic_tree same
      | inr f ↦ let (n, is, same) = under_found DIAGNOSTIC_OF_PROVIDER OfProvider u d f in outer ∙ ap (λ v. element RESULT_SOURCE (v ∷ [])) is
          ∙ ap diagnostic_tree same
    ]

some_of : {A : Type 0} (o : Option A) → is_some o ≡ true → (x : A) × (o ≡ Some x)
some_of None e = absurd cc
some_of (Some x) e = (x, refl)

information_found : (ts : List Tree) → may_end_apdu ts ≡ true → AreInformation ts
information_found [] e = inl refl
information_found (t ∷ []) e =
    let (us, is) = some_of (children_of USER_INFORMATION t) e in
    inr (us, ap (λ u. u ∷ []) (children_of-some USER_INFORMATION t us is))
information_found (t ∷ u ∷ ts) e = absurd cc

request_found : (ts : List Tree) (p : Apdu) → request_of ts ≡ Some p → IsApdu (element AARQ ts) p
unfolding request_of
request_found ts p e =
    let (rest, is_rest, e1) = bind_some (after_version (optional (octets_of VERSION) ts)) _ p e in
    let (context, is_context, e2) = bind_some (first context_of rest) _ p e1 in
    let (ends, same) = when-some (may_end_apdu context.1) (Aarq context.0) p e2 in
    let (vs, version, split) = version_found ts (first (octets_of VERSION) ts) rest refl is_rest in
    let (c, is_c, read) = first-some context_of rest context is_context in
    subst (IsApdu (element AARQ ts)) same
    (vs, version, c, context_found c context.0 read, context.1, information_found context.1 ends, ap (element AARQ) (split ∙ ap (λ r. vs ++ r) is_c))

response_found : (ts : List Tree) (p : Apdu) → response_of ts ≡ Some p → IsApdu (element AARE ts) p
unfolding response_of
response_found ts p e =
    let (rest, is_rest, e1) = bind_some (after_version (optional (octets_of VERSION) ts)) _ p e in
    let (context, is_context, e2) = bind_some (first context_of rest) _ p e1 in
    let (outcome, is_outcome, e3) = bind_some (first result_of context.1) _ p e2 in
    let (diagnostic, is_diagnostic, e4) = bind_some (first diagnostic_of outcome.1) _ p e3 in
    let (ends, same) = when-some (may_end_apdu diagnostic.1) (aare context.0 outcome.0 diagnostic.0) p e4 in
    let (vs, version, split) = version_found ts (first (octets_of VERSION) ts) rest refl is_rest in
    let (c, is_c, read) = first-some context_of rest context is_context in
    let (o, is_o, read_o) = first-some result_of context.1 outcome is_outcome in
    let (d, is_d, read_d) = first-some diagnostic_of outcome.1 diagnostic is_diagnostic in
    let tail = is_o ∙ ap (λ u. u ∷ outcome.1) (outcome_found o outcome.0 read_o)
    ∙ ap (λ r. octet_in RESULT outcome.0 ∷ r) (is_d ∙ ap (λ u. u ∷ diagnostic.1) (diagnostic_found d diagnostic.0 read_d)) in
    subst (IsApdu (element AARE ts)) same (
      vs,
      version,
      c,
      context_found c context.0 read,
      diagnostic.1,
      information_found diagnostic.1 ends,
      ap (element AARE)
          (split ∙ ap (λ r. vs ++ r) (is_c ∙ ap (λ r. c ∷ r) tail)),
    )

abort_found : (ts : List Tree) (p : Apdu) → dialogue_abort_of ts ≡ Some p → IsApdu (element ABRT ts) p
unfolding dialogue_abort_of
abort_found ts p e =
    let (source, is_source, e1) = bind_some (first (octet_of ABORT_SOURCE) ts) _ p e in
    let (fits, same) = when-some (leb source.0 1 && may_end_apdu source.1) (Abrt source.0) p e1 in
    let (low, ends) = both_true (leb source.0 1) (may_end_apdu source.1) fits in
    let (t, is_t, read) = first-some (octet_of ABORT_SOURCE) ts source is_source in
    subst (IsApdu (element ABRT ts)) same (
      source.1,
      information_found source.1 ends,
      leb-true source.0 1 low,
      ap (element ABRT)
          (is_t ∙ ap (λ u. u ∷ source.1) (octet_of-some ABORT_SOURCE t source.0 read)),
    )

kind_found : (tag : Tag) (t : Tree) (p : Apdu) (read : List Tree → Option Apdu) → ((ts : List Tree) → read ts ≡ Some p → IsApdu (element tag ts) p)
    → option_and_then read (children_of tag t) ≡ Some p → IsApdu t p
kind_found tag t p read here e =
    let (ts, is_ts, e1) = bind_some (children_of tag t) read p e in
    subst (λ u. IsApdu u p) (sym (children_of-some tag t ts is_ts)) (here ts e1)

apdu_found : (t : Tree) (p : Apdu) → apdu_of t ≡ Some p → IsApdu t p
apdu_found t p e =
    elim (or-some (option_and_then request_of (children_of AARQ t)) _ p e) [
      | inl f ↦ kind_found AARQ t p request_of (λ ts. request_found ts p) f
      | inr f ↦ elim (or-some (option_and_then response_of (children_of AARE t)) _ p f) [
        | inl g ↦ kind_found AARE t p response_of (λ ts. response_found ts p) g
        | inr g ↦ kind_found ABRT t p dialogue_abort_of (λ ts. abort_found ts p) g
      ]
    ]

external_found : (ts : List Tree) (p : Apdu) → in_external ts ≡ Some p
    → (u : Tree) × IsApdu u p × (ts ≡ Primitive OBJECT_IDENTIFIER DIALOGUE_AS_ID ∷ element SINGLE_ASN1_TYPE (u ∷ []) ∷ [])
external_found [] p e = absurd cc
external_found (n ∷ []) p e = absurd cc
external_found (n ∷ encoding ∷ []) p e =
    let (name, is_name, e1) = bind_some (octets_of OBJECT_IDENTIFIER n) _ p e in
    let (u, is_u, e2) = bind_some (only_child SINGLE_ASN1_TYPE encoding) _ p e1 in
    let (same, read) = named (bytes_eq name DIALOGUE_AS_ID) (apdu_of u) p e2 in
    let is = (bytes_eq-Decides name DIALOGUE_AS_ID).0 same in (
      u,
      apdu_found u p read,
      ap (λ x. x ∷ encoding ∷ []) (octets_of-some OBJECT_IDENTIFIER n name is_name ∙ ap (Primitive OBJECT_IDENTIFIER) is)
          ∙ ap (λ x. Primitive OBJECT_IDENTIFIER DIALOGUE_AS_ID ∷ x ∷ []) (only_child-some SINGLE_ASN1_TYPE encoding u is_u),
    )
  where
    named : (b : Bool) (o : Option Apdu) (p : Apdu) → cond b o None ≡ Some p → (b ≡ true) × (o ≡ Some p)
    named true o p e = (refl, e)
    named false o p e = absurd cc
external_found (n ∷ encoding ∷ t ∷ ts) p e = absurd cc

pub dialogue_found : (t : Tree) (p : Apdu) → dialogue_of t ≡ Some p → IsDialogue t p
unfolding dialogue_of
dialogue_found t p e =
    let (external, is_external, e1) = bind_some (only_child DIALOGUE_PORTION t) _ p e in
    let (ts, is_ts, e2) = bind_some (children_of EXTERNAL external) _ p e1 in
    let (u, pdu, split) = external_found ts p e2 in (
      u,
      pdu,
      only_child-some DIALOGUE_PORTION t external is_external
          ∙ ap (λ x. element DIALOGUE_PORTION (x ∷ [])) (children_of-some EXTERNAL external ts is_ts ∙ ap (element EXTERNAL) split),
    )

-- ---- and what has the form is read

context_again : (c : Tree) (name : List ℕ) → IsContext c name → context_of c ≡ Some name
context_again c name (is, some, most) =
    let low : ltb 0 (length name) ≡ true = lt-ltb _ _ (omega arith) in
    let high : leb (length name) 32 ≡ true = le-leb _ _ most in
    ap context_of is ∙ ap (λ b. when (b && leb (length name) 32) name) low ∙ ap (λ b. when b name) high

version_again : (vs rest : List Tree) → AreVersion vs → first (octets_of VERSION) rest ≡ None
    → after_version (optional (octets_of VERSION) (vs ++ rest)) ≡ Some rest
version_again vs rest (inl e) none = ap (λ l. after_version (optional (octets_of VERSION) (l ++ rest))) e ∙ ap (λ o. after_version (or_all rest o)) none
version_again vs rest (inr (octets, e, good)) none = ap (λ l. after_version (optional (octets_of VERSION) (l ++ rest))) e
    ∙ ap (λ b. when b rest) (version_test octets good)

unversioned : (c : Tree) (name : List ℕ) (rest : List Tree) → IsContext c name → first (octets_of VERSION) (c ∷ rest) ≡ None
unversioned c name rest (is, some, most) = ap (λ u. first (octets_of VERSION) (u ∷ rest)) is

information_again : (ts : List Tree) → AreInformation ts → may_end_apdu ts ≡ true
information_again ts (inl e) = ap may_end_apdu e
information_again ts (inr (us, e)) = ap may_end_apdu e

abbrev next : {A : Type 0} → List Tree → Option A → Option (A × List Tree)
next ts o = option_map (λ a. (a, ts)) o

outcome_again : (n : ℕ) → result_of (octet_in RESULT n) ≡ Some n
outcome_again n = refl

diagnostic_again : (d : Diagnostic) → diagnostic_of (diagnostic_tree d) ≡ Some d
diagnostic_again (OfUser d) = refl
diagnostic_again (OfProvider d) = refl

request_again : (vs : List Tree) (c : Tree) (name : List ℕ) (us : List Tree) → AreVersion vs → IsContext c name → AreInformation us
    → request_of (vs ++ c ∷ us) ≡ Some (Aarq name)
unfolding request_of
request_again vs c name us version context information =
    ap (option_and_then (λ ts. option_and_then (λ (x : List ℕ × List Tree). when (may_end_apdu x.1) (Aarq x.0)) (first context_of ts)))
    (version_again vs (c ∷ us) version (unversioned c name us context))
    ∙ ap (λ o. option_and_then (λ (x : List ℕ × List Tree). when (may_end_apdu x.1) (Aarq x.0)) (next us o)) (context_again c name context)
    ∙ ap (λ b. when b (Aarq name)) (information_again us information)

response_again : (vs : List Tree) (c : Tree) (name : List ℕ) (n : ℕ) (d : Diagnostic) (us : List Tree) → AreVersion vs → IsContext c name → AreInformation us →
    response_of (vs ++ c ∷ octet_in RESULT n ∷ diagnostic_tree d ∷ us) ≡ Some (aare name n d)
unfolding response_of
response_again vs c name n d us version context information =
    let rest = octet_in RESULT n ∷ diagnostic_tree d ∷ us in
    ap (option_and_then (λ ts. option_and_then (λ (x : List ℕ × List Tree). option_and_then
    (λ (o : ℕ × List Tree). option_and_then (λ (g : Diagnostic × List Tree). when (may_end_apdu g.1) (aare x.0 o.0 g.0)) (first diagnostic_of o.1))
    (first result_of x.1)) (first context_of ts))) (version_again vs (c ∷ rest) version (unversioned c name rest context))
    ∙ ap (λ i. option_and_then (λ (x : List ℕ × List Tree). option_and_then
    (λ (o : ℕ × List Tree). option_and_then (λ (g : Diagnostic × List Tree). when (may_end_apdu g.1) (aare x.0 o.0 g.0)) (first diagnostic_of o.1))
    (first result_of x.1)) (next rest i)) (context_again c name context)
    ∙ ap (λ i. option_and_then (λ (g : Diagnostic × List Tree). when (may_end_apdu g.1) (aare name n g.0)) (next us i)) (diagnostic_again d)
    ∙ ap (λ b. when b (aare name n d)) (information_again us information)

abort_again : (source : ℕ) (us : List Tree) → source ≤ 1 → AreInformation us
    → dialogue_abort_of (Primitive ABORT_SOURCE (source ∷ []) ∷ us) ≡ Some (Abrt source)
unfolding dialogue_abort_of
abort_again source us small information =
    ap (λ b. when (b && may_end_apdu us) (Abrt source)) (le-leb source 1 small) ∙ ap (λ b. when b (Abrt source)) (information_again us information)

pub apdu_again : (t : Tree) (p : Apdu) → IsApdu t p → apdu_of t ≡ Some p
apdu_again t (Aarq name) (vs, version, c, context, us, information, is) =
    ap apdu_of is ∙ ap (λ ts. or (request_of ts) None) (list_of-trees (vs ++ c ∷ us))
    ∙ ap (λ o. or o None) (request_again vs c name us version context information)
apdu_again t (Aare response) (vs, version, c, context, us, information, is) =
    let name = response.context in
    let n = response.result in
    let d = response.diagnostic in
    ap apdu_of is ∙ ap (λ ts. or (response_of ts) None) (list_of-trees (vs ++ c ∷ octet_in RESULT n ∷ diagnostic_tree d ∷ us))
    ∙ ap (λ o. or o None) (response_again vs c name n d us version context information)
apdu_again t (Abrt source) (us, information, small, is) =
    ap apdu_of is ∙ ap dialogue_abort_of (list_of-trees (Primitive ABORT_SOURCE (source ∷ []) ∷ us)) ∙ abort_again source us small information

pub dialogue_again : (t : Tree) (p : Apdu) → IsDialogue t p → dialogue_of t ≡ Some p
unfolding dialogue_of
dialogue_again t p (u, pdu, is) = ap dialogue_of is ∙ apdu_again u p pdu

pub dialogue_none : (t : Tree) → dialogue_of t ≡ None → (p : Apdu) → IsDialogue t p → ⊥
dialogue_none t e p is = none_not e (dialogue_again t p is)

pub ruleset form_laws = (dialogue_found, dialogue_none)
