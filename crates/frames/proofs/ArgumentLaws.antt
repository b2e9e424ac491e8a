-- A parameter is read exactly if the tree has its form: its type, and its value.
use Rattle.std.proofs.Common.{◌≡◌, ℕ, Bool, true, false, cond, eqb, List, [], ◌∷◌, ◌++◌, refl, ap, sym, ◌∙◌, subst, inl, inr}
use Rattle.std.specs.Prelude.{Option, Some, None, option_and_then, option_map, unwrap_or}
use Rattle.std.proofs.lemmas.Bool.{eqb-true, eq-eqb}
use Rattle.x690.specs.declared.Tag.{Tag}
use Rattle.x690.specs.Tree.{Tree, Primitive, element}
use Rattle.x690.specs.Reading.{octets_of, octet_of, children_of}
use Rattle.x690.specs.Elements.{first, optional, or_all}
use Rattle.x690.proofs.Forests.{list_of-trees}
use Rattle.x690.proofs.Readings.{bind_some, map_some, some_is, none_not, children_of-some, first_octets, first-some, octet_of-some, octets_of-Primitive}
use Rattle.hlr_types.specs.Identities.{imsi_of, address_of, lmsi_of, IsImsi, IsAddress, IsLmsi}
use Rattle.hlr_types.proofs.IdentityLaws.{imsi_found, imsi_again, address_found, address_again, lmsi_found, lmsi_again}
use Rattle.machine.specs.Received.{Register, Argument, BadValue, Update, Purge, Route, Parameter, Mistyped, Typed, Code, Number, Other}
use Rattle.frames.specs.declared.tags.TheConstants.{SEQUENCE, OCTET_STRING, UPDATE_MSC_NUMBER, UPDATE_LMSI, PURGE_ARGUMENT, PURGE_VLR_NUMBER, PURGE_SGSN_NUMBER, ROUTE_MSISDN, SM_RP_PRI, SERVICE_CENTRE}
use Rattle.machine.specs.declared.numbers.TheConstants.{UPDATE_LOCATION, PURGE_MS, SEND_ROUTING_INFO_FOR_SM}
use Rattle.frames.specs.Choices.{◌>>=◌}
use Rattle.frames.specs.Arguments.{UpdateContents, PurgeContents, update_typed, purge_typed, route_typed, update_value, purge_value, route_value, if_there, in_value, update_of, purge_of, route_of, parameter_of}
use Rattle.frames.specs.ArgumentForms.{optional_element, BeginsWith, HasUpdate, HasPurge, HasRoute, IsTyped, AreIfThere, Arg, IsParameter}

-- what an optional element was, and is again
begins_read : (tag : Tag) (ts : List Tree) → BeginsWith tag ts → (x : List ℕ × List Tree) × (first (octets_of tag) ts ≡ Some x)
begins_read tag ts (octets, rest, e) = ((octets, rest), ap (first (octets_of tag)) e ∙ ap (option_map (λ a. (a, rest))) (octets_of-Primitive tag octets))

does_not_begin : (tag : Tag) (ts : List Tree) → first (octets_of tag) ts ≡ None → BeginsWith tag ts → ⊥
does_not_begin tag ts e h = let (x, f) = begins_read tag ts h in none_not e f

first_none : (tag : Tag) (ts : List Tree) → (BeginsWith tag ts → ⊥) → first (octets_of tag) ts ≡ None
first_none tag ts n = go (first (octets_of tag) ts) refl
  where
    go : (o : Option (List ℕ × List Tree)) → first (octets_of tag) ts ≡ o → o ≡ None
    go None e = refl
    go (Some x) e = absurd (n (x.0, x.1, first_octets tag ts x e))

optional_spelled : (tag : Tag) (ts : List Tree) (o : Option (List ℕ × List Tree)) → first (octets_of tag) ts ≡ o →
    (ts ≡ optional_element tag (or_all ts o).0 ++ (or_all ts o).1) × ((or_all ts o).0 ≡ None → BeginsWith tag (or_all ts o).1 → ⊥)
optional_spelled tag ts None e = (refl, λ _. does_not_begin tag ts e)
optional_spelled tag ts (Some x) e = (first_octets tag ts x e, λ h. absurd cc)

-- ---- updateLocation

abbrev update_rest : List Tree → Option UpdateContents
update_rest ts = do
  imsi ← first (octets_of OCTET_STRING) ts
  msc ← first (octets_of UPDATE_MSC_NUMBER) imsi.1
  vlr ← first (octets_of OCTET_STRING) msc.1
  let lmsi = optional (octets_of UPDATE_LMSI) vlr.1
  Some (record { imsi = imsi.0; msc = msc.0; vlr = vlr.0; lmsi = lmsi.0 })

pub update_typed_found : (t : Tree) (c : UpdateContents) → update_typed t ≡ Some c → HasUpdate t c
unfolding update_typed
update_typed_found t c e =
    let (ts, is_ts, e1) = bind_some (children_of SEQUENCE t) update_rest c e in
    let (imsi, is_imsi, e2) = bind_some (first (octets_of OCTET_STRING) ts) _ c e1 in
    let (msc, is_msc, e3) = bind_some (first (octets_of UPDATE_MSC_NUMBER) imsi.1) _ c e2 in
    let (vlr, is_vlr, e4) = bind_some (first (octets_of OCTET_STRING) msc.1) _ c e3 in
    let s0 = children_of-some SEQUENCE t ts is_ts in
    let s1 = first_octets _ _ _ is_imsi in
    let s2 = first_octets _ _ _ is_msc in
    let s3 = first_octets _ _ _ is_vlr in
    let (s4, other) = optional_spelled UPDATE_LMSI vlr.1 (first (octets_of UPDATE_LMSI) vlr.1) refl in
    let lmsi = optional (octets_of UPDATE_LMSI) vlr.1 in
    let got : HasUpdate t (record { imsi = imsi.0; msc = msc.0; vlr = vlr.0; lmsi = lmsi.0 }) =
    record {
      further = lmsi.1;
      spelled = s0 ∙ ap (element SEQUENCE) (s1 ∙ ap (λ x. Primitive OCTET_STRING imsi.0 ∷ x)
          (s2 ∙ ap (λ x. Primitive UPDATE_MSC_NUMBER msc.0 ∷ x) (s3 ∙ ap (λ x. Primitive OCTET_STRING vlr.0 ∷ x) s4)));
      no_lmsi = other;
    }
    in
    let same : record { imsi = imsi.0; msc = msc.0; vlr = vlr.0; lmsi = lmsi.0 } ≡ c = some_is e4 in
    subst (HasUpdate t) same got

optional_back : (tag : Tag) (o : Option (List ℕ)) (further : List Tree) → (o ≡ None → BeginsWith tag further → ⊥)
    → (optional (octets_of tag) (optional_element tag o ++ further)).0 ≡ o
optional_back tag None further h = ap (λ x. (or_all further x).0) (first_none tag further (h refl))
optional_back tag (Some octets) further h = ap (λ (i : Option (List ℕ)). (or_all (Primitive tag octets ∷ further) (option_map (λ a. (a, further)) i)).0)
    (octets_of-Primitive tag octets)

pub update_typed_again : (t : Tree) (c : UpdateContents) → HasUpdate t c → update_typed t ≡ Some c
unfolding update_typed
update_typed_again t c is =
    let inner = Primitive OCTET_STRING c.imsi ∷ Primitive UPDATE_MSC_NUMBER c.msc ∷ Primitive OCTET_STRING c.vlr ∷ optional_element UPDATE_LMSI c.lmsi
    ++ is.further in
    ap update_typed is.spelled ∙ ap (λ ts. option_and_then update_rest (Some ts)) (list_of-trees inner)
    ∙ ap (λ l. Some (record { imsi = c.imsi; msc = c.msc; vlr = c.vlr; lmsi = l })) (optional_back UPDATE_LMSI c.lmsi is.further is.no_lmsi)

-- ---- purgeMS

abbrev purge_rest : List Tree → Option PurgeContents
purge_rest ts = do
  imsi ← first (octets_of OCTET_STRING) ts
  let vlr = optional (octets_of PURGE_VLR_NUMBER) imsi.1
  Some (record { imsi = imsi.0; vlr = vlr.0 })

pub purge_typed_found : (t : Tree) (c : PurgeContents) → purge_typed t ≡ Some c → HasPurge t c
unfolding purge_typed
purge_typed_found t c e =
    let (ts, is_ts, e1) = bind_some (children_of PURGE_ARGUMENT t) purge_rest c e in
    let (imsi, is_imsi, e2) = bind_some (first (octets_of OCTET_STRING) ts) _ c e1 in
    let s0 = children_of-some PURGE_ARGUMENT t ts is_ts in
    let s1 = first_octets _ _ _ is_imsi in
    let (s2, other) = optional_spelled PURGE_VLR_NUMBER imsi.1 (first (octets_of PURGE_VLR_NUMBER) imsi.1) refl in
    let vlr = optional (octets_of PURGE_VLR_NUMBER) imsi.1 in
    let got : HasPurge t (record { imsi = imsi.0; vlr = vlr.0 }) =
    record { sgsn = None; further = vlr.1; spelled = s0 ∙ ap (element PURGE_ARGUMENT) (s1 ∙ ap (λ x. Primitive OCTET_STRING imsi.0 ∷ x) s2); no_vlr = other }
    in
    let same : record { imsi = imsi.0; vlr = vlr.0 } ≡ c = some_is e2 in
    subst (HasPurge t) same got

pub purge_typed_again : (t : Tree) (c : PurgeContents) → HasPurge t c → purge_typed t ≡ Some c
unfolding purge_typed
purge_typed_again t c is =
    let rest = optional_element PURGE_SGSN_NUMBER is.sgsn ++ is.further in
    let inner = Primitive OCTET_STRING c.imsi ∷ optional_element PURGE_VLR_NUMBER c.vlr ++ rest in
    ap purge_typed is.spelled ∙ ap (λ ts. option_and_then purge_rest (Some ts)) (list_of-trees inner)
    ∙ ap (λ v. Some (record { imsi = c.imsi; vlr = v })) (optional_back PURGE_VLR_NUMBER c.vlr rest is.no_vlr)

-- ---- sendRoutingInfoForSM

abbrev route_rest : List Tree → Option (List ℕ)
route_rest ts = do
  msisdn ← first (octets_of ROUTE_MSISDN) ts
  priority ← first (octet_of SM_RP_PRI) msisdn.1
  centre ← first (octets_of SERVICE_CENTRE) priority.1
  Some msisdn.0

pub route_typed_found : (t : Tree) (m : List ℕ) → route_typed t ≡ Some m → HasRoute t m
unfolding route_typed
route_typed_found t m e =
    let (ts, is_ts, e1) = bind_some (children_of SEQUENCE t) route_rest m e in
    let (msisdn, is_msisdn, e2) = bind_some (first (octets_of ROUTE_MSISDN) ts) _ m e1 in
    let (priority, is_priority, e3) = bind_some (first (octet_of SM_RP_PRI) msisdn.1) _ m e2 in
    let (centre, is_centre, e4) = bind_some (first (octets_of SERVICE_CENTRE) priority.1) _ m e3 in
    let s0 = children_of-some SEQUENCE t ts is_ts in
    let s1 = first_octets _ _ _ is_msisdn in
    let (u, s2, read) = first-some (octet_of SM_RP_PRI) msisdn.1 priority is_priority in
    let s3 = first_octets _ _ _ is_centre in
    let s2' = s2 ∙ ap (λ (v : Tree). v ∷ priority.1) (octet_of-some SM_RP_PRI u priority.0 read) in
    let got : HasRoute t msisdn.0 = record {
      priority = priority.0;
      centre = centre.0;
      further = centre.1;
      spelled = s0
          ∙ ap (element SEQUENCE) (s1 ∙ ap (λ x. Primitive ROUTE_MSISDN msisdn.0 ∷ x) (s2' ∙ ap (λ x. Primitive SM_RP_PRI (priority.0 ∷ []) ∷ x) s3));
    } in
    let same : msisdn.0 ≡ m = some_is e4 in
    subst (HasRoute t) same got

pub route_typed_again : (t : Tree) (m : List ℕ) → HasRoute t m → route_typed t ≡ Some m
unfolding route_typed
route_typed_again t m is =
    let inner = Primitive ROUTE_MSISDN m ∷ Primitive SM_RP_PRI (is.priority ∷ []) ∷ Primitive SERVICE_CENTRE is.centre ∷ is.further in
    ap route_typed is.spelled ∙ ap (λ ts. option_and_then route_rest (Some ts)) (list_of-trees inner)

-- ---- values

there_again : (P : List ℕ → List ℕ → Type 0) (read : List ℕ → Option (List ℕ)) → ((octets v : List ℕ) → P octets v → read octets ≡ Some v)
    → (o v : Option (List ℕ)) → AreIfThere P o v → if_there read o ≡ Some v
there_again P read again None None h = refl
there_again P read again None (Some v) h = absurd h
there_again P read again (Some octets) None h = absurd h
there_again P read again (Some octets) (Some v) h = ap (option_map Some) (again octets v h)

there_found : (P : List ℕ → List ℕ → Type 0) (read : List ℕ → Option (List ℕ)) → ((octets v : List ℕ) → read octets ≡ Some v → P octets v)
    → (o v : Option (List ℕ)) → if_there read o ≡ Some v → AreIfThere P o v
there_found P read found None None e = tt
there_found P read found None (Some v) e = absurd cc
there_found P read found (Some octets) v e = let (x, got, same) = map_some (read octets) Some v e in subst (AreIfThere P (Some octets)) same
    (found octets x got)

-- the value of contents of this type, as the form says it
abbrev IsUpdateValue : UpdateContents → List ℕ → Register → Type 0
IsUpdateValue c imsi r = IsImsi c.imsi imsi × IsAddress c.msc r.msc × IsAddress c.vlr r.vlr × AreIfThere IsLmsi c.lmsi r.lmsi

update_value_again : (c : UpdateContents) (imsi : List ℕ) (r : Register) → IsUpdateValue c imsi r → update_value c ≡ Some (Update imsi r)
unfolding update_value
update_value_again c imsi r (i, m, v, l) =
    let e = there_again IsLmsi lmsi_of lmsi_again c.lmsi r.lmsi l in
    rw (imsi_again _ _ i, address_again _ _ m, address_again _ _ v, e) refl

update_value_found : (c : UpdateContents) (a : Argument) → update_value c ≡ Some a → (imsi : List ℕ) ×
    (r : Register) × IsUpdateValue c imsi r × (Update imsi r ≡ a)
unfolding update_value
update_value_found c a e =
    let (imsi, is_imsi, e1) = bind_some (imsi_of c.imsi) _ a e in
    let (msc, is_msc, e2) = bind_some (address_of c.msc) _ a e1 in
    let (vlr, is_vlr, e3) = bind_some (address_of c.vlr) _ a e2 in
    let (lmsi, is_lmsi, e4) = bind_some (if_there lmsi_of c.lmsi) _ a e3 in (
      imsi,
      record { vlr = vlr; msc = msc; lmsi = lmsi },
      (imsi_found _ _ is_imsi, address_found _ _ is_msc, address_found _ _ is_vlr, there_found IsLmsi lmsi_of lmsi_found c.lmsi lmsi is_lmsi),
      some_is e4,
    )

purge_value_again : (c : PurgeContents) (imsi : List ℕ) (vlr : Option (List ℕ)) → IsImsi c.imsi imsi → AreIfThere IsAddress c.vlr vlr
    → purge_value c ≡ Some (Purge imsi vlr)
unfolding purge_value
purge_value_again c imsi vlr i v =
    let e = there_again IsAddress address_of address_again c.vlr vlr v in
    rw (imsi_again _ _ i, e) refl

purge_value_found : (c : PurgeContents) (a : Argument) → purge_value c ≡ Some a → (imsi : List ℕ) ×
    (vlr : Option (List ℕ)) × IsImsi c.imsi imsi × AreIfThere IsAddress c.vlr vlr × (Purge imsi vlr ≡ a)
unfolding purge_value
purge_value_found c a e =
    let (imsi, is_imsi, e1) = bind_some (imsi_of c.imsi) _ a e in
    let (vlr, is_vlr, e2) = bind_some (if_there address_of c.vlr) _ a e1 in
    (imsi, vlr, imsi_found _ _ is_imsi, there_found IsAddress address_of address_found c.vlr vlr is_vlr, some_is e2)

route_value_again : (octets msisdn : List ℕ) → IsAddress octets msisdn → route_value octets ≡ Some (Route msisdn)
unfolding route_value
route_value_again octets msisdn a = rw (address_again _ _ a) refl

route_value_found : (octets : List ℕ) (a : Argument) → route_value octets ≡ Some a → (msisdn : List ℕ) × IsAddress octets msisdn × (Route msisdn ≡ a)
unfolding route_value
route_value_found octets a e =
    let (msisdn, is, same) = map_some (address_of octets) Route a e in
    (msisdn, address_found _ _ is, same)

-- ---- parameters

-- what connects the reading of an operation's argument with its form
record Tied (operation : ℕ) (t : Tree) (C : Type 0) (contents : Option C) (value : C → Option Argument) : Type 0 where
  is_typed : (c : C) → contents ≡ Some c → IsTyped operation t
  typed_is : IsTyped operation t → (c : C) × (contents ≡ Some c)
  made : (c : C) (a : Argument) → contents ≡ Some c → value c ≡ Some a → Arg operation t a
  back : (a : Argument) → Arg operation t a → (c : C) × (contents ≡ Some c) × (value c ≡ Some a)

is_argument : (operation : ℕ) (t : Tree) (a : Argument) → Arg operation t a → IsParameter (Number operation) t (Typed a)
is_argument operation t (Update imsi register) h = h
is_argument operation t (Purge imsi vlr) h = h
is_argument operation t (Route msisdn) h = h
is_argument operation t BadValue h = absurd h

value_of_some : {C : Type 0} (value : C → Option Argument) (contents : Option C) (c : C) (a : Argument) → contents ≡ Some c → value c ≡ Some a
    → in_value value contents ≡ Typed a
value_of_some value contents c a e f = ap (in_value value) e ∙ ap (λ o. Typed (unwrap_or o BadValue)) f

tied_found : (operation : ℕ) (t : Tree) (C : Type 0) (contents : Option C) (value : C → Option Argument) → Tied operation t C contents value
    → IsParameter (Number operation) t (in_value value contents)
tied_found operation t C contents value tied = go contents refl
  where
    -- contents of this type, and their value
    at : (c : C) → contents ≡ Some c → (o : Option Argument) → value c ≡ o → IsParameter (Number operation) t (Typed (unwrap_or o BadValue))
    at c e None f = (
      tied.is_typed c e,
      λ a h.
          let (d, g, k) = tied.back a h in
          let same : c ≡ d = some_is (sym e ∙ g) in
          none_not f (ap value same ∙ k),
    )
    at c e (Some a) f = is_argument operation t a (tied.made c a e f)

    go : (o : Option C) → contents ≡ o → IsParameter (Number operation) t (in_value value o)
    go None e = λ typed. let (c, f) = tied.typed_is typed in none_not e f
    go (Some c) e = at c e (value c) refl

tied_again : (operation : ℕ) (t : Tree) (C : Type 0) (contents : Option C) (value : C → Option Argument) → Tied operation t C contents value →
    (p : Parameter) → IsParameter (Number operation) t p → in_value value contents ≡ p
tied_again operation t C contents value tied Mistyped h = go contents refl
  where
    go : (o : Option C) → contents ≡ o → in_value value o ≡ Mistyped
    go None e = refl
    go (Some c) e = absurd (h (tied.is_typed c e))
tied_again operation t C contents value tied (Typed BadValue) (typed, no_value) =
    let (c, e) = tied.typed_is typed in
    ap (in_value value) e ∙ go c e (value c) refl
  where
    go : (c : C) → contents ≡ Some c → (o : Option Argument) → value c ≡ o → Typed (unwrap_or o BadValue) ≡ Typed BadValue
    go c e None f = refl
    go c e (Some a) f = absurd (no_value a (tied.made c a e f))
tied_again operation t C contents value tied (Typed (Update imsi register)) h = let (c, e, f) = tied.back
    (Update imsi register) h in value_of_some value contents c _ e f
tied_again operation t C contents value tied (Typed (Purge imsi vlr)) h = let (c, e, f) = tied.back (Purge imsi vlr) h in value_of_some value contents c _ e f
tied_again operation t C contents value tied (Typed (Route msisdn)) h = let (c, e, f) = tied.back (Route msisdn) h in value_of_some value contents c _ e f

different : (m n : ℕ) → eqb m n ≡ false → m ≡ n → ⊥
different m n e f = let g = eq-eqb m n f in cc

update_tied : (t : Tree) → Tied UPDATE_LOCATION t UpdateContents (update_typed t) update_value
update_tied t = record {
  is_typed = λ c e. inl (refl, c, update_typed_found t c e);
  typed_is = typed_is;
  made = made;
  back = back;
}
  where
    typed_is : IsTyped UPDATE_LOCATION t → (c : UpdateContents) × (update_typed t ≡ Some c)
    typed_is (inl (e, c, has)) = (c, update_typed_again t c has)
    typed_is (inr (inl h)) = absurd (different UPDATE_LOCATION PURGE_MS refl h.0)
    typed_is (inr (inr h)) = absurd (different UPDATE_LOCATION SEND_ROUTING_INFO_FOR_SM refl h.0)

    made : (c : UpdateContents) (a : Argument) → update_typed t ≡ Some c → update_value c ≡ Some a → Arg UPDATE_LOCATION t a
    made c a e f = let (imsi, r, (i, m, v, l), same) = update_value_found c a f in subst (Arg UPDATE_LOCATION t) same
        (refl, c, update_typed_found t c e, i, m, v, l)

    back : (a : Argument) → Arg UPDATE_LOCATION t a → (c : UpdateContents) × (update_typed t ≡ Some c) × (update_value c ≡ Some a)
    back (Update imsi r) (e, c, has, i, m, v, l) = (c, update_typed_again t c has, update_value_again c imsi r (i, m, v, l))
    back (Purge imsi vlr) h = absurd (different UPDATE_LOCATION PURGE_MS refl h.0)
    back (Route msisdn) h = absurd (different UPDATE_LOCATION SEND_ROUTING_INFO_FOR_SM refl h.0)
    back BadValue h = absurd h

purge_tied : (t : Tree) → Tied PURGE_MS t PurgeContents (purge_typed t) purge_value
purge_tied t = record {
  is_typed = λ c e. inr (inl (refl, c, purge_typed_found t c e));
  typed_is = typed_is;
  made = made;
  back = back;
}
  where
    typed_is : IsTyped PURGE_MS t → (c : PurgeContents) × (purge_typed t ≡ Some c)
    typed_is (inl h) = absurd (different PURGE_MS UPDATE_LOCATION refl h.0)
    typed_is (inr (inl (e, c, has))) = (c, purge_typed_again t c has)
    typed_is (inr (inr h)) = absurd (different PURGE_MS SEND_ROUTING_INFO_FOR_SM refl h.0)

    made : (c : PurgeContents) (a : Argument) → purge_typed t ≡ Some c → purge_value c ≡ Some a → Arg PURGE_MS t a
    made c a e f = let (imsi, vlr, i, v, same) = purge_value_found c a f in subst (Arg PURGE_MS t) same (refl, c, purge_typed_found t c e, i, v)

    back : (a : Argument) → Arg PURGE_MS t a → (c : PurgeContents) × (purge_typed t ≡ Some c) × (purge_value c ≡ Some a)
    back (Update imsi r) h = absurd (different PURGE_MS UPDATE_LOCATION refl h.0)
    back (Purge imsi vlr) (e, c, has, i, v) = (c, purge_typed_again t c has, purge_value_again c imsi vlr i v)
    back (Route msisdn) h = absurd (different PURGE_MS SEND_ROUTING_INFO_FOR_SM refl h.0)
    back BadValue h = absurd h

route_tied : (t : Tree) → Tied SEND_ROUTING_INFO_FOR_SM t (List ℕ) (route_typed t) route_value
route_tied t = record {
  is_typed = λ c e. inr (inr (refl, c, route_typed_found t c e));
  typed_is = typed_is;
  made = made;
  back = back;
}
  where
    typed_is : IsTyped SEND_ROUTING_INFO_FOR_SM t → (c : List ℕ) × (route_typed t ≡ Some c)
    typed_is (inl h) = absurd (different SEND_ROUTING_INFO_FOR_SM UPDATE_LOCATION refl h.0)
    typed_is (inr (inl h)) = absurd (different SEND_ROUTING_INFO_FOR_SM PURGE_MS refl h.0)
    typed_is (inr (inr (e, c, has))) = (c, route_typed_again t c has)

    made : (c : List ℕ) (a : Argument) → route_typed t ≡ Some c → route_value c ≡ Some a → Arg SEND_ROUTING_INFO_FOR_SM t a
    made c a e f = let (msisdn, i, same) = route_value_found c a f in subst (Arg SEND_ROUTING_INFO_FOR_SM t) same (refl, c, route_typed_found t c e, i)

    back : (a : Argument) → Arg SEND_ROUTING_INFO_FOR_SM t a → (c : List ℕ) × (route_typed t ≡ Some c) × (route_value c ≡ Some a)
    back (Update imsi r) h = absurd (different SEND_ROUTING_INFO_FOR_SM UPDATE_LOCATION refl h.0)
    back (Purge imsi vlr) h = absurd (different SEND_ROUTING_INFO_FOR_SM PURGE_MS refl h.0)
    back (Route msisdn) (e, c, has, i) = (c, route_typed_again t c has, route_value_again c msisdn i)
    back BadValue h = absurd h

-- another operation has no argument
abbrev no_value : List ℕ → Option Argument
no_value octets = None

not_typed : (operation : ℕ) (t : Tree) → (operation ≡ UPDATE_LOCATION → ⊥) → (operation ≡ PURGE_MS → ⊥) → (operation ≡ SEND_ROUTING_INFO_FOR_SM → ⊥)
    → IsTyped operation t → ⊥
not_typed operation t u p r (inl h) = u h.0
not_typed operation t u p r (inr (inl h)) = p h.0
not_typed operation t u p r (inr (inr h)) = r h.0

other_tied : (operation : ℕ) (t : Tree) → (operation ≡ UPDATE_LOCATION → ⊥) → (operation ≡ PURGE_MS → ⊥) → (operation ≡ SEND_ROUTING_INFO_FOR_SM → ⊥)
    → Tied operation t (List ℕ) None no_value
other_tied operation t u p r = record {
  is_typed = λ c e. absurd cc;
  typed_is = λ typed. absurd (not_typed operation t u p r typed);
  made = λ c a e f. absurd cc;
  back = back;
}
  where
    back : (a : Argument) → Arg operation t a → (c : List ℕ) × (None ≡ Some c) × (no_value c ≡ Some a)
    back (Update imsi register) h = absurd (u h.0)
    back (Purge imsi vlr) h = absurd (p h.0)
    back (Route msisdn) h = absurd (r h.0)
    back BadValue h = absurd h

pub update_found : (t : Tree) → IsParameter (Number UPDATE_LOCATION) t (update_of t)
update_found t = tied_found UPDATE_LOCATION t UpdateContents (update_typed t) update_value (update_tied t)

pub purge_found : (t : Tree) → IsParameter (Number PURGE_MS) t (purge_of t)
purge_found t = tied_found PURGE_MS t PurgeContents (purge_typed t) purge_value (purge_tied t)

pub route_found : (t : Tree) → IsParameter (Number SEND_ROUTING_INFO_FOR_SM) t (route_of t)
route_found t = tied_found SEND_ROUTING_INFO_FOR_SM t (List ℕ) (route_typed t) route_value (route_tied t)

pub update_again : (t : Tree) (p : Parameter) → IsParameter (Number UPDATE_LOCATION) t p → update_of t ≡ p
update_again t p h = tied_again UPDATE_LOCATION t UpdateContents (update_typed t) update_value (update_tied t) p h

pub purge_again : (t : Tree) (p : Parameter) → IsParameter (Number PURGE_MS) t p → purge_of t ≡ p
purge_again t p h = tied_again PURGE_MS t PurgeContents (purge_typed t) purge_value (purge_tied t) p h

pub route_again : (t : Tree) (p : Parameter) → IsParameter (Number SEND_ROUTING_INFO_FOR_SM) t p → route_of t ≡ p
route_again t p h = tied_again SEND_ROUTING_INFO_FOR_SM t (List ℕ) (route_typed t) route_value (route_tied t) p h

-- by the operation's number
abbrev by_tests : Tree → (update purge route : Bool) → Parameter
by_tests t a b c = cond a (update_of t) (cond b (purge_of t) (cond c (route_of t) Mistyped))

parameter_tests : (operation : ℕ) (t : Tree) → parameter_of (Number operation) t
    ≡ by_tests t (eqb operation UPDATE_LOCATION) (eqb operation PURGE_MS) (eqb operation SEND_ROUTING_INFO_FOR_SM)
unfolding parameter_of
parameter_tests operation t = refl

abbrev IsTied : ℕ → Tree → Parameter → Type 0
IsTied operation t q = IsParameter (Number operation) t q × ((p : Parameter) → IsParameter (Number operation) t p → q ≡ p)

abbrev IsTiedAt : Tree → Parameter → ℕ → Type 0
IsTiedAt t q operation = IsTied operation t q

in_tests : (operation : ℕ) (t : Tree) (a b c : Bool) → eqb operation UPDATE_LOCATION ≡ a → eqb operation PURGE_MS ≡ b
    → eqb operation SEND_ROUTING_INFO_FOR_SM ≡ c → IsTied operation t (by_tests t a b c)
in_tests operation t true b c ea eb ec = subst (IsTiedAt t (update_of t)) (sym (eqb-true operation UPDATE_LOCATION ea)) (update_found t, update_again t)
in_tests operation t false true c ea eb ec = subst (IsTiedAt t (purge_of t)) (sym (eqb-true operation PURGE_MS eb)) (purge_found t, purge_again t)
in_tests operation t false false true ea eb ec = subst (IsTiedAt t (route_of t)) (sym (eqb-true operation SEND_ROUTING_INFO_FOR_SM ec))
    (route_found t, route_again t)
in_tests operation t false false false ea eb ec =
    let tied = other_tied operation t (different operation UPDATE_LOCATION ea) (different operation PURGE_MS eb)
    (different operation SEND_ROUTING_INFO_FOR_SM ec) in
    (tied_found operation t (List ℕ) None no_value tied, tied_again operation t (List ℕ) None no_value tied)

number_tied : (operation : ℕ) (t : Tree) → IsTied operation t (parameter_of (Number operation) t)
number_tied operation t =
    subst (IsTied operation t) (sym (parameter_tests operation t))
    (in_tests operation t (eqb operation UPDATE_LOCATION) (eqb operation PURGE_MS) (eqb operation SEND_ROUTING_INFO_FOR_SM) refl refl refl)

pub parameter_found : (code : Code) (t : Tree) → IsParameter code t (parameter_of code t)
unfolding parameter_of
parameter_found (Number operation) t = (number_tied operation t).0
parameter_found Other t = tt

pub parameter_again : (code : Code) (t : Tree) (p : Parameter) → IsParameter code t p → parameter_of code t ≡ p
unfolding parameter_of
parameter_again (Number operation) t p h = (number_tied operation t).1 p h
parameter_again Other t Mistyped h = refl
parameter_again Other t (Typed a) h = absurd h

pub ruleset argument_laws = (update_found, update_again, purge_found, purge_again, route_found, route_again)
