-- A message is read exactly if the tree has its form.
use Rattle.std.proofs.Common.{◌≡◌, ℕ, Bool, true, false, leb, cond, ◌&&◌, ◌||◌, List, [], ◌∷◌, ◌++◌, length, refl, ap, sym, ◌∙◌, subst, inl, inr, ◌⊎◌, append-nil}
use Rattle.std.specs.Prelude.{Result, Ok, Err, Option, Some, None, option_map, unwrap_or}
use Rattle.std.specs.Option.{ok_or, is_some}
use Rattle.std.proofs.lemmas.Bool.{leb-true, le-leb}
use Rattle.x690.specs.declared.Tag.{Tag}
use Rattle.x690.specs.Tags.{same_tag}
use Rattle.x690.specs.Tree.{Tree, Primitive, element}
use Rattle.x690.specs.Reading.{tag_of, octets_of, children_of, children, tagged}
use Rattle.x690.specs.Elements.{first, optional, or_all, no_more}
use Rattle.x690.proofs.Forests.{list_of-trees}
use Rattle.x690.proofs.Readings.{bind_some, some_is, octets_of-some, children_of-some, first-some, same_tag-is}
use Rattle.hlr_types.specs.Identities.{remote_id_of}
use Rattle.frames.specs.declared.tags.TheConstants.{UNIDIRECTIONAL, BEGIN, END, CONTINUE, ABORT, ORIGIN, DESTINATION, ABORT_CAUSE, DIALOGUE_PORTION, COMPONENT_PORTION}
use Rattle.frames.specs.declared.numbers.TheConstants.{BADLY_FORMATTED_TRANSACTION_PORTION, INCORRECT_TRANSACTION_PORTION}
use Rattle.frames.specs.Choices.{if_under}
use Rattle.frames.specs.Messages.{Portions, TcMessage, Begin, Continue, End, Abort, Unread, Discarded, Refused, ◌>>=◌, transaction_id_under, portions_of, begin_of, continue_of, end_of, may_end_abort, abort_of, unrecognized, message_of}
use Rattle.machine.specs.Octets.{HasIdLength}
use Rattle.frames.specs.MessageForms.{AreDialogue, AreComponents, ArePortions, AreReason, IsMessage}

-- an element that is an id
between : (octets id : List ℕ) (low high : Bool) → leb 1 (length octets) ≡ low → leb (length octets) 4 ≡ high → cond (low && high) (Some octets) None ≡ Some id
    → HasIdLength octets × (octets ≡ id)
between octets id true true l h e = (record { some = leb-true _ _ l; most = leb-true _ _ h }, some_is e)
between octets id true false l h e = absurd cc
between octets id false high l h e = absurd cc

pub id_found : (tag : Tag) (ts : List Tree) (x : List ℕ × List Tree) → first (transaction_id_under tag) ts ≡ Some x
    → HasIdLength x.0 × (ts ≡ Primitive tag x.0 ∷ x.1)
id_found tag ts x e =
    let (t, is, read) = first-some (transaction_id_under tag) ts x e in
    let (octets, is_octets, id) = bind_some (octets_of tag t) remote_id_of x.0 read in
    let (fits, same) = between octets x.0 (leb 1 (length octets)) (leb (length octets) 4) refl refl id in
    let spelled = octets_of-some tag t octets is_octets in
    (subst HasIdLength same fits, is ∙ ap (λ u. u ∷ x.1) (spelled ∙ ap (Primitive tag) same))

tagged-in : (tag : Tag) (t u : Tree) (b : Bool) → same_tag (tag_of t) tag ≡ b → cond b (Some t) None ≡ Some u → (t ≡ u) × (tag_of u ≡ tag)
tagged-in tag t u true s e = let same = some_is e in (same, ap tag_of (sym same) ∙ same_tag-is _ _ s)
tagged-in tag t u false s e = absurd cc

dialogue_found : (ts : List Tree) (o : Option (Tree × List Tree)) → first (tagged DIALOGUE_PORTION) ts ≡ o
    → (ds : List Tree) × AreDialogue ds (or_all ts o).0 × (ts ≡ ds ++ (or_all ts o).1)
dialogue_found ts None e = ([], refl, refl)
dialogue_found ts (Some x) e =
    let (t, is, read) = first-some (tagged DIALOGUE_PORTION) ts x e in
    let (same, has) = tagged-in DIALOGUE_PORTION t x.0 (same_tag (tag_of t) DIALOGUE_PORTION) refl read in
    (x.0 ∷ [], (refl, has), is ∙ ap (λ u. u ∷ x.1) same)

components_found : (ts : List Tree) (o : Option (List Tree × List Tree)) → first (children_of COMPONENT_PORTION) ts ≡ o
    → (cs : List Tree) × AreComponents cs (unwrap_or (or_all ts o).0 []) × (ts ≡ cs ++ (or_all ts o).1)
components_found ts None e = ([], inl (refl, refl), refl)
components_found ts (Some x) e =
    let (t, is, read) = first-some (children_of COMPONENT_PORTION) ts x e in
    (t ∷ [], inr (ap (λ u. u ∷ []) (children_of-some COMPONENT_PORTION t x.0 read)), is)

no_more-some : (p q : Portions) (ts : List Tree) → no_more p ts ≡ Some q → (ts ≡ []) × (p ≡ q)
no_more-some p q [] e = (refl, some_is e)
no_more-some p q (t ∷ ts) e = absurd cc

pub portions_found : (ts : List Tree) (p : Portions) → portions_of ts ≡ Some p → ArePortions ts p
portions_found ts p e =
    let ds = optional (tagged DIALOGUE_PORTION) ts in
    let cs = optional (children_of COMPONENT_PORTION) ds.1 in
    let (d, dialogue, split) = dialogue_found ts (first (tagged DIALOGUE_PORTION) ts) refl in
    let (c, components, split') = components_found ds.1 (first (children_of COMPONENT_PORTION) ds.1) refl in
    let (empty, same) = no_more-some (record { dialogue = ds.0; components = unwrap_or cs.0 [] }) p cs.1 e in
    subst (ArePortions ts) same (record {
      ds = d;
      cs = c;
      whole = split
          ∙ ap (λ r. d ++ r) (split' ∙ ap (λ r. c ++ r) empty ∙ append-nil c);
      dialogue = dialogue;
      components = components;
    })

-- ---- any message

bind_ok : {A B E : Type 0} (r : Result A E) (f : A → Result B E) (y : B) → (r >>= f) ≡ Ok y → (x : A) × (r ≡ Ok x) × (f x ≡ Ok y)
bind_ok (Ok x) f y e = (x, refl, e)
bind_ok (Err d) f y e = absurd cc

ok_is : {A E : Type 0} {x y : A} → (let r : Result A E = Ok x in r) ≡ Ok y → x ≡ y
ok_is e = cc

ok_or-ok : {A E : Type 0} (o : Option A) (d : E) (x : A) → ok_or o d ≡ Ok x → o ≡ Some x
ok_or-ok None d x e = absurd cc
ok_or-ok (Some y) d x e = cc

begin_found : (ts : List Tree) (m : TcMessage) → begin_of ts ≡ Ok m → IsMessage (element BEGIN ts) m
unfolding begin_of
begin_found ts m e =
    let (origin, is_origin, e1) = bind_ok (ok_or (first (transaction_id_under ORIGIN) ts) Discarded) _ m e in
    let (p, is_p, e2) = bind_ok (ok_or (portions_of origin.1) _) _ m e1 in
    let (fits, split) = id_found ORIGIN ts origin (ok_or-ok _ _ _ is_origin) in
    subst (IsMessage (element BEGIN ts)) (ok_is e2) (origin.1, portions_found _ p (ok_or-ok _ _ _ is_p), fits, ap (element BEGIN) split)

continue_found : (ts : List Tree) (m : TcMessage) → continue_of ts ≡ Ok m → IsMessage (element CONTINUE ts) m
unfolding continue_of
continue_found ts m e =
    let (origin, is_origin, e1) = bind_ok (ok_or (first (transaction_id_under ORIGIN) ts) Discarded) _ m e in
    let (destination, is_destination, e2) = bind_ok (ok_or (first (transaction_id_under DESTINATION) origin.1) _) _ m e1 in
    let (p, is_p, e3) = bind_ok (ok_or (portions_of destination.1) _) _ m e2 in
    let (fits, split) = id_found ORIGIN ts origin (ok_or-ok _ _ _ is_origin) in
    let (fits', split') = id_found DESTINATION origin.1 destination (ok_or-ok _ _ _ is_destination) in
    subst (IsMessage (element CONTINUE ts)) (ok_is e3)
    (destination.1, portions_found _ p (ok_or-ok _ _ _ is_p), fits, fits', ap (element CONTINUE) (split ∙ ap (λ r. Primitive ORIGIN origin.0 ∷ r) split'))

end_found : (ts : List Tree) (m : TcMessage) → end_of ts ≡ Ok m → IsMessage (element END ts) m
unfolding end_of
end_found ts m e =
    let (destination, is_destination, e1) = bind_ok (ok_or (first (transaction_id_under DESTINATION) ts) Discarded) _ m e in
    let (p, is_p, e2) = bind_ok (ok_or (portions_of destination.1) _) _ m e1 in
    let (fits, split) = id_found DESTINATION ts destination (ok_or-ok _ _ _ is_destination) in
    subst (IsMessage (element END ts)) (ok_is e2) (destination.1, portions_found _ p (ok_or-ok _ _ _ is_p), fits, ap (element END) split)

either : (t : Tree) (a b : Bool) → same_tag (tag_of t) ABORT_CAUSE ≡ a → same_tag (tag_of t) DIALOGUE_PORTION ≡ b →
    is_some (cond a (Some t) None) || is_some (cond b (Some t) None) ≡ true → (tag_of t ≡ ABORT_CAUSE) ⊎ (tag_of t ≡ DIALOGUE_PORTION)
either t true b p q e = inl (same_tag-is _ _ p)
either t false true p q e = inr (same_tag-is _ _ q)
either t false false p q e = absurd cc

reason_found : (ts : List Tree) → may_end_abort ts ≡ true → AreReason ts
reason_found [] e = inl refl
reason_found (t ∷ []) e = inr (t, refl, either t (same_tag (tag_of t) ABORT_CAUSE) (same_tag (tag_of t) DIALOGUE_PORTION) refl refl e)
reason_found (t ∷ u ∷ ts) e = absurd cc

guard_ok : {A E : Type 0} (b : Bool) (d : E) (x y : A) → cond b (Ok x) (Err d) ≡ Ok y → (b ≡ true) × (x ≡ y)
guard_ok true d x y e = (refl, cc)
guard_ok false d x y e = absurd cc

abort_found : (ts : List Tree) (m : TcMessage) → abort_of ts ≡ Ok m → IsMessage (element ABORT ts) m
unfolding abort_of
abort_found ts m e =
    let (destination, is_destination, e1) = bind_ok (ok_or (first (transaction_id_under DESTINATION) ts) Discarded) _ m e in
    let (fits, split) = id_found DESTINATION ts destination (ok_or-ok _ _ _ is_destination) in
    let (ends, same) = guard_ok (may_end_abort destination.1) Discarded (Abort destination.0) m e1 in
    subst (IsMessage (element ABORT ts)) same (destination.1, reason_found _ ends, fits, ap (element ABORT) split)

-- one kind, or the others
kind_found : (tag : Tag) (t : Tree) (m : TcMessage) (read : List Tree → Result TcMessage Unread) (others : Result TcMessage Unread) (o : Option (List Tree)) →
    ((ts : List Tree) → read ts ≡ Ok m → IsMessage (element tag ts) m) → (others ≡ Ok m → IsMessage t m) → children_of tag t ≡ o → if_under o read others ≡ Ok m
    → IsMessage t m
kind_found tag t m read others None here there e f = there f
kind_found tag t m read others (Some ts) here there e f = subst (λ u. IsMessage u m) (sym (children_of-some tag t ts e)) (here ts f)

unrecognized_not : (o : Option (List ℕ × List Tree)) (m : TcMessage) → unrecognized o ≡ Ok m → ⊥
unrecognized_not None m e = cc
unrecognized_not (Some x) m e = cc

pub message_found : (t : Tree) (m : TcMessage) → message_of t ≡ Ok m → IsMessage t m
unfolding message_of
message_found t m e =
    kind_found BEGIN t m begin_of _ (children_of BEGIN t) (λ ts. begin_found ts m)
    (λ f. kind_found CONTINUE t m continue_of _ (children_of CONTINUE t) (λ ts. continue_found ts m)
    (λ f. kind_found END t m end_of _ (children_of END t) (λ ts. end_found ts m)
    (λ f. kind_found ABORT t m abort_of _ (children_of ABORT t) (λ ts. abort_found ts m)
    (λ f. kind_found UNIDIRECTIONAL t m (λ ts. Err Discarded) _ (children_of UNIDIRECTIONAL t) (λ ts g. absurd cc)
    (λ f. absurd (unrecognized_not (first (transaction_id_under ORIGIN) (children t)) m f)) refl f) refl f) refl f) refl f) refl e

-- ---- and what is a message is read as it is

pub remote_again : (o : List ℕ) → HasIdLength o → remote_id_of o ≡ Some o
remote_again o fits =
    let low : leb 1 (length o) ≡ true = le-leb _ _ fits.some in
    let high : leb (length o) 4 ≡ true = le-leb _ _ fits.most in
    rw (low, high) refl

abbrev pub next : List ℕ → List Tree → Option (List ℕ) → Option (List ℕ × List Tree)
next o ts i = option_map (λ a. (a, ts)) i

pub next_again : (o : List ℕ) (ts : List Tree) → HasIdLength o → next o ts (remote_id_of o) ≡ Some (o, ts)
next_again o ts fits = ap (next o ts) (remote_again o fits)

dialogue_again : (ds cs : List Tree) (d : Option Tree) → AreDialogue ds d → first (tagged DIALOGUE_PORTION) cs ≡ None
    → optional (tagged DIALOGUE_PORTION) (ds ++ cs) ≡ (d, cs)
dialogue_again ds cs None e none = ap (λ l. optional (tagged DIALOGUE_PORTION) (l ++ cs)) e ∙ ap (or_all cs) none
dialogue_again ds cs (Some t) (e, has) none =
    ap (λ l. optional (tagged DIALOGUE_PORTION) (l ++ cs)) e
    ∙ ap (λ g. or_all (t ∷ cs) (option_map (λ a. (a, cs)) (cond (same_tag g DIALOGUE_PORTION) (Some t) None))) has

no_dialogue : (cs comps : List Tree) → AreComponents cs comps → first (tagged DIALOGUE_PORTION) cs ≡ None
no_dialogue cs comps (inl (e, f)) = ap (first (tagged DIALOGUE_PORTION)) e
no_dialogue cs comps (inr e) = ap (first (tagged DIALOGUE_PORTION)) e

abbrev finish : Option Tree → Option (List Tree) × List Tree → Option Portions
finish d cs = no_more (record { dialogue = d; components = unwrap_or cs.0 [] }) cs.1

components_again : (cs comps : List Tree) (d : Option Tree) → AreComponents cs comps
    → finish d (optional (children_of COMPONENT_PORTION) cs) ≡ Some (record { dialogue = d; components = comps })
components_again cs comps d (inl (e, f)) = ap (λ l. finish d (optional (children_of COMPONENT_PORTION) l)) e
    ∙ ap (λ l. Some (record { dialogue = d; components = l })) (sym f)
components_again cs comps d (inr e) =
    ap (λ l. finish d (optional (children_of COMPONENT_PORTION) l)) e ∙ ap (λ l. Some (record { dialogue = d; components = l })) (list_of-trees comps)

pub portions_again : (ts : List Tree) (p : Portions) → ArePortions ts p → portions_of ts ≡ Some p
portions_again ts p is =
    ap portions_of is.whole
    ∙ ap (λ d. finish d.0 (optional (children_of COMPONENT_PORTION) d.1))
    (dialogue_again is.ds is.cs p.dialogue is.dialogue (no_dialogue is.cs p.components is.components))
    ∙ components_again is.cs p.components p.dialogue is.components

begin_again : (o : List ℕ) (ts : List Tree) (p : Portions) → HasIdLength o → ArePortions ts p → begin_of (Primitive ORIGIN o ∷ ts) ≡ Ok (Begin o p)
unfolding begin_of
begin_again o ts p fits is =
    ap (λ (i : Option (List ℕ × List Tree)). ok_or i Discarded >>= λ origin. ok_or (portions_of origin.1)
    (Refused origin.0 INCORRECT_TRANSACTION_PORTION) >>= λ parts. Ok (Begin origin.0 parts)) (next_again o ts fits)
    ∙ ap (λ q. ok_or q (Refused o INCORRECT_TRANSACTION_PORTION) >>= λ parts. Ok (Begin o parts)) (portions_again ts p is)

end_again : (o : List ℕ) (ts : List Tree) (p : Portions) → HasIdLength o → ArePortions ts p → end_of (Primitive DESTINATION o ∷ ts) ≡ Ok (End o p)
unfolding end_of
end_again o ts p fits is =
    ap (λ (i : Option (List ℕ × List Tree)). ok_or i Discarded >>= λ destination. ok_or (portions_of destination.1) Discarded >>= λ parts. Ok
    (End destination.0 parts)) (next_again o ts fits)
    ∙ ap (λ q. ok_or q Discarded >>= λ parts. Ok (End o parts)) (portions_again ts p is)

continue_again : (o d : List ℕ) (ts : List Tree) (p : Portions) → HasIdLength o → HasIdLength d → ArePortions ts p
    → continue_of (Primitive ORIGIN o ∷ Primitive DESTINATION d ∷ ts) ≡ Ok (Continue o d p)
unfolding continue_of
continue_again o d ts p fits fits' is =
    ap (λ (i : Option (List ℕ × List Tree)). ok_or i Discarded >>= λ origin. ok_or (first (transaction_id_under DESTINATION) origin.1)
    (Refused origin.0 BADLY_FORMATTED_TRANSACTION_PORTION) >>= λ destination. ok_or (portions_of destination.1)
    (Refused origin.0 INCORRECT_TRANSACTION_PORTION) >>= λ parts. Ok (Continue origin.0 destination.0 parts))
    (next_again o (Primitive DESTINATION d ∷ ts) fits)
    ∙ ap (λ (i : Option (List ℕ × List Tree)). ok_or i (Refused o BADLY_FORMATTED_TRANSACTION_PORTION) >>= λ destination. ok_or (portions_of destination.1)
    (Refused o INCORRECT_TRANSACTION_PORTION) >>= λ parts. Ok (Continue o destination.0 parts)) (next_again d ts fits')
    ∙ ap (λ q. ok_or q (Refused o INCORRECT_TRANSACTION_PORTION) >>= λ parts. Ok (Continue o d parts)) (portions_again ts p is)

reason_again : (ts : List Tree) → AreReason ts → may_end_abort ts ≡ true
reason_again ts (inl e) = ap may_end_abort e
reason_again ts (inr (t, e, inl has)) = ap may_end_abort e ∙ ap (λ g. is_some (cond (same_tag g ABORT_CAUSE) (Some t) None) || is_some
    (cond (same_tag g DIALOGUE_PORTION) (Some t) None)) has
reason_again ts (inr (t, e, inr has)) = ap may_end_abort e ∙ ap (λ g. is_some (cond (same_tag g ABORT_CAUSE) (Some t) None) || is_some
    (cond (same_tag g DIALOGUE_PORTION) (Some t) None)) has

abort_again : (o : List ℕ) (ts : List Tree) → HasIdLength o → AreReason ts → abort_of (Primitive DESTINATION o ∷ ts) ≡ Ok (Abort o)
unfolding abort_of
abort_again o ts fits is =
    ap (λ (i : Option (List ℕ × List Tree)). ok_or i Discarded >>= λ destination. cond (may_end_abort destination.1) (Ok (Abort destination.0)) (Err Discarded))
    (next_again o ts fits)
    ∙ ap (λ b. cond b (Ok (Abort o)) (Err Discarded)) (reason_again ts is)

begin_tree : (ts : List Tree) → message_of (element BEGIN ts) ≡ begin_of ts
unfolding message_of
begin_tree ts = ap begin_of (list_of-trees ts)

continue_tree : (ts : List Tree) → message_of (element CONTINUE ts) ≡ continue_of ts
unfolding message_of
continue_tree ts = ap continue_of (list_of-trees ts)

end_tree : (ts : List Tree) → message_of (element END ts) ≡ end_of ts
unfolding message_of
end_tree ts = ap end_of (list_of-trees ts)

abort_tree : (ts : List Tree) → message_of (element ABORT ts) ≡ abort_of ts
unfolding message_of
abort_tree ts = ap abort_of (list_of-trees ts)

pub message_again : (t : Tree) (m : TcMessage) → IsMessage t m → message_of t ≡ Ok m
message_again t (Begin o p) (ts, are, fits, is) = ap message_of is ∙ begin_tree _ ∙ begin_again o ts p fits are
message_again t (Continue o d p) (ts, are, fits, fits', is) = ap message_of is ∙ continue_tree _ ∙ continue_again o d ts p fits fits' are
message_again t (End o p) (ts, are, fits, is) = ap message_of is ∙ end_tree _ ∙ end_again o ts p fits are
message_again t (Abort o) (ts, are, fits, is) = ap message_of is ∙ abort_tree _ ∙ abort_again o ts fits are

pub ruleset form_laws = (message_found, message_again)
