-- The points: one of them decides, and each decides one thing.
use Rattle.std.proofs.Common.{◌≡◌, ℕ, Bool, true, false, eqb, cond, List, [], ◌∷◌, ◌++◌, refl, ap, sym, ◌∙◌, subst, ◌⊎◌, inl, inr}
use Rattle.std.specs.Prelude.{Result, Ok, Err, Option, Some, None, option_map, option_and_then}
use Rattle.std.specs.Option.{ok_or}
use Rattle.std.proofs.lemmas.Bool.{eq-eqb}
use Rattle.x690.specs.declared.Tag.{Tag}
use Rattle.x690.specs.Tags.{same_tag}
use Rattle.x690.specs.Tree.{Tree, Trees, Primitive, Constructed, element, list_of}
use Rattle.x690.specs.Reading.{tag_of, children}
use Rattle.x690.specs.Elements.{first}
use Rattle.x690.proofs.Forests.{list_of-trees}
use Rattle.x690.proofs.Readings.{none_not, same_tag-is, same_tag-refl, octets_of-Primitive}
use Rattle.hlr_types.specs.Identities.{remote_id_of}
use Rattle.frames.specs.declared.tags.TheConstants.{UNIDIRECTIONAL, BEGIN, END, CONTINUE, ABORT, ORIGIN, DESTINATION}
use Rattle.frames.specs.declared.numbers.TheConstants.{BADLY_FORMATTED_TRANSACTION_PORTION, INCORRECT_TRANSACTION_PORTION}
use Rattle.frames.specs.Choices.{if_under}
use Rattle.frames.specs.Messages as tc
use Rattle.frames.specs.Messages.{Portions, TcMessage, Unread, Discarded, Refused, ◌>>=◌, transaction_id_under, portions_of, begin_of, continue_of, end_of, may_end_abort, abort_of, unrecognized, message_of}
use Rattle.machine.specs.Octets.{HasIdLength}
use Rattle.frames.specs.MessageForms.{IsMessage}
use Rattle.frames.specs.Points.{HasOrigin, HasOriginAndDestination, IsBeginOrContinue, Point, cause_of, message_points, MayBeAnswered, IsAnswer, IsSaidFirst, NoneFits, IsMessageOrNot}
use Rattle.frames.proofs.MessageLaws.{id_found, next_again, message_found, message_again}

-- ---- one

one_origin : (t : Tree) (o p : List ℕ) → HasOrigin t o → HasOrigin t p → o ≡ p
one_origin t o p h k = let e = h.spelled in let f = k.spelled in cc

one_answer : (t : Tree) (cause : Option ℕ) (u w : Unread) → IsAnswer t cause u → IsAnswer t cause w → u ≡ w
one_answer t None u w h k = h ∙ sym k
one_answer t (Some cause) u w (inl (o, may, e)) (inl (p, may', f)) = e ∙ ap (λ (i : List ℕ). Refused i cause) (one_origin t o p may.0 may'.0) ∙ sym f
one_answer t (Some cause) u w (inl (o, may, e)) (inr (none, f)) = absurd (none o may)
one_answer t (Some cause) u w (inr (none, e)) (inl (o, may, f)) = absurd (none o may)
one_answer t (Some cause) u w (inr (none, e)) (inr (none', f)) = e ∙ sym f

pub one_said : (ps : List Point) (t : Tree) (u w : Unread) → IsSaidFirst ps t u → IsSaidFirst ps t w → u ≡ w
one_said [] t u w h k = absurd h
one_said (p ∷ ps) t u w (inl a) (inl b) = one_answer t (cause_of p) u w a.1 b.1
one_said (p ∷ ps) t u w (inl a) (inr b) = absurd (b.0 a.0)
one_said (p ∷ ps) t u w (inr a) (inl b) = absurd (a.0 b.0)
one_said (p ∷ ps) t u w (inr a) (inr b) = one_said ps t u w a.1 b.1

pub said_or_none : (ps : List Point) (t : Tree) (u : Unread) → IsSaidFirst ps t u → NoneFits ps t → ⊥
said_or_none [] t u h n = h
said_or_none (p ∷ ps) t u (inl a) n = n.0 a.0
said_or_none (p ∷ ps) t u (inr a) n = said_or_none ps t u a.1 n.1

pub said_more : (ps qs : List Point) (t : Tree) (u : Unread) → IsSaidFirst ps t u → IsSaidFirst (ps ++ qs) t u
said_more [] qs t u h = absurd h
said_more (p ∷ ps) qs t u (inl a) = inl a
said_more (p ∷ ps) qs t u (inr a) = inr (a.0, said_more ps qs t u a.1)

pub said_later : (ps qs : List Point) (t : Tree) (u : Unread) → NoneFits ps t → IsSaidFirst qs t u → IsSaidFirst (ps ++ qs) t u
said_later [] qs t u n h = h
said_later (p ∷ ps) qs t u n h = inr (n.0, said_later ps qs t u n.1 h)

pub none_more : (ps qs : List Point) (t : Tree) → NoneFits ps t → NoneFits qs t → NoneFits (ps ++ qs) t
none_more [] qs t n m = m
none_more (p ∷ ps) qs t n m = (n.0, none_more ps qs t n.1 m)

pub none_front : (ps qs : List Point) (t : Tree) → NoneFits (ps ++ qs) t → NoneFits ps t
none_front [] qs t n = tt
none_front (p ∷ ps) qs t n = (n.0, none_front ps qs t n.1)

-- ---- tags

abbrev pub Either : Type 0 → Type 0
Either P = P ⊎ (P → ⊥)

pub either_tag : (a b : Tag) → Either (a ≡ b)
either_tag a b = go (same_tag a b) refl
  where
    go : (c : Bool) → same_tag a b ≡ c → Either (a ≡ b)
    go true e = inl (same_tag-is a b e)
    go false e = inr (λ f. let g : same_tag a b ≡ true = ap (λ u. same_tag u b) f ∙ same_tag-refl b in absurd cc)

pub other : (t : Tree) (a b : Tag) → eqb a.number b.number ≡ false → tag_of t ≡ a → tag_of t ≡ b → ⊥
other t a b differ p q =
    let f : a.number ≡ b.number = ap (λ (g : Tag). g.number) (sym p ∙ q) in
    let e : eqb a.number b.number ≡ true = eq-eqb a.number b.number f in
    cc

pub children_are : (t : Tree) (tag : Tag) (ts : List Tree) → t ≡ element tag ts → children t ≡ ts
children_are t tag ts e = ap children e ∙ list_of-trees ts

neither : (t : Tree) (a : Tag) → eqb a.number BEGIN.number ≡ false → eqb a.number CONTINUE.number ≡ false → tag_of t ≡ a → IsBeginOrContinue t → ⊥
neither t a p q e (inl f) = other t a BEGIN p e f
neither t a p q e (inr f) = other t a CONTINUE q e f

not_uni : (t : Tree) → IsBeginOrContinue t → tag_of t ≡ UNIDIRECTIONAL → ⊥
not_uni t (inl e) f = other t BEGIN UNIDIRECTIONAL refl e f
not_uni t (inr e) f = other t CONTINUE UNIDIRECTIONAL refl e f

abbrev Unknown : Tree → Type 0
Unknown t = (tag_of t ≡ BEGIN → ⊥) × (tag_of t ≡ CONTINUE → ⊥) × (tag_of t ≡ END → ⊥) × (tag_of t ≡ ABORT → ⊥)

not_unknown : (t : Tree) → IsBeginOrContinue t → Unknown t → ⊥
not_unknown t (inl e) h = h.0 e
not_unknown t (inr e) h = h.1 e

-- ---- a message passes the points that do not read its portions

passes : (t : Tree) → (tag_of t ≡ UNIDIRECTIONAL → ⊥) → (Unknown t → ⊥) → (IsBeginOrContinue t × ((o : List ℕ) → HasOrigin t o → ⊥) → ⊥)
    → ((tag_of t ≡ CONTINUE) × ((o d : List ℕ) → HasOriginAndDestination t o d → ⊥) → ⊥) → (m : TcMessage) → IsMessage t m → NoneFits message_points t
passes t uni known lacks_one lacks_two m is = (uni, (known, (lacks_one, (lacks_two, ((λ h. h m is), tt)))))

pub message_passes : (t : Tree) (m : TcMessage) → IsMessage t m → NoneFits message_points t
message_passes t (tc.Begin o p) (ts, are, fits, e) =
    let tag : tag_of t ≡ BEGIN = ap tag_of e in
    passes t (λ f. other t BEGIN UNIDIRECTIONAL refl tag f) (λ h. h.0 tag) (λ h. h.1 o (record { rest = ts; fits = fits; spelled = children_are t BEGIN _ e }))
    (λ h. other t BEGIN CONTINUE refl tag h.0) (tc.Begin o p) (ts, are, fits, e)
message_passes t (tc.Continue o d p) (ts, are, fits, fits', e) =
    let tag : tag_of t ≡ CONTINUE = ap tag_of e in
    passes t (λ f. other t CONTINUE UNIDIRECTIONAL refl tag f) (λ h. h.1 tag)
    (λ h. h.1 o (record { rest = Primitive DESTINATION d ∷ ts; fits = fits; spelled = children_are t CONTINUE _ e }))
    (λ h. h.1 o d (record { rest = ts; origin_fits = fits; destination_fits = fits'; spelled = children_are t CONTINUE _ e })) (tc.Continue o d p)
    (ts, are, fits, fits', e)
message_passes t (tc.End d p) (ts, are, fits, e) =
    let tag : tag_of t ≡ END = ap tag_of e in
    passes t (λ f. other t END UNIDIRECTIONAL refl tag f) (λ h. h.2 tag) (λ h. neither t END refl refl tag h.0) (λ h. other t END CONTINUE refl tag h.0)
    (tc.End d p) (ts, are, fits, e)
message_passes t (tc.Abort d) (ts, are, fits, e) =
    let tag : tag_of t ≡ ABORT = ap tag_of e in
    passes t (λ f. other t ABORT UNIDIRECTIONAL refl tag f) (λ h. h.3 tag) (λ h. neither t ABORT refl refl tag h.0) (λ h. other t ABORT CONTINUE refl tag h.0)
    (tc.Abort d) (ts, are, fits, e)

-- ---- if no message is read, a point says what becomes of the tree

abbrev NoMessage : Tree → Type 0
NoMessage t = (m : TcMessage) → IsMessage t m → ⊥

abbrev Said : Tree → Unread → Type 0
Said t u = IsSaidFirst message_points t u

err_ok : {u : Unread} {m : TcMessage} → (let r : Result TcMessage Unread = Err u in r) ≡ Ok m → ⊥
err_ok e = cc

no_message : (t : Tree) (u : Unread) → message_of t ≡ Err u → NoMessage t
no_message t u e m is = err_ok (sym e ∙ message_again t m is)

-- of End and Abort
closed_said : (t : Tree) → NoMessage t → (tag_of t ≡ END) ⊎ (tag_of t ≡ ABORT) → Said t Discarded
closed_said t n (inl e) =
    let one : IsBeginOrContinue t → ⊥ = neither t END refl refl e in
    inr (
      λ f. other t END UNIDIRECTIONAL refl e f,
      inr (
        λ h. h.2 e,
        inr
            (λ h. one h.0, inr (λ h. other t END CONTINUE refl e h.0, inl (n, inr ((λ o may. may.1 e), refl)))),
      ),
    )
closed_said t n (inr e) =
    let one : IsBeginOrContinue t → ⊥ = neither t ABORT refl refl e in
    inr (
      λ f. other t ABORT UNIDIRECTIONAL refl e f,
      inr (
        λ h. h.3 e,
        inr
            (λ h. one h.0, inr (λ h. other t ABORT CONTINUE refl e h.0, inl (n, inr ((λ o may. may.2 e), refl)))),
      ),
    )

-- without an origin, and no message
originless_said : (t : Tree) → NoMessage t → ((o : List ℕ) → HasOrigin t o → ⊥) → Said t Discarded
originless_said t n lacking =
    go (either_tag (tag_of t) UNIDIRECTIONAL) (either_tag (tag_of t) BEGIN) (either_tag (tag_of t) CONTINUE) (either_tag (tag_of t) END)
    (either_tag (tag_of t) ABORT)
  where
    one_said : IsBeginOrContinue t → Said t Discarded
    one_said one = inr (not_uni t one, inr (not_unknown t one, inl ((one, lacking), refl)))

    go : Either (tag_of t ≡ UNIDIRECTIONAL) → Either (tag_of t ≡ BEGIN) → Either (tag_of t ≡ CONTINUE) → Either (tag_of t ≡ END) → Either (tag_of t ≡ ABORT)
        → Said t Discarded
    go (inl u) b c e a = inl (u, refl)
    go (inr u) (inl b) c e a = one_said (inl b)
    go (inr u) (inr b) (inl c) e a = one_said (inr c)
    go (inr u) (inr b) (inr c) (inl e) a = closed_said t n (inl e)
    go (inr u) (inr b) (inr c) (inr e) (inl a) = closed_said t n (inr a)
    go (inr u) (inr b) (inr c) (inr e) (inr a) = inr (u, inl ((b, c, e, a), inr ((λ o may. lacking o may.0), refl)))

pub first_again : (tag : Tag) (id : List ℕ) (rest : List Tree) → HasIdLength id → first (transaction_id_under tag) (Primitive tag id ∷ rest) ≡ Some (id, rest)
first_again tag id rest fits =
    ap (λ (o : Option (List ℕ)). option_map (λ (a : List ℕ). (a, rest)) (option_and_then remote_id_of o)) (octets_of-Primitive tag id) ∙ next_again id rest fits

-- the first child is no origin, or is one
no_origin : (t : Tree) → first (transaction_id_under ORIGIN) (children t) ≡ None → (o : List ℕ) → HasOrigin t o → ⊥
no_origin t e o h = none_not e (ap (first (transaction_id_under ORIGIN)) h.spelled ∙ first_again ORIGIN o h.rest h.fits)

an_origin : (t : Tree) (x : List ℕ × List Tree) → first (transaction_id_under ORIGIN) (children t) ≡ Some x → HasOrigin t x.0
an_origin t x e = let (fits, split) = id_found ORIGIN (children t) x e in record { rest = x.1; fits = fits; spelled = split }

pub may_be : (t : Tree) (o : List ℕ) → IsBeginOrContinue t → HasOrigin t o → MayBeAnswered t o
may_be t o (inl e) h = (h, λ f. other t BEGIN END refl e f, λ f. other t BEGIN ABORT refl e f)
may_be t o (inr e) h = (h, λ f. other t CONTINUE END refl e f, λ f. other t CONTINUE ABORT refl e f)

err_is : {A : Type 0} {u v : Unread} → (let r : Result A Unread = Err u in r) ≡ Err v → u ≡ v
err_is e = cc

ok_err : {A : Type 0} {a : A} {v : Unread} → (let r : Result A Unread = Ok a in r) ≡ Err v → ⊥
ok_err e = cc

-- Begin
abbrev FaultyBegin : List Tree → Unread → Type 0
FaultyBegin us u =
    ((first (transaction_id_under ORIGIN) us ≡ None) × (u ≡ Discarded))
    ⊎ ((x : List ℕ × List Tree) × (first (transaction_id_under ORIGIN) us ≡ Some x) × (u ≡ Refused x.0 INCORRECT_TRANSACTION_PORTION))

begin_err : (us : List Tree) (u : Unread) → begin_of us ≡ Err u → FaultyBegin us u
unfolding begin_of
begin_err us u e = go (first (transaction_id_under ORIGIN) us) refl e
  where
    portions : (x : List ℕ × List Tree) → first (transaction_id_under ORIGIN) us ≡ Some x → (p : Option Portions)
        → (ok_or p (Refused x.0 INCORRECT_TRANSACTION_PORTION) >>= λ q. Ok (tc.Begin x.0 q)) ≡ Err u → FaultyBegin us u
    portions x f None g = inr (x, f, sym (err_is g))
    portions x f (Some p) g = absurd (ok_err g)

    go : (o : Option (List ℕ × List Tree)) → first (transaction_id_under ORIGIN) us ≡ o
        → (ok_or o Discarded >>= λ origin. ok_or (portions_of origin.1) (Refused origin.0 INCORRECT_TRANSACTION_PORTION) >>= λ q. Ok (tc.Begin origin.0 q))
        ≡ Err u → FaultyBegin us u
    go None f g = inl (f, sym (err_is g))
    go (Some x) f g = portions x f (portions_of x.1) g

incorrect_said : (t : Tree) (o : List ℕ) → NoMessage t → IsBeginOrContinue t → HasOrigin t o
    → ((tag_of t ≡ CONTINUE) × ((a b : List ℕ) → HasOriginAndDestination t a b → ⊥) → ⊥) → Said t (Refused o INCORRECT_TRANSACTION_PORTION)
incorrect_said t o n one origin lacks = inr (
  not_uni t one,
  inr (
    not_unknown t one,
    inr
        (λ h. h.1 o origin, inr (lacks, inl (n, inl (o, may_be t o one origin, refl)))),
  ),
)

begin_said : (ts : Trees) (u : Unread) → message_of (Constructed BEGIN ts) ≡ Err u → Said (Constructed BEGIN ts) u
unfolding message_of
begin_said ts u e =
    let t = Constructed BEGIN ts in
    let n : NoMessage t = no_message t u e in
    elim (begin_err (list_of ts) u e) [
      | inl a ↦ subst (Said t) (sym a.1) (originless_said t n (no_origin t a.0))
      | inr b ↦ subst (Said t) (sym b.2) (incorrect_said t b.0.0 n (inl refl) (an_origin t b.0 b.1) (λ h. other t BEGIN CONTINUE refl refl h.0))
    ]

-- Continue
abbrev Faulty : List Tree → Unread → Type 0
Faulty us u =
    ((first (transaction_id_under ORIGIN) us ≡ None) × (u ≡ Discarded))
    ⊎ ((x : List ℕ × List Tree) × (first (transaction_id_under ORIGIN) us ≡ Some x)
    × (((first (transaction_id_under DESTINATION) x.1 ≡ None) × (u ≡ Refused x.0 BADLY_FORMATTED_TRANSACTION_PORTION))
    ⊎ ((y : List ℕ × List Tree) × (first (transaction_id_under DESTINATION) x.1 ≡ Some y) × (u ≡ Refused x.0 INCORRECT_TRANSACTION_PORTION))))

continue_err : (us : List Tree) (u : Unread) → continue_of us ≡ Err u → Faulty us u
unfolding continue_of
continue_err us u e = go (first (transaction_id_under ORIGIN) us) refl e
  where
    portions : (x y : List ℕ × List Tree) → first (transaction_id_under ORIGIN) us ≡ Some x → first (transaction_id_under DESTINATION) x.1 ≡ Some y
        → (p : Option Portions) → (ok_or p (Refused x.0 INCORRECT_TRANSACTION_PORTION) >>= λ q. Ok (tc.Continue x.0 y.0 q)) ≡ Err u → Faulty us u
    portions x y f f' None g = inr (x, f, inr (y, f', sym (err_is g)))
    portions x y f f' (Some p) g = absurd (ok_err g)

    behind : (x : List ℕ × List Tree) → first (transaction_id_under ORIGIN) us ≡ Some x → (d : Option (List ℕ × List Tree))
        → first (transaction_id_under DESTINATION) x.1 ≡ d → (ok_or d (Refused x.0 BADLY_FORMATTED_TRANSACTION_PORTION) >>= λ destination. ok_or
        (portions_of destination.1) (Refused x.0 INCORRECT_TRANSACTION_PORTION) >>= λ q. Ok (tc.Continue x.0 destination.0 q)) ≡ Err u → Faulty us u
    behind x f None f' g = inr (x, f, inl (f', sym (err_is g)))
    behind x f (Some y) f' g = portions x y f f' (portions_of y.1) g

    go : (o : Option (List ℕ × List Tree)) → first (transaction_id_under ORIGIN) us ≡ o
        → (ok_or o Discarded >>= λ origin. ok_or (first (transaction_id_under DESTINATION) origin.1)
        (Refused origin.0 BADLY_FORMATTED_TRANSACTION_PORTION) >>= λ destination. ok_or (portions_of destination.1)
        (Refused origin.0 INCORRECT_TRANSACTION_PORTION) >>= λ q. Ok (tc.Continue origin.0 destination.0 q)) ≡ Err u → Faulty us u
    go None f g = inl (f, sym (err_is g))
    go (Some x) f g = behind x f (first (transaction_id_under DESTINATION) x.1) refl g

continue_said : (ts : Trees) (u : Unread) → message_of (Constructed CONTINUE ts) ≡ Err u → Said (Constructed CONTINUE ts) u
unfolding message_of
continue_said ts u e = go (continue_err (list_of ts) u e)
  where
    t : Tree
    t = Constructed CONTINUE ts

    n : NoMessage t
    n = no_message t u e

    lacks : (x : List ℕ × List Tree) → first (transaction_id_under ORIGIN) (list_of ts) ≡ Some x → first (transaction_id_under DESTINATION) x.1 ≡ None
        → (a b : List ℕ) → HasOriginAndDestination t a b → ⊥
    lacks x f none a b h =
        let (fits, split) = id_found ORIGIN (list_of ts) x f in
        let s = h.spelled in
        let r : x.1 ≡ Primitive DESTINATION b ∷ h.rest = cc in
        none_not none (ap (first (transaction_id_under DESTINATION)) r ∙ first_again DESTINATION b h.rest h.destination_fits)

    has : (x y : List ℕ × List Tree) → first (transaction_id_under ORIGIN) (list_of ts) ≡ Some x → first (transaction_id_under DESTINATION) x.1 ≡ Some y
        → HasOriginAndDestination t x.0 y.0
    has x y f g =
        let (fits, split) = id_found ORIGIN (list_of ts) x f in
        let (fits', split') = id_found DESTINATION x.1 y g in
        record { rest = y.1; origin_fits = fits; destination_fits = fits'; spelled = split ∙ ap (λ (r : List Tree). Primitive ORIGIN x.0 ∷ r) split' }

    go : Faulty (list_of ts) u → Said t u
    go (inl a) = subst (Said t) (sym a.1) (originless_said t n (no_origin t a.0))
    go (inr (x, f, inl (g, is))) =
        let origin = an_origin t x f in
        subst (Said t) (sym is) (inr (
          not_uni t (inr refl),
          inr (
            not_unknown t (inr refl),
            inr
                (λ h. h.1 x.0 origin, inl ((refl, lacks x f g), inl (x.0, may_be t x.0 (inr refl) origin, refl))),
          ),
        ))
    go (inr (x, f, inr (y, g, is))) =
        subst (Said t) (sym is) (incorrect_said t x.0 n (inr refl) (an_origin t x f) (λ h. h.1 x.0 y.0 (has x y f g)))

-- End and Abort
end_err : (us : List Tree) (u : Unread) → end_of us ≡ Err u → u ≡ Discarded
unfolding end_of
end_err us u e = go (first (transaction_id_under DESTINATION) us) e
  where
    portions : (x : List ℕ × List Tree) → (p : Option Portions) → (ok_or p Discarded >>= λ q. Ok (tc.End x.0 q)) ≡ Err u → u ≡ Discarded
    portions x None g = sym (err_is g)
    portions x (Some p) g = absurd (ok_err g)

    go : (o : Option (List ℕ × List Tree)) → (ok_or o Discarded >>= λ destination. ok_or (portions_of destination.1) Discarded >>= λ q. Ok
        (tc.End destination.0 q)) ≡ Err u → u ≡ Discarded
    go None g = sym (err_is g)
    go (Some x) g = portions x (portions_of x.1) g

abort_err : (us : List Tree) (u : Unread) → abort_of us ≡ Err u → u ≡ Discarded
unfolding abort_of
abort_err us u e = go (first (transaction_id_under DESTINATION) us) e
  where
    ends : (x : List ℕ × List Tree) (b : Bool) → cond b (Ok (tc.Abort x.0)) (Err Discarded) ≡ Err u → u ≡ Discarded
    ends x true g = absurd (ok_err g)
    ends x false g = sym (err_is g)

    go : (o : Option (List ℕ × List Tree)) → (ok_or o Discarded >>= λ destination. cond (may_end_abort destination.1) (Ok (tc.Abort destination.0))
        (Err Discarded)) ≡ Err u → u ≡ Discarded
    go None g = sym (err_is g)
    go (Some x) g = ends x (may_end_abort x.1) g

end_said : (ts : Trees) (u : Unread) → message_of (Constructed END ts) ≡ Err u → Said (Constructed END ts) u
unfolding message_of
end_said ts u e = let t = Constructed END ts in subst (Said t) (sym (end_err (list_of ts) u e)) (closed_said t (no_message t u e) (inl refl))

abort_said : (ts : Trees) (u : Unread) → message_of (Constructed ABORT ts) ≡ Err u → Said (Constructed ABORT ts) u
unfolding message_of
abort_said ts u e = let t = Constructed ABORT ts in subst (Said t) (sym (abort_err (list_of ts) u e)) (closed_said t (no_message t u e) (inr refl))

uni_said : (ts : Trees) (u : Unread) → message_of (Constructed UNIDIRECTIONAL ts) ≡ Err u → Said (Constructed UNIDIRECTIONAL ts) u
unfolding message_of
uni_said ts u e = subst (Said (Constructed UNIDIRECTIONAL ts)) (err_is e) (inl (refl, refl))

-- another tag
not_tag : (a b : Tag) → (a ≡ b → ⊥) → same_tag a b ≡ false
not_tag a b n = go (same_tag a b) refl
  where
    go : (c : Bool) → same_tag a b ≡ c → c ≡ false
    go true e = absurd (n (same_tag-is a b e))
    go false e = refl

abbrev by_tests : List Tree → (b c e a u : Bool) → Result TcMessage Unread
by_tests us b c e a u =
    if_under (cond b (Some us) None) begin_of
    (if_under (cond c (Some us) None) continue_of
    (if_under (cond e (Some us) None) end_of
    (if_under (cond a (Some us) None) abort_of
    (if_under (cond u (Some us) None) (λ ts. Err Discarded)
    (unrecognized (first (transaction_id_under ORIGIN) us))))))

message_unknown : (tag : Tag) (ts : Trees) → (tag ≡ BEGIN → ⊥) → (tag ≡ CONTINUE → ⊥) → (tag ≡ END → ⊥) → (tag ≡ ABORT → ⊥) → (tag ≡ UNIDIRECTIONAL → ⊥)
    → message_of (Constructed tag ts) ≡ unrecognized (first (transaction_id_under ORIGIN) (list_of ts))
unfolding message_of
message_unknown tag ts b c e a u =
    let us = list_of ts in
    ap (λ x. by_tests us x (same_tag tag CONTINUE) (same_tag tag END) (same_tag tag ABORT) (same_tag tag UNIDIRECTIONAL)) (not_tag tag BEGIN b)
    ∙ ap (λ x. by_tests us false x (same_tag tag END) (same_tag tag ABORT) (same_tag tag UNIDIRECTIONAL)) (not_tag tag CONTINUE c)
    ∙ ap (λ x. by_tests us false false x (same_tag tag ABORT) (same_tag tag UNIDIRECTIONAL)) (not_tag tag END e)
    ∙ ap (λ x. by_tests us false false false x (same_tag tag UNIDIRECTIONAL)) (not_tag tag ABORT a)
    ∙ ap (λ x. by_tests us false false false false x) (not_tag tag UNIDIRECTIONAL u)

unknown_said : (t : Tree) (v : Unread) → Unknown t → (tag_of t ≡ UNIDIRECTIONAL → ⊥) → NoMessage t → (o : Option (List ℕ × List Tree))
    → first (transaction_id_under ORIGIN) (children t) ≡ o → unrecognized o ≡ Err v → Said t v
unknown_said t v known uni n None f e = subst (Said t) (err_is e) (originless_said t n (no_origin t f))
unknown_said t v known uni n (Some x) f e =
    let origin = an_origin t x f in
    subst (Said t) (err_is e) (inr (uni, inl (known, inl (x.0, (origin, known.2, known.3), refl))))

primitive_said : (tag : Tag) (octets : List ℕ) (u : Unread) → message_of (Primitive tag octets) ≡ Err u → Said (Primitive tag octets) u
unfolding message_of
primitive_said tag octets u e =
    let t = Primitive tag octets in
    subst (Said t) (err_is e) (originless_said t (no_message t u e) (λ o h. let s = h.spelled in absurd cc))

unread_found : (t : Tree) (u : Unread) → message_of t ≡ Err u → Said t u
unread_found (Primitive tag octets) u e = primitive_said tag octets u e
unread_found (Constructed tag ts) u e =
    go (either_tag tag BEGIN) (either_tag tag CONTINUE) (either_tag tag END) (either_tag tag ABORT) (either_tag tag UNIDIRECTIONAL)
  where
    at : (a : Tag) → tag ≡ a → (message_of (Constructed a ts) ≡ Err u → Said (Constructed a ts) u) → Said (Constructed tag ts) u
    at a same h = subst (λ (g : Tag). message_of (Constructed g ts) ≡ Err u → Said (Constructed g ts) u) (sym same) h e

    go : Either (tag ≡ BEGIN) → Either (tag ≡ CONTINUE) → Either (tag ≡ END) → Either (tag ≡ ABORT) → Either (tag ≡ UNIDIRECTIONAL)
        → Said (Constructed tag ts) u
    go (inl b) c n a d = at BEGIN b (begin_said ts u)
    go (inr b) (inl c) n a d = at CONTINUE c (continue_said ts u)
    go (inr b) (inr c) (inl n) a d = at END n (end_said ts u)
    go (inr b) (inr c) (inr n) (inl a) d = at ABORT a (abort_said ts u)
    go (inr b) (inr c) (inr n) (inr a) (inl d) = at UNIDIRECTIONAL d (uni_said ts u)
    go (inr b) (inr c) (inr n) (inr a) (inr d) =
        unknown_said (Constructed tag ts) u (b, c, n, a) d (no_message (Constructed tag ts) u e) (first (transaction_id_under ORIGIN) (list_of ts)) refl
        (sym (message_unknown tag ts b c n a d) ∙ e)

-- ---- what a tree is with its portions unread

pub message_or_not_found : (t : Tree) (r : Result TcMessage Unread) → message_of t ≡ r → IsMessageOrNot t r
message_or_not_found t (Ok m) e = message_found t m e
message_or_not_found t (Err u) e = unread_found t u e

pub message_or_not_again : (t : Tree) (r : Result TcMessage Unread) → IsMessageOrNot t r → message_of t ≡ r
message_or_not_again t (Ok m) is = message_again t m is
message_or_not_again t (Err u) said = go (message_of t) refl
  where
    go : (r : Result TcMessage Unread) → message_of t ≡ r → r ≡ Err u
    go (Ok m) e = absurd (said_or_none message_points t u said (message_passes t m (message_found t m e)))
    go (Err w) e = ap (λ (x : Unread). Err x) (one_said message_points t w u (unread_found t w e) said)

pub ruleset message_laws = (message_or_not_found, message_or_not_again)
