-- Each tree has one verdict: the one that is read.
use Rattle.std.proofs.Common.{◌≡◌, ℕ, ◌≤◌, ◌<◌, Bool, true, false, leb, cond, List, [], ◌∷◌, length, refl, ap, sym, ◌∙◌, subst, ◌⊎◌, inl, inr, arith}
use Rattle.std.specs.Prelude.{Result, Ok, Err, Option, Some, None}
use Rattle.std.proofs.lemmas.Bool.{cases_lt, leb-true, le-leb}
use Rattle.x690.specs.Tree.{Tree, Primitive}
use Rattle.x690.specs.Reading.{tag_of}
use Rattle.x690.proofs.Spellings.{Spells-unique}
use Rattle.machine.specs.Received.{Message, Verdict, Read}
use Rattle.frames.specs.declared.tags.TheConstants.{BEGIN, CONTINUE, DESTINATION}
use Rattle.machine.specs.declared.numbers.TheConstants.{MAX_COMPONENTS, RESOURCE_LIMITATION}
use Rattle.frames.specs.declared.numbers.TheConstants.{INCORRECT_TRANSACTION_PORTION}
use Rattle.frames.specs.Messages as tc
use Rattle.frames.specs.Messages.{TcMessage, Unread, Discarded, Refused, message_of, components_in}
use Rattle.frames.specs.MessageForms.{IsMessage}
use Rattle.frames.specs.Points.{Point, HasUnreadablePortion, HasTooManyComponents, Fits, message_points, points, IsAnswer, IsSaidFirst}
use Rattle.frames.specs.Verdicts.{read_in, refusal, checked, verdict_on, verdict_in, verdict_of}
use Rattle.frames.specs.Frames.{Reads, IsJudged, IsVerdict}
use Rattle.frames.proofs.MessageLaws.{message_found}
use Rattle.frames.proofs.ReadLaws.{reads_found, one_tc, one_message, unreadable, readable}
use Rattle.frames.proofs.PointLaws.{one_said, said_or_none, said_more, said_later, none_more, message_passes, message_or_not_found, may_be, children_are}

-- ---- one

pub one_judgement : (t : Tree) (v w : Verdict) → IsJudged t v → IsJudged t w → v ≡ w
one_judgement t v w (inl (u, said, e)) (inl (x, said', f)) = e ∙ ap verdict_on (one_said points t u x said said') ∙ sym f
one_judgement t v w (inl (u, said, e)) (inr (none, rest)) = absurd (said_or_none points t u said none)
one_judgement t v w (inr (none, rest)) (inl (u, said, e)) = absurd (said_or_none points t u said none)
one_judgement t v w (inr (none, (m, reads, e))) (inr (none', (n, reads', f))) = e ∙ ap (λ x. Read x) (one_message t m n reads reads') ∙ sym f

pub one_verdict : (octets : List ℕ) (v w : Verdict) → IsVerdict octets v → IsVerdict octets w → v ≡ w
one_verdict octets v w (inl a) (inl b) = a.1 ∙ sym b.1
one_verdict octets v w (inl a) (inr b) = absurd (a.0 b.0 b.1)
one_verdict octets v w (inr a) (inl b) = absurd (b.0 a.0 a.1)
one_verdict octets v w (inr (t, f, j)) (inr (u, g, k)) =
    let e : t ≡ u = Spells-unique octets t u f.spelled g.spelled in
    one_judgement u v w (subst (λ s. IsJudged s v) e j) k

-- ---- and it is the one that is read

-- the answer to a message that is refused
answered : (t : Tree) (m : TcMessage) (cause : ℕ) → IsMessage t m → (u : Unread) × IsAnswer t (Some cause) u × (verdict_on u ≡ refusal m cause)
answered t (tc.Begin o p) cause (ts, are, fits, e) =
    (Refused o cause, inl (o, may_be t o (inl (ap tag_of e)) (record { rest = ts; fits = fits; spelled = children_are t BEGIN _ e }), refl), refl)
answered t (tc.Continue o d p) cause (ts, are, fits, fits', e) = (
  Refused o cause,
  inl (
    o,
    may_be t o (inr (ap tag_of e))
        (record { rest = Primitive DESTINATION d ∷ ts; fits = fits; spelled = children_are t CONTINUE _ e }),
    refl,
  ),
  refl,
)
answered t (tc.End d p) cause (ts, are, fits, e) = (Discarded, inr ((λ o may. may.1 (ap tag_of e)), refl), refl)
answered t (tc.Abort d) cause (ts, are, fits, e) = (Discarded, inr ((λ o may. may.2 (ap tag_of e)), refl), refl)

-- a point about the portions decides
abbrev portion_points : List Point
portion_points = HasUnreadablePortion ∷ HasTooManyComponents ∷ []

judged_later : (t : Tree) (m : TcMessage) (cause : ℕ) → IsMessage t m → ((u : Unread) → IsAnswer t (Some cause) u → IsSaidFirst portion_points t u)
    → IsJudged t (refusal m cause)
judged_later t m cause is says =
    let (u, answer, same) = answered t m cause is in
    inl (u, said_later message_points portion_points t u (message_passes t m is) (says u answer), sym same)

judged_unreadable : (t : Tree) (m : TcMessage) → IsMessage t m → read_in m ≡ None → IsJudged t (refusal m INCORRECT_TRANSACTION_PORTION)
judged_unreadable t m is e =
    let (portion, held, none) = unreadable m e in
    judged_later t m INCORRECT_TRANSACTION_PORTION is (λ u answer. inl ((m, portion, is, held, none), answer))

readable_portion : (t : Tree) (r : Message) → Reads t r → Fits HasUnreadablePortion t → ⊥
readable_portion t r reads (m, portion, is, held, none) = readable t m portion r is reads held none

few_components : (t : Tree) (m : TcMessage) → IsMessage t m → length (components_in m) ≤ MAX_COMPONENTS → Fits HasTooManyComponents t → ⊥
few_components t m is few (n, is', many) =
    let same : length (components_in n) ≡ length (components_in m) = ap (λ x. length (components_in x)) (one_tc t n m is' is) in
    omega arith

judged_read : (t : Tree) (m : TcMessage) (r : Message) → IsMessage t m → Reads t r → length (components_in m) ≤ MAX_COMPONENTS → IsJudged t (Read r)
judged_read t m r is reads few =
    inr (none_more message_points portion_points t (message_passes t m is) (readable_portion t r reads, (few_components t m is few, tt)), (r, reads, refl))

judged_many : (t : Tree) (m : TcMessage) (r : Message) → IsMessage t m → Reads t r → MAX_COMPONENTS < length (components_in m)
    → IsJudged t (refusal m RESOURCE_LIMITATION)
judged_many t m r is reads many = judged_later t m RESOURCE_LIMITATION is (λ u answer. inr (readable_portion t r reads, inl ((m, is, many), answer)))

judged_checked : (t : Tree) (m : TcMessage) → IsMessage t m → (o : Option Message) → read_in m ≡ o → IsJudged t (checked m o)
judged_checked t m is None e = judged_unreadable t m is e
judged_checked t m is (Some r) e = go (leb (length (components_in m)) MAX_COMPONENTS) refl (cases_lt MAX_COMPONENTS (length (components_in m)))
  where
    reads : Reads t r
    reads = reads_found t m r is e

    go : (b : Bool) → leb (length (components_in m)) MAX_COMPONENTS ≡ b
        → (MAX_COMPONENTS < length (components_in m)) ⊎ (length (components_in m) ≤ MAX_COMPONENTS)
        → IsJudged t (cond b (Read r) (refusal m RESOURCE_LIMITATION))
    go true f c = judged_read t m r is reads (leb-true _ _ f)
    go false f (inl many) = judged_many t m r is reads many
    go false f (inr few) = let g : leb (length (components_in m)) MAX_COMPONENTS ≡ true = le-leb _ _ few in absurd cc

pub judged : (t : Tree) → IsJudged t (verdict_of t)
unfolding verdict_of
judged t = go (message_of t) refl
  where
    go : (r : Result TcMessage Unread) → message_of t ≡ r → IsJudged t (verdict_in r)
    go (Err u) e = inl (u, said_more message_points portion_points t u (message_or_not_found t (Err u) e), refl)
    go (Ok m) e = judged_checked t m (message_found t m e) (read_in m) refl

-- a message with few components is read
pub reads_judged : (t : Tree) (m : TcMessage) (r : Message) → IsMessage t m → Reads t r → length (components_in m) ≤ MAX_COMPONENTS → IsJudged t (Read r)
reads_judged t m r is reads few = judged_read t m r is reads few

pub ruleset judging_laws = (judged, one_judgement)
