-- The verdict that is read of octets is the one that they have.
use Rattle.std.proofs.Common.{◌≡◌, ℕ, Bool, true, false, cond, ◌&&◌, ltb, leb, List, [], ◌∷◌, length, refl, ap, ◌∙◌, subst, inl, inr}
use Rattle.std.specs.Prelude.{Option, Some, None, option_and_then}
use Rattle.std.proofs.lemmas.Bool.{ltb-true, lt-ltb, leb-true, le-leb}
use Rattle.x690.specs.declared.limits.TheConstants.{MAX_OCTETS, MAX_LEVELS}
use Rattle.x690.specs.Tree.{Tree, levels}
use Rattle.x690.proofs.Readings.{both_true, bind_some, none_not}
use Rattle.machine.specs.Octets.{AreOctets}
use Rattle.machine.specs.Received.{Verdict}
use Rattle.frames.specs.Choices.{when}
use Rattle.frames.specs.Frames.{IsFrame, IsVerdict}
use Rattle.frames.proofs.JudgingLaws.{judged, one_verdict}
use Rattle.frames_laws.specs.Reader.{read_tree, are_octets, read_frame, verdict_or_discard, read_verdict}
use Rattle.frames_laws.proofs.ReaderLaws.{when_some, when_true, tree-is, tree-of}

-- ---- octets

pub written : (ns : List ℕ) → are_octets ns ≡ true → AreOctets ns
written [] e = tt
written (n ∷ ns) e = let (small, rest) = both_true (ltb n 256) (are_octets ns) e in (ltb-true n 256 small, written ns rest)

are-octets : (ns : List ℕ) → AreOctets ns → are_octets ns ≡ true
are-octets [] h = refl
are-octets (n ∷ ns) (h, hs) = ap (λ b. b && are_octets ns) (lt-ltb n 256 h) ∙ are-octets ns hs

-- ---- frames

within-some : (b : Bool) (o : Option Tree) (t : Tree) → cond b o None ≡ Some t → (b ≡ true) × (o ≡ Some t)
within-some true o t e = (refl, e)
within-some false o t e = absurd cc

frame-is : (octets : List ℕ) (t : Tree) → read_frame octets ≡ Some t → IsFrame octets t
frame-is octets t e =
    let (u, read, f) = bind_some (cond (are_octets octets && leb (length octets) MAX_OCTETS) (read_tree octets) None) _ t e in
    let (within, is) = within-some (are_octets octets && leb (length octets) MAX_OCTETS) (read_tree octets) u read in
    let (are, short) = both_true (are_octets octets) _ within in
    let (shallow, same) = when_some (leb (levels u) MAX_LEVELS) u t f in
    subst (IsFrame octets) same
    (record { are = written octets are; spelled = tree-is octets u is; short = leb-true _ _ short; shallow = leb-true _ _ shallow })

frame-of : (octets : List ℕ) (t : Tree) → IsFrame octets t → read_frame octets ≡ Some t
frame-of octets t h =
    let within : are_octets octets && leb (length octets) MAX_OCTETS ≡ true =
    ap (λ b. b && leb (length octets) MAX_OCTETS) (are-octets octets h.are) ∙ le-leb _ _ h.short in
    ap (λ b. option_and_then (λ (u : Tree). when (leb (levels u) MAX_LEVELS) u) (cond b (read_tree octets) None)) within
    ∙ ap (option_and_then (λ (u : Tree). when (leb (levels u) MAX_LEVELS) u)) (tree-of octets t h.spelled)
    ∙ when_true _ t (le-leb _ _ h.shallow)

-- ---- verdicts

pub verdict-read : (octets : List ℕ) → IsVerdict octets (read_verdict octets)
verdict-read octets = go (read_frame octets) refl
  where
    go : (o : Option Tree) → read_frame octets ≡ o → IsVerdict octets (verdict_or_discard o)
    go None e = inl (λ t frame. none_not e (frame-of octets t frame), refl)
    go (Some t) e = inr (t, frame-is octets t e, judged t)

-- a verdict, by computing it
pub verdict_is : (octets : List ℕ) (v : Verdict) → read_verdict octets ≡ v → IsVerdict octets v
verdict_is octets v e = subst (IsVerdict octets) e (verdict-read octets)

pub verdict_of_octets : (octets : List ℕ) (v : Verdict) → IsVerdict octets v → read_verdict octets ≡ v
verdict_of_octets octets v is = one_verdict octets (read_verdict octets) v (verdict-read octets) is
