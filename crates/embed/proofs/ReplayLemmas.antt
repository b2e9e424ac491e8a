-- The loop over the lines of a log.
use Rattle.std.proofs.Common.{◌≡◌, ℕ, ◌+◌, ◌-◌, ◌≤◌, List, [], ◌∷◌, ◌++◌, append_assoc, length, length-append, refl, sym, ap, subst, ◌∙◌, arith, inl, inr}
use Rattle.std.specs.List.{AllByRecursion}
use Rattle.std.proofs.lemmas.Grind.{flat_map-append}
use Rattle.std.proofs.lemmas.List.{append-nil}
use Rattle.texts.specs.Lines.{parts}
use Rattle.embed.specs.declared.fault.LineFault.TheVariants.{NotALine}
use Rattle.embed.specs.declared.fault.ReplayFault.{ReplayFault}
use Rattle.embed.specs.Registers.{RegisterState}
use Rattle.embed.specs.Replay.{Does, Fails, HasNothing, IsLogLine, Replays, StopsReplay, octets_of, whole_lines}
use Rattle.embed.proofs.TextLemmas.{no_more, octets_cut, one_more}

-- After these lines the register is here, and this text is left.
pub record IsAt (start : RegisterState) (text : List ℕ) (here : RegisterState) (left : List ℕ) (number : ℕ) : Type 0 where
  pub done : List (List ℕ)
  pub lines_are : whole_lines text ≡ done ++ whole_lines left
  pub octets : length (octets_of done) + length left ≡ length text
  pub number_is : number ≡ length done
  pub few : number + length left ≤ length text
  pub replays : Replays start done here

pub begins : (start : RegisterState) (text : List ℕ) → IsAt start text start text 0
begins start text = record { done = []; lines_are = refl; octets = omega arith; number_is = refl; few = omega arith; replays = refl }

-- one more line
replays_more : (before : RegisterState) (lines : List (List ℕ)) (line : List ℕ) (here after : RegisterState) → Replays before lines here → Does here line after
    → Replays before (lines ++ line ∷ []) after
replays_more before [] line here after is does = (after, subst (λ (b : RegisterState). Does b line after) is does, refl)
replays_more before (first ∷ more) line here after (between, one, rest) does = (between, one, replays_more between more line here after rest does)

octets_more : (done : List (List ℕ)) (line : List ℕ) → length (octets_of (done ++ line ∷ [])) ≡ length (octets_of done) + length (line ++ 10 ∷ [])
octets_more done line =
    let split : octets_of (done ++ line ∷ []) ≡ octets_of done ++ octets_of (line ∷ []) = flat_map-append (λ l. l ++ 10 ∷ []) done (line ∷ []) in
    let one : octets_of (line ∷ []) ≡ line ++ 10 ∷ [] = append-nil (line ++ 10 ∷ []) in
    ap length (split ∙ ap (λ (l : List ℕ). octets_of done ++ l) one) ∙ length-append (octets_of done) (line ++ 10 ∷ [])

pub goes_on : (start : RegisterState) (text : List ℕ) (here : RegisterState) (left : List ℕ) (number : ℕ) (line rest : List ℕ) (next : RegisterState)
    → IsAt start text here left number → parts 10 left ≡ line ∷ parts 10 rest → Does here line next → IsAt start text next rest (number + 1)
goes_on start text here left number line rest next h is does = record {
  done = h.done ++ line ∷ [];
  lines_are = h.lines_are ∙ ap (λ (ls : List (List ℕ)). h.done ++ ls) (one_more left line rest is) ∙ sym (append_assoc h.done (line ∷ []) (whole_lines rest));
  octets = let cut = octets_cut left line rest is in omega (arith, octets_more h.done line, cut, h.octets);
  number_is = omega (arith, h.number_is, length-append h.done (line ∷ []));
  few = let cut = octets_cut left line rest is in omega (arith, cut, length-append line (10 ∷ []), h.few);
  replays = replays_more start h.done line here next h.replays does;
}

-- no more line
all_done : (start : RegisterState) (text : List ℕ) (here : RegisterState) (left : List ℕ) (number : ℕ) (h : IsAt start text here left number)
    → parts 10 left ≡ left ∷ [] → h.done ≡ whole_lines text
all_done start text here left number h is =
    sym (h.lines_are ∙ ap (λ (ls : List (List ℕ)). h.done ++ ls) (no_more left is) ∙ append-nil h.done)

pub ends : (start : RegisterState) (text : List ℕ) (here : RegisterState) (left : List ℕ) (number : ℕ) → IsAt start text here left number
    → parts 10 left ≡ left ∷ [] → Replays start (whole_lines text) here
ends start text here left number h is = subst (λ (ls : List (List ℕ)). Replays start ls here) (all_done start text here left number h is) h.replays

pub all_used : (start : RegisterState) (text : List ℕ) (here : RegisterState) (left : List ℕ) (number used : ℕ) → IsAt start text here left number
    → parts 10 left ≡ left ∷ [] → used ≡ length text - length left → used ≡ length (octets_of (whole_lines text))
all_used start text here left number used h is count =
    let so_far : used ≡ length (octets_of h.done) = omega (arith, count, h.octets) in
    so_far ∙ ap (λ (ls : List (List ℕ)). length (octets_of ls)) (all_done start text here left number h is)

-- a line that is not done
pub stops : (start : RegisterState) (text : List ℕ) (here : RegisterState) (left : List ℕ) (number : ℕ) (line rest : List ℕ) (fault : ReplayFault)
    (after : RegisterState)
    → IsAt start text here left number → parts 10 left ≡ line ∷ parts 10 rest → fault.used ≡ length text - length left → fault.line ≡ number + 1
    → Fails here line fault.why → after ≡ here → StopsReplay start (whole_lines text) fault after
stops start text here left number line rest fault after h is used at why same = record {
  done = h.done;
  line = line;
  rest = whole_lines rest;
  lines_are = h.lines_are ∙ ap (λ (ls : List (List ℕ)). h.done ++ ls) (one_more left line rest is);
  number = omega (arith, at, h.number_is);
  used = omega (arith, used, h.octets);
  replays = subst (Replays start h.done) (sym same) h.replays;
  fails = subst (λ (r : RegisterState). Fails r line fault.why) (sym same) why;
}

-- ---- lines of a log

at_line : (done : List (List ℕ)) (line : List ℕ) (rest : List (List ℕ)) → AllByRecursion IsLogLine (done ++ line ∷ rest) → IsLogLine line
at_line [] line rest all = all.0
at_line (first ∷ more) line rest all = at_line more line rest all.1

pub not_none : (before : RegisterState) (lines : List (List ℕ)) (fault : ReplayFault) (after : RegisterState) → StopsReplay before lines fault after
    → AllByRecursion IsLogLine lines → fault.why ≡ NotALine → ⊥
not_none before lines fault after h all none =
    let nothing : HasNothing h.line = subst (Fails after h.line) none h.fails in
    elim (at_line h.done h.line h.rest (subst (AllByRecursion IsLogLine) h.lines_are all)) [
      | inl event ↦ nothing.0 event.0 event.1
      | inr clock ↦ nothing.1 clock.0 clock.1
    ]
