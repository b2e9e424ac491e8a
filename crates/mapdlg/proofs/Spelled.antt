-- The dialogue portions that request and accept a context, as octets.
use Rattle.std.proofs.Common.{◌≡◌, ℕ, List, [], ◌∷◌, refl, ap, ◌∙◌}
use Rattle.x690.specs.Identifier.{identifier, number_octets}
use Rattle.x690.specs.Length.{length_octets}
use Rattle.x690.specs.Spelling.{enc}
use Rattle.x690.specs.Tree.{Primitive}
use Rattle.machine.specs.Received.{OfUser}
use Rattle.machine.specs.Sent.{Context}
use Rattle.machine.specs.Contexts.{name_of}
use Rattle.frames.specs.declared.tags.TheConstants.{DIALOGUE_PORTION}
use Rattle.frames.specs.declared.numbers.TheConstants.{ACCEPTED, NO_DIAGNOSTIC}
use Rattle.frames.specs.DialogueForms.{portion_tree}
use Rattle.frames.specs.SentTrees.{aare_tree, aarq_tree, accepting, asking}

-- ---- the request

abbrev requesting : (a b c d e f g : ℕ) → List ℕ
requesting a b c d e f g =
    40 ∷ 28 ∷ 6 ∷ 7 ∷ 0 ∷ 17 ∷ 134 ∷ 5 ∷ 1 ∷ 1 ∷ 1 ∷ 160 ∷ 17 ∷ 96 ∷ 15 ∷ 128 ∷ 2 ∷ 7 ∷ 128 ∷ 161 ∷ 9 ∷ 6 ∷ 7 ∷ a ∷ b ∷ c ∷ d ∷ e ∷ f ∷ g ∷ []

request_spelled : (a b c d e f g : ℕ) → enc (Primitive DIALOGUE_PORTION (requesting a b c d e f g))
    ≡ enc (portion_tree (aarq_tree (a ∷ b ∷ c ∷ d ∷ e ∷ f ∷ g ∷ [])))
unfolding identifier number_octets length_octets
request_spelled a b c d e f g = refl

pub requested : (context : Context) (a b c d e f g : ℕ) → a ∷ b ∷ c ∷ d ∷ e ∷ f ∷ g ∷ [] ≡ name_of context
    → enc (Primitive DIALOGUE_PORTION (requesting a b c d e f g)) ≡ enc (asking context)
requested context a b c d e f g named =
    request_spelled a b c d e f g ∙ ap (λ name. enc (portion_tree (aarq_tree name))) named

-- ---- the answer

abbrev answering : (a b c d e f g : ℕ) → List ℕ
answering a b c d e f g =
    40 ∷ 40 ∷ 6 ∷ 7 ∷ 0 ∷ 17 ∷ 134 ∷ 5 ∷ 1 ∷ 1 ∷ 1 ∷ 160 ∷ 29 ∷ 97 ∷ 27 ∷ 128 ∷ 2 ∷ 7 ∷ 128 ∷ 161 ∷ 9 ∷ 6 ∷ 7 ∷ a ∷ b ∷ c ∷ d ∷ e ∷ f ∷ g
    ∷ 162 ∷ 3 ∷ 2 ∷ 1 ∷ 0 ∷ 163 ∷ 5 ∷ 161 ∷ 3 ∷ 2 ∷ 1 ∷ 0 ∷ []

answer_spelled : (a b c d e f g : ℕ) → enc (Primitive DIALOGUE_PORTION (answering a b c d e f g))
    ≡ enc (portion_tree (aare_tree (a ∷ b ∷ c ∷ d ∷ e ∷ f ∷ g ∷ []) ACCEPTED (OfUser NO_DIAGNOSTIC)))
unfolding identifier number_octets length_octets
answer_spelled a b c d e f g = refl

pub answered : (context : Context) (a b c d e f g : ℕ) → a ∷ b ∷ c ∷ d ∷ e ∷ f ∷ g ∷ [] ≡ name_of context
    → enc (Primitive DIALOGUE_PORTION (answering a b c d e f g)) ≡ enc (accepting context)
answered context a b c d e f g named =
    answer_spelled a b c d e f g ∙ ap (λ name. enc (portion_tree (aare_tree name ACCEPTED (OfUser NO_DIAGNOSTIC)))) named
