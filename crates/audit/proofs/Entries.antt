-- The open dialogues of a shard, as they are gathered one after the other.
use Rattle.std.proofs.Common.{◌≡◌, ℕ, ◌+◌, ◌<◌, List, [], ◌∷◌, ◌++◌, length, map, take, get_or, append_assoc, refl, sym, ap, ◌∙◌}
use Rattle.std.specs.Prelude.{ℤ, Some}
use Rattle.std.specs.FinMap as finite
use Rattle.machine.specs.State as machine
use Rattle.machine.specs.State.{Dialogue, Invocation}
use Rattle.csl.specs.declared.was.Was.{Was}
use Rattle.csl.specs.Seen.{told_of, was, was_back}
use Rattle.dialogues.specs.declared.dialogue.Dialogue as code
use Rattle.dialogues.specs.Dialogues.{OpenDialogues, dialogues_of, invocations_in}
use Rattle.dialogues.specs.Seen.{dialogue_with}
use Rattle.images.proofs.OpenEntries.{next_opened}
use Rattle.audit.specs.Gathered.{told_back}

told_again : (vs : List Invocation) → map told_back (map told_of vs) ≡ vs
told_again [] = refl
told_again (v ∷ vs) = λ i. one v i ∷ told_again vs i
  where
    was_again : (w : machine.Was) → was (was_back w) ≡ w
    was_again machine.OperationSent = refl
    was_again machine.WaitForReject = refl

    one : (v : Invocation) → told_back (told_of v) ≡ v
    one v = λ i. record { id = v.id; was = was_again v.was i; deadline = v.deadline }

pub pushed_open : (d : OpenDialogues) (i : ℕ) (id : List ℕ) (found : code.Dialogue) (told : List (ℤ × Was × ℕ))
    (old before after : List (List ℕ × Dialogue))
    → i < length (finite.keys d.open_ones) → id ≡ get_or (finite.keys d.open_ones) i id
    → Some (dialogue_with (invocations_in (dialogues_of d id)) found) ≡ dialogues_of d id
    → told ≡ map told_of (invocations_in (dialogues_of d id))
    → before ≡ old ++ take i (finite.entries d.open_ones) → after ≡ before ++ (id, dialogue_with (map told_back told) found) ∷ []
    → after ≡ old ++ take (i + 1) (finite.entries d.open_ones)
pushed_open d i id found told old before after lt is there told_is so_far pushed =
    let vs : List Invocation = invocations_in (dialogues_of d id) in
    let again : map told_back told ≡ vs = ap (map told_back) told_is ∙ told_again vs in
    let whole : after ≡ before ++ (id, dialogue_with vs found) ∷ [] =
    pushed ∙ ap (λ (us : List Invocation). before ++ (id, dialogue_with us found) ∷ []) again in
    whole ∙ ap (λ (es : List (List ℕ × Dialogue)). es ++ (id, dialogue_with vs found) ∷ []) so_far
    ∙ append_assoc old (take i (finite.entries d.open_ones)) ((id, dialogue_with vs found) ∷ [])
    ∙ ap (λ (es : List (List ℕ × Dialogue)). old ++ es) (sym (next_opened d i id lt is (dialogue_with vs found) there))
