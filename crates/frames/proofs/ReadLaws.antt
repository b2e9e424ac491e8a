-- A message is read with its portions exactly if the tree is that message.
use Rattle.std.proofs.Common.{◌≡◌, ℕ, List, refl, ap, sym, ◌∙◌, subst}
use Rattle.std.specs.Prelude.{Result, Ok, Option, Some, None, option_map, option_and_then}
use Rattle.x690.specs.Tree.{Tree}
use Rattle.x690.proofs.Readings.{bind_some, map_some, some_is, none_not}
use Rattle.machine.specs.Received.{Response, Apdu, Aarq, Aare, Abrt, Message, Begin, Continue, End, Abort}
use Rattle.frames.specs.Messages as tc
use Rattle.frames.specs.Messages.{TcMessage, Unread, dialogue_in}
use Rattle.frames.specs.MessageForms.{IsMessage}
use Rattle.frames.specs.Dialogues.{dialogue_of}
use Rattle.frames.specs.DialogueForms.{IsDialogue}
use Rattle.frames.specs.Heard.{all_heard}
use Rattle.frames.specs.Points.{IsWanted}
use Rattle.frames.specs.Verdicts.{request_in, response_in, portion_of, read_in}
use Rattle.frames.specs.Frames.{IsPortion, Reads}
use Rattle.frames.proofs.MessageLaws.{message_again}
use Rattle.frames.proofs.DialogueLaws.{dialogue_found, dialogue_again}
use Rattle.frames.proofs.HeardLaws.{all_found, all_again}

-- ---- portions

abbrev Finds : (A : Type 0) → (Apdu → Option A) → (A → Apdu) → Type 0
Finds A wanted apdu = (x : Apdu) (a : A) → wanted x ≡ Some a → x ≡ apdu a

request_finds : Finds (List ℕ) request_in (λ name. Aarq name)
request_finds (Aarq context) a e = ap (λ name. Aarq name) (some_is e)
request_finds (Aare response) a e = absurd cc
request_finds (Abrt source) a e = absurd cc

response_finds : Finds Response response_in (λ r. Aare r)
response_finds (Aarq context) a e = absurd cc
response_finds (Aare response) a e = ap (λ r. Aare r) (some_is e)
response_finds (Abrt source) a e = absurd cc

portion_found : (A : Type 0) (wanted : Apdu → Option A) (apdu : A → Apdu) → Finds A wanted apdu → (d : Option Tree) (a : Option A)
    → portion_of wanted d ≡ Some a → IsPortion apdu d a
portion_found A wanted apdu finds None None e = tt
portion_found A wanted apdu finds None (Some a) e = absurd cc
portion_found A wanted apdu finds (Some t) None e = let (x, is, same) = map_some (option_and_then wanted (dialogue_of t)) Some None e in absurd cc
portion_found A wanted apdu finds (Some t) (Some a) e =
    let (x, is, same) = map_some (option_and_then wanted (dialogue_of t)) Some (Some a) e in
    let (held, is_held, gives) = bind_some (dialogue_of t) wanted x is in
    dialogue_found t (apdu a) (is_held ∙ ap Some (finds held x gives ∙ ap apdu (some_is same)))

portion_again : (A : Type 0) (wanted : Apdu → Option A) (apdu : A → Apdu) → ((a : A) → wanted (apdu a) ≡ Some a) → (d : Option Tree) (a : Option A)
    → IsPortion apdu d a → portion_of wanted d ≡ Some a
portion_again A wanted apdu gives None None h = refl
portion_again A wanted apdu gives None (Some a) h = absurd h
portion_again A wanted apdu gives (Some t) None h = absurd h
portion_again A wanted apdu gives (Some t) (Some a) h =
    ap (λ o. option_map Some (option_and_then wanted o)) (dialogue_again t (apdu a) h) ∙ ap (option_map Some) (gives a)

-- ---- messages

pub reads_found : (t : Tree) (m : TcMessage) (r : Message) → IsMessage t m → read_in m ≡ Some r → Reads t r
reads_found t (tc.Begin origin p) r is e =
    let (context, got, same) = map_some (portion_of request_in p.dialogue) _ r e in
    subst (Reads t) same (p, is, portion_found (List ℕ) request_in (λ name. Aarq name) request_finds p.dialogue context got, all_found p.components)
reads_found t (tc.Continue origin destination p) r is e =
    let (response, got, same) = map_some (portion_of response_in p.dialogue) _ r e in
    subst (Reads t) same (p, is, portion_found Response response_in (λ r. Aare r) response_finds p.dialogue response got, all_found p.components)
reads_found t (tc.End destination p) r is e =
    let (response, got, same) = map_some (portion_of response_in p.dialogue) _ r e in
    subst (Reads t) same (p, is, portion_found Response response_in (λ r. Aare r) response_finds p.dialogue response got, all_found p.components)
reads_found t (tc.Abort destination) r is e = subst (Reads t) (some_is e) is

pub reads_again : (t : Tree) (r : Message) → Reads t r → (m : TcMessage) × IsMessage t m × (read_in m ≡ Some r)
reads_again t (Begin origin context components) (p, is, holds, are) = (
  tc.Begin origin p,
  is,
  ap (option_map (λ c. Begin origin c (all_heard p.components))) (portion_again (List ℕ) request_in (λ name. Aarq name) (λ a. refl) p.dialogue context holds)
      ∙ ap (λ cs. Some (Begin origin context cs)) (all_again p.components components are),
)
reads_again t (Continue origin destination response components) (p, is, holds, are) = (
  tc.Continue origin destination p,
  is,
  ap (option_map (λ c. Continue origin destination c (all_heard p.components)))
      (portion_again Response response_in (λ r. Aare r) (λ a. refl) p.dialogue response holds)
      ∙ ap (λ cs. Some (Continue origin destination response cs)) (all_again p.components components are),
)
reads_again t (End destination response components) (p, is, holds, are) = (
  tc.End destination p,
  is,
  ap (option_map (λ c. End destination c (all_heard p.components))) (portion_again Response response_in (λ r. Aare r) (λ a. refl) p.dialogue response holds)
      ∙ ap (λ cs. Some (End destination response cs)) (all_again p.components components are),
)
reads_again t (Abort destination) is = (tc.Abort destination, is, refl)

ok_is : {x y : TcMessage} → (let r : Result TcMessage Unread = Ok x in r) ≡ Ok y → x ≡ y
ok_is e = cc

-- one message with its portions as trees
pub one_tc : (t : Tree) (m n : TcMessage) → IsMessage t m → IsMessage t n → m ≡ n
one_tc t m n h k = ok_is (sym (message_again t m h) ∙ message_again t n k)

-- the tree is at most one message
pub one_message : (t : Tree) (r s : Message) → Reads t r → Reads t s → r ≡ s
one_message t r s h k =
    let (m, is, e) = reads_again t r h in
    let (n, is', f) = reads_again t s k in
    some_is (sym e ∙ ap read_in (one_tc t m n is is') ∙ f)

-- ---- unreadable portions

-- what a portion holds that was wanted, by the message
wanted_read : (m : TcMessage) (portion : Tree) (apdu : Apdu) → dialogue_in m ≡ Some portion → IsWanted m apdu → IsDialogue portion apdu → read_in m ≡ None → ⊥
wanted_read (tc.Begin origin p) portion (Aarq context) e w is f =
    let g = portion_again (List ℕ) request_in (λ name. Aarq name) (λ a. refl) (Some portion) (Some context) is in
    none_not f (ap (λ d. option_map (λ c. Begin origin c (all_heard p.components)) (portion_of request_in d)) e
    ∙ ap (option_map (λ c. Begin origin c (all_heard p.components))) g)
wanted_read (tc.Begin origin p) portion (Aare response) e w is f = absurd w
wanted_read (tc.Begin origin p) portion (Abrt source) e w is f = absurd w
wanted_read (tc.Continue origin destination p) portion (Aarq context) e w is f = absurd w
wanted_read (tc.Continue origin destination p) portion (Aare response) e w is f =
    let g = portion_again Response response_in (λ r. Aare r) (λ a. refl) (Some portion) (Some response) is in
    none_not f (ap (λ d. option_map (λ c. Continue origin destination c (all_heard p.components)) (portion_of response_in d)) e
    ∙ ap (option_map (λ c. Continue origin destination c (all_heard p.components))) g)
wanted_read (tc.Continue origin destination p) portion (Abrt source) e w is f = absurd w
wanted_read (tc.End destination p) portion (Aarq context) e w is f = absurd w
wanted_read (tc.End destination p) portion (Aare response) e w is f =
    let g = portion_again Response response_in (λ r. Aare r) (λ a. refl) (Some portion) (Some response) is in
    none_not f (ap (λ d. option_map (λ c. End destination c (all_heard p.components)) (portion_of response_in d)) e
    ∙ ap (option_map (λ c. End destination c (all_heard p.components))) g)
wanted_read (tc.End destination p) portion (Abrt source) e w is f = absurd w
wanted_read (tc.Abort destination) portion apdu e w is f = absurd cc

-- a message that is not read has a portion
portion_there : {A : Type 0} (wanted : Apdu → Option A) (make : Option A → Message) (d : Option Tree) → option_map make (portion_of wanted d) ≡ None
    → (portion : Tree) × (d ≡ Some portion)
portion_there wanted make None e = absurd cc
portion_there wanted make (Some t) e = (t, refl)

has_portion : (m : TcMessage) → read_in m ≡ None → (portion : Tree) × (dialogue_in m ≡ Some portion)
has_portion (tc.Begin origin p) e = portion_there request_in (λ c. Begin origin c (all_heard p.components)) p.dialogue e
has_portion (tc.Continue origin destination p) e = portion_there response_in (λ c. Continue origin destination c (all_heard p.components)) p.dialogue e
has_portion (tc.End destination p) e = portion_there response_in (λ c. End destination c (all_heard p.components)) p.dialogue e
has_portion (tc.Abort destination) e = absurd cc

pub unreadable : (m : TcMessage) → read_in m ≡ None → (portion : Tree) × (dialogue_in m ≡ Some portion)
    × ((apdu : Apdu) → IsWanted m apdu → IsDialogue portion apdu → ⊥)
unreadable m e = let (portion, is) = has_portion m e in (portion, is, λ apdu w h. wanted_read m portion apdu is w h e)

-- and if one is read, what its portion holds is wanted
held : {A : Type 0} (apdu : A → Apdu) (portion : Tree) (d : Option Tree) (a : Option A) → d ≡ Some portion → IsPortion apdu d a
    → (b : A) × IsDialogue portion (apdu b)
held apdu portion None a e h = absurd cc
held apdu portion (Some t) None e h = absurd h
held apdu portion (Some t) (Some a) e h = (a, subst (λ u. IsDialogue u (apdu a)) (some_is e) h)

pub readable : (t : Tree) (m : TcMessage) (portion : Tree) (r : Message) → IsMessage t m → Reads t r → dialogue_in m ≡ Some portion
    → ((apdu : Apdu) → IsWanted m apdu → IsDialogue portion apdu → ⊥) → ⊥
readable t m portion (Begin origin context components) is (p, is', holds, are) e none =
    let same = one_tc t m (tc.Begin origin p) is is' in
    let (name, h) = held (λ name. Aarq name) portion p.dialogue context (sym (ap dialogue_in same) ∙ e) holds in
    none (Aarq name) (subst (λ n. IsWanted n (Aarq name)) (sym same) tt) h
readable t m portion (Continue origin destination response components) is (p, is', holds, are) e none =
    let same = one_tc t m (tc.Continue origin destination p) is is' in
    let (r, h) = held (λ r. Aare r) portion p.dialogue response (sym (ap dialogue_in same) ∙ e) holds in
    none (Aare r) (subst (λ n. IsWanted n (Aare r)) (sym same) tt) h
readable t m portion (End destination response components) is (p, is', holds, are) e none =
    let same = one_tc t m (tc.End destination p) is is' in
    let (r, h) = held (λ r. Aare r) portion p.dialogue response (sym (ap dialogue_in same) ∙ e) holds in
    none (Aare r) (subst (λ n. IsWanted n (Aare r)) (sym same) tt) h
readable t m portion (Abort destination) is is' e none =
    let same = one_tc t m (tc.Abort destination) is is' in
    let f : dialogue_in (tc.Abort destination) ≡ Some portion = sym (ap dialogue_in same) ∙ e in
    absurd cc
