-- What is decided, by what the name of the context says.
use Rattle.std.proofs.Common.{◌≡◌, List, [], ◌∷◌, ℕ, length, true, false, refl, ap, ◌∙◌}
use Rattle.std.specs.Prelude.{Option, Some, None, cond, is_some}
use Rattle.machine.specs.Received.{Component}
use Rattle.machine.specs.Sent.{Context, NoCause, Refusing}
use Rattle.machine.specs.Contexts.{Named, Known, OtherVersion, Unknown, context_of, name_of, operation_of, accepted_as, accepted, refused_as, refused_name}
use Rattle.mapdlg.specs.Accepting.{Decision, Go, Refuse, decision_in, decision_under}

-- with the name in the AARE that refuses
chosen : Option Context → (refused : List ℕ) → List Component → Decision
chosen None refused components = Refuse (Refusing refused)
chosen (Some context) refused components = decision_in context components

under : (name : List ℕ) (o : Option Context) (components : List Component) → decision_under name o components ≡ chosen o (refused_name name) components
unfolding chosen
under name None components = refl
under name (Some context) components = refl

by_name : (name : List ℕ) (n : Named) (components : List Component) → context_of name ≡ n
    → decision_under name (accepted name) components ≡ chosen (accepted_as n) (refused_as name n) components
unfolding accepted refused_name
by_name name n components e =
    under name (accepted_as (context_of name)) components ∙ ap (λ m. chosen (accepted_as m) (refused_as name m) components) e

pub known : (name : List ℕ) (context : Context) (components : List Component) → context_of name ≡ Known context → is_some (operation_of context) ≡ true
    → decision_under name (accepted name) components ≡ decision_in context components
unfolding chosen
known name context components e may =
    by_name name (Known context) components e ∙ ap (λ b. chosen (cond b (Some context) None) name components) may

pub known_refused : (name : List ℕ) (context : Context) (components : List Component) → context_of name ≡ Known context → is_some (operation_of context) ≡ false
    → decision_under name (accepted name) components ≡ Refuse (Refusing name)
unfolding chosen
known_refused name context components e may =
    by_name name (Known context) components e ∙ ap (λ b. chosen (cond b (Some context) None) name components) may

pub other_version : (name : List ℕ) (context : Context) (components : List Component) → context_of name ≡ OtherVersion context
    → decision_under name (accepted name) components ≡ Refuse (Refusing (name_of context))
unfolding chosen
other_version name context components e = by_name name (OtherVersion context) components e

pub unknown : (name : List ℕ) (components : List Component) → context_of name ≡ Unknown
    → decision_under name (accepted name) components ≡ Refuse (Refusing name)
unfolding chosen
unknown name components e = by_name name Unknown components e

pub ruleset deciding = (known, known_refused, other_version, unknown)

-- ---- what is decided in a context, by how many components there are

pub none_refused : (context : Context) (components : List Component) → length components ≡ 0 → decision_in context components ≡ Refuse NoCause
none_refused context [] none = refl
none_refused context (c ∷ cs) none = cc

pub some_go : (context : Context) (components : List Component) → (length components ≡ 0 → ⊥) → decision_in context components ≡ Go context
some_go context [] some = absurd (some refl)
some_go context (c ∷ cs) some = refl

pub ruleset with_components = (none_refused, some_go)
