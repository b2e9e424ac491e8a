-- What a call did, put together from what its parts did.
use Rattle.std.proofs.Common.{◌≡◌, ℕ, refl, sym, subst, ◌∙◌, inr}
use Rattle.std.specs.Prelude.{IsSomeAnd, Option, None, Some, option_map, true}
use Rattle.frames.specs.Octets.{RawEvent}
use Rattle.embed.specs.Registers.{RegisterState, Gives}
use Rattle.kunchrol.specs.Calls.{Takes}
use Rattle.kunchrol.specs.Handles.{Held}
use Rattle.kunchrol.specs.Refusals.{Refused, RefusesKind}

-- The register that was taken out is put back after it took the event.
pub takes : {was is : RegisterState} {raw : RawEvent} {before after : Held} → before ≡ Some was → after ≡ Some is → Gives true was raw is
    → Takes (λ r. r ≡ raw) before after
takes {was} {is} {raw} b a h = record { was = was; is = is; before_is = b; after_is = a; raw = raw; asked = refl; does = h.0; answers = h.1 }

-- What takes an event takes one of each kind that the event is of.
pub asked_for : {IsAsked : RawEvent → Type 0} {raw : RawEvent} {before after : Held} → IsAsked raw → Takes (λ r. r ≡ raw) before after
    → Takes IsAsked before after
asked_for {IsAsked} asked t =
    record {
      was = t.was;
      is = t.is;
      before_is = t.before_is;
      after_is = t.after_is;
      raw = t.raw;
      asked = subst IsAsked
          (sym t.asked) asked;
      does = t.does;
      answers = t.answers;
    }

-- An event that is refused is refused as one of each kind that it is of.
pub refused_as : {IsAsked : RawEvent → Type 0} {raw : RawEvent} {held : Held} {code : ℕ} → IsAsked raw → Refused raw held code → RefusesKind IsAsked held code
refused_as {IsAsked} {raw} asked refused = inr (inr (raw, asked, refused))

-- What is mapped from none is none.
pub none_found : {A B : Type 0} (f : A → B) {o : Option A} {b : B} → o ≡ None → option_map f o ≡ Some b → ⊥
none_found {A} {B} f {o} {b} is found = let none : None ≡ Some b = subst (λ (p : Option A). option_map f p ≡ Some b) is found in cc

-- Nothing is in what is none.
pub none_there : {A : Type 0} (P : A → Type 0) {o : Option A} → o ≡ None → IsSomeAnd o P → ⊥
none_there {A} P {o} is some = subst (λ (p : Option A). IsSomeAnd p P) is some

pub not_some : {A : Type 0} {o : Option A} {a : A} → o ≡ None → o ≡ Some a → ⊥
not_some {A} {o} {a} is some = let none : None ≡ Some a = sym is ∙ some in cc
