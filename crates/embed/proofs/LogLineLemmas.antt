-- What a line of a log has, by what a script's line says.
use Rattle.std.proofs.Common.{◌≡◌, ℕ, List, true, not, Option, Some, None, ap, subst, inl, refl}
use Rattle.std.specs.Prelude.{Result, Ok, Err, IfOk, IfSome}
use Rattle.hlr_input.specs.Script.{Line, Frame, Clock, Expire, Batch, Codes, Withdraw, IsLine, is_closed}
use Rattle.hlr_input.proofs.LineLaws.{octets_free}
use Rattle.hlrcore.specs.Events.{raw_event}
use Rattle.frames.specs.Octets.{RawEvent}
use Rattle.embed.specs.declared.log_line.LogLine.{LogLine}
use Rattle.embed.specs.declared.log_line.LogLine.TheVariants.{Event, Clocks}
use Rattle.embed.specs.LogLines.{Has, Means, MeansThis}

-- a frame whose octets have their form has no space in them
closed : (said : Line) (raw : RawEvent) → Means said raw → is_closed said ≡ true
closed (Frame from field) raw means = ap not (octets_free field means.1.0 means.1.1)
closed (Clock now) raw means = refl
closed Expire raw means = refl
closed Batch raw means = refl
closed (Codes imsi codes) raw means = refl
closed (Withdraw imsi) raw means = refl

has : (line : List ℕ) (said : Line) (given : LogLine) → (is_closed said ≡ true → IsLine line said) → MeansThis said given → Has line given
has line said (Event event) is means = inl (said, is (closed said (raw_event event) means), means)
has line said (Clocks now) is means = subst (IsLine line) means (is (ap is_closed means))

pub read_has : {E : Type 0} (line : List ℕ) (said : Line) (r : Result (Option LogLine) E) → (is_closed said ≡ true → IsLine line said)
    → IfOk r (λ read. IfSome read (MeansThis said)) → IfOk r (λ read. IfSome read (Has line))
read_has line said (Ok (Some given)) is means = has line said given is means
read_has line said (Ok None) is means = tt
read_has line said (Err fault) is means = tt
