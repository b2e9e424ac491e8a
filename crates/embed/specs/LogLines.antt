-- The lines of a log (profile): each has one event, or a clock value for all sixteen shards.
use Rattle.std.specs.Prelude.{◌≡◌, ◌<◌, ◌⊎◌, ℕ, List, [], ◌++◌, Some, codes as text}
use Rattle.std.specs.Fmt.{decimal}
use Rattle.machine.specs.Events as machine
use Rattle.frames.specs.Octets.{RawEvent, RawFrame, RawExpire, RawChange}
use Rattle.hlr_input.specs.declared.group.Group.{Group}
use Rattle.hlr_input.specs.Octets.{IsOctets, octets_of}
use Rattle.hlr_input.specs.Script.{Line, Frame, Clock, Codes, Withdraw, IsLine}
use Rattle.hlrcore.specs.Events.{raw_event}
use Rattle.embed.specs.declared.log_line.LogLine.{LogLine}
use Rattle.embed.specs.declared.log_line.LogLine.TheVariants.{Event, Clocks}

-- The octets of a frame in hexadecimal digits, as a script has them, but with no letter.
abbrev pub AreOctets : (field octets : List ℕ) → Type 0
AreOctets field octets = (groups : List Group) × IsOctets field groups × (octets_of [] groups ≡ Some octets)

-- What a script's line says is this event.
abbrev pub Means : Line → RawEvent → Type 0
Means (Frame from field) raw = (octets : List ℕ) × AreOctets field octets × (raw ≡ RawFrame from octets)
Means (Codes imsi codes) raw = raw ≡ RawChange imsi (machine.Codes codes)
Means (Withdraw imsi) raw = raw ≡ RawChange imsi machine.Withdraw
Means _ raw = ⊥

-- An expiry names its shard: `E <shard>`.
abbrev pub IsExpiryLine : List ℕ → RawEvent → Type 0
IsExpiryLine line raw = (shard : ℕ) × (shard < 16) × (line ≡ text "E " ++ decimal shard) × (raw ≡ RawExpire shard)

-- The line has this event: `F <from> <octets>`, `O <imsi> <codes>` or `X <imsi>` as in a script, or `E <shard>`.
abbrev pub IsEventLine : List ℕ → RawEvent → Type 0
IsEventLine line raw = ((said : Line) × IsLine line said × Means said raw) ⊎ IsExpiryLine line raw

-- The line has this clock value: `C <ticks>`, as in a script.
abbrev pub IsClockLine : List ℕ → ℕ → Type 0
IsClockLine line now = IsLine line (Clock now)

-- ---- what is read

-- this is what the line has
abbrev pub Has : List ℕ → LogLine → Type 0
Has line (Event event) = IsEventLine line (raw_event event)
Has line (Clocks now) = IsClockLine line now

-- this event
abbrev pub IsThis : RawEvent → LogLine → Type 0
IsThis raw (Event event) = raw_event event ≡ raw
IsThis raw (Clocks now) = ⊥

-- what a script's line says, as a line of a log
abbrev pub MeansThis : Line → LogLine → Type 0
MeansThis said (Event event) = Means said (raw_event event)
MeansThis said (Clocks now) = said ≡ Clock now
