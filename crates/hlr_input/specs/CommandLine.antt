-- The command line (profile): the path of the records file and then that of the script, and anywhere among them, each at most
-- once, the options `--workers N` or `--workers=N`, `--list` and `--save`. After a word `--` each word is a path. Any other
-- word that begins with a hyphen and is longer is refused.
use Rattle.std.specs.Prelude.{ℕ, ◌+◌, ◌-◌, ◌&&◌, ◌||◌, nat_le, Bool, true, false, List, [], ◌∷◌, Option, Some, None, is_some, option_map, drop, if◌then◌else◌, codes as text}
use Rattle.std.specs.Str.{bytes_eq}
use Rattle.clap.specs.Lexer.{long_of, short_of}
use Rattle.records.specs.Reading.{◌>>=◌}

-- What the words so far said.
pub record Said : Type 0 where
  pub records : Option (List ℕ)
  pub script : Option (List ℕ)
  pub workers : Option (List ℕ)
  pub list : Bool
  pub save : Bool

-- What the next word may be: a path or an option, the number of workers, or, after `--`, a path only.
pub data Place : Type 0 where
  anywhere : Place
  number : Place
  behind : Place

abbrev pub nothing_said : Said
nothing_said = record { records = None; script = None; workers = None; list = false; save = false }

-- The first path is the records file, the second the script, and there is no third.
abbrev pub path_said : List ℕ → Said → Option Said
path_said word said =
    if is_some said.script then None
    else if is_some said.records then Some (record said { script = Some word }) else Some (record said { records = Some word })

abbrev pub workers_said : List ℕ → Said → Option Said
workers_said word said = if is_some said.workers then None else Some (record said { workers = Some word })

abbrev pub then_at : Place → Option Said → Option (Place × Said)
then_at place = option_map (λ said. (place, said))

-- `--workers`, whose number is the next word, or `--workers=N`
abbrev pub workers_option : Option (List ℕ) → Said → Option (Place × Said)
workers_option None said = Some (number, said)
workers_option (Some word) said = then_at anywhere (workers_said word said)

-- `--name` or `--name=value`
abbrev pub option_said : List ℕ → Option (List ℕ) → Said → Option (Place × Said)
option_said name value said =
    if bytes_eq (text "workers") name then workers_option value said
    else if bytes_eq (text "list") name then (if is_some value || said.list then None else Some (anywhere, record said { list = true }))
    else if bytes_eq (text "save") name then (if is_some value || said.save then None else Some (anywhere, record said { save = true }))
    else None

-- A word other than `--`: `--name` with or without a value, a hyphen followed by more, or neither.
abbrev pub other_said : Place → Option (List ℕ × Option (List ℕ)) → Option (List ℕ) → List ℕ → Said → Option (Place × Said)
other_said number None None word said = then_at anywhere (workers_said word said)
other_said anywhere None None word said = then_at anywhere (path_said word said)
other_said anywhere (Some (name, value)) _ word said = option_said name value said
other_said _ _ _ word said = None

abbrev pub word_said : Place → List ℕ → Said → Option (Place × Said)
word_said behind word said = then_at behind (path_said word said)
word_said number word said = if bytes_eq word (text "--") then None else other_said number (long_of word) (short_of word) word said
word_said anywhere word said =
    if bytes_eq word (text "--") then Some (behind, said) else other_said anywhere (long_of word) (short_of word) word said

-- The number of workers must not be missing.
abbrev pub said_at_end : Place → Said → Option Said
said_at_end number said = None
said_at_end _ said = Some said

unfoldable pub words_said : Place → List (List ℕ) → Said → Option Said
words_said place [] said = said_at_end place said
words_said place (word ∷ more) said = word_said place word said >>= λ next. words_said next.0 more next.1

-- What a command line asks for.
pub record Asked : Type 0 where
  pub records : List ℕ
  pub script : List ℕ
  pub workers : ℕ
  pub list : Bool
  pub save : Bool

-- A number of workers, 0 to 16, in decimal without sign or leading zero.
abbrev pub workers_of : List ℕ → Option ℕ
workers_of (digit ∷ []) = if nat_le 48 digit && nat_le digit 57 then Some (digit - 48) else None
workers_of (tens ∷ digit ∷ []) = if nat_le 49 tens && nat_le tens 49 && (nat_le 48 digit && nat_le digit 54) then Some (10 + (digit - 48)) else None
workers_of _ = None

-- Without the option there is one thread and no lock.
abbrev pub workers_asked : Option (List ℕ) → Option ℕ
workers_asked None = Some 0
workers_asked (Some word) = workers_of word

-- What is asked for: both paths must be there, and the number of workers must be valid.
abbrev pub whole : Said → Option Asked
whole said = said.records >>= λ records. said.script >>= λ script. workers_asked said.workers
    >>= λ workers. Some (record { records = records; script = script; workers = workers; list = said.list; save = said.save })

-- What the words ask for, if they are a command line. The first is the program's name.
abbrev pub asked_by : List (List ℕ) → Option Asked
asked_by words = words_said anywhere (drop 1 words) nothing_said >>= whole
