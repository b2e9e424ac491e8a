-- What the replay of a log leads to.
use Rattle.std.specs.Prelude.{◌≡◌, ℕ, List, [], ◌∷◌, ◌++◌}
use Rattle.std.specs.List.{flat_map}
use Rattle.frames.specs.Octets.{RawOut}
use Rattle.wholenode.specs.Replaying.{AreAlike}
use Rattle.embed.specs.Registers.{RegisterState}
use Rattle.embed.specs.Replay.{Does, Replays}

-- No event tells these two registers apart, and the same frames wait in both.
pub record AreAlikeWaiting (here there : RegisterState) : Type 0 where
  pub nodes : AreAlike here.node there.node
  pub waiting : here.waiting ≡ there.waiting

-- The same lines lead registers that are alike to registers that are alike.
abbrev pub AreReplayedAlike : Type 0
AreReplayedAlike = (here there after behind : RegisterState) (lines : List (List ℕ)) → AreAlikeWaiting here there → Replays here lines after
    → Replays there lines behind → AreAlikeWaiting after behind

-- A run that gave a register these lines, one after the other, and that took frames between them as it liked. These are the frames that it sent, line by line.
abbrev pub Runs : RegisterState → (lines : List (List ℕ)) → (sent : List (List RawOut)) → RegisterState → Type 0
Runs before [] [] after = after.node ≡ before.node
Runs before (line ∷ more) (frames ∷ rest) after =
    (given done : RegisterState) × (given.node ≡ before.node) × Does given line done × (done.waiting ≡ given.waiting ++ frames) × Runs done more rest after
Runs before _ _ after = ⊥

-- The replay of the lines of a run, by a register that began alike, leads to a register that no event tells from that of the run, and exactly the frames
-- that the run sent wait, after those that waited before.
abbrev pub IsRunReplayed : Type 0
IsRunReplayed = (here there after behind : RegisterState) (lines : List (List ℕ)) (sent : List (List RawOut)) → AreAlike here.node there.node
    → Runs here lines sent after → Replays there lines behind
    → AreAlike after.node behind.node × (behind.waiting ≡ there.waiting ++ flat_map (λ frames. frames) sent)
