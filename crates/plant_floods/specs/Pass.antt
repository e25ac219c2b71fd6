-- The steps of one pass over the counts, which the code takes.
use Rattle.std.specs.Prelude.{ℕ, ◌+◌, nat_lt, nat_le, if◌then◌else◌, max, Option, Some, None, List, ◌++◌, is_none, option_to_list}
use Rattle.plant_floods.specs.declared.run.Run.{Run}

-- the open run after one more period, if one goes on or begins
abbrev pub grown : Option Run → ℕ → ℕ → Option Run
grown None i c = if nat_lt 10 c then Some (record { first = i; last = i; total = c; peak = c }) else None
grown (Some r) i c = if nat_le 5 c then
    Some (record { first = r.first; last = i; total = r.total + c; peak = max r.peak c }) else None

-- the closed runs after one more period: the open run is added if it does not go on
abbrev pub next_runs : List Run → Option Run → Option Run → List Run
next_runs runs current next = if is_none next then runs ++ option_to_list current else runs
