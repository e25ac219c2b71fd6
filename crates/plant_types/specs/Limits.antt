-- The limits of the office, for definitions: the most of each. `limits.rt` has the same numbers for code.
use Rattle.std.specs.Prelude.{ℕ}

-- a unit's grants, ended ones included
abbrev pub max_grants : ℕ
max_grants = 500

-- a unit's alarms
abbrev pub max_alarms : ℕ
max_alarms = 2000

-- a unit's quota of shelves: as many as alarms
abbrev pub max_quota : ℕ
max_quota = 2000

-- the changes that are proposed in a unit
abbrev pub max_changes : ℕ
max_changes = 20000

-- a unit's events
abbrev pub max_events : ℕ
max_events = 100000

-- the rows of a file of events
abbrev pub max_file_rows : ℕ
max_file_rows = 10000

-- the seconds of a shelving time and of a band's limit: a week
abbrev pub max_seconds : ℕ
max_seconds = 604800

-- the seconds over which floods are asked for: a week
abbrev pub max_flood_seconds : ℕ
max_flood_seconds = 604800

-- the bytes of a request's head
abbrev pub max_head : ℕ
max_head = 16384

-- the bytes of a request's body
abbrev pub max_body : ℕ
max_body = 1048576

-- the times that a session reads from its stream
abbrev pub max_reads : ℕ
max_reads = 1000000

-- the cached rows, of all units together
abbrev pub max_cached_rows : ℕ
max_cached_rows = 2000000
