-- The printed lists: a heading, and a line for each row.
use Rattle.std.specs.Prelude.{ℕ, Bool, if◌then◌else◌, List, [], ◌∷◌, ◌++◌, length, Option, Some, None, decimal, codes, flat_map}
use Rattle.plant_types.specs.Names.{Name}
use Rattle.plant_alarm.specs.declared.summary.AlarmState.{AlarmState}
use Rattle.plant_alarm.specs.declared.summary.AlarmState.TheVariants.{Normal, Unacknowledged, Acknowledged, ReturnedUnack, LatchedUnack, LatchedAck}
use Rattle.plant_ration.specs.declared.cell.Cell.{Cell, TheVariants.{P1, P2, P3, P4, N}}
use Rattle.plant_model.specs.declared.reply.{AlarmLine.{AlarmLine}, FloodLine.{FloodLine}, MineLine.{MineLine}, ShelfLine.{ShelfLine}}
use Rattle.plant_model.specs.declared.reply.StandingLine.{StandingLine}
use Rattle.plant_report.specs.{Columns.{left, right, line}, Moments.{moment_text}}

-- the heading: what is listed, of which unit or person, at which moment, and how many lines follow
abbrev pub heading : List ℕ → Name → ℕ → ℕ → List ℕ
heading what whose at count = line (what ∷ whose ∷ codes "AT" ∷ moment_text at ∷ codes "COUNT" ∷ decimal count ∷ [])

-- the kind of a shelf
abbrev pub shelf_kind : Bool → List ℕ
shelf_kind one_shot = if one_shot then codes "one-shot" else codes "timed"

-- a shelf: its alarm, its kind, its start, how many seconds are left, who shelved, and why
abbrev pub shelf_columns : ShelfLine → List (List ℕ)
shelf_columns l =
    left 24 l.tag
    ∷ left 8 (shelf_kind l.one_shot)
    ∷ moment_text l.start
    ∷ right 6 (decimal l.left)
    ∷ left 32 l.person
    ∷ l.words
    ∷ []

-- the shelves of a unit at a moment
unfoldable pub shelf_text : Name → ℕ → List ShelfLine → List ℕ
shelf_text unit at lines =
    heading (codes "SHELVES") unit at (length lines) ++ flat_map (λ l. line (shelf_columns l)) lines

-- a shelf, with the unit of its alarm
abbrev pub mine_columns : MineLine → List (List ℕ)
mine_columns l = left 8 l.unit ∷ shelf_columns l.line

-- the shelves of a person's units at a moment
unfoldable pub mine_text : Name → ℕ → List MineLine → List ℕ
mine_text person at lines =
    heading (codes "MINE") person at (length lines) ++ flat_map (λ l. line (mine_columns l)) lines

-- the name of an alarm's state
abbrev pub state_name : AlarmState → List ℕ
state_name Normal = codes "Normal"
state_name Unacknowledged = codes "Unacknowledged"
state_name Acknowledged = codes "Acknowledged"
state_name ReturnedUnack = codes "ReturnedUnack"
state_name LatchedUnack = codes "LatchedUnack"
state_name LatchedAck = codes "LatchedAck"

-- a priority, or N if no alarm is needed
abbrev pub cell_name : Cell → List ℕ
cell_name P1 = codes "P1"
cell_name P2 = codes "P2"
cell_name P3 = codes "P3"
cell_name P4 = codes "P4"
cell_name N = codes "N"

-- the priority of an alarm, or a hyphen if it has no record
abbrev pub priority_name : Option Cell → List ℕ
priority_name None = codes "-"
priority_name (Some cell) = cell_name cell

abbrev pub mark_if : Bool → ℕ → ℕ
mark_if holds mark = if holds then mark else 45

-- S if shelved, D if suppressed by design, O if out of service, and a hyphen for each that is false
abbrev pub flags : Bool → Bool → Bool → List ℕ
flags shelved by_design out_of_service = mark_if shelved 83 ∷ mark_if by_design 68 ∷ mark_if out_of_service 79 ∷ []

-- an active alarm: its state, its priority, since when it is active, and its suppression
abbrev pub standing_columns : StandingLine → List (List ℕ)
standing_columns l =
    left 24 l.tag
    ∷ left 14 (state_name l.state)
    ∷ left 2 (priority_name l.priority)
    ∷ moment_text l.since
    ∷ flags l.shelved l.by_design l.out_of_service
    ∷ []

-- the active alarms of a unit at a moment
unfoldable pub standing_text : Name → ℕ → List StandingLine → List ℕ
standing_text unit at lines =
    heading (codes "STANDING") unit at (length lines) ++ flat_map (λ l. line (standing_columns l)) lines

-- an alarm: its state, its priority, its suppression, and the limit in force
abbrev pub alarm_columns : AlarmLine → List (List ℕ)
alarm_columns l =
    left 24 l.tag
    ∷ left 14 (state_name l.state)
    ∷ left 2 (priority_name l.priority)
    ∷ flags l.shelved l.by_design l.out_of_service
    ∷ right 6 (decimal l.limit)
    ∷ []

-- the alarms of a unit at a moment
unfoldable pub alarm_text : Name → ℕ → List AlarmLine → List ℕ
alarm_text unit at lines =
    heading (codes "ALARMS") unit at (length lines) ++ flat_map (λ l. line (alarm_columns l)) lines

-- a flood: from when to when, how many alarms, and the most in one period
abbrev pub flood_columns : FloodLine → List (List ℕ)
flood_columns l = moment_text l.start ∷ moment_text l.until ∷ right 6 (decimal l.total) ∷ right 6 (decimal l.peak) ∷ []

abbrev pub flood_heading : Name → ℕ → ℕ → ℕ → List ℕ
flood_heading unit begin until count =
    line (codes "FLOODS" ∷ unit ∷ codes "FROM" ∷ moment_text begin ∷ codes "TO" ∷ moment_text until ∷ codes "COUNT"
    ∷ decimal count ∷ [])

-- the floods of a unit in a range of time
unfoldable pub flood_text : Name → ℕ → ℕ → List FloodLine → List ℕ
flood_text unit begin until lines =
    flood_heading unit begin until (length lines) ++ flat_map (λ l. line (flood_columns l)) lines
