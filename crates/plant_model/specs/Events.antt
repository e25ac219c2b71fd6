-- The events of a unit: the rows of all its imports, ordered by number, each number once. The order of arrival plays no
-- part.
use Rattle.std.specs.Ordering.{nat_cmp}
use Rattle.std.specs.Prelude.{find, Bool, List, None, Option, Result, Some, [], filter_map, map, nat_le, nat_lt, ℕ, ◌%◌, ◌&&◌, ◌*◌, ◌+◌, ◌-◌, ◌==◌}
use Rattle.plant_import.specs.{Numbers.{has_number, numbers_of}, declared.bad_file.BadFile.{BadFile}}
use Rattle.plant_alarm.specs.declared.event.Event.{Event}
use Rattle.plant_floods.specs.{Activations.{of_alarm, period_counts}, Floods.{floods}, declared.run.Run.{Run}}
use Rattle.plant_model.specs.{Histories.{all_named, latest}, Kinds.{says}, declared.call.{Call.{Call}, Request.{Request}}}
use Rattle.plant_model.specs.declared.reply.FloodLine.{FloodLine}
use Rattle.plant_types.specs.{KeyedRows.{in_order}, Limits.{max_flood_seconds}, Names.{Name}}
pub use Rattle.plant_model.specs.Kinds.{rows_of_file}

-- the rows that an entry imports
abbrev pub imported_rows : Option (Result (List Event) BadFile) → List Event
imported_rows None = []
imported_rows (Some file) = rows_of_file file

abbrev pub imported : Request → List Event
imported r = imported_rows (says r).file

-- the event with a number, if some import has it
abbrev pub event_numbered : List Call → ℕ → Option Event
event_numbered h n = latest (λ c before. find (has_number n) (imported c.request)) h

abbrev pub events : List Call → List Event
events h = filter_map (event_numbered h) (in_order nat_cmp (all_named (λ c before. numbers_of (imported c.request)) h))

-- the events of one alarm
abbrev pub events_of : List Call → Name → List Event
events_of h a = of_alarm a (events h)

-- a range of 1 to 1,008 whole periods of ten minutes, which is up to a week
abbrev pub is_aligned : ℕ → ℕ → Bool
is_aligned begin until =
    (begin % 600 == 0) && (until % 600 == 0) && nat_lt begin until && nat_le (until - begin) max_flood_seconds

-- the floods (ISA-18.2, IEC 62682) of a range
abbrev pub flood_line : ℕ → Run → FloodLine
flood_line begin r =
    record { start = begin + 600 * r.first; until = begin + 600 * r.last + 600; total = r.total; peak = r.peak }

abbrev pub flood_lines : List Event → ℕ → ℕ → List FloodLine
flood_lines es begin until = map (flood_line begin) (floods (period_counts es begin until))
