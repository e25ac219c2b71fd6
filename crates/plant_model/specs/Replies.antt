-- The contents of the replies to accepted calls.
use Rattle.std.specs.Prelude.{List, None, Option, Some, false, filter_map, is_some, length, map, not, option_map, true, ℕ, ◌-◌, ◌||◌}
use Rattle.plant_model.specs.{Facts.{Facts, returned}, Rows.{revision_of_limit}, Shelves.{state_of_shelf}, declared.reply.AlarmLine.{AlarmLine}}
use Rattle.plant_model.specs.declared.reply.{ChangeRow.{ChangeRow}, Reply.{Reply}}
use Rattle.plant_model.specs.declared.reply.{Reply.TheVariants.{ChangeOf as ChangeReply, Done, Imported, Status as StatusOf}, ShelfLine.{ShelfLine}}
use Rattle.plant_model.specs.declared.{reply.{StandingLine.{StandingLine}, StatusRow.{StatusRow}}, rows.{AlarmRow.{AlarmRow}, ShelfRow.{ShelfRow}}}
use Rattle.plant_alarm.specs.{Shelves.{is_unshelved}, declared.{event.Event.{Event}, shelf.ShelfState.{ShelfState}}}
use Rattle.plant_alarm.specs.declared.shelf.ShelfState.TheVariants.{OneShotShelved, TimedShelved, Unshelved}
use Rattle.plant_import.specs.Merging.{fresh}

-- an alarm's state (ISA-18.2, IEC 62682): SuppressedOrShelved holds if it is shelved, suppressed by design or out of
-- service
abbrev pub status_of : AlarmRow → ShelfState → StatusRow
status_of r shelf =
    record {
      tag = r.tag;
      limit = r.max_s;
      limit_revision = revision_of_limit (Some r);
      state = r.state_no;
      shelf = shelf;
      suppressed = r.suppressed;
      out_of_service = is_some r.out_s;
      suppressed_or_shelved = not (is_unshelved shelf) || r.suppressed || is_some r.out_s;
    }

-- the line of a shelf that has not ended
abbrev pub line_of : ShelfRow → ShelfState → Option ShelfLine
line_of s Unshelved = None
line_of s (TimedShelved left) =
    Some (record { tag = s.tag; one_shot = false; start = s.start_s; left = left; person = s.person; words = s.words })
line_of s (OneShotShelved left) =
    Some (record { tag = s.tag; one_shot = true; start = s.start_s; left = left; person = s.person; words = s.words })

abbrev pub shelf_lines : Facts → ℕ → List ShelfLine
shelf_lines f t = filter_map (λ s. line_of s (state_of_shelf (Some s) (returned f s.tag) t)) f.shelves

-- the line of an alarm: its suppression by kind, and its priority if it has a record
abbrev pub alarm_line : Facts → ℕ → AlarmRow → AlarmLine
alarm_line f t r =
    record {
      tag = r.tag;
      state = r.state_no;
      priority = f.priority r.tag;
      shelved = not (is_unshelved (state_of_shelf (f.shelf r.tag) r.return_s t));
      by_design = r.suppressed;
      out_of_service = is_some r.out_s;
      limit = r.max_s;
    }

-- the line of an alarm that is active since a moment
abbrev pub standing_as : AlarmLine → ℕ → StandingLine
standing_as l since =
    record {
      tag = l.tag;
      state = l.state;
      priority = l.priority;
      since = since;
      shelved = l.shelved;
      by_design = l.by_design;
      out_of_service = l.out_of_service;
    }

abbrev pub standing_line : Facts → ℕ → AlarmRow → Option StandingLine
standing_line f t r = option_map (standing_as (alarm_line f t r)) r.active_s

abbrev pub alarm_lines : Facts → ℕ → List AlarmLine
alarm_lines f t = map (alarm_line f t) f.alarms

abbrev pub standing_lines : Facts → ℕ → List StandingLine
standing_lines f t = filter_map (standing_line f t) f.alarms

abbrev pub status_reply : Option AlarmRow → ShelfState → Reply
status_reply None shelf = Done
status_reply (Some r) shelf = StatusOf (status_of r shelf)

abbrev pub change_reply : Option ChangeRow → Reply
change_reply None = Done
change_reply (Some c) = ChangeReply c

-- the rows of a file that are new, and those that are repeated
abbrev pub import_reply : List Event → List Event → Reply
import_reply kept rows = Imported (length (fresh kept rows)) (length rows - length (fresh kept rows))
