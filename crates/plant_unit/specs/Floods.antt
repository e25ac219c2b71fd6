-- The lines of floods, whose moments can be written.
use Rattle.std.specs.Prelude.{IsTrue, ℕ, ◌*◌, ◌+◌, ◌≡◌, ◌≤◌}
use Rattle.plant_floods.specs.declared.run.Run.{Run}
use Rattle.plant_model.specs.{Events.{flood_line}, declared.reply.FloodLine.{FloodLine}}
use Rattle.plant_types.specs.Moment.{is_moment}

-- the line of a run, if it starts and ends at moments
abbrev pub IsLineOf : ℕ → Run → FloodLine → Type 0
IsLineOf begin run line = IsTrue (is_moment (begin + 600 * run.first))
    → IsTrue (is_moment (begin + 600 * run.last + 600)) → line ≡ flood_line begin run

-- a run of periods of ten minutes from the first moment on ends by the second
abbrev pub EndsBy : ℕ → ℕ → Run → Type 0
EndsBy begin until run = (run.first ≤ run.last) × (begin + 600 * run.last + 600 ≤ until)
