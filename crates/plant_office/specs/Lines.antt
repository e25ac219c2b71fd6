-- The lines of a person's units and shelves.
use Rattle.std.specs.Prelude.{Option, Some, option_map, ℕ}
use Rattle.plant_books.specs.declared.books.{MineRow.{MineRow}, MineUnit.{MineUnit}}
use Rattle.plant_model.specs.{Replies.{line_of}, Shelves.{state_of_shelf}, Worlds.{mine_line}, declared.reply.{MineLine.{MineLine}, UnitLine.{UnitLine}}}

-- the line of a unit of a person: its code and the roles held there
abbrev pub line_of_mine : MineUnit → UnitLine
line_of_mine u = record { unit = u.unit; roles = u.roles }

-- the line of a shelf that has not ended at the moment
abbrev pub line_of_shelf : ℕ → MineRow → Option MineLine
line_of_shelf t s = option_map (mine_line s.unit) (line_of s.shelf (state_of_shelf (Some s.shelf) s.last_return t))
