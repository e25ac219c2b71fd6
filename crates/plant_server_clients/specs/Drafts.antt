-- How much memory is allocated for an answer before its call is made.
use Rattle.std.specs.Prelude.{ℕ}

-- in bytes: more than the answer to a fault has
abbrev pub least_room_of_answers : ℕ
least_room_of_answers = 512
