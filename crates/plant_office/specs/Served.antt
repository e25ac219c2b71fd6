-- Books that hold the rows of a world, and what a served call leaves.
use Rattle.std.specs.{FinMap.{get}, Prelude.{Result, option_map, true, ◌≡◌, ◌⊎◌}}
use Rattle.plant_model.specs.{Grants.{holds_any}, Rows.{rows_of}, Worlds.{IsLegalWorld, World, answer, history, next}, declared.call.Call.{Call}}
use Rattle.plant_model.specs.declared.reply.{Refused.{Refused}, Reply.{Reply}}
use Rattle.plant_books.specs.Contents.{Content}
use Rattle.plant_types.specs.Names.{Name}

-- the books hold the rows of the world
pub record Holds (m : Content) (w : World) : Type 0 where
  pub same_admin : m.admin ≡ w.admin
  pub rows : (u : Name) → get m.units u ≡ option_map rows_of (get w.units u)

-- a call was answered as the world answers it, and the books hold the rows of the world after it, whose histories are
-- legal
pub record IsServed (w : World) (c : Call) (a : Result Reply Refused) (left : Content → Type 0) : Type 0 where
  pub answered : a ≡ answer w c
  pub after : Content
  pub left_it : left after
  pub holds : Holds after (next w c)
  pub legal : IsLegalWorld (next w c)

-- the unit is the person's before the call or after it
abbrev pub IsOwnUnit : World → Call → Name → Type 0
IsOwnUnit v c u = (holds_any (history v u) c.moment c.person ≡ true)
    ⊎ (holds_any (history (next v c) u) c.moment c.person ≡ true)

-- the headline: the caller is answered as in any other office that looks the same to the caller, and the rows of the
-- caller's units are afterwards those of that office
pub record IsIsolated (v : World) (c : Call) (a : Result Reply Refused) (left : Content → Type 0) : Type 0 where
  pub answered : a ≡ answer v c
  pub after : Content
  pub left_it : left after
  pub rows : (u : Name) → IsOwnUnit v c u → get after.units u ≡ option_map rows_of (get (next v c).units u)
