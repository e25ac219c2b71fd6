-- Going over a path up to its first slash.
use Rattle.std.proofs.Common.{◌≡◌, ℕ, ◌+◌, List, ◌++◌, take, drop, refl, add-one}
use Rattle.plant_wire_call.specs.Path.{until_slash, after_slash, after_slashes}

-- no slash stands before i
pub record IsBeforeSlash (path : List ℕ) (i : ℕ) : Type 0 where
  pub until : until_slash path ≡ take i path ++ until_slash (drop i path)
  pub after : after_slash path ≡ after_slash (drop i path)

pub after_slashes-more : (n : ℕ) (path : List ℕ) → after_slashes (n + 1) path ≡ after_slash (after_slashes n path)
unfolding after_slashes
after_slashes-more n path = rw add-one refl

pub after_slashes-none : (path : List ℕ) → after_slashes 0 path ≡ path
unfolding after_slashes
after_slashes-none path = refl
