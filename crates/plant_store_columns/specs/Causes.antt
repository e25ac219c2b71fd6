-- Why a column can't be read.
use Rattle.std.specs.Prelude.{Bool, IsTrue, List, ℕ, ◌≡◌, ◌≢◌}
use Rattle.sqlite.specs.declared.error.{Error.{Error, TheVariants.{SqliteFailure}}, ErrorCode.TheVariants.{OutOfMemory}}
use Rattle.sqlite_value.specs.declared.value.Value.{Value, TheVariants.{Text}}
use Rattle.plant_types.specs.Text.{is_text}

-- the error is not out of memory
abbrev pub IsNoMemory : Error → Type 0
IsNoMemory e = e ≢ SqliteFailure OutOfMemory

-- the error is out of memory only for a text that is valid in the column
abbrev pub MemoryIsOfText : (ℕ → Bool) → ℕ → Value → Error → Type 0
MemoryIsOfText admits longest v e = e ≡ SqliteFailure OutOfMemory
    → (t : List ℕ) × (v ≡ Text t) × IsTrue (is_text admits longest t)
