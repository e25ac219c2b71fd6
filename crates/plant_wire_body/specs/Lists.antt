-- Lists in bodies: the limits between the bands of a matrix, and its cells.
use Rattle.std.specs.Prelude.{ℕ, List, [], ◌∷◌, Option, Some, None, option_and_then, option_map, codes, if◌then◌else◌, bytes_eq}
use Rattle.serde_json.specs.{Data.{Data, Items, no_items, item}, Find.{get, as_str, as_array}}
use Rattle.plant_ration.specs.declared.cell.Cell.{Cell, TheVariants.{P1, P2, P3, P4, N}}
use Rattle.plant_wire_body.specs.Members.{whole_number}

-- a first element before others
abbrev pub before : {A : Type 0} → Option A → Option (List A) → Option (List A)
before None rest = None
before (Some x) rest = option_map (λ xs. x ∷ xs) rest

-- the items, each read by the same reader; None if one of them can't be read
abbrev pub all_of : {A : Type 0} → (Data → Option A) → Items → Option (List A)
all_of reads no_items = Some []
all_of reads (item d ds) = before (reads d) (all_of reads ds)

-- a cell's name: a priority, or N if no alarm is needed
abbrev pub cell_named : List ℕ → Option Cell
cell_named name =
    if bytes_eq name (codes "P1") then Some P1
    else if bytes_eq name (codes "P2") then Some P2
    else if bytes_eq name (codes "P3") then Some P3
    else if bytes_eq name (codes "P4") then Some P4
    else if bytes_eq name (codes "N") then Some N
    else None

abbrev pub cell_from : Data → Option Cell
cell_from d = option_and_then cell_named (as_str d)

abbrev pub row_from : Data → Option (List Cell)
row_from d = option_and_then (all_of cell_from) (as_array d)

abbrev pub numbers_at : List ℕ → Data → Option (List ℕ)
numbers_at name d = option_and_then (all_of whole_number) (option_and_then as_array (get name d))

abbrev pub rows_from : List ℕ → Data → Option (List (List Cell))
rows_from name d = option_and_then (all_of row_from) (option_and_then as_array (get name d))
