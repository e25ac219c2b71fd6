-- A row found by its key, and a row of each table put as a new one: for the functions of `stored`.
use Rattle.std.specs.{Borrow.{Bor}, List.{list_any}, Ordering.{eq_by_cmp}}
use Rattle.std.proofs.Common.{ap, refl, ◌∙◌, ◌≡◌, List, None, Option, Ordering, Some, is_some, option_copied, true}
use Rattle.plant_store_columns.specs.declared.tables.TableKind.TheVariants.{Units, Grants, Alarms, Shelves, Bands, Cells, Events, Records, Changes}
use Rattle.plant_model.proofs.public.PutLaws.{is_some-find}
use Rattle.plant_store_statements.proofs.public.Writes.{PutsNew, put_applies}
use Rattle.plant_types.specs.KeyedRows.{row_at}

-- a row that is found by its key exists, and no existing key is passed over
same_some : {X : Type 0} (o : Option (Bor X)) → is_some o ≡ is_some (option_copied o)
same_some None = refl
same_some (Some x) = refl

pub found_there : {K X : Type 0} (R : K → K → Ordering) (key : X → K) (k : K) (rows : List X) (o : Option (Bor X))
    → option_copied o ≡ row_at R key k rows → list_any (λ r. eq_by_cmp R k (key r)) rows ≡ true → is_some o ≡ true
found_there R key k rows o is has = same_some o ∙ ap is_some is ∙ is_some-find (λ r. eq_by_cmp R k (key r)) rows ∙ has

-- a row put as a new one, table by table

pub unit_new : PutsNew Units
unit_new = put_applies Units

pub grant_new : PutsNew Grants
grant_new = put_applies Grants

pub alarm_new : PutsNew Alarms
alarm_new = put_applies Alarms

pub shelf_new : PutsNew Shelves
shelf_new = put_applies Shelves

pub band_new : PutsNew Bands
band_new = put_applies Bands

pub cell_new : PutsNew Cells
cell_new = put_applies Cells

pub event_new : PutsNew Events
event_new = put_applies Events

pub record_new : PutsNew Records
record_new = put_applies Records

pub change_new : PutsNew Changes
change_new = put_applies Changes
