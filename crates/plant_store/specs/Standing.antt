-- What the books know of their store.
use Rattle.std.specs.Prelude.{IsTrue}
use Rattle.sqlite.specs.State.{HasCleanDisk, State}
use Rattle.plant_store_statements.specs.Changes.{IsHonest}
use Rattle.plant_store.specs.declared.tables.Standing.{Standing, TheVariants.{Open, Shut, Unknown}}

-- it is so: a store that is known as open is open if the disk has returned what was written
abbrev pub IsSo : State → Standing → Type 0
IsSo s Open = HasCleanDisk s → IsTrue s.is_open
IsSo s Unknown = Unit {0}
IsSo s Shut = ¬ IsHonest s
