-- Which kinds of fault calls were answered.
use Rattle.std.specs.{List.{list_any}, Prelude.{◌&&◌, ◌||◌, Bool, List, false, not, true}}
use Rattle.plant_model.specs.declared.reply.Answer.{Answer, TheVariants.{Fault as Faulted, Refused as WasRefused, Reply as Replied}}
use Rattle.plant_types.specs.declared.fault.Fault.TheVariants.{Memory, Store}
use Rattle.plant_office.specs.{Runs.{is_store}, declared.office.Faults.{Faults}}

abbrev pub no_faults : Faults
no_faults = record { memory = false; store = false }

-- the answer is a fault because memory ran out
abbrev pub is_memory : Answer → Bool
is_memory (Replied r) = false
is_memory (WasRefused r) = false
is_memory (Faulted Memory) = true
is_memory (Faulted Store) = false

-- the kinds of fault among these answers
abbrev pub faults_in : List Answer → Faults
faults_in answers = record { memory = list_any is_memory answers; store = list_any is_store answers }

-- the kinds that are among these or among those
abbrev pub added : Faults → Faults → Faults
added faults those = record { memory = faults.memory || those.memory; store = faults.store || those.store }

-- the kinds that are among these and not among those
abbrev pub without : Faults → Faults → Faults
without faults those = record { memory = faults.memory && not those.memory; store = faults.store && not those.store }

-- with those among the answers
abbrev pub noted : Faults → List Answer → Faults
noted faults answers = added faults (faults_in answers)
