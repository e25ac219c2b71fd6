-- Memory returns what was written.
use Rattle.std.proofs.Common.{refl, true}
use Rattle.sqlite_pool.specs.Pool.{state}
use Rattle.sqlite_store.specs.{FileStore.{view}, declared.store.FileStore.{FileStore}}
use Rattle.sqlite_trees.{specs.View.{IsClean}, proofs.Doubt.{no_doubt}}
use Rattle.plant_store_memory.specs.{Memory.{memory}, declared.file.MemoryFile.{MemoryFile}}

pub always_clean : (store : FileStore MemoryFile memory) → IsClean (view store)
unfolding state
always_clean store = no_doubt true refl
