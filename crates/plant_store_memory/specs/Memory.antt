-- Files in memory, as the engine sees them.
use Rattle.std.specs.Prelude.{◌≡◌, false, true}
use Rattle.sqlite_disk.specs.declared.Disk.{Ghosts}
use Rattle.plant_store_memory.specs.declared.file.MemoryFile.{MemoryFile}

-- A read returns the bytes that were written, and a crash could leave no others.
abbrev pub memory : Ghosts MemoryFile
memory = record {
  seen = λ file. file.bytes.items;
  may_leave = λ file bytes. bytes ≡ file.bytes.items;
  is_usable = λ _. true;
  faults = λ file. file.faults;
  tally_of = λ file. record { caught = file.caught; refused = file.refused };
  is_clean = λ _. true;
  key_of = λ _. 0;
  is_fair = λ _ _. true;
  is_frozen = λ _. false;
  is_rotten = λ _ _ _. false;
  is_mixing = λ _. false;
}
