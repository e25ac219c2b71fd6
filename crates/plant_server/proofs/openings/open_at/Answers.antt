use Rattle.std.proofs.Common.{ℕ, Bool, cond, List, sym, ap₂, subst, true}
use Rattle.sqlite_disk.specs.Events.{Event, replay}
use Rattle.sqlite_wal.specs.Recovery.{Image}
use Rattle.sqlite.specs.{Files.{file_state, IsBlankAs}, Start.{FindsIn}}
use Rattle.plant_server.proofs.openings.open_at.Goals as goal

abbrev image : List ℕ → List ℕ → Image
image log db = record { log = log; db = db }

abbrev seen : List ℕ → List ℕ → Bool → List Event → List ℕ
seen log db is_log history = (replay (cond is_log log db) history).seen

pub returns-in-Ok-open_files_with-clause-found : goal.returns-in-Ok-open_files_with-clause-found
returns-in-Ok-open_files_with-clause-found g c here clean =
    let (log, db) = c.in-Ok-open_pair.ensures.fresh here in
    let found = c.in-Ok-open_files_with.ensures.found clean in
    let same = ap₂ image (ap₂ (seen g.S.Start.log g.S.Start.db) log.0 log.1) (ap₂ (seen g.S.Start.log g.S.Start.db) db.0 db.1) in
    subst (λ i. FindsIn i (file_state c.in-Ok-open_files_with.conn)) same (record { holds = found.holds; reads = found.reads })

pub returns-in-Ok-open_files_with-clause-sums : goal.returns-in-Ok-open_files_with-clause-sums
returns-in-Ok-open_files_with-clause-sums g c here clean blank =
    let (log, db) = c.in-Ok-open_pair.ensures.fresh here in
    let same = ap₂ image (ap₂ (seen g.S.Start.log g.S.Start.db) log.0 log.1) (ap₂ (seen g.S.Start.log g.S.Start.db) db.0 db.1) in
    c.in-Ok-open_files_with.ensures.sums clean (subst (IsBlankAs true) (sym same) blank)

pub returns-in-Err-open_files_with-clause-left : goal.returns-in-Err-open_files_with-clause-left
returns-in-Err-open_files_with-clause-left g c =
    (c.in-Ok-open_pair.files, c.in-Ok-open_pair.ensures.fresh, λ clean. (c.in-Err-open_files_with.ensures.unharmed clean, c.in-Err-open_files_with.ensures.cause clean))
