-- What a read of a record does to how far a reader has come.
use Rattle.std.proofs.Common.{Bor, ◌≡◌, ◌∙◌, ℕ, List, [], ◌∷◌, ◌++◌, Some, Ok, Err, true, false, Bool, sym, inl, length, length-append, ◌+◌, arith}
use Rattle.plant_alarm.specs.declared.event.Event.{Event}
use Rattle.plant_import.specs.{declared.bad_file.Cause.{Cause}, Reading.{bad, row_read}, Records.{HasRead, ReadsOne, AreRowsRead}}
use Rattle.plant_import.proofs.{RecordsReached.{all_reached, begins_with}, Rows.{AreReadRows, rows_push, rows_stop, rows_whole}}
use Rattle.csv.specs.declared.reader.Reader.{Reader}
use Rattle.csv.{specs.Reading.{ReadRecord, default_config, strip_bom, records, took_first}, proofs.ReadFacts.{rows-end, rows-more}}
use Rattle.csv.specs.declared.parser.State.TheVariants as st

pub reads_one : (old new : Reader (Bor (List ℕ))) (text : List ℕ) (rows : List (List (List ℕ))) (found : Bool) (fields : List (List ℕ))
    → HasRead old text rows → ReadRecord (λ (s : Bor (List ℕ)). Some s.now) old new found fields → took_first new ≡ true
    → ReadsOne new text rows found fields
reads_one old new text rows true fields h r first =
    let m = rows-more (λ (s : Bor (List ℕ)). Some s.now) old new fields default_config st.StartRecord (strip_bom text) h.left rows h.config h.source
    h.reached r in
    record { plain = r.3 ∙ h.plain; ready = inl first; config = r.2 ∙ h.config; left = m.0; source = m.1; reached = m.2 }
reads_one old new text rows false fields h r first =
    sym (all_reached default_config (strip_bom text) rows old.state h.left h.reached
    (rows-end (λ (s : Bor (List ℕ)). Some s.now) old new fields default_config h.left h.config h.source r))

-- the records read are the first of the text
pub read_first : (reader : Reader (Bor (List ℕ))) (text : List ℕ) (rows : List (List (List ℕ))) → HasRead reader text rows
    → (rest : List (List (List ℕ))) × (records default_config (strip_bom text) ≡ rows ++ rest)
read_first reader text rows h = begins_with default_config (strip_bom text) rows reader.state h.left h.reached

pub found : (reader : Reader (Bor (List ℕ))) (text : List ℕ) (rows : List (List (List ℕ))) (b : Bool) (fields : List (List ℕ)) → b ≡ true
    → ReadsOne reader text rows b fields → HasRead reader text (rows ++ fields ∷ [])
found reader text rows b fields e h = rw e at h

pub none : (reader : Reader (Bor (List ℕ))) (text : List ℕ) (rows : List (List (List ℕ))) (b : Bool) (fields : List (List ℕ)) → b ≡ false
    → ReadsOne reader text rows b fields → records default_config (strip_bom text) ≡ rows
none reader text rows b fields e h = rw e at h

-- how far the rows below the header are read: these, which have no fault
abbrev pub ReadsRows : Reader (Bor (List ℕ)) → List ℕ → List (List ℕ) → List Event → ℕ → Type 0
ReadsRows reader text header events place = (rows : List (List (List ℕ))) × HasRead reader text (header ∷ rows) × AreReadRows rows events
    × (place ≡ length rows + 1)

pub reads_more : (old new : Reader (Bor (List ℕ))) (text : List ℕ) (header : List (List ℕ)) (events : List Event) (place : ℕ) (b : Bool)
    (fields : List (List ℕ)) (event : Event)
    → ReadsRows old text header events place → ((rows : List (List (List ℕ))) → HasRead old text rows → ReadsOne new text rows b fields) → b ≡ true
    → row_read place fields ≡ Ok event
    → ReadsRows new text header (events ++ event ∷ []) (place + 1)
reads_more old new text header events place b fields event h one e is = (
  h.0 ++ fields
      ∷ [],
  found new text (header
      ∷ h.0) b fields e (one (header ∷ h.0) h.1),
  rows_push place h.0 fields events event h.3 h.2 is,
  omega (
    arith,
    h.3,
    length-append h.0 (fields
        ∷ []),
  ),
)

pub reads_fault : (old new : Reader (Bor (List ℕ))) (text : List ℕ) (header : List (List ℕ)) (events : List Event) (place : ℕ) (b : Bool)
    (fields : List (List ℕ)) (cause : Cause)
    → ReadsRows old text header events place → ((rows : List (List (List ℕ))) → HasRead old text rows → ReadsOne new text rows b fields) → b ≡ true
    → row_read place fields ≡ Err cause
    → AreRowsRead text header (Err (bad (place + 1) cause))
reads_fault old new text header events place b fields cause h one e is =
    let all = read_first new text (header ∷ (h.0 ++ fields ∷ [])) (found new text (header ∷ h.0) b fields e (one (header ∷ h.0) h.1)) in
    ((h.0 ++ fields ∷ []) ++ all.0, all.1, sym (rows_stop place h.0 fields all.0 events cause h.3 h.2 is))

pub reads_all : (old new : Reader (Bor (List ℕ))) (text : List ℕ) (header : List (List ℕ)) (events : List Event) (place : ℕ) (b : Bool)
    (fields : List (List ℕ))
    → ReadsRows old text header events place → ((rows : List (List (List ℕ))) → HasRead old text rows → ReadsOne new text rows b fields) → b ≡ false
    → AreRowsRead text header (Ok events)
reads_all old new text header events place b fields h one e =
    (h.0, none new text (header ∷ h.0) b fields e (one (header ∷ h.0) h.1), sym (rows_whole h.0 events h.2))
