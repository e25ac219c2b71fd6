-- How far a reader has come in a file: what the code knows of it between two records.
use Rattle.std.specs.{Borrow.{Bor}, Prelude.{ℕ, ◌≡◌, Bool, true, false, List, ◌∷◌, [], ◌++◌, Some, Result}}
use Rattle.csv.specs.Reading.{Reached, Ready, default_config, reader_config, reader_state, reader_trim, records, source_of, strip_bom}
use Rattle.csv.specs.declared.reader.Reader.{Reader}
use Rattle.plant_alarm.specs.declared.event.Event.{Event}
use Rattle.plant_import.specs.{Reading.{rows_read}, declared.bad_file.BadFile.{BadFile}}
use Rattle.csv.specs.declared.parser.State.TheVariants as st
use Rattle.csv.specs.declared.reader.Trim.TheVariants as trim

-- the reader has read these records of a text, and is ready for the next one
pub record HasRead (reader : Reader (Bor (List ℕ))) (text : List ℕ) (rows : List (List (List ℕ))) : Type 0 where
  pub plain : reader_trim reader ≡ trim.None
  pub ready : Ready reader
  pub config : reader_config reader ≡ default_config
  pub left : List ℕ
  pub source : source_of (λ s. Some s.now) reader ≡ Some left
  pub reached : Reached default_config st.StartRecord (strip_bom text) rows (reader_state reader) left

-- the reader has read one more record, or these are all records of the text
abbrev pub ReadsOne : Reader (Bor (List ℕ)) → List ℕ → List (List (List ℕ)) → Bool → List (List ℕ) → Type 0
ReadsOne reader text rows true fields = HasRead reader text (rows ++ fields ∷ [])
ReadsOne reader text rows false fields = records default_config (strip_bom text) ≡ rows

-- `read` is what the rows below the header are read as
abbrev pub AreRowsRead : List ℕ → List (List ℕ) → Result (List Event) BadFile → Type 0
AreRowsRead text header read =
    (rows : List (List (List ℕ))) × (records default_config (strip_bom text) ≡ header ∷ rows) × (read ≡ rows_read rows)
