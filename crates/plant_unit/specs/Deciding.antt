-- The rows that proposals and decisions on changes put.
use Rattle.std.specs.Prelude.{List, None, Option, Result, ℕ, map, option_map, true, ◌≡◌}
use Rattle.plant_model.specs.{Changes.{change_as}, Facts.{Facts}, Rows.{change_entry, max_of_kind, sheet_of_kind, tag_of_kind}, declared.call.Call.{Call}}
use Rattle.plant_model.specs.steps.{RowChanges.{rerated}, RowFacts.{record_read}}
use Rattle.plant_model.specs.declared.rows.{ChangeEntry.{ChangeEntry}, RecordEntry.{RecordEntry}, UnitPart.{UnitPart}}
use Rattle.plant_model.specs.declared.rows.{Row.TheVariants.{Change as ChangePut, Record as RecordPut}, RowEdit.{RowEdit, TheVariants.{Put}}}
use Rattle.plant_ration.specs.{Grid.{Grid}, declared.change.{ChangeKind.{ChangeKind}, ChangeState.{ChangeState}, Proposal.{Proposal}}}
use Rattle.plant_types.specs.Results.{Gives}
use Rattle.plant_unit.specs.{Additions.{AreKept}, Judged.{decided_row}, Readings.{has_its_sheet}, declared.decisions.KindColumns.{KindColumns}}

-- the columns of a change's row that its kind fills
abbrev pub kind_columns : ChangeKind → KindColumns
kind_columns k =
    record {
      tag = tag_of_kind k;
      cause = option_map (λ s. s.cause) (sheet_of_kind k);
      consequence = option_map (λ s. s.consequence) (sheet_of_kind k);
      remedy = option_map (λ s. s.action) (sheet_of_kind k);
      severity = option_map (λ s. s.severity) (sheet_of_kind k);
      response_s = option_map (λ s. s.response) (sheet_of_kind k);
      max_s = max_of_kind k;
    }

-- the row of a change with this number that is proposed by a call
abbrev pub proposed_entry : ℕ → Call → Proposal → ChangeEntry
proposed_entry number c x =
    change_entry (change_as number None (record {
      proposer = c.person;
      proposed = c.moment;
      kind = x.kind;
      base = x.base;
    }))

-- puts the row of a change that the caller decides
abbrev pub decided_put : ChangeState → Call → ChangeEntry → RowEdit
decided_put state c e = Put (ChangePut (decided_row state c.person c.moment e))

-- from a part of a legal history: the record of a row, which has its sheet, with its priority by a matrix
abbrev pub GivesRerated : {E : Type 0} → UnitPart → Grid → RecordEntry → Result (Option RecordEntry) E → Type 0
GivesRerated part matrix row said = AreKept part → has_its_sheet part.rows row ≡ true
    → Gives said (option_map (rerated matrix) (record_read part.rows row))

-- puts the records of all alarms, with their priorities by a matrix
abbrev pub rerated_puts : Grid → Facts → List RowEdit
rerated_puts matrix f = map (λ r. Put (RecordPut (rerated matrix r))) f.rationales
