-- The refusals of calls on changes.
use Rattle.std.specs.Result.{result_err}
use Rattle.std.proofs.Common.{ap, cond, refl, sym, ◌∙◌, Bool, Err, List, None, Ok, Option, Some, [], false, is_some, not, true, ℕ, ◌∷◌, ◌≡◌}
use Rattle.plant_model.specs.{Changes.{priority_by}, Facts.{Facts}, Histories.{same_number}}
use Rattle.plant_model.specs.{Refusals.{first_refusal, is_not_needed, is_open, of_change}, declared.reply.{ChangeRow.{ChangeRow}, Refused.{Refused}}}
use Rattle.plant_model.specs.declared.reply.Refused.TheVariants.{BaseChanged, NotAnAlarm, NotProposed, OutsideMatrix, SamePerson}
use Rattle.plant_model.proofs.public.FactLaws.{is_same_number, same_number_of}
use Rattle.plant_ration.specs.{Grid.{Grid}, Matrix.{priority_of}, declared.{cell.Cell.{Cell}, change.Sheet.{Sheet}}}
use Rattle.plant_types.specs.Names.{Name}
use Rattle.plant_unit.{specs.{Judged.{record_decision, sheet_decision, sheet_refusals}, Additions.{decided_or}}, proofs.ReadingLaws.{no_row}}

-- of a record whose base is the revision in force, its sheet is decided by the matrix in force
pub base_decided : (f : Facts) (base revision : ℕ) (a : Name) (s : Sheet) → base ≡ revision → revision ≡ f.revision a
    → sheet_decision f.matrix s.severity s.response ≡ record_decision f base a s
base_decided f base revision a s same is =
    let test : same_number base (f.revision a) ≡ true = ap (λ n. same_number n (f.revision a)) (same ∙ is) ∙ is_same_number (f.revision a) in
    let rest : Option Refused = first_refusal (sheet_refusals f.matrix s.severity s.response) in
    sym (ap (λ b. decided_or (cond (not b) (Some (BaseChanged (f.revision a))) rest) (priority_by f.matrix s.severity s.response)) test)

-- the refusal of a decision
pub refusal_told : {A : Type 0} (refused : Option Refused) (decided : A) → result_err (decided_or refused decided) ≡ refused
refusal_told None decided = refl
refusal_told (Some r) decided = refl

-- a record with a priority: its base is the revision in force, and the priority is by the matrix in force
pub record_made : (f : Facts) (base : ℕ) (a : Name) (s : Sheet) (cell : Cell) → Ok cell ≡ record_decision f base a s
    → (base ≡ f.revision a) × (cell ≡ priority_by f.matrix s.severity s.response)
record_made f base a s cell is =
    by (same_number base (f.revision a)) (first_refusal (sheet_refusals f.matrix s.severity s.response)) refl is
  where
    by : (b : Bool) (rest : Option Refused) → same_number base (f.revision a) ≡ b
        → Ok cell ≡ decided_or (cond (not b) (Some (BaseChanged (f.revision a))) rest) (priority_by f.matrix s.severity s.response)
        → (base ≡ f.revision a) × (cell ≡ priority_by f.matrix s.severity s.response)
    by true None same e = (same_number_of base (f.revision a) same, cc)
    by _ _ same e = cc

-- a matrix without rows refuses each sheet
pub bare_sheet : (m : Grid) (severity response : ℕ) → m.cells ≡ [] → Err OutsideMatrix ≡ sheet_decision m severity response
bare_sheet m severity response bare =
    let needless : Bool = is_not_needed (priority_of m severity response) in
    ap (λ (row : Option (List Cell)). decided_or (first_refusal ((not (is_some row), OutsideMatrix) ∷ (needless, NotAnAlarm)
    ∷ [])) (priority_by m severity response)) (sym (no_row m severity bare))

-- an approval is refused as a rejection is, and then for the change itself
pub as_rejected : (o : Option ChangeRow) (same : ChangeRow → Bool) (rest : ChangeRow → List (Bool × Refused)) (r : Refused)
    → Some r ≡ first_refusal (of_change o (λ c. (same c, SamePerson) ∷ []))
    → Some r ≡ first_refusal (of_change o (λ c. (same c, SamePerson) ∷ rest c))
as_rejected None same rest r is = is
as_rejected (Some c) same rest r is = by (not (is_open c.state)) (same c) is
  where
    by : (a b : Bool) → Some r ≡ first_refusal ((a, NotProposed c.state) ∷ (b, SamePerson) ∷ [])
        → Some r ≡ first_refusal ((a, NotProposed c.state) ∷ (b, SamePerson) ∷ rest c)
    by false false e = cc
    by _ _ e = e

pub not_rejected : (o : Option ChangeRow) (same : ChangeRow → Bool) (rest : ChangeRow → List (Bool × Refused)) (c : ChangeRow)
    → None ≡ first_refusal (of_change o (λ x. (same x, SamePerson) ∷ [])) → Some c ≡ o
    → first_refusal (rest c) ≡ first_refusal (of_change o (λ x. (same x, SamePerson) ∷ rest x))
not_rejected None same rest c is there = cc
not_rejected (Some d) same rest c is there =
    let it : c ≡ d = cc in
    ap (λ x. first_refusal (rest x)) it ∙ by (not (is_open d.state)) (same d) is
  where
    by : (a b : Bool) → None ≡ first_refusal ((a, NotProposed d.state) ∷ (b, SamePerson) ∷ [])
        → first_refusal (rest d) ≡ first_refusal ((a, NotProposed d.state) ∷ (b, SamePerson) ∷ rest d)
    by false false e = refl
    by _ _ e = cc
