-- Which lists of calls are legal histories.
use Rattle.std.specs.Prelude.{Bool, IsTrue, List, None, Option, Some, [], not, option_and_then, ◌&&◌, ◌∷◌}
use Rattle.plant_ration.specs.{Grid.{Grid}, Matrix.{is_matrix}, declared.change.{ChangeKind.{ChangeKind}, Proposal.{Proposal}}}
use Rattle.plant_model.specs.{Changes.{matrix_of_kind}, Histories.{passes}, Kinds.{Opening, says}, Verdicts.{changes_history, is_opening, verdict}, declared.call.{Call.{Call}, Request.{Request}}}

abbrev pub is_ordered : Grid → Bool
is_ordered m = is_matrix m.limits m.cells

abbrev pub is_matrix_kind : ChangeKind → Bool
is_matrix_kind kind = passes is_ordered (matrix_of_kind kind)

-- the matrix that an opening or a proposal carries
abbrev pub matrix_said : Option Opening → Option Proposal → Option Grid
matrix_said (Some o) x = Some o.matrix
matrix_said None x = option_and_then (λ y. matrix_of_kind y.kind) x

-- if the request carries a matrix, it is an ordered one
abbrev pub has_matrix : Request → Bool
has_matrix r = passes is_ordered (matrix_said (says r).opening (says r).proposal)

-- a call may follow these entries: it is not an opening, and the unit accepts it as a change
abbrev pub may_follow : List Call → Call → Bool
may_follow h c = not (is_opening c.request) && changes_history (verdict h c) c

-- a legal history begins with an opening, and each later entry is accepted after those before it
abbrev pub IsLegal : List Call → Type 0
IsLegal [] = ⊥
IsLegal (c ∷ []) = IsTrue (is_opening c.request) × IsTrue (has_matrix c.request)
IsLegal (c ∷ d ∷ before) = IsTrue (may_follow (d ∷ before) c) × IsTrue (has_matrix c.request) × IsLegal (d ∷ before)
