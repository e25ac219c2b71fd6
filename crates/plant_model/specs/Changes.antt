-- Management of change (ISA-18.2, IEC 62682): proposals, their decisions, and what is in force.
use Rattle.std.specs.Prelude.{Bool, List, None, Option, Some, [], is_some, option_and_then, option_map, unwrap_or, ℕ, ◌+◌}
use Rattle.plant_model.specs.{Histories.{counted, latest, of_key, same_number}, Kinds.{Opening, says}, declared.call.{Call.{Call}, Request.{Request}}}
use Rattle.plant_model.specs.declared.reply.{ChangeRow.{ChangeRow}, RecordRow.{RecordRow}}
use Rattle.plant_ration.specs.{Grid.{Grid}, Matrix.{priority_of}, declared.{cell.Cell.{Cell, TheVariants.{N}}, change.ChangeKind.{ChangeKind}}}
use Rattle.plant_ration.specs.declared.change.{ChangeKind.TheVariants.{Limit, Matrix, Rationale}, ChangeState.{ChangeState}}
use Rattle.plant_ration.specs.declared.change.{ChangeState.TheVariants.{Approved, Proposed, Rejected, Withdrawn}, Proposal.{Proposal}, Sheet.{Sheet}}
use Rattle.plant_types.specs.{Names.{Name, same_name}, Options.{when}}

-- a change as it was proposed
pub record Draft : Type 0 where
  pub proposer : Name
  pub proposed : ℕ
  pub kind : ChangeKind
  pub base : ℕ

-- how a change was decided, by whom and when
pub record Decision : Type 0 where
  pub state : ChangeState
  pub decider : Name
  pub decided : ℕ

abbrev pub is_proposal : Request → Bool
is_proposal r = is_some (says r).proposal

-- how many changes were proposed; they are numbered from 1 in this order
abbrev pub proposals : List Call → ℕ
proposals h = counted (λ c before. is_proposal c.request) h

-- the change with a number, if this proposal is the one with that number
abbrev pub draft_by : ℕ → Name → ℕ → List Call → Option Proposal → Option Draft
draft_by n p t before None = None
draft_by n p t before (Some x) =
    when (same_number n (proposals before + 1)) (record { proposer = p; proposed = t; kind = x.kind; base = x.base })

-- what an entry states about the proposal of the change with a number
abbrev pub said_of_draft : ℕ → Name → ℕ → List Call → Request → Option Draft
said_of_draft n p t before r = draft_by n p t before (says r).proposal

-- the change with a number as it was proposed
abbrev pub draft : List Call → ℕ → Option Draft
draft h n = latest (λ c before. said_of_draft n c.person c.moment before c.request) h

abbrev pub decision_as : Name → ℕ → ℕ × ChangeState → ℕ × Decision
decision_as p t e = (e.0, record { state = e.1; decider = p; decided = t })

-- what an entry states about the decision on the change with a number: withdrawn, approved or rejected
abbrev pub said_of_decision : ℕ → Name → ℕ → Request → Option Decision
said_of_decision n p t r = of_key same_number n (option_map (decision_as p t) (says r).decision)

abbrev pub decision : List Call → ℕ → Option Decision
decision h n = latest (λ c before. said_of_decision n c.person c.moment c.request) h

abbrev pub state_after : Option Decision → ChangeState
state_after None = Proposed
state_after (Some d) = d.state

-- the change with a number, with its state
abbrev pub change_as : ℕ → Option Decision → Draft → ChangeRow
change_as n decided d =
    record {
      number = n;
      kind = d.kind;
      base = d.base;
      proposer = d.proposer;
      proposed = d.proposed;
      state = state_after decided;
      decider = option_map (λ x. x.decider) decided;
      decided = option_map (λ x. x.decided) decided;
    }

abbrev pub change : List Call → ℕ → Option ChangeRow
change h n = option_map (change_as n (decision h n)) (draft h n)

-- the content of the change with a number
abbrev pub kind_of_change : List Call → ℕ → Option ChangeKind
kind_of_change h n = option_map (λ d. d.kind) (draft h n)

-- what a change changes: a matrix, an alarm's record, or an alarm's limit
abbrev pub matrix_of_kind : ChangeKind → Option Grid
matrix_of_kind (Rationale b s) = None
matrix_of_kind (Matrix m) = Some m
matrix_of_kind (Limit b max) = None

abbrev pub rationale_of_kind : ChangeKind → Option (Name × Sheet)
rationale_of_kind (Rationale b s) = Some (b, s)
rationale_of_kind (Matrix m) = None
rationale_of_kind (Limit b max) = None

abbrev pub limit_of_kind : ChangeKind → Option (Name × ℕ)
limit_of_kind (Rationale b s) = None
limit_of_kind (Matrix m) = None
limit_of_kind (Limit b max) = Some (b, max)

-- a change of the matrix, with its number; of an alarm's record, with its number; of an alarm's limit
abbrev pub matrix_in : ℕ → Option ChangeKind → Option (ℕ × Grid)
matrix_in n kind = option_map (λ m. (n, m)) (option_and_then matrix_of_kind kind)

abbrev pub sheet_in : Name → ℕ → Option ChangeKind → Option (ℕ × Sheet)
sheet_in a n kind = of_key same_name a (option_map (λ e. (e.0, (n, e.1))) (option_and_then rationale_of_kind kind))

abbrev pub limit_in : Name → Option ChangeKind → Option ℕ
limit_in a kind = of_key same_name a (option_and_then limit_of_kind kind)

abbrev pub number_if_approved : Option (ℕ × ChangeState) → Option ℕ
number_if_approved None = None
number_if_approved (Some (n, Approved)) = Some n
number_if_approved (Some (n, Proposed)) = None
number_if_approved (Some (n, Rejected)) = None
number_if_approved (Some (n, Withdrawn)) = None

-- the number of the change that a request approves
abbrev pub number_approved : Request → Option ℕ
number_approved r = number_if_approved (says r).decision

-- what an approval puts into force: a matrix or a record, with the change's number, or a limit
abbrev pub approved_matrix : List Call → Request → Option (ℕ × Grid)
approved_matrix before r = option_and_then (λ n. matrix_in n (kind_of_change before n)) (number_approved r)

abbrev pub approved_sheet : Name → List Call → Request → Option (ℕ × Sheet)
approved_sheet a before r = option_and_then (λ n. sheet_in a n (kind_of_change before n)) (number_approved r)

abbrev pub approved_limit : Name → List Call → Request → Option ℕ
approved_limit a before r = option_and_then (λ n. limit_in a (kind_of_change before n)) (number_approved r)

abbrev pub matrix_by : Option Opening → Option (ℕ × Grid) → Option (ℕ × Grid)
matrix_by (Some o) by_change = Some (0, o.matrix)
matrix_by None by_change = by_change

-- the matrix that an entry puts into force: that of an opening has number 0, an approved one the number of its change
abbrev pub said_of_matrix : List Call → Request → Option (ℕ × Grid)
said_of_matrix before r = matrix_by (says r).opening (approved_matrix before r)

abbrev pub no_matrix : ℕ × Grid
no_matrix = (0, record { limits = []; cells = [] })

-- the matrix in force, with its number
abbrev pub matrix : List Call → ℕ × Grid
matrix h = unwrap_or (latest (λ c before. said_of_matrix before c.request) h) no_matrix

-- the sheet in force, with the number of its change
abbrev pub sheet : List Call → Name → Option (ℕ × Sheet)
sheet h a = latest (λ c before. approved_sheet a before c.request) h

-- revisions: how many changes of the matrix, of an alarm's record or of an alarm's limit were approved
abbrev pub matrix_revision : List Call → ℕ
matrix_revision h = counted (λ c before. is_some (approved_matrix before c.request)) h

abbrev pub record_revision : List Call → Name → ℕ
record_revision h a = counted (λ c before. is_some (approved_sheet a before c.request)) h

abbrev pub limit_revision : List Call → Name → ℕ
limit_revision h a = counted (λ c before. is_some (approved_limit a before c.request)) h

-- the priority by a matrix: the cell of the severity and the time to respond
abbrev pub priority_by : Grid → ℕ → ℕ → Cell
priority_by m severity response = unwrap_or (priority_of m severity response) N

-- the rationalisation record of an alarm, with its priority by the matrix in force now
abbrev pub record_as : Grid → ℕ → Name → ℕ × Sheet → RecordRow
record_as m revision a e =
    record {
      tag = a;
      change = e.0;
      revision = revision;
      cause = e.1.cause;
      consequence = e.1.consequence;
      action = e.1.action;
      severity = e.1.severity;
      response = e.1.response;
      priority = priority_by m e.1.severity e.1.response;
    }

abbrev pub record_of : List Call → Name → Option RecordRow
record_of h a = option_map (record_as (matrix h).1 (record_revision h a) a) (sheet h a)
