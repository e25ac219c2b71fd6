-- Typed values as the values of columns, and back. For a column with an invalid value these definitions give some valid
-- value: the code that reads it returns an error.
use Rattle.std.specs.Prelude.{Bool, IfOk, List, None, Option, Result, Some, [], find, if◌then◌else◌, negsuc, pos, unwrap_or, ℕ, ◌==◌, ◌∷◌, ◌≡◌}
use Rattle.sqlite.specs.Values.{or_null}
use Rattle.sqlite_value.specs.{Order.{Row, column}, declared.value.Value.{Value, TheVariants.{Blob, Int, Null, Real, Text}}}
use Rattle.plant_import.specs.Merging.{kind_no}
use Rattle.plant_alarm.specs.declared.{event.EventKind.{EventKind, TheVariants.{Ack, Act, Reset, Rtn, Sup, Unsup}}, summary.AlarmState.{AlarmState}}
use Rattle.plant_alarm.specs.declared.summary.AlarmState.TheVariants.{Acknowledged, LatchedAck, LatchedUnack, Normal, ReturnedUnack, Unacknowledged}
use Rattle.plant_model.specs.declared.rows.ChangeTopic.{ChangeTopic, TheVariants.{Limit as LimitTopic, Matrix as MatrixTopic, Record as RecordTopic}}
use Rattle.plant_ration.specs.declared.{cell.Cell.{Cell, TheVariants.{N, P1, P2, P3, P4}}, change.ChangeState.{ChangeState}}
use Rattle.plant_ration.specs.declared.change.ChangeState.TheVariants.{Approved, Proposed, Rejected, Withdrawn}
use Rattle.plant_types.specs.{Roles.{all_roles, role_no}, declared.role.Role.{Role, TheVariants.{Viewer}}}

-- if a column is read without error, the result is what it holds
abbrev pub ReadsColumn : {A E : Type 0} → (A → Value) → Row → ℕ → Result A E → Type 0
ReadsColumn coded row at said = IfOk said (λ x. column row at ≡ coded x)

-- a number, and a number or a text that may be missing
abbrev pub number : ℕ → Value
number n = Int (pos n)

abbrev pub number_in : Value → ℕ
number_in Null = 0
number_in (Int (pos n)) = n
number_in (Int (negsuc n)) = 0
number_in (Real x) = 0
number_in (Text t) = 0
number_in (Blob b) = 0

abbrev pub open_number : Option ℕ → Value
open_number o = or_null number o

abbrev pub open_number_in : Value → Option ℕ
open_number_in Null = None
open_number_in (Int (pos n)) = Some n
open_number_in (Int (negsuc n)) = None
open_number_in (Real x) = None
open_number_in (Text t) = None
open_number_in (Blob b) = None

abbrev pub open_text : Option (List ℕ) → Value
open_text o = or_null Text o

abbrev pub open_text_in : Value → Option (List ℕ)
open_text_in Null = None
open_text_in (Int n) = None
open_text_in (Real x) = None
open_text_in (Text t) = Some t
open_text_in (Blob b) = None

-- 1 for true, 0 for false
abbrev pub flag : Bool → Value
flag b = number (if b then 1 else 0)

abbrev pub flag_in : Value → Bool
flag_in v = number_in v == 1

-- the one of these values with a number, or else this one
abbrev pub numbered : {A : Type 0} → (A → ℕ) → List A → A → ℕ → A
numbered code all other n = unwrap_or (find (λ x. code x == n) all) other

-- the roles, 1 to 6
abbrev pub role : Role → Value
role r = number (role_no r)

abbrev pub role_numbered : ℕ → Role
role_numbered n = numbered role_no all_roles Viewer n

abbrev pub role_in : Value → Role
role_in v = role_numbered (number_in v)

-- the states of an alarm, 1 to 6
abbrev pub state_no : AlarmState → ℕ
state_no Normal = 1
state_no Unacknowledged = 2
state_no Acknowledged = 3
state_no ReturnedUnack = 4
state_no LatchedUnack = 5
state_no LatchedAck = 6

abbrev pub alarm_state : AlarmState → Value
alarm_state s = number (state_no s)

abbrev pub all_states : List AlarmState
all_states = Normal ∷ Unacknowledged ∷ Acknowledged ∷ ReturnedUnack ∷ LatchedUnack ∷ LatchedAck ∷ []

abbrev pub state_numbered : ℕ → AlarmState
state_numbered n = numbered state_no all_states Normal n

abbrev pub state_in : Value → AlarmState
state_in v = state_numbered (number_in v)

-- the kinds of an event, 1 to 6
abbrev pub kind : EventKind → Value
kind k = number (kind_no k)

abbrev pub all_kinds : List EventKind
all_kinds = Act ∷ Rtn ∷ Ack ∷ Reset ∷ Sup ∷ Unsup ∷ []

abbrev pub kind_numbered : ℕ → EventKind
kind_numbered n = numbered kind_no all_kinds Act n

abbrev pub kind_in : Value → EventKind
kind_in v = kind_numbered (number_in v)

-- what a change changes, 1 to 3
abbrev pub topic_no : ChangeTopic → ℕ
topic_no RecordTopic = 1
topic_no MatrixTopic = 2
topic_no LimitTopic = 3

abbrev pub topic : ChangeTopic → Value
topic t = number (topic_no t)

abbrev pub all_topics : List ChangeTopic
all_topics = RecordTopic ∷ MatrixTopic ∷ LimitTopic ∷ []

abbrev pub topic_numbered : ℕ → ChangeTopic
topic_numbered n = numbered topic_no all_topics RecordTopic n

abbrev pub topic_in : Value → ChangeTopic
topic_in v = topic_numbered (number_in v)

-- the states of a change, 1 to 4
abbrev pub decision_no : ChangeState → ℕ
decision_no Proposed = 1
decision_no Approved = 2
decision_no Rejected = 3
decision_no Withdrawn = 4

abbrev pub change_state : ChangeState → Value
change_state s = number (decision_no s)

abbrev pub all_decisions : List ChangeState
all_decisions = Proposed ∷ Approved ∷ Rejected ∷ Withdrawn ∷ []

abbrev pub decision_numbered : ℕ → ChangeState
decision_numbered n = numbered decision_no all_decisions Proposed n

abbrev pub change_state_in : Value → ChangeState
change_state_in v = decision_numbered (number_in v)

-- the cells of a matrix: 0 for N, and 1 to 4 for P1 to P4
abbrev pub cell_no : Cell → ℕ
cell_no N = 0
cell_no P1 = 1
cell_no P2 = 2
cell_no P3 = 3
cell_no P4 = 4

abbrev pub cell : Cell → Value
cell c = number (cell_no c)

abbrev pub all_cells : List Cell
all_cells = N ∷ P1 ∷ P2 ∷ P3 ∷ P4 ∷ []

abbrev pub cell_numbered : ℕ → Cell
cell_numbered n = numbered cell_no all_cells N n

abbrev pub cell_in : Value → Cell
cell_in v = cell_numbered (number_in v)
