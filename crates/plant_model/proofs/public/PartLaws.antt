-- The part that a call looks at gives the verdict, the reply and the changes of all rows.
use Rattle.std.specs.List.{cons_option, list_any, range_with_len}
use Rattle.std.proofs.Common.{ap, arith, refl, sym, ◌∙◌, ◌≤◌, option_to_list, is_eq, nat_cmp, Bool, Err, List, None, Option, Some, [], cond, count_by, false, filter, filter_map, if◌then◌else◌, is_none, is_some, length, map, nat_le, nat_lt, not, option_and_then, option_map, true, unwrap_or, ℕ, ◌++◌, ◌+◌, ◌||◌, ◌∷◌, ◌≡◌}
use Rattle.std.proofs.lemmas.{Bool.{or_left, or_right, Decides.{nat_tests}}, List.Sums.{count_by-le-length, length-filter}}
use Rattle.plant_model.specs.{Calls.{own_refusals, record_reply, reply}, Changes.{no_matrix}, Facts.{Facts, others_shelved}}
use Rattle.plant_model.specs.steps.CallChanges.{changes_for}
use Rattle.plant_model.{specs.{Grants.{is_before}, Histories.{same_number}, Kinds.{role_needed}}, proofs.public.FactLaws.{is_same_number}}
use Rattle.plant_model.specs.steps.Parts.{Selection, every, has_shelf, is_crowded, is_source, of_approved, of_content, change_by_number, of_records, of_topic, part_of, part_of_holder, part_of_stranger, rows_selected, selected, with_number}
use Rattle.plant_model.specs.{Refusals.{first_refusal, holds_some, is_open, kind_refusals, lacks_role, of_change}, declared.call.Request.{Request}}
use Rattle.plant_model.specs.{Replies.{change_reply, line_of, status_reply}, declared.reply.Refused.{Refused}}
use Rattle.plant_model.specs.steps.RowChanges.{approval_changes, approved_row, decision_change, for_change, in_force, placed_in, taken_out}
use Rattle.plant_model.specs.steps.RowFacts.{alarm_tag, change_found, change_number, change_read, facts_among, facts_from, facts_of, has_cells, held_by, holds_by, kind_read, last_number, last_return_in, matrix_read, pair_of, record_found, record_from, record_read, record_tag, sheet_read, shelf_tag, unit_read}
use Rattle.plant_model.specs.{Shelves.{shelf_left, shelf_row_as}, Verdicts.{refusals_of_holder, refused_or, verdict_of}, declared.call.Call.{Call}}
use Rattle.plant_model.specs.declared.call.Request.TheVariants.{Alarms, Approve, ChangeOf, Grant, Import, OneShotShelve, PlaceInService, Propose, RecordOf, Register, Reject, RemoveFromService, Shelves, Standing, Status, TimedShelve, Unshelve, Withdraw, WithdrawChange}
use Rattle.plant_model.specs.declared.reply.{ChangeRow.{ChangeRow}, Full.TheVariants.{Alarms as TooManyAlarms}, RecordRow.{RecordRow}}
use Rattle.plant_model.specs.declared.reply.Refused.TheVariants.{AlarmTaken, AlarmUnknown, AlreadyOutOfService, ConditionAlreadyShelved, ConditionNotShelved, MomentBehind, NotGranted, NotOutOfService, NotProposed, RecordUnknown, RoleLacking, SamePerson, ShelfQuota, ShelvingTimeOutOfRange, UnitFull}
use Rattle.plant_model.specs.declared.{reply.{Reply.TheVariants.{Shelves as ShelvesOf}, ShelfLine.{ShelfLine}}, rows.AlarmRow.{AlarmRow}}
use Rattle.plant_model.specs.declared.rows.{ChangeEntry.{ChangeEntry}, ChangeTopic.{ChangeTopic}, GrantRow.{GrantRow}, RecordEntry.{RecordEntry}}
use Rattle.plant_model.specs.declared.rows.ChangeTopic.TheVariants.{Limit as LimitTopic, Matrix as MatrixTopic, Record as RecordTopic}
use Rattle.plant_model.specs.declared.rows.{Row.TheVariants.{Alarm as AlarmPut, Shelf as ShelfPut, Unit as UnitPut}, RowEdit.{RowEdit}}
use Rattle.plant_model.specs.declared.rows.{RowEdit.TheVariants.{Put}, ShelfRow.{ShelfRow}, UnitPart.{UnitPart}, UnitRows.{UnitRows}}
use Rattle.plant_model.proofs.public.PartLists.{cells_within, filter-true, itself_name, limits_within, map-same, passes_name, passes_number, row_at-filter, row_at-key, source_found, then-same}
use Rattle.plant_alarm.specs.{Shelves.{is_one_shot, is_timed, is_unshelved, shelf_state}, declared.event.Event.{Event}}
use Rattle.plant_alarm.specs.declared.shelf.ShelfState.{ShelfState}
use Rattle.plant_ration.specs.{Grid.{Grid}, declared.change.ChangeKind.{ChangeKind, TheVariants.{Limit, Matrix, Rationale}}}
use Rattle.plant_ration.specs.declared.change.{ChangeState.TheVariants.{Approved}, Proposal.{Proposal}, Sheet.{Sheet}}
use Rattle.plant_types.specs.{KeyedRows.{row_at}, Limits.{max_alarms}, Names.{Name, name_cmp, same_name}, Roles.{pair_cmp, role_no}}
use Rattle.plant_types.specs.declared.role.Role.{Role, TheVariants.{Approver, Engineer, Maintainer, Operator, Steward, Viewer}}
use Rattle.plant_types.proofs.public.{KeyedRowLaws.{tied}, Orders.{then_Equal}}

-- fewer rows than the quota, fewer of any kind
fewer : (q n k : ℕ) → nat_le q n ≡ false → k ≤ n → nat_le q k ≡ false
fewer q n k e le = grind (arith, nat_tests)

few_kept : {A : Type 0} (p q : A → Bool) (xs : List A) → count_by q (filter p xs) ≤ length xs
few_kept p q xs =
    let some = count_by-le-length q (filter p xs) in
    let kept = length-filter p xs in
    let all = count_by-le-length p xs in
    omega (arith, some, kept, all)

-- all grants pass where every pair is selected
all_grants : (p : Name) (grants : List GrantRow) → filter (λ g. same_name p g.person || true) grants ≡ grants
all_grants p [] = refl
all_grants p (g ∷ grants) =
    ap (λ b. cond b (g ∷ filter (λ g. same_name p g.person || true) grants) (filter (λ g. same_name p g.person || true) grants))
    (or_right (same_name p g.person) true refl) ∙ ap (λ gs. g ∷ gs) (all_grants p grants)

-- the caller's own grants are in every part
own_grant : (p : Name) (s : Selection) (r : Role) (grants : List GrantRow)
    → row_at pair_cmp pair_of (p, r) (filter (λ g. same_name p g.person || s.pair (pair_of g)) grants) ≡ row_at pair_cmp pair_of (p, r) grants
own_grant p s r grants =
    row_at-filter pair_cmp pair_of (p, r) (λ g. same_name p g.person || s.pair (pair_of g))
    (λ g e. or_left _ _ (ap is_eq (then_Equal (name_cmp p g.person) (nat_cmp (role_no r) (role_no g.role_no)) (tied _ true e refl)).0)) grants

abbrev held_by_row : ℕ → Option GrantRow → Bool
held_by_row t o = unwrap_or (option_map (λ (g : GrantRow). is_before t g.end_s) o) false

abbrev rev_in : Option RecordEntry → ℕ
rev_in o = unwrap_or (option_map (λ (r : RecordEntry). r.rev) o) 0

module _ (rows : UnitRows) (p : Name) (t : ℕ) where
  abbrev asked : Request → Call
  asked q = record { person = p; moment = t; request = q }

  abbrev of_part : Request → Facts
  of_part q = facts_among (part_of_holder (asked q) rows) rows.events

  own_held : (q : Request) (r : Role) → (of_part q).held t (p, r) ≡ (facts_of rows).held t (p, r)
  own_held q r = ap (held_by_row t) (own_grant p (selected rows q) r rows.grants)

  own_roles : (q : Request) → holds_some (of_part q) t p ≡ holds_some (facts_of rows) t p
  unfolding holds_some
  own_roles q =
      λ i. own_held q Viewer i
      || (own_held q Operator i
      || (own_held q Maintainer i || (own_held q Engineer i || (own_held q Approver i || (own_held q Steward i || false)))))

  own_lack : (q : Request) (o : Option Role) → lacks_role (of_part q) t p o ≡ lacks_role (facts_of rows) t p o
  own_lack q None = refl
  own_lack q (Some r) = ap (λ b. (not b, RoleLacking r) ∷ []) (own_held q r)

  -- an alarm and its shelf are found alone and among all
  own_alarm : (m : Bool) (a : Name)
      → row_at name_cmp alarm_tag a (filter (λ (r : AlarmRow). m || same_name a r.tag) rows.alarms) ≡ row_at name_cmp alarm_tag a rows.alarms
  own_alarm m a = row_at-filter name_cmp alarm_tag a (λ r. m || same_name a r.tag) (λ r e. or_right m _ e) rows.alarms

  own_shelf : (m : Bool) (a : Name)
      → row_at name_cmp shelf_tag a (filter (λ (r : ShelfRow). m || same_name a r.tag) rows.shelves) ≡ row_at name_cmp shelf_tag a rows.shelves
  own_shelf m a = row_at-filter name_cmp shelf_tag a (λ r. m || same_name a r.tag) (λ r e. or_right m _ e) rows.shelves

  entry_there : (a : Name) → row_at name_cmp record_tag a (filter (λ (r : RecordEntry). same_name a r.tag) rows.records) ≡ record_found rows a
  entry_there a = row_at-filter name_cmp record_tag a (λ r. same_name a r.tag) (λ r e. e) rows.records

  abbrev state_now : Option AlarmRow → Option ShelfRow → ShelfState
  state_now alarm shelf = shelf_state (shelf_left shelf) (option_and_then (λ r. r.return_s) alarm) t

  abbrev longest : Option AlarmRow → ℕ
  longest o = unwrap_or (option_map (λ r. r.max_s) o) 0

  abbrev removed : Option AlarmRow → Bool
  removed o = unwrap_or (option_map (λ r. is_some r.out_s) o) false

  -- Matrices, changes and records of the numbers that are selected
  module _ (s : Selection) where
    abbrev within : UnitRows
    within = rows_selected p s rows

    pub matrix_there : (n : ℕ) → s.matrix n ≡ true → matrix_read within n ≡ matrix_read rows n
    matrix_there n holds = λ i. record {
      limits = map (λ b. b.limit_s) (limits_within s.matrix n holds rows.bands i);
      cells = filter has_cells (map (λ severity. cells_within s.matrix n holds rows.cells severity i) (range_with_len 1 5));
    }

    content_there : (c : ChangeEntry) (k : ChangeTopic) → s.matrix c.number ≡ true → kind_read within c k ≡ kind_read rows c k
    content_there c MatrixTopic holds = ap (λ m. Matrix m) (matrix_there c.number holds)
    content_there c _ holds = refl

    found_there : (n : ℕ) → s.change n ≡ true → change_found within n ≡ change_found rows n
    found_there n holds =
        row_at-filter nat_cmp change_number n (λ r. s.change r.number) (λ r e. passes_number s.change n r.number holds e) rows.changes

    change_there : (n : ℕ) → s.change n ≡ true → s.matrix n ≡ true
        → option_map (change_read within) (change_found within n) ≡ option_map (change_read rows) (change_found rows n)
    change_there n chosen holds =
        ap (option_map (change_read within)) (found_there n chosen)
        ∙ map-same (change_read within) (change_read rows) (change_found rows n)
        (λ c e i. record (change_read rows c)
        { kind = content_there c c.kind_no (passes_number s.matrix n c.number holds (row_at-key nat_cmp change_number n rows.changes c e)) i })

    record_there : (r : RecordEntry) → s.change r.change_no ≡ true → record_read within r ≡ record_read rows r
    record_there r chosen = ap (option_map (λ c. record_from r (sheet_read c))) (found_there r.change_no chosen)

    -- all records, where their sources are selected
    records_read : (records : List RecordEntry)
        → ((n : ℕ) → list_any (λ (r : RecordEntry). same_number n r.change_no) records ≡ true → s.change n ≡ true)
        → filter_map (record_read within) records ≡ filter_map (record_read rows) records
    records_read [] chosen = refl
    records_read (r ∷ records) chosen =
        ap (λ o. cons_option o (filter_map (record_read within) records))
        (record_there r (chosen r.change_no (or_left _ _ (is_same_number r.change_no))))
        ∙ ap (cons_option (record_read rows r)) (records_read records (λ n e. chosen n (or_right _ _ e)))

    records_there : ((n : ℕ) → is_source rows every n ≡ true → s.change n ≡ true)
        → filter_map (record_read within) (filter (λ (r : RecordEntry). true) rows.records) ≡ filter_map (record_read rows) rows.records
    records_there chosen = ap (filter_map (record_read within)) (filter-true rows.records) ∙ records_read rows.records chosen

  -- with these alarms and shelves the quota is used up by others than the tag's
  abbrev quota_used : List AlarmRow → List ShelfRow → Name → Bool
  quota_used alarms shelves a =
      nat_le (unit_read rows).quota (others_shelved (facts_of (record rows { alarms = alarms; shelves = shelves })) a t)

  quota_same : (m : Bool) (a : Name) → is_crowded rows ≡ m
      → quota_used (filter (λ r. m || same_name a r.tag) rows.alarms)
      (filter (λ r. m || same_name a r.tag) rows.shelves) a ≡ quota_used rows.alarms rows.shelves a
  quota_same true a is = λ i. quota_used (filter-true rows.alarms i) (filter-true rows.shelves i) a
  quota_same false a is =
      fewer (unit_read rows).quota (length rows.shelves) _ is (few_kept (λ (r : ShelfRow). same_name a r.tag) _ rows.shelves)
      ∙ sym (fewer (unit_read rows).quota (length rows.shelves) _ is (count_by-le-length _ rows.shelves))

  -- the record of one alarm
  rationale_there : (a : Name) (s : Selection) → ((n : ℕ) → is_source rows (same_name a) n ≡ true → s.change n ≡ true)
      → option_and_then (record_read (within s))
      (row_at name_cmp record_tag a (filter (λ (r : RecordEntry). same_name a r.tag) rows.records)) ≡ option_and_then (record_read rows)
      (record_found rows a)
  rationale_there a s chosen =
      ap (option_and_then (record_read (within s))) (entry_there a)
      ∙ then-same (record_read (within s)) (record_read rows) (record_found rows a)
      (λ r e. record_there s r (chosen r.change_no (source_found a rows.records r e)))

  -- the line of a shelf whose alarm is selected, and those of shelves that all have their alarms selected
  abbrev line_by : List AlarmRow → ShelfRow → Option ShelfLine
  line_by alarms s = line_of s (shelf_state (shelf_left (Some s)) (last_return_in alarms s.tag) t)

  abbrev passing : (Name → Bool) → List AlarmRow
  passing test = filter (λ r. test r.tag) rows.alarms

  line_there : (test : Name → Bool) (s : ShelfRow) → test s.tag ≡ true → line_by (passing test) s ≡ line_by rows.alarms s
  line_there test s holds =
      ap (λ o. line_of s (shelf_state (shelf_left (Some s)) (option_and_then (λ (r : AlarmRow). r.return_s) o) t))
      (row_at-filter name_cmp alarm_tag s.tag (λ r. test r.tag) (λ r e. passes_name test s.tag r.tag holds e) rows.alarms)

  lines_there : (test : Name → Bool) (shelves : List ShelfRow) → ((a : Name) → has_shelf shelves a ≡ true → test a ≡ true)
      → filter_map (line_by (passing test)) shelves ≡ filter_map (line_by rows.alarms) shelves
  lines_there test [] chosen = refl
  lines_there test (s ∷ shelves) chosen =
      ap (λ o. cons_option o (filter_map (line_by (passing test)) shelves)) (line_there test s (chosen s.tag (or_left _ _ (itself_name s.tag))))
      ∙ ap (cons_option (line_by rows.alarms s)) (lines_there test shelves (λ a e. chosen a (or_right _ _ e)))

  -- the facts of these grants, alarms, shelves and records among the rows
  abbrev with_grants : List GrantRow → Facts
  with_grants grants = facts_of (record rows { grants = grants })

  abbrev with_alarms : List AlarmRow → Facts
  with_alarms alarms = facts_of (record rows { alarms = alarms })

  abbrev with_records : List AlarmRow → List ShelfRow → List RecordEntry → Facts
  with_records alarms shelves records = facts_of (record rows { alarms = alarms; shelves = shelves; records = records })

  -- the facts with what is read of one alarm, of one change, of all records or for an approval
  abbrev with_content : Option AlarmRow → Option RecordEntry → Grid → Facts
  with_content alarm entry m = record (facts_of rows) { alarm = λ a. alarm; revision = λ a. rev_in entry; matrix = m }

  abbrev with_change : Option ChangeRow → Facts
  with_change c = record (facts_of rows) { change = λ n. c }

  abbrev with_rationales : List RecordRow → Facts
  with_rationales records = record (facts_of rows) { rationales = records }

  -- a change of a number, and what an approval of it looks at
  numbered_there : (n : ℕ)
      → option_map (change_read (within (change_by_number n))) (change_found (within (change_by_number n)) n) ≡ option_map (change_read rows)
      (change_found rows n)
  numbered_there n = change_there (change_by_number n) n (is_same_number n) (is_same_number n)

  -- a change from the columns that its topic looks at
  abbrev kind_as : ChangeTopic → Name → Sheet → Grid → ℕ → ChangeKind
  kind_as RecordTopic a s m max = Rationale a s
  kind_as MatrixTopic a s m max = Matrix m
  kind_as LimitTopic a s m max = Limit a max

  kind_is : (c : ChangeEntry) (k : ChangeTopic)
      → kind_read rows c k ≡ kind_as k (unwrap_or c.tag []) (sheet_read c) (matrix_read rows c.number) (unwrap_or c.max_s 0)
  kind_is c RecordTopic = refl
  kind_is c _ = refl

  -- the facts of a selection of the rows
  abbrev chosen : Selection → Facts
  chosen s = facts_among (record { rows = rows_selected p s rows; count = 0; held = true }) rows.events

  abbrev approved : ℕ → Option Name → ChangeTopic → Selection
  approved n tag k = with_number n (of_topic rows tag k)

  matrix_in_force : (n : ℕ) (s : Selection) → s.matrix (unit_read rows).matrix_no ≡ true
      → matrix_read (within (with_number n s)) (unit_read rows).matrix_no ≡ matrix_read rows (unit_read rows).matrix_no
  matrix_in_force n s holds = matrix_there (with_number n s) (unit_read rows).matrix_no (or_left _ _ holds)

  sources_there : (n : ℕ)
      → filter_map (record_read (within (with_number n (of_records rows))))
      (filter (λ (r : RecordEntry). true) rows.records) ≡ filter_map (record_read rows) rows.records
  sources_there n = records_there (with_number n (of_records rows)) (λ m e. or_left _ _ e)

  -- the refusals of a change's kind with what it brings into force, from what its topic looks at
  abbrev outcome : Facts → ℕ → ℕ → ChangeKind → List (Bool × Refused) × List RowEdit
  outcome f base number k = (kind_refusals f base k, in_force f number k)

  kind_same : (n base number : ℕ) (tag : Option Name) (k : ChangeTopic) (s : Sheet) (m : Grid) (max : ℕ)
      → outcome (chosen (approved n tag k)) base number (kind_as k (unwrap_or tag []) s m max)
      ≡ outcome (facts_of rows) base number (kind_as k (unwrap_or tag []) s m max)
  kind_same n base number tag MatrixTopic s m max = ap (λ records. outcome (with_rationales records) base number (Matrix m)) (sources_there n)
  kind_same n base number (Some a) RecordTopic s m max =
      λ i. outcome (with_content None (entry_there a i) (matrix_in_force n (of_content rows a) (is_same_number (unit_read rows).matrix_no) i))
      base
      number (Rationale a s)
  kind_same n base number None RecordTopic s m max =
      λ i. outcome
      (with_content None (row_at name_cmp record_tag [] (filter-true rows.records i))
      (matrix_in_force n (of_records rows) (is_same_number (unit_read rows).matrix_no) i)) base number (Rationale [] s)
  kind_same n base number (Some a) LimitTopic s m max =
      ap (λ alarm. outcome (with_content alarm None no_matrix.1) base number (Limit a max)) (own_alarm false a)
  kind_same n base number None LimitTopic s m max =
      ap (λ alarms. outcome (with_alarms alarms) base number (Limit [] max)) (filter-true rows.alarms)

  outcome_same : (n : ℕ) (c : ChangeEntry)
      → outcome (chosen (approved n c.tag c.kind_no)) c.base c.number (change_read rows c).kind
      ≡ outcome (facts_of rows) c.base c.number (change_read rows c).kind
  outcome_same n c =
      let kind = kind_is c c.kind_no in
      ap (outcome (chosen (approved n c.tag c.kind_no)) c.base c.number) kind
      ∙ kind_same n c.base c.number c.tag c.kind_no (sheet_read c) (matrix_read rows c.number) (unwrap_or c.max_s 0)
      ∙ sym (ap (outcome (facts_of rows) c.base c.number) kind)

  -- the refusals and the changes of an approval of an existing change
  abbrev refusals_by : Facts → ChangeRow → List (Bool × Refused)
  refusals_by f c = (same_name p c.proposer, SamePerson) ∷ kind_refusals f c.base c.kind

  refusals_same : (n : ℕ) (c : ChangeEntry)
      → refusals_by (chosen (approved n c.tag c.kind_no)) (change_read rows c) ≡ refusals_by (facts_of rows) (change_read rows c)
  refusals_same n c = ap (λ o. (same_name p c.proposer, SamePerson) ∷ o.0) (outcome_same n c)

  brought_same : (n : ℕ) (c : ChangeEntry)
      → approval_changes (chosen (approved n c.tag c.kind_no)) p t (change_read rows c)
      ≡ approval_changes (facts_of rows) p t (change_read rows c)
  brought_same n c = ap (λ o. decision_change Approved p t (change_read rows c) ∷ o.1) (outcome_same n c)

  approved_there : (n : ℕ) (o : Option ChangeEntry) → change_found rows n ≡ o
      → (chosen (of_approved rows n o)).change n ≡ option_map (change_read rows) o
  approved_there n None e = numbered_there n ∙ ap (option_map (change_read rows)) e
  approved_there n (Some c) e = change_there (approved n c.tag c.kind_no) n (or_right _ _ (is_same_number n)) (or_right _ _ (is_same_number n))
      ∙ ap (option_map (change_read rows)) e

  abbrev row_after : Option ChangeRow → RowEdit
  row_after c = Put (UnitPut (approved_row t (unit_read rows) c))

  approval_refused : (n : ℕ) (o : Option ChangeEntry) → change_found rows n ≡ o
      → of_change ((chosen (of_approved rows n o)).change n)
      (refusals_by (chosen (of_approved rows n o))) ≡ of_change (option_map (change_read rows) o) (refusals_by (facts_of rows))
  approval_refused n None e = ap (λ c. of_change c (refusals_by (chosen (change_by_number n)))) (approved_there n None e)
  approval_refused n (Some c) e =
      ap (λ x. of_change x (refusals_by (chosen (approved n c.tag c.kind_no)))) (approved_there n (Some c) e)
      ∙ ap (λ refusals. (not (is_open c.state_no), NotProposed c.state_no) ∷ refusals) (refusals_same n c)

  approval_made : (n : ℕ) (o : Option ChangeEntry) → change_found rows n ≡ o
      → row_after ((chosen (of_approved rows n o)).change n) ∷ for_change ((chosen (of_approved rows n o)).change n)
      (approval_changes (chosen (of_approved rows n o)) p t) ≡ row_after (option_map (change_read rows) o)
      ∷ for_change (option_map (change_read rows) o) (approval_changes (facts_of rows) p t)
  approval_made n None e = ap (λ c. row_after c ∷ for_change c (approval_changes (chosen (change_by_number n)) p t)) (approved_there n None e)
  approval_made n (Some c) e =
      ap (λ x. row_after x ∷ for_change x (approval_changes (chosen (approved n c.tag c.kind_no)) p t)) (approved_there n (Some c) e)
      ∙ ap (λ changes. row_after (Some (change_read rows c)) ∷ changes) (brought_same n c)

  -- what a proposal looks at, by its kind
  abbrev proposal : ChangeKind → ℕ → Proposal
  proposal k base = record { kind = k; base = base }

  content_matrix : (a : Name) → matrix_read (within (of_content rows a)) (unit_read rows).matrix_no ≡ matrix_read rows (unit_read rows).matrix_no
  content_matrix a = matrix_there (of_content rows a) (unit_read rows).matrix_no (is_same_number (unit_read rows).matrix_no)

  proposal_same : (u : Name) (k : ChangeKind) (base : ℕ)
      → own_refusals (of_part (Propose u (proposal k base))) p t (Propose u (proposal k base))
      ≡ own_refusals (facts_of rows) p t (Propose u (proposal k base))
  proposal_same u (Rationale a s) base =
      λ i. own_refusals (with_content (own_alarm false a i) (entry_there a i) (content_matrix a i)) p t
      (Propose u (proposal (Rationale a s) base))
  proposal_same u (Matrix m) base =
      ap (λ records. own_refusals (with_rationales records) p t (Propose u (proposal (Matrix m) base)))
      (records_there (of_records rows) (λ n e. e))
  proposal_same u (Limit a max) base =
      λ i. own_refusals (with_content (own_alarm false a i) (entry_there a i) (content_matrix a i)) p t (Propose u (proposal (Limit a max) base))

  own_same : (q : Request) → own_refusals (of_part q) p t q ≡ own_refusals (facts_of rows) p t q
  own_same (Grant u q r) = ap (λ gs. own_refusals (with_grants gs) p t (Grant u q r)) (all_grants p rows.grants)
  own_same (Withdraw u q r) = ap (λ gs. own_refusals (with_grants gs) p t (Withdraw u q r)) (all_grants p rows.grants)
  own_same (Register u a l max) =
      ap (λ o. (nat_le max_alarms (length rows.alarms), UnitFull TooManyAlarms) ∷ (is_some o, AlarmTaken) ∷ []) (own_alarm false a)
  own_same (Import u file) = ap (λ alarms. own_refusals (with_alarms alarms) p t (Import u file)) (filter-true rows.alarms)
  own_same (TimedShelve u a d w) = λ i.
      (is_none (own_alarm (is_crowded rows) a i), AlarmUnknown)
      ∷ (nat_lt (longest (own_alarm (is_crowded rows) a i)) d, ShelvingTimeOutOfRange (longest (own_alarm (is_crowded rows) a i)))
      ∷ (is_timed (state_now (own_alarm (is_crowded rows) a i) (own_shelf (is_crowded rows) a i)), ConditionAlreadyShelved)
      ∷ (quota_same (is_crowded rows) a refl i, ShelfQuota (unit_read rows).quota) ∷ []
  own_same (OneShotShelve u a w) = λ i.
      (is_none (own_alarm (is_crowded rows) a i), AlarmUnknown)
      ∷ (is_one_shot (state_now (own_alarm (is_crowded rows) a i) (own_shelf (is_crowded rows) a i)), ConditionAlreadyShelved)
      ∷ (quota_same (is_crowded rows) a refl i, ShelfQuota (unit_read rows).quota) ∷ []
  own_same (Unshelve u a) =
      λ i. (is_none (own_alarm false a i), AlarmUnknown)
      ∷ (is_unshelved (state_now (own_alarm false a i) (own_shelf false a i)), ConditionNotShelved)
      ∷ []
  own_same (RemoveFromService u a w) = ap (λ o. (is_none o, AlarmUnknown) ∷ (removed o, AlreadyOutOfService) ∷ []) (own_alarm false a)
  own_same (PlaceInService u a) = ap (λ o. (is_none o, AlarmUnknown) ∷ (not (removed o), NotOutOfService) ∷ []) (own_alarm false a)
  own_same (Propose u x) = proposal_same u x.kind x.base
  own_same (WithdrawChange u n) = ap (λ c. own_refusals (with_change c) p t (WithdrawChange u n)) (numbered_there n)
  own_same (Approve u n) = approval_refused n (change_found rows n) refl
  own_same (Reject u n) = ap (λ c. own_refusals (with_change c) p t (Reject u n)) (numbered_there n)
  own_same (Status u a) = ap (λ o. (is_none o, AlarmUnknown) ∷ []) (own_alarm false a)
  own_same (RecordOf u a) =
      λ i. (is_none (own_alarm false a i), AlarmUnknown)
      ∷ (is_none (rationale_there a (selected rows (RecordOf u a)) (λ n e. e) i), RecordUnknown)
      ∷ []
  own_same (ChangeOf u n) = ap (λ c. own_refusals (with_change c) p t (ChangeOf u n)) (numbered_there n)
  own_same _ = refl

  reply_same : (q : Request) → reply (of_part q) t q ≡ reply (facts_of rows) t q
  reply_same (Status u a) = λ i. status_reply (own_alarm false a i) (state_now (own_alarm false a i) (own_shelf false a i))
  reply_same (RecordOf u a) = ap record_reply (rationale_there a (selected rows (RecordOf u a)) (λ n e. e))
  reply_same (ChangeOf u n) = ap change_reply (numbered_there n)
  reply_same (Shelves u) = ap (λ lines. ShelvesOf u t lines)
      (ap (filter_map (line_by (passing (has_shelf rows.shelves)))) (filter-true rows.shelves)
      ∙ lines_there (has_shelf rows.shelves) rows.shelves (λ a e. e))
  reply_same (Alarms u) =
      λ i. reply (with_records (filter-true rows.alarms i) (filter-true rows.shelves i) (filter-true rows.records i)) t (Alarms u)
  reply_same (Standing u) =
      λ i. reply (with_records (filter-true rows.alarms i) (filter-true rows.shelves i) (filter-true rows.records i)) t (Standing u)
  reply_same _ = refl

  -- for one who holds a role the verdict from the part is the verdict from all rows
  holder_verdict : (q : Request) → verdict_of (of_part q) (asked q) ≡ verdict_of (facts_of rows) (asked q)
  holder_verdict q = λ i.
      refused_or (first_refusal ((not (own_roles q i), NotGranted)
      ∷ (own_lack q (role_needed q) i ++ (nat_lt t (unit_read rows).last_s, MomentBehind (unit_read rows).last_s)
      ∷ own_same q i))) (reply_same q i)

  abbrev alarm_changed : (AlarmRow → AlarmRow) → Option AlarmRow → List RowEdit
  alarm_changed g o = Put (UnitPut (record (unit_read rows) { last_s = t })) ∷ map (λ r. Put (AlarmPut (g r))) (option_to_list o)

  -- and so are the changes
  holder_changes : (q : Request) → changes_for (of_part q) (asked q) ≡ changes_for (facts_of rows) (asked q)
  holder_changes (Import u file) = ap (λ alarms. changes_for (with_alarms alarms) (asked (Import u file))) (filter-true rows.alarms)
  holder_changes (OneShotShelve u a w) =
      ap (λ max. Put (UnitPut (record (unit_read rows) { last_s = t })) ∷ Put (ShelfPut (shelf_row_as true t (t + max) p w a)) ∷ [])
      (ap longest (own_alarm (is_crowded rows) a))
  holder_changes (RemoveFromService u a w) = ap (alarm_changed (taken_out p t w)) (own_alarm false a)
  holder_changes (PlaceInService u a) = ap (alarm_changed placed_in) (own_alarm false a)
  holder_changes (WithdrawChange u n) = ap (λ c. changes_for (with_change c) (asked (WithdrawChange u n))) (numbered_there n)
  holder_changes (Approve u n) = approval_made n (change_found rows n) refl
  holder_changes (Reject u n) = ap (λ c. changes_for (with_change c) (asked (Reject u n))) (numbered_there n)
  holder_changes _ = refl

  -- one who holds no role is refused, whatever else the rows are
  stranger_refused : (f : Facts) (c : Call) → holds_some f c.moment c.person ≡ false → verdict_of f c ≡ Err NotGranted
  stranger_refused f c none =
      ap (λ b. refused_or (first_refusal ((not b, NotGranted) ∷ refusals_of_holder f c)) (reply f c.moment c.request)) none

  rows_hold : (some : UnitRows) (m n : ℕ) → holds_some (facts_from some m n) t p ≡ holds_by some.grants t p
  unfolding holds_some
  rows_hold some m n = refl

  part_holds : (part : UnitPart) (es : List Event) → holds_some (facts_among part es) t p ≡ holds_by part.rows.grants t p
  unfolding holds_some
  part_holds part es = refl

  -- the caller's own grants determine whether the caller holds a role
  pub own_holds : holds_by (filter (λ g. same_name p g.person) rows.grants) t p ≡ holds_by rows.grants t p
  own_holds =
      λ i. own Viewer i || (own Operator i || (own Maintainer i || (own Engineer i || (own Approver i || (own Steward i || false))))) where
        own : (r : Role) → held_by (filter (λ g. same_name p g.person) rows.grants) t (p, r) ≡ held_by rows.grants t (p, r)
        own r = ap (held_by_row t) (row_at-filter pair_cmp pair_of (p, r) (λ g. same_name p g.person)
            (λ g e. ap is_eq (then_Equal (name_cmp p g.person) (nat_cmp (role_no r) (role_no g.role_no)) (tied _ true e refl)).0) rows.grants)

  -- a part says whether the caller holds a role
  pub part_held : (q : Request) → (part_of (asked q) rows).held ≡ holds_by (part_of (asked q) rows).rows.grants t p
  unfolding holds_some
  part_held q = by (holds_by rows.grants t p) refl where
    by : (b : Bool) → holds_by rows.grants t p ≡ b
        → (if b then part_of_holder (asked q) rows else part_of_stranger (asked q) rows).held
        ≡ holds_by (if b then part_of_holder (asked q) rows else part_of_stranger (asked q) rows).rows.grants t p
    by true some = sym (own_roles q ∙ some)
    by false none = sym (own_holds ∙ none)

  -- the verdict from the part and all events is the verdict from all rows
  pub part_verdict : (q : Request)
      → verdict_of (facts_among (part_of (asked q) rows) rows.events) (asked q) ≡ verdict_of (facts_of rows) (asked q)
  part_verdict q = by (holds_by rows.grants t p) refl where
    by : (b : Bool) → holds_by rows.grants t p ≡ b
        → verdict_of (facts_among (if b then part_of_holder (asked q) rows else part_of_stranger (asked q) rows) rows.events)
        (asked q) ≡ verdict_of (facts_of rows) (asked q)
    by true some = holder_verdict q
    by false none =
        stranger_refused (facts_among (part_of_stranger (asked q) rows) rows.events) (asked q)
        (part_holds (part_of_stranger (asked q) rows) rows.events ∙ own_holds ∙ none)
        ∙ sym (stranger_refused (facts_of rows) (asked q) (rows_hold rows (length rows.alarms) (last_number rows.changes) ∙ none))

  -- the changes matter where the call is accepted, and so by one who holds a role
  pub part_changes : (q : Request) → holds_by rows.grants t p ≡ true
      → changes_for (facts_among (part_of (asked q) rows) rows.events) (asked q) ≡ changes_for (facts_of rows) (asked q)
  part_changes q some =
      ap (λ b. changes_for (facts_among (if b then
      part_of_holder (asked q) rows else part_of_stranger (asked q) rows) rows.events) (asked q)) some
      ∙ holder_changes q

  pub stranger_verdict : (q : Request) → holds_by rows.grants t p ≡ false → verdict_of (facts_of rows) (asked q) ≡ Err NotGranted
  stranger_verdict q none = stranger_refused (facts_of rows) (asked q) (rows_hold rows (length rows.alarms) (last_number rows.changes) ∙ none)
