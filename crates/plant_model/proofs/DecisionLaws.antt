-- The changes of proposals and decisions turn the rows of the history into those of the history with the call.
use Rattle.std.proofs.Common.{ap, cond, refl, sym, ◌∙◌, option_to_list, nat_cmp, Bool, List, None, Option, Some, [], false, filter_map, if◌then◌else◌, is_some, map, max, option_map, true, unwrap_or, ℕ, ◌+◌, ◌∷◌, ◌≡◌}
use Rattle.std.proofs.lemmas.Simd.{map-map}
use Rattle.plant_model.specs.{Alarms.{latching, limit, quota}, Events.{events_of}, Facts.{facts}, Histories.{latest, same_number}}
use Rattle.plant_model.specs.Changes.{Decision, Draft, change, change_as, decision, draft, kind_of_change, limit_in, limit_revision, matrix, matrix_in, matrix_revision, no_matrix, proposals, record_as, record_of, record_revision, said_of_matrix, sheet, sheet_in}
use Rattle.plant_model.specs.Matrices.{band_at, band_cmp, band_places, cell_of, cell_places}
use Rattle.plant_model.specs.steps.RowFacts.{band_key, change_number, record_tag}
use Rattle.plant_model.specs.steps.RowChanges.{approval_changes, approved_row, cells_of, changed_by, decided_as, for_change, put, rerated}
use Rattle.plant_model.specs.Rows.{alarm_as, alarm_row, band_row, band_rows, cell_row, change_entry, change_rows, changes_of, record_entry, record_rows, records_of, rows_of, unit_row, with_limit}
use Rattle.plant_model.specs.{Service.{outage}, declared.{call.{Call.{Call}, Request.{Request}}, rows.{UnitRow.{UnitRow}, UnitRows.{UnitRows}}}}
use Rattle.plant_model.specs.declared.{call.Request.TheVariants.{Approve, Propose, Reject, WithdrawChange}, reply.ChangeRow.{ChangeRow}}
use Rattle.plant_model.specs.declared.{reply.RecordRow.{RecordRow}, rows.{AlarmRow.{AlarmRow}, BandRow.{BandRow}, CellRow.{CellRow}}}
use Rattle.plant_model.specs.declared.rows.{Row.TheVariants.{Alarm as AlarmPut, Change as ChangePut, Unit as UnitPut}, RowEdit.TheVariants.{Put}}
use Rattle.plant_model.proofs.MatrixLaws.{band_keys, bands_anew, bands_told, cell_keys, cells_anew, cells_told, no_next}
use Rattle.plant_model.proofs.public.ChangeLaws.{rows-same, with_request, Turns, put_row-map, said_anew}
use Rattle.plant_model.proofs.public.HistoryLaws.{alarm_of, alarms_told, change_with, changes_told, numbers_of_changes, record_with, records_told, tag_of_record, tags_of_alarms, tags_of_records}
use Rattle.plant_model.proofs.public.PutLaws.{put_bands, put_cells, put_records, puts, puts-rows, said, said-rows}
use Rattle.plant_types.specs.{KeyedRows.{put_row}, Names.{Name, name_cmp, same_name}, Options.{or_else, when}}
use Rattle.plant_types.proofs.public.{KeyedRowLaws.{put-rows, tied}, Orders.{same_names, same_numbers}}
use Rattle.plant_ration.specs.{Grid.{Grid}, Matrix.{priority_of}, declared.{cell.Cell.TheVariants.{N}, change.ChangeKind.{ChangeKind}}}
use Rattle.plant_ration.specs.declared.change.ChangeKind.TheVariants.{Limit, Matrix, Rationale}
use Rattle.plant_ration.specs.declared.change.{ChangeState.TheVariants.{Approved, Rejected, Withdrawn}, Sheet.{Sheet}}

when_else : {A : Type 0} (b : Bool) (v : A) (rest : Option A) → or_else (when b v) rest ≡ cond b (Some v) rest
when_else true v rest = refl
when_else false v rest = refl

module _ (h : List Call) (p : Name) (t : ℕ) where
  -- Decisions
  decided_anew : (n k : ℕ) (d : Draft) (v : Decision) → draft h n ≡ Some d
      → option_map (change_as k (or_else (when (same_number k n) v) (decision h k))) (draft h k) ≡ cond (same_number k n)
      (Some (change_as n (Some v) d)) (change h k)
  decided_anew n k d v known =
      ap (λ o. option_map (change_as k o) (draft h k)) (when_else (same_number k n) v (decision h k))
      ∙ said_anew nat_cmp same_numbers change_as (decision h) (draft h) n d (Some v) known k

  change_put : (q : Request) → (ChangeRow → ChangeRow) → Option ChangeRow → UnitRows
  change_put q g o =
      changed_by (Put (UnitPut (unit_row (with_request h p t q))) ∷ for_change o (λ c. Put (ChangePut (change_entry (g c))) ∷ [])) (rows_of h)

  pub withdraw_change_turns : (u : Name) (n : ℕ) (d : Draft) → draft h n ≡ Some d → Turns h p t (WithdrawChange u n)
  unfolding change_put
  withdraw_change_turns u n d known =
      let c = with_request h p t (WithdrawChange u n) in
      let row = change_as n (Some (record { state = Withdrawn; decider = p; decided = t })) d in
      ap (λ o. change_put (WithdrawChange u n) (decided_as Withdrawn p t) (option_map (change_with h n) o)) known
      ∙ (λ i. record (rows_of c) {
        changes =
            (put_row-map nat_cmp change_number change_entry row (changes_of h)
            ∙ ap (λ rows. map change_entry rows)
            (put-rows (change h) (change c) (numbers_of_changes h) (numbers_of_changes c) row (changes_told h) (changes_told c)
            (λ k. decided_anew n k d (record { state = Withdrawn; decider = p; decided = t }) known))) i;
      })

  pub reject_turns : (u : Name) (n : ℕ) (d : Draft) → draft h n ≡ Some d → Turns h p t (Reject u n)
  unfolding change_put
  reject_turns u n d known =
      let c = with_request h p t (Reject u n) in
      let row = change_as n (Some (record { state = Rejected; decider = p; decided = t })) d in
      ap (λ o. change_put (Reject u n) (decided_as Rejected p t) (option_map (change_with h n) o)) known
      ∙ (λ i. record (rows_of c) {
        changes =
            (put_row-map nat_cmp change_number change_entry row (changes_of h)
            ∙ ap (λ rows. map change_entry rows)
            (put-rows (change h) (change c) (numbers_of_changes h) (numbers_of_changes c) row (changes_told h) (changes_told c)
            (λ k. decided_anew n k d (record { state = Rejected; decider = p; decided = t }) known))) i;
      })

module _ (h : List Call) (p : Name) (t : ℕ) where
  -- Proposals: nothing is decided of the next number
  draft_anew : (n k : ℕ) (d : Draft) → decision h n ≡ None
      → option_map (change_as k (decision h k)) (or_else (when (same_number k n) d) (draft h k)) ≡ cond (same_number k n) (Some (change_as n None d))
      (change h k)
  draft_anew n k d undecided =
      elim (same_number k n) as (λ s. same_number k n ≡ s
      → option_map (change_as k (decision h k)) (or_else (when s d) (draft h k)) ≡ cond s (Some (change_as n None d)) (change h k)) [
        | true ↦ λ e. ap (λ y. Some (change_as y (decision h y) d)) (same_numbers k n (tied _ true e refl))
            ∙ ap (λ o. Some (change_as n o d)) undecided
        | false ↦ λ e. refl
      ] refl

  abbrev new_draft : ChangeKind → ℕ → Draft
  new_draft k base = record { proposer = p; proposed = t; kind = k; base = base }

  abbrev propose : Name → ChangeKind → ℕ → Request
  propose u k base = Propose u (record { kind = k; base = base })

  change_rows_put : (u : Name) (k : ChangeKind) (base : ℕ) → decision h (proposals h + 1) ≡ None
      → put_row nat_cmp change_number (change_entry (change_as (proposals h + 1) None (new_draft k base)))
      (change_rows h) ≡ change_rows (with_request h p t (propose u k base))
  change_rows_put u k base undecided =
      let c = with_request h p t (propose u k base) in
      let row = change_as (proposals h + 1) None (new_draft k base) in
      put_row-map nat_cmp change_number change_entry row (changes_of h)
      ∙ ap (λ rows. map change_entry rows)
      (put-rows (change h) (change c) (numbers_of_changes h) (numbers_of_changes c) row (changes_told h) (changes_told c)
      (λ n. draft_anew (proposals h + 1) n (new_draft k base) undecided))

  pub propose_sheet_turns : (u a : Name) (s : Sheet) (base : ℕ) → decision h (proposals h + 1) ≡ None → Turns h p t (propose u (Rationale a s) base)
  propose_sheet_turns u a s base undecided =
      λ i. record (rows_of (with_request h p t (propose u (Rationale a s) base))) { changes = change_rows_put u (Rationale a s) base undecided i }

  pub propose_limit_turns : (u a : Name) (max base : ℕ) → decision h (proposals h + 1) ≡ None → Turns h p t (propose u (Limit a max) base)
  propose_limit_turns u a max base undecided =
      λ i. record (rows_of (with_request h p t (propose u (Limit a max) base))) { changes = change_rows_put u (Limit a max) base undecided i }

  pub propose_matrix_turns : (u : Name) (m : Grid) (base : ℕ) → decision h (proposals h + 1) ≡ None → Turns h p t (propose u (Matrix m) base)
  propose_matrix_turns u m base undecided =
      let c = with_request h p t (propose u (Matrix m) base) in
      let bands : List BandRow = filter_map (λ k. band_at k m) (band_places (proposals h + 1) m) in
      let cells : List CellRow = filter_map (λ k. cell_of k m) (cell_places (proposals h + 1) m) in
      let first : UnitRows =
      put (ChangePut (change_entry (change_as (proposals h + 1) None (new_draft (Matrix m) base)))) (put (UnitPut (unit_row c)) (rows_of h)) in
      put_bands bands (cells_of (proposals h + 1) m) first ∙ put_cells cells (record first { bands = puts band_cmp band_key bands (band_rows h) })
      ∙ (λ i. record (rows_of c) {
        changes = change_rows_put u (Matrix m) base undecided i;
        bands = puts-rows (band_row h) (band_row c) (band_keys h) (band_keys c) bands (bands_told h) (bands_told c)
            (λ q. bands_anew h (proposals h + 1) (no_next h) m q) i;
        cells = puts-rows (cell_row h) (cell_row c) (cell_keys h) (cell_keys c) cells (cells_told h) (cells_told c)
            (λ q. cells_anew h (proposals h + 1) (no_next h) m q) i;
      })

  -- Approvals: what depends on the kind of the change
  module _ (u : Name) (n : ℕ) where
    abbrev approved_call : List Call
    approved_call = with_request h p t (Approve u n)

    abbrev unit_by : Option ChangeKind → UnitRow
    unit_by k =
        record {
          last_s = t;
          matrix_no = (unwrap_or (or_else (matrix_in n k) (latest (λ c before. said_of_matrix before c.request) h)) no_matrix).0;
          matrix_rev = (if is_some (matrix_in n k) then matrix_revision h + 1 else matrix_revision h);
          quota = quota h;
        }

    abbrev record_by : Name → Option ChangeKind → Option RecordRow
    record_by a k =
        option_map
        (record_as (unwrap_or (or_else (matrix_in n k) (latest (λ c before. said_of_matrix before c.request) h)) no_matrix).1
        (if is_some (sheet_in a n k) then record_revision h a + 1 else record_revision h a) a) (or_else (sheet_in a n k) (sheet h a))

    abbrev alarm_by : Name → Option ChangeKind → Option AlarmRow
    alarm_by a k =
        option_map (alarm_as a (unwrap_or (or_else (limit_in a k) (limit h a)) 0) (if is_some (limit_in a k) then
        limit_revision h a + 1 else limit_revision h a) (events_of h a) (outage h a)) (latching h a)

    abbrev approval : Decision
    approval = record { state = Approved; decider = p; decided = t }

    decided_rows : (d : Draft) → draft h n ≡ Some d
        → put_row nat_cmp change_number (change_entry (change_as n (Some approval) d)) (change_rows h) ≡ change_rows approved_call
    decided_rows d known =
        put_row-map nat_cmp change_number change_entry (change_as n (Some approval) d) (changes_of h)
        ∙ ap (λ rows. map change_entry rows)
        (put-rows (change h) (change approved_call) (numbers_of_changes h) (numbers_of_changes approved_call) (change_as n (Some approval) d)
        (changes_told h) (changes_told approved_call) (λ k. decided_anew h p t n k d approval known))

    approval_put : Option ChangeRow → UnitRows
    approval_put o = changed_by (Put (UnitPut (approved_row t (unit_row h) o)) ∷ for_change o (approval_changes (facts h) p t)) (rows_of h)

    -- a limit
    limit_anew : (b k : Name) (l : Bool) (max : ℕ) → latching h b ≡ Some l
        → alarm_by k (Some (Limit b max)) ≡ cond (same_name k b) (Some (alarm_as b max (limit_revision h b + 1) (events_of h b) (outage h b) l))
        (alarm_row h k)
    limit_anew b k l max known =
        elim (same_name k b) as (λ s. same_name k b ≡ s
        → option_map (alarm_as k (unwrap_or (or_else (when s max) (limit h k)) 0) (if is_some (when s max) then
        limit_revision h k + 1 else limit_revision h k) (events_of h k) (outage h k)) (latching h k)
        ≡ cond s (Some (alarm_as b max (limit_revision h b + 1) (events_of h b) (outage h b) l)) (alarm_row h k)) [
          | true ↦ λ e. ap (λ y. option_map (alarm_as y max (limit_revision h y + 1) (events_of h y) (outage h y)) (latching h y))
              (same_names k b (tied _ true e refl)) ∙ ap (option_map (alarm_as b max (limit_revision h b + 1) (events_of h b) (outage h b))) known
          | false ↦ λ e. refl
        ] refl

    limit_put : Draft → Name → ℕ → Option AlarmRow → UnitRows
    limit_put d b max o =
        changed_by (Put (UnitPut (unit_by (Some (Limit b max)))) ∷ Put (ChangePut (change_entry (change_as n (Some approval) d)))
        ∷ map (λ r. Put (AlarmPut (with_limit max r))) (option_to_list o)) (rows_of h)

    pub approve_limit_turns : (q : Name) (s : ℕ) (b : Name) (max base : ℕ) (l : Bool)
        → draft h n ≡ Some (record { proposer = q; proposed = s; kind = Limit b max; base = base }) → latching h b ≡ Some l
        → Turns h p t (Approve u n)
    unfolding approval_put limit_put
    approve_limit_turns q s b max base l known there =
        let d : Draft = record { proposer = q; proposed = s; kind = Limit b max; base = base } in
        let kind : kind_of_change h n ≡ Some (Limit b max) = ap (option_map (λ (d : Draft). d.kind)) known in
        ap (λ o. approval_put (option_map (change_with h n) o)) known
        ∙ ap (λ o. limit_put d b max (option_map (alarm_of h b) o)) there
        ∙ (λ i. record (rows_of approved_call) {
          units = ap unit_by (sym kind) i ∷ [];
          alarms = put-rows (alarm_row h) (alarm_row approved_call) (tags_of_alarms h) (tags_of_alarms approved_call)
              (alarm_as b max (limit_revision h b + 1) (events_of h b) (outage h b) l) (alarms_told h) (alarms_told approved_call)
              (λ k. ap (alarm_by k) kind ∙ limit_anew b k l max there) i;
          records =
              map record_entry
              (rows-same (record_of h) (record_of approved_call) (tags_of_records h) (tags_of_records approved_call) (records_told h)
              (records_told approved_call) (λ a. ap (record_by a) (sym kind)) i);
          changes = decided_rows d known i;
        })

    -- a record
    record_anew : (b k : Name) (s : Sheet)
        → record_by k (Some (Rationale b s)) ≡ cond (same_name k b) (Some (record_as (matrix h).1 (record_revision h b + 1) b (n, s))) (record_of h k)
    record_anew b k s =
        let x : ℕ × Sheet = (n, s) in
        elim (same_name k b) as (λ v. same_name k b ≡ v
        → option_map (record_as (matrix h).1 (if is_some (when v x) then record_revision h k + 1 else record_revision h k) k)
        (or_else (when v x) (sheet h k)) ≡ cond v (Some (record_as (matrix h).1 (record_revision h b + 1) b x)) (record_of h k)) [
          | true ↦ λ e. ap (λ y. Some (record_as (matrix h).1 (record_revision h y + 1) y x)) (same_names k b (tied _ true e refl))
          | false ↦ λ e. refl
        ] refl

    pub approve_sheet_turns : (q : Name) (w : ℕ) (b : Name) (s : Sheet) (base : ℕ)
        → draft h n ≡ Some (record { proposer = q; proposed = w; kind = Rationale b s; base = base }) → Turns h p t (Approve u n)
    unfolding approval_put
    approve_sheet_turns q w b s base known =
        let d : Draft = record { proposer = q; proposed = w; kind = Rationale b s; base = base } in
        let kind : kind_of_change h n ≡ Some (Rationale b s) = ap (option_map (λ (d : Draft). d.kind)) known in
        let row : RecordRow = record_as (matrix h).1 (record_revision h b + 1) b (n, s) in
        ap (λ o. approval_put (option_map (change_with h n) o)) known
        ∙ (λ i. record (rows_of approved_call) {
          units = ap unit_by (sym kind) i ∷ [];
          alarms = rows-same (alarm_row h) (alarm_row approved_call) (tags_of_alarms h) (tags_of_alarms approved_call) (alarms_told h)
              (alarms_told approved_call) (λ a. ap (alarm_by a) (sym kind)) i;
          records =
              (put_row-map name_cmp record_tag record_entry row (records_of h)
              ∙ ap (λ rows. map record_entry rows)
              (put-rows (record_of h) (record_of approved_call) (tags_of_records h) (tags_of_records approved_call) row (records_told h)
              (records_told approved_call) (λ k. ap (record_by k) kind ∙ record_anew b k s))) i;
          changes = decided_rows d known i;
        })

    -- a matrix, with the priorities of all records
    abbrev rerated_row : Grid → RecordRow → RecordRow
    rerated_row m r = record r { priority = unwrap_or (priority_of m r.severity r.response) N }

    rerated_by : (m : Grid) (a : Name) (o : Option (ℕ × Sheet))
        → option_map (record_as m (record_revision h a) a) o ≡ option_map (rerated_row m) (option_map (record_with h a) o)
    rerated_by m a None = refl
    rerated_by m a (Some x) = refl

    said-map : (m : Grid) (rs : List RecordRow) (k : Name)
        → said name_cmp tag_of_record (map (rerated_row m) rs) k ≡ option_map (rerated_row m) (said name_cmp tag_of_record rs k)
    said-map m [] k = refl
    said-map m (r ∷ rs) k =
        ap (λ o. or_else o (when (same_name k r.tag) (rerated_row m r))) (said-map m rs k)
        ∙ elim (said name_cmp tag_of_record rs k) as (λ o. or_else (option_map (rerated_row m) o) (when (same_name k r.tag) (rerated_row m r))
        ≡ option_map (rerated_row m) (or_else o (when (same_name k r.tag) r))) [
          | None ↦ elim (same_name k r.tag) as (λ b. when b (rerated_row m r) ≡ option_map (rerated_row m) (when b r)) [ true ↦ refl | false ↦ refl ]
          | Some x ↦ refl
        ]

    all_said : (m : Grid) (o : Option RecordRow) → option_map (rerated_row m) o ≡ or_else (option_map (rerated_row m) o) o
    all_said m None = refl
    all_said m (Some x) = refl

    puts-map : (rs xs : List RecordRow)
        → puts name_cmp record_tag (map record_entry rs) (map record_entry xs) ≡ map record_entry (puts name_cmp tag_of_record rs xs)
    puts-map [] xs = refl
    puts-map (r ∷ rs) xs = ap (puts name_cmp record_tag (map record_entry rs)) (put_row-map name_cmp record_tag record_entry r xs)
        ∙ puts-map rs (put_row name_cmp tag_of_record r xs)

    records_rerated : (m : Grid) → kind_of_change h n ≡ Some (Matrix m)
        → puts name_cmp record_tag (map (rerated m) (records_of h)) (record_rows h) ≡ record_rows approved_call
    records_rerated m kind =
        ap (λ rs. puts name_cmp record_tag rs (record_rows h)) (sym (map-map record_entry (rerated_row m) (records_of h)))
        ∙ puts-map (map (rerated_row m) (records_of h)) (records_of h)
        ∙ ap (λ rows. map record_entry rows)
        (puts-rows (record_of h) (record_of approved_call) (tags_of_records h) (tags_of_records approved_call) (map (rerated_row m) (records_of h))
        (records_told h) (records_told approved_call)
        (λ a. ap (record_by a) kind ∙ rerated_by m a (sheet h a) ∙ all_said m (record_of h a)
        ∙ ap (λ o. or_else o (record_of h a))
        (sym (said-map m (records_of h) a ∙ ap (option_map (rerated_row m)) (said-rows (record_of h) (tags_of_records h) (records_told h) a)))))

    pub approve_matrix_turns : (q : Name) (w : ℕ) (m : Grid) (base : ℕ)
        → draft h n ≡ Some (record { proposer = q; proposed = w; kind = Matrix m; base = base }) → Turns h p t (Approve u n)
    unfolding approval_put
    approve_matrix_turns q w m base known =
        let d : Draft = record { proposer = q; proposed = w; kind = Matrix m; base = base } in
        let kind : kind_of_change h n ≡ Some (Matrix m) = ap (option_map (λ (d : Draft). d.kind)) known in
        ap (λ o. approval_put (option_map (change_with h n) o)) known
        ∙ put_records (rerated m) (records_of h)
        (put (ChangePut (change_entry (change_as n (Some approval) d))) (put (UnitPut (unit_by (Some (Matrix m)))) (rows_of h)))
        ∙ (λ i. record (rows_of approved_call) {
          units = ap unit_by (sym kind) i ∷ [];
          alarms = rows-same (alarm_row h) (alarm_row approved_call) (tags_of_alarms h) (tags_of_alarms approved_call) (alarms_told h)
              (alarms_told approved_call) (λ a. ap (alarm_by a) (sym kind)) i;
          records = records_rerated m kind i;
          changes = decided_rows d known i;
        })
