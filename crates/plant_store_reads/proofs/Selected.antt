-- The part of a unit's rows that a call looks at, from the lists that were read.
use Rattle.std.specs.List.{slice_get}
use Rattle.std.proofs.Common.{◌≡◌, ℕ, Bool, true, false, List, filter, Option, None, Some, sym, ap, ◌∙◌, [], arith, length, refl, ◌∷◌, if◌then◌else◌, option_map, ◌||◌, nat_cmp}
use Rattle.sqlite.specs.State.{State}
use Rattle.sqlite_keyed.proofs.ListLemmas.{filter_same, slice_get-filter}
use Rattle.plant_books.specs.{Asking.{HasTheirShelves, is_alarm_wanted, is_wanted}, Contents.{Content, part_in, rows_in}, Found.{shelved}}
use Rattle.plant_books.specs.declared.asking.{Wanted.{Wanted, TheVariants.{Every, Nothing, One}}, WantedAlarms.{WantedAlarms}}
use Rattle.plant_books.{specs.declared.asking.WantedAlarms.TheVariants.{Shelved, Those}, proofs.public.HistoryLaws.{none_asked}}
use Rattle.plant_alarm.specs.declared.event.{Event.{Event}, EventKind.TheVariants.{Act}}
use Rattle.plant_model.specs.Histories.{same_number}
use Rattle.plant_model.specs.steps.Parts.{Selection, counted_for, has_shelf, part_of, part_of_holder, part_of_stranger, rows_selected, selected}
use Rattle.plant_model.specs.steps.RowChanges.{no_rows}
use Rattle.plant_model.specs.steps.RowFacts.{alarm_tag, change_found, event_number, holds_by, pair_of, record_tag, shelf_tag}
use Rattle.plant_model.specs.declared.call.{Call.{Call}, Request.{Request, TheVariants.{Floods, Import}}}
use Rattle.plant_model.specs.steps.Scopes.{looks_at_events}
use Rattle.plant_model.specs.declared.rows.{AlarmRow.{AlarmRow}, BandRow.{BandRow}, CellRow.{CellRow}, ChangeEntry.{ChangeEntry}, GrantRow.{GrantRow}}
use Rattle.plant_model.specs.declared.rows.{RecordEntry.{RecordEntry}, ShelfRow.{ShelfRow}, UnitPart.{UnitPart}, UnitRow.{UnitRow}}
use Rattle.plant_model.{specs.declared.rows.UnitRows.{UnitRows}, proofs.public.{PartLaws.{own_holds}, PartLists.{filter-true}}}
use Rattle.plant_types.specs.{Names.{Name, same_name}, Roles.{Pair}}
use Rattle.plant_store_statements.specs.Keeping.{HasContent, has_any}
use Rattle.plant_store_reads.specs.Wanted.{alarms_left, alarms_with, events_with, rows_with}
use Rattle.plant_store_statements.proofs.public.{Queries.{passing_none}, Contents.{kept_rows, never_opened}}
use Rattle.plant_store_columns.specs.declared.tables.TableKind.TheVariants.{Units, Grants, Alarms, Shelves, Bands, Cells, Events, Records, Changes}
use Rattle.plant_store_columns.specs.Tables.{rows_seen}

-- rows that are wanted are those that pass a test which says so
pub rows_are : {X : Type 0} (tag_of : X → Name) (test : Name → Bool) (w : Wanted) → ((a : Name) → test a ≡ is_wanted w a) → (rows : List X)
    → rows_with tag_of w rows ≡ filter (λ r. test (tag_of r)) rows
rows_are {X} tag_of test Nothing h rows = sym (filter_same (λ (r : X). test (tag_of r)) (λ r. false) (λ r. h (tag_of r)) rows ∙ passing_none rows)
rows_are {X} tag_of test (One tag) h rows =
    sym (filter_same (λ (r : X). test (tag_of r)) (λ r. same_name tag.now (tag_of r)) (λ r. h (tag_of r)) rows)
rows_are {X} tag_of test Every h rows = sym (filter_same (λ (r : X). test (tag_of r)) (λ r. true) (λ r. h (tag_of r)) rows ∙ filter-true rows)

-- the shelves are those that are selected of all
pub alarms_are : (s : Selection) (all shelves : List ShelfRow) (w : WantedAlarms) → ((a : Name) → s.alarm a ≡ is_alarm_wanted all w a)
    → HasTheirShelves s w → shelves ≡ filter (λ r. s.shelf r.tag) all → (rows : List AlarmRow)
    → alarms_left w shelves (alarms_with w rows) ≡ filter (λ r. s.alarm r.tag) rows
alarms_are s all shelves (Those wanted) h beside is rows = rows_are alarm_tag s.alarm wanted h rows
alarms_are s all shelves Shelved h beside is rows =
    ap (λ some. shelved some rows) (is ∙ filter_same (λ (r : ShelfRow). s.shelf r.tag) (λ r. true) (λ r. beside r.tag) all ∙ filter-true all)
    ∙ sym (filter_same (λ (r : AlarmRow). s.alarm r.tag) (λ r. has_shelf all r.tag) (λ r. h r.tag) rows)

-- what a request takes in of the events that were read for it
pub events_are : (rows : UnitRows) (q : Request) (looks : Bool) → looks ≡ looks_at_events q → (seen : List Event)
    → (selected rows q).events (events_with looks seen) ≡ (selected rows q).events seen
events_are rows q true is seen = refl
events_are rows q false is seen = none_asked rows q [] (sym is) ∙ sym (none_asked rows q seen (sym is))

-- events are counted for requests that look at them
some_event : Event
some_event = record { seq = 0; moment = 0; tag = []; kind = Act }

pub counts_events : (q : Request) → ((rows : UnitRows) → counted_for rows q ≡ length rows.events) → looks_at_events q ≡ true
counts_events (Import u file) counts = refl
counts_events (Floods u begin until) counts = refl
counts_events _ counts = absurd (let no = counts (record no_rows { events = some_event ∷ [] }) in omega (arith, no))

module _ (s : State) (m : Content) (u : Name) (k : HasContent s m) where
  pub seen_grants : (c : Call) (chosen : Selection) (all : Bool) → ((p : Pair) → chosen.pair p ≡ all)
      → filter (λ g. same_name c.person g.person || all) (rows_seen u s.now.trees Grants) ≡ (rows_selected c.person chosen (rows_in m u)).grants
  seen_grants c chosen all h =
      filter_same (λ g. same_name c.person g.person || all) (λ g. same_name c.person g.person || chosen.pair (pair_of g))
      (λ g. ap (λ b. same_name c.person g.person || b) (sym (h (pair_of g)))) (rows_seen u s.now.trees Grants)
      ∙ ap (filter (λ g. same_name c.person g.person || chosen.pair (pair_of g))) (k.seen u Grants)

  -- the records that a call looks at, as they were read
  pub records_asked : (chosen : Selection) (w : Wanted) → ((a : Name) → chosen.rationale a ≡ is_wanted w a) → (records : List RecordEntry)
      → records ≡ rows_with record_tag w (rows_seen u s.now.trees Records)
      → records ≡ filter (λ r. chosen.rationale r.tag) (rows_in m u).records
  records_asked chosen w h records is = is ∙ rows_are record_tag chosen.rationale w h _ ∙ ap (filter (λ r. chosen.rationale r.tag)) (k.seen u Records)

  -- the change that is approved, as it was read
  pub approved_found : (n : ℕ) (read : List ChangeEntry) → read ≡ filter (λ r. same_number n r.number) (rows_seen u s.now.trees Changes)
      → change_found (rows_in m u) n ≡ slice_get read 0
  approved_found n read is = sym (slice_get-filter (λ (r : ChangeEntry). same_number n r.number) (rows_in m u).changes)
      ∙ ap (λ rows. slice_get (filter (λ (r : ChangeEntry). same_number n r.number) rows) 0) (sym (k.seen u Changes))
      ∙ ap (λ rows. slice_get rows 0) (sym is)

  -- the caller's grants determine whether the caller holds a role in the unit
  own_tell : (c : Call) (own : List GrantRow) → own ≡ filter (λ g. same_name c.person g.person) (rows_seen u s.now.trees Grants)
      → holds_by own c.moment c.person ≡ holds_by (rows_in m u).grants c.moment c.person
  own_tell c own is = ap (λ gs. holds_by gs c.moment c.person) (is ∙ ap (filter (λ (g : GrantRow). same_name c.person g.person)) (k.seen u Grants))
      ∙ own_holds (rows_in m u) c.person c.moment

  -- the part of one who holds a role, and of one who holds none
  pub holder_found : (c : Call) (units : List UnitRow) → units ≡ rows_seen u s.now.trees Units → has_any units ≡ true → (own : List GrantRow)
      → own ≡ filter (λ g. same_name c.person g.person) (rows_seen u s.now.trees Grants) → holds_by own c.moment c.person ≡ true
      → (part : UnitPart) → part ≡ part_of_holder c (rows_in m u) → ◌≡◌ {A = Option UnitPart} (Some part) (part_in m c u)
  holder_found c units us any own os held part is =
      ap Some (is ∙ sym (ap (λ b. if b then part_of_holder c (rows_in m u) else part_of_stranger c (rows_in m u)) (sym (own_tell c own os) ∙ held)))
      ∙ sym (ap (option_map (part_of c)) (kept_rows s m u k (ap has_any (sym us) ∙ any)))

  pub stranger_found : (c : Call) (units : List UnitRow) → units ≡ rows_seen u s.now.trees Units → has_any units ≡ true → (own : List GrantRow)
      → own ≡ filter (λ g. same_name c.person g.person) (rows_seen u s.now.trees Grants) → holds_by own c.moment c.person ≡ false
      → (part : UnitPart) → part.rows ≡ record no_rows { units = units; grants = own } → part.count ≡ 0 → part.held ≡ false
      → ◌≡◌ {A = Option UnitPart} (Some part) (part_in m c u)
  stranger_found c units us any own os held part rows none lacks =
      let whole : ◌≡◌ {A = UnitPart} part (part_of_stranger c (rows_in m u)) = λ i. record {
        rows = (rows
            ∙ (λ j. record no_rows {
              units = (us ∙ k.seen u Units) j;
              grants = (os ∙ ap (filter (λ (g : GrantRow). same_name c.person g.person)) (k.seen u Grants)) j;
            })) i;
        count = none i;
        held = lacks i;
      } in
      ap Some (whole
      ∙ sym (ap (λ b. if b then part_of_holder c (rows_in m u) else part_of_stranger c (rows_in m u)) (sym (own_tell c own os) ∙ held)))
      ∙ sym (ap (option_map (part_of c)) (kept_rows s m u k (ap has_any (sym us) ∙ any)))

  pub no_part : (c : Call) (units : List UnitRow) → units ≡ rows_seen u s.now.trees Units → has_any units ≡ false
      → ◌≡◌ {A = Option UnitPart} None (part_in m c u)
  no_part c units us any = sym (ap (option_map (part_of c)) (never_opened s m u k (ap has_any (sym us) ∙ any)))
