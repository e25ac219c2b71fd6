-- A unit's rows with and without its history: the part of a call that looks at none of it, and changes that put none.
use Rattle.std.proofs.Common.{Bool, List, None, Option, Some, [], ap, cond, false, filter, refl, sym, true, ℕ, ◌∙◌, ◌∷◌, ◌≡◌, ◌||◌}
use Rattle.plant_model.specs.declared.rows.UnitRows.{UnitRows}
use Rattle.plant_model.specs.steps.LooksAt.{AllEvents, AllRecords, Approval, Content, File, OneChange, OneRecord, Scope, scope_of, scope_of_proposal}
use Rattle.plant_model.specs.steps.Parts.{counted_for, of_approved, of_topic, part_of, part_of_holder, part_of_stranger, rows_selected, selected, selection, with_number}
use Rattle.plant_model.specs.steps.{RowChanges.{changed, changed_by}, RowFacts.{change_found, holds_by}, Scopes.{has_events, has_reviews, looks_at_events, looks_at_reviews}}
use Rattle.plant_model.specs.declared.{call.{Call.{Call}, Request.{Request, TheVariants.{Floods, Import, Propose}}}, rows.{BandRow.{BandRow}, CellRow.{CellRow}, ChangeEntry.{ChangeEntry}}}
use Rattle.plant_model.specs.declared.rows.{ChangeTopic.{ChangeTopic, TheVariants.{Matrix as MatrixTopic}}, Key.TheVariants.{Grant as GrantKey}}
use Rattle.plant_model.specs.declared.rows.{Row.TheVariants.{Event as EventPut, Unit as UnitPut}, RowEdit.{RowEdit, TheVariants.{Put, PutEvents, Remove}}}
use Rattle.plant_alarm.specs.declared.event.Event.{Event}
use Rattle.plant_books.specs.{Changing.{is_event_put, puts_event}, Contents.{without_events, without_reviews}}
use Rattle.plant_ration.specs.declared.change.ChangeKind.{ChangeKind, TheVariants.{Limit, Matrix, Rationale}}
use Rattle.plant_types.specs.Names.{Name}

-- ---- what is selected of a unit's rows does not depend on its events

topic_without : (rows : UnitRows) (tag : Option Name) (k : ChangeTopic) → of_topic (without_events rows) tag k ≡ of_topic rows tag k
topic_without rows tag MatrixTopic = refl
topic_without rows _ _ = refl

approved_without : (rows : UnitRows) (n : ℕ) (o : Option ChangeEntry) → of_approved (without_events rows) n o ≡ of_approved rows n o
approved_without rows n None = refl
approved_without rows n (Some c) = ap (with_number n) (topic_without rows c.tag c.kind_no)

selection_without : (rows : UnitRows) (s : Scope) → selection (without_events rows) s ≡ selection rows s
selection_without rows (Approval n) = approved_without rows n (change_found rows n)
selection_without rows _ = refl

-- ---- of events nothing is selected for a request that does not look at them

no_topic_events : (rows : UnitRows) (tag : Option Name) (k : ChangeTopic) (es : List Event) → (of_topic rows tag k).events es ≡ []
no_topic_events rows tag MatrixTopic es = refl
no_topic_events rows None _ es = refl
no_topic_events rows _ _ es = refl

no_approved_events : (rows : UnitRows) (n : ℕ) (o : Option ChangeEntry) (es : List Event) → (of_approved rows n o).events es ≡ []
no_approved_events rows n None es = refl
no_approved_events rows n (Some c) es = no_topic_events rows c.tag c.kind_no es

none_in : (rows : UnitRows) (s : Scope) (es : List Event) → has_events s ≡ false → (selection rows s).events es ≡ []
none_in rows (File rs) es none = absurd (let no : true ≡ false = none in cc)
none_in rows AllEvents es none = absurd (let no : true ≡ false = none in cc)
none_in rows (Approval n) es none = no_approved_events rows n (change_found rows n) es
none_in rows _ es none = refl

pub none_asked : (rows : UnitRows) (q : Request) (es : List Event) → looks_at_events q ≡ false → (selected rows q).events es ≡ []
none_asked rows q es none = none_in rows (scope_of q) es none

counted_without : (q : Request) (rows : UnitRows) → looks_at_events q ≡ false → counted_for (without_events rows) q ≡ counted_for rows q
counted_without (Import u file) rows none = absurd (let no : true ≡ false = none in cc)
counted_without (Floods u begin until) rows none = absurd (let no : true ≡ false = none in cc)
counted_without _ rows none = refl

holders_part_without : (c : Call) (rows : UnitRows) → looks_at_events c.request ≡ false
    → part_of_holder c (without_events rows) ≡ part_of_holder c rows
holders_part_without c rows none =
    let q = c.request in
    let nothing = none_asked rows q [] none ∙ sym (none_asked rows q rows.events none) in
    let chosen : rows_selected c.person (selected (without_events rows) q) (without_events rows) ≡ rows_selected c.person (selected rows q) rows =
    ap (λ s. rows_selected c.person s (without_events rows)) (selection_without rows (scope_of q))
    ∙ ap (λ es. record (rows_selected c.person (selected rows q) rows) { events = es }) nothing in
    λ i. record { rows = chosen i; count = counted_without q rows none i; held = true }

-- the part of a call that does not look at events
pub part_without : (c : Call) (rows : UnitRows) → looks_at_events c.request ≡ false → part_of c (without_events rows) ≡ part_of c rows
part_without c rows none =
    ap (λ part. cond (holds_by rows.grants c.moment c.person) part (part_of_stranger c rows)) (holders_part_without c rows none)

-- ---- changes that put no event

put_no_event : (c : RowEdit) (rows : UnitRows) → is_event_put c ≡ false → changed c (without_events rows) ≡ without_events (changed c rows)
put_no_event (Put (EventPut e)) rows none = absurd (let no : true ≡ false = none in cc)
put_no_event (PutEvents es) rows none = absurd (let no : true ≡ false = none in cc)
put_no_event (Remove (GrantKey p r)) rows none = refl
put_no_event _ rows none = refl

pub changed_without : (cs : List RowEdit) (rows : UnitRows) → puts_event cs ≡ false
    → changed_by cs (without_events rows) ≡ without_events (changed_by cs rows)
changed_without [] rows none = refl
changed_without (c ∷ cs) rows none =
    elim (is_event_put c) as (λ b. is_event_put c ≡ b → (b || puts_event cs) ≡ false
    → changed_by (c ∷ cs) (without_events rows) ≡ without_events (changed_by (c ∷ cs) rows)) [
      | true ↦ λ is no. absurd (let wrong : true ≡ false = no in cc)
      | false ↦ λ is no. ap (changed_by cs) (put_no_event c rows is) ∙ changed_without cs (changed c rows) no
    ] refl none

-- ---- the same of what was reviewed: nothing of it is selected for a request that does not look at it

is_unreviewed : (rows : UnitRows) (s : Scope) → has_reviews s ≡ false
    → (selection (without_reviews rows) s ≡ selection rows s) × ((n : ℕ) → (selection rows s).matrix n ≡ false)
    × ((n : ℕ) → (selection rows s).change n ≡ false)
is_unreviewed rows (OneRecord a) unseen = absurd (let wrong : true ≡ false = unseen in cc)
is_unreviewed rows (OneChange n) unseen = absurd (let wrong : true ≡ false = unseen in cc)
is_unreviewed rows (Approval n) unseen = absurd (let wrong : true ≡ false = unseen in cc)
is_unreviewed rows (Content a) unseen = absurd (let wrong : true ≡ false = unseen in cc)
is_unreviewed rows AllRecords unseen = absurd (let wrong : true ≡ false = unseen in cc)
is_unreviewed rows _ unseen = (refl, λ n. refl, λ n. refl)

counted_unreviewed : (q : Request) (rows : UnitRows) → looks_at_reviews q ≡ false
    → counted_for (without_reviews rows) q ≡ counted_for rows q
counted_unreviewed (Propose u x) rows unseen = absurd (by x.kind unseen)
  where
    by : (k : ChangeKind) → has_reviews (scope_of_proposal k) ≡ false → ⊥
    by (Rationale a s) unseen = let wrong : true ≡ false = unseen in cc
    by (Matrix m) unseen = let wrong : true ≡ false = unseen in cc
    by (Limit a max) unseen = let wrong : true ≡ false = unseen in cc
counted_unreviewed _ rows unseen = refl

none_kept : {X : Type 0} (test : X → Bool) → ((x : X) → test x ≡ false) → (xs : List X) → [] ≡ filter test xs
none_kept test unseen [] = refl
none_kept test unseen (x ∷ xs) = none_kept test unseen xs ∙ ap (λ b. cond b (x ∷ filter test xs) (filter test xs)) (sym (unseen x))

holders_part_unreviewed : (c : Call) (rows : UnitRows) → looks_at_reviews c.request ≡ false
    → part_of_holder c (without_reviews rows) ≡ part_of_holder c rows
holders_part_unreviewed c rows unseen =
    let q = c.request in
    let is = is_unreviewed rows (scope_of q) unseen in
    let s = selected rows q in
    let bands = none_kept (λ (r : BandRow). s.matrix r.matrix_no) (λ r. is.1 r.matrix_no) rows.bands in
    let cells = none_kept (λ (r : CellRow). s.matrix r.matrix_no) (λ r. is.1 r.matrix_no) rows.cells in
    let changes = none_kept (λ (r : ChangeEntry). s.change r.number) (λ r. is.2 r.number) rows.changes in
    let chosen : rows_selected c.person (selected (without_reviews rows) q) (without_reviews rows) ≡ rows_selected c.person s rows =
    ap (λ t. rows_selected c.person t (without_reviews rows)) is.0
    ∙ (λ i. record (rows_selected c.person s rows) { bands = bands i; cells = cells i; changes = changes i }) in
    λ i. record { rows = chosen i; count = counted_unreviewed q rows unseen i; held = true }

-- the part of a call that does not look at what was reviewed
pub part_unreviewed : (c : Call) (rows : UnitRows) → looks_at_reviews c.request ≡ false
    → part_of c (without_reviews rows) ≡ part_of c rows
part_unreviewed c rows unseen =
    ap (λ part. cond (holds_by rows.grants c.moment c.person) part (part_of_stranger c rows)) (holders_part_unreviewed c rows unseen)

-- ---- what changes make of the rest does not depend on what was reviewed

put_unreviewed : (c : RowEdit) (rows : UnitRows)
    → without_reviews (changed c (without_reviews rows)) ≡ without_reviews (changed c rows)
put_unreviewed (Put (UnitPut r)) rows = refl
put_unreviewed (Remove (GrantKey p r)) rows = refl
put_unreviewed _ rows = refl

pub changed_unreviewed : (cs : List RowEdit) (rows : UnitRows)
    → without_reviews (changed_by cs (without_reviews rows)) ≡ without_reviews (changed_by cs rows)
changed_unreviewed [] rows = refl
changed_unreviewed (c ∷ cs) rows =
    sym (changed_unreviewed cs (changed c (without_reviews rows)))
    ∙ ap (λ r. without_reviews (changed_by cs r)) (put_unreviewed c rows)
    ∙ changed_unreviewed cs (changed c rows)
