-- Books that hold the rows of a world, and what a call does to them.
use Rattle.std.specs.{FinMap.{contains_key, get, get-insert, keys, Entries.{find as found}}, List.{cons_option}}
use Rattle.std.proofs.Common.{true≢false, ap, arith, inl, inr, refl, subst, sym, ◌++◌, ◌∙◌, flat_map, Bool, Err, IfOk, IfSome, IsErrAnd, List, None, Ok, OnErr, OnOk, Option, Result, Some, [], cond, false, filter_map, ◌⊎◌, fold, if◌then◌else◌, is_ok, is_some, map, max, nat_lt, not, option_and_then, option_map, true, unwrap_or, ℕ, ◌<◌, ◌∷◌, ◌≡◌, ◌≤◌}
use Rattle.std.proofs.lemmas.{Bool.Decides.{nat_tests}, List.Elements.{filter_map-append}, Simd.{map-map}}
use Rattle.plant_model.specs.{Calls.{reply}, Facts.{facts, returned}, Grants.{held, holds_any, roles_held}, Histories.{last_moment}}
use Rattle.plant_model.specs.{Legality.{has_matrix}, Replies.{line_of, shelf_lines}}
use Rattle.plant_model.specs.steps.Parts.{part_of, part_of_holder, part_of_stranger}
use Rattle.plant_model.specs.Rows.{alarm_rows, rows_of, shelf_rows}
use Rattle.plant_model.specs.steps.{RowChanges.{changed_by, no_rows}, RowFacts.{holds_by, last_return_in}}
use Rattle.plant_model.specs.{Shelves.{shelf_left}, Verdicts.{changes_history, is_opening, is_read, verdict}, Views.{view}}
use Rattle.plant_model.specs.Worlds.{IsLegalWorld, World, answer, answer_at, answer_of_units, by_admin, greatest_last, history, is_taken, mine_line, mine_lines, next, next_at, opening, reply_of_units, unit_lines, unit_named, unit_seen, units_held, with_call}
use Rattle.plant_model.specs.declared.{call.{Call.{Call}, Request.{Request, TheVariants.{MyShelves, MyUnits, OpenUnit}}}, reply.Answer.{Answer}}
use Rattle.plant_model.specs.declared.reply.{Answer.TheVariants.{Fault as Faulted, Refused as WasRefused, Reply as Replied}, MineLine.{MineLine}}
use Rattle.plant_model.specs.declared.reply.{Refused.{Refused, TheVariants.{MomentBehind, NotGranted}}, Reply.{Reply, TheVariants.{Mine, Units}}}
use Rattle.plant_model.specs.declared.{reply.UnitLine.{UnitLine}, rows.{AlarmRow.{AlarmRow}, RowEdit.{RowEdit}, UnitPart.{UnitPart}}}
use Rattle.plant_model.specs.declared.rows.{UnitRows.{UnitRows}, Verdict.{Verdict, TheVariants.{Accepted as IsAccepted, Refused as IsRefused}}}
use Rattle.plant_model.proofs.public.{FactLaws.{alarm_in}, HeldLaws.{any_of_rows, roles_of_rows}, ReadLaws.{filter_map-map}}
use Rattle.plant_model.proofs.public.LegalLaws.{next_legal, own_units_after, same_unit, there_of_held}
use Rattle.plant_model.proofs.public.WorldLaws.{Said, equal_views, not_granted, refused_changes, same_keys, same_seen, view_alike}
use Rattle.plant_books.specs.Contents.{Content, IsKnownTo, after_changes, mine_row, mine_shelves, mine_unit, mine_units, part_in, rows_in, shelves_mine, with_rows}
use Rattle.plant_books.specs.{Counting.{Counts, CountsFault}, declared.books.{Books.{Ghosts}, MineRow.{MineRow}, MineUnit.{MineUnit}}}
use Rattle.plant_types.{specs.{Names.{Name, same_name}, Options.{when}, declared.fault.Fault.{Fault}}, proofs.public.Halves.{left}}
use Rattle.plant_types.proofs.public.Orders.{name_total}
use Rattle.plant_alarm.specs.Shelves.{shelf_state}
use Rattle.plant_office.specs.{Answers.{CountsAnswer, IfSaid, OnFault, answer_as, reply_or_fault}, Lines.{line_of_mine, line_of_shelf}, Runs.{IsAlike}}
use Rattle.plant_office.specs.{Enduring.{HoldsWorld, Endures, IsUnmade, books_state}, Outcomes.{confirms}, Served.{Holds, IsIsolated, IsOwnUnit, IsServed}, Serves.{OnlyAsks, Serves}}
use Rattle.plant_office.proofs.public.Enduring.{holds_alike}
use Rattle.plant_books.specs.Crashes.{LosesNoPart, LosesNothing}
use Rattle.plant_unit.specs.Judged.{IsOpening, IsPartOf, IsVerdictOn}

-- a call was answered as the world answers it, and these contents hold the rows of the world after it
pub record IsAnswered (w : World) (c : Call) (a : Said) (left : Content → Type 0) : Type 0 where
  pub answered : a ≡ answer w c
  pub after : Content
  pub left_it : left after
  pub holds : Holds after (next w c)

part_left : (w : World) (c : Call) (u : Name) (o : Option (List Call)) → IsLegalWorld w → get w.units u ≡ o
    → IsPartOf (option_map (part_of c) (option_map rows_of o)) (unwrap_or o []) c
part_left w c u None legal is = refl
part_left w c u (Some h) legal is = (refl, legal u h is)

-- the part that the books give of a unit is that of the rows that its history leaves
held_part : (b : Content) (w : World) (c : Call) (u : Name) → IsLegalWorld w → Holds b w → IsPartOf (part_in b c u) (history w u) c
held_part b w c u legal h =
    subst (λ o. IsPartOf (option_map (part_of c) o) (history w u) c) (sym (h.rows u)) (part_left w c u (get w.units u) legal refl)

-- the rows of a unit, whether it exists or not
rows_told : (b : Content) (w : World) (u : Name) (o : Option (List Call)) → Holds b w → get w.units u ≡ o
    → rows_in b u ≡ unwrap_or (option_map rows_of o) no_rows
rows_told b w u o holds is = ap (λ o. unwrap_or o no_rows) (holds.rows u ∙ ap (option_map rows_of) is)

-- a unit that accepts a change exists
there_of_accepted : (w : World) (c : Call) (u : Name) → changes_history (verdict (history w u) c) c ≡ true → get w.units u ≡ Some (history w u)
there_of_accepted w c u changing =
    elim (holds_any (history w u) c.moment c.person) as (λ b. holds_any (history w u) c.moment c.person ≡ b → get w.units u ≡ Some (history w u)) [
      | true ↦ λ holds. there_of_held w c.moment c.person u holds
      | false ↦ λ none. absurd (refused_changes (verdict (history w u) c) c NotGranted (not_granted (history w u) c none) changing)
    ] refl

is_some-map : (o : Option (List Call)) → is_some (option_map rows_of o) ≡ is_some o
is_some-map None = refl
is_some-map (Some h) = refl

held_taken : (b : Content) (w : World) (u : Name) → Holds b w → contains_key b.units u ≡ is_taken w u
held_taken b w u h = ap is_some (h.rows u) ∙ is_some-map (get w.units u)

kept : (b : Content) (w : World) (c : Call) (u : Name) (a : Said) → Holds b w → answer_at w c (Some u) ≡ a → changes_history a c ≡ false
    → Holds b (next_at w c (Some u))
kept b w c u a h is plain = subst (λ x. Holds b (if x then with_call w c u else w)) (sym (ap (λ x. changes_history x c) is ∙ plain)) h

put : (b : Content) (w : World) (c : Call) (u : Name) (a : Said) (rows : UnitRows) → Holds b w → answer_at w c (Some u) ≡ a
    → changes_history a c ≡ true → rows ≡ rows_of (c ∷ history w u) → Holds (with_rows b u rows) (next_at w c (Some u))
put b w c u a rows h is changing left =
    subst (λ x. Holds (with_rows b u rows) (if x then with_call w c u else w)) (sym (ap (λ x. changes_history x c) is ∙ changing))
    (record {
      same_admin = h.same_admin;
      rows = λ q. get-insert name_total b.units u rows q
          ∙ elim (same_name q u) as (λ t. cond t (Some rows) (get b.units q)
          ≡ option_map rows_of (cond t (Some (c ∷ history w u)) (get w.units q))) [ true ↦ ap (λ r. Some r) left | false ↦ h.rows q ]
          ∙ sym (ap (option_map rows_of) (get-insert name_total w.units u (c ∷ history w u) q));
    })

served : (b : Content) (w : World) (c : Call) (u : Name) (a : Said) → unit_named c.request ≡ Some u → answer_at w c (Some u) ≡ a
    → Holds b (next_at w c (Some u)) → IsAnswered w c a (λ m. m ≡ b)
served b w c u a named is h =
    record {
      answered = sym (ap (answer_at w c) named ∙ is);
      after = b;
      left_it = refl;
      holds = subst (λ o. Holds b (next_at w c o)) (sym named) h;
    }

answer_told : (w : World) (c : Call) (u : Name) (opens : Bool) → is_opening c.request ≡ opens
    → answer_at w c (Some u) ≡ (if opens then opening (by_admin w c) (is_taken w u) else verdict (history w u) c)
answer_told w c u opens e = ap (λ x. if x then opening (by_admin w c) (is_taken w u) else verdict (history w u) c) e

-- a call that is not an opening, on a unit that may or may not exist
pub refused_call : (b : Content) (w : World) (c : Call) (u : Name) (r : Refused) → Holds b w → unit_named c.request ≡ Some u
    → is_opening c.request ≡ false → IsVerdictOn (history w u) c (IsRefused r) → IsAnswered w c (Err r) (λ m. m ≡ b)
refused_call b w c u r h named plain v =
    let is : answer_at w c (Some u) ≡ Err r = answer_told w c u false plain ∙ sym v.answer in
    served b w c u (Err r) named is (kept b w c u (Err r) h is refl)

pub read_call : (b : Content) (w : World) (c : Call) (u : Name) (reply : Reply) (cs : List RowEdit) → Holds b w → unit_named c.request ≡ Some u
    → is_opening c.request ≡ false → is_read c.request ≡ true → IsVerdictOn (history w u) c (IsAccepted reply cs)
    → IsAnswered w c (Ok reply) (λ m. m ≡ b)
read_call b w c u reply cs h named plain read v =
    let is : answer_at w c (Some u) ≡ Ok reply = answer_told w c u false plain ∙ sym v.answer in
    served b w c u (Ok reply) named is (kept b w c u (Ok reply) h is (ap not read))

pub changing_call : (b : Content) (w : World) (c : Call) (u : Name) (reply : Reply) (cs : List RowEdit) → Holds b w → unit_named c.request ≡ Some u
    → is_opening c.request ≡ false → is_read c.request ≡ false → IsVerdictOn (history w u) c (IsAccepted reply cs)
    → IsAnswered w c (Ok reply) (λ m. m ≡ after_changes b u cs)
changing_call b w c u reply cs h named plain read v =
    let is : answer_at w c (Some u) ≡ Ok reply = answer_told w c u false plain ∙ sym v.answer in
    let changing : changes_history (Ok reply) c ≡ true = ap not read in
    let accepted : changes_history (verdict (history w u) c) c ≡ true = ap (λ x. changes_history x c) (sym v.answer) ∙ changing in
    let there = there_of_accepted w c u accepted in
    let left = ap (changed_by cs) (rows_told b w u (Some (history w u)) h there) ∙ v.changes
    ∙ ap (λ x. rows_of (if x then c ∷ history w u else history w u)) accepted in
    served _ w c u (Ok reply) named is (put b w c u (Ok reply) _ h is changing left)

-- a reply to a call that is no read changes a history
changing_reply : (reply : Reply) (c : Call) (A : Type 0) → is_read c.request ≡ false → changes_history (Ok reply) c ≡ false → A
changing_reply reply c A plain still = absurd (true≢false (sym (ap not plain) ∙ still))

-- an opening
pub refused_opening : (b : Content) (w : World) (c : Call) (u : Name) (r : Refused) → Holds b w → unit_named c.request ≡ Some u
    → is_opening c.request ≡ true → IsOpening (by_admin w c) (is_taken w u) c (IsRefused r) → IsAnswered w c (Err r) (λ m. m ≡ b)
refused_opening b w c u r h named opens v =
    let is : answer_at w c (Some u) ≡ Err r = answer_told w c u true opens ∙ sym v.answer in
    served b w c u (Err r) named is (kept b w c u (Err r) h is refl)

taken_of : (admin taken : Bool) → is_ok (opening admin taken) ≡ true → taken ≡ false
taken_of true true e = cc
taken_of true false e = refl
taken_of false taken e = cc

not_there : (w : World) (u : Name) → is_taken w u ≡ false → get w.units u ≡ None
not_there w u = elim (get w.units u) as (λ o. is_some o ≡ false → o ≡ None) [ None ↦ λ h. refl | Some h ↦ λ e. cc ]

pub opening_changes : (q : Request) → is_opening q ≡ true → is_read q ≡ false
opening_changes (OpenUnit u s m q) e = refl
opening_changes _ e = cc

pub accepted_opening : (b : Content) (w : World) (c : Call) (u : Name) (reply : Reply) (cs : List RowEdit) → Holds b w → unit_named c.request ≡ Some u
    → is_opening c.request ≡ true → IsOpening (by_admin w c) (is_taken w u) c (IsAccepted reply cs)
    → IsAnswered w c (Ok reply) (λ m. m ≡ after_changes b u cs)
accepted_opening b w c u reply cs h named opens v =
    let is : answer_at w c (Some u) ≡ Ok reply = answer_told w c u true opens ∙ sym v.answer in
    let changing : changes_history (Ok reply) c ≡ true = ap not (opening_changes c.request opens) in
    let okay : is_ok (opening (by_admin w c) (is_taken w u)) ≡ true = ap is_ok (sym v.answer) in
    let none : get w.units u ≡ None = not_there w u (taken_of (by_admin w c) (is_taken w u) okay) in
    let left = ap (changed_by cs) (rows_told b w u None h none) ∙ v.changes okay ∙ ap (λ o. rows_of (c ∷ unwrap_or o [])) (sym none) in
    served _ w c u (Ok reply) named is (put b w c u (Ok reply) _ h is changing left)

-- what the office makes of the keeper's answers
pub opening_of : (b : Content) (w : World) (c : Call) (u admin : Name) (taken : Bool) (v : Verdict) → Holds b w → admin ≡ b.admin
    → taken ≡ contains_key b.units u → IsOpening (same_name c.person admin) taken c v → IsOpening (by_admin w c) (is_taken w u) c v
opening_of b w c u admin taken v h a t o =
    subst (λ x. IsOpening x (is_taken w u) c v) (ap (same_name c.person) (a ∙ h.same_admin))
    (subst (λ x. IsOpening (same_name c.person admin) x c v) (t ∙ held_taken b w u h) o)

-- the verdict on the part that the books gave is that on the unit's history
pub on_history : (b : Content) (w : World) (c : Call) (u : Name) (o p : Option UnitPart) (v x : Verdict) → IsLegalWorld w → Holds b w
    → o ≡ part_in b c u → p ≡ o → ((h : List Call) → IsPartOf p h c → IsVerdictOn h c v) → v ≡ x → IsVerdictOn (history w u) c x
on_history b w c u o p v x legal h found same verdicts is =
    subst (IsVerdictOn (history w u) c) is
    (verdicts (history w u) (subst (λ y. IsPartOf y (history w u) c) (sym (same ∙ found)) (held_part b w c u legal h)))

-- the headline: what was answered and left is what any other world that looks the same to the caller would give
own_units : (w v : World) (c : Call) (u : Name) → w.admin ≡ v.admin → view c.moment c.person w ≡ view c.moment c.person v → IsOwnUnit v c u
    → get (next w c).units u ≡ get (next v c).units u
own_units w v c u admin e (inl before) = own_units_after w v c u (view_alike c.moment c.person w v admin e) before
own_units w v c u admin e (inr held) =
    same_unit c.moment c.person (next w c)
    (next v c) u (same_seen (next w c) (next v c) c.moment c.person (ap (λ x. x.0) (equal_views w v c admin e).1) u) held

pub isolated : (w v : World) (c : Call) (a : Said) (left : Content → Type 0) → IsServed w c a left → w.admin ≡ v.admin
    → view c.moment c.person w ≡ view c.moment c.person v → IsIsolated v c a left
isolated w v c a left s admin e =
    record {
      answered = s.answered ∙ (equal_views w v c admin e).0;
      after = s.after;
      left_it = s.left_it;
      rows = λ u own. s.holds.rows u ∙ ap (option_map rows_of) (own_units w v c u admin e own);
    }

pub isolated_if : (w v : World) (c : Call) (a : Answer) (left : Content → Type 0) → IfSaid a (λ x. IsServed w c x left) → w.admin ≡ v.admin
    → view c.moment c.person w ≡ view c.moment c.person v → IfSaid a (λ x. IsIsolated v c x left)
isolated_if w v c (Replied r) left s admin e = isolated w v c (Ok r) left s admin e
isolated_if w v c (WasRefused r) left s admin e = isolated w v c (Err r) left s admin e
isolated_if w v c (Faulted f) left s admin e = tt

-- each call of a run is alike in any other world that looks the same to the caller
pub alike_if : (w : World) (c : Call) (a : Answer) → IfSaid a (λ x. x ≡ answer w c) → IsAlike w c a
alike_if w c (Replied r) is = record { alike = λ v admin e. (is ∙ (equal_views w v c admin e).0, λ u own. own_units w v c u admin e own) }
alike_if w c (WasRefused r) is = record { alike = λ v admin e. (is ∙ (equal_views w v c admin e).0, λ u own. own_units w v c u admin e own) }
alike_if w c (Faulted f) is = record { alike = λ v admin e. tt }

-- the keeper holds the content that the call left
pub leaves : (w : World) (c : Call) (a : Said) (b : Content) (left : Content → Type 0) → IsLegalWorld w → has_matrix c.request ≡ true
    → IsAnswered w c a (λ m. m ≡ b) → left b → IsServed w c a left
leaves w c a b left legal matrix s h =
    record { answered = s.answered; after = s.after; left_it = subst left (sym s.left_it) h; holds = s.holds; legal = next_legal w c legal matrix }

-- a unit that accepts a change exists, so any changes may be made to its rows
pub known_call : (b : Content) (w : World) (c : Call) (u : Name) (reply : Reply) (cs left : List RowEdit) → Holds b w → is_read c.request ≡ false
    → IsVerdictOn (history w u) c (IsAccepted reply cs) → IsKnownTo b u left
known_call b w c u reply cs left h read v =
    let accepted : changes_history (verdict (history w u) c) c ≡ true = ap (λ x. changes_history x c) (sym v.answer) ∙ ap not read in
    inl (held_taken b w u h ∙ ap is_some (there_of_accepted w c u accepted))

-- each part of a unit's rows has its own row
units_in_part : (c : Call) (rows : UnitRows) → rows.units ≡ (part_of c rows).rows.units
units_in_part c rows =
    elim (holds_by rows.grants c.moment c.person) as (λ b. rows.units
    ≡ (if b then part_of_holder c rows else part_of_stranger c rows).rows.units) [ true ↦ refl | false ↦ refl ]

units_in_some_part : (c : Call) (o : Option UnitRows) → IfSome (option_map (part_of c) o) (λ p. (unwrap_or o no_rows).units ≡ p.rows.units)
units_in_some_part c None = tt
units_in_some_part c (Some rows) = units_in_part c rows

-- changes that come to the same in all rows with the unit's row that was seen come to the same in the books
pub same_changes : (b : Content) (c : Call) (u : Name) (part : Option UnitPart) (cs left : List RowEdit) → part ≡ part_in b c u
    → ((rows : UnitRows) → IfSome part (λ p. rows.units ≡ p.rows.units) → changed_by left rows ≡ changed_by cs rows)
    → after_changes b u left ≡ after_changes b u cs
same_changes b c u part cs left found same =
    ap (with_rows b u)
    (same (rows_in b u) (subst (λ o. IfSome o (λ p. (rows_in b u).units ≡ p.rows.units)) (sym found) (units_in_some_part c (get b.units u))))

-- the changes of an accepted opening put the unit's own row
pub known_opening : (b : Content) (w : World) (c : Call) (u : Name) (reply : Reply) (cs : List RowEdit)
    → IsOpening (by_admin w c) (is_taken w u) c (IsAccepted reply cs) → IsKnownTo b u cs
known_opening b w c u reply cs v = inr (v.puts (ap is_ok (sym v.answer)))

-- The units of a person
option_map-when : {A B : Type 0} (f : A → B) (b : Bool) (x : A) → when b (f x) ≡ option_map f (when b x)
option_map-when f true x = refl
option_map-when f false x = refl

filter_map-mapped : {A B C : Type 0} (f : B → C) (s : A → Option B) (xs : List A) → filter_map (λ x. option_map f (s x)) xs ≡ map f (filter_map s xs)
filter_map-mapped f s [] = refl
filter_map-mapped f s (x ∷ xs) =
    elim (s x) as (λ o. cons_option (option_map f o) (filter_map (λ x. option_map f (s x)) xs)
    ≡ map f (cons_option o (filter_map s xs))) [ None ↦ filter_map-mapped f s xs | Some y ↦ ap (λ ys. f y ∷ ys) (filter_map-mapped f s xs) ]

-- a unit of the person, as the history tells it
abbrev mine_of : ℕ → Name → Name × List Call → MineUnit
mine_of t p e = record { unit = e.0; roles = roles_held e.1 t p; last = last_moment e.1 }

one_mine : (t : ℕ) (p u : Name) (o : Option (List Call))
    → mine_unit t p u (option_map rows_of o) ≡ option_map (mine_of t p) (when (holds_any (unwrap_or o []) t p) (u, unwrap_or o []))
one_mine t p u None = refl
one_mine t p u (Some h) =
    (λ i. when (any_of_rows h t p i) (record { unit = u; roles = roles_of_rows h t p i; last = last_moment h }))
    ∙ option_map-when (mine_of t p) (holds_any h t p) (u, h)

mine_told : (b : Content) (w : World) (t : ℕ) (p : Name) → Holds b w → mine_units b t p ≡ map (mine_of t p) (units_held w t p)
mine_told b w t p h =
    (λ i. filter_map (λ u. mine_unit t p u (h.rows u i)) (same_keys b.units w.units (λ q. held_taken b w q h) i))
    ∙ (λ i. filter_map (λ u. one_mine t p u (get w.units u) i) (keys w.units))
    ∙ filter_map-mapped (mine_of t p) (unit_seen w t p) (keys w.units)

fold_max : (a b : ℕ) (xs : List ℕ) → fold max (max a b) xs ≡ max a (fold max b xs)
fold_max a b [] = refl
fold_max a b (x ∷ xs) = ap (λ n. fold max n xs) (let e : max (max a b) x ≡ max a (max b x) = omega arith in e) ∙ fold_max a (max b x) xs

latest_of : (t : ℕ) (xs : List ℕ) → fold max t xs ≡ max t (fold max 0 xs)
latest_of t xs = ap (λ n. fold max n xs) (let e : t ≡ max t 0 = omega arith in e) ∙ fold_max t 0 xs

lt_true : (a b : ℕ) → a < b → nat_lt a b ≡ true
lt_true a b h = grind (arith, nat_tests)

lt_false : (a b : ℕ) → b ≤ a → nat_lt a b ≡ false
lt_false a b h = grind (arith, nat_tests)

-- the latest of the call's moment and the last moments of the units
last_told : (t : ℕ) (p : Name) (us : List (Name × List Call)) (units : List MineUnit) (last : ℕ) → units ≡ map (mine_of t p) us
    → last ≡ fold max t (map (λ (u : MineUnit). u.last) units) → last ≡ max t (greatest_last us)
last_told t p us units last is e =
    e ∙ ap (λ xs. fold max t (map (λ (u : MineUnit). u.last) xs)) is ∙ ap (fold max t) (map-map (λ (u : MineUnit). u.last) (mine_of t p) us)
    ∙ latest_of t (map (λ e. last_moment e.1) us)

answered_of_units : (b : Content) (w : World) (c : Call) (a : Said) → Holds b w → unit_named c.request ≡ None
    → a ≡ answer_of_units (units_held w c.moment c.person) c → IsAnswered w c a (λ m. m ≡ b)
answered_of_units b w c a h named is =
    record { answered = is ∙ sym (ap (answer_at w c) named); after = b; left_it = refl; holds = subst (λ o. Holds b (next_at w c o)) (sym named) h }

units_behind : (us : List (Name × List Call)) (c : Call) (last : ℕ) → last ≡ max c.moment (greatest_last us) → c.moment < last
    → Err (MomentBehind last) ≡ answer_of_units us c
units_behind us c last e lt =
    let is : last ≡ greatest_last us = omega (arith, e, lt) in
    let less : c.moment < greatest_last us = omega (arith, e, lt) in
    ap (λ x. Err (MomentBehind x)) is
    ∙ sym (ap (λ b. if b then
    Err (MomentBehind (greatest_last us)) else Ok (reply_of_units us c c.request)) (lt_true c.moment (greatest_last us) less))

units_told : (us : List (Name × List Call)) (c : Call) (last : ℕ) (reply : Reply) → last ≡ max c.moment (greatest_last us)
    → reply ≡ reply_of_units us c c.request → last ≤ c.moment → Ok reply ≡ answer_of_units us c
units_told us c last reply e is le =
    let least : greatest_last us ≤ c.moment = omega (arith, e, le) in
    ap (λ x. Ok x) is
    ∙ sym (ap (λ b. if b then
    Err (MomentBehind (greatest_last us)) else Ok (reply_of_units us c c.request)) (lt_false c.moment (greatest_last us) least))

pub behind_units : (b : Content) (w : World) (c : Call) (units : List MineUnit) (last : ℕ) → Holds b w → unit_named c.request ≡ None
    → units ≡ mine_units b c.moment c.person → last ≡ fold max c.moment (map (λ (u : MineUnit). u.last) units) → c.moment < last
    → IsAnswered w c (Err (MomentBehind last)) (λ m. m ≡ b)
behind_units b w c units last h named is e lt =
    answered_of_units b w c _ h named
    (units_behind (units_held w c.moment c.person) c last (last_told c.moment c.person (units_held w c.moment c.person) units last (is
    ∙ mine_told b w c.moment c.person h) e) lt)

pub told_units : (b : Content) (w : World) (c : Call) (units : List MineUnit) (last : ℕ) (lines : List UnitLine) → Holds b w → c.request ≡ MyUnits
    → units ≡ mine_units b c.moment c.person → last ≡ fold max c.moment (map (λ (u : MineUnit). u.last) units) → lines ≡ map line_of_mine units
    → last ≤ c.moment → IsAnswered w c (Ok (Units lines)) (λ m. m ≡ b)
told_units b w c units last lines h asked is e l le =
    let us = units_held w c.moment c.person in
    let honest = is ∙ mine_told b w c.moment c.person h in
    let same : lines ≡ unit_lines c.moment c.person us = l ∙ ap (map line_of_mine) honest ∙ map-map line_of_mine (mine_of c.moment c.person) us in
    answered_of_units b w c _ h (ap unit_named asked)
    (units_told us c last (Units lines) (last_told c.moment c.person us units last honest e) (ap (λ x. Units x) same
    ∙ ap (reply_of_units us c) (sym asked)) le)

-- The shelves of a person
returned_in : (h : List Call) (a : Name) → last_return_in (alarm_rows h) a ≡ returned (facts h) a
returned_in h a = ap (option_and_then (λ (r : AlarmRow). r.return_s)) (alarm_in h a)

-- the shelves of a unit that is seen
abbrev shelves_of : Name × List Call → List MineRow
shelves_of e = map (mine_row e.0 (rows_of e.1)) (shelf_rows e.1)

abbrev seen_shelves : Option (Name × List Call) → List MineRow
seen_shelves None = []
seen_shelves (Some e) = shelves_of e

one_unit_shelves : (t : ℕ) (p u : Name) (o : Option (List Call))
    → shelves_mine t p u (option_map rows_of o) ≡ seen_shelves (when (holds_any (unwrap_or o []) t p) (u, unwrap_or o []))
one_unit_shelves t p u None = refl
one_unit_shelves t p u (Some h) =
    (λ i. if any_of_rows h t p i then shelves_of (u, h) else [])
    ∙ elim (holds_any h t p) as (λ b. (if b then shelves_of (u, h) else []) ≡ seen_shelves (when b (u, h))) [ true ↦ refl | false ↦ refl ]

flat_map-seen : {A : Type 0} (s : A → Option (Name × List Call)) (xs : List A)
    → flat_map (λ x. seen_shelves (s x)) xs ≡ flat_map shelves_of (filter_map s xs)
flat_map-seen s [] = refl
flat_map-seen s (x ∷ xs) =
    elim (s x) as (λ o. seen_shelves o
    ++ flat_map (λ x. seen_shelves (s x)) xs
    ≡ flat_map shelves_of (cons_option o (filter_map s xs))) [
      | None ↦ flat_map-seen s xs
      | Some e ↦ ap (λ ys. shelves_of e ++ ys)
          (flat_map-seen s xs)
    ]

shelves_told : (b : Content) (w : World) (t : ℕ) (p : Name) → Holds b w → mine_shelves b t p ≡ flat_map shelves_of (units_held w t p)
shelves_told b w t p h =
    (λ i. flat_map (λ u. shelves_mine t p u (h.rows u i)) (same_keys b.units w.units (λ q. held_taken b w q h) i))
    ∙ (λ i. flat_map (λ u. one_unit_shelves t p u (get w.units u) i) (keys w.units))
    ∙ flat_map-seen (unit_seen w t p) (keys w.units)

-- the lines of one unit's shelves
unit_shelf_lines : (t : ℕ) (u : Name) (h : List Call) → filter_map (line_of_shelf t) (shelves_of (u, h)) ≡ map (mine_line u) (shelf_lines (facts h) t)
unit_shelf_lines t u h =
    filter_map-map (line_of_shelf t) (mine_row u (rows_of h)) (shelf_rows h)
    ∙ (λ i. filter_map (λ s. option_map (mine_line u) (line_of s (shelf_state (shelf_left (Some s)) (returned_in h s.tag i) t))) (shelf_rows h))
    ∙ filter_map-mapped (mine_line u) (λ s. line_of s (shelf_state (shelf_left (Some s)) (returned (facts h) s.tag) t)) (shelf_rows h)

all_shelf_lines : (t : ℕ) (us : List (Name × List Call)) → filter_map (line_of_shelf t) (flat_map shelves_of us) ≡ mine_lines t us
all_shelf_lines t [] = refl
all_shelf_lines t (e ∷ us) =
    filter_map-append (line_of_shelf t) (shelves_of e) (flat_map shelves_of us)
    ∙ (λ i. unit_shelf_lines t e.0 e.1 i ++ all_shelf_lines t us i)

pub told_shelves : (b : Content) (w : World) (c : Call) (units : List MineUnit) (last : ℕ) (shelves : List MineRow) (lines : List MineLine)
    (person : Name) → Holds b w → c.request ≡ MyShelves → units ≡ mine_units b c.moment c.person
    → last ≡ fold max c.moment (map (λ (u : MineUnit). u.last) units) → shelves ≡ mine_shelves b c.moment c.person
    → lines ≡ filter_map (line_of_shelf c.moment) shelves → last ≤ c.moment → person ≡ c.person
    → IsAnswered w c (Ok (Mine person c.moment lines)) (λ m. m ≡ b)
told_shelves b w c units last shelves lines person h asked is e found l le copied =
    let us = units_held w c.moment c.person in
    let same : lines ≡ mine_lines c.moment us = l ∙ ap (filter_map (line_of_shelf c.moment)) (found ∙ shelves_told b w c.moment c.person h)
    ∙ all_shelf_lines c.moment us in
    answered_of_units b w c _ h (ap unit_named asked)
    (units_told us c last (Mine person c.moment lines) (last_told c.moment c.person us units last (is
    ∙ mine_told b w c.moment c.person h) e) ((λ i. Mine (copied i) c.moment (same i)) ∙ ap (reply_of_units us c) (sym asked)) le)

-- the content after the changes of a call that is accepted holds the world after it
pub holds_meant : (b : Content) (w : World) (c : Call) (u : Name) (reply : Reply) (cs left : List RowEdit) → IsLegalWorld w → Holds b w
    → has_matrix c.request ≡ true → unit_named c.request ≡ Some u → is_opening c.request ≡ false → is_read c.request ≡ false
    → IsVerdictOn (history w u) c (IsAccepted reply cs) → after_changes b u left ≡ after_changes b u cs → Holds (after_changes b u left) (next w c)
holds_meant b w c u reply cs left legal h matrix named plain changes v same =
    let s = leaves w c (Ok reply) (after_changes b u cs)
    (λ m. m ≡ after_changes b u cs) legal matrix (changing_call b w c u reply cs h named plain changes v) refl in
    subst (λ (m : Content). Holds m (next w c)) (s.left_it ∙ sym same) s.holds

pub holds_opened : (b : Content) (w : World) (c : Call) (u : Name) (reply : Reply) (cs : List RowEdit) → IsLegalWorld w → Holds b w
    → has_matrix c.request ≡ true → unit_named c.request ≡ Some u → is_opening c.request ≡ true
    → IsOpening (by_admin w c) (is_taken w u) c (IsAccepted reply cs) → Holds (after_changes b u cs) (next w c)
holds_opened b w c u reply cs legal h matrix named opens v =
    let s = leaves w c (Ok reply) (after_changes b u cs)
    (λ m. m ≡ after_changes b u cs) legal matrix (accepted_opening b w c u reply cs h named opens v) refl in
    subst (λ (m : Content). Holds m (next w c)) s.left_it s.holds

-- ---- what a crash leaves of a call

-- the books were only read
abbrev pub Loses : {B : Type 0} → Ghosts B → B → B → Type 0
Loses books before after = LosesNothing books.represents books.is_honest books.is_clean books.leaves_books books.may_leave before after

-- two questions, one after the other
pub asks_then : {B X Y : Type 0} {x : X} {y : Y} (books : Ghosts B) {before mid after : B} → OnlyAsks books before mid (Ok x)
    → OnlyAsks books mid after (Ok y) → OnlyAsks books before after (Ok y)
asks_then books one two = record {
  same = λ m held. two.same m (one.same m held);
  honest = λ h. one.honest (two.honest h);
  stays_open = λ was tidy. two.stays_open (λ mid. one.stays_open was mid) tidy;
  crash = record {
    clean = λ h. one.crash.clean (two.crash.clean h);
    fewer = λ h x l. one.crash.fewer (two.crash.clean h) x (two.crash.fewer h x l);
    sound = λ h s. two.crash.sound h (one.crash.sound (two.crash.clean h) s);
  };
  count = two.count ∙ one.count;
}

unmade_says : (c : Call) (a : Answer) → IsUnmade c a → confirms c a ≡ false
unmade_says c (Replied r) reads = ap not reads
unmade_says c (WasRefused r) none = refl
unmade_says c (Faulted f) none = absurd none

module _ {B : Type 0} (books : Ghosts B) (c : Call) where
  -- a call that asks, or is refused
  pub endures_unmade : (a : Answer) (before after : B) → IsUnmade c a → ((m : Content) → books.represents before m → books.represents after m)
      → Loses books before after → Endures c a (books_state books before) (books_state books after)
  endures_unmade a before after none same crash = record {
    clean = crash.clean;
    kept = λ _ told. absurd (true≢false (sym told ∙ unmade_says c a none));
    made = λ _ told. absurd (true≢false (sym told ∙ unmade_says c a none));
    unmade = λ _. same;
    each = λ tidy w of x l. inl (crash.fewer tidy x l);
    quiet = λ tidy _ x l. crash.fewer tidy x l;
    sound = λ tidy w of s. crash.sound tidy s;
  }

  -- a call that a read ended by a fault
  pub endures_fault : (f : Fault) (before after : B) → ((m : Content) → books.represents before m → books.represents after m)
      → Loses books before after → Endures c (Faulted f) (books_state books before) (books_state books after)
  endures_fault f before after same crash = record {
    clean = crash.clean;
    kept = λ _ told. absurd (true≢false (sym told));
    made = λ _ told. absurd (true≢false (sym told));
    unmade = λ _. same;
    each = λ tidy w of x l. inl (crash.fewer tidy x l);
    quiet = λ _ none. absurd none;
    sound = λ tidy w of s. crash.sound tidy s;
  }

-- the books were read, and then these changes of the unit were to be made, which are those of the call
pub record Makes {B : Type 0} (books : Ghosts B) (c : Call) (u : Name) (cs : List RowEdit) (before mid after : B) : Type 0 where
  pub read : Loses books before mid
  pub same : (m : Content) → books.represents before m → books.represents mid m
  pub writes : LosesNoPart books.represents books.is_honest books.is_clean books.leaves_books books.may_leave u cs mid after
  pub known : (m : Content) → books.represents before m → (w : World) → IsLegalWorld w → Holds m w → books.is_honest mid → IsKnownTo m u cs
  pub meant : (m : Content) → books.represents before m → (w : World) → IsLegalWorld w → Holds m w → books.is_honest mid
      → Holds (after_changes m u cs) (next w c)
  pub legal : (w : World) → IsLegalWorld w → IsLegalWorld (next w c)

module _ {B : Type 0} (books : Ghosts B) (c : Call) (u : Name) (cs : List RowEdit) (before mid after : B)
    (it : Makes books c u cs before mid after) where
  made_each : books.is_clean after → (w : World) → HoldsWorld w (books_state books before) → (x : Content) → books.may_leave after x
      → books.may_leave before x ⊎ (Holds x (next w c) × IsLegalWorld (next w c))
  made_each tidy w of x l = elim (it.writes.fewer tidy x l) [
    | inl was ↦ inl (it.read.fewer (it.writes.clean tidy) x was)
    | inr new ↦
        let m = of.content in
        inr (
          holds_alike x (after_changes m u cs) (next w c) (new.1 m (it.same m of.represents) (it.known m of.represents w of.legal of.holds new.0))
              (it.meant m of.represents w of.legal of.holds new.0),
          it.legal w of.legal,
        )
  ]

  made_sound : books.is_clean after → (w : World) → HoldsWorld w (books_state books before) → books.leaves_books before → books.leaves_books after
  made_sound tidy w of s =
      it.writes.sound tidy of.content (it.same of.content of.represents) (λ honest. it.known of.content of.represents w of.legal of.holds honest)
      (it.read.sound (it.writes.clean tidy) s)

  -- a call that was made
  pub endures_made : (reply : Reply) → is_read c.request ≡ false → (books.is_clean after → books.is_honest after)
      → ((m : Content) → books.represents before m → (w : World) → IsLegalWorld w → Holds m w → books.is_honest after
      → IsServed w c (Ok reply) (books.represents after))
      → Endures c (Replied reply) (books_state books before) (books_state books after)
  endures_made reply changes kept served = record {
    clean = λ tidy. it.read.clean (it.writes.clean tidy);
    kept = λ tidy _. kept tidy;
    made = λ honest _ w of.
        let s = served of.content of.represents w of.legal of.holds honest in
        record { content = s.after; represents = s.left_it; holds = s.holds; legal = s.legal };
    unmade = λ none. absurd (true≢false (sym (ap not changes) ∙ none));
    each = made_each;
    quiet = λ _ reads. absurd (true≢false (sym reads ∙ changes));
    sound = made_sound;
  }

  -- a call whose changes failed
  pub endures_failed : (f : Fault) → ((m : Content) → books.represents before m → books.represents after m)
      → Endures c (Faulted f) (books_state books before) (books_state books after)
  endures_failed f same = record {
    clean = λ tidy. it.read.clean (it.writes.clean tidy);
    kept = λ _ told. absurd (true≢false (sym told));
    made = λ _ told. absurd (true≢false (sym told));
    unmade = λ _. same;
    each = made_each;
    quiet = λ _ none. absurd none;
    sound = made_sound;
  }

-- a call whose answer leaves the books as they were
pub serves_same : {B : Type 0} {books : Ghosts B} {c : Call} {a : Said} {before after : B}
    → ((m : Content) → books.represents before m → (w : World) → IsLegalWorld w → Holds m w → books.is_honest after
    → IsServed w c a (books.represents after)) → {X : Type 0} {x : X} → OnlyAsks books before after (Ok x) → IsUnmade c (answer_as (Ok a))
    → Serves books c (Ok a) before after
serves_same {B} {books} {c} {a} {before} {after} served asks none =
    record {
      served = served;
      honest = asks.honest;
      stays_open = asks.stays_open;
      unchanged = λ m k _. asks.same m k;
      fault = λ _ _. tt;
      count = asks.count;
      endures = endures_unmade books c (answer_as (Ok a)) before after none asks.same asks.crash;
    }

-- a call whose reply changed the books
pub serves_changing : {B : Type 0} {books : Ghosts B} {c : Call} {reply : Reply} {before after : B}
    → ((m : Content) → books.represents before m → (w : World) → IsLegalWorld w → Holds m w → books.is_honest after
    → IsServed w c (Ok reply) (books.represents after)) → (books.is_honest after → books.is_honest before) → is_read c.request ≡ false
    → books.stores after ≡ books.stores before → {u : Name} {cs : List RowEdit} {mid : B} → Makes books c u cs before mid after
    → (books.is_clean after → books.is_honest after) → Serves books c (Ok (Ok reply)) before after
serves_changing {B} {books} {c} {reply} {before} {after} served honest changes count {u} {cs} {mid} makes kept =
    record {
      served = served;
      honest = honest;
      stays_open = λ _. kept;
      unchanged = λ m _ still. changing_reply reply c (books.represents after m) changes still;
      fault = λ _ _. tt;
      count = count;
      endures = endures_made books c u cs before mid after makes reply changes kept served;
    }

-- a call that a fault ended, after a read that left the count as it was
pub serves_fault : {B : Type 0} {books : Ghosts B} {c : Call} {before after : B} {n : ℕ} (said : Result Said Fault) (e : Fault)
    → IsErrAnd said (λ f. f ≡ e) → (books.is_honest after → books.is_honest before)
    → ((m : Content) → books.represents before m → books.represents after m) → n ≡ books.stores before → CountsFault n (books.stores after) e
    → {u : Name} {cs : List RowEdit} {mid : B} → Makes books c u cs before mid after → Serves books c said before after
serves_fault (Ok a) e is honest same read count makes = absurd is
serves_fault {B} {books} {c} {before} {after} {n} (Err f) e is honest same read count {u} {cs} {mid} makes =
    record {
      served = λ _ _ _ _ _ _. tt;
      honest = honest;
      stays_open = λ _ _. tt;
      unchanged = λ _ _. tt;
      fault = same;
      count = subst (λ k. CountsFault k (books.stores after) f) read (subst (CountsFault n (books.stores after)) (sym is) count);
      endures = endures_failed books c u cs before mid after makes f same;
    }

-- what holds of a reply if its changes were made, and else of the fault
pub by_outcome : {A : Type 0} (made : Result A Fault) (reply : Reply) (S : Result Said Fault → Type 0) (P : Result A Fault → Type 0) → P made
    → ((a : A) → P (Ok a) → S (Ok (Ok reply))) → ((e : Fault) → P (Err e) → S (Err e)) → S (reply_or_fault made reply)
by_outcome (Ok a) reply S P is ok err = ok a is
by_outcome (Err e) reply S P is ok err = err e is

-- ---- a call that is served after a question

module _ {B : Type 0} (books : Ghosts B) (c : Call) (a : Answer) (before mid after : B) (read : Loses books before mid)
    (same : (m : Content) → books.represents before m → books.represents mid m) where
  world_read : (w : World) → HoldsWorld w (books_state books before) → HoldsWorld w (books_state books mid)
  world_read w of = record { content = of.content; represents = same of.content of.represents; holds = of.holds; legal = of.legal }

  pub endures_read : Endures c a (books_state books mid) (books_state books after) → Endures c a (books_state books before) (books_state books after)
  endures_read it = record {
    clean = λ tidy. read.clean (it.clean tidy);
    kept = it.kept;
    made = λ honest told w of. it.made honest told w (world_read w of);
    unmade = λ none m k. it.unmade none m (same m k);
    each = λ tidy w of x l. elim (it.each tidy w (world_read w of) x l) [
      | inl was ↦ inl (read.fewer (it.clean tidy) x was)
      | inr new ↦ inr new
    ];
    quiet = λ tidy none x l. read.fewer (it.clean tidy) x (it.quiet tidy none x l);
    sound = λ tidy w of s. it.sound tidy w (world_read w of) (read.sound (it.clean tidy) s);
  }

pub serves_read : {B X : Type 0} {x : X} (books : Ghosts B) {c : Call} {said : Result Said Fault} {before mid after : B}
    → OnlyAsks books before mid (Ok x) → Serves books c said mid after → Serves books c said before after
serves_read books {c} {said} {before} {mid} {after} asks it = record {
  served = λ m k w legal h honest. it.served m (asks.same m k) w legal h honest;
  honest = λ honest. asks.honest (it.honest honest);
  stays_open = λ was tidy. it.stays_open (λ early. asks.stays_open was early) tidy;
  unchanged = λ m k. it.unchanged m (asks.same m k);
  fault = λ m k. it.fault m (asks.same m k);
  count = subst (λ n. Counts n (books.stores after) said) asks.count it.count;
  endures = endures_read books c (answer_as said) before mid after asks.crash asks.same it.endures;
}

-- what holds of a result if the store was open with it
pub if_open : (r : Result Said Fault) (Stands : Type 0) (P : Said → Type 0) → OnOk r Stands → (Stands → IfOk r P) → IfOk r P
if_open (Ok x) Stands P stands is = is stands
if_open (Err f) Stands P stands is = tt

-- the result of a call, as an answer
pub said_if : (r : Result Said Fault) (P : Said → Type 0) → IfOk r P → IfSaid (answer_as r) P
said_if (Ok (Ok x)) P is = is
said_if (Ok (Err x)) P is = is
said_if (Err f) P is = tt

pub fault_if : (r : Result Said Fault) (P : Type 0) → OnErr r P → OnFault (answer_as r) P
fault_if (Ok (Ok x)) P is = tt
fault_if (Ok (Err x)) P is = tt
fault_if (Err f) P is = is

pub counts_if : (old new : ℕ) (r : Result Said Fault) → Counts old new r → CountsAnswer old new (answer_as r)
counts_if old new (Ok (Ok x)) is = is
counts_if old new (Ok (Err x)) is = is
counts_if old new (Err f) is = is
