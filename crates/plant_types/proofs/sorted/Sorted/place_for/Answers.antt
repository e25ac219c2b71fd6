use Rattle.std.{specs.Option.{is_some}, proofs.Common.{ap, arith, drop, insert, length, refl, slice_set, subst, sym, true, ◌<◌, ◌≡◌, ◌∙◌, is_eq}}
use Rattle.std.proofs.{Math.Seq.{drop-length}, lemmas.{Bool.{ltb-false, ltb-true}}}
use Rattle.plant_types.proofs.public.PlaceLaws.{Parts, comes_after, other_after, put_before, put_behind, put_over}
use Rattle.plant_types.{specs.KeyedRows.{IsPlace, put_row}, proofs.public.{KeyedRowLaws.{tied}}}
use Rattle.plant_types.proofs.sorted.Sorted.place_for.Goals as goal

pub returns-in-Some : goal.returns-in-Some
returns-in-Some g c =
    let R = g.T.Keyed.order in
    let key = g.T.Keyed.key in
    let total = g.met.T.Keyed.total in
    let row = c.args.row.now in
    let p = c.place_from-place.result in
    let rows = c.as_slice.result.now in
    let is = c.as_slice.ensures.value in
    let parts : Parts R key total row rows p = subst (λ l. IsPlace R key (key row) l p) (sym is) c.place_from-place.ensures.place in
    let within : p < length rows = ltb-true p (length rows) (sym c.in-Some.ensures.lookup.0) in
    let same = tied _ true (ap is_eq (sym c.row_cmp.ensures) ∙ sym c.is_eq.ensures ∙ c.if-is_eq.true) refl in
    subst (λ l. slice_set l p row ≡ put_row R key row l) is
    (put_over R key row c.in-Some.other.now rows p within c.in-Some.ensures.lookup.1 same (comes_after R key total row rows p parts))

pub returns-in_default : goal.returns-in_default
returns-in_default g c =
    let R = g.T.Keyed.order in
    let key = g.T.Keyed.key in
    let total = g.met.T.Keyed.total in
    let row = c.args.row.now in
    let p = c.place_from-place.result in
    let rows = c.as_slice.result.now in
    let is = c.as_slice.ensures.value in
    let parts : Parts R key total row rows p = subst (λ l. IsPlace R key (key row) l p) (sym is) c.place_from-place.ensures.place in
    let within : p < length rows = ltb-true p (length rows) (sym c.in-Some.ensures.lookup.0) in
    let other = ap is_eq (sym c.row_cmp.ensures) ∙ sym c.is_eq.ensures ∙ c.if-is_eq.false in
    subst (λ l. insert l p row ≡ put_row R key row l) is
    (put_before R key row c.in-Some.other.now rows p within c.in-Some.ensures.lookup.1
    (other_after R key total row c.in-Some.other.now rows p parts within c.in-Some.ensures.lookup.1 other) (comes_after R key total row rows p parts))

pub returns-in_default-2 : goal.returns-in_default-2
returns-in_default-2 g c =
    let R = g.T.Keyed.order in
    let key = g.T.Keyed.key in
    let total = g.met.T.Keyed.total in
    let row = c.args.row.now in
    let p = c.place_from-place.result in
    let rows = c.as_slice.result.now in
    let is = c.as_slice.ensures.value in
    let parts : Parts R key total row rows p = subst (λ l. IsPlace R key (key row) l p) (sym is) c.place_from-place.ensures.place in
    let past = ltb-false p (length rows) (sym c.get.ensures.lookup.0 ∙ ap is_some c.in_default.is) in
    let bound = c.place_from-place.ensures.bound in
    let at : p ≡ length rows = omega (arith, past, bound, ap length is) in
    subst (λ l. insert l p row ≡ put_row R key row l) is
    (put_behind R key row rows p (ap (λ n. drop n rows) at ∙ drop-length rows) (comes_after R key total row rows p parts))
