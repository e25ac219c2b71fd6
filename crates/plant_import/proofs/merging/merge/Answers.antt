use Rattle.std.proofs.Common.{◌∙◌, List, Ok, [], ap, arith, drop, length, length-append, map, refl, rules, subst, sym, ◌++◌, ◌∷◌, ◌≡◌, Bool, Result}
use Rattle.plant_import.specs.{Merging.{IsRising}, Relation.{JudgesRow}, declared.bad_file.Cause.{Cause}}
use Rattle.std.specs.{List.{list_any}, Option.{is_some}}
use Rattle.plant_types.{specs.Names.{same_name}, proofs.public.{NameKeys.{has_name}, SortedLaws.{some_copied}}}
use Rattle.plant_import.proofs.{BelowAll.{StandSo, stand_known, stand_nearest, stand_new, stand_none}, ByNumber.{put_in}}
use Rattle.plant_import.proofs.Merges.{so_none, so_new_at, so_known_at, so_fault_at, so_all}
use Rattle.plant_import.proofs.merging.merge.Goals.{else-is_new, then-is_new+in_ok-add}
use Rattle.plant_alarm.specs.declared.event.Event.{Event}
use Rattle.plant_import.proofs.merging.merge.Goals as goal

pub loop-i-init : goal.loop-i-init
loop-i-init g c =
    record {
      count = rw c.in_ok-fresh.ensures.none refl;
      so = λ rising. (
        [],
        rw c.in_ok-fresh.ensures.none (stand_none c.tree_for-rising.result c.args.file.now c.tree_for-rising.ensures),
        rw c.in_ok-fresh.ensures.none
            (so_none (map g.T.Keyed.key c.args.alarms.now) c.args.now c.args.kept.now),
      );
    }

pub returns-in-Err-clause-value : goal.returns-in-Err-clause-value
returns-in-Err-clause-value g c rising =
    let so = c.loop-i.invariant.so rising in
    let known : c.is_some-is_known.result ≡ list_any (same_name c.index-file-i.result.tag) (map g.T.Keyed.key c.args.alarms.now) =
    c.is_some-is_known.ensures ∙ some_copied c.get_next.result ∙ ap is_some c.get_next.ensures
    ∙ has_name g.T.Keyed.order g.T.Keyed.key g.met.T.Keyed.total g.met.T.Keyed.only c.index-file-i.result.tag c.args.alarms.now in
    let is = subst (λ (r : Result Bool Cause). JudgesRow (map g.T.Keyed.key c.args.alarms.now) c.args.now c.args.kept.now so.0 c.index-file-i.result r) c.in-Err.is
    (c.judged.ensures (map g.T.Keyed.key c.args.alarms.now) known rising so.0 so.2.rises
    (stand_nearest c.loop-i.rising c.as_slice.result.now c.args.file.now so.0 c.loop-i.i c.index-file-i.result c.nearest_new-nearest.result
    (omega arith) c.index-file-i.is (rw c.as_slice.ensures so.1) c.nearest_new-nearest.ensures.by_number c.nearest_new-nearest.ensures.below)) in
    sym (so_fault_at (map g.T.Keyed.key c.args.alarms.now) c.args.now c.args.kept.now c.args.file.now c.loop-i.fresh so.0 c.loop-i.repeated c.loop-i.i c.index-file-i.result
    c.in-Err.cause (omega arith) c.index-file-i.is so.2 is)

pub loop-i-preserved : goal.loop-i-preserved
loop-i-preserved g c =
    let known : c.is_some-is_known.result ≡ list_any (same_name c.index-file-i.result.tag) (map g.T.Keyed.key c.args.alarms.now) =
    c.is_some-is_known.ensures ∙ some_copied c.get_next.result ∙ ap is_some c.get_next.ensures
    ∙ has_name g.T.Keyed.order g.T.Keyed.key g.met.T.Keyed.total g.met.T.Keyed.only c.index-file-i.result.tag c.args.alarms.now in
    let judged : IsRising c.args.kept.now → (seen : List Event) → StandSo c.loop-i.rising c.loop-i.fresh (drop c.loop-i.i c.args.file.now) seen
    → IsRising seen → JudgesRow (map g.T.Keyed.key c.args.alarms.now) c.args.now c.args.kept.now seen c.index-file-i.result (Ok c.in-Ok.is_new) =
    λ rising seen stand rises. subst (λ (r : Result Bool Cause). JudgesRow (map g.T.Keyed.key c.args.alarms.now) c.args.now c.args.kept.now seen c.index-file-i.result r)
    c.in-Ok.is (c.judged.ensures (map g.T.Keyed.key c.args.alarms.now) known rising seen rises
    (stand_nearest c.loop-i.rising c.as_slice.result.now c.args.file.now seen c.loop-i.i c.index-file-i.result c.nearest_new-nearest.result
    (omega arith) c.index-file-i.is (rw c.as_slice.ensures stand) c.nearest_new-nearest.ensures.by_number c.nearest_new-nearest.ensures.below)) in
    elim c.if-is_new.branch [
      | then-is_new+in_ok-add w ↦
          let added : w.add.new.fresh ≡ c.loop-i.fresh ++ c.index-file-i.result ∷ [] = search rules in
          record {
            count = omega (arith, ap length w.fresh-is, ap length added, length-append c.loop-i.fresh (c.index-file-i.result ∷ []), w.repeated-is);
            so = λ rising.
                let so = c.loop-i.invariant.so rising in
                let is = rw w.if-is_new.true at (judged rising so.0 so.1 so.2.rises) in (
                  put_in c.index-file-i.result so.0,
                  rw (w.rising-is, w.fresh-is, added)
                      (stand_new c.loop-i.rising w.add.new.rising c.loop-i.fresh c.args.file.now so.0 c.loop-i.i c.index-file-i.result (omega arith)
                      c.index-file-i.is so.1
                      w.in_ok-add.ensures.none (λ m. w.in_ok-add.ensures.rising m so.0)),
                  rw (w.fresh-is, w.repeated-is, added)
                      (so_new_at (map g.T.Keyed.key c.args.alarms.now) c.args.now c.args.kept.now c.args.file.now c.loop-i.fresh so.0 c.loop-i.repeated c.loop-i.i
                      c.index-file-i.result (omega arith) c.index-file-i.is so.2 is),
                );
          }
      | else-is_new w ↦
          record {
            count = omega (arith, ap length w.fresh-is, w.repeated-is);
            so = λ rising.
                let so = c.loop-i.invariant.so rising in
                let is = rw w.if-is_new.false at (judged rising so.0 so.1 so.2.rises) in (
                  so.0,
                  rw (w.rising-is, w.fresh-is)
                      (stand_known c.loop-i.rising c.loop-i.fresh c.args.file.now so.0 c.loop-i.i c.index-file-i.result (omega arith)
                      c.index-file-i.is so.1),
                  rw (w.fresh-is, w.repeated-is)
                      (so_known_at (map g.T.Keyed.key c.args.alarms.now) c.args.now c.args.kept.now c.args.file.now c.loop-i.fresh so.0 c.loop-i.repeated c.loop-i.i
                      c.index-file-i.result (omega arith) c.index-file-i.is so.2 is),
                );
          }
    ]

pub returns-clause-value : goal.returns-clause-value
returns-clause-value g c rising =
    let so = c.loop-i.invariant.so rising in
    sym (so_all (map g.T.Keyed.key c.args.alarms.now) c.args.now c.args.kept.now c.args.file.now c.loop-i.fresh so.0 c.loop-i.repeated c.loop-i.i (omega arith) so.2)
