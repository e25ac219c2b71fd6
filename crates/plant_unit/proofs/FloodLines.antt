-- The lines of floods.
use Rattle.std.proofs.Common.{ap, arith, get_or, subst, sym, take, ◌∙◌, All, IfOk, IsTrue, List, Result, [], length, map, ℕ, ◌*◌, ◌++◌, ◌+◌, ◌<◌, ◌∷◌, ◌≡◌, ◌≤◌}
use Rattle.std.proofs.lemmas.{Bool.{lt-ltb, ltb-true}, List.{map-append, take_more}, Result.{IfOk-weaker}}
use Rattle.plant_alarm.specs.declared.event.Event.{Event}
use Rattle.plant_floods.{specs.{Activations.{period_counts}, Floods.{floods}, declared.run.Run.{Run}}, proofs.public.Inside.{ends_within, run_at}}
use Rattle.plant_model.specs.{Events.{flood_line, flood_lines}, declared.reply.FloodLine.{FloodLine}}
use Rattle.plant_types.specs.Moment.{is_moment}
use Rattle.plant_unit.specs.Floods.{EndsBy}

moment_below : (m n : ℕ) → m ≤ n → IsTrue (is_moment n) → IsTrue (is_moment m)
moment_below m n le h =
    let lt : n < 3155760000 = ltb-true n 3155760000 h in
    lt-ltb m 3155760000 (omega (arith, le, lt))

-- one more line
pub line_more : (begin until i : ℕ) (runs : List Run) (r : Run) (lines new : List FloodLine) (line : FloodLine) → IsTrue (is_moment until)
    → All (EndsBy begin until) runs → i < length runs → r ≡ get_or runs i r
    → lines ≡ map (flood_line begin) (take i runs) → new ≡ lines ++ line ∷ []
    → (IsTrue (is_moment (begin + 600 * r.first)) → IsTrue (is_moment (begin + 600 * r.last + 600)) → line ≡ flood_line begin r)
    → new ≡ map (flood_line begin) (take (i + 1) runs)
line_more begin until i runs r lines new line moment ends lt is so pushed told =
    let end : EndsBy begin until r = subst (λ (x : Run). EndsBy begin until x) (sym is) (ends i r lt) in
    let here : line ≡ flood_line begin r = told (moment_below _ until (omega (arith, end.0, end.1)) moment) (moment_below _ until end.1 moment) in
    pushed ∙ (λ j. so j ++ here j ∷ []) ∙ sym (map-append (flood_line begin) (take i runs) (r ∷ []))
    ∙ ap (λ l. map (flood_line begin) l) (ap (λ x. take i runs ++ x ∷ []) is ∙ sym (take_more runs i r lt))

-- all lines
pub lines_whole : {E : Type 0} (es : List Event) (begin until : ℕ) (counts : List ℕ) (runs : List Run) (r : Result (List FloodLine) E)
    → IsTrue (is_moment until) → counts ≡ period_counts es begin until → runs ≡ floods counts
    → (IsTrue (is_moment until) → All (EndsBy begin until) runs → IfOk r (λ lines. lines ≡ map (flood_line begin) runs))
    → IfOk r (λ lines. lines ≡ flood_lines es begin until)
lines_whole {E = E} es begin until counts runs r moment ec er told =
    IfOk-weaker r _ _ (λ lines h. h ∙ ap (map (flood_line begin)) whole) (told moment ends)
  where
    whole : runs ≡ floods (period_counts es begin until)
    whole = er ∙ ap floods ec

    ends : All (EndsBy begin until) runs
    ends = subst (λ (l : List Run). All (EndsBy begin until) l) (sym whole)
        (λ k d lt. (
          (run_at es begin until k d lt).0,
          ends_within begin until (get_or (floods (period_counts es begin until)) k d)
              (run_at es begin until k d lt),
        ))
