-- Worked examples: floods, and the lists of alarms after an import.
use Rattle.std.proofs.Common.{refl, suc, true, zero, ◌++◌, ◌+◌, ◌≡◌, List, None, Ok, [], false, ℕ, ◌∷◌}
use Rattle.plant_alarm.specs.declared.event.{Event.{Event}, EventKind.TheVariants.{Act, Rtn}}
use Rattle.plant_alarm.specs.declared.summary.AlarmState.TheVariants.{Normal, Unacknowledged}
use Rattle.plant_floods.specs.{Activations.{period_counts}, Floods.{floods}, declared.run.Run.{Run}}
use Rattle.plant_model.specs.{Events.{flood_lines, is_aligned}, Refusals.{holds_some}, Verdicts.{verdict}, declared.call.Call.{Call}}
use Rattle.plant_model.specs.declared.call.Request.TheVariants.{Alarms, Floods, Import, Standing, TimedShelve}
use Rattle.plant_model.specs.declared.reply.Refused.TheVariants.{RangeNotAligned}
use Rattle.plant_model.specs.declared.reply.Reply.TheVariants.{Alarms as AlarmsOf, Floods as FloodsOf, Standing as StandingOf}
use Rattle.plant_model.proofs.public.Base.{IsAnswered, ann, at, base, call, event, lt, pt, u1, vic, x}

abbrev flood : ℕ → ℕ → ℕ → ℕ → Run
flood first last total peak = record { first = first; last = last; total = total; peak = peak }

two_floods : floods (11 ∷ 5 ∷ 4 ∷ 10 ∷ 12 ∷ []) ≡ flood 0 1 16 11 ∷ flood 4 4 12 12 ∷ []
unfolding floods
two_floods = refl

-- activations in turn with returns, n of them in one second each, from a number on
abbrev burst : ℕ → ℕ → ℕ → List Event
burst n t zero = []
burst n t (suc k) = event n Act t pt ∷ event (n + 1) Rtn t pt ∷ burst (n + 2) (t + 1) k

abbrev many : List Event
many = burst 1 (at 10 0 0) 11 ++ burst 101 (at 10 10 0) 5 ++ burst 201 (at 10 20 0) 4 ++ burst 301 (at 10 30 0) 10 ++ burst 401 (at 10 40 0) 12

floods_of_ranges : (period_counts many (at 10 0 0) (at 10 50 0) ≡ 11 ∷ 5 ∷ 4 ∷ 10 ∷ 12 ∷ [])
    × (flood_lines many (at 10 0 0) (at 10 50 0) ≡ record { start = at 10 0 0; until = at 10 20 0; total = 16; peak = 11 }
    ∷ record { start = at 10 40 0; until = at 10 50 0; total = 12; peak = 12 } ∷ [])
    × IsAnswered base (call vic (at 10 50 0) (Floods u1 (at 10 0 0) (at 10 0 0))) RangeNotAligned
    × IsAnswered base (call vic (at 10 50 0) (Floods u1 (at 10 0 1) (at 10 10 0))) RangeNotAligned
    × (verdict base (call vic (at 10 50 0) (Floods u1 (at 10 0 0) (at 10 10 0))) ≡ Ok (FloodsOf u1 (at 10 0 0) (at 10 10 0) []))
unfolding floods holds_some
floods_of_ranges = (refl, refl, refl, refl, refl)

-- standing alarms and all alarms, one of them shelved
abbrev standing_unit : List Call
standing_unit = call ann (at 10 0 0) (TimedShelve u1 pt 60 x) ∷ call ann (at 9 30 0) (Import u1 (Ok (event 1 Act (at 9 0 0) pt ∷ []))) ∷ base

standing_list : verdict standing_unit (call vic (at 10 0 0) (Standing u1))
    ≡ Ok (StandingOf u1 (at 10 0 0) (record {
      tag = pt;
      state = Unacknowledged;
      priority = None;
      since = at 9 0 0;
      shelved = true;
      by_design = false;
      out_of_service = false;
    } ∷ []))
unfolding holds_some
standing_list = refl

alarm_list : verdict standing_unit (call vic (at 10 0 0) (Alarms u1)) ≡ Ok (AlarmsOf u1 (at 10 0 0)
    (record { tag = lt; state = Normal; priority = None; shelved = false; by_design = false; out_of_service = false; limit = 86400 }
    ∷ record { tag = pt; state = Unacknowledged; priority = None; shelved = true; by_design = false; out_of_service = false; limit = 3600 } ∷ []))
unfolding holds_some
alarm_list = refl

-- a week is 1,008 periods, and no range is longer
at_most_a_week : (is_aligned (at 0 0 0) (at 168 0 0) ≡ true)
    × (is_aligned (at 0 0 0) (at 168 10 0) ≡ false)
at_most_a_week = (refl, refl)

-- an alarm that annunciates again while it is active is not an activation; after a return it is
abbrev again : List Event
again = event 1 Act (at 10 0 0) pt ∷ event 2 Act (at 10 1 0) pt ∷ event 3 Rtn (at 10 2 0) pt ∷ event 4 Act (at 10 3 0) pt ∷ []

two_activations : period_counts again (at 10 0 0) (at 10 10 0) ≡ 2 ∷ []
two_activations = refl
