use Rattle.std.{specs.List.{range_with_len}, proofs.Common.{◌≡◌, ◌+◌, ◌*◌, ◌≤◌, length, map, take, count_by}}
use Rattle.plant_floods.specs.Activations.{is_in_period}
use Rattle.plant_floods.proofs.periods.counts_from.Given as goal

-- the counts of the moments so far
abbrev pub invariant-loop-moment : goal.invariant-loop-moment
invariant-loop-moment l = length l.moments ≤ 4294967295
    → l.counts.items ≡ map (λ i. count_by (λ m. is_in_period (l.start + 600 * i) m) (take l.moment-index l.moments)) (range_with_len 0 l.periods)
