-- Alarm floods (ISA-18.2, IEC 62682) of a list of counts, one for each period of ten minutes.
use Rattle.std.specs.List.{list_all, slice_split}
use Rattle.std.specs.Prelude.{ℕ, ◌+◌, Bool, false, ◌&&◌, ◌||◌, not, nat_lt, nat_le, List, [], ◌∷◌, ◌++◌, Option, Some, None, length, map, sum, fold, max, filter_map}
use Rattle.plant_floods.specs.declared.run.Run.{Run}

-- the last of these periods is in a flood: some count is above 10, and from it on all counts are at least 5
abbrev pub ends_in_flood : List ℕ → Bool
ends_in_flood [] = false
ends_in_flood (c ∷ counts) = (nat_lt 10 c && list_all (nat_le 5) (c ∷ counts)) || ends_in_flood counts

-- a period: its number, its count, and whether it is in a flood
pub record Period : Type 0 where
  pub number : ℕ
  pub count : ℕ
  pub in_flood : Bool

abbrev pub period : List ℕ → ℕ → Period
period before c = record { number = length before; count = c; in_flood = ends_in_flood (before ++ c ∷ []) }

-- the periods of these counts, after those before
abbrev pub periods_after : List ℕ → List ℕ → List Period
periods_after before [] = []
periods_after before (c ∷ counts) = period before c ∷ periods_after (before ++ c ∷ []) counts

abbrev pub periods : List ℕ → List Period
periods counts = periods_after [] counts

-- a run of periods: the first and the last of them, and the sum and the greatest of their counts
abbrev pub run_of : List Period → Option Run
run_of [] = None
run_of (p ∷ ps) =
    Some (record {
      first = p.number;
      last = p.number + length ps;
      total = sum (map (λ q. q.count) (p ∷ ps));
      peak = fold max 0 (map (λ q. q.count) (p ∷ ps));
    })

-- the floods, in order: the longest runs of periods that are in a flood
unfoldable pub floods : List ℕ → List Run
floods counts = filter_map run_of (slice_split (λ p. not p.in_flood) (periods counts))
