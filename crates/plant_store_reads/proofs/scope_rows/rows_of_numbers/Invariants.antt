use Rattle.std.proofs.Common.{IsTrue, List, ◌++◌, ◌≡◌, false, ℕ}
use Rattle.sqlite.specs.{Held.{state}, State.{HasCleanDisk}}
use Rattle.plant_books.{specs.Numbered.{NumbersRise}, proofs.public.NumberRanges.{those_among}}
use Rattle.plant_store_columns.specs.Tables.{AreBooks}
use Rattle.plant_store_statements.specs.{Changes.{IsHonest}, OnlyReads.{OnlyReads}}
use Rattle.plant_store_reads.proofs.scope_rows.rows_of_numbers.Given as goal

-- what has been read so far: the rows of the numbers before
abbrev pub invariant-loop-number : goal.invariant-loop-number
invariant-loop-number g l =
    let old = state g.S.Store l.fn.conn in
    let now = state g.S.Store l.conn in
    let number = g.T.Numbered.number in
    let all = g.T.Stored.seen l.unit old.now.trees in
    record {
      mode : l.conn.in_transaction ≡ false;
      rows : (before : List ℕ) × (before ++ l.number-iterator ≡ l.initial.number-iterator)
          × (IsHonest now → AreBooks old.now → NumbersRise number all → l.rows.items ≡ those_among number before all);
      reads : OnlyReads old now;
      stays_open : HasCleanDisk now → IsTrue old.is_open → IsTrue now.is_open;
    }
