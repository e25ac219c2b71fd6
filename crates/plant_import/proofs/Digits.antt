-- Decimal digits: the bound of a number of at most twelve.
use Rattle.std.proofs.{Common.{ℕ, ◌^◌, ◌≤◌, arith}, Math.Nat.{pow-le-pow_right}}

pub room_below : (i : ℕ) → i ≤ 12 → 10 ^ i ≤ 1000000000000
room_below i le = pow-le-pow_right (omega arith) le
