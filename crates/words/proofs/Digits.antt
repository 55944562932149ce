-- How large a number of few digits is.
use Rattle.std.proofs.Common.{ℕ, ◌^◌, ◌<◌, ◌≤◌, arith}
use Rattle.std.proofs.Math.Nat.{pow-le-pow_right}

pub power_within : (i : ℕ) → i < 18 → 10 ^ i ≤ 10 ^ 17
power_within i few = pow-le-pow_right {n = 10} (omega arith) {i = i} {j = 17} (omega arith)
