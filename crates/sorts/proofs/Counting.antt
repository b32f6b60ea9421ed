-- Counting up to a limit: how many numbers are left from n on, which is what a loop's invariant speaks of.
use mathlib.Core.Path.{◌≡◌}
use Prim.Native.Nat.{ℕ, suc, ◌+◌, ◌-◌, ◌<◌, ◌≤◌}
use native.Mathlib.Omega.{arith}

pub one_left : (n limit : ℕ) → n < limit → limit - n ≡ suc (limit - (n + 1))
one_left n limit l = omega arith

pub none_left : (n limit : ℕ) → limit ≤ n → limit - n ≡ 0
none_left n limit l = omega arith
