-- How large a number of the notation is before its last digit.
use Rattle.std.proofs.Common.{ℕ, ◌^◌, ◌<◌, ◌≤◌, arith}
use native.Mathlib.Nat.{pow-le-pow_right}

-- a number of fewer than nine digits has room for one more
pub digit_fits : (n i : ℕ) → n < 10 ^ i → i < 9 → n < 100000000
digit_fits n i low l =
    let p : 10 ^ i ≤ 10 ^ 8 = pow-le-pow_right {n = 10} (omega arith) {i = i} {j = 8} (omega arith) in
    omega arith
