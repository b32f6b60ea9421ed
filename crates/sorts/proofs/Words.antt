-- Joining and parting a writer word undo each other.
use mathlib.Core.Path.{◌≡◌}
use Prim.Native.Nat.{ℕ, ◌<◌}
use native.Mathlib.Omega.{arith}
use Rattle.sorts.specs.Words.{joined, stretch_in, worker_in}

pub stretch_of_joined : (s w : ℕ) → w < 16 → stretch_in (joined s w) ≡ s
stretch_of_joined s w l = omega arith

pub worker_of_joined : (s w : ℕ) → w < 16 → worker_in (joined s w) ≡ w
worker_of_joined s w l = omega arith

pub joined_of_parts : (word : ℕ) → joined (stretch_in word) (worker_in word) ≡ word
joined_of_parts word = omega arith
