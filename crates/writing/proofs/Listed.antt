-- Laws of rows that list what is read from a file.
use mathlib.Core.Path.{◌≡◌, refl, ◌∙◌, ap}
use mathlib.Core.List.{List}
use Prim.Native.Nat.{ℕ, zero, suc, ◌+◌, ◌<◌}
use native.Mathlib.Omega.{arith}
use lib.ListN.{length, get_or}
use lib.Seq.{ext_get_or}
use Rattle.recording.specs.declared.Entry.{Entry}
use Rattle.recording.specs.File.{event_of}
use Rattle.recording.specs.WellFormed.{Good}
use Rattle.recording.specs.WellFormed.Good.{read, write, crossing}
use Rattle.writing.specs.Writing.{numbers_of, listed}

-- an event's numbers, and back
pub numbers_back : (W F : ℕ) (e : Entry) → Good W F e → numbers_of (event_of e) ≡ e
unfolding event_of
numbers_back W F e (read k w f) = rw k (rw (← k))
numbers_back W F e (write k w f) = rw k (rw (← k))
numbers_back W F e (crossing k w f) = rw (k, ← f) (rw (← k))

-- a row by its numbers
pub length-listed : (number : ℕ → ℕ) (n k : ℕ) → length (listed number n k) ≡ k
unfolding listed
length-listed number n zero = refl
length-listed number n (suc k) = ap suc (length-listed number (n + 1) k)

pub number_listed : (number : ℕ → ℕ) (n k j : ℕ) → j < k → get_or (listed number n k) j 0 ≡ number (n + j)
unfolding listed
number_listed number n zero j l = absurd (omega arith)
number_listed number n (suc k) zero l = let z : n + 0 ≡ n = omega arith in rw z
number_listed number n (suc k) (suc j) l = let z : n + 1 + j ≡ n + suc j = omega arith in number_listed number (n + 1) k j (omega arith) ∙ rw z

pub row_back : (number : ℕ → ℕ) (count : ℕ) (row : List ℕ) → count ≡ length row → ((n : ℕ) → n < length row → number n ≡ get_or row n 0) → listed number 0 count ≡ row
row_back number count row c same =
    let l = length-listed number 0 count in
    ext_get_or 0 (listed number 0 count) row (omega arith)
    (λ n b. let z : 0 + n ≡ n = omega arith in number_listed number 0 count n (omega arith) ∙ rw z (same n (omega arith)))
