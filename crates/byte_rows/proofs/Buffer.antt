-- Laws of bytes put into a lent buffer.
use mathlib.Core.Path.{◌≡◌}
use mathlib.Core.List.{List, [], ◌∷◌, ◌++◌, append_assoc}
use Prim.Native.Nat.{ℕ, ◌+◌, ◌≤◌}
use native.Mathlib.Nat.{zero-add}
use native.Mathlib.Numerals.{add-one}
use native.Mathlib.Omega.{arith}
use lib.ListN.{length, set, take, drop, length-append, length-drop}
use lib.Seq.{paste-zero, sets-eq, length-take-le, take_at, drop-append-add, drop-drop}
use Rattle.byte_rows.specs.Buffer.{put}

module _ (lent : List ℕ) (at : ℕ) (a : List ℕ) (room : at + length a ≤ length lent) where
  -- what stands before the end of the bytes
  head : length (take at lent ++ a) ≡ at + length a
  head = rw (length-append, length-take-le at lent (omega arith))

  pub length-put : length (put lent at a) ≡ length lent
  unfolding put
  length-put = rw (length-append, head, length-drop) (omega arith)

  -- bytes right after bytes
  pub put_put : (b : List ℕ) → put (put lent at a) (at + length a) b ≡ put lent at (a ++ b)
  unfolding put
  put_put b =
      let rest : List ℕ = drop (at + length a) lent in
      let two : at + length a + length b ≡ at + length (a ++ b) = rw length-append (omega arith) in
      let after : drop (at + length a + length b) (take at lent ++ a ++ rest) ≡ drop (at + length (a ++ b)) lent =
      rw (← head, drop-append-add, drop-drop, head, two) in
      rw (take_at (take at lent ++ a) rest (at + length a) head, after, append_assoc (take at lent) a b)

pub put_nothing : (lent : List ℕ) (at : ℕ) → lent ≡ put lent at []
unfolding put
put_nothing lent at = paste-zero lent at []

-- at the start of the buffer
pub put_start : (lent a : List ℕ) → put lent 0 a ≡ a ++ drop (length a) lent
unfolding put
put_start lent a = rw zero-add

-- two bytes, one after the other
pub put_two : (lent : List ℕ) (at x y : ℕ) → at + 2 ≤ length lent → set (set lent at x) (at + 1) y ≡ put lent at (x ∷ y ∷ [])
unfolding put
put_two lent at x y room = rw add-one (sets-eq (x ∷ y ∷ []) lent at room)
