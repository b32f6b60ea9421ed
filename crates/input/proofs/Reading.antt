-- The start of a buffer before and after a read into the rest of it.
use Rattle.std.proofs.Common.{◌≡◌, ℕ, ◌+◌, ◌≤◌, List, ◌++◌, length, take, length-take-le}
use Rattle.std.proofs.lemmas.List.{take-append-le}
use Rattle.std.proofs.Math.Seq.{take-append-add}
use Rattle.std.specs.Prelude.{Option}
use Rattle.std.specs.Io.KnownBytes.{Consumes}
use Rattle.std.proofs.KnownBytes.{Consumes-trans}
use borrow.Rule.Slice.PartMut.{put_mid, post_of}

module _ (at k n : ℕ) (buffer part : List ℕ) (low : at ≤ length buffer) (fits : n ≤ length part) where
  -- what a read brings stands behind what is there
  longer : take (at + n) (put_mid at k buffer part) ≡ take at buffer ++ take n part
  longer =
      let start = length-take-le at buffer low in
      let seam = take-append-add (take at buffer) (part ++ post_of at k buffer) n in
      rw (start, take-append-le n part (post_of at k buffer) fits) at seam

  -- and so is what the reader gave so far
  pub brought : (first now next : Option (List ℕ)) → Consumes first now (take at buffer) → Consumes now next (take n part) → Consumes first next (take (at + n) (put_mid at k buffer part))
  brought first now next h r = rw longer (Consumes-trans first now next _ _ h r)
