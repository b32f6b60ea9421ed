-- A reader over an accepted file hands out its events in order, and then says that none is left.
use mathlib.Core.Path.{◌≡◌}
use mathlib.Core.List.{List}
use Prim.Native.Nat.{ℕ, ◌+◌, ◌<◌}
use native.Mathlib.Omega.{arith}
use lib.ListN.{length}
use borrow.Author.Tests.{le-leb, lt-leb}
use Rattle.std.specs.Prelude.{Some, None}
use Rattle.recording.specs.declared.Counts.{Counts}
use Rattle.recording.specs.File.{entries_at, entry_in, event_at, Accepted, place_of, step_at}
use Rattle.recording.proofs.Guarantee.{guarantee}

module _ (s : List ℕ) (c : Counts) (ok : Accepted s c) where
  pub reads_event : (n : ℕ) → n < c.events → step_at s (place_of c n) ≡ Some (event_at s n, place_of c (n + 1))
  unfolding step_at event_at entry_in entries_at
  reads_event n l =
      let g = guarantee s c ok in
      let z : place_of c n + 4 ≡ place_of c (n + 1) = omega arith in
      rw (le-leb (place_of c n + 4) (length s) (omega arith), z, ok.workers, ok.fields)

  pub reads_end : step_at s (place_of c c.events) ≡ None
  unfolding step_at
  reads_end = let g = guarantee s c ok in rw (lt-leb (place_of c c.events + 4) (length s) (omega arith))
