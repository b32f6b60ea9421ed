-- What a search for the first flag finds, said of the library's search.
use mathlib.Core.Path.{◌≡◌}
use Prim.Native.Nat.{ℕ}
use Rattle.std.specs.Prelude.{Option, Some, None}
use Rattle.std.specs.Option.{unwrap_or}
use Rattle.events.specs.Search.{lowest}
use Rattle.events.proofs.Search.{found_in}
use Rattle.flags.specs.Flags.{is_flag, found_or, flags_from}

pub flag_found : (label : ℕ → ℕ) (F : ℕ) (r : Option ℕ) (f : ℕ) → lowest (λ g. is_flag (label g)) 0 F ≡ found_in r → f ≡ unwrap_or r F → f ≡ flags_from label F
unfolding flags_from
flag_found label F r f q p = by r q p
  where
    by : (r : Option ℕ) → lowest (λ g. is_flag (label g)) 0 F ≡ found_in r → f ≡ unwrap_or r F → f ≡ found_or (lowest (λ g. is_flag (label g)) 0 F) F
    by (Some u) q p = rw q p
    by None q p = rw q p
