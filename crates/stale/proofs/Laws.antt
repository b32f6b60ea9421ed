-- The search for a stale read: what is left of it when it has come to a worker and a field, and what it found, as document 01 says it.
use mathlib.Core.Path.{◌≡◌, refl}
use mathlib.Core.List.{List}
use Prim.Native.Nat.{ℕ, zero, suc, ◌+◌, ◌-◌}
use Rattle.std.specs.Prelude.{Option}
use Rattle.sorts.specs.declared.Worker.{Worker}
use Rattle.sorts.specs.declared.Field.{Field}
use Rattle.events.specs.Search.{lowest}
use Rattle.events.specs.Verdicts.{end_by}
use Rattle.events.proofs.Search.{found}
use Rattle.stale.specs.Stale.{stale_words, stale_field_by, stale_or, first_stale, said_of}

-- what the search for a stale read has left from worker w's field f on, of n workers and F fields
unfoldable pub stale_from : ℕ → List ℕ → List ℕ → List ℕ → ℕ → ℕ → ℕ → Option (Worker × Field)
stale_from F Lg Vr Wr n w f = stale_or w (lowest (stale_words Lg Vr Wr w) f (F - f)) (first_stale F Lg Vr Wr (w + 1) (n - (w + 1)))

-- What the search of all workers found, said as document 01 says it.
pub said_first : (F : ℕ) (Lg Vr Wr : List ℕ) (n w k : ℕ) → said_of n (first_stale F Lg Vr Wr w k) ≡ end_by (stale_field_by F Lg Vr Wr) n w k
unfolding first_stale end_by
said_first F Lg Vr Wr n w zero = refl
said_first F Lg Vr Wr n w (suc k) =
    found (stale_field_by F Lg Vr Wr w) (λ f q. rw q) (λ q. rw q (said_first F Lg Vr Wr n (w + 1) k))
