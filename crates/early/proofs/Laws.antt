-- Laws of the search for a reader, and of tables that stay lent.
use mathlib.Core.Path.{◌≡◌, ◌∙◌, refl}
use mathlib.Core.Bool.{false, and-false}
use mathlib.Core.List.{List}
use Prim.Native.Nat.{ℕ, ◌+◌, ◌≤◌, min}
use native.Mathlib.Omega.{arith}
use lib.ListN.{get_or}
use Rattle.events.specs.Search.{lowest}
use Rattle.events.proofs.Search.{lowest_shorter}
use Rattle.tables.proofs.Laws.{open_over}
use Rattle.early.specs.declared.Tables.{Tables}
use Rattle.early.specs.Steps.{reader_open, Lent}

module _ (W : ℕ) (S Rd : List ℕ) (w base u : ℕ) where
  -- a worker past the count is never open, whatever the words
  pub reader_past : W ≤ u → reader_open W S Rd w base u ≡ false
  unfolding reader_open
  reader_past l = simp (← open_over W S u (get_or Rd (base + u) 0) l, and-false)

-- So the search among the workers that exist finds what the search among sixteen finds, whatever the words.
pub readers_existing : (W : ℕ) (S Rd : List ℕ) (w base k : ℕ) → k ≡ min W 16
    → lowest (reader_open W S Rd w base) 0 k ≡ lowest (reader_open W S Rd w base) 0 16
readers_existing W S Rd w base k e =
    lowest_shorter (reader_open W S Rd w base) 0 k 16 (omega arith) (λ u a b. reader_past W S Rd w base u (omega arith))

-- What stays lent over two steps stays lent.
pub lent_still : (t₀ t t' : Tables) → Lent t₀ t → Lent t t' → Lent t₀ t'
lent_still t₀ t t' a b = record {
  workers = b.workers ∙ a.workers;
  stretch = b.stretch ∙ a.stretch;
  writer = b.writer ∙ a.writer;
  readers = b.readers ∙ a.readers;
}

pub lent_itself : (t : Tables) → Lent t t
lent_itself t = record { workers = refl; stretch = refl; writer = refl; readers = refl }
