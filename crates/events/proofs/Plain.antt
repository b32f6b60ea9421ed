-- Of a flag there is no stale read. So the late verdict that leaves the flags out of its searches is the late verdict.
use mathlib.Core.Path.{◌≡◌, refl}
use mathlib.Core.Bool.{false, and-false}
use mathlib.Core.List.{List, [], ◌∷◌}
use Prim.Native.Nat.{ℕ, ◌≤◌}
use native.Mathlib.Omega.{arith}
use borrow.Author.Tests.{ne_eqb}
use Rattle.events.specs.declared.Event.{Event}
use Rattle.events.specs.Acts.{Act, History, Within, recording_of, reads, writes, crosses}
use Rattle.events.specs.Stretches.{stale_read}
use Rattle.events.specs.Verdicts.{stale_field, late_look, end_by, late_verdict}
use Rattle.events.proofs.Search.{lowest_shorter}
use Rattle.events.proofs.Histories.{ActWithin, ActsWithin, recording_sound}
use Rattle.events.proofs.Late.{end_ext}
use Rattle.events.proofs.Walks.{walk_ext}

-- of a field that no act has touched there is no stale read
unused_stale : (W P : ℕ) (h : History) → ActsWithin W P h → (w f : ℕ) → P ≤ f → stale_read h w f ≡ false
unfolding stale_read
unused_stale W P [] i w f l = refl
unused_stale W P (reads u g ∷ h) i w f l = unused_stale W P h i.1 w f l
unused_stale W P (writes u g ∷ h) i w f l = rw (ne_eqb g f (λ q. omega arith), unused_stale W P h i.1 w f l)
unused_stale W P (crosses u ∷ h) i w f l = rw (unused_stale W P h i.1 w f l, and-false)

-- with W workers and F fields, P of them plain
module _ (W F P : ℕ) (some : P ≤ F) where
  module _ (h : History) (inside : ActsWithin W P h) where
    stale_plain : (w : ℕ) → stale_field P h w ≡ stale_field F h w
    stale_plain w = lowest_shorter (stale_read h w) 0 P F some (λ f a b. unused_stale W P h inside w f (omega arith))

    look_plain : (n : ℕ) (a : Act) → ActWithin W P a → late_look P h n a ≡ late_look F h n a
    look_plain n (reads w f) i = refl
    look_plain n (writes w f) i = refl
    look_plain n (crosses w) i = rw (stale_plain w)

    end_plain : (n : ℕ) → end_by (stale_field P h) n 0 W ≡ end_by (stale_field F h) n 0 W
    end_plain n = end_ext (stale_field P h) (stale_field F h) n 0 W (λ u _. stale_plain u)

  pub late_plain : (es : List Event) → Within W F es → late_verdict W P P es ≡ late_verdict W F P es
  late_plain es within =
      walk_ext (late_look P) (late_look F) (λ h n. end_by (stale_field P h) n 0 W) (λ h n. end_by (stale_field F h) n 0 W) W P look_plain end_plain
      [] tt 0 (recording_of P es) (recording_sound P W F P (λ f l _. l) es within)
