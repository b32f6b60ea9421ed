-- Any two outcomes that the early finder's statement allows coincide.
use mathlib.Core.Path.{◌≡◌, sym, ◌∙◌}
use mathlib.Core.List.{List}
use Prim.Native.Nat.{ℕ}
use Rattle.tables.specs.Answers.{Said}
use Rattle.early.specs.Finds.{Finds}

module _ (file S₀ Wr₀ Rd₀ : List ℕ) (a a' : Said) (S Wr Rd S' Wr' Rd' : List ℕ)
    (x : Finds file S₀ Wr₀ Rd₀ a S Wr Rd) (y : Finds file S₀ Wr₀ Rd₀ a' S' Wr' Rd') where
  pub one_answer : a ≡ a'
  one_answer = x.answers ∙ sym y.answers

  pub one_stretch : S ≡ S'
  one_stretch = x.stretch ∙ sym y.stretch

  pub one_writer : Wr ≡ Wr'
  one_writer = x.writer ∙ sym y.writer

  pub one_readers : Rd ≡ Rd'
  one_readers = x.readers ∙ sym y.readers
