-- Any two outcomes that the late finder's statement allows coincide.
use mathlib.Core.Path.{◌≡◌, sym, ◌∙◌}
use mathlib.Core.List.{List}
use Prim.Native.Nat.{ℕ}
use Rattle.tables.specs.Answers.{Said}
use Rattle.late.specs.Finds.{Finds}

module _ (file S₀ Wr₀ Vr₀ Lg₀ : List ℕ) (a a' : Said) (S Wr Vr Lg S' Wr' Vr' Lg' : List ℕ)
    (x : Finds file S₀ Wr₀ Vr₀ Lg₀ a S Wr Vr Lg) (y : Finds file S₀ Wr₀ Vr₀ Lg₀ a' S' Wr' Vr' Lg') where
  pub one_answer : a ≡ a'
  one_answer = x.answers ∙ sym y.answers

  pub one_stretch : S ≡ S'
  one_stretch = x.stretch ∙ sym y.stretch

  pub one_writer : Wr ≡ Wr'
  one_writer = x.writer ∙ sym y.writer

  pub one_version : Vr ≡ Vr'
  one_version = x.version ∙ sym y.version

  pub one_log : Lg ≡ Lg'
  one_log = x.log ∙ sym y.log
