-- `fill` goes over the words once: what those so far have given stands in the row.
use Rattle.std.proofs.Common.{ℕ, length, take}
use Rattle.std.specs.Prelude.{Option}
use Rattle.spelling.specs.declared.word.Word.{Word}
use Rattle.spelling.specs.Notation.{words, values_in}
use Rattle.spelling.specs.Passes.{left_from, Gives}
use Rattle.spelling.proofs.Filling.{Held}
use Rattle.spelling.proofs.fill.Given as goal

abbrev pub invariant-loop-placed : goal.invariant-loop-placed
invariant-loop-placed g l = (given : Word → Option ℕ) → Gives (goal.F-post g l.value) given → Held (take (length l.initial.row) (values_in given (words l.text))) (values_in given (left_from l.placed-iterator.text.now l.placed-iterator.heading l.placed-iterator.at)) l.initial.row l.row l.n
