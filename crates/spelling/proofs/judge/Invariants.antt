-- `judge` goes over the words up to the first bad one: the first bad one of those that are left is the text's.
use Rattle.std.proofs.Common.{◌≡◌}
use Rattle.spelling.specs.Notation.{first_bad, judged}
use Rattle.spelling.specs.Passes.{left_from}
use Rattle.spelling.proofs.judge.Given as goal

abbrev pub invariant-loop-placed : goal.invariant-loop-placed
invariant-loop-placed l = first_bad (left_from l.placed-iterator.text.now l.placed-iterator.heading l.placed-iterator.at) ≡ judged l.text
