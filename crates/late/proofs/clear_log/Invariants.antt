-- `late::clear_log` meets its contract: before field f, the words of the fields below f are cleared.
use mathlib.Core.Path.{◌≡◌}
use Rattle.late.specs.Steps.{cleared}
use Rattle.late.proofs.clear_log.Given as goal

abbrev pub invariant-loop-f : goal.invariant-loop-f
invariant-loop-f l = l.log ≡ cleared l.initial.log l.w.0 l.f
