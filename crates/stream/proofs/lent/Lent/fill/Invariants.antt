-- The range that `fill` walks ends at the row's length, so `item` is called for places in the row alone.
use Rattle.std.proofs.Common.{◌≡◌}
use Rattle.stream.proofs.lent.Lent.fill.Given as goal

abbrev pub invariant-loop-i : goal.invariant-loop-i
invariant-loop-i g l =
    (goal.iterator-loop-i g).can_next l.i-iterator
    × (goal.iterator-loop-i g).is_finite l.i-iterator
    × (l.i-iterator.a.end ≡ l.len)
