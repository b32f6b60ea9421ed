-- `rising` answers as the definition does: what is still to come answers the same at each turn.
use mathlib.Core.Path.{◌≡◌}
use Prim.Native.Nat.{◌+◌, ◌*◌, ◌-◌, ◌<◌}
use Rattle.recording.specs.Tests.{rising}
use Rattle.recording.proofs.items.rising.Given as goal

abbrev pub invariant-loop-n : goal.invariant-loop-n
invariant-loop-n g l = (l.follow < g.L.Items.count l.labels) × (l.at + 2 * l.follow < 18446744073709551616)
    × (l.before ≡ g.L.Items.item l.labels l.n)
    × (rising (g.L.Items.item l.labels) l.order l.at l.n (l.follow - l.n) ≡ rising (g.L.Items.item l.labels) l.order l.at 0 l.follow)
