-- `test_events` answers as the tests of the events do: what is still to come answers the same at each turn.
use mathlib.Core.Path.{◌≡◌}
use Prim.Native.Nat.{◌+◌, ◌*◌, ◌-◌, ◌<◌, ◌≤◌}
use Rattle.recording.specs.Tests.{events_tests}
use Rattle.recording.proofs.items.test_events.Given as goal

abbrev pub invariant-loop-n : goal.invariant-loop-n
invariant-loop-n g l = (l.count ≤ g.E.Items.count l.entries) × (l.at + 4 * l.count < 18446744073709551616)
    × (events_tests l.workers l.fields (g.E.Items.item l.entries) l.at l.n (l.count - l.n) ≡ events_tests l.workers l.fields (g.E.Items.item l.entries) l.at 0 l.count)
