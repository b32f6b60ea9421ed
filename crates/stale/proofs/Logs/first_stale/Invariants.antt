-- `stale::Logs::first_stale` meets its contract: before worker w, and before its field f, what is left finds what the whole search finds.
use mathlib.Core.Path.{◌≡◌}
use Prim.Native.Nat.{◌-◌, ◌<◌, ◌≤◌}
use Rattle.std.specs.Prelude.{None}
use Rattle.stale.specs.Stale.{first_stale}
use Rattle.stale.proofs.Laws.{stale_from}
use Rattle.stale.proofs.Logs.first_stale.Given as goal

abbrev pub invariant-loop-f : goal.invariant-loop-f
invariant-loop-f l = (l.w < l.workers) × (l.found ≡ None)
    × (stale_from l.fields l.self.log.now l.self.version.now l.self.writer.now l.workers l.w l.f ≡ first_stale l.fields l.self.log.now l.self.version.now l.self.writer.now 0 l.workers)

abbrev pub invariant-search : goal.invariant-search
invariant-search l = (l.w ≤ l.workers) × (l.found ≡ None)
    × (first_stale l.fields l.self.log.now l.self.version.now l.self.writer.now l.w (l.workers - l.w) ≡ first_stale l.fields l.self.log.now l.self.version.now l.self.writer.now 0 l.workers)
