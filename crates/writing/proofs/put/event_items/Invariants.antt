-- `event_items` puts the events, one after another.
use mathlib.Core.Path.{◌≡◌}
use Prim.Native.Nat.{◌+◌, ◌*◌, ◌≤◌}
use lib.ListN.{length}
use Rattle.byte_rows.specs.Buffer.{put}
use Rattle.writing.specs.Writing.{items}
use Rattle.writing.specs.Parts.{count_of, event_bytes_of, EventsFit}
use Rattle.writing.proofs.put.event_items.Given as goal

abbrev pub invariant-loop-n : goal.invariant-loop-n
invariant-loop-n l = (l.at + 4 * count_of l.events ≤ length l.initial.buffer) × EventsFit l.events × (l.buffer ≡ put l.initial.buffer l.at (items (event_bytes_of l.events) 0 l.n))
