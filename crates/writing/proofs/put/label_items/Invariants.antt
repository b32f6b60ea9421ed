-- `label_items` puts the labels of a row, one after another.
use mathlib.Core.Path.{◌≡◌}
use Prim.Native.Nat.{◌+◌, ◌*◌, ◌≤◌}
use lib.ListN.{length}
use Rattle.byte_rows.specs.Buffer.{put}
use Rattle.writing.specs.Writing.{items}
use Rattle.writing.specs.Parts.{label_bytes, LabelsFit}
use Rattle.writing.proofs.put.label_items.Given as goal

abbrev pub invariant-loop-n : goal.invariant-loop-n
invariant-loop-n l = (l.at + 2 * length l.row ≤ length l.initial.buffer) × LabelsFit l.row × (l.buffer ≡ put l.initial.buffer l.at (items (label_bytes l.row) 0 l.n))
