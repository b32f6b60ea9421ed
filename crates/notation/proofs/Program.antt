-- Laws of what is made of a text.
use mathlib.Core.Path.{◌≡◌}
use mathlib.Core.List.{List}
use Prim.Native.Nat.{ℕ}
use lib.ListN.{take}
use Rattle.std.specs.Prelude.{Result, Ok}
use Rattle.notation.specs.declared.NoFile.{NoFile}
use Rattle.spelling.specs.declared.BadWord.{BadWord}
use Rattle.spelling.specs.declared.Lengths.{Lengths}
use Rattle.recording.specs.declared.refusal.Refusal.{Refusal}
use Rattle.writing.specs.Writing.{Rows, rows_given, Writes}
use Rattle.spelling.specs.Notation.{said}
use Rattle.spelling.specs.Passes.{Reads}
use Rattle.spelling.proofs.Handing.{read_handed, read_says}
use Rattle.notation.specs.Program.{made_by, Makes}

-- What `make` answers and leaves, after the text was read: the rows that were handed to the writer are those that the text says.
pub made : (text : List ℕ) (lent left : Rows) (r : Result Lengths BadWord) → Reads text lent left r → (lengths : Lengths) → r ≡ Ok lengths
    → (buffer buffer' : List ℕ) (answer : Result ℕ Refusal)
    → Writes (rows_given (take lengths.workers left.worker_labels) (take lengths.fields left.field_labels) (take lengths.events left.kinds) (take lengths.events left.workers) (take lengths.events left.fields)) buffer answer buffer'
    → (r' : Result ℕ NoFile) → r' ≡ made_by answer → Makes (said text) buffer buffer' r'
made text lent left r read lengths q buffer buffer' answer w r' e =
    let h = read_handed text lent left r read lengths q in
    let w' = rw (h.worker_labels.says, h.field_labels.says, h.kinds.says, h.workers.says, h.fields.says) at w in
    rw (read_says text lent left r read lengths q, e) (record { answers = rw w'.answers; bytes = w'.bytes })
