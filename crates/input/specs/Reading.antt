-- What reading leaves in the buffer, and which bytes of the input these are, where the reader says what it has left.
use Rattle.std.specs.Prelude.{◌≡◌, ◌<◌, ◌≤◌, List, ℕ, length, take, Option, Result, Ok, Err}
use Rattle.std.specs.Io.KnownBytes.{Consumes, IsAtEnd}

-- so many bytes stand at the start of the buffer
abbrev pub ReadInto : {E : Type 0} → List ℕ → Result ℕ E → Type 0
ReadInto buffer (Ok n) = (n ≤ length buffer) × (n ≡ length (take n buffer))
ReadInto buffer (Err e) = Unit {0}

-- they are the next of the reader's, which has no more unless they fill the buffer
abbrev pub Brings : {E : Type 0} → Option (List ℕ) → Option (List ℕ) → List ℕ → Result ℕ E → Type 0
Brings old new buffer (Ok n) = Consumes old new (take n buffer) × (n < length buffer → IsAtEnd new)
Brings old new buffer (Err e) = Unit {0}
