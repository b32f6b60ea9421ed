-- Bytes put into a lent buffer.
use Rattle.std.specs.Prelude.{List, ◌++◌, ℕ, ◌+◌, length, take, drop}

-- the buffer with these bytes at this place, and all its other bytes as they were
unfoldable pub put : List ℕ → ℕ → List ℕ → List ℕ
put buffer at bytes = take at buffer ++ bytes ++ drop (at + length bytes) buffer
