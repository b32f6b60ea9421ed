-- A text as bytes.
use Rattle.std.specs.Prelude.{List, [], ◌∷◌, ℕ}
use Prim.Native.Char.{code}
use Prim.Native.String.{String, [] as none, ◌∷◌ as ◌before◌}

-- a text's characters, by their numbers
abbrev pub ascii : String → List ℕ
ascii none = []
ascii (c before more) = code c ∷ ascii more
