-- A text's characters, shown on the answer to an accepted recording: o is 111, k is 107.
use mathlib.Core.Path.{◌≡◌, refl}
use mathlib.Core.List.{[], ◌∷◌}
use Rattle.byte_rows.specs.Characters.{ascii}

pub ascii_ok : ascii "ok" ≡ 111 ∷ 107 ∷ []
ascii_ok = refl
