-- Which fields are flags. Labels rise, so the flags are the fields from one number on.
use Rattle.std.specs.Prelude.{Bool, List, ℕ, leb}
use Rattle.events.specs.Search.{Found, lowest, at, none}
use Rattle.recording.specs.File.{field_count, field_label}

-- A field with a label of 32,768 or more is a flag.
abbrev pub is_flag : ℕ → Bool
is_flag label = leb 32768 label

-- what was found, or else this number
abbrev pub found_or : Found → ℕ → ℕ
found_or (at f) n = f
found_or none n = n

-- The number of the first flag among F fields with these labels; the field count if there is none.
unfoldable pub flags_from : (ℕ → ℕ) → ℕ → ℕ
flags_from label F = found_or (lowest (λ f. is_flag (label f)) 0 F) F

-- the same among the fields of a file
unfoldable pub first_flag : List ℕ → ℕ
first_flag s = flags_from (field_label s) (field_count s)
