-- The example of document 01 in its notation: case d with worker labels 10 and 11 and field label 7.
use Rattle.std.specs.Prelude.{◌≡◌, refl, [], ◌∷◌}
use Rattle.byte_rows.specs.Characters.{ascii}
use Rattle.spelling.specs.Notation.{number_after, number_of, access_of, event_of, entry_under, word_under, blank_at, words_from, words, first_bad, values_in, judged, rows_in, bad, rows, said}

pub example : said (ascii "workers 10 11\nfields 7\nevents R0.0 W1.0 B1 B0\n")
    ≡ rows
    (record {
      worker_labels = 10 ∷ 11 ∷ [];
      field_labels = 7 ∷ [];
      kinds = 1 ∷ 2 ∷ 3 ∷ 3 ∷ [];
      workers = 0 ∷ 1 ∷ 1 ∷ 0 ∷ [];
      fields = 0 ∷ 0 ∷ 0 ∷ 0 ∷ [];
    })
unfolding number_after number_of access_of event_of entry_under word_under blank_at words_from words first_bad values_in judged rows_in said
example = refl

-- a read without a field is bad notation: the word begins at place 30
pub bad_example : said (ascii "workers 10 11\nfields 7\nevents R0 W1.0\n") ≡ bad 30
unfolding number_after number_of access_of event_of entry_under word_under blank_at words_from words first_bad values_in judged rows_in said
bad_example = refl
