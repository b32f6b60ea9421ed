-- What both finders see and enter by the words alone. W is the worker count, S the stretch words, Wr the writer words.
use Rattle.std.specs.Prelude.{Bool, cond, not, ◌&&◌, List, [], ◌∷◌, ℕ, ◌+◌, eqb, ltb, get_or, set}
use Rattle.sorts.specs.Words.{joined, stretch_in, worker_in}
use Rattle.events.specs.Acts.{Act, reads, writes, crosses}
use Rattle.events.specs.Search.{Found, at, none}

-- A stretch that wrote or read f is open exactly if its worker is below the worker count and its number in the writer or readers word is
-- above 0 and equals that worker's stretch word.
unfoldable pub is_open : ℕ → List ℕ → ℕ → ℕ → Bool
is_open W S w n = ltb w W && (ltb 0 n && eqb n (get_or S w 0))

-- the worker that a writer word names, if it is another than w and its stretch is open
unfoldable pub writer_named : ℕ → List ℕ → ℕ → ℕ → Found
writer_named W S word w =
    cond (not (eqb (worker_in word) w) && is_open W S (worker_in word) (stretch_in word)) (at (worker_in word)) none

abbrev pub writer_by : ℕ → List ℕ → List ℕ → ℕ → ℕ → Found
writer_by W S Wr w f = writer_named W S (get_or Wr f 0) w

-- the stretch words with an act entered: a crossing raises its worker's
unfoldable pub stretch_with : List ℕ → Act → List ℕ
stretch_with S (reads w f) = S
stretch_with S (writes w f) = S
stretch_with S (crosses w) = set S w (get_or S w 0 + 1)

-- the writer words with an act entered: a write leaves its stretch and worker
unfoldable pub writer_with : List ℕ → List ℕ → Act → List ℕ
writer_with S Wr (reads w f) = Wr
writer_with S Wr (writes w f) = set Wr f (joined (get_or S w 0) w)
writer_with S Wr (crosses w) = Wr

-- the same with all acts of an event, in their order
unfoldable pub stretch_after : List ℕ → List Act → List ℕ
stretch_after S [] = S
stretch_after S (a ∷ more) = stretch_after (stretch_with S a) more

unfoldable pub writer_after : List ℕ → List ℕ → List Act → List ℕ
writer_after S Wr [] = Wr
writer_after S Wr (a ∷ more) = writer_after (stretch_with S a) (writer_with S Wr a) more
