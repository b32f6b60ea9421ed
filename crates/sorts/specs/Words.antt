-- A writer word: 16 times the stretch number, plus the worker.
use Rattle.std.specs.Prelude.{ℕ, ◌+◌, ◌*◌, ◌/◌, ◌%◌}

abbrev pub joined : ℕ → ℕ → ℕ
joined stretch worker = 16 * stretch + worker

-- the stretch and the worker that a word holds
abbrev pub stretch_in : ℕ → ℕ
stretch_in word = word / 16

abbrev pub worker_in : ℕ → ℕ
worker_in word = word % 16
