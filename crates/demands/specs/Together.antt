-- Demand 3, said of the answers that the two finders give to one well-formed file lent with tables of at least full length.
use Rattle.std.specs.Prelude.{◌≡◌, List, [], ℕ, ◌<◌, ◌≤◌, T, get_or}
use Rattle.events.specs.Acts.{before}
use Rattle.events.specs.Stretches.{has_read}
use Rattle.events.specs.Clashes.{OnWritten, Some, SomeAt, FirstClash}
use Rattle.events.specs.Verdicts.{reported}
use Rattle.events.specs.Positions.{ClosesAt}
use Rattle.events.specs.Reports.{Exactly, Writes}
use Rattle.recording.specs.File.{events_in, event_count}
use Rattle.flags.specs.Flags.{first_flag}
use Rattle.tables.specs.Answers.{Said, judged}
use Rattle.tables.specs.Finds.{acts_in}

-- the answer reports event n
pub record Reports (answer : Said) (n : ℕ) : Type 0 where
  pub sort : ℕ
  pub worker : ℕ
  pub other : ℕ
  pub field : ℕ
  pub says : answer ≡ judged (reported n sort worker other field)

-- it reports some event; it reports one no later than m
pub record ReportsSome (answer : Said) : Type 0 where
  pub event : ℕ
  pub reports : Reports answer event

pub record ReportsBy (answer : Said) (m : ℕ) : Type 0 where
  pub event : ℕ
  pub reports : Reports answer event
  pub in_time : event ≤ m

pub record Together (file : List ℕ) (early late : Said) : Type 0 where
  -- The late finder reports exactly when the early one does, which is when demand 2's rule finds a clash at some event n,
  pub exactly : Exactly (ReportsSome late) (ReportsSome early)
  -- and never before n.
  pub never_before : (n m : ℕ) → FirstClash (acts_in file) n → Reports late m → n ≤ m
  -- If another worker's open stretch had written the field, it reports at n itself.
  pub at_once : (n : ℕ) → FirstClash (acts_in file) n → SomeAt OnWritten (acts_in file) n → Reports late n
  -- Otherwise it reports no later than the next crossing, an access of a flag among them, of any worker u, other than the one writing at n,
  -- whose open stretch had read the field,
  pub by_crossing : (n w u f : ℕ) → FirstClash (acts_in file) n → Some (Writes w f) (get_or (acts_in file) n []) → (u ≡ w → ⊥)
      → T (has_read (before [] (acts_in file) n) u f) → (m : ℕ) → n < m → ClosesAt (first_flag file) (events_in file) m u → ReportsBy late m
  -- or the end of the recording if that worker crosses no more.
  pub by_end : (n : ℕ) → FirstClash (acts_in file) n → ReportsBy late (event_count file)
