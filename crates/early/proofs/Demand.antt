-- Demand 2 said of the early finder itself.
use mathlib.Core.Path.{◌≡◌, refl, sym, ◌∙◌, ap}
use mathlib.Core.Bool.{true}
use mathlib.Core.List.{List, []}
use Prim.Native.Nat.{ℕ}
use lib.ListN.{get_or}
use Rattle.events.specs.Acts.{before}
use Rattle.events.specs.Clashes.{Clash, SomeAt, FirstClash}
use Rattle.events.specs.Verdicts.{accepted, reported}
use Rattle.events.specs.Reports.{EventNames, Exactly}
use Rattle.events.proofs.Demands.{early_names, early_accepts}
use Rattle.recording.specs.Refusals.{fine}
use Rattle.recording.specs.File.{events_in, counts_in}
use Rattle.recording.specs.WellFormed.{WellFormed}
use Rattle.recording.proofs.Guarantee.{Guarantee, guarantee}
use Rattle.recording.proofs.WellFormed.{well_formed_fine}
use Rattle.flags.specs.Flags.{first_flag}
use Rattle.tables.specs.Answers.{Said, judged}
use Rattle.tables.specs.Finds.{acts_in, early_of}
use Rattle.tables.proofs.Laws.{judged_same}
use Rattle.early.specs.Finds.{full_tables, fault, Finds}

module _ (file S₀ Wr₀ Rd₀ : List ℕ) where
  -- DEMAND 2, of a well-formed file lent with tables of at least full length.
  module _ (good : WellFormed file) (full : full_tables S₀ Wr₀ Rd₀ ≡ true) (a : Said) (S Wr Rd : List ℕ) (finds : Finds file S₀ Wr₀ Rd₀ a S Wr Rd) where
    certain : Guarantee file (counts_in file)
    certain = guarantee file (counts_in file) (record { fine = well_formed_fine file good; workers = refl; fields = refl; events = refl })

    says : a ≡ judged (early_of file)
    says = let passed : fault file S₀ Wr₀ Rd₀ ≡ fine = rw full (well_formed_fine file good) in rw passed at finds.answers

    -- The finder reports event n with this sort, worker, other worker and field exactly if n is the lowest-numbered event of the
    -- recording that clashes, and these are its names.
    pub finds_first : (n s w u f : ℕ)
        → Exactly (a ≡ judged (reported n s w u f)) (FirstClash (acts_in file) n × EventNames (before [] (acts_in file) n) (get_or (acts_in file) n []) s w u f)
    finds_first n s w u f =
        let x = early_names (counts_in file).workers (counts_in file).fields (first_flag file) certain.few_workers (events_in file) certain.within n s w u f in
        (λ q. x.0 (judged_same (sym says ∙ q)), λ c. says ∙ ap judged (x.1 c))

    -- It accepts exactly if no event clashes.
    pub finds_none : Exactly (a ≡ judged accepted) ((n : ℕ) → SomeAt Clash (acts_in file) n → ⊥)
    finds_none =
        let x = early_accepts (counts_in file).workers (counts_in file).fields (first_flag file) certain.few_workers (events_in file) certain.within in
        (λ q. x.0 (judged_same (sym says ∙ q)), λ z. says ∙ ap judged (x.1 z))
