-- Tables that are lent stay lent, however often they are lent on; and what a flag meets.
use mathlib.Core.Path.{◌≡◌, ◌∙◌}
use Prim.Native.Nat.{ℕ}
use Rattle.std.specs.Prelude.{Result}
use Rattle.sorts.specs.declared.Worker.{Worker}
use Rattle.events.specs.declared.Deed.{Deed}
use Rattle.events.specs.declared.Deed.TheVariants.{Signals}
use Rattle.events.specs.Acts.{acts_of}
use Rattle.events.specs.Verdicts.{first_of, stale_by}
use Rattle.events.proofs.Search.{found}
use Rattle.tables.specs.declared.Report.{Report}
use Rattle.tables.specs.Answers.{verdict_of}
use Rattle.stale.specs.Stale.{stale_field_by}
use Rattle.late.specs.declared.Tables.{Tables}
use Rattle.late.specs.Steps.{late_meets, Lent}

pub lent_still : (t₀ t t' : Tables) → Lent t₀ t → Lent t t' → Lent t₀ t'
lent_still t₀ t t' a b = record {
  workers = b.workers ∙ a.workers;
  plain = b.plain ∙ a.plain;
  stretch = b.stretch ∙ a.stretch;
  writer = b.writer ∙ a.writer;
  version = b.version ∙ a.version;
  log = b.log ∙ a.log;
}

-- both crossings of a flag see the same words
pub flag_met : (t : Tables) (n : ℕ) (d : Deed) (w : Worker) (r : Result (Unit {0}) Report)
    → verdict_of r ≡ stale_by (stale_field_by t.plain t.log.now t.version.now t.writer.now) n w.0 → d ≡ Signals w → verdict_of r ≡ late_meets t n (acts_of d)
unfolding first_of
flag_met t n d w r x q = x ∙ rw q (found (stale_field_by t.plain t.log.now t.version.now t.writer.now w.0) (λ f s. rw s) (λ s. rw s))
