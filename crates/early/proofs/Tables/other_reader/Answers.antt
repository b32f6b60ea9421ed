-- `early::Tables::other_reader` meets its contract: what the library's search finds among the workers that exist is what the definition's
-- finds among sixteen.
use Prim.Native.Nat.{◌*◌}
use mathlib.Core.Path.{◌≡◌}
use mathlib.Core.Bool.{true, false}
use Rattle.std.proofs.Common.{rules, tests}
use Rattle.std.proofs.lemmas.Iterator.{first_from_Range}
use Rattle.events.proofs.Search.{lowest_from_find}
use Rattle.early.specs.Steps.{reader_open}
use Rattle.early.proofs.Laws.{readers_existing}
use Rattle.early.proofs.Tables.other_reader.Goals as goal

pub returns : goal.returns
returns c =
    let t = c.args.self.now in
    let read = reader_open t.workers t.stretch.now t.readers.now c.args.w.0 (16 * c.args.f.0) in
    search (
      rules,
      readers_existing t.workers t.stretch.now t.readers.now c.args.w.0 (16 * c.args.f.0) c.min.result c.min.ensures,
      lowest_from_find read c.min.result c.find.result
          (first_from_Range _ _ _ c.find.result (λ u. read u ≡ true) (λ u. read u ≡ false) c.find.ensures.ran
          (λ u q k. search (rules, tests))
          (λ u q k. (search rules, search (rules, tests)))),
    )
