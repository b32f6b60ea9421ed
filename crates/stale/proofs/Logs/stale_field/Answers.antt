-- `stale::Logs::stale_field` meets its contract: what the library's search finds is what the definition's finds.
use mathlib.Core.Path.{◌≡◌}
use mathlib.Core.Bool.{true, false}
use Rattle.std.proofs.Common.{rules, tests}
use Rattle.std.proofs.lemmas.Iterator.{first_from_Range}
use Rattle.events.proofs.Search.{lowest_from_find}
use Rattle.stale.specs.Stale.{stale_words}
use Rattle.stale.proofs.Logs.stale_field.Goals as goal

pub returns : goal.returns
returns c =
    let logs = c.args.self in
    let stale = stale_words logs.log.now logs.version.now logs.writer.now c.args.w.0 in
    search (
      rules,
      lowest_from_find stale c.args.fields c.find.result
          (first_from_Range _ _ _ c.find.result (λ f. stale f ≡ true) (λ f. stale f ≡ false) c.find.ensures.ran
          (λ f q k. search (rules, tests))
          (λ f q k. (search rules, search (rules, tests)))),
    )
