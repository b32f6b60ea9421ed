-- `flags::first_flag` meets its contract: what the library's search finds is what the definition's finds.
use mathlib.Core.Path.{◌≡◌}
use mathlib.Core.Bool.{true, false}
use borrow.Author.Tests.{le-leb, lt-leb}
use Rattle.std.proofs.Common.{rules, tests}
use Rattle.std.proofs.lemmas.Iterator.{first_from_Range}
use Rattle.events.proofs.Search.{lowest_from_find}
use Rattle.recording.specs.File.{field_label}
use Rattle.flags.specs.Flags.{is_flag}
use Rattle.flags.proofs.Search.{flag_found}
use Rattle.flags.proofs.first_flag.Goals as goal

pub returns : goal.returns
returns c =
    let label = field_label c.args.file.now in
    let m =
    first_from_Range _ _ _ c.find.result (λ f. is_flag (label f) ≡ true) (λ f. is_flag (label f) ≡ false) c.find.ensures.ran
    (λ f q k. search (rules, tests, le-leb, lt-leb))
    (λ f q k. (search rules, search (rules, tests, le-leb, lt-leb))) in
    flag_found label c.args.fields c.find.result c.unwrap_or.result (lowest_from_find (λ f. is_flag (label f)) c.args.fields c.find.result m) (search rules)
