-- `early::find` meets its contract: a law of the statement for each way out.
use mathlib.Core.Path.{refl}
use Rattle.early.proofs.Answers.{too_short, file_refused, file_accepted, file_judged}
use Rattle.std.proofs.lemmas.Result.{err_from_is_err_and}
use Rattle.std.proofs.Common.{rules, arith}
use Rattle.early.proofs.find.Goals as goal

pub returns-then-stretch-lt-WORKERS : goal.returns-then-stretch-lt-WORKERS
returns-then-stretch-lt-WORKERS c = rw (c.into.ensures, c.at.ensures) (too_short _ _ _ _ c.then-stretch-lt-WORKERS.either)

pub returns-in_err-counts : goal.returns-in_err-counts
returns-in_err-counts c =
    let p = err_from_is_err_and c.from_residual.result c.from_residual.ensures.1 in
    rw (p.1, p.2)
    (file_refused _ _ _ _ (omega arith) (omega arith) (omega arith) c.check.result c.check.ensures _ c.in_err-counts.was)

pub search-requires : goal.search-requires
search-requires c = search (rules, file_accepted c.args.file.now c.args.stretch.now c.args.writer.now c.args.readers.now)

pub returns : goal.returns
returns c =
    file_judged c.args.file.now c.args.stretch.now c.args.writer.now c.args.readers.now (omega arith) (omega arith) (omega arith) c.check.result
    c.check.ensures c.in_ok-counts.counts c.in_ok-counts.was c.answer_to.result _ _ c.search.new.self _ _ _ c.answer_to.ensures c.search.ensures refl
    refl refl refl (search rules) (search rules) (search rules)
