-- `write` tests the rows, then the buffer, and puts the three sections: one law for each way out.
use mathlib.Core.Path.{◌≡◌}
use Rattle.std.specs.Prelude.{Err}
use Rattle.writing.proofs.Writing.{rows_refused, buffer_short, workers_few, workers_fit, fields_few, fields_fit, events_few, events_fit, file_written}
use Rattle.std.proofs.Common.{rules, arith}
use Rattle.writing.proofs.write.Goals as goal

pub returns-in_err-check : goal.returns-in_err-check
returns-in_err-check c =
    let e : c.from_residual.result ≡ Err c.in_err-check.field-0.0 = search rules in
    rw e (rows_refused c.args.rows c.check.result c.check.ensures c.args.buffer.now c.in_err-check.field-0.0 (search rules))

pub returns-then-buffer-size : goal.returns-then-buffer-size
returns-then-buffer-size c = rw c.at.ensures (search (rules, buffer_short c.args.rows c.check.result c.check.ensures))

pub labels-requires : goal.labels-requires
labels-requires c =
    search (rules, workers_few c.args.rows c.check.result c.check.ensures, workers_fit c.args.rows c.check.result c.check.ensures)

pub labels-requires-2 : goal.labels-requires-2
labels-requires-2 c =
    search (rules, fields_few c.args.rows c.check.result c.check.ensures, fields_fit c.args.rows c.check.result c.check.ensures)

pub events-requires : goal.events-requires
events-requires c =
    search (rules, events_few c.args.rows c.check.result c.check.ensures, events_fit c.args.rows c.check.result c.check.ensures)

pub returns : goal.returns
returns c =
    let size = c.count.ensures in
    rw size
    (file_written c.args.rows c.check.result c.check.ensures (search rules) c.args.buffer.now c.labels.new.buffer c.labels-2.new.buffer c.events.new.buffer
    (omega arith) c.labels.ensures c.labels-2.ensures c.events.ensures)
