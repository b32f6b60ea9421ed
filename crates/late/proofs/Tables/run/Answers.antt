-- `late::Tables::run` meets its contract: before event n the tables show the events before n, and what is left says what the whole says.
use Rattle.late.proofs.Runs.{run_start, run_room, run_next, run_stop, run_end, end_workers, end_fields, end_writer, end_version, end_log}
use Rattle.std.proofs.Common.{rules, arith}
use Rattle.late.proofs.Tables.run.Goals as goal

pub loop-n-init : goal.loop-n-init
loop-n-init c = search (rules, run_start)

pub step-requires : goal.step-requires
step-requires c = search (rules, run_room)

pub returns-in_err-step : goal.returns-in_err-step
returns-in_err-step c =
    run_stop c.args.file.now c.args.counts c.args.self.now c.requires c.loop-n.self c.loop-n.n c.loop-n.invariant (omega arith) c.event_at-e.result c.event_at-e.ensures
    c.deed_of.result c.deed_of.ensures _ c.in_err-step.field-0.0 _ (search rules) c.in_err-step.ensures

pub loop-n-preserved : goal.loop-n-preserved
loop-n-preserved c =
    run_next c.args.file.now c.args.counts c.args.self.now c.requires c.loop-n.self c.loop-n.n c.loop-n.invariant (omega arith) c.event_at-e.result c.event_at-e.ensures
    c.deed_of.result c.deed_of.ensures _ c.in_ok-step.ensures

pub at_end-requires : goal.at_end-requires
at_end-requires c = search (rules, end_workers, end_fields, end_writer, end_version, end_log)

pub returns : goal.returns
returns c = search (rules, run_end)
