-- `early::Tables::run` meets its contract: before event n the tables show the events before n, and what is left says what the whole says.
use mathlib.Core.Path.{◌≡◌, refl}
use Rattle.tables.specs.Answers.{verdict_of, report_of}
use Rattle.early.proofs.Runs.{run_start, run_room, run_next, run_stop, run_end}
use Rattle.std.proofs.Common.{rules, arith}
use Rattle.early.proofs.Tables.run.Goals as goal

pub loop-n-init : goal.loop-n-init
loop-n-init c = search (rules, run_start)

pub step-requires : goal.step-requires
step-requires c = search (rules, run_room)

pub returns-in_err-step : goal.returns-in_err-step
returns-in_err-step c =
    let said : verdict_of c.from_residual.result ≡ report_of c.in_err-step.field-0.0 = search rules in
    rw said
    (run_stop c.args.file.now c.args.counts c.args.self.now c.requires c.loop-n.self c.loop-n.n c.loop-n.invariant (omega arith) c.first_flag-plain.result
    c.first_flag-plain.ensures c.event_at-e.result c.event_at-e.ensures c.deed_of.result c.deed_of.ensures _ _ c.in_err-step.ensures c.in_err-step.field-0.0 refl)

pub loop-n-preserved : goal.loop-n-preserved
loop-n-preserved c =
    run_next c.args.file.now c.args.counts c.args.self.now c.requires c.loop-n.self c.loop-n.n c.loop-n.invariant (omega arith) c.first_flag-plain.result
    c.first_flag-plain.ensures c.event_at-e.result c.event_at-e.ensures c.deed_of.result c.deed_of.ensures _ c.in_ok-step.ensures

pub returns : goal.returns
returns c = search (rules, run_end)
