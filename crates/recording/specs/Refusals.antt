-- The numbers of a refusal's reasons: document 01's list, in its order.
use Rattle.std.specs.Prelude.{ℕ, Result, Ok, Err}
use Rattle.recording.specs.declared.refusal.Reason.{Reason}
use Rattle.recording.specs.declared.refusal.Reason.TheVariants.{CutShort, WorkerCount, WorkerOrder, FieldCount, FieldOrder, EventCount, Kind, Worker, Field, ExtraBytes, ShortTable, ShortBuffer}
use Rattle.recording.specs.declared.refusal.Refusal.{Refusal}

abbrev pub number_of : Reason → ℕ
number_of CutShort = 1
number_of WorkerCount = 2
number_of WorkerOrder = 3
number_of FieldCount = 4
number_of FieldOrder = 5
number_of EventCount = 6
number_of Kind = 7
number_of Worker = 8
number_of Field = 9
number_of ExtraBytes = 10
number_of ShortTable = 11
number_of ShortBuffer = 12

-- what a test says: fine, or refused for this reason at this place
abbrev pub Fault : Type 0
Fault = Result (Unit {0}) Refusal

abbrev pub fine : Fault
fine = Ok tt

abbrev pub refused : Reason → ℕ → Fault
refused reason place = Err (record { reason = reason; place = place })
