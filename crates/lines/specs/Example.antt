-- The printed example of document 01: case d with worker labels 10 and 11 and field label 7.
use Rattle.std.specs.Prelude.{◌≡◌, refl, [], ◌∷◌}
use Rattle.events.specs.Acts.{recording_of, entered}
use Rattle.events.specs.Stretches.{has_read, has_written, stale_read}
use Rattle.events.specs.Search.{lowest}
use Rattle.events.specs.Verdicts.{first_of, walk, end_by}
use Rattle.recording.specs.Tests.{need, ◌then◌, rising, kind_allowed, field_allowed, event_tests, events_tests, section, label_section, event_section, end_test, events_to_end, file_tests, all_tests}
use Rattle.recording.specs.File.{number_at, label_at, entry_at, entries_at, event_of, worker_count, field_count, event_count, worker_label, field_label, entry_in, event_at, events_from, events_in, refusal}
use Rattle.flags.specs.Flags.{flags_from, first_flag}
use Rattle.byte_rows.specs.Characters.{ascii}
use Rattle.lines.specs.Text.{decimal, spelled, rest, line}
use Rattle.lines.specs.Lines.{trace_line, verdict_line, other_label, report_lines, printed_after, printed}

pub example : printed
    (0x02 ∷ 0x00 ∷ 0x0A ∷ 0x00 ∷ 0x0B ∷ 0x00 ∷ 0x01 ∷ 0x00 ∷ 0x07 ∷ 0x00 ∷ 0x04 ∷ 0x00 ∷ 0x01 ∷ 0x00 ∷ 0x00 ∷ 0x00 ∷ 0x02 ∷ 0x01 ∷ 0x00 ∷ 0x00 ∷ 0x03 ∷ 0x01 ∷ 0x00 ∷ 0x00 ∷ 0x03 ∷ 0x00 ∷ 0x00 ∷ 0x00 ∷ [])
    ≡ ascii "trace 2 1 4\nearly 1 2 11 10 7\nlate 3 2 10 - 7\n"
unfolding decimal spelled rest line trace_line verdict_line other_label report_lines printed_after printed recording_of entered has_read has_written stale_read lowest first_of walk end_by need ◌then◌ rising kind_allowed field_allowed event_tests events_tests section label_section event_section end_test events_to_end file_tests all_tests number_at label_at entry_at entries_at event_of worker_count field_count event_count worker_label field_label entry_in event_at events_from events_in refusal flags_from first_flag
example = refl
