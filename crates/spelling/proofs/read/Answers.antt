-- `read` fills each row of a good text with what the words give to it.
use Rattle.spelling.specs.Notation.{worker_label_in, field_label_in, kind_in, worker_in, field_in}
use Rattle.spelling.proofs.Filling.{read_fine}
use Rattle.std.proofs.Common.{rules}
use Rattle.spelling.proofs.read.Goals as goal

pub returns : goal.returns
returns c =
    read_fine _ _ c.judge.ensures _ _ _ _ _ _ _ _ _ _ _ _ _ _ _ _ c.in_ok-judge.was (search rules) (search rules) (search rules) (search rules) (search rules)
    (c.fill-worker_count.ensures worker_label_in (record { each = λ word x q. search rules }))
    (c.fill-field_count.ensures field_label_in (record { each = λ word x q. search rules }))
    (c.fill-event_count.ensures kind_in (record { each = λ word x q. search rules }))
    (c.fill.ensures worker_in (record { each = λ word x q. search rules }))
    (c.fill-2.ensures field_in (record { each = λ word x q. search rules }))
