-- `number_of` has at most nine digits, so that the number fits.
use Rattle.std.proofs.Common.{arith}
use Rattle.spelling.proofs.Spelling.{digit_fits}
use Rattle.spelling.proofs.word.number_of.Goals as goal

pub overflow_mul-n : goal.overflow_mul-n
overflow_mul-n c =
    let few = digit_fits _ _ c.loop-digit.invariant.1 (omega arith) in
    omega arith

pub overflow_add-n : goal.overflow_add-n
overflow_add-n c =
    let few = digit_fits _ _ c.loop-digit.invariant.1 (omega arith) in
    omega arith
