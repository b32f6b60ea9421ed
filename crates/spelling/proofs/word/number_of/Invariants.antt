-- `number_of` reads the digits from the left: with those that are left they make the word's number.
use Rattle.std.proofs.Common.{◌≡◌, ◌^◌, ◌<◌, ◌≤◌, length, drop}
use Rattle.spelling.specs.Notation.{number_after, number_of}
use Rattle.spelling.proofs.word.number_of.Given as goal

abbrev pub invariant-loop-digit : goal.invariant-loop-digit
invariant-loop-digit l = (length l.word ≤ 9) × (l.n < 10 ^ l.digit-index) × (number_after l.n (drop l.digit-index l.word) ≡ number_of l.word)
