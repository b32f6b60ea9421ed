-- `next` passes the blanks before a word, and the word.
use Rattle.std.proofs.Common.{rules}
use Rattle.spelling.proofs.Passing.{no_word, next_word, fewer}
use Rattle.spelling.proofs.words.WordsIterator.next.Goals as goal

pub returns-in_err-place-clause-steps : goal.returns-in_err-place-clause-steps
returns-in_err-place-clause-steps c = search (rules, no_word)

pub returns-clause-steps : goal.returns-clause-steps
returns-clause-steps c = search (rules, next_word)

pub returns-clause-goes : goal.returns-clause-goes
returns-clause-goes c = search (rules, fewer)
