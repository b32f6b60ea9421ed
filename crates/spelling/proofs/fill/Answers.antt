-- `fill` stores what a word gives, and all else of the row stays.
use Rattle.spelling.proofs.Filling.{held_next, held_all, given_by}
use Rattle.spelling.proofs.fill.Goals as goal

pub loop-placed-preserved : goal.loop-placed-preserved
loop-placed-preserved g c = λ given gives.
    let v = given_by gives c.in-Some.placed.word c.and_then.result c.and_then.ensures in
    held_next given _ _ c.loop-placed.row c.loop-placed.n _ (c.loop-placed.invariant given gives) c.in-Some.placed _ c.and_then.result c.store-n.new.row c.store-n.result c.in-Some.ensures.steps v c.store-n.ensures

pub returns : goal.returns
returns g c = λ given gives. held_all given _ _ _ _ _ (c.loop-placed.invariant given gives) c.in-None.ensures.steps.0
