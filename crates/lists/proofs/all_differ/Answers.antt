-- The first number that is left stands again behind itself, or not; and where none is left they differ.
use Rattle.std.proofs.Common.{rules}
use Rattle.lists.proofs.Laws.{again-behind, none-behind, none-left}
use Rattle.lists.proofs.all_differ.Goals as goal

pub returns-then-is_some : goal.returns-then-is_some
returns-then-is_some c = record { answer = let e = again-behind {r = c.find.result} c.in-Some.ensures.cases.0 (search rules) c.if-is_some.ensures in cc }

pub loop-first-preserved : goal.loop-first-preserved
loop-first-preserved c = let e = none-behind {r = c.find.result} c.in-Some.ensures.cases.0 (search rules) c.if-is_some.ensures in cc

pub returns : goal.returns
returns c = record { answer = let e = none-left c.loop-first.left.now c.in_default.ensures.cases in cc }
