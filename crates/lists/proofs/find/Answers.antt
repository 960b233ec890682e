-- Where the number is found in a turn or behind the turns, it is first there; where it is not, it is none of them.
use Rattle.std.proofs.Common.{rules, arith, ◌≡◌, ◌/◌, length}
use Rattle.lists.proofs.Seeking.{seek-begins, seeking, pairs-passed, found-place, none-has, none-place}
use Rattle.lists.proofs.find.Goals as goal

pub loop-k-init : goal.loop-k-init
loop-k-init c = seek-begins

pub loop-k-preserved : goal.loop-k-preserved
loop-k-preserved c = search (rules, seeking)

pub returns-then-numbers-k : goal.returns-then-numbers-k
returns-then-numbers-k c =
    record { answer = search (rules, seeking, found-place); place = search (rules, seeking) }

pub returns-then-numbers-k-2 : goal.returns-then-numbers-k-2
returns-then-numbers-k-2 c =
    record { answer = search (rules, seeking, found-place); place = search (rules, seeking) }

pub returns-then-numbers-last : goal.returns-then-numbers-last
returns-then-numbers-last c =
    record { answer = search (rules, seeking, none-place); place = search (rules, seeking, none-has) }

pub returns-then-numbers-last-2 : goal.returns-then-numbers-last-2
returns-then-numbers-last-2 c =
    let k : c.loop-k.k ≡ length c.args.numbers.now / 2 = omega arith in
    let w = pairs-passed c.loop-k.invariant k in
    record { answer = search (rules, seeking, none-place); place = search (rules, seeking, none-has) }

pub returns : goal.returns
returns c =
    let k : c.loop-k.k ≡ length c.args.numbers.now / 2 = omega arith in
    let w = pairs-passed c.loop-k.invariant k in
    record { answer = search (rules, seeking, found-place); place = search (rules, seeking) }
