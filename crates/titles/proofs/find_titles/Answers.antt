-- What is left of the list from a place on, and the chunk at its front, which is as it may be there or not.
use Rattle.std.proofs.Common.{rules, sym, subst, refl, arith}
use Rattle.titles.specs.Lists.{FoundIn}
use Rattle.titles.proofs.Walking.{finding, left-all, find-unfit, find-fits, find-many, find-kind, find-size, find-room, find-least, find-less, find-next, find-other}
use Rattle.titles.proofs.find_titles.Goals as goal

pub loop-at-init : goal.loop-at-init
loop-at-init c = search (rules, finding)

pub returns-in_err-front : goal.returns-in_err-front
returns-in_err-front c =
    record {
      found =
          subst (FoundIn c.args.lost c.args.list.now) (sym c.from_residual.ensures)
          (find-unfit c.loop-at.invariant c.loop-at-test.true (left-all c.args.list.now c.loop-at.at) c.in_err-front.ensures.answer);
    }

pub overflow_add-at : goal.overflow_add-at
overflow_add-at c =
    find-fits c.loop-at.invariant c.loop-at-test.true (left-all c.args.list.now c.loop-at.at) c.in_ok-front.ensures.answer

pub title_at-requires-clause-kind_value : goal.title_at-requires-clause-kind_value
title_at-requires-clause-kind_value c =
    let x = left-all c.args.list.now c.loop-at.at in (
      find-kind c.loop-at.invariant c.loop-at-test.true x c.in_ok-front.ensures.answer c.in-Some.is,
      find-size c.loop-at.invariant c.loop-at-test.true x c.in_ok-front.ensures.answer c.in-Some.is,
    )

pub title_at-requires-clause-size_in_bounds : goal.title_at-requires-clause-size_in_bounds
title_at-requires-clause-size_in_bounds c =
    let x = left-all c.args.list.now c.loop-at.at in (
      find-room c.loop-at.invariant c.loop-at-test.true x c.in_ok-front.ensures.answer c.in-Some.is,
      c.loop-at.invariant.short,
      find-least c.loop-at.invariant c.loop-at-test.true x c.in_ok-front.ensures.answer c.in-Some.is,
    )

pub loop-at-smaller-in-Some : goal.loop-at-smaller-in-Some
loop-at-smaller-in-Some c =
    find-less c.loop-at.invariant c.loop-at-test.true (left-all c.args.list.now c.loop-at.at) c.in_ok-front.ensures.answer

pub loop-at-smaller : goal.loop-at-smaller
loop-at-smaller c =
    find-less c.loop-at.invariant c.loop-at-test.true (left-all c.args.list.now c.loop-at.at) c.in_ok-front.ensures.answer

pub loop-at-preserved-in-Some : goal.loop-at-preserved-in-Some
loop-at-preserved-in-Some c =
    let step =
    find-next c.loop-at.invariant c.loop-at-test.true (left-all c.args.list.now c.loop-at.at) c.in_ok-front.ensures.answer
    c.in-Some.is {y = c.title_at.result} (omega arith) c.title_at.ensures.says in
    search rules

pub loop-at-preserved : goal.loop-at-preserved
loop-at-preserved c =
    find-other c.loop-at.invariant c.loop-at-test.true (left-all c.args.list.now c.loop-at.at) c.in_ok-front.ensures.answer
    c.in_default.is

pub returns : goal.returns
returns c = search (rules, finding)

pub returns-then-most-n : goal.returns-then-most-n
returns-then-most-n c =
    record {
      found =
          find-many c.loop-at.invariant c.loop-at-test.true (left-all c.args.list.now c.loop-at.at) c.in_ok-front.ensures.answer
          c.in-Some.is {m = 128} (omega arith) refl;
    }
