-- A step that is refused ends the walk, a chunk leads on to a later place, and behind the last one nothing is left.
use Rattle.std.proofs.Common.{rules, arith, ◌≡◌, Ok, Err}
use Rattle.std.proofs.lemmas.Grind.{common_steps}
use Rattle.riff.specs.Walk.{walk_of}
use Rattle.riff.proofs.Walking.{walking}
use Rattle.riff.proofs.walk.Goals as goal

pub returns-in_err-place : goal.returns-in_err-place
returns-in_err-place c =
    let refused : c.chunk_at.result ≡ Err c.in_err-place.field-0.0 = c.in_err-place.was in
    let stopped : Err c.in_err-place.field-0.0 ≡ walk_of c.args.file.now = search (rules, walking) in
    grind (arith, common_steps, stopped)

pub loop-at-smaller-then-is_kept : goal.loop-at-smaller-then-is_kept
loop-at-smaller-then-is_kept c = let met : c.chunk_at.result ≡ Ok c.in_ok-place.place = c.in_ok-place.was in search (rules, walking)

pub loop-at-smaller : goal.loop-at-smaller
loop-at-smaller c = let met : c.chunk_at.result ≡ Ok c.in_ok-place.place = c.in_ok-place.was in search (rules, walking)

pub loop-at-preserved-then-is_kept : goal.loop-at-preserved-then-is_kept
loop-at-preserved-then-is_kept c = let met : c.chunk_at.result ≡ Ok c.in_ok-place.place = c.in_ok-place.was in search (rules, walking)

pub loop-at-preserved : goal.loop-at-preserved
loop-at-preserved c = let met : c.chunk_at.result ≡ Ok c.in_ok-place.place = c.in_ok-place.was in search (rules, walking)

pub returns : goal.returns
returns c = search (rules, walking)
