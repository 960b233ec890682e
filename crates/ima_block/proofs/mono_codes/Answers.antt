-- A turn writes the two frames of a byte; an odd frame is the last.
use Rattle.std.proofs.Common.{rules, arith, ◌+◌, ◌/◌}
use Rattle.codec.proofs.Loops.{single-turn, single-odd, single-even}
use Rattle.ima_block.proofs.mono_codes.Goals as goal

pub loop-i-preserved : goal.loop-i-preserved
loop-i-preserved c =
    single-turn c.loop-i.invariant (omega arith) {x = c.decode_code-low.result} {y = c.decode_code-high.result}
    (search rules) (search rules) (omega arith) (omega arith) (omega arith) (omega arith) (search rules) (search rules)
    (search rules) (search rules) (search rules)

pub returns-then-frames-eq1 : goal.returns-then-frames-eq1
returns-then-frames-eq1 c =
    record {
      buffer =
          single-odd c.loop-i.invariant (omega arith) {x = c.decode_code-next.result} {j = 4 + c.args.frames / 2}
          (omega arith) (omega arith) (search rules) (search rules) (search rules);
    }

pub returns-else-frames-eq1 : goal.returns-else-frames-eq1
returns-else-frames-eq1 c = record { buffer = single-even c.loop-i.invariant (omega arith) (λ e. omega arith) }
