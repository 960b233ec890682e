-- A turn writes the two frames of a byte of each channel; an odd frame is the last.
use Rattle.std.proofs.Common.{rules, arith, ◌/◌}
use Rattle.ima_block.proofs.Codes.{stereo-begins, stereo-turn, stereo-odd, stereo-even}
use Rattle.ima_block.proofs.stereo_codes.Goals as goal

pub loop-i-init : goal.loop-i-init
loop-i-init c =
    stereo-begins (omega arith) (search rules) (omega arith) (search rules) (search rules) (search rules) (search rules) (omega arith) (omega arith)

pub loop-i-preserved : goal.loop-i-preserved
loop-i-preserved c =
    stereo-turn c.loop-i.invariant {a = c.decode_code-a.result} {b = c.decode_code-b.result}
    {c = c.decode_code-c.result} {d = c.decode_code-d.result} (omega arith) (omega arith) (omega arith) (omega arith)
    (search rules) (search rules) (search rules) (search rules) (search rules) (search rules) (search rules) (search rules)
    (search rules) (search rules) (search rules) (search rules) (search rules) (search rules) (search rules) (search rules)

pub returns-then-frames-eq1 : goal.returns-then-frames-eq1
returns-then-frames-eq1 c =
    record {
      buffer =
          stereo-odd c.loop-i.invariant {a = c.decode_code-a-then-frames-eq1.result} {b = c.decode_code-b-then-frames-eq1.result}
          {k = c.args.frames / 2} (omega arith) (omega arith) (omega arith)
          (search rules) (search rules) (search rules) (search rules) (search rules) (search rules) (search rules) (search rules);
    }

pub returns-else-frames-eq1 : goal.returns-else-frames-eq1
returns-else-frames-eq1 c = record { buffer = stereo-even c.loop-i.invariant (omega arith) (λ e. omega arith) }
