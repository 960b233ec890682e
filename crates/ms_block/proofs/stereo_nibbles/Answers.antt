-- A turn writes the frame of a byte.
use Rattle.std.proofs.Common.{rules, arith}
use Rattle.ms_block.proofs.Nibbles.{stereo-begins, stereo-turn, stereo-ends}
use Rattle.ms_block.proofs.stereo_nibbles.Goals as goal

pub loop-i-init : goal.loop-i-init
loop-i-init c = stereo-begins (omega arith) (omega arith) (search rules) (search rules) (search rules) (omega arith)

pub loop-i-preserved : goal.loop-i-preserved
loop-i-preserved c =
    stereo-turn c.loop-i.invariant (omega arith) {a = c.decode_nibble-left.result} {b = c.decode_nibble-right.result} (omega arith)
    (search rules) (search rules) (search rules) (search rules) (search rules) (search rules) (search rules) (search rules)

pub returns : goal.returns
returns c = record { buffer = stereo-ends c.loop-i.invariant (omega arith) }
