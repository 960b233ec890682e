-- As in mono, for each channel.
use Rattle.std.proofs.Common.{rules, arith}
use Rattle.encode.proofs.Loops.{stereo-begins, stereo-next, stereo-coding}
use Rattle.encode.proofs.stereo_blocks.Goals as goal

pub loop-i-init : goal.loop-i-init
loop-i-init c =
    stereo-begins (omega arith) (omega arith) (omega arith) (omega arith) (search rules) (search rules) (search rules) (search rules)
    (search rules) (search rules) (omega arith)

pub stereo_block-channels-requires : goal.stereo_block-channels-requires
stereo_block-channels-requires c = search (rules, stereo-coding)

pub overflow_add-at-in-loop-i : goal.overflow_add-at-in-loop-i
overflow_add-at-in-loop-i c = search (rules, stereo-coding)

pub loop-i-preserved : goal.loop-i-preserved
loop-i-preserved c = stereo-next c.loop-i.invariant (omega arith) (search rules) (omega arith)

pub returns-clause-left_chased : goal.returns-clause-left_chased
returns-clause-left_chased c = search (rules, stereo-coding)

pub returns-clause-right_chased : goal.returns-clause-right_chased
returns-clause-right_chased c = search (rules, stereo-coding)

pub returns-clause-buffer : goal.returns-clause-buffer
returns-clause-buffer c = search (rules, stereo-coding)
