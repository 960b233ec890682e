-- Every turn writes a block, and leaves index and chased samples as they are after it.
use Rattle.std.proofs.Common.{rules, arith}
use Rattle.encode.proofs.Loops.{mono-begins, mono-next, mono-coding}
use Rattle.encode.proofs.mono_blocks.Goals as goal

pub loop-i-init : goal.loop-i-init
loop-i-init c =
    mono-begins (omega arith) (omega arith) (omega arith) (omega arith) (search rules) (search rules) (search rules) (search rules) (omega arith)

pub mono_block-channel-requires : goal.mono_block-channel-requires
mono_block-channel-requires c = search (rules, mono-coding)

pub overflow_add-frame-in-loop-i : goal.overflow_add-frame-in-loop-i
overflow_add-frame-in-loop-i c = search (rules, mono-coding)

pub loop-i-preserved : goal.loop-i-preserved
loop-i-preserved c = mono-next c.loop-i.invariant (omega arith) (search rules) (omega arith)

pub returns-clause-answer : goal.returns-clause-answer
returns-clause-answer c = search (rules, mono-coding)

pub returns-clause-buffer : goal.returns-clause-buffer
returns-clause-buffer c = search (rules, mono-coding)
