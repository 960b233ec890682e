-- In either branch the sign of the difference is known; in the first one it is taken the other way round.
use Rattle.std.proofs.Common.{rules}
use Rattle.std.specs.Int.{w32}
use Rattle.samples.proofs.Signed.{back}
use Rattle.ima_code.proofs.Coding.{encoding, flipped}
use Rattle.ima_code.proofs.encode_code.Goals as goal

pub returns-then-sample-last : goal.returns-then-sample-last
returns-then-sample-last c =
    let e = flipped (back w32 c.from-last.result) (back w32 c.from-sample.result) (search rules) in
    search (rules, encoding, e)

pub returns : goal.returns
returns c = search (rules, encoding)
