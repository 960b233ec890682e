-- The pairs before the i-th stand where they must; each turn compares one more.
use Rattle.std.proofs.Common.{rules}
use Rattle.formats.proofs.Pairs.{pairing}
use Rattle.formats.proofs.has_pairs.Goals as goal

pub returns-then-not-has_pair : goal.returns-then-not-has_pair
returns-then-not-has_pair c = search (rules, pairing)

pub loop-i-preserved : goal.loop-i-preserved
loop-i-preserved c = search (rules, pairing)

pub returns : goal.returns
returns c = search (rules, pairing)
