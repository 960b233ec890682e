-- The titles of the list are the record's, wherever their texts stand.
use Rattle.std.proofs.Common.{rules}
use Rattle.side.proofs.Adding.{carrying}
use Rattle.side.proofs.join.Goals as goal

pub write_joined-requires : goal.write_joined-requires
write_joined-requires c = search (rules, carrying)

pub returns-clause-buffer : goal.returns-clause-buffer
returns-clause-buffer c = search (rules, carrying)
