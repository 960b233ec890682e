-- What every format has, and behind it what the tag asks for.
use Rattle.std.proofs.Common.{rules, arith, ◌≢◌}
use Rattle.formats.proofs.Putting.{format-putting}
use Rattle.formats.proofs.put_format.Goals as goal

pub put_shared-requires : goal.put_shared-requires
put_shared-requires c = search (rules, format-putting)

pub put_extension-requires : goal.put_extension-requires
put_extension-requires c = search (rules, format-putting)

pub put_extension-requires-in_default : goal.put_extension-requires-in_default
put_extension-requires-in_default c = search (rules, format-putting)

pub put_coefficients-requires : goal.put_coefficients-requires
put_coefficients-requires c = search (rules, format-putting)

pub returns-in-1 : goal.returns-in-1
returns-in-1 c = search (rules, format-putting)

pub returns-in-17 : goal.returns-in-17
returns-in-17 c =
    let n : c.args.format.tag ≢ 1 = omega arith in
    search (rules, format-putting)

pub returns-in_default : goal.returns-in_default
returns-in_default c = search (rules, format-putting)
