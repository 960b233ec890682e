-- A record that breaks a rule is refused as its verdict says.
use Rattle.std.proofs.Common.{rules, arith, ◌≡◌, ◌++◌, Err}
use Rattle.std.proofs.lemmas.Grind.{common_steps}
use Rattle.writer.specs.File.{writing_by}
use Rattle.writer.proofs.Settling.{settling}
use Rattle.writer.proofs.settle.Goals as goal

pub returns-in_err-record_verdict : goal.returns-in_err-record_verdict
returns-in_err-record_verdict c =
    let refused : c.record_verdict.result ≡ Err c.in_err-record_verdict.field-0.0 = c.in_err-record_verdict.was in
    let told : Err c.in_err-record_verdict.field-0.0
    ≡ writing_by c.args.right c.args.made c.args.texts.now (c.args.first.now ++ c.args.second.now) c.args.room = search (rules, settling) in
    grind (arith, common_steps, told)
