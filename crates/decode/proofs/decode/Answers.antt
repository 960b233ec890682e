-- A refusal of the reader stands; else the sound that it hands out is what the checks are on.
use Rattle.std.proofs.Common.{rules, arith, ◌≡◌, length, Ok, Err}
use mathlib.Core.Path.{sym}
use Rattle.std.proofs.lemmas.Grind.{common_steps}
use Rattle.reader.specs.Content.{reading}
use Rattle.decode.specs.Decoding.{decoding}
use Rattle.decode.proofs.Files.{files}
use Rattle.decode.proofs.decode.Goals as goal

pub returns-in_err-opened-clause-answer : goal.returns-in_err-opened-clause-answer
returns-in_err-opened-clause-answer c =
    let refused : reading c.args.file.now ≡ Err c.in_err-opened.field-0.0 = sym c.in_err-opened.ensures.answer in
    let told : Err c.in_err-opened.field-0.0 ≡ decoding c.args.file.now (length c.args.out.now) = search (rules, files) in
    grind (arith, common_steps, told)

pub decode_data-requires : goal.decode_data-requires
decode_data-requires c =
    let taken : reading c.args.file.now ≡ Ok c.in_ok-opened.opened.made = sym c.in_ok-opened.ensures.answer in
    let stands = c.in_ok-opened.ensures.sound in
    search (rules, files)

pub returns-clause-answer : goal.returns-clause-answer
returns-clause-answer c =
    let taken : reading c.args.file.now ≡ Ok c.in_ok-opened.opened.made = sym c.in_ok-opened.ensures.answer in
    let stands = c.in_ok-opened.ensures.sound in
    search (rules, files)

pub returns-clause-buffer : goal.returns-clause-buffer
returns-clause-buffer c =
    let taken : reading c.args.file.now ≡ Ok c.in_ok-opened.opened.made = sym c.in_ok-opened.ensures.answer in
    let stands = c.in_ok-opened.ensures.sound in
    search (rules, files)
