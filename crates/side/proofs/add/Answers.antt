-- The song's refusals come first, then that the side is none, then the verdict on adding; and a song that it takes goes behind the
-- others, with the titles as they stand in the side's list.
use mathlib.Core.Path.{sym}
use Rattle.std.proofs.Common.{rules, arith, ◌≡◌, length, Ok, Err}
use Rattle.std.proofs.lemmas.Grind.{common_steps}
use Rattle.units.specs.Refusals.{Verdict}
use Rattle.reader.specs.Content.{reading}
use Rattle.side.specs.Adding.{adding}
use Rattle.side.proofs.Adding.{adds}
use Rattle.side.proofs.add.Goals as goal

pub returns-in_err-sent-clause-answer : goal.returns-in_err-sent-clause-answer
returns-in_err-sent-clause-answer c =
    let song : reading c.args.song.now ≡ Err c.in_err-sent.field-0.0 = sym c.in_err-sent.ensures.answer in
    let told : Err c.in_err-sent.field-0.0 ≡ adding c.args.side.now c.args.song.now c.args.number c.args.limit (length c.args.out.now) =
    search (rules, adds) in
    grind (arith, common_steps, told)

pub returns-in_default-clause-answer : goal.returns-in_default-clause-answer
returns-in_default-clause-answer c =
    let song : reading c.args.song.now ≡ Ok c.in_ok-sent.sent.made = sym c.in_ok-sent.ensures.answer in
    let side : reading c.args.side.now ≡ Err c.in_default.field-0 = sym c.in_default.ensures.answer in
    search (rules, adds)

pub settle-requires : goal.settle-requires
settle-requires c = let side : reading c.args.side.now ≡ Ok c.in-Ok.old.made = sym c.in-Ok.ensures.answer in search (rules, adds)

pub returns-in_err-settle-clause-answer : goal.returns-in_err-settle-clause-answer
returns-in_err-settle-clause-answer c =
    let song : reading c.args.song.now ≡ Ok c.in_ok-sent.sent.made = sym c.in_ok-sent.ensures.answer in
    let side : reading c.args.side.now ≡ Ok c.in-Ok.old.made = sym c.in-Ok.ensures.answer in
    let song_stands = c.in_ok-sent.ensures.sound in
    let side_stands = c.in-Ok.ensures.sound in
    let refused : c.settle.result ≡ Err c.in_err-settle.field-0.0 = c.in_err-settle.was in
    let told : Err c.in_err-settle.field-0.0 ≡ adding c.args.side.now c.args.song.now c.args.number c.args.limit (length c.args.out.now) =
    search (rules, adds) in
    grind (arith, common_steps, told)

pub with_song-made-requires-clause-made_value : goal.with_song-made-requires-clause-made_value
with_song-made-requires-clause-made_value c =
    let side : reading c.args.side.now ≡ Ok c.in-Ok.old.made = sym c.in-Ok.ensures.answer in
    let taken : ◌≡◌ {A = Verdict} c.settle.result (Ok tt) = c.in_ok-settle.was in
    search (rules, adds)

pub with_song-made-requires-clause-frames_bound : goal.with_song-made-requires-clause-frames_bound
with_song-made-requires-clause-frames_bound c =
    let taken : ◌≡◌ {A = Verdict} c.settle.result (Ok tt) = c.in_ok-settle.was in search (rules, adds)

pub join-requires : goal.join-requires
join-requires c =
    let song : reading c.args.song.now ≡ Ok c.in_ok-sent.sent.made = sym c.in_ok-sent.ensures.answer in
    let side : reading c.args.side.now ≡ Ok c.in-Ok.old.made = sym c.in-Ok.ensures.answer in
    let song_stands = c.in_ok-sent.ensures.sound in
    let side_stands = c.in-Ok.ensures.sound in
    let list_stands = c.in-Ok.ensures.titles in
    let taken : ◌≡◌ {A = Verdict} c.settle.result (Ok tt) = c.in_ok-settle.was in
    search (rules, adds)

pub returns-clause-answer : goal.returns-clause-answer
returns-clause-answer c =
    let song : reading c.args.song.now ≡ Ok c.in_ok-sent.sent.made = sym c.in_ok-sent.ensures.answer in
    let side : reading c.args.side.now ≡ Ok c.in-Ok.old.made = sym c.in-Ok.ensures.answer in
    let song_stands = c.in_ok-sent.ensures.sound in
    let side_stands = c.in-Ok.ensures.sound in
    let list_stands = c.in-Ok.ensures.titles in
    let taken : ◌≡◌ {A = Verdict} c.settle.result (Ok tt) = c.in_ok-settle.was in
    search (rules, adds)

pub returns-clause-buffer : goal.returns-clause-buffer
returns-clause-buffer c =
    let song : reading c.args.song.now ≡ Ok c.in_ok-sent.sent.made = sym c.in_ok-sent.ensures.answer in
    let side : reading c.args.side.now ≡ Ok c.in-Ok.old.made = sym c.in-Ok.ensures.answer in
    let song_stands = c.in_ok-sent.ensures.sound in
    let side_stands = c.in-Ok.ensures.sound in
    let list_stands = c.in-Ok.ensures.titles in
    let taken : ◌≡◌ {A = Verdict} c.settle.result (Ok tt) = c.in_ok-settle.was in
    search (rules, adds)
