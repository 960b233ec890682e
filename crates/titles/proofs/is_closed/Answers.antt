-- The walk stops at the first zero, or none is there.
use Rattle.std.proofs.Common.{rules, ◌≡◌, ◌==◌, ◌∙◌, sym, position}
use Rattle.std.proofs.lemmas.Iterator.{YieldsList-from_slice}
use Rattle.std.proofs.lemmas.Iterator.Search.{position_from_yields_List}
use borrow.Author.Tests.{tests}
use Rattle.titles.proofs.Rules.{is-closed, is-open}
use Rattle.titles.proofs.is_closed.Goals as goal

pub returns-in-Some : goal.returns-in-Some
returns-in-Some c =
    let e : c.position.result ≡ position (λ y. y == 0) c.args.text.now =
    position_from_yields_List (λ y. y == 0) _ _ c.position.result c.position.ensures.ran
    (YieldsList-from_slice c.args.text.now (search rules)) (λ x b q k. search (rules, tests)) in
    let f = is-closed c.args.text.now (sym c.in-Some.is ∙ e) in
    search rules

pub returns-in-None : goal.returns-in-None
returns-in-None c =
    let e : c.position.result ≡ position (λ y. y == 0) c.args.text.now =
    position_from_yields_List (λ y. y == 0) _ _ c.position.result c.position.ensures.ran
    (YieldsList-from_slice c.args.text.now (search rules)) (λ x b q k. search (rules, tests)) in
    let f = is-open c.args.text.now (sym c.in-None.is ∙ e) in
    search rules
