-- Its form, then the rule; then the titles that were found, moved to where their texts go.
use Rattle.std.proofs.Common.{rules, ◌∙◌}
use Rattle.tables.specs.Cues.{names_in}
use Rattle.titles.proofs.Lists.{valid_list, unformed}
use Rattle.titles.proofs.read_list.Goals as goal

pub returns-in_err-titles : goal.returns-in_err-titles
returns-in_err-titles c =
    record {
      answer = c.from_residual.ensures ∙ unformed c.args.lost c.args.list.now (names_in c.args.cues) c.in_err-titles.ensures.found;
    }

pub counted-there-requires : goal.counted-there-requires
counted-there-requires c = let w = c.in_ok-titles.ensures.found in search (rules, valid_list)

pub returns-then-not-rule_for : goal.returns-then-not-rule_for
returns-then-not-rule_for c = let w = c.in_ok-titles.ensures.found in search (rules, valid_list)

pub rule_for-requires : goal.rule_for-requires
rule_for-requires c = let w = c.in_ok-titles.ensures.found in search (rules, valid_list)

pub in_turn-requires : goal.in_turn-requires
in_turn-requires c = let w = c.in_ok-titles.ensures.found in search (rules, valid_list)

pub returns : goal.returns
returns c = let w = c.in_ok-titles.ensures.found in search (rules, valid_list)
