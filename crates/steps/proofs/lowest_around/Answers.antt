-- The search of the table of kinds is the search of the list of kinds. Assumes nothing.
use Rattle.std.proofs.Common.{rules, tests, ◌∙◌}
use Rattle.std.proofs.lemmas.Iterator.{YieldsList-from_slice}
use Rattle.std.proofs.lemmas.Iterator.Search.{find_from_yields_List}
use Rattle.tree.specs.Codes.{kinds}
use Rattle.steps.specs.Steps.{allowed_around, lowest_around}
use Rattle.steps.proofs.lowest_around.Goals as goal

pub returns : goal.returns
unfolding lowest_around
returns c =
    let found = find_from_yields_List (λ k. allowed_around k c.args.h c.args.s c.args.a) _ _ c.find.result c.find.ensures.ran
    (YieldsList-from_slice kinds cc) (λ x b q k. search (rules, tests)) in
    c.copied.ensures ∙ found
