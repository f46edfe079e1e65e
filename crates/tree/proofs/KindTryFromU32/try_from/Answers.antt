-- The search of the table of kinds is the search of the list of kinds, which finds the kind that the number names. Assumes nothing.
use Rattle.std.proofs.Common.{rules, tests, ◌∙◌}
use Rattle.std.specs.Prelude.{◌==◌}
use Rattle.std.proofs.lemmas.Iterator.{YieldsList-from_slice}
use Rattle.std.proofs.lemmas.Iterator.Search.{find_from_yields_List}
use Rattle.tree.specs.Codes.{kinds, kind_number}
use Rattle.tree.proofs.KindNumbers.{kind_found}
use Rattle.tree.proofs.KindTryFromU32.try_from.Goals as goal

pub returns : goal.returns
returns c =
    let found = find_from_yields_List (λ k. kind_number k == c.args.number) _ _ c.find.result c.find.ensures.ran
    (YieldsList-from_slice kinds cc) (λ x b q k. search (rules, tests)) in
    rw (c.ok_or.ensures.value, c.copied.ensures ∙ found) (kind_found c.args.number)
