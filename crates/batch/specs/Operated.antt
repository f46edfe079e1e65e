-- One command on words (RULES 8.2 and 8.3), for this crate's private functions: what the function of its operation does to any words
-- under a header, and where its answer is written. That this is document 01's command where the words show a sound State is proved in
-- proofs/.
use Rattle.std.specs.Prelude.{List, set, ℕ, ◌+◌}
use Rattle.tree.specs.declared.Answer.{Answer}
use Rattle.tree.specs.Codes.{code_of, number_of}
use Rattle.format.specs.declared.Header.{Header}
use Rattle.format.specs.Performing.{Written, written}
use Rattle.encoding.specs.declared.Operation.{Operation}
use Rattle.encoding.specs.declared.Operation.TheVariants.{Search, Insert, Delete, Step, Settle, AtOrAbove, Count, DeleteSpan}
use Rattle.encoding.specs.declared.Command.{Command}
use Rattle.updates.specs.Updating.{search_under, insert_under, delete_under}
use Rattle.spans.specs.Spanning.{at_or_above, count_under, delete_span_under}
use Rattle.steps.specs.Steps.{step_under, settle_under}

unfoldable pub operated : Operation → ℕ → ℕ → List ℕ → Header → Written
operated Search a b p h = written p (search_under p h.root a) h
operated Insert a b p h = insert_under p h a
operated Delete a b p h = delete_under p h a
operated Step a b p h = step_under p h a b
operated Settle a b p h = settle_under p h a
operated AtOrAbove a b p h = written p (at_or_above p h.root a) h
operated Count a b p h = written p (count_under p h.root a b) h
operated DeleteSpan a b p h = delete_span_under p h a b

unfoldable pub perform_on : Command → List ℕ → Header → Written
perform_on c p h = operated c.operation c.first c.second p h

-- RULES 8.3: "Each command fills two answer words, code and number": here from word i on. Past the end nothing is written.
unfoldable pub put_answer : List ℕ → ℕ → Answer → List ℕ
put_answer out i a = set (set out i (code_of a)) (i + 1) (number_of a)
