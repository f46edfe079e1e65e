-- One command on words that show a sound State: it answers what document 01's command answers, and the header and words after it show
-- the State after it (`perform_shows`). Why: each operation has such a law of its own. Assumes nothing.
use mathlib.Core.List.{List}
use Prim.Native.Nat.{ℕ}
use Rattle.tree.specs.State.{State, Sound}
use Rattle.tree.specs.Spans.{next_from, count_span}
use Rattle.tree.proofs.Updated.{search_kept}
use Rattle.format.specs.declared.Header.{Header}
use Rattle.format.specs.Shows.{Shows}
use Rattle.format.proofs.Performing.{Does}
use Rattle.encoding.specs.declared.Operation.{Operation}
use Rattle.encoding.specs.declared.Operation.TheVariants.{Search, Insert, Delete, Step, Settle, AtOrAbove, Count, DeleteSpan}
use Rattle.encoding.specs.declared.Command.{Command}
use Rattle.encoding.specs.Batch.{operation, perform}
use Rattle.updates.proofs.SearchShows.{search_shows}
use Rattle.updates.proofs.InsertShows.{insert_shows}
use Rattle.updates.proofs.DeleteShows.{delete_shows}
use Rattle.spans.proofs.NextShows.{next_shows}
use Rattle.spans.proofs.CountShows.{count_shows}
use Rattle.spans.proofs.SpanShows.{span_shows}
use Rattle.steps.proofs.StepShows.{step_shows}
use Rattle.steps.proofs.SettleShows.{settle_shows}
use Rattle.batch.specs.Operated.{operated, perform_on}

operation_shows : (o : Operation) (a b : ℕ) {h : Header} {p : List ℕ} {S : State} → Sound S → Shows h p S → Does (operated o a b p h) (operation o a b S)
unfolding operated operation next_from count_span
operation_shows Search a b {S = S} g s = record { answers = search_shows a g s; shows = rw (search_kept a S g) s }
operation_shows Insert a b g s = insert_shows a g s
operation_shows Delete a b g s = delete_shows a g s
operation_shows Step a b g s = step_shows g s a b
operation_shows Settle a b g s = settle_shows g s a
operation_shows AtOrAbove a b g s = record { answers = next_shows a g s; shows = s }
operation_shows Count a b g s = record { answers = count_shows a b g s; shows = s }
operation_shows DeleteSpan a b g s = span_shows a b g s

pub perform_shows : (c : Command) {h : Header} {p : List ℕ} {S : State} → Sound S → Shows h p S → Does (perform_on c p h) (perform c S)
unfolding perform_on perform
perform_shows c g s = operation_shows c.operation c.first c.second g s
