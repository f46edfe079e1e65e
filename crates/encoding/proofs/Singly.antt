-- A delete of a span amid other commands: the State after them all is the one that single deletes of its keys, smallest first, leave in its place
-- (`span_singly`). By the definition: it is those deletes. Assumes nothing.
use mathlib.Core.Path.{◌≡◌, refl, ap, sym, ◌∙◌}
use mathlib.Core.List.{List, [], ◌∷◌, ◌++◌}
use Prim.Native.Nat.{ℕ}
use Rattle.tree.specs.State.{State, delete}
use Rattle.tree.specs.Spans.{keys_from, delete_each, delete_span}
use Rattle.encoding.specs.declared.Operation.TheVariants.{DeleteSpan}
use Rattle.encoding.specs.declared.Command.{Command}
use Rattle.encoding.specs.Batch.{command, operation, perform, run_all}
use Rattle.encoding.specs.Singly.{deletes}
use Rattle.encoding.proofs.AnswerWords.{run_append}

pub run_deletes : (ks : List ℕ) (S : State) → run_all (deletes ks) S ≡ delete_each ks S
unfolding run_all deletes delete_each perform operation
run_deletes [] S = refl
run_deletes (k ∷ ks) S = run_deletes ks (delete k S).after

pub span_singly : (before rest : List Command) (a b : ℕ) (S : State)
    → run_all (before ++ (command DeleteSpan a b ∷ rest)) S ≡ run_all (before ++ (deletes (keys_from a b (run_all before S)) ++ rest)) S
unfolding run_all perform operation delete_span
span_singly before rest a b S =
    let T = run_all before S in
    let ks = keys_from a b T in
    run_append before (command DeleteSpan a b ∷ rest) S
    ∙ (ap (run_all rest) (sym (run_deletes ks T)) ∙ (sym (run_append (deletes ks) rest T) ∙ sym (run_append before (deletes ks ++ rest) S)))
