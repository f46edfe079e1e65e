-- A batch's own answer, with 0 for the number where it ran, is returned as its code and number. Assumes nothing.
use mathlib.Core.Path.{◌≡◌, refl}
use Prim.Native.Nat.{ℕ}
use Rattle.std.specs.Prelude.{Result, Ok, Err}
use Rattle.std.specs.Result.{result_and}
use Rattle.tree.specs.declared.Refusal.{Refusal}
use Rattle.tree.specs.Codes.{answer_of}
use Rattle.encoding.specs.Batch.{Call}
use Rattle.batch.specs.Answered.{call_code, call_number}
use Rattle.chromatic.specs.Exports.{returned, returned_answer}

pub called : (r : Result (Unit {0}) Refusal) (k : Call) → call_code r ≡ k.code → call_number r ≡ k.number
    → returned_answer (answer_of (result_and {U = ℕ} r (Ok 0))) ≡ returned k
unfolding returned returned_answer call_code call_number
called (Ok done) k c n = rw (← c, ← n) refl
called (Err f) k c n = rw (← c, ← n) refl
