-- Documents 01, The batch (RULES 7), and 02 (vii) (RULES 18): the table of operations, each with its number and how many arguments it has. The one place for it.
use Rattle.std.specs.Prelude.{List, [], ◌∷◌, ℕ, zero, suc, Option, Some, None}
use Rattle.std.proofs.Math.Option.{none, some}
use Rattle.std.proofs.Math.ListN.{get_elem?}
use Rattle.encoding.specs.declared.Operation.{Operation}
use Rattle.encoding.specs.declared.Operation.TheVariants.{Search, Insert, Delete, Step, Settle, AtOrAbove, Count, DeleteSpan}

-- RULES 7.3: "1 search key; 2 insert key; 3 delete key; 4 step slot kind; 5 settle budget"; by 02 (vii) (RULES 18.1) "three new batch commands: 6 [..];
-- 7 [..]; 8", the first with a key, the others with two: "the operation numbers 6 to 8 are no longer code 3."
abbrev pub operation_number : Operation → ℕ
operation_number Search = 1
operation_number Insert = 2
operation_number Delete = 3
operation_number Step = 4
operation_number Settle = 5
operation_number AtOrAbove = 6
operation_number Count = 7
operation_number DeleteSpan = 8

abbrev pub arguments : Operation → ℕ
arguments Search = 1
arguments Insert = 1
arguments Delete = 1
arguments Step = 2
arguments Settle = 1
arguments AtOrAbove = 1
arguments Count = 2
arguments DeleteSpan = 2

-- in the order of their numbers
abbrev pub operations : List Operation
operations = Search ∷ Insert ∷ Delete ∷ Step ∷ Settle ∷ AtOrAbove ∷ Count ∷ DeleteSpan ∷ []

-- the operation that a number names
abbrev pub which : ℕ → Option Operation
which zero = None
which (suc n) = elim (get_elem? operations n) [ some o ↦ Some o | none ↦ None ]
