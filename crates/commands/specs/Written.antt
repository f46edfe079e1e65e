-- The bytes of commands, as a writer writes them (RULES 7): what a good batch is, read the other way.
use Rattle.std.specs.Prelude.{◌≡◌, true, false, List, [], ◌∷◌, ◌++◌, eqb, ℕ, ◌<◌}
use Rattle.tree.specs.State.{key_end}
use Rattle.encoding.specs.declared.Operation.{Operation}
use Rattle.encoding.specs.declared.Command.{Command}
use Rattle.encoding.specs.Operations.{operation_number, arguments}
use Rattle.numbers.specs.Shortest.{bytes_of}

-- the last argument, of an operation that has two
unfoldable pub second_bytes : Operation → ℕ → List ℕ
second_bytes o b = elim (eqb (arguments o) 1) [ true ↦ [] | false ↦ bytes_of b ]

-- RULES 7.4 and 7.5: "A command is an operation number and its arguments."
unfoldable pub command_bytes : Command → List ℕ
command_bytes c = bytes_of (operation_number c.operation) ++ (bytes_of c.first ++ second_bytes c.operation c.second)

unfoldable pub batch_bytes : List Command → List ℕ
batch_bytes [] = []
batch_bytes (c ∷ cs) = command_bytes c ++ batch_bytes cs

-- arguments are "at most 4,294,967,295"; one that the operation does not have is 0
pub record Fits (c : Command) : Type 0 where
  pub first_small : c.first < key_end
  pub second_small : c.second < key_end
  pub second_none : arguments c.operation ≡ 1 → c.second ≡ 0

unfoldable pub AllFit : List Command → Type 0
AllFit [] = Unit {0}
AllFit (c ∷ cs) = Fits c × AllFit cs
