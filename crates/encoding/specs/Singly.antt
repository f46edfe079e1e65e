-- 02 (vii): "single deletes in that order" as commands (RULES 18.5).
use Rattle.std.specs.Prelude.{List, [], ◌∷◌, ℕ}
use Rattle.encoding.specs.declared.Operation.TheVariants.{Delete}
use Rattle.encoding.specs.declared.Command.{Command}
use Rattle.encoding.specs.Batch.{command}

unfoldable pub deletes : List ℕ → List Command
deletes [] = []
deletes (k ∷ ks) = command Delete k 0 ∷ deletes ks
