-- What a first look at the batch (`scan`) says of how many lines there are. Assumes nothing.
use mathlib.Core.Path.{◌≡◌, sym}
use mathlib.Core.List.{List}
use Prim.Native.Nat.{ℕ, ◌≤◌}
use native.Mathlib.Omega.{arith}
use Rattle.encoding.specs.Batch.{most_commands, read_batch}
use Rattle.std.specs.Prelude.{Result, Ok, Err}
use Rattle.std.specs.Result.{result_unwrap_or}
use Rattle.encoding.specs.declared.Fault.{Fault}
use Rattle.commands.specs.Scanned.{scanned}
use Rattle.commands.proofs.Running.{batch_size, scanned_commands, scanned_bad}
use Rattle.lines.specs.Printed.{how_many}

pub few : (bytes : List ℕ) (found : Result ℕ Fault) → found ≡ scanned (read_batch bytes) → result_unwrap_or found 0 ≤ most_commands
few bytes (Ok n) e = let s = scanned_commands _ (sym e) in omega (arith, (batch_size bytes s.1).0, s.2)
few bytes (Err f) e = omega arith

pub counted : (bytes : List ℕ) (found : Result ℕ Fault) → found ≡ scanned (read_batch bytes) → result_unwrap_or found 0 ≡ how_many (read_batch bytes)
unfolding how_many
counted bytes (Ok n) e = let s = scanned_commands _ (sym e) in rw (s.1, how_many) (sym s.2)
counted bytes (Err f) e = rw (scanned_bad {i = f.place} _ (sym e), how_many)
