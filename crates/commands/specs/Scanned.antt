-- What a first look at a batch finds: how many commands it has, or the byte at which it goes wrong. This page serves RULES 7.
use Rattle.std.specs.Prelude.{length, ℕ, Result, Ok, Err}
use Rattle.encoding.specs.declared.Fault.{Fault}
use Rattle.encoding.specs.Numbers.{fault}
use Rattle.encoding.specs.Batch.{Batch, commands, bad_at}

unfoldable pub scanned : Batch → Result ℕ Fault
scanned (commands cs) = Ok (length cs)
scanned (bad_at i) = Err (fault i)
