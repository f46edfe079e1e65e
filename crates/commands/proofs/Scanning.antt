-- The invariant of the loop that counts a batch's commands: what it found so far, and what is found from here on, make the whole.
-- Assumes nothing.
use mathlib.Core.Path.{◌≡◌, refl, sym, ap, ◌∙◌}
use mathlib.Core.List.{List, []}
use Prim.Native.Nat.{ℕ, ◌+◌, ◌-◌, ◌≤◌, ◌<◌}
use native.Mathlib.Nat.{add-zero}
use native.Mathlib.Omega.{arith}
use lib.ListN.{length}
use Rattle.encoding.specs.declared.Command.{Command}
use Rattle.encoding.specs.declared.Fault.{Fault}
use Rattle.encoding.specs.Numbers.{fault}
use Rattle.std.specs.Prelude.{Ok, Err, Result}
use Rattle.encoding.specs.Batch.{most_commands, command_at, Batch, commands, bad_at, after, read_from, read_batch}
use Rattle.commands.specs.Scanned.{scanned}
use Rattle.commands.proofs.Reading.{read_end, read_over, read_fault, read_good}

-- k commands before what was found
abbrev pub counted : ℕ → Result ℕ Fault → Result ℕ Fault
counted k (Ok n) = Ok (k + n)
counted k (Err f) = Err f

counted_none : (s : Result ℕ Fault) → counted 0 s ≡ s
counted_none (Ok n) = ap Ok (omega arith)
counted_none (Err f) = refl

counted_one : (k : ℕ) (c : Command) (b : Batch) → counted k (scanned (after c b)) ≡ counted (k + 1) (scanned b)
unfolding scanned after
counted_one k c (commands cs) = ap Ok (omega arith)
counted_one k c (bad_at i) = refl

pub record Scanning (bytes : List ℕ) (count at : ℕ) : Type 0 where
  pub few : count ≤ most_commands
  pub rest : counted count (scanned (read_from (most_commands - count) bytes at)) ≡ scanned (read_batch bytes)

pub scan_starts : (bytes : List ℕ) → Scanning bytes 0 0
unfolding read_batch
scan_starts bytes = record { few = omega arith; rest = counted_none (scanned (read_from most_commands bytes 0)) }

module _ {bytes : List ℕ} {count at : ℕ} (s : Scanning bytes count at) where
  answer : (b : Batch) → read_from (most_commands - count) bytes at ≡ b → counted count (scanned b) ≡ scanned (read_batch bytes)
  answer b e = rw e at s.rest

  pub scan_ends : length bytes ≤ at → Ok count ≡ scanned (read_batch bytes)
  unfolding scanned
  scan_ends h = ap Ok (sym (add-zero count)) ∙ answer (commands []) (read_end bytes (most_commands - count) at h)

  pub scan_over : at < length bytes → count ≡ most_commands → Err (fault at) ≡ scanned (read_batch bytes)
  unfolding scanned
  scan_over h e = answer (bad_at at) (read_over bytes (most_commands - count) at h (omega arith))

  pub scan_fault : (f : Fault) → at < length bytes → (count ≡ most_commands → ⊥) → command_at bytes at ≡ Err f → Err f ≡ scanned (read_batch bytes)
  unfolding scanned
  scan_fault f h z e = let r = s.few in answer (bad_at f.place) (read_fault bytes (most_commands - count) at f.place h (λ y. omega arith) e)

  pub scan_good : (c : Command) (next : ℕ) → at < length bytes → (count ≡ most_commands → ⊥) → command_at bytes at ≡ Ok (c, next)
      → Scanning bytes (count + 1) next
  scan_good c next h z e =
      let more : most_commands - count - 1 ≡ most_commands - (count + 1) = omega arith in let r = s.few in
      let read = read_good bytes (most_commands - count) at c next h (λ y. omega arith) e in
      record {
        few = omega arith;
        rest = rw (← more) (sym (counted_one count c (read_from (most_commands - count - 1) bytes next)) ∙ answer _ read);
      }
