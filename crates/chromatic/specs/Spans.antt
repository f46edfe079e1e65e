-- 02 (vii) as a host sees it (RULES 18): the two answer words of a command 6, and "single deletes in that order" as exported calls.
use Rattle.std.specs.Prelude.{◌≡◌, List, [], ◌∷◌, ℕ, ◌≤◌, ◌<◌}
use Rattle.encoding.specs.declared.Operation.TheVariants.{Delete}
use Rattle.encoding.specs.Batch.{command, batch}
use Rattle.commands.specs.Written.{command_bytes}
use Rattle.set.specs.Set.{member}

-- RULES 18.2: 0 and the smallest key of the set at or above x; or 6 and 0, and none is there.
pub data NextWords (x : ℕ) (p : List ℕ) : (code number : ℕ) → Type 0 where
  next_word : {k : ℕ} → x ≤ k → member k p ≡ 1 → ((y : ℕ) → x ≤ y → y < k → member y p ≡ 0) → NextWords x p 0 k
  none_word : ((y : ℕ) → x ≤ y → member y p ≡ 0) → NextWords x p 6 0

-- RULES 18.5: batch calls one after the other, each with the bytes of one delete and two answer words: what the last one leaves in the pool.
unfoldable pub singly : List ℕ → List ℕ → List ℕ
singly [] p = p
singly (k ∷ ks) p = singly ks (batch p (command_bytes (command Delete k 0)) (0 ∷ 0 ∷ [])).pool
