-- 02 (ii): at which byte saved bytes go wrong (RULES 16.8), said of the bytes, apart from the reader. (That it refuses exactly these, and gives that
-- byte, is `place_exactly`.)
use Rattle.std.specs.Prelude.{◌≡◌, List, [], ◌∷◌, length, ℕ, ◌+◌, ◌*◌, ◌<◌, Ok}
use Rattle.tree.specs.State.{State, Sound}
use Rattle.encoding.specs.Numbers.{number}
use Rattle.numbers.specs.Faults.{BadNumber}
use Rattle.saved.specs.Saved.{saved_bytes}

-- the numbers vs stand from place i up to place j
pub data Reads (bytes : List ℕ) : ℕ → List ℕ → ℕ → Type 0 where
  reads_none : {i : ℕ} → Reads bytes i [] i
  reads_more : {i m j v : ℕ} {vs : List ℕ} → number bytes i ≡ Ok (v, m) → Reads bytes m vs j → Reads bytes i (v ∷ vs) j

-- "C, N and then two numbers for each of N nodes": how many numbers there must be, as far as those read tell
abbrev pub asked : List ℕ → ℕ
asked [] = 2
asked (c ∷ []) = 2
asked (c ∷ (n ∷ vs)) = 2 + 2 * n

-- no writer produces the bytes
abbrev pub Unwritten : List ℕ → Type 0
Unwritten bytes = (S : State) → Sound S → saved_bytes S ≡ bytes → ⊥

-- "the place of the first bad number, and the count of saved bytes where every number reads but no writer produces the whole"
pub data MisreadAt (bytes : List ℕ) : ℕ → Type 0 where
  bad_number : {vs : List ℕ} {i j : ℕ} → Reads bytes 0 vs i → length vs < asked vs → BadNumber bytes i j → MisreadAt bytes j
  no_whole : {vs : List ℕ} {i : ℕ} → Reads bytes 0 vs i → length vs ≡ asked vs → Unwritten bytes → MisreadAt bytes (length bytes)
