-- Document 01, code 3, and 02 (ii): in which ways a number is bad, and at which byte it goes wrong (RULES 7). Said of its bytes: these ways, and not
-- what the reader happens to refuse. (That it refuses exactly these, and gives that byte, is `number_bad`.)
use Rattle.std.specs.Prelude.{◌≡◌, List, length, get_or, ℕ, ◌+◌, ◌≤◌, ◌<◌}

-- "top bit set when more follow": m bytes from place i on, each there and with its top bit set
pub record MoreFollow (bytes : List ℕ) (i m : ℕ) : Type 0 where
  pub is_there : (j : ℕ) → j < m → i + j < length bytes
  pub top_bit : (j : ℕ) → j < m → 128 ≤ get_or bytes (i + j) 0

-- RULES 7.2: a number's groups from place i on, of which at most `most` may follow the first, go wrong at byte j: "too large", its last possible
-- group, with `most` of 4 the fifth, being above 15; "cut short"; "not in shortest form", its last group being 0 after `least` others or more.
-- 02 (ii): "the byte at which a number goes wrong: the fifth if that byte is above 0F, else the end of the input if cut short, else the last
-- byte if not in shortest form". No two of the three hold of the same bytes (`bad_once`), so their order says nothing more.
pub data BadGroups (bytes : List ℕ) (most least i : ℕ) : ℕ → Type 0 where
  too_large : MoreFollow bytes i most → i + most < length bytes → 15 < get_or bytes (i + most) 0 → BadGroups bytes most least i (i + most)
  cut_short : (m : ℕ) → m ≤ most → MoreFollow bytes i m → length bytes ≤ i + m → BadGroups bytes most least i (length bytes)
  not_shortest : (m : ℕ) → least ≤ m → m ≤ most → MoreFollow bytes i m → i + m < length bytes → get_or bytes (i + m) 0 ≡ 0 → BadGroups bytes most least i (i + m)

-- "at most 4,294,967,295": five groups, the last at most 15. A number of one group may be 0.
abbrev pub BadNumber : List ℕ → ℕ → ℕ → Type 0
BadNumber bytes i j = BadGroups bytes 4 1 i j
