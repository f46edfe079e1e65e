-- Document 01, The batch (RULES 7): numbers in seven-bit groups.
use Rattle.std.specs.Prelude.{Bool, true, false, not, ◌&&◌, List, eqb, leb, ltb, length, get_or, ℕ, zero, suc, ◌+◌, ◌*◌, ◌-◌, ◌<◌, Result, Ok, Err}
use Rattle.encoding.specs.declared.Fault.{Fault}

-- a value read and the place where the next begins, or where the bytes go wrong
abbrev pub Reading : Type 0 → Type 0
Reading A = Result (A × ℕ) Fault

abbrev pub fault : ℕ → Fault
fault i = record { place = i }

-- RULES 7.2: a last group d at place i. "Only the shortest form": a last group of 0 stands alone, or the byte before it was the last.
unfoldable pub last_group : Bool → ℕ → ℕ → Reading ℕ
last_group first d i = elim (not first && eqb d 0) [ true ↦ Err (fault i) | false ↦ Ok (d, i + 1) ]

-- "lowest first": a group d below the number that follows
unfoldable pub below : ℕ → Reading ℕ → Reading ℕ
below d (Ok (v, next)) = Ok (d + 128 * v, next)
below d (Err f) = Err f

-- RULES 7.1: "Numbers are seven-bit groups, lowest first, top bit set when more follow. Only the shortest form, at most 4,294,967,295."
-- The number whose groups begin at place i; `more` groups may follow the one there. The fifth group is a last one of at most
-- 15, or the number is too large. Where it goes wrong (RULES 7.2), by 02 (ii): "the fifth if that byte is above 0F, else the end of the input if cut
-- short, else the last byte if not in shortest form".
unfoldable pub groups : ℕ → Bool → List ℕ → ℕ → Reading ℕ
groups zero first bytes i = elim (leb (length bytes) i) [
  | true ↦ Err (fault (length bytes))
  | false ↦ elim (ltb 15 (get_or bytes i 0)) [ true ↦ Err (fault i) | false ↦ last_group first (get_or bytes i 0) i ]
]
groups (suc more) first bytes i = elim (leb (length bytes) i) [
  | true ↦ Err (fault (length bytes))
  | false ↦ elim (ltb (get_or bytes i 0) 128) [
    | true ↦ last_group first (get_or bytes i 0) i
    | false ↦ below (get_or bytes i 0 - 128) (groups more false bytes (i + 1))
  ]
]

-- every byte is one
abbrev pub Bytes : List ℕ → Type 0
Bytes bytes = (i : ℕ) → get_or bytes i 0 < 256

unfoldable pub number : List ℕ → ℕ → Reading ℕ
number bytes i = groups 4 true bytes i
