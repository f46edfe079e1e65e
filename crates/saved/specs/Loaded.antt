-- 02 (i), the reader (RULES 16): it reads all numbers, grows a tree of them, and judges it. Executable; that it takes exactly what a sound
-- State is written as, 02's own words, is `accepted_exactly`. Its tests are those of the pool's rules: it serves RULES 1, 2.
use Rattle.std.specs.Prelude.{Bool, true, false, ◌&&◌, List, [], ◌∷◌, eqb, leb, ltb, length, ℕ, zero, suc, ◌+◌, ◌*◌, ◌/◌, ◌%◌, Ok, Err}
use Rattle.std.proofs.Math.Option.{Option, none, some}
use Rattle.tree.specs.Codes.{most_slots, most_level}
use Rattle.tree.specs.Tree.{Tree, leaf, node, size, level}
use Rattle.tree.specs.State.{State, Top, empty, full, key_end}
use Rattle.encoding.specs.Numbers.{Reading, number}
use Rattle.saved.specs.Saved.{with_rest}

-- one number more before those that are read
unfoldable pub before : ℕ → Reading (List ℕ) → Reading (List ℕ)
before v (Ok (vs, next)) = Ok (v ∷ vs, next)
before v (Err f) = Err f

-- n numbers from place i on, and the place after them; or where the first bad one goes wrong
unfoldable pub numbers_at : ℕ → List ℕ → ℕ → Reading (List ℕ)
numbers_at zero bytes i = Ok ([], i)
numbers_at (suc n) bytes i = elim (number bytes i) [ Ok (v, next) ↦ before v (numbers_at n bytes next) | Err f ↦ Err f ]

-- 02 (ii) (RULES 16.1): "The saved-form reader reads C, N and then two numbers for each of N nodes", before it judges any of them.
unfoldable pub node_numbers : List ℕ → ℕ → Reading ℕ → Reading (List ℕ)
node_numbers bytes c (Ok (n, next)) = before c (before n (numbers_at (2 * n) bytes next))
node_numbers bytes c (Err f) = Err f

unfoldable pub count_numbers : List ℕ → Reading ℕ → Reading (List ℕ)
count_numbers bytes (Ok (c, next)) = node_numbers bytes c (number bytes next)
count_numbers bytes (Err f) = Err f

unfoldable pub numbers_in : List ℕ → Reading (List ℕ)
numbers_in bytes = count_numbers bytes (number bytes 0)

-- A tree grown from numbers: the weight of its edge, the tree, and the numbers after it.
pub record Grown : Type 0 where
  pub weight : ℕ
  pub tree : Tree
  pub rest : List ℕ

abbrev pub grown : ℕ → Tree → List ℕ → Grown
grown w t vs = record { weight = w; tree = t; rest = vs }

-- The tree at the head of the numbers, at most `left` nodes deep, its slots numbered from s on.
unfoldable pub tree_from : (left s : ℕ) → List ℕ → Option Grown
tree_from zero s vs = none
tree_from (suc left) s [] = none
tree_from (suc left) s (a ∷ []) = none
tree_from (suc left) s (a ∷ (k ∷ vs)) = elim (eqb (a % 2) 0) [
  | true ↦ some (grown (a / 2) (leaf s k) vs)
  | false ↦ elim (tree_from left (suc s) vs) [
    | none ↦ none
    | some l ↦ elim (tree_from left (suc s + size l.tree) l.rest) [
      | none ↦ none
      | some r ↦ some (grown (a / 2) (node s k l.weight l.tree r.weight r.tree) r.rest)
    ]
  ]
]

-- What the audit rules ask of a tree (RULES 2.5 to 2.7), as tests: tree's Good.
unfoldable pub in_order : ℕ → ℕ → Tree → Bool
in_order lo hi (leaf s k) = leb lo k && ltb k hi
in_order lo hi (node s k wl l wr r) = in_order lo (suc k) l && in_order (suc k) hi r

unfoldable pub same_sums : ℕ → Tree → Bool
same_sums w (leaf s k) = leb 1 w
same_sums w (node s k wl l wr r) = eqb (wl + level l) (wr + level r) && (same_sums wl l && same_sums wr r)

unfoldable pub is_good : Tree → Bool
is_good t = in_order 0 key_end t && (same_sums 1 t && leb (level t) most_level)

-- The whole is one good tree of n nodes that hangs from an edge of weight 1, and nothing after it.
unfoldable pub is_none : List ℕ → Bool
is_none [] = true
is_none (v ∷ vs) = false

unfoldable pub is_whole : ℕ → Grown → Bool
is_whole n g = is_none g.rest && (eqb g.weight 1 && (eqb (size g.tree) n && is_good g.tree))

unfoldable pub whole_top : ℕ → Option Grown → Option Top
whole_top n none = none
whole_top n (some g) = elim (is_whole n g) [ true ↦ some (full g.tree) | false ↦ none ]

-- A tree of n nodes is at most (n + 1) / 2 nodes deep.
unfoldable pub top_from : ℕ → List ℕ → Option Top
top_from zero [] = some empty
top_from zero (v ∷ vs) = none
top_from (suc n) vs = whole_top (suc n) (tree_from ((suc n + 1) / 2) 1 vs)

-- C is from 1 to the most slots that an installation's pools may have (RULES 1.1), N at most C.
unfoldable pub is_count : (most c n : ℕ) → Bool
is_count most c n = leb 1 c && (leb c most && leb n c)

unfoldable pub with_top : ℕ → Option Top → Option State
with_top c none = none
with_top c (some t) = some (with_rest c t)

-- The State that the numbers stand for, if a writer writes them.
unfoldable pub state_from : (most : ℕ) → List ℕ → Option State
state_from most [] = none
state_from most (c ∷ []) = none
state_from most (c ∷ (n ∷ vs)) = elim (is_count most c n) [ true ↦ with_top c (top_from n vs) | false ↦ none ]

-- RULES 16.5: what the reader makes of bytes, a State; or nothing, of "bytes that no writer produces". No byte is left over.
unfoldable pub loaded_numbers : (most end : ℕ) → Reading (List ℕ) → Option State
loaded_numbers most end (Err f) = none
loaded_numbers most end (Ok (vs, next)) = elim (eqb next end) [ true ↦ state_from most vs | false ↦ none ]

unfoldable pub loaded_up_to : (most : ℕ) → List ℕ → Option State
loaded_up_to most bytes = loaded_numbers most (length bytes) (numbers_in bytes)

abbrev pub loaded : List ℕ → Option State
loaded = loaded_up_to most_slots

-- 02 (ii) (RULES 16.8): "its 13 gives the place of the first bad number, and the count of saved bytes where every number reads but no writer
-- produces the whole".
unfoldable pub place_in : ℕ → Reading (List ℕ) → ℕ
place_in end (Err f) = f.place
place_in end (Ok (vs, next)) = end

unfoldable pub bad_place : List ℕ → ℕ
bad_place bytes = place_in (length bytes) (numbers_in bytes)
