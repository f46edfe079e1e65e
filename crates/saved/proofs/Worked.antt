-- Worked examples of the saved form, as tables that the checker computes: what is written, what is read back, and bytes that no writer
-- produces. Assumes nothing.
use mathlib.Core.Path.{◌≡◌, refl}
use mathlib.Core.Bool.{Bool, true, false}
use mathlib.Core.List.{List, [], ◌∷◌}
use mathlib.Core.Option.{Option, none, some}
use Prim.Native.Nat.{ℕ}
use Rattle.tree.specs.Tree.{leaf, node, size, level}
use Rattle.tree.specs.State.{State, state, Top, full, nodes, upwards, prepared}
use Rattle.encoding.specs.Numbers.{last_group, below, groups, number}
use Rattle.numbers.specs.Shortest.{shortest, bytes_of}
use Rattle.saved.specs.Saved.{tree_numbers, top_numbers, saved_numbers, bytes_of_all, saved_bytes, with_rest}
use Rattle.saved.specs.Loaded.{before, numbers_at, node_numbers, count_numbers, numbers_in, tree_from, in_order, same_sums, is_good, is_none, is_whole, whole_top, top_from, is_count, with_top, state_from, loaded_numbers, loaded_up_to, loaded, place_in, bad_place}

-- 01's P1, with its slots in any order
abbrev p1 : (a b c d e f g : ℕ) → Top
p1 a b c d e f g = full (node a 10 1 (leaf b 10) 0 (node c 20 1 (leaf d 20) 0 (node e 30 1 (leaf f 30) 1 (leaf g 40))))

abbrev p1_bytes : List ℕ
p1_bytes = 9 ∷ 7 ∷ 3 ∷ 10 ∷ 2 ∷ 10 ∷ 1 ∷ 20 ∷ 2 ∷ 20 ∷ 1 ∷ 30 ∷ 2 ∷ 30 ∷ 2 ∷ 40 ∷ []

pub written : List (List ℕ)
written = saved_bytes (prepared 7) ∷ saved_bytes (prepared 1000) ∷ saved_bytes (state 9 (p1 4 9 2 8 1 3 7) (6 ∷ 5 ∷ [])) ∷ saved_bytes (state 1 (full (leaf 1 4294967295)) []) ∷ []

pub saved_examples : written ≡ (7 ∷ 0 ∷ []) ∷ (232 ∷ 7 ∷ 0 ∷ []) ∷ p1_bytes ∷ (1 ∷ 1 ∷ 2 ∷ 255 ∷ 255 ∷ 255 ∷ 255 ∷ 15 ∷ []) ∷ []
unfolding written saved_bytes bytes_of_all saved_numbers top_numbers tree_numbers nodes size bytes_of shortest prepared
saved_examples = refl

pub read : List (Option State)
read = loaded p1_bytes ∷ loaded (7 ∷ 0 ∷ []) ∷ []

pub read_examples : read ≡ some (state 9 (p1 1 2 3 4 5 6 7) (8 ∷ 9 ∷ [])) ∷ some (prepared 7) ∷ []
unfolding read loaded_up_to loaded_numbers numbers_in count_numbers node_numbers numbers_at before number groups last_group below state_from with_top is_count top_from whole_top is_whole is_none is_good same_sums in_order tree_from size level with_rest nodes upwards prepared
read_examples = refl

-- Bytes that no writer produces, and the byte at which each goes wrong.
pub forms : List (List ℕ)
forms =
    -- no bytes at all; N missing; C not in shortest form; a fifth byte above 0F, also where the bytes end there
    []
    ∷ (7 ∷ [])
    ∷ (135 ∷ 0 ∷ 0 ∷ [])
    ∷ (7 ∷ 128 ∷ 128 ∷ 128 ∷ 128 ∷ 128 ∷ [])
    -- more nodes than bytes, as many as a number can say
    ∷ (7 ∷ 255 ∷ 255 ∷ 255 ∷ 255 ∷ 15 ∷ 2 ∷ 5 ∷ [])
    -- C 0, C 16,384; N above C; N even
    ∷ (0 ∷ 0 ∷ [])
    ∷ (128 ∷ 128 ∷ 1 ∷ 0 ∷ [])
    ∷ (1 ∷ 3 ∷ 3 ∷ 5 ∷ 2 ∷ 5 ∷ 2 ∷ 6 ∷ [])
    ∷ (7 ∷ 2 ∷ 2 ∷ 5 ∷ 2 ∷ 6 ∷ [])
    -- a node missing; a node too many
    ∷ (7 ∷ 3 ∷ 3 ∷ 5 ∷ 2 ∷ 5 ∷ [])
    ∷ (7 ∷ 3 ∷ 2 ∷ 5 ∷ 2 ∷ 5 ∷ 2 ∷ 6 ∷ [])
    -- bytes left over; a root of weight 2; a red leaf; unequal sums; a key on the wrong side of its router, and of one further up
    ∷ (7 ∷ 1 ∷ 2 ∷ 5 ∷ 0 ∷ [])
    ∷ (7 ∷ 1 ∷ 4 ∷ 5 ∷ [])
    ∷ (7 ∷ 3 ∷ 3 ∷ 5 ∷ 0 ∷ 5 ∷ 0 ∷ 6 ∷ [])
    ∷ (7 ∷ 3 ∷ 3 ∷ 5 ∷ 2 ∷ 5 ∷ 4 ∷ 6 ∷ [])
    ∷ (7 ∷ 3 ∷ 3 ∷ 5 ∷ 2 ∷ 6 ∷ 2 ∷ 6 ∷ [])
    ∷ (7 ∷ 5 ∷ 3 ∷ 5 ∷ 2 ∷ 5 ∷ 1 ∷ 9 ∷ 2 ∷ 5 ∷ 2 ∷ 10 ∷ [])
    -- L of 256
    ∷ (7 ∷ 3 ∷ 3 ∷ 5 ∷ 128 ∷ 4 ∷ 5 ∷ 128 ∷ 4 ∷ 6 ∷ [])
    -- a padded weight in the last node, after a C of 0 and a root of weight 2: all numbers are read before any is judged; a fifth byte of 10 in a key
    ∷ (0 ∷ 3 ∷ 5 ∷ 5 ∷ 2 ∷ 5 ∷ 130 ∷ 0 ∷ 6 ∷ [])
    ∷ (7 ∷ 1 ∷ 2 ∷ 255 ∷ 255 ∷ 255 ∷ 255 ∷ 16 ∷ [])
    ∷ []

pub all_loaded : List (List ℕ) → List (Option State)
all_loaded [] = []
all_loaded (b ∷ bs) = loaded b ∷ all_loaded bs

pub all_places : List (List ℕ) → List ℕ
all_places [] = []
all_places (b ∷ bs) = bad_place b ∷ all_places bs

pub all_none : List (Option State) → Bool
all_none [] = true
all_none (none ∷ xs) = all_none xs
all_none (some S ∷ xs) = false

pub refused_examples : all_none (all_loaded forms) ≡ true
unfolding all_none all_loaded forms loaded_up_to loaded_numbers numbers_in count_numbers node_numbers numbers_at before number groups last_group below state_from with_top is_count top_from whole_top is_whole is_none is_good same_sums in_order tree_from size level with_rest nodes upwards prepared
refused_examples = refl

pub place_examples : all_places forms ≡ 0 ∷ 1 ∷ 1 ∷ 5 ∷ 8 ∷ 2 ∷ 4 ∷ 8 ∷ 6 ∷ 6 ∷ 8 ∷ 5 ∷ 4 ∷ 8 ∷ 8 ∷ 8 ∷ 12 ∷ 10 ∷ 7 ∷ 7 ∷ []
unfolding all_places forms bad_place place_in numbers_in count_numbers node_numbers numbers_at before number groups last_group below
place_examples = refl
