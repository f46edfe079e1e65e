-- Document 01, Worked by hand: P1 to P9 and the line without a P, a router that is no key, and of 02 the fourth header word (v) and the three commands
-- over spans (vii), in one table, and one proof, which the checker computes. A row is what the definitions give, from batch bytes and pool words, and
-- what 01 or 02 says. Assumes nothing.
use mathlib.Core.Path.{◌≡◌, refl}
use mathlib.Core.Bool.{true, false}
use mathlib.Core.List.{List, [], ◌∷◌, ◌++◌}
use mathlib.Core.Option.{Option, none, some}
use lib.Dec.{eqb}
use lib.ListN.{replicate}
use Prim.Native.Nat.{ℕ, zero, suc, ◌*◌}
use Rattle.encoding.specs.Numbers.{Reading}
use Rattle.std.specs.Prelude.{Ok, Err}
use Rattle.format.proofs.Rows.{pool, Row, row, all_given, all_said}
use Rattle.format.specs.Words.{header, slot, free_slot, header_of, slot_at, slots_in, length_good, in_tree, in_chain, in_top, root_of, shown_slot, shown_header, slot_words, slots_from, words_of}
use Rattle.format.specs.Audit.{is_slot, follow, chain, chain_ends, tree_found, chain_found, slots_of, bare, all, all_from, same, rule_once, free_words, rule_free, children, rule_children, leaf_keys, routed, rule_order, well_weighed, root_weighed, rule_weights, sums_of, root_sums, rule_sums, rule_level, rules, all_true, rules_under, found_weight, tree_of, top_of, state_under, state_of, audited}
use Rattle.encoding.specs.Numbers.{last_group, below, groups, number}
use Rattle.encoding.specs.Batch.{last_argument, only_argument, two_arguments, arguments_at, meant_at, operation_at, command_at, after, read_from, read_batch, operation, perform, answers_of, run_all, answer_words, filled, Call, called, refused, batch_read, batch}
use Rattle.tree.specs.declared.Kind.{Kind}
use Rattle.tree.specs.Codes.{kind_number}
use Rattle.tree.specs.Tree.{slot_of, is_leaf, size, leaves, keys, red, overweighted, one, count, count_in, level}
use Rattle.tree.specs.Distances.{outside, if_red, for_red, conflicts, red_distance, over_distance, excess_weight, bound}
use Rattle.tree.specs.Kinds.{left_red, right_red, left_not_red, right_not_red, condition, blackened, single_left, single_right, double_left, double_right, lightened, lighten_left, lighten_right, effect, holds_at, change_at, condition_at, stepped, at_limit}
use Rattle.tree.specs.Updates.{reach, reached_slot, reached_key, insert_at, new_slot, moved_to, cut, delete_at}
use Rattle.tree.specs.State.{Top, empty, full, keys_of, nodes, upwards, prepared, search, insert_first, insert_more, insert, deleted, delete, leaf_at, no_inner, step_kind, step_named, step, report, figures, level_top}
use Rattle.tree.specs.Settle.{allowed, lowest_kind, lowest_step, next_tree, trees_after, last_of, settled, settle}
use Rattle.tree.specs.Spans.{first_from, key_or_absent, next_key, next_from, span_of, count_span, delete_each, delete_span}

-- P1: the pool after the four inserts. The fourth header word is L, in this pool and in those below: 02 (v).
abbrev w1 : List ℕ
w1 = pool (header 1 8 7 1) (slot 10 2 3 1 ∷ slot 10 0 0 1 ∷ slot 20 4 5 0 ∷ slot 20 0 0 1 ∷ slot 30 6 7 0 ∷ slot 30 0 0 1 ∷ slot 40 0 0 1 ∷ free_slot 9 ∷ free_slot 0 ∷ [])

-- P2
abbrev w2 : List ℕ
w2 = pool (header 1 8 7 1) (slot 20 3 5 1 ∷ slot 10 0 0 1 ∷ slot 10 2 4 0 ∷ slot 20 0 0 1 ∷ slot 30 6 7 0 ∷ slot 30 0 0 1 ∷ slot 40 0 0 1 ∷ free_slot 9 ∷ free_slot 0 ∷ [])

-- P3: after the insert, and after kind 1
abbrev w3 : List ℕ
w3 = pool (header 1 0 9 1) (slot 20 3 5 1 ∷ slot 10 0 0 1 ∷ slot 10 2 4 0 ∷ slot 20 0 0 1 ∷ slot 30 6 7 0 ∷ slot 30 0 0 1 ∷ slot 40 8 9 0 ∷ slot 40 0 0 1 ∷ slot 50 0 0 1 ∷ [])

abbrev w3b : List ℕ
w3b = pool (header 1 0 9 2) (slot 20 3 5 1 ∷ slot 10 0 0 1 ∷ slot 10 2 4 1 ∷ slot 20 0 0 1 ∷ slot 30 6 7 1 ∷ slot 30 0 0 1 ∷ slot 40 8 9 0 ∷ slot 40 0 0 1 ∷ slot 50 0 0 1 ∷ [])

-- P4
abbrev w4 : List ℕ
w4 = pool (header 1 4 7 2) (slot 20 3 5 1 ∷ free_slot 0 ∷ slot 20 0 0 2 ∷ free_slot 2 ∷ slot 30 6 7 1 ∷ slot 30 0 0 1 ∷ slot 40 8 9 0 ∷ slot 40 0 0 1 ∷ slot 50 0 0 1 ∷ [])

-- P5: after settle 1, and after settle 9
abbrev w5 : List ℕ
w5 = pool (header 1 4 7 1) (slot 20 3 5 1 ∷ free_slot 0 ∷ slot 20 0 0 1 ∷ free_slot 2 ∷ slot 30 6 7 0 ∷ slot 30 0 0 1 ∷ slot 40 8 9 0 ∷ slot 40 0 0 1 ∷ slot 50 0 0 1 ∷ [])

abbrev w5b : List ℕ
w5b = pool (header 1 4 7 1) (slot 30 5 7 1 ∷ free_slot 0 ∷ slot 20 0 0 1 ∷ free_slot 2 ∷ slot 20 3 6 0 ∷ slot 30 0 0 1 ∷ slot 40 8 9 0 ∷ slot 40 0 0 1 ∷ slot 50 0 0 1 ∷ [])

-- P8: "nine nodes, root with red c and d, c with red e, every leaf 255". Taken with c on the left of the root and e on the left
-- of c: root 1, c 2, e 3, its leaves 4 and 5, c's other leaf 6, d 7, its leaves 8 and 9. w is the leaves' weight.
abbrev w8 : ℕ → List ℕ
w8 w = pool (header 1 0 9 w) (slot 30 2 7 1 ∷ slot 20 3 6 0 ∷ slot 10 4 5 0 ∷ slot 10 0 0 w ∷ slot 20 0 0 w ∷ slot 30 0 0 w ∷ slot 40 8 9 0 ∷ slot 40 0 0 w ∷ slot 50 0 0 w ∷ [])

-- router 20 over the keys 10 and 30
abbrev router20 : List ℕ
router20 = pool (header 1 4 3 1) (slot 20 2 3 1 ∷ slot 10 0 0 1 ∷ slot 30 0 0 1 ∷ free_slot 5 ∷ free_slot 6 ∷ free_slot 7 ∷ free_slot 8 ∷ free_slot 9 ∷ free_slot 0 ∷ [])

-- 02 (v): two keys in five slots, and after a delete one; a leaf of weight 2 beside a black node, and after its delete that node alone; a leaf
-- of weight 2 beside a red node, and after kind 7 at the root
abbrev w9 : List ℕ
w9 = pool (header 1 4 3 1) (slot 10 2 3 1 ∷ slot 10 0 0 1 ∷ slot 20 0 0 1 ∷ free_slot 5 ∷ free_slot 0 ∷ [])

abbrev w9b : List ℕ
w9b = pool (header 1 3 1 0) (slot 20 0 0 1 ∷ free_slot 4 ∷ free_slot 2 ∷ free_slot 5 ∷ free_slot 0 ∷ [])

abbrev w10 : List ℕ
w10 = pool (header 1 0 5 2) (slot 10 2 3 1 ∷ slot 10 0 0 2 ∷ slot 20 4 5 1 ∷ slot 20 0 0 1 ∷ slot 30 0 0 1 ∷ [])

abbrev w10b : List ℕ
w10b = pool (header 1 3 3 1) (slot 20 4 5 1 ∷ free_slot 0 ∷ free_slot 2 ∷ slot 20 0 0 1 ∷ slot 30 0 0 1 ∷ [])

abbrev w11 : List ℕ
w11 = pool (header 1 0 5 2) (slot 10 2 3 1 ∷ slot 10 0 0 2 ∷ slot 20 4 5 0 ∷ slot 20 0 0 2 ∷ slot 30 0 0 2 ∷ [])

abbrev w11b : List ℕ
w11b = pool (header 1 0 5 2) (slot 20 3 5 1 ∷ slot 10 0 0 1 ∷ slot 10 2 4 1 ∷ slot 20 0 0 1 ∷ slot 30 0 0 2 ∷ [])

-- 02 (vii): P1's pool after "8 15 35". The delete of 20 gives back its sibling's slot 5 and its own slot 4, then that of 30 gives back 7 and 6.
abbrev w12 : List ℕ
w12 = pool (header 1 7 3 1) (slot 10 2 3 1 ∷ slot 10 0 0 1 ∷ slot 40 0 0 1 ∷ free_slot 8 ∷ free_slot 4 ∷ free_slot 5 ∷ free_slot 6 ∷ free_slot 9 ∷ free_slot 0 ∷ [])

-- the same keys, but the larger of the two deleted first
abbrev w13 : List ℕ
w13 = pool (header 1 5 3 1) (slot 10 2 3 1 ∷ slot 10 0 0 1 ∷ slot 40 0 0 1 ∷ free_slot 7 ∷ free_slot 4 ∷ free_slot 8 ∷ free_slot 6 ∷ free_slot 9 ∷ free_slot 0 ∷ [])

-- A call on words, with as many answer words as its n commands need, which hold 77 before it: what it gives and answers, and the
-- words that it leaves in the pool.
abbrev call : List ℕ → List ℕ → ℕ → Call
call words bytes n = batch words bytes (replicate (2 * n) 77)

abbrev says : List ℕ → List ℕ → ℕ → List ℕ
says words bytes n = (call words bytes n).code ∷ (call words bytes n).number ∷ (call words bytes n).answers

abbrev leaves_words : List ℕ → List ℕ → ℕ → List ℕ
leaves_words words bytes n = (call words bytes n).pool

-- of a pool's words: the seven numbers, the next step that settle would make, and the red slots from s on, n of them
abbrev reported : List ℕ → List ℕ
reported words = figures (report (state_of words).top)

abbrev step_words : Option (ℕ × Kind) → List ℕ
step_words (some a) = a.0 ∷ kind_number a.1 ∷ []
step_words none = []

abbrev top_steps : ℕ → Top → List ℕ
top_steps c empty = []
top_steps c (full t) = step_words (lowest_step c 1 t)

abbrev next : List ℕ → List ℕ
next words = top_steps (slots_in words) (state_of words).top

unfoldable pub red_slots : List ℕ → ℕ → ℕ → List ℕ
red_slots words s zero = []
red_slots words s (suc n) = elim (eqb (slot_at words s).weight 0) [ true ↦ s ∷ red_slots words (suc s) n | false ↦ red_slots words (suc s) n ]

-- a number read, as its value and the place after it, or nothing
abbrev number_words : Reading ℕ → List ℕ
number_words (Ok (v, i)) = v ∷ i ∷ []
number_words (Err f) = []

abbrev first_four : List ℕ
first_four = 2 ∷ 10 ∷ 2 ∷ 20 ∷ 2 ∷ 30 ∷ 2 ∷ 40 ∷ []

unfoldable pub cases : List Row
cases =
    -- P1 "insert 10, 20, 30, 40: slots 1, 3, 5, 7. Red slots 3 and 5; R 1, Q 2, D 0, N 7, bound 16." (L is 1.)
    row (says (words_of (prepared 9)) first_four 4) (0 ∷ 0 ∷ 0 ∷ 1 ∷ 0 ∷ 3 ∷ 0 ∷ 5 ∷ 0 ∷ 7 ∷ [])
    ∷ row (leaves_words (words_of (prepared 9)) first_four 4) w1
    ∷ row (red_slots w1 1 9) (3 ∷ 5 ∷ [])
    ∷ row (reported w1) (7 ∷ 1 ∷ 0 ∷ 1 ∷ 0 ∷ 2 ∷ 16 ∷ [])
    -- P2 "then step slot 1 kind 3: slot 1 is (20, 3, 5, 1), slot 3 is (10, 2, 4, 0). No step is allowed."
    ∷ row (says w1 (4 ∷ 1 ∷ 3 ∷ []) 1) (0 ∷ 0 ∷ 0 ∷ 3 ∷ [])
    ∷ row (leaves_words w1 (4 ∷ 1 ∷ 3 ∷ []) 1) w2
    ∷ row (slot_words (slot_at w2 1)) (20 ∷ 3 ∷ 5 ∷ 1 ∷ [])
    ∷ row (slot_words (slot_at w2 3)) (10 ∷ 2 ∷ 4 ∷ 0 ∷ [])
    ∷ row (next w2) []
    -- P3 "then insert 50: slot 9; R 1, Q 4, bound 22. Kind 1 at slot 1: slots 3 and 5 weigh 1, L 2."
    ∷ row (says w2 (2 ∷ 50 ∷ []) 1) (0 ∷ 0 ∷ 0 ∷ 9 ∷ [])
    ∷ row (leaves_words w2 (2 ∷ 50 ∷ []) 1) w3
    ∷ row (reported w3) (9 ∷ 1 ∷ 0 ∷ 1 ∷ 0 ∷ 4 ∷ 22 ∷ [])
    ∷ row (says w3 (4 ∷ 1 ∷ 1 ∷ []) 1) (0 ∷ 0 ∷ 0 ∷ 1 ∷ [])
    ∷ row (leaves_words w3 (4 ∷ 1 ∷ 1 ∷ []) 1) w3b
    ∷ row (reported w3b) (9 ∷ 2 ∷ 0 ∷ 0 ∷ 0 ∷ 0 ∷ 0 ∷ [])
    -- P4 "then delete 10: slot 3 is leaf 20 of weight 2; first free 4, then 2. D 6, bound 132." 02 (iii), of the third number: "1 in case P4".
    ∷ row (says w3b (3 ∷ 10 ∷ []) 1) (0 ∷ 0 ∷ 0 ∷ 4 ∷ [])
    ∷ row (leaves_words w3b (3 ∷ 10 ∷ []) 1) w4
    ∷ row (slot_words (slot_at w4 3)) (20 ∷ 0 ∷ 0 ∷ 2 ∷ [])
    ∷ row (state_of w4).free (4 ∷ 2 ∷ [])
    ∷ row (reported w4) (7 ∷ 2 ∷ 1 ∷ 0 ∷ 6 ∷ 0 ∷ 132 ∷ [])
    -- P5 "then settle 1: kind 6 at slot 1, answer 12 1. Settle 9: kind 3 at slot 1, answer 0 1; slot 1 is (30, 5, 7, 1), slot 5
    -- is (20, 3, 6, 0)."
    ∷ row (next w4) (1 ∷ 6 ∷ [])
    ∷ row (says w4 (5 ∷ 1 ∷ []) 1) (0 ∷ 0 ∷ 12 ∷ 1 ∷ [])
    ∷ row (leaves_words w4 (5 ∷ 1 ∷ []) 1) w5
    ∷ row (next w5) (1 ∷ 3 ∷ [])
    ∷ row (says w5 (5 ∷ 9 ∷ []) 1) (0 ∷ 0 ∷ 0 ∷ 1 ∷ [])
    ∷ row (leaves_words w5 (5 ∷ 9 ∷ []) 1) w5b
    ∷ row (slot_words (slot_at w5b 1)) (30 ∷ 5 ∷ 7 ∷ 1 ∷ [])
    ∷ row (slot_words (slot_at w5b 5)) (20 ∷ 3 ∷ 6 ∷ 0 ∷ [])
    -- P6 "with C = 7 after P1: insert 50 gives 7, insert 40 gives 5."
    ∷ row (says (words_of (prepared 7)) (first_four ++ (2 ∷ 50 ∷ 2 ∷ 40 ∷ [])) 6) (0 ∷ 0 ∷ 0 ∷ 1 ∷ 0 ∷ 3 ∷ 0 ∷ 5 ∷ 0 ∷ 7 ∷ 7 ∷ 0 ∷ 5 ∷ 0 ∷ [])
    -- P7 "empty pool: search 0 gives 6; bound 0; settle 0 gives 0 0."
    ∷ row (says (words_of (prepared 9)) (1 ∷ 0 ∷ 5 ∷ 0 ∷ []) 2) (0 ∷ 0 ∷ 6 ∷ 0 ∷ 0 ∷ 0 ∷ [])
    ∷ row (reported (words_of (prepared 9))) (0 ∷ 0 ∷ 0 ∷ 0 ∷ 0 ∷ 0 ∷ 0 ∷ [])
    -- P8 "kind 1 at the root gives 11; kind 6 at e is accepted. With every leaf 254, kind 1 at the root is accepted."
    ∷ row (says (w8 255) (4 ∷ 1 ∷ 1 ∷ 4 ∷ 3 ∷ 6 ∷ []) 2) (0 ∷ 0 ∷ 11 ∷ 0 ∷ 0 ∷ 6 ∷ [])
    ∷ row (says (w8 254) (4 ∷ 1 ∷ 1 ∷ []) 1) (0 ∷ 0 ∷ 0 ∷ 1 ∷ [])
    -- P9 "bytes 80 01 read 128; 80 00 is refused; FF FF FF FF 0F is 4,294,967,295; FF FF FF FF 10 is refused."
    ∷ row (number_words (number (0x80 ∷ 0x01 ∷ []) 0)) (128 ∷ 2 ∷ [])
    ∷ row (number_words (number (0x80 ∷ 0x00 ∷ []) 0)) []
    ∷ row (number_words (number (0xFF ∷ 0xFF ∷ 0xFF ∷ 0xFF ∷ 0x0F ∷ []) 0)) (4294967295 ∷ 5 ∷ [])
    ∷ row (number_words (number (0xFF ∷ 0xFF ∷ 0xFF ∷ 0xFF ∷ 0x10 ∷ []) 0)) []
    -- without a P: "Step slot 10 gives 8; slot 1 kind 9 after P1 gives 9; kind 2 there gives 10."
    ∷ row (says w1 (4 ∷ 10 ∷ 1 ∷ 4 ∷ 1 ∷ 9 ∷ 4 ∷ 1 ∷ 2 ∷ []) 3) (0 ∷ 0 ∷ 8 ∷ 0 ∷ 9 ∷ 0 ∷ 10 ∷ 0 ∷ [])
    -- Audit rules: "A router need not be a key present." Insert 20, 30, 10 and delete 20; the pool passes, and search 20 gives 6.
    ∷ row (says (words_of (prepared 9)) (2 ∷ 20 ∷ 2 ∷ 30 ∷ 2 ∷ 10 ∷ 3 ∷ 20 ∷ []) 4) (0 ∷ 0 ∷ 0 ∷ 1 ∷ 0 ∷ 3 ∷ 0 ∷ 4 ∷ 0 ∷ 2 ∷ [])
    ∷ row (leaves_words (words_of (prepared 9)) (2 ∷ 20 ∷ 2 ∷ 30 ∷ 2 ∷ 10 ∷ 3 ∷ 20 ∷ []) 4) router20
    ∷ row (says router20 (1 ∷ 20 ∷ []) 1) (0 ∷ 0 ∷ 6 ∷ 0 ∷ [])
    -- 02 (v) "Keep L in the fourth header word": the second key makes it 1, a delete under the root takes the sibling's weight off it, kind 7
    -- at the root keeps it. (Kind 1 at the root raises it in P3, kind 6 there lowers it in P5.)
    ∷ row (leaves_words (words_of (prepared 5)) (2 ∷ 10 ∷ 2 ∷ 20 ∷ []) 2) w9
    ∷ row (leaves_words w9 (3 ∷ 10 ∷ []) 1) w9b
    ∷ row (leaves_words w10 (3 ∷ 10 ∷ []) 1) w10b
    ∷ row (leaves_words w11 (4 ∷ 1 ∷ 7 ∷ []) 1) w11b
    -- 02 (vii), after P1: "6 15" answers 0 20, "6 41" 6 0; "7 10 30" answers 0 3, "7 30 10" 0 0; "8 15 35" answers 0 2, and then "7 0 4294967295" 0 2.
    ∷ row (says w1 (6 ∷ 15 ∷ 6 ∷ 41 ∷ 7 ∷ 10 ∷ 30 ∷ 7 ∷ 30 ∷ 10 ∷ []) 4) (0 ∷ 0 ∷ 0 ∷ 20 ∷ 6 ∷ 0 ∷ 0 ∷ 3 ∷ 0 ∷ 0 ∷ [])
    ∷ row (leaves_words w1 (6 ∷ 15 ∷ 6 ∷ 41 ∷ 7 ∷ 10 ∷ 30 ∷ 7 ∷ 30 ∷ 10 ∷ []) 4) w1
    ∷ row (says w1 (8 ∷ 15 ∷ 35 ∷ 7 ∷ 0 ∷ 0xFF ∷ 0xFF ∷ 0xFF ∷ 0xFF ∷ 0x0F ∷ []) 2) (0 ∷ 0 ∷ 0 ∷ 2 ∷ 0 ∷ 2 ∷ [])
    ∷ row (leaves_words w1 (8 ∷ 15 ∷ 35 ∷ []) 1) w12
    ∷ row (leaves_words w1 (3 ∷ 20 ∷ 3 ∷ 30 ∷ []) 2) w12
    -- .. and in the other order another free chain
    ∷ row (leaves_words w1 (3 ∷ 30 ∷ 3 ∷ 20 ∷ []) 2) w13
    ∷ []

pub worked : all_given cases ≡ all_said cases
unfolding cases all_given all_said red_slots header_of slot_at slots_in length_good in_tree in_chain in_top root_of shown_slot shown_header slots_from words_of is_slot follow chain chain_ends tree_found chain_found slots_of bare all all_from same rule_once free_words rule_free children rule_children leaf_keys routed rule_order well_weighed root_weighed rule_weights sums_of root_sums rule_sums rule_level rules all_true rules_under found_weight tree_of top_of state_under audited last_group below groups number last_argument only_argument two_arguments arguments_at meant_at operation_at command_at after read_from read_batch operation perform answers_of run_all answer_words filled called refused batch_read batch slot_of is_leaf size leaves red overweighted one count count_in level outside if_red for_red conflicts red_distance over_distance excess_weight bound left_red right_red left_not_red right_not_red condition blackened single_left single_right double_left double_right lightened lighten_left lighten_right effect holds_at change_at condition_at stepped at_limit reach reached_slot reached_key insert_at new_slot moved_to cut delete_at nodes upwards prepared search insert_first insert_more insert deleted delete leaf_at no_inner step_kind step_named step report figures level_top allowed lowest_kind lowest_step next_tree trees_after last_of settled settle keys keys_of first_from key_or_absent next_key next_from span_of count_span delete_each delete_span
worked = refl
