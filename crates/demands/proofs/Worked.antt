-- The send limit worked by hand (docs/FORMATS.md, "The key of a mark"), in one table and one proof, which the checker computes: what the definitions
-- give from a pool's words, and what the page says. A row of may send is its code, its number and the words that it leaves. Of a clearing the
-- first 160 of a notice's 65,536 keys are computed, which have all its marks here. And 02 (vii)'s delete of a span in the log of a batch call, in a
-- second table: which keys the log tells to be in the set. Assumes nothing.
use mathlib.Core.Path.{◌≡◌, refl}
use mathlib.Core.List.{List, [], ◌∷◌}
use lib.ListN.{replicate}
use Prim.Native.Nat.{ℕ}
use Rattle.tree.specs.Codes.{code_of, number_of}
use Rattle.tree.specs.Tree.{one, count, count_in, keys, slot_of, is_leaf, size, leaves, level}
use Rattle.tree.specs.Updates.{reach, reached_slot, reached_key, insert_at, new_slot, moved_to, cut, delete_at}
use Rattle.tree.specs.State.{upwards, prepared, keys_of, slots_needed, nodes, level_top, insert_first, insert_more, insert, deleted, delete}
use Rattle.tree.specs.Spans.{span_of, delete_each, delete_span}
use Rattle.format.specs.Words.{header, slot, free_slot, header_of, put_header, slot_at, put_slot, slots_in, length_good, in_tree, in_chain, in_top, root_of, shown_slot, shown_header, slots_from, words_of}
use Rattle.format.specs.Audit.{is_slot, follow, chain, chain_ends, tree_found, chain_found, slots_of, bare, all, all_from, same, rule_once, free_words, rule_free, children, rule_children, leaf_keys, routed, rule_order, well_weighed, root_weighed, rule_weights, sums_of, root_sums, rule_sums, rule_level, rules, all_true, rules_under, found_weight, tree_of, top_of, state_under, audited}
use Rattle.format.proofs.Rows.{pool, Row, row, all_given, all_said}
use Rattle.encoding.specs.Numbers.{last_group, below, groups, number}
use Rattle.encoding.specs.Batch.{last_argument, only_argument, two_arguments, arguments_at, meant_at, operation_at, command_at, after, read_from, read_batch, operation, perform, answers_of, run_all, answer_words, filled, called, refused, batch_read, batch}
use Rattle.updates.specs.Updating.{toward, descend, way_to, taken, freed, freed_words, by_root, insert_root, split, insert_beside, insert_at_leaf, insert_under, insert_words, delete_root, sibling_of, joined, delete_below, delete_leaf, delete_at_leaf, delete_under, delete_words}
use Rattle.set.specs.Inside.{member, room, needed, audit_answer}
use Rattle.ledger.specs.Ledger.{notice_good, arguments_good, mark_key, unless, range_answer, judged, lowest_from, used_answer, room_answer, marked, asked, may_send, cleared_at, cleared_from}
use Rattle.demands.specs.Calls.{Entry, entries, log_read, log_of, is_of, puts, takes, tells, told_from, told}

-- notice 4411, resident 17, attempts 1 and 2; resident 18, attempt 1
abbrev k1 : ℕ
k1 = 289079433

abbrev k2 : ℕ
k2 = 289079434

abbrev k3 : ℕ
k3 = 289079441

-- five slots with one, two and three marks
abbrev w1 : List ℕ
w1 = pool (header 1 2 1 0) (slot k1 0 0 1 ∷ free_slot 3 ∷ free_slot 4 ∷ free_slot 5 ∷ free_slot 0 ∷ [])

abbrev w2 : List ℕ
w2 = pool (header 1 4 3 1) (slot k1 2 3 1 ∷ slot k1 0 0 1 ∷ slot k2 0 0 1 ∷ free_slot 5 ∷ free_slot 0 ∷ [])

abbrev w3 : List ℕ
w3 = pool (header 1 0 5 1) (slot k1 2 3 1 ∷ slot k1 0 0 1 ∷ slot k2 4 5 0 ∷ slot k2 0 0 1 ∷ slot k3 0 0 1 ∷ [])

-- the gap at attempt 1, and that gap filled; the words of the third with a wrong N
abbrev w4 : List ℕ
w4 = delete_words w3 k1

abbrev broken : List ℕ
broken = pool (header 1 0 3 1) (slot k1 2 3 1 ∷ slot k1 0 0 1 ∷ slot k2 4 5 0 ∷ slot k2 0 0 1 ∷ slot k3 0 0 1 ∷ [])

abbrev says : List ℕ → (n r l : ℕ) → List ℕ
says p n r l = code_of (may_send p n r l).answer ∷ number_of (may_send p n r l).answer ∷ (may_send p n r l).left

abbrev first_160 : List ℕ → List ℕ
first_160 p = let c = cleared_from 160 (mark_key 4411 0 0) p in c.count ∷ c.words

unfoldable pub cases : List Row
cases =
    row (says (words_of (prepared 5)) 4411 17 2) (0 ∷ 1 ∷ w1)
    ∷ row (says w1 4411 17 2) (0 ∷ 2 ∷ w2)
    ∷ row (says w2 4411 17 2) (16 ∷ 0 ∷ w2)
    ∷ row (says w2 4411 18 2) (0 ∷ 1 ∷ w3)
    ∷ row (says w3 4412 17 2) (7 ∷ 0 ∷ w3)
    ∷ row (says w3 4411 17 2) (16 ∷ 0 ∷ w3)
    ∷ row (says w4 4411 17 2) (0 ∷ 1 ∷ insert_words w4 k1)
    ∷ row (says w3 4411 8192 2) (15 ∷ 0 ∷ w3)
    ∷ row (says broken 4411 8192 2) (15 ∷ 0 ∷ broken)
    ∷ row (says broken 4411 17 2) (2 ∷ 0 ∷ broken)
    ∷ row (says (1 ∷ 2 ∷ []) 4411 17 2) (1 ∷ 0 ∷ 1 ∷ 2 ∷ [])
    ∷ row (first_160 w3) (3 ∷ delete_words (delete_words (delete_words w3 k1) k2) k3)
    ∷ []

pub sends_worked : all_given cases ≡ all_said cases
unfolding cases all_given all_said one count_in keys slot_of new_slot upwards prepared keys_of slots_needed nodes level_top level header_of put_header slot_at put_slot slots_in length_good in_tree in_chain in_top root_of shown_slot shown_header slots_from words_of is_slot follow chain chain_ends tree_found chain_found slots_of bare all all_from same rule_once free_words rule_free children rule_children leaf_keys routed rule_order well_weighed root_weighed rule_weights sums_of root_sums rule_sums rule_level rules all_true rules_under found_weight tree_of top_of state_under audited toward descend way_to taken freed freed_words by_root insert_root split insert_beside insert_at_leaf insert_under insert_words delete_root sibling_of joined delete_below delete_leaf delete_at_leaf delete_under delete_words member room needed audit_answer notice_good arguments_good mark_key unless range_answer judged lowest_from used_answer room_answer marked asked may_send cleared_at cleared_from
sends_worked = refl

-- A batch call on nine slots without a key, with room for the answers of six commands: 10, 20, 30 and 40 are inserted, and `more` follows. What its
-- log tells of these keys.
abbrev log_of_lem : List ℕ → List Entry
log_of_lem more = log_of (words_of (prepared 9)) (2 ∷ 10 ∷ 2 ∷ 20 ∷ 2 ∷ 30 ∷ 2 ∷ 40 ∷ more) (replicate 12 77)

abbrev told_after : List ℕ → List ℕ
told_after more = told 10 (log_of_lem more) ∷ told 20 (log_of_lem more) ∷ told 30 (log_of_lem more) ∷ told 40 (log_of_lem more) ∷ []

unfoldable pub log_cases : List Row
log_cases =
    row (told_after []) (1 ∷ 1 ∷ 1 ∷ 1 ∷ [])
    -- "8 15 35"; both ends are of the span, and it may have one key; "a above b" takes none
    ∷ row (told_after (8 ∷ 15 ∷ 35 ∷ [])) (1 ∷ 0 ∷ 0 ∷ 1 ∷ [])
    ∷ row (told_after (8 ∷ 20 ∷ 40 ∷ [])) (1 ∷ 0 ∷ 0 ∷ 0 ∷ [])
    ∷ row (told_after (8 ∷ 20 ∷ 20 ∷ [])) (1 ∷ 0 ∷ 1 ∷ 1 ∷ [])
    ∷ row (told_after (8 ∷ 35 ∷ 15 ∷ [])) (1 ∷ 1 ∷ 1 ∷ 1 ∷ [])
    -- all, to the last key that there may be; and one of them inserted again
    ∷ row (told_after (8 ∷ 0 ∷ 0xFF ∷ 0xFF ∷ 0xFF ∷ 0xFF ∷ 0x0F ∷ [])) (0 ∷ 0 ∷ 0 ∷ 0 ∷ [])
    ∷ row (told_after (8 ∷ 15 ∷ 35 ∷ 2 ∷ 20 ∷ [])) (1 ∷ 1 ∷ 0 ∷ 1 ∷ [])
    ∷ []

pub spans_worked : all_given log_cases ≡ all_said log_cases
unfolding log_cases all_given all_said header_of slot_at slots_in length_good in_tree in_chain in_top root_of shown_slot shown_header slots_from words_of is_slot follow chain chain_ends tree_found chain_found slots_of bare all all_from same rule_once free_words rule_free children rule_children leaf_keys routed rule_order well_weighed root_weighed rule_weights sums_of root_sums rule_sums rule_level rules all_true rules_under found_weight tree_of top_of state_under audited last_group below groups number last_argument only_argument two_arguments arguments_at meant_at operation_at command_at after read_from read_batch operation perform answers_of run_all answer_words filled called refused batch_read batch slot_of is_leaf size leaves keys one count count_in level reach reached_slot reached_key insert_at new_slot moved_to cut delete_at nodes upwards prepared keys_of insert_first insert_more insert deleted delete level_top span_of delete_each delete_span entries log_read log_of is_of puts takes tells told_from
spans_worked = refl
