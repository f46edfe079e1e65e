-- Document 01: "Input 02 0A 02 14 01 0A prints exactly three lines: `0 1`, `0 3`, `0 2`." It is the first row of a table of bytes read and
-- bytes printed, with one proof: by `printed_shown` no pool's words are needed, and the rest the checker computes. Assumes nothing.
use mathlib.Core.Path.{◌≡◌, refl, ◌∙◌}
use mathlib.Core.List.{List, [], ◌∷◌}
use Prim.Native.Nat.{ℕ}
use Rattle.format.proofs.Rows.{Row, row, all_said}
use Rattle.encoding.specs.Numbers.{last_group, below, groups, number}
use Rattle.encoding.specs.Batch.{last_argument, only_argument, two_arguments, arguments_at, meant_at, operation_at, command_at, after, read_from, read_batch, operation, perform, answers_of}
use Rattle.tree.specs.Tree.{slot_of, is_leaf, size, leaves, keys, red, overweighted, one, count, count_in, level}
use Rattle.tree.specs.Updates.{reach, reached_slot, reached_key, insert_at, new_slot, moved_to, cut, delete_at}
use Rattle.tree.specs.State.{keys_of, nodes, upwards, prepared, search, insert_first, insert_more, insert, deleted, delete}
use Rattle.tree.specs.Spans.{first_from, key_or_absent, next_key, next_from, span_of, count_span, delete_each, delete_span}
use Rattle.lines.specs.Printed.{digits, decimal, line, refused_line, printed}
use Rattle.lines.proofs.Printing.{answer_lines, shown, printed_shown}

-- a row's first list is read, its second is what 01 says is printed
unfoldable pub all_printed : List Row → List (List ℕ)
all_printed [] = []
all_printed (r ∷ rs) = printed r.given ∷ all_printed rs

unfoldable pub all_shown : List Row → List (List ℕ)
all_shown [] = []
all_shown (r ∷ rs) = shown (read_batch r.given) ∷ all_shown rs

all_shown_lem : (rs : List Row) → all_printed rs ≡ all_shown rs
unfolding all_printed all_shown
all_shown_lem [] = refl
all_shown_lem (r ∷ rs) = rw (printed_shown r.given, all_shown_lem rs)

unfoldable pub cases : List Row
cases =
    -- `0 1`, `0 3`, `0 2`
    row (0x02 ∷ 0x0A ∷ 0x02 ∷ 0x14 ∷ 0x01 ∷ 0x0A ∷ []) (48 ∷ 32 ∷ 49 ∷ 10 ∷ 48 ∷ 32 ∷ 51 ∷ 10 ∷ 48 ∷ 32 ∷ 50 ∷ 10 ∷ [])
    -- "An empty batch is good." It has no line.
    ∷ row [] []
    -- 02 (ii), "the byte at which a number goes wrong": the examples of docs/FORMATS.md. No key; a key that is cut short, with an insert before it and without.
    ∷ row (0x02 ∷ []) (114 ∷ 101 ∷ 102 ∷ 117 ∷ 115 ∷ 101 ∷ 100 ∷ 32 ∷ 51 ∷ 32 ∷ 49 ∷ 10 ∷ [])
    ∷ row (0x02 ∷ 0x8A ∷ []) (114 ∷ 101 ∷ 102 ∷ 117 ∷ 115 ∷ 101 ∷ 100 ∷ 32 ∷ 51 ∷ 32 ∷ 50 ∷ 10 ∷ [])
    ∷ row (0x02 ∷ 0x0A ∷ 0x02 ∷ 0x8A ∷ []) (114 ∷ 101 ∷ 102 ∷ 117 ∷ 115 ∷ 101 ∷ 100 ∷ 32 ∷ 51 ∷ 32 ∷ 52 ∷ 10 ∷ [])
    -- a key not in shortest form
    ∷ row (0x02 ∷ 0x8A ∷ 0x00 ∷ []) (114 ∷ 101 ∷ 102 ∷ 117 ∷ 115 ∷ 101 ∷ 100 ∷ 32 ∷ 51 ∷ 32 ∷ 50 ∷ 10 ∷ [])
    -- a key whose fifth byte is above 0F, also where the input ends with it; a kind with such a byte
    ∷ row (0x02 ∷ 0xFF ∷ 0xFF ∷ 0xFF ∷ 0xFF ∷ 0x10 ∷ []) (114 ∷ 101 ∷ 102 ∷ 117 ∷ 115 ∷ 101 ∷ 100 ∷ 32 ∷ 51 ∷ 32 ∷ 53 ∷ 10 ∷ [])
    ∷ row (0x02 ∷ 0x80 ∷ 0x80 ∷ 0x80 ∷ 0x80 ∷ 0x80 ∷ []) (114 ∷ 101 ∷ 102 ∷ 117 ∷ 115 ∷ 101 ∷ 100 ∷ 32 ∷ 51 ∷ 32 ∷ 53 ∷ 10 ∷ [])
    ∷ row (0x04 ∷ 0x01 ∷ 0xFF ∷ 0xFF ∷ 0xFF ∷ 0xFF ∷ 0x10 ∷ 0x01 ∷ []) (114 ∷ 101 ∷ 102 ∷ 117 ∷ 115 ∷ 101 ∷ 100 ∷ 32 ∷ 51 ∷ 32 ∷ 54 ∷ 10 ∷ [])
    -- operation 9; operation number 134; an operation number that is cut short, and one not in shortest form
    ∷ row (0x02 ∷ 0x0A ∷ 0x09 ∷ 0x01 ∷ []) (114 ∷ 101 ∷ 102 ∷ 117 ∷ 115 ∷ 101 ∷ 100 ∷ 32 ∷ 51 ∷ 32 ∷ 50 ∷ 10 ∷ [])
    ∷ row (0x02 ∷ 0x0A ∷ 0x86 ∷ 0x01 ∷ []) (114 ∷ 101 ∷ 102 ∷ 117 ∷ 115 ∷ 101 ∷ 100 ∷ 32 ∷ 51 ∷ 32 ∷ 50 ∷ 10 ∷ [])
    ∷ row (0x02 ∷ 0x0A ∷ 0x86 ∷ []) (114 ∷ 101 ∷ 102 ∷ 117 ∷ 115 ∷ 101 ∷ 100 ∷ 32 ∷ 51 ∷ 32 ∷ 51 ∷ 10 ∷ [])
    ∷ row (0x02 ∷ 0x0A ∷ 0x86 ∷ 0x00 ∷ []) (114 ∷ 101 ∷ 102 ∷ 117 ∷ 115 ∷ 101 ∷ 100 ∷ 32 ∷ 51 ∷ 32 ∷ 51 ∷ 10 ∷ [])
    -- twenty inserts, and then operation 9 at byte 40; an insert without a key; a padded one
    ∷ row (0x02 ∷ 0x01 ∷ 0x02 ∷ 0x02 ∷ 0x02 ∷ 0x03 ∷ 0x02 ∷ 0x04 ∷ 0x02 ∷ 0x05 ∷ 0x02 ∷ 0x06 ∷ 0x02 ∷ 0x07 ∷ 0x02 ∷ 0x08 ∷ 0x02 ∷ 0x09 ∷ 0x02 ∷ 0x0A ∷ 0x02 ∷ 0x0B ∷ 0x02 ∷ 0x0C ∷ 0x02 ∷ 0x0D ∷ 0x02 ∷ 0x0E ∷ 0x02 ∷ 0x0F ∷ 0x02 ∷ 0x10 ∷ 0x02 ∷ 0x11 ∷ 0x02 ∷ 0x12 ∷ 0x02 ∷ 0x13 ∷ 0x02 ∷ 0x14 ∷ 0x09 ∷ 0x01 ∷ []) (114 ∷ 101 ∷ 102 ∷ 117 ∷ 115 ∷ 101 ∷ 100 ∷ 32 ∷ 51 ∷ 32 ∷ 52 ∷ 48 ∷ 10 ∷ [])
    ∷ row (0x02 ∷ 0x01 ∷ 0x02 ∷ 0x02 ∷ 0x02 ∷ 0x03 ∷ 0x02 ∷ 0x04 ∷ 0x02 ∷ 0x05 ∷ 0x02 ∷ 0x06 ∷ 0x02 ∷ 0x07 ∷ 0x02 ∷ 0x08 ∷ 0x02 ∷ 0x09 ∷ 0x02 ∷ 0x0A ∷ 0x02 ∷ 0x0B ∷ 0x02 ∷ 0x0C ∷ 0x02 ∷ 0x0D ∷ 0x02 ∷ 0x0E ∷ 0x02 ∷ 0x0F ∷ 0x02 ∷ 0x10 ∷ 0x02 ∷ 0x11 ∷ 0x02 ∷ 0x12 ∷ 0x02 ∷ 0x13 ∷ 0x02 ∷ 0x14 ∷ 0x02 ∷ []) (114 ∷ 101 ∷ 102 ∷ 117 ∷ 115 ∷ 101 ∷ 100 ∷ 32 ∷ 51 ∷ 32 ∷ 52 ∷ 49 ∷ 10 ∷ [])
    ∷ row (0x02 ∷ 0x01 ∷ 0x02 ∷ 0x02 ∷ 0x02 ∷ 0x03 ∷ 0x02 ∷ 0x04 ∷ 0x02 ∷ 0x05 ∷ 0x02 ∷ 0x06 ∷ 0x02 ∷ 0x07 ∷ 0x02 ∷ 0x08 ∷ 0x02 ∷ 0x09 ∷ 0x02 ∷ 0x0A ∷ 0x02 ∷ 0x0B ∷ 0x02 ∷ 0x0C ∷ 0x02 ∷ 0x0D ∷ 0x02 ∷ 0x0E ∷ 0x02 ∷ 0x0F ∷ 0x02 ∷ 0x10 ∷ 0x02 ∷ 0x11 ∷ 0x02 ∷ 0x12 ∷ 0x02 ∷ 0x13 ∷ 0x02 ∷ 0x14 ∷ 0x02 ∷ 0x95 ∷ 0x00 ∷ []) (114 ∷ 101 ∷ 102 ∷ 117 ∷ 115 ∷ 101 ∷ 100 ∷ 32 ∷ 51 ∷ 32 ∷ 52 ∷ 50 ∷ 10 ∷ [])
    -- inserts of 1 to 6, the last in slot 11: `0 1`, `0 3`, `0 5`, `0 7`, `0 9`, `0 11`; then a search of 7: `6 0`
    ∷ row (2 ∷ 1 ∷ 2 ∷ 2 ∷ 2 ∷ 3 ∷ 2 ∷ 4 ∷ 2 ∷ 5 ∷ 2 ∷ 6 ∷ 1 ∷ 7 ∷ [])
    (48 ∷ 32 ∷ 49 ∷ 10 ∷ 48 ∷ 32 ∷ 51 ∷ 10 ∷ 48 ∷ 32 ∷ 53 ∷ 10 ∷ 48 ∷ 32 ∷ 55 ∷ 10 ∷ 48 ∷ 32 ∷ 57 ∷ 10 ∷ 48 ∷ 32 ∷ 49 ∷ 49 ∷ 10 ∷ 54 ∷ 32 ∷ 48 ∷ 10 ∷ [])
    -- 02 (vii): inserts of 10, 20, 30 and 40, then "6 15", "6 41", "7 10 30", "8 15 35" and "7 0 4294967295": `0 20`, `6 0`, `0 3`, `0 2`, `0 2`
    ∷ row (2 ∷ 10 ∷ 2 ∷ 20 ∷ 2 ∷ 30 ∷ 2 ∷ 40 ∷ 6 ∷ 15 ∷ 6 ∷ 41 ∷ 7 ∷ 10 ∷ 30 ∷ 8 ∷ 15 ∷ 35 ∷ 7 ∷ 0 ∷ 0xFF ∷ 0xFF ∷ 0xFF ∷ 0xFF ∷ 0x0F ∷ [])
    (48 ∷ 32 ∷ 49 ∷ 10 ∷ 48 ∷ 32 ∷ 51 ∷ 10 ∷ 48 ∷ 32 ∷ 53 ∷ 10 ∷ 48 ∷ 32 ∷ 55 ∷ 10 ∷ 48 ∷ 32 ∷ 50 ∷ 48 ∷ 10 ∷ 54 ∷ 32 ∷ 48 ∷ 10 ∷ 48 ∷ 32 ∷ 51 ∷ 10 ∷ 48 ∷ 32 ∷ 50 ∷ 10 ∷ 48 ∷ 32 ∷ 50 ∷ 10 ∷ [])
    ∷ []

computed : all_shown cases ≡ all_said cases
unfolding cases all_shown all_said last_group below groups number last_argument only_argument two_arguments arguments_at meant_at operation_at command_at after read_from read_batch operation perform answers_of slot_of is_leaf size leaves red overweighted one count count_in level reach reached_slot reached_key insert_at new_slot moved_to cut delete_at nodes upwards prepared search insert_first insert_more insert deleted delete keys keys_of first_from key_or_absent next_key next_from span_of count_span delete_each delete_span digits decimal line refused_line answer_lines shown
computed = refl

pub worked : all_printed cases ≡ all_said cases
worked = all_shown_lem cases ∙ computed
