-- Which slots settle looks at (serves RULES 5): a slot that is asleep allows no step. It is kept by blocks of 8 slots, and by groups of 32
-- blocks, so that blocks that are asleep are passed over 32 at a time: a list with a place for each block and then one for each group, true
-- where it is awake.
use Rattle.std.specs.Prelude.{ℕ, ◌+◌, ◌/◌, Bool, true, false, List, replicate, ◌==◌, slice_index_or, slice_set}

-- the slots of a block
abbrev pub block_size : ℕ
block_size = 8

-- the blocks of a group
abbrev pub group_size : ℕ
group_size = 32

-- the blocks of 16,384 slots: the groups' places come after theirs
abbrev pub most_blocks : ℕ
most_blocks = 2048

abbrev pub most_groups : ℕ
most_groups = 64

abbrev pub block_of : ℕ → ℕ
block_of s = s / block_size

-- the place of a group
abbrev pub group_place : ℕ → ℕ
group_place g = most_blocks + g

unfoldable pub is_awake : List Bool → ℕ → Bool
is_awake m i = slice_index_or m i false

-- a slot's block and its group
abbrev pub wake_block : List Bool → ℕ → List Bool
wake_block m b = slice_set (slice_set m b true) (group_place (b / group_size)) true

-- "0 is no slot": nothing is woken.
unfoldable pub wake : List Bool → ℕ → List Bool
wake m s = elim (s == 0) [ true ↦ m | false ↦ wake_block m (block_of s) ]

abbrev pub all_awake : List Bool
all_awake = replicate (most_blocks + most_groups) true

abbrev pub all_asleep : List Bool
all_asleep = replicate (most_blocks + most_groups) false
