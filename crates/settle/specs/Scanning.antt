-- Document 01, on words: the allowed steps and the first of them (serves RULES 5.1 and 5.2), among all slots and among those that are awake; and
-- how much is looked at on the way.
use Rattle.std.specs.Prelude.{ℕ, zero, suc, ◌+◌, ◌-◌, ◌*◌, ◌/◌, min, Bool, true, false, not, ◌&&◌, List, [], ◌∷◌, slice_set}
use Rattle.std.proofs.Math.Option.{Option, none, some}
use Rattle.tree.specs.declared.Kind.{Kind}
use Rattle.tree.specs.Codes.{kinds}
use Rattle.format.specs.declared.Header.{Header}
use Rattle.format.specs.Words.{last_slot}
use Rattle.kinds.specs.declared.Around.{Around}
use Rattle.kinds.specs.Around.{around_at}
use Rattle.kinds.specs.Conditions.{fits}
use Rattle.steps.specs.Steps.{inner_at, limit_at, lowest}
use Rattle.steps.specs.declared.Lowest.{Lowest}
use Rattle.std.specs.Prelude.{Option as Found, Some, None}
use Rattle.settle.specs.Awake.{block_size, group_size, block_of, group_place, is_awake}

-- Whether a slot counts, asked last, where a kind would be accepted: every one does.
unfoldable pub slot_counts : Header → List ℕ → ℕ → Bool
slot_counts h p s = true

-- RULES 5.1: "An allowed step is a slot and kind that would be accepted." At an inner node, around which a stands; and at any slot.
unfoldable pub allowed_around : Kind → Header → List ℕ → ℕ → Around → Bool
allowed_around k h p s a = fits k a && not (limit_at k h s) && slot_counts h p s

unfoldable pub allowed_words : Kind → Header → List ℕ → ℕ → Bool
allowed_words k h p s = inner_at p s && allowed_around k h p s (around_at p s)

-- the lowest of these kinds that is allowed at slot s
unfoldable pub first_kind : List Kind → Header → List ℕ → ℕ → Option Kind
first_kind [] h p s = none
first_kind (k ∷ ks) h p s = elim (allowed_words k h p s) [ true ↦ some k | false ↦ first_kind ks h p s ]

-- RULES 5.2: "the lowest slot with an allowed kind, and there the lowest kind", among the n slots from s on, with what stands around it
unfoldable pub first_from : ℕ → Header → List ℕ → ℕ → Found Lowest
first_from zero h p s = None
first_from (suc n) h p s = elim (first_kind kinds h p s) [ some k ↦ Some (lowest s k (around_at p s)) | none ↦ first_from n h p (suc s) ]

-- among all slots
abbrev pub first_allowed : Header → List ℕ → Found Lowest
first_allowed h p = first_from (last_slot p) h p 1

-- What a scan finds, what is awake after it, and how many slots and places of blocks and groups it looks at. A block that is looked at
-- counts with all its slots.
pub record Scan : Type 0 where
  pub found : Found Lowest
  pub awake : List Bool
  pub looks : ℕ

abbrev pub scan : Found Lowest → List Bool → ℕ → Scan
scan f m n = record { found = f; awake = m; looks = n }

-- the same after n more looks
abbrev pub after : ℕ → Scan → Scan
after n r = scan r.found r.awake (n + r.looks)

-- A row of n places, the first of which is `row + i`; `below i` scans the block or group whose place that is. What is asleep is
-- passed over, and what allows nothing falls asleep.
unfoldable pub row_from : (row : ℕ) → (ℕ → List Bool → Scan) → (n i : ℕ) → List Bool → Scan
row_from row below zero i m = scan None m 0
row_from row below (suc n) i m = elim (is_awake m (row + i)) [
  | false ↦ after 1 (row_from row below n (suc i) m)
  | true ↦ let r = below i m in elim r.found [
    | Some x ↦ scan (Some x) r.awake (1 + r.looks)
    | None ↦ after (1 + r.looks) (row_from row below n (suc i) (slice_set r.awake (row + i) false))
  ]
]

unfoldable pub in_block : Header → List ℕ → ℕ → List Bool → Scan
in_block h p b m = scan (first_from block_size h p (block_size * b)) m block_size

-- the blocks of a group, up to that of the last slot
abbrev pub blocks_in : List ℕ → ℕ → ℕ
blocks_in p g = min group_size (1 + block_of (last_slot p) - group_size * g)

unfoldable pub in_group : Header → List ℕ → ℕ → List Bool → Scan
in_group h p g m = row_from 0 (in_block h p) (blocks_in p g) (group_size * g) m

-- among the slots that are awake
unfoldable pub first_awake : Header → List ℕ → List Bool → Scan
first_awake h p m = row_from (group_place 0) (in_group h p) (1 + block_of (last_slot p) / group_size) 0 m
