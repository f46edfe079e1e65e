-- Each kind of damage breaks exactly the rule of document 01 that names it: one table, and one proof, which the checker computes.
-- Rule 0 is the header's fourth word, L, rules 1 to 6 are the six bullets in 01's order. Assumes nothing.
use mathlib.Core.Path.{◌≡◌, refl}
use mathlib.Core.Bool.{Bool, true, false}
use mathlib.Core.List.{List, [], ◌∷◌}
use Prim.Native.Nat.{ℕ, suc}
use Rattle.format.specs.declared.Header.{Header}
use Rattle.format.specs.declared.Slot.{Slot}
use Rattle.format.specs.Words.{header, slot, free_slot, free_weight, header_of, slot_at, slots_in}
use Rattle.format.specs.Audit.{is_slot, follow, chain, chain_ends, tree_found, chain_found, slots_of, bare, all, all_from, same, rule_once, free_words, rule_free, children, rule_children, leaf_keys, routed, rule_order, well_weighed, root_weighed, rule_weights, sums_of, root_sums, rule_sums, rule_level, rules}
use Rattle.format.proofs.Rows.{pool, Row, row, all_given, all_said}
use Rattle.tree.specs.Tree.{one, count_in}

-- which rules are broken, by their numbers from n on
unfoldable pub broken : ℕ → List Bool → List ℕ
broken n [] = []
broken n (true ∷ bs) = broken (suc n) bs
broken n (false ∷ bs) = n ∷ broken (suc n) bs

-- a pool of a header and slots, and the rules that it breaks
abbrev hurt : Header → List Slot → List ℕ → Row
hurt h cs said = let p = pool h cs in row (broken 0 (rules (header_of p) p)) said

unfoldable pub damaged : List Row
damaged =
    -- sound pools: three slots in a tree; one leaf; an empty pool of two slots
    hurt (header 1 0 3 1) (slot 10 2 3 1 ∷ slot 10 0 0 1 ∷ slot 20 0 0 1 ∷ []) []
    ∷ hurt (header 1 0 1 0) (slot 5 0 0 1 ∷ []) []
    ∷ hurt (header 0 1 0 0) (free_slot 2 ∷ free_slot 0 ∷ []) []
    -- the third header word wrong: "N is right"
    ∷ hurt (header 1 0 2 1) (slot 10 2 3 1 ∷ slot 10 0 0 1 ∷ slot 20 0 0 1 ∷ []) (1 ∷ [])
    -- the fourth header word not L: another, and 0, which stood there before 02 (v)
    ∷ hurt (header 1 0 3 7) (slot 10 2 3 1 ∷ slot 10 0 0 1 ∷ slot 20 0 0 1 ∷ []) (0 ∷ [])
    ∷ hurt (header 1 0 3 0) (slot 10 2 3 1 ∷ slot 10 0 0 1 ∷ slot 20 0 0 1 ∷ []) (0 ∷ [])
    -- a slot in the tree and on the chain
    ∷ hurt (header 1 2 3 1) (slot 10 2 3 1 ∷ slot 10 0 0 1 ∷ slot 20 0 0 1 ∷ []) (1 ∷ [])
    -- a chain that runs into the tree
    ∷ hurt (header 1 4 3 1) (slot 10 2 3 1 ∷ slot 10 0 0 1 ∷ slot 20 0 0 1 ∷ free_slot 2 ∷ []) (1 ∷ [])
    -- a cycle in the tree; one in the chain
    ∷ hurt (header 1 0 1 0) (slot 10 1 1 1 ∷ []) (1 ∷ [])
    ∷ hurt (header 1 2 1 0) (slot 10 0 0 1 ∷ free_slot 2 ∷ []) (1 ∷ [])
    -- a chain one short: slot 5 is nowhere
    ∷ hurt (header 1 4 3 1) (slot 10 2 3 1 ∷ slot 10 0 0 1 ∷ slot 20 0 0 1 ∷ free_slot 0 ∷ free_slot 0 ∷ []) (1 ∷ [])
    -- root 0 and N not 0, the slots being free
    ∷ hurt (header 0 1 1 0) (free_slot 0 ∷ []) (1 ∷ [])
    -- a free slot with a key; with another weight; a chain that ends outside the pool
    ∷ hurt (header 1 4 3 1) (slot 10 2 3 1 ∷ slot 10 0 0 1 ∷ slot 20 0 0 1 ∷ slot 5 0 0 free_weight ∷ []) (2 ∷ [])
    ∷ hurt (header 1 4 3 1) (slot 10 2 3 1 ∷ slot 10 0 0 1 ∷ slot 20 0 0 1 ∷ slot 0 0 0 1 ∷ []) (2 ∷ [])
    ∷ hurt (header 1 9 3 1) (slot 10 2 3 1 ∷ slot 10 0 0 1 ∷ slot 20 0 0 1 ∷ []) (2 ∷ [])
    -- an inner node with one child 0; one with a child above C
    ∷ hurt (header 1 0 2 1) (slot 10 2 0 1 ∷ slot 10 0 0 1 ∷ []) (3 ∷ [])
    ∷ hurt (header 1 0 2 1) (slot 10 2 9 1 ∷ slot 10 0 0 1 ∷ []) (3 ∷ [])
    -- a key on the wrong side of a router far above it; a key equal to the router on its right
    ∷ hurt (header 1 0 7 2) (slot 20 2 3 1 ∷ slot 10 4 5 1 ∷ slot 30 6 7 1 ∷ slot 10 0 0 1 ∷ slot 25 0 0 1 ∷ slot 30 0 0 1 ∷ slot 40 0 0 1 ∷ []) (4 ∷ [])
    ∷ hurt (header 1 0 3 1) (slot 10 2 3 1 ∷ slot 10 0 0 1 ∷ slot 10 0 0 1 ∷ []) (4 ∷ [])
    -- leaves of weight 0 off the root; a root of weight 2; leaves of weight 256, which bring L above 255 too
    ∷ hurt (header 1 0 3 0) (slot 10 2 3 1 ∷ slot 10 0 0 0 ∷ slot 20 0 0 0 ∷ []) (5 ∷ [])
    ∷ hurt (header 1 0 3 1) (slot 10 2 3 2 ∷ slot 10 0 0 1 ∷ slot 20 0 0 1 ∷ []) (5 ∷ [])
    ∷ hurt (header 1 0 3 256) (slot 10 2 3 1 ∷ slot 10 0 0 256 ∷ slot 20 0 0 256 ∷ []) (5 ∷ 6 ∷ [])
    -- unequal sums; L above 255
    ∷ hurt (header 1 0 3 1) (slot 10 2 3 1 ∷ slot 10 0 0 1 ∷ slot 20 0 0 2 ∷ []) (6 ∷ [])
    ∷ hurt (header 1 0 7 300) (slot 20 2 3 1 ∷ slot 10 4 5 200 ∷ slot 30 6 7 200 ∷ slot 10 0 0 100 ∷ slot 20 0 0 100 ∷ slot 30 0 0 100 ∷ slot 40 0 0 100 ∷ []) (6 ∷ [])
    ∷ []

pub damage_named : all_given damaged ≡ all_said damaged
unfolding damaged broken all_given all_said header_of slot_at slots_in is_slot follow chain chain_ends tree_found chain_found slots_of bare all all_from same rule_once free_words rule_free children rule_children leaf_keys routed rule_order well_weighed root_weighed rule_weights sums_of root_sums rule_sums rule_level rules one count_in
damage_named = refl
