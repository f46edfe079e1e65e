-- Document 01, Audit rules (RULES 2), on the words themselves: one definition a bullet, over what is found by following the words under a
-- header h, by value. Where the header lies is said at the end, where a pool is audited, with the codes (RULES 9) and what the exported
-- audit returns (RULES 10).
use Rattle.std.specs.Prelude.{Result, Ok, Err, Bool, true, false, not, ◌&&◌, ◌||◌, List, [], ◌∷◌, ◌++◌, eqb, leb, ltb, length, ℕ, zero, suc, ◌+◌}
use Rattle.format.specs.declared.Header.{Header}
use Rattle.format.specs.declared.Slot.{Slot}
use Rattle.format.specs.declared.Unsound.{Unsound}
use Rattle.format.specs.declared.Unsound.TheVariants.{Length, Broken}
use Rattle.format.specs.Words.{header_of, slot_at, slots_in, length_good, free_weight, head_of}
use Rattle.tree.specs.declared.Refusal.{Refusal}
use Rattle.tree.specs.declared.Refusal.TheVariants.{PoolLength, RulesBroken}
use Rattle.tree.specs.Codes.{most_level, code}
use Rattle.tree.specs.Tree.{Tree, leaf, node, count_in}
use Rattle.tree.specs.State.{State, state, Top, empty, full}

-- "Slots are numbered from 1; 0 is no slot."
unfoldable pub is_slot : List ℕ → ℕ → Bool
is_slot p s = leb 1 s && leb s (slots_in p)

-- What following left and right finds: nothing, or a slot, its words, and what its left and right lead to.
pub data Found : Type 0 where
  nothing : Found
  found : (s : ℕ) (c : Slot) (l r : Found) → Found

-- From slot s on, at most n slots deep.
unfoldable pub follow : ℕ → List ℕ → ℕ → Found
follow zero p s = nothing
follow (suc n) p s = elim (is_slot p s) [
  | true ↦ let c = slot_at p s in found s c (follow n p c.left) (follow n p c.right)
  | false ↦ nothing
]

-- The free chain from slot s on, at most n slots long, and where it leads when it leaves the slots of the pool (nowhere: it goes on).
unfoldable pub chain : ℕ → List ℕ → ℕ → List ℕ
chain zero p s = []
chain (suc n) p s = elim (is_slot p s) [ true ↦ s ∷ chain n p (slot_at p s).left | false ↦ [] ]

unfoldable pub chain_ends : ℕ → List ℕ → ℕ → Bool
chain_ends zero p s = true
chain_ends (suc n) p s = elim (is_slot p s) [ true ↦ chain_ends n p (slot_at p s).left | false ↦ eqb s 0 ]

-- C + 1 slots deep or long is enough: a way of more than C slots passes one of them twice, and shows it.
unfoldable pub tree_found : Header → List ℕ → Found
tree_found h p = follow (suc (slots_in p)) p h.root

unfoldable pub chain_found : Header → List ℕ → List ℕ
chain_found h p = chain (suc (slots_in p)) p h.free

-- the slots found, the words of a leaf ("A leaf has left and right 0"), and a test at each slot of a list
unfoldable pub slots_of : Found → List ℕ
slots_of nothing = []
slots_of (found s c l r) = s ∷ slots_of l ++ slots_of r

unfoldable pub bare : Slot → Bool
bare c = eqb c.left 0 && eqb c.right 0

unfoldable pub all : (ℕ → Bool) → List ℕ → Bool
all P [] = true
all P (x ∷ xs) = P x && all P xs

-- P at each slot from s on, n of them
unfoldable pub all_from : (ℕ → Bool) → ℕ → ℕ → Bool
all_from P s zero = true
all_from P s (suc n) = P s && all_from P (suc s) n

unfoldable pub same : Bool → Bool → Bool
same true b = b
same false b = not b

-- RULES 2.2: "Every slot is in the tree exactly once or on the free chain exactly once, never both. N is right. Root is 0 exactly when N
-- is 0."
unfoldable pub rule_once : Header → List ℕ → Bool
rule_once h p =
    all_from (λ s. eqb (count_in s (slots_of (tree_found h p)) + count_in s (chain_found h p)) 1) 1 (slots_in p)
    && eqb h.nodes (length (slots_of (tree_found h p)))
    && same (eqb h.root 0) (eqb h.nodes 0)

-- RULES 2.3: "A free slot is 0, next free slot (0 at the end), 0, 4,294,967,295." (A slot that the chain shares with the tree breaks
-- RULES 2.2.)
unfoldable pub free_words : List ℕ → ℕ → Bool
free_words p s = let c = slot_at p s in eqb c.key 0 && eqb c.right 0 && eqb c.weight free_weight

unfoldable pub rule_free : Header → List ℕ → Bool
rule_free h p =
    all (λ s. not (eqb (count_in s (slots_of (tree_found h p))) 0) || free_words p s) (chain_found h p)
    && chain_ends (suc (slots_in p)) p h.free

-- RULES 2.4: "A leaf has left and right 0; an inner node has both from 1 to C."
unfoldable pub children : List ℕ → Found → Bool
children p nothing = true
children p (found s c l r) = (bare c || is_slot p c.left && is_slot p c.right) && children p l && children p r

unfoldable pub rule_children : Header → List ℕ → Bool
rule_children h p = children p (tree_found h p)

-- RULES 2.5: "Leaf keys in a left subtree are at most the router; leaf keys in a right subtree are greater."
unfoldable pub leaf_keys : Found → List ℕ
leaf_keys nothing = []
leaf_keys (found s c l r) = elim (bare c) [ true ↦ c.key ∷ [] | false ↦ leaf_keys l ++ leaf_keys r ]

unfoldable pub routed : Found → Bool
routed nothing = true
routed (found s c l r) = all (λ k. leb k c.key) (leaf_keys l) && all (λ k. ltb c.key k) (leaf_keys r) && routed l && routed r

unfoldable pub rule_order : Header → List ℕ → Bool
rule_order h p = routed (tree_found h p)

-- RULES 2.6: "Weights are 0 to 255. The root's is 1 and counts in nothing. A leaf that is not the root has at least 1."
unfoldable pub well_weighed : Found → Bool
well_weighed nothing = true
well_weighed (found s c l r) = leb c.weight most_level && (not (bare c) || leb 1 c.weight) && well_weighed l && well_weighed r

unfoldable pub root_weighed : Found → Bool
root_weighed nothing = true
root_weighed (found s c l r) = eqb c.weight 1 && well_weighed l && well_weighed r

unfoldable pub rule_weights : Header → List ℕ → Bool
rule_weights h p = root_weighed (tree_found h p)

-- RULES 2.7: "From root to leaf the weights, root's left out, add up to the same number L for every leaf, and L is at most 255."
-- Each leaf's sum, n being the sum on the way to the node's parent.
unfoldable pub sums_of : ℕ → Found → List ℕ
sums_of n nothing = []
sums_of n (found s c l r) = elim (bare c) [ true ↦ (n + c.weight) ∷ [] | false ↦ sums_of (n + c.weight) l ++ sums_of (n + c.weight) r ]

unfoldable pub root_sums : Found → List ℕ
root_sums nothing = []
root_sums (found s c l r) = elim (bare c) [ true ↦ 0 ∷ [] | false ↦ sums_of 0 l ++ sums_of 0 r ]

unfoldable pub rule_sums : Header → List ℕ → Bool
rule_sums h p = let sums = root_sums (tree_found h p) in all (λ n. eqb n (head_of sums)) sums && leb (head_of sums) most_level

-- RULES 2.1. 02 (v): "The audit checks it against the weights; 01's rule that this word is 0 is replaced." L is the first leaf's sum, as
-- RULES 2.7 compares each leaf's with it; there is none where there is no leaf, and L is 0.
unfoldable pub rule_level : Header → List ℕ → Bool
rule_level h p = eqb h.level (head_of (root_sums (tree_found h p)))

-- The rules in 01's order, the header's word first (RULES 2.1 to 2.7). Code 2 (RULES 9.2): "audit rules broken".
unfoldable pub rules : Header → List ℕ → List Bool
rules h p =
    rule_level h p ∷ rule_once h p ∷ rule_free h p ∷ rule_children h p ∷ rule_order h p ∷ rule_weights h p ∷ rule_sums h p ∷ []

unfoldable pub all_true : List Bool → Bool
all_true [] = true
all_true (b ∷ bs) = b && all_true bs

unfoldable pub rules_under : Header → List ℕ → Bool
rules_under h p = all_true (rules h p)

-- The State that words show, read off what is found; it means something where the rules hold.
unfoldable pub found_weight : Found → ℕ
found_weight nothing = 0
found_weight (found s c l r) = c.weight

unfoldable pub tree_of : Found → Tree
tree_of nothing = leaf 0 0
tree_of (found s c l r) = elim (bare c) [ true ↦ leaf s c.key | false ↦ node s c.key (found_weight l) (tree_of l) (found_weight r) (tree_of r) ]

unfoldable pub top_of : Found → Top
top_of nothing = empty
top_of (found s c l r) = full (tree_of (found s c l r))

unfoldable pub state_under : Header → List ℕ → State
state_under h p = state (slots_in p) (top_of (tree_found h p)) (chain_found h p)

-- A pool is audited under the header in its first four words.
abbrev pub rules_hold : List ℕ → Bool
rules_hold p = rules_under (header_of p) p

abbrev pub state_of : List ℕ → State
state_of p = state_under (header_of p) p

-- RULES 2.8: all that the audit learns, and the one order of refusals 1 and 2 (RULES 9.1 and 9.2). 1: "pool length is not 4 + 4C";
-- 2: "audit rules broken"; or the header.
unfoldable pub audited : List ℕ → Result Header Unsound
audited p = elim (length_good p) [
  | false ↦ Err Length
  | true ↦ elim (rules_hold p) [ false ↦ Err Broken | true ↦ Ok (header_of p) ]
]

abbrev pub refusal_of : Unsound → Refusal
refusal_of Length = PoolLength
refusal_of Broken = RulesBroken

-- the code of whatever one of the two causes refuses, the audit or more
abbrev pub audited_code : {A : Type 0} → Result A Unsound → ℕ
audited_code (Ok a) = 0
audited_code (Err u) = code (refusal_of u)

-- RULES 10.1: "audit [gives] 0, 1 or 2"
unfoldable pub audit_code : List ℕ → ℕ
audit_code p = audited_code (audited p)
