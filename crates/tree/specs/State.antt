-- What a pool means (RULES 1): C, the tree or none, the free slots in their order; which States are sound (RULES 2); what each command but
-- settle does to one (RULES 3, 4); and its report (RULES 6).
use Rattle.std.specs.Prelude.{◌≡◌, Bool, true, false, not, ◌||◌, List, [], ◌∷◌, eqb, ltb, ℕ, zero, suc, ◌+◌, ◌≤◌, ◌<◌, ◌^◌}
use Rattle.std.proofs.Math.Option.{Option, none, some}
use Rattle.tree.specs.declared.Refusal.TheVariants.{KeyPresent, KeyAbsent, NoRoom, NoInnerNode, NoSuchKind, ConditionFalse, LevelLimit}
use Rattle.tree.specs.declared.Kind.{Kind}
use Rattle.tree.specs.declared.Refusal.{Refusal}
use Rattle.tree.specs.declared.Answer.{Answer}
use Rattle.tree.specs.declared.Answer.TheVariants.{Done, Refused}
use Rattle.tree.specs.declared.Figures.{Figures}
use Rattle.tree.specs.Codes.{most_slots, most_level, kind_number, named}
use Rattle.tree.specs.Tree.{Tree, leaf, node, is_leaf, size, leaves, count, count_in, keys, Ordered, level, Chromatic}
use Rattle.tree.specs.Kinds.{holds_at, condition_at, stepped, at_limit}
use Rattle.tree.specs.Updates.{reached_slot, reached_key, insert_at, new_slot, delete_at}
use Rattle.tree.specs.Distances.{conflicts, red_distance, over_distance, excess_weight, bound}

-- "root slot (0 if empty)": nothing, or a tree
pub data Top : Type 0 where
  empty : Top
  full : Tree → Top

pub record State : Type 0 where
  pub slots : ℕ
  pub top : Top
  pub free : List ℕ

abbrev pub state : ℕ → Top → List ℕ → State
state c t fs = record { slots = c; top = t; free = fs }

-- N, "the slots in the tree"
unfoldable pub nodes : Top → ℕ
nodes empty = 0
nodes (full t) = size t

-- RULES 2.7: "L is 0 for an empty tree or one leaf."
unfoldable pub level_top : Top → ℕ
level_top empty = 0
level_top (full t) = level t

-- the keys
unfoldable pub keys_of : Top → List ℕ
keys_of empty = []
keys_of (full t) = keys t

-- how often key x is in the set: once, or not at all
abbrev pub is_in : ℕ → State → ℕ
is_in x S = count_in x (keys_of S.top)

-- how often slot s stands in the tree
unfoldable pub count_top : ℕ → Top → ℕ
count_top s empty = 0
count_top s (full t) = count s t

-- Keys are 32-bit numbers: from 0 to below this.
abbrev pub key_end : ℕ
key_end = 2 ^ 32

-- What the audit rules ask of the tree alone (RULES 2.5 to 2.7): order, weights, sums. ("Weights are 0 to 255" follows from L at most 255.)
pub record Good (t : Tree) : Type 0 where
  pub ordered : Ordered 0 key_end t
  pub chromatic : Chromatic 1 t
  pub low : level t ≤ most_level

unfoldable pub GoodTop : Top → Type 0
GoodTop empty = Unit {0}
GoodTop (full t) = Good t

-- RULES 2.2: "Every slot is in the tree exactly once or on the free chain exactly once, never both", and no other number is in either.
pub record Sound (S : State) : Type 0 where
  pub some : 1 ≤ S.slots
  pub few : S.slots ≤ most_slots
  pub once : (s : ℕ) → 1 ≤ s → s ≤ S.slots → count_top s S.top + count_in s S.free ≡ 1
  pub none_zero : count_top 0 S.top + count_in 0 S.free ≡ 0
  pub none_above : (s : ℕ) → S.slots < s → count_top s S.top + count_in s S.free ≡ 0
  pub good : GoodTop S.top

-- RULES 1.7: "Prepare makes a pool empty: [..] all slots free, chained 1, 2, .. C."
unfoldable pub upwards : ℕ → ℕ → List ℕ
upwards s zero = []
upwards s (suc n) = s ∷ upwards (suc s) n

unfoldable pub prepared : ℕ → State
prepared c = state c empty (upwards 1 c)

-- a command's answer, and the State after it
pub record Outcome : Type 0 where
  pub answer : Answer
  pub after : State

abbrev pub gives : Answer → State → Outcome
gives a S = record { answer = a; after = S }

-- "Codes 5 to 11 change no pool word"
abbrev pub refuses : Refusal → State → Outcome
refuses f S = gives (Refused f) S

-- Search (RULES 3.1): "the leaf's slot", or 6 "key absent".
unfoldable pub search : ℕ → State → Outcome
search x S = elim S.top [
  | empty ↦ refuses KeyAbsent S
  | full t ↦ elim (eqb (reached_key x t) x) [ true ↦ gives (Done (reached_slot x t)) S | false ↦ refuses KeyAbsent S ]
]

-- 7 (RULES 3.2): "fewer free slots than needed (1 if empty, else 2)"
unfoldable pub slots_needed : Top → ℕ
slots_needed empty = 1
slots_needed (full t) = 2

-- Insert (RULES 3.2): 5 "key present", 7 as above, or "the new key's slot". RULES 1.6: "Taking a slot takes the chain's head." Into an
-- empty tree, and into the tree t, with these free slots.
unfoldable pub insert_first : ℕ → State → List ℕ → Outcome
insert_first x S [] = refuses NoRoom S
insert_first x S (a ∷ fs) = gives (Done a) (state S.slots (full (leaf a x)) fs)

unfoldable pub insert_more : ℕ → State → Tree → List ℕ → Outcome
insert_more x S t [] = refuses NoRoom S
insert_more x S t (a ∷ []) = refuses NoRoom S
insert_more x S t (a ∷ (b ∷ fs)) = gives (Done (new_slot x (reached_key x t) a b)) (state S.slots (full (insert_at x a b 1 t).1) fs)

unfoldable pub insert : ℕ → State → Outcome
insert x S = elim S.top [
  | empty ↦ insert_first x S S.free
  | full t ↦ elim (eqb (reached_key x t) x) [ true ↦ refuses KeyPresent S | false ↦ insert_more x S t S.free ]
]

-- Delete (RULES 3.3): 6 "key absent", or "keys left". "A root leaf is freed." "The leaf's slot is freed first, then the sibling's", and
-- "freeing puts a slot at the head" (RULES 1.6).
unfoldable pub deleted : ℕ → State → Tree → Outcome
deleted x S (leaf s k) = gives (Done 0) (state S.slots empty (s ∷ S.free))
deleted x S (node v k wl l wr r) =
    let d = delete_at x 1 (node v k wl l wr r) in
    gives (Done (leaves d.tree)) (state S.slots (full d.tree) (d.sibling_slot ∷ (d.leaf_slot ∷ S.free)))

unfoldable pub delete : ℕ → State → Outcome
delete x S = elim S.top [
  | empty ↦ refuses KeyAbsent S
  | full t ↦ elim (eqb (reached_key x t) x) [ true ↦ deleted x S t | false ↦ refuses KeyAbsent S ]
]

-- Step (RULES 4.10). 8: "slot is 0, above C, free or a leaf"; 9: "kind not 1 to 8"; 10: "condition false"; 11: "kind 1 at the root with
-- L = 255".
unfoldable pub leaf_at : ℕ → Tree → Bool
leaf_at s t = holds_at (λ w u. is_leaf u) s 1 t

unfoldable pub no_inner : ℕ → State → Tree → Bool
no_inner s S t = eqb s 0 || ltb S.slots s || not (eqb (count_in s S.free) 0) || leaf_at s t

unfoldable pub step_kind : ℕ → Kind → State → Tree → Outcome
step_kind s k S t = elim (condition_at k s t) [
  | true ↦ elim (at_limit k s t) [ true ↦ refuses LevelLimit S | false ↦ gives (Done (kind_number k)) (state S.slots (full (stepped k s t)) S.free) ]
  | false ↦ refuses ConditionFalse S
]

unfoldable pub step_named : ℕ → Option Kind → State → Tree → Outcome
step_named s none S t = refuses NoSuchKind S
step_named s (some k) S t = step_kind s k S t

unfoldable pub step : ℕ → ℕ → State → Outcome
step s n S = elim S.top [
  | empty ↦ refuses NoInnerNode S
  | full t ↦ elim (no_inner s S t) [ true ↦ refuses NoInnerNode S | false ↦ step_named s (named n) S t ]
]

-- an empty tree's numbers (RULES 6.9), and "seven zeros when refused"
abbrev pub zeros : Figures
zeros = record { nodes = 0; level = 0; excess_weight = 0; conflicts = 0; over_distance = 0; red_distance = 0; bound = 0 }

-- RULES 6.9: "The report gives seven numbers: N, L, overweighted edges [..], R, D, Q, and (3N+1)D + 2NR + Q", the third by 02 (iii).
unfoldable pub report : Top → Figures
report empty = zeros
report (full t) = record {
  nodes = size t;
  level = level t;
  excess_weight = excess_weight t;
  conflicts = conflicts t;
  over_distance = over_distance (size t) t;
  red_distance = red_distance (size t) t;
  bound = bound t;
}

-- the numbers in that order
unfoldable pub figures : Figures → List ℕ
figures f = f.nodes ∷ f.level ∷ f.excess_weight ∷ f.conflicts ∷ f.over_distance ∷ f.red_distance ∷ f.bound ∷ []
