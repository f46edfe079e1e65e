-- The writer at one slot: what it answers and writes, from the slot's words and what is said of the children; and that every place on the way
-- is below 2 ^ 64, since a node takes seven bytes at most. Assumes nothing.
use mathlib.Core.Path.{◌≡◌, ap, ◌∙◌}
use mathlib.Core.Logic.{◌≢◌}
use mathlib.Core.List.{List, [], ◌∷◌, ◌++◌, append-nil}
use lib.ListN.{length, set, length-append}
use lib.Seq.{sets}
use Prim.Native.Nat.{ℕ, suc, ◌+◌, ◌*◌, ◌-◌, ◌^◌, ◌≤◌, ◌<◌}
use native.Mathlib.Omega.{arith}
use borrow.Author.Tests.{eq-eqb, ne_eqb}
use Rattle.tree.specs.Codes.{most_slots}
use Rattle.tree.specs.Tree.{size}
use Rattle.tree.proofs.Tests.{same_or_not}
use Rattle.format.specs.declared.Slot.{Slot}
use Rattle.format.specs.Words.{slot_at}
use Rattle.pool.specs.Walks.{most_sum}
use Rattle.pool.proofs.Standing.{Children, standing_weight, standing_leaf, standing_node}
use Rattle.numbers.specs.Shortest.{bytes_of}
use Rattle.numbers.proofs.Putting.{bytes_most}
use Rattle.saved.specs.Saved.{tree_numbers, bytes_of_all}
use Rattle.saved.proofs.ReadLists.{all_none, all_more, all_append}
use Rattle.saved.proofs.States.{size_pos}
use Rattle.saved.proofs.Lengths.{node_length, tree_length}
use Rattle.save.specs.Writing.{first_number, Stands, Placed, Put, Puts}

-- Writing one list after another is writing both.
sets_append : (l : List ℕ) (i : ℕ) (xs ys : List ℕ) → sets (sets l i xs) (i + length xs) ys ≡ sets l i (xs ++ ys)
sets_append l i [] ys = let e : i + 0 ≡ i = omega arith in rw e
sets_append l i (x ∷ xs) ys = let e : i + suc (length xs) ≡ suc i + length xs = omega arith in rw e (sets_append (set l i x) (suc i) xs ys)

pub put_then : {vs us out mid end : List ℕ} {at i r : ℕ} → Put vs out mid at i → Put us mid end i r → Put (vs ++ us) out end at r
put_then {vs} {us} {out} {mid} {end} {at} a b =
    let e = all_append vs us in
    record {
      next = rw (e, length-append) (omega (arith, a.next, b.next));
      wrote = rw e (rw (a.next, a.wrote, sets_append out at (bytes_of_all vs) (bytes_of_all us)) at b.wrote);
    }

put_one : (v : ℕ) {out end : List ℕ} {at : ℕ} → end ≡ sets out at (bytes_of v) → Put (v ∷ []) out end at (at + length (bytes_of v))
put_one v e = let b : bytes_of_all (v ∷ []) ≡ bytes_of v = rw (all_more v [], all_none, append-nil) in record { next = rw b; wrote = rw b e }

-- two numbers
module _ (a b : ℕ) where
  pub pair_length_is : length (bytes_of a) + length (bytes_of b) ≡ length (bytes_of_all (a ∷ (b ∷ [])))
  pair_length_is = rw (all_more a (b ∷ []), all_more b [], all_none, append-nil, length-append)

  pub pair_most : length (bytes_of_all (a ∷ (b ∷ []))) ≤ 10
  pair_most = omega (arith, pair_length_is, bytes_most a, bytes_most b)

  pub put_both : {out mid end : List ℕ} {at n m : ℕ} → mid ≡ sets out at (bytes_of a) → n ≡ length (bytes_of a) → end ≡ sets mid (at + n) (bytes_of b)
      → m ≡ length (bytes_of b) → Put (a ∷ (b ∷ [])) out end at (at + n + m)
  put_both e f g h = rw (f, h) (put_then (put_one a e) (put_one b (rw f at g)))

-- a tree of so many nodes takes seven bytes for each at most, and a node's own two numbers do
module _ {p : List ℕ} {s left : ℕ} where
  pub stands_few : (S : Stands p s left) → length (bytes_of_all (tree_numbers S.weight S.tree)) ≤ 7 * size S.tree
  stands_few S = tree_length S.weight S.tree (omega (arith, S.fine.low)) S.fine.chromatic

  pub stands_light : {c : Slot} → c ≡ slot_at p s → Stands p s left → c.weight ≤ most_sum
  stands_light read S = omega (arith, standing_weight S read, S.fine.low)

-- A slot's own two numbers.
abbrev own : Slot → List ℕ
own c = first_number c ∷ (c.key ∷ [])

module _ (c : Slot) where
  pub first_leaf : c.left ≡ 0 → first_number c ≡ 2 * c.weight
  unfolding first_number
  first_leaf e = rw (eq-eqb c.left 0 e, first_number)

  pub first_node : c.left ≢ 0 → first_number c ≡ 2 * c.weight + 1
  unfolding first_number
  first_node e = rw (ne_eqb c.left 0 e, first_number)

  first_small : first_number c ≤ 2 * c.weight + 1
  first_small = same_or_not c.left 0 (λ e. omega (arith, first_leaf e)) (λ e. omega (arith, first_node e))

module _ {p : List ℕ} {s left : ℕ} {c : Slot} (read : c ≡ slot_at p s) where
  own_few : Stands p s left → length (bytes_of_all (own c)) ≤ 7
  own_few S = node_length (first_number c) c.key (omega (arith, first_small c, stands_light read S))

  pub own_room : {at : ℕ} → Placed p s left at → at + length (bytes_of_all (own c)) < 2 ^ 64
  own_room P = omega (arith, P.room, size_pos P.standing.tree, own_few P.standing)

-- A slot whose `left` is 0 is a leaf's.
module _ {p : List ℕ} {s left : ℕ} {c : Slot} (read : c ≡ slot_at p s) (bare : c.left ≡ 0) where
  leaf_numbers : (S : Stands p s left) → tree_numbers S.weight S.tree ≡ own c
  unfolding tree_numbers
  leaf_numbers S = ap (tree_numbers S.weight) (standing_leaf S read bare) ∙ rw (first_leaf c bare, standing_weight S read)

  pub put_leaf : {out end : List ℕ} {at r : ℕ} → Put (own c) out end at r → Puts p s left out end at r
  put_leaf a S = rw (leaf_numbers S) a

-- Any other is an inner node's, over what stands at the two slots that it names.
module _ {p : List ℕ} {s left : ℕ} {c : Slot} (read : c ≡ slot_at p s) (inner : c.left ≢ 0) where
  sons : (S : Stands p s left) → Children p c most_slots left S.tree
  sons S = standing_node S read inner

  first_is : (S : Stands p s left) → 2 * S.weight + 1 ≡ first_number c
  first_is S = omega (arith, first_node c inner, standing_weight S read)

  node_numbers_lem : (S : Stands p s left)
      → let L = (sons S).on_left in let R = (sons S).on_right in
      tree_numbers S.weight S.tree ≡ own c ++ (tree_numbers L.weight L.tree ++ tree_numbers R.weight R.tree)
  unfolding tree_numbers
  node_numbers_lem S =
      let L = (sons S).on_left in
      let R = (sons S).on_right in
      ap (tree_numbers S.weight) (sons S).tree_is
      ∙ ap (λ (a : ℕ). a ∷ (c.key ∷ (tree_numbers L.weight L.tree ++ tree_numbers R.weight R.tree))) (first_is S)

  node_size : (S : Stands p s left) → size S.tree ≡ 1 + size (sons S).on_left.tree + size (sons S).on_right.tree
  unfolding size
  node_size S = ap size (sons S).tree_is

  -- What is said of the node.
  pub put_node : {out mid more end : List ℕ} {at i j r : ℕ} → Put (own c) out mid at i → Puts p c.left (left - 1) mid more i j
      → Puts p c.right (left - 1) more end j r → Puts p s left out end at r
  put_node a f g S = rw (node_numbers_lem S) (put_then a (put_then (f (sons S).on_left) (g (sons S).on_right)))

  -- What its calls are given.
  module _ {at : ℕ} (P : Placed p s left at) where
    module _ {out mid : List ℕ} {i : ℕ} (a : Put (own c) out mid at i) where
      pub left_placed : Placed p c.left (left - 1) i
      left_placed = let S = P.standing in record { standing = (sons S).on_left; room = omega (arith, P.room, node_size S, own_few read S, a.next) }

      pub right_placed : {more : List ℕ} {j : ℕ} → Puts p c.left (left - 1) mid more i j → Placed p c.right (left - 1) j
      right_placed f =
          let S = P.standing in
          let L = (sons S).on_left in
          record { standing = (sons S).on_right; room = omega (arith, P.room, node_size S, own_few read S, a.next, (f L).next, stands_few L) }
