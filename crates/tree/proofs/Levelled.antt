-- Where L moves, over sound States, and that it moves nowhere else. Done, an insert raises it by 1 where the tree had one node, which makes
-- its key the second, and no other insert moves it (`level_at_insert`); a delete lowers it by the sibling's weight where its leaf hangs right
-- under the root, and no other moves it (`level_at_delete`); of two keys it leaves L 0 (`level_at_last_delete`); a step at the root moves it as
-- the tables `rises_by` and `falls_by` say, kind 1 up by 1, kind 6 down by 1, the others not, and a step elsewhere does not move it
-- (`level_at_step`). A command that is refused leaves the State (Updated.antt: `insert_kept`, `delete_kept`; StepState.antt: `step_refused`).
-- Why: Insert.antt, Delete.antt and StepLevels.antt say it of trees; a tree of one node is a leaf. Assumes nothing.
use mathlib.Core.Option.{some}
use mathlib.Core.Path.{◌≡◌, refl, sym}
use mathlib.Core.Logic.{◌≢◌}
use lib.Dec.{eqb}
use native.Mathlib.Omega.{arith}
use Prim.Native.Nat.{ℕ, ◌+◌}
use Rattle.tree.specs.declared.Kind.{Kind}
use Rattle.tree.specs.declared.Answer.TheVariants.{Done}
use Rattle.tree.specs.Codes.{named}
use Rattle.tree.specs.Tree.{Tree, leaf, node, slot_of, is_leaf, size, one, level}
use Rattle.tree.specs.Kinds.{rises_by, falls_by}
use Rattle.tree.specs.State.{State, full, nodes, level_top, Sound, Outcome, insert, delete, step}
use Rattle.tree.proofs.Tests.{one_other}
use Rattle.tree.proofs.Order.{nodes_of}
use Rattle.tree.proofs.SoundStates.{tree_good, tree_once}
use Rattle.tree.proofs.Steps.{made}
use Rattle.tree.proofs.StepLevels.{root_level, below_root_level}
use Rattle.tree.proofs.Insert.{insert_at_is, insert_root_level}
use Rattle.tree.proofs.Delete.{root_cut, delete_size, delete_root_level}
use Rattle.tree.proofs.Updated.{Inserting, is_there, no_first, no_two, as_first, beside, inserting, Deleting, from_none, not_there, the_last, one_of, deleting}
use Rattle.tree.proofs.StepState.{Accepted, accepted_iff, accepted_outcome}

-- A tree of one node is a leaf, and has L 0.
one_node : (t : Tree) → one (is_leaf t) ≡ one (eqb (size t) 1)
unfolding is_leaf size one
one_node (leaf s k) = refl
one_node (node s k wl l wr r) = sym (one_other (1 + size l + size r) 1 (λ e. omega (arith, nodes_of l, nodes_of r)))

one_node_level : (t : Tree) → size t ≡ 1 → level t ≡ 0
unfolding size level
one_node_level (leaf s k) e = refl
one_node_level (node s k wl l wr r) e = absurd (omega (arith, nodes_of l, nodes_of r))

module _ (x : ℕ) (S : State) (sound : Sound S) {a : ℕ} where
  -- The second key comes to a tree of one node, and makes L 1. No other key moves it.
  pub level_at_insert : (insert x S).answer ≡ Done a → level_top (insert x S).after.top ≡ level_top S.top + one (eqb (nodes S.top) 1)
  unfolding level_top nodes level one
  level_at_insert = go (inserting x S sound)
    where
      go : {o : Outcome} → Inserting x S o → o.answer ≡ Done a → level_top o.after.top ≡ level_top S.top + one (eqb (nodes S.top) 1)
      go (is_there e f i) d = let z : ◌≡◌ {A = ℕ} 0 1 = cc in absurd (omega arith)
      go (no_first e f i) d = let z : ◌≡◌ {A = ℕ} 0 1 = cc in absurd (omega arith)
      go (no_two e f n i) d = let z : ◌≡◌ {A = ℕ} 0 1 = cc in absurd (omega arith)
      go (as_first e f i) d = rw e
      go (beside {t} {a = v} {b = w} e f n i) d =
          rw e (omega (arith, insert_root_level (insert_at_is x v w 1 t) (tree_good S t sound e).chromatic, one_node t))

  -- `root_cut` (Delete.antt) is the sibling's weight, where the leaf hangs right under the root, and 0 where it hangs elsewhere.
  pub level_at_delete : (delete x S).answer ≡ Done a → (t : Tree) → S.top ≡ full t → level_top (delete x S).after.top + root_cut x t ≡ level_top S.top
  unfolding level_top level root_cut
  level_at_delete d t h = go (deleting x S sound) d
    where
      go : {o : Outcome} → Deleting x S o → o.answer ≡ Done a → level_top o.after.top + root_cut x t ≡ level_top S.top
      go (from_none e i) d = let z : ◌≡◌ {A = ℕ} 0 1 = cc in absurd (omega arith)
      go (not_there e n i) d = let z : ◌≡◌ {A = ℕ} 0 1 = cc in absurd (omega arith)
      go (the_last {s} e i) d = let same : t ≡ leaf s x = cc in rw (e, same)
      go (one_of {t = u} {c} e i f) d = let same : t ≡ u = cc in rw (e, same) (delete_root_level f (tree_good S u sound e).chromatic)

  -- Two keys are three nodes.
  pub level_at_last_delete : (delete x S).answer ≡ Done a → nodes S.top ≡ 3 → level_top (delete x S).after.top ≡ 0
  unfolding level_top nodes
  level_at_last_delete d h = go (deleting x S sound) d
    where
      go : {o : Outcome} → Deleting x S o → o.answer ≡ Done a → level_top o.after.top ≡ 0
      go (from_none e i) d = let z : ◌≡◌ {A = ℕ} 0 1 = cc in absurd (omega arith)
      go (not_there e n i) d = let z : ◌≡◌ {A = ℕ} 0 1 = cc in absurd (omega arith)
      go (the_last e i) d = refl
      go (one_of {t} {c} e i f) d = let three : size t ≡ 3 = rw e at h in one_node_level c.tree (omega (arith, delete_size f))

-- 01: "Kind 1 at the root raises L." Kind 6 there lowers it, kinds 7 and 8 there keep it, and so does every step below the root.
pub level_at_step : (s n : ℕ) (S : State) → Sound S → {a : ℕ} → (step s n S).answer ≡ Done a → (t : Tree) → S.top ≡ full t → (k : Kind) → named n ≡ some k
    → (s ≡ slot_of t → level_top (step s n S).after.top + falls_by k ≡ level_top S.top + rises_by k)
    × (s ≢ slot_of t → level_top (step s n S).after.top ≡ level_top S.top)
unfolding level_top
level_at_step s n S sound {a} d t e k g = go ((accepted_iff s n S sound t e a).0 d)
  where
    go : Accepted s n a t
        → (s ≡ slot_of t → level_top (step s n S).after.top + falls_by k ≡ level_top S.top + rises_by k)
        × (s ≢ slot_of t → level_top (step s n S).after.top ≡ level_top S.top)
    go A =
        let called = A.is_named in
        let same : k ≡ A.kind = cc in
        let once = tree_once S t sound e s in
        let m = (made A.kind s t (tree_good S t sound e).chromatic once A.holds).step in
        rw (accepted_outcome s n S sound t e a A, e, same) (λ r. root_level m r once, λ r. below_root_level m r)
