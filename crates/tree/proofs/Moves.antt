-- How each command moves the keys and the free slots of a State: an accepted insert adds one key and a delete takes one, C stays
-- (`insert_moves`, `delete_moves`); a step and a settle move no key and no free slot (`step_free`, `settle_keeps_keys`, `settle_free`).
-- k keys take 2k - 1 nodes (`nodes_held`). By cases on what each command does. Assumes nothing.
use mathlib.Core.Path.{◌≡◌, refl, ap}
use lib.ListN.{length}
use native.Mathlib.Omega.{arith}
use Prim.Native.Nat.{ℕ, zero, suc, pred, ◌+◌, ◌*◌}
use Rattle.tree.specs.Codes.{code_of}
use Rattle.tree.specs.Tree.{keys}
use Rattle.tree.specs.Updates.{insert_at}
use Rattle.tree.specs.State.{State, Top, empty, full, nodes, keys_of, Sound, upwards, Outcome, insert, delete, step}
use Rattle.tree.specs.Settle.{settle}
use Rattle.tree.proofs.Order.{leaves_keys, nodes_of}
use Rattle.tree.proofs.Insert.{insert_at_is, insert_leaves}
use Rattle.tree.proofs.Delete.{delete_leaves}
use Rattle.tree.proofs.Updated.{Inserting, is_there, no_first, no_two, as_first, beside, inserting, Deleting, from_none, not_there, the_last, one_of, deleting}
use Rattle.tree.proofs.StepState.{StepCase, refused, taken, stepping}
use Rattle.tree.proofs.Settling.{sound_proper, settle_after, settle_empty, settle_keys}

-- the keys of a State, counted
abbrev pub held_in : State → ℕ
held_in S = length (keys_of S.top)

pub nodes_held : (t : Top) → nodes t ≡ pred (2 * length (keys_of t))
unfolding nodes keys_of
nodes_held empty = refl
nodes_held (full t) = omega (arith, nodes_of t, leaves_keys t)

-- Accepted, an insert adds one key and a delete takes one; C stays.
pub record Moves (S : State) (o : Outcome) (before after : ℕ) : Type 0 where
  pub slots_stay : o.after.slots ≡ S.slots
  pub by_one : code_of o.answer ≡ 0 → held_in o.after + before ≡ held_in S + after

pub insert_moves : (x : ℕ) (S : State) → Sound S → Moves S (insert x S) 0 1
unfolding keys_of keys
insert_moves x S g = go (inserting x S g)
  where
    go : {o : Outcome} → Inserting x S o → Moves S o 0 1
    go (is_there e f i) = record { slots_stay = refl; by_one = λ z. absurd (omega arith) }
    go (no_first e f i) = record { slots_stay = refl; by_one = λ z. absurd (omega arith) }
    go (no_two e f n i) = record { slots_stay = refl; by_one = λ z. absurd (omega arith) }
    go (as_first e f i) = record { slots_stay = refl; by_one = λ z. rw e }
    go (beside {t} {a} {b} e f n i) =
        let d = insert_at_is x a b 1 t in
        record { slots_stay = refl; by_one = λ z. rw e (omega (arith, insert_leaves d, leaves_keys t, leaves_keys (insert_at x a b 1 t).1)) }

pub delete_moves : (x : ℕ) (S : State) → Sound S → Moves S (delete x S) 1 0
unfolding keys_of keys
delete_moves x S g = go (deleting x S g)
  where
    go : {o : Outcome} → Deleting x S o → Moves S o 1 0
    go (from_none e i) = record { slots_stay = refl; by_one = λ z. absurd (omega arith) }
    go (not_there e n i) = record { slots_stay = refl; by_one = λ z. absurd (omega arith) }
    go (the_last e i) = record { slots_stay = refl; by_one = λ z. rw e }
    go (one_of {t} {c} e i d) = record { slots_stay = refl; by_one = λ z. rw e (omega (arith, delete_leaves d, leaves_keys t, leaves_keys c.tree)) }

-- Prepare's chain has C slots.
pub upwards_length : (s n : ℕ) → length (upwards s n) ≡ n
unfolding upwards
upwards_length s zero = refl
upwards_length s (suc n) = ap suc (upwards_length (suc s) n)

-- Step and settle move no key and no free slot.
pub step_free : (s n : ℕ) (S : State) → (step s n S).after.free ≡ S.free
step_free s n S = go (stepping s n S)
  where
    go : {o : Outcome} → StepCase s n S o → o.after.free ≡ S.free
    go (refused c) = refl
    go (taken e f g a) = refl

pub settle_keeps_keys : (S : State) (budget : ℕ) → Sound S → keys_of (settle budget S).after.top ≡ keys_of S.top
unfolding keys_of
settle_keeps_keys S b h = go S.top refl
  where
    go : (T : Top) → S.top ≡ T → keys_of (settle b S).after.top ≡ keys_of S.top
    go empty e = rw (settle_empty S e b)
    go (full t) e = rw (settle_after S t e b, e) (settle_keys S.slots b t (sound_proper S t e h))

pub settle_free : (S : State) (budget : ℕ) → (settle budget S).after.free ≡ S.free
settle_free S b = go S.top refl
  where
    go : (T : Top) → S.top ≡ T → (settle b S).after.free ≡ S.free
    go empty e = rw (settle_empty S e b)
    go (full t) e = rw (settle_after S t e b)
