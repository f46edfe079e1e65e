-- What the words say of the set that a sound State holds (`member_shown` to `needed_shown`), and of two States that differ by a key
-- (`one_more`) or by none (`same_set`). Behind the page Promises.antt; not for crates above.
-- Why room follows keys: a tree of k keys has 2k - 1 nodes, and nodes and free slots together are C. Assumes nothing.
use mathlib.Core.Path.{◌≡◌, refl, ap, sym, ◌∙◌}
use mathlib.Core.Logic.{◌≢◌}
use mathlib.Core.List.{List}
use lib.Dec.{eqb}
use lib.ListN.{length}
use native.Mathlib.Omega.{arith}
use Prim.Native.Nat.{ℕ, pred, ◌+◌, ◌*◌}
use Rattle.tree.specs.Tree.{one, count_in}
use Rattle.tree.specs.State.{State, Top, empty, full, keys_of, is_in, Sound, slots_needed}
use Rattle.tree.proofs.Order.{leaves_keys, nodes_of}
use Rattle.tree.proofs.Moves.{held_in, nodes_held}
use Rattle.format.specs.Shows.{PoolShows}
use Rattle.format.specs.Audit.{state_of}
use Rattle.format.proofs.Rules.{show_rules}
use Rattle.tree.proofs.SoundStates.{sound_total}
use Rattle.tree.proofs.Tests.{one_same, one_other}
use Rattle.set.specs.Inside.{held, member, needed, room}
use Rattle.set.specs.Set.{OneMore, SameSet}

-- 2k - 1 nodes: those of one key more are so many more
needed_pred : (t : Top) → pred (2 * (length (keys_of t) + 1)) ≡ pred (2 * length (keys_of t)) + slots_needed t
unfolding keys_of slots_needed
needed_pred empty = refl
needed_pred (full t) = omega (arith, nodes_of t, leaves_keys t)

module _ {p : List ℕ} {S : State} (sound : Sound S) (shows : PoolShows p S) where
  state_is : state_of p ≡ S
  state_is = (show_rules sound shows).2

  pub member_shown : (x : ℕ) → member x p ≡ is_in x S
  unfolding member
  member_shown x = rw state_is

  pub held_shown : held p ≡ held_in S
  unfolding held
  held_shown = rw state_is

  pub room_shown : room p ≡ length S.free
  unfolding room
  room_shown = rw state_is

  pub needed_shown : needed p ≡ slots_needed S.top
  unfolding needed
  needed_shown = rw state_is

  -- "2k - 1" nodes and the free slots are C
  pub room_held : pred (2 * held p) + room p ≡ S.slots
  room_held = omega (arith, held_shown, room_shown, nodes_held S.top, sound_total sound)

-- One key more, in a State of the same C: the room follows.
pub one_more : {p q : List ℕ} {S T : State} → Sound S → PoolShows p S → Sound T → PoolShows q T → T.slots ≡ S.slots → held_in T ≡ held_in S + 1
    → (x : ℕ) → ((y : ℕ) → is_in y T ≡ is_in y S + one (eqb y x)) → OneMore x p q
one_more {p} {q} {S} sound shows sound' shows' slots more x moved =
    let h : held q ≡ held p + 1 = omega (arith, held_shown sound shows, held_shown sound' shows') in
    let n : pred (2 * held q) ≡ pred (2 * held p) + needed p = omega (arith, held_shown sound shows, needed_shown sound shows, needed_pred S.top) in
    record {
      members = λ y. omega (arith, member_shown sound shows y, member_shown sound' shows' y, moved y);
      keys_held = h;
      room_left = omega (arith, room_held sound shows, room_held sound' shows');
    }

-- The same keys and free slots.
pub same_set : {p q : List ℕ} {S T : State} → Sound S → PoolShows p S → Sound T → PoolShows q T → keys_of T.top ≡ keys_of S.top → T.free ≡ S.free → SameSet p q
unfolding member
same_set {p} {q} {S} {T} sound shows sound' shows' keys-same free-same = record {
  members = λ y. rw (state_is sound shows, state_is sound' shows') (ap (count_in y) keys-same);
  keys_held = held_shown sound' shows' ∙ (ap length keys-same ∙ sym (held_shown sound shows));
  room_left = room_shown sound' shows' ∙ (ap length free-same ∙ sym (room_shown sound shows));
}

-- One key more: that key is there once more, and every other as before.
module _ {x : ℕ} {p q : List ℕ} (m : OneMore x p q) where
  pub more_here : member x q ≡ member x p + 1
  more_here = omega (arith, m.members x, one_same x x refl)

  pub more_elsewhere : (y : ℕ) → y ≢ x → member y q ≡ member y p
  more_elsewhere y n = omega (arith, m.members y, one_other y x n)
