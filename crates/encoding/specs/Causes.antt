-- Document 01's table of codes for a command, rows 5 to 12 (RULES 9), and the numbers beside them: column "Given exactly when" and column
-- "Number", over the State that the commands before it left; which code is given (RULES 8); with those of 02 (vii) (RULES 18). (Rows 1 to 4 refuse a whole call: crate
-- demands' Ends.antt.)
use Rattle.std.specs.Prelude.{◌≡◌, false, length, ℕ, ◌+◌, ◌≤◌, ◌<◌}
use Rattle.tree.specs.declared.Kind.{Kind}
use Rattle.tree.specs.declared.Answer.TheVariants.{Done}
use Rattle.tree.specs.Codes.{most_level, kind_number}
use Rattle.tree.specs.Tree.{Tree, slot_of, count_in, level, LeafIn}
use Rattle.tree.specs.Kinds.{condition_at}
use Rattle.tree.specs.State.{State, empty, full, keys_of, is_in, slots_needed, step}
use Rattle.tree.specs.Settle.{trees_after, settle}
use Rattle.tree.specs.Spans.{keys_from}
use Rattle.encoding.specs.declared.Operation.{Operation}
use Rattle.encoding.specs.declared.Operation.TheVariants.{Search, Insert, Delete, Step, Settle, AtOrAbove, Count, DeleteSpan}

-- "steps taken": the trees of settle after the first
unfoldable pub steps_taken : ℕ → State → ℕ
steps_taken budget S = elim S.top [ empty ↦ 0 | full t ↦ length (trees_after S.slots budget t) ]

-- Operation o with the arguments a and b meets the cause of code n.
pub data Cause (a b : ℕ) (S : State) : Operation → ℕ → Type 0 where
  -- 5 (RULES 9.5) "insert: key present"
  key_present : is_in a S ≡ 1 → Cause a b S Insert 5
  -- 6 (RULES 9.6) "search or delete: key absent"
  search_absent : is_in a S ≡ 0 → Cause a b S Search 6
  delete_absent : is_in a S ≡ 0 → Cause a b S Delete 6
  -- .. and 02 (vii)'s (RULES 18.2): no key of the set is at or above a
  none_above : ((y : ℕ) → a ≤ y → is_in y S ≡ 0) → Cause a b S AtOrAbove 6
  -- 7 (RULES 9.7) "insert: fewer free slots than needed (1 if empty, else 2)"
  room_lacking : length S.free < slots_needed S.top → Cause a b S Insert 7
  -- 8 (RULES 9.8) "step: slot is 0, above C, free or a leaf"
  slot_0 : a ≡ 0 → Cause a b S Step 8
  slot_above : S.slots < a → Cause a b S Step 8
  slot_free : 1 ≤ count_in a S.free → Cause a b S Step 8
  slot_leaf : {t : Tree} {k : ℕ} → S.top ≡ full t → LeafIn a k t → Cause a b S Step 8
  -- 9 (RULES 9.9) "step: kind not 1 to 8"
  kind_0 : b ≡ 0 → Cause a b S Step 9
  kind_above : 8 < b → Cause a b S Step 9
  -- 10 (RULES 9.10) "step: condition false"
  condition_false : {t : Tree} (k : Kind) → S.top ≡ full t → b ≡ kind_number k → condition_at k a t ≡ false → Cause a b S Step 10
  -- 11 (RULES 9.11) "kind 1 at the root with L = 255"
  at_limit_case : {t : Tree} → S.top ≡ full t → b ≡ 1 → a ≡ slot_of t → level t ≡ most_level → Cause a b S Step 11
  -- 12 (RULES 9.12) "settle: budget spent and a step still allowed": "a slot and kind that would be accepted"
  still_allowed : (s n : ℕ) → steps_taken a S ≡ a → (step s n (settle a S).after).answer ≡ Done n → Cause a b S Settle 12

-- RULES 8.4: "lowest code first": the code that is given; 0 where no cause is there (RULES 9.0)
pub data FirstCause (a b : ℕ) (S : State) (o : Operation) : ℕ → Type 0 where
  no_cause : ((m : ℕ) → Cause a b S o m → ⊥) → FirstCause a b S o 0
  first_cause : {n : ℕ} → Cause a b S o n → ((m : ℕ) → m < n → Cause a b S o m → ⊥) → FirstCause a b S o n

-- The number beside code n (RULES 9.0, 9.5 to 9.12); T is the State after. "Numbers on code 0: search, the leaf's slot; insert, the new
-- key's slot; delete, keys left; step, the kind; settle, steps taken."
pub data Numbered (a b : ℕ) (S T : State) : Operation → ℕ → ℕ → Type 0 where
  leaf_slot_case : {s : ℕ} {t : Tree} → S.top ≡ full t → LeafIn s a t → Numbered a b S T Search 0 s
  new_slot_case : {s : ℕ} {t : Tree} → T.top ≡ full t → LeafIn s a t → Numbered a b S T Insert 0 s
  keys_left : {n : ℕ} → n ≡ length (keys_of T.top) → Numbered a b S T Delete 0 n
  the_kind : {n : ℕ} → n ≡ b → Numbered a b S T Step 0 n
  steps_done : {n : ℕ} → n ≡ steps_taken a S → Numbered a b S T Settle 0 n
  -- 02 (vii) (RULES 18.2, 18.4, 18.5): a key of the set at or above a, and none of the set between; how many keys from a to b there are; and how many
  -- there were, which the set has no more
  smallest : {k : ℕ} → a ≤ k → is_in k S ≡ 1 → ((y : ℕ) → a ≤ y → y < k → is_in y S ≡ 0) → Numbered a b S T AtOrAbove 0 k
  keys_counted : {n : ℕ} → n ≡ length (keys_from a b S) → Numbered a b S T Count 0 n
  keys_gone : {n : ℕ} → n ≡ length (keys_from a b S) → length (keys_of S.top) ≡ n + length (keys_of T.top) → Numbered a b S T DeleteSpan 0 n
  -- 12: "steps taken"
  steps_spent : {n : ℕ} → n ≡ steps_taken a S → Numbered a b S T Settle 12 n
  -- 5 to 11: 0
  refused_none : {o : Operation} {n : ℕ} → 5 ≤ n → n ≤ 11 → Numbered a b S T o n 0
