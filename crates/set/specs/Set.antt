-- The set of keys that a pool shows, and what its operations answer (RULES 13.2, RULES 18): the words of proofs/Promises.antt. A crate above cites
-- these names and cannot look behind them: `Passing`, `member`, `held`, `room` and `needed` are passed on here, and what they are stands in Inside.antt.
use Rattle.std.specs.Prelude.{◌≡◌, ◌↔◌, true, false, List, eqb, ℕ, zero, suc, ◌+◌, ◌-◌, ◌≤◌, ◌<◌}
use Rattle.tree.specs.declared.Answer.{Answer}
use Rattle.tree.specs.declared.Answer.TheVariants.{Done, Refused, Spent}
use Rattle.tree.specs.declared.Refusal.TheVariants.{PoolLength, RulesBroken, KeyPresent, KeyAbsent, NoRoom}
use Rattle.tree.specs.Codes.{most_level, code}
use Rattle.tree.specs.Tree.{one, count_in}
use Rattle.tree.specs.State.{key_end}
use Rattle.format.specs.Words.{slot, header_of, slot_at, slots_in, length_good}
use Rattle.format.specs.Audit.{tree_found, chain_found, slots_of}
-- The pool passes the audit; whether a key is in the set, how many keys it has, how many slots are free, and how many of these the next key needs.
pub use Rattle.set.specs.Inside.{Passing, member, held, room, needed}

-- The slot s, from 1 to C, is that of a leaf with the key x. "A leaf has left and right 0"; its weight is from 1 to 255. It is in the
-- tree, as left and right lead there from the root, and not on the free chain.
pub record LeafSlot (x s : ℕ) (p : List ℕ) : Type 0 where
  pub from_one : 1 ≤ s
  pub to_last : s ≤ slots_in p
  pub weight : ℕ
  pub words : slot_at p s ≡ slot x 0 0 weight
  pub not_red : 1 ≤ weight
  pub weight_low : weight ≤ most_level
  pub in_tree_holds : count_in s (slots_of (tree_found (header_of p) p)) ≡ 1
  pub not_free : count_in s (chain_found (header_of p) p) ≡ 0

-- q has the key x and every key that p has, and no other; what p needed for it is taken.
pub record OneMore (x : ℕ) (p q : List ℕ) : Type 0 where
  pub members : (y : ℕ) → member y q ≡ member y p + one (eqb y x)
  pub keys_held : held q ≡ held p + 1
  pub room_left : room q + needed p ≡ room p

-- q has the keys that p has, and as much room.
pub record SameSet (p q : List ℕ) : Type 0 where
  pub members : (y : ℕ) → member y q ≡ member y p
  pub keys_held : held q ≡ held p
  pub room_left : room q ≡ room p

-- What the operations answer, and the words q that they leave.
-- The audit: 1 for a wrong length; 2 where a rule is broken; or the pool passes.
pub data Audits (p : List ℕ) : Answer → Type 0 where
  wrong_length : length_good p ≡ false → Audits p (Refused PoolLength)
  rules_broken : length_good p ≡ true → (Passing p → ⊥) → Audits p (Refused RulesBroken)
  audit_passed : length_good p ≡ true → Passing p → Audits p (Done 0)

-- Prepare, as every empty pool: no key, and all C slots are free.
pub record Prepared (p : List ℕ) (slots : ℕ) : Type 0 where
  pub no_member : (x : ℕ) → member x p ≡ 0
  pub none_held : held p ≡ 0
  pub all_free : room p ≡ slots

-- Search: done, or "key absent".
pub data Searched (x : ℕ) (p : List ℕ) : Answer → Type 0 where
  here : {s : ℕ} → member x p ≡ 1 → Searched x p (Done s)
  nowhere : member x p ≡ 0 → Searched x p (Refused KeyAbsent)

-- 02 (vii), "the smallest key at or above a given one": a key of the set, and none of the set between; or none is at or above it.
pub data NextSays (x : ℕ) (p : List ℕ) : Answer → Type 0 where
  next_is : {k : ℕ} → x ≤ k → k < key_end → member k p ≡ 1 → ((y : ℕ) → x ≤ y → y < k → member y p ≡ 0) → NextSays x p (Done k)
  none_left : ((y : ℕ) → x ≤ y → member y p ≡ 0) → NextSays x p (Refused KeyAbsent)

-- 02 (vii) (RULES 18.3): how many of the n numbers from x on are in the set; and how many of those from a to b, none where a is above b.
unfoldable pub members_from : (n x : ℕ) → List ℕ → ℕ
members_from zero x p = 0
members_from (suc n) x p = member x p + members_from n (suc x) p

abbrev pub members_in : (a b : ℕ) → List ℕ → ℕ
members_in a b p = members_from (suc b - a) a p

-- A span deleted (RULES 18.5): q has the keys that p has but for those from a to b, and none of these; as many went.
pub record SpanGone (a b : ℕ) (p q : List ℕ) : Type 0 where
  pub members_inside : (y : ℕ) → a ≤ y → y ≤ b → member y q ≡ 0
  pub members_outside : (y : ℕ) → (a ≤ y → y ≤ b → ⊥) → member y q ≡ member y p
  pub keys_held : held p ≡ members_in a b p + held q

-- Insert: "key present"; "fewer free slots than needed"; or done, and then the set has that key more. A refusal leaves the words.
pub data Inserted (x : ℕ) (p : List ℕ) : Answer → List ℕ → Type 0 where
  key_present : member x p ≡ 1 → Inserted x p (Refused KeyPresent) p
  room_lacking : member x p ≡ 0 → room p < needed p → Inserted x p (Refused NoRoom) p
  inserted : {s : ℕ} {q : List ℕ} → member x p ≡ 0 → needed p ≤ room p → OneMore x p q → Inserted x p (Done s) q

-- Delete: "key absent"; or done, with the "keys left", and the set had that key more.
pub data Deleted (x : ℕ) (p : List ℕ) : Answer → List ℕ → Type 0 where
  key_absent : member x p ≡ 0 → Deleted x p (Refused KeyAbsent) p
  gone : {q : List ℕ} → member x p ≡ 1 → OneMore x q p → Deleted x p (Done (held q)) q

-- Settle: done, with at most so many steps and within its budget; or spent, with all of a budget that is less than so many.
pub data Settles (budget most : ℕ) : Answer → Type 0 where
  done : {n : ℕ} → n ≤ budget → n ≤ most → Settles budget most (Done n)
  spent : budget < most → Settles budget most (Spent budget)

-- The codes, "given exactly when": of search and delete, and of insert.
pub record KeyCodes (x : ℕ) (p : List ℕ) (given : ℕ) : Type 0 where
  pub done_when : (given ≡ 0) ↔ (member x p ≡ 1)
  pub absent_when : (given ≡ code KeyAbsent) ↔ (member x p ≡ 0)

pub record InsertCodes (x : ℕ) (p : List ℕ) (given : ℕ) : Type 0 where
  pub done_when : (given ≡ 0) ↔ ((member x p ≡ 0) × (needed p ≤ room p))
  pub present_when : (given ≡ code KeyPresent) ↔ (member x p ≡ 1)
  pub lacking_when : (given ≡ code NoRoom) ↔ ((member x p ≡ 0) × (room p < needed p))
