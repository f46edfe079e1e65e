-- 02 (iv) as sentences (RULES 17): when a text may go, what clearing leaves, and every code with its cause. That the calls of Ledger.antt are these
-- is proved in proofs/.
use Rattle.std.specs.Prelude.{◌≡◌, ◌↔◌, true, false, List, ℕ, zero, suc, pred, ◌+◌, ◌≤◌, ◌<◌}
use Rattle.tree.specs.declared.Answer.TheVariants.{Done}
use Rattle.tree.specs.declared.Refusal.TheVariants.{PoolLength, RulesBroken, NoRoom, OutOfRange, AllUsed}
use Rattle.set.specs.Operations.{Call, gives, refuses, length_good}
use Rattle.set.specs.Set.{Passing, member, held, room, needed, OneMore}
use Rattle.ledger.specs.Ledger.{most_notice, most_resident, most_attempts, mark_key}

-- RULES 17.1, "an argument outside its range": none is
pub record NoticeIn (n : ℕ) : Type 0 where
  pub from_one : 1 ≤ n
  pub to_last : n ≤ most_notice

pub record ArgumentsIn (n r l : ℕ) : Type 0 where
  pub notice_in : NoticeIn n
  pub resident_in : r ≤ most_resident
  pub some : 1 ≤ l
  pub few : l ≤ most_attempts

-- RULES 17.2: x is the key of a mark of notice n.
pub record IsMark (n x : ℕ) : Type 0 where
  pub resident : ℕ
  pub attempt : ℕ
  pub resident_in : resident ≤ most_resident
  pub from_one : 1 ≤ attempt
  pub to_last : attempt ≤ most_attempts
  pub key_is : x ≡ mark_key n resident attempt

-- how many of attempts 1 to m are marked
unfoldable pub marks_to : (m n r : ℕ) → List ℕ → ℕ
marks_to zero n r p = 0
marks_to (suc m) n r p = marks_to m n r p + member (mark_key n r (suc m)) p

module _ (p : List ℕ) (n r : ℕ) where
  -- RULES 17.3: "all attempts are marked", from 1 to the limit
  abbrev pub AllMarked : ℕ → Type 0
  AllMarked l = (b : ℕ) → 1 ≤ b → b ≤ l → member (mark_key n r b) p ≡ 1

  -- "the lowest unmarked attempt": all that are lower are marked, and so there are a - 1 of these. (Marks above it do not count.)
  pub record Lowest (l a : ℕ) : Type 0 where
    pub from_one : 1 ≤ a
    pub to_limit : a ≤ l
    pub unmarked : member (mark_key n r a) p ≡ 0
    pub lower_marked : (b : ℕ) → 1 ≤ b → b < a → member (mark_key n r b) p ≡ 1
    pub lower_count : marks_to (pred a) n r p ≡ pred a

-- RULES 17.4: how may send ends, by its code: the cause, and what is left. q are the words after a yes.
pub data SendEnds (p : List ℕ) (n r l : ℕ) : Call → Type 0 where
  -- "15 for an argument outside its range, before 1 and 2"
  sends_15 : (ArgumentsIn n r l → ⊥) → SendEnds p n r l (refuses OutOfRange p)
  sends_1 : ArgumentsIn n r l → length_good p ≡ false → SendEnds p n r l (refuses PoolLength p)
  sends_2 : ArgumentsIn n r l → length_good p ≡ true → (Passing p → ⊥) → SendEnds p n r l (refuses RulesBroken p)
  -- "16 when all attempts are marked, then 7 for no room"
  sends_16 : ArgumentsIn n r l → Passing p → AllMarked p n r l → SendEnds p n r l (refuses AllUsed p)
  sends_7 : ArgumentsIn n r l → Passing p → {a : ℕ} → Lowest p n r l a → room p < needed p → SendEnds p n r l (refuses NoRoom p)
  -- "Yes is code 0 and the attempt", which "is marked in the same call": the set has that key more, and no other
  sends_0 : ArgumentsIn n r l → Passing p → {a : ℕ} → Lowest p n r l a → needed p ≤ room p → {q : List ℕ} → Passing q
      → OneMore (mark_key n r a) p q → SendEnds p n r l (gives (Done a) q)

-- RULES 17.4 and 17.5, each code exactly when its cause is there; and no code but these. Those that both calls share:
pub record EarlyCodes (InRange : Type 0) (p : List ℕ) (code : ℕ) : Type 0 where
  pub outside_when : (code ≡ 15) ↔ (InRange → ⊥)
  pub length_when : (code ≡ 1) ↔ (InRange × (length_good p ≡ false))
  pub broken_when : (code ≡ 2) ↔ (InRange × (length_good p ≡ true) × (Passing p → ⊥))

pub record SendCodes (p : List ℕ) (n r l code : ℕ) : Type 0 where
  pub early : EarlyCodes (ArgumentsIn n r l) p code
  -- ""May send" is yes exactly when attempts 1 to limit are not all marked and the set has room for one more mark."
  pub yes_when : (code ≡ 0) ↔ (ArgumentsIn n r l × Passing p × (AllMarked p n r l → ⊥) × (needed p ≤ room p))
  pub used_when : (code ≡ 16) ↔ (ArgumentsIn n r l × Passing p × AllMarked p n r l)
  pub lacking_when : (code ≡ 7) ↔ (ArgumentsIn n r l × Passing p × (AllMarked p n r l → ⊥) × (room p < needed p))

-- A yes with attempt a, and the words q that it leaves.
pub record Sent (p : List ℕ) (n r l a : ℕ) (q : List ℕ) : Type 0 where
  pub arguments_in : ArgumentsIn n r l
  pub passed : Passing p
  pub attempt_is : Lowest p n r l a
  pub had_room : needed p ≤ room p
  pub passes : Passing q
  pub one_more : OneMore (mark_key n r a) p q

-- RULES 17.5: what clearing notice n leaves, and how many marks went.
pub record Cleaned (p : List ℕ) (n count : ℕ) (q : List ℕ) : Type 0 where
  pub notice_in : NoticeIn n
  pub passed : Passing p
  pub passes : Passing q
  pub none_left : (x : ℕ) → IsMark n x → member x q ≡ 0
  pub others_stay : (x : ℕ) → (IsMark n x → ⊥) → member x q ≡ member x p
  pub keys_gone : held q + count ≡ held p

-- how clearing ends, by its code
pub data ClearEnds (p : List ℕ) (n : ℕ) : Call → Type 0 where
  clears_15 : (NoticeIn n → ⊥) → ClearEnds p n (refuses OutOfRange p)
  clears_1 : NoticeIn n → length_good p ≡ false → ClearEnds p n (refuses PoolLength p)
  clears_2 : NoticeIn n → length_good p ≡ true → (Passing p → ⊥) → ClearEnds p n (refuses RulesBroken p)
  clears_0 : {count : ℕ} {q : List ℕ} → Cleaned p n count q → ClearEnds p n (gives (Done count) q)

pub record ClearCodes (p : List ℕ) (n code : ℕ) : Type 0 where
  pub early : EarlyCodes (NoticeIn n) p code
  pub done_when : (code ≡ 0) ↔ (NoticeIn n × Passing p)
