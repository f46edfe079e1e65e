-- The lowest unmarked attempt: what the search for it looks at, attempt by attempt (`lowest_here`, `lowest_on`, `lowest_none`), and what it
-- finds (`lowest_found`): the lowest one that is not marked, or 0 where all are. And what is then answered, by what the insert of its key
-- answers (`asked_used`, `asked_lacking`, `asked_yes`).
-- Why: a key that is not in the set is inserted or has no room, and nothing else (`insert_says`). Assumes nothing.
use mathlib.Core.Path.{◌≡◌, refl, ◌∙◌}
use mathlib.Core.Logic.{◌≢◌}
use mathlib.Core.List.{List}
use borrow.Author.Tests.{eq-eqb, ne_eqb, le-leb, lt-leb}
use native.Mathlib.Omega.{arith}
use native.Mathlib.Decide.{ℕ_discrete}
use native.Mathlib.Numerals.{sub-one, add-one}
use Prim.Native.Nat.{ℕ, zero, suc, ◌+◌, ◌-◌, ◌≤◌, ◌<◌}
use Rattle.tree.specs.declared.Answer.{Answer}
use Rattle.tree.specs.declared.Answer.TheVariants.{Done, Refused}
use Rattle.tree.specs.declared.Refusal.TheVariants.{NoRoom, AllUsed}
use Rattle.set.specs.Operations.{key_end, code_of, gives, refuses, search_answer, insert_answer, insert_words}
use Rattle.set.specs.Set.{Passing, member, room, needed, Searched, here, nowhere, Inserted, key_present, room_lacking, inserted}
use Rattle.set.proofs.Promises.{search_says, search_codes, insert_says}
use Rattle.ledger.specs.Ledger.{lowest_from, unless, used_answer, room_answer, marked, asked}
use Rattle.ledger.proofs.Judging.{unless_refused, unless_done}

module _ (first : ℕ) (p : List ℕ) where
  pub lowest_here : (n a : ℕ) → 0 < n → member (first + a) p ≡ 0 → lowest_from n a first p ≡ a
  unfolding lowest_from
  lowest_here zero a h e = absurd (omega arith)
  lowest_here (suc n) a h e = rw (eq-eqb _ _ e, lowest_from)

  pub lowest_on : (n a : ℕ) → 0 < n → member (first + a) p ≢ 0 → lowest_from n a first p ≡ lowest_from (n - 1) (a + 1) first p
  unfolding lowest_from
  lowest_on zero a h e = absurd (omega arith)
  lowest_on (suc n) a h e = rw (ne_eqb _ _ e, lowest_from, sub-one, add-one)

  pub lowest_none : (n a : ℕ) → n ≡ 0 → lowest_from n a first p ≡ 0
  unfolding lowest_from
  lowest_none n a e = rw e

-- What is found, from attempt a on, of n attempts.
pub data Found (first : ℕ) (p : List ℕ) (n a : ℕ) : ℕ → Type 0 where
  all_marked : ((b : ℕ) → a ≤ b → b < a + n → member (first + b) p ≢ 0) → Found first p n a 0
  lowest : {r : ℕ} → a ≤ r → r < a + n → member (first + r) p ≡ 0 → ((b : ℕ) → a ≤ b → b < r → member (first + b) p ≢ 0) → Found first p n a r

pub lowest_found : (first : ℕ) (p : List ℕ) (n a : ℕ) → Found first p n a (lowest_from n a first p)
unfolding lowest_from
lowest_found first p zero a = all_marked (λ b h i. absurd (omega arith))
lowest_found first p (suc n) a = at (ℕ_discrete (member (first + a) p) 0) (lowest_found first p n (suc a))
  where
    -- attempt a is marked, and so are those that are passed after it
    also : {k : ℕ} → member (first + a) p ≢ 0 → ((b : ℕ) → suc a ≤ b → b < k → member (first + b) p ≢ 0) → (b : ℕ) → a ≤ b → b < k → member (first + b) p ≢ 0
    also m h b i j = either (ℕ_discrete b a)
      where
        either : Dec (b ≡ a) → member (first + b) p ≢ 0
        either (yes e) = rw e m
        either (no d) = h b (omega arith) j

    go : {r : ℕ} → member (first + a) p ≢ 0 → Found first p n (suc a) r → Found first p (suc n) a r
    go m (all_marked h) = all_marked (λ b i j. also m h b i (omega arith))
    go {r} m (lowest i j u h) = lowest {r = r} (omega arith) (omega arith) u (also m h)

    at : Dec (member (first + a) p ≡ 0) → Found first p n (suc a) (lowest_from n (suc a) first p) → Found first p (suc n) a (lowest_from (suc n) a first p)
    at (yes e) f = rw (eq-eqb _ _ e, lowest_from) (lowest {r = a} (omega arith) (omega arith) e (λ b h i. absurd (omega arith)))
    at (no m) f = rw (ne_eqb _ _ m, lowest_from) (go m f)

-- 16 and 7, by their causes
used_all : (a : ℕ) → a ≡ 0 → used_answer a ≡ Refused AllUsed
unfolding used_answer
used_all a e = rw (eq-eqb _ _ e, used_answer)

used_not : (a : ℕ) → a ≢ 0 → used_answer a ≡ Done 0
unfolding used_answer
used_not a n = rw (ne_eqb _ _ n, used_answer)

room_lacks : (p : List ℕ) → room p < needed p → room_answer p ≡ Refused NoRoom
unfolding room_answer
room_lacks p h = rw (lt-leb _ _ h, room_answer)

room_there : (p : List ℕ) → needed p ≤ room p → room_answer p ≡ Done 0
unfolding room_answer
room_there p h = rw (le-leb _ _ h, room_answer)

-- What is answered, where the attempt a was found.
module _ (p : List ℕ) (first l a : ℕ) (is : a ≡ lowest_from l 1 first p) where
  asked_at : asked p first l ≡ marked p first a
  unfolding asked
  asked_at = rw (← is)

  found : Found first p l 1 a
  found = rw is (lowest_found first p l 1)

  pub asked_used : a ≡ 0 → asked p first l ≡ refuses AllUsed p
  unfolding marked
  asked_used e = asked_at ∙ rw (used_all a e) (unless_refused (Refused AllUsed) p _ (λ z. omega arith))

  -- an attempt was found: it is marked if there is room
  asked_on : a ≢ 0 → asked p first l ≡ unless (room_answer p) p (gives (Done a) (insert_words p (first + a)))
  unfolding marked
  asked_on n = asked_at ∙ rw (used_not a n) (unless_done (Done 0) p _ refl)

  pub found_within : a ≤ l
  found_within = go found
    where
      go : {r : ℕ} → Found first p l 1 r → r ≤ l
      go (all_marked h) = omega arith
      go (lowest i j u h) = omega arith

  module _ (g : Passing p) (n : a ≢ 0) (fits : first + l < key_end) where
    unmarked : member (first + a) p ≡ 0
    unmarked = go found n
      where
        go : {r : ℕ} → Found first p l 1 r → r ≢ 0 → member (first + r) p ≡ 0
        go (all_marked h) d = absurd (d refl)
        go (lowest i j u h) d = u

    says : Inserted (first + a) p (insert_answer p (first + a)) (insert_words p (first + a))
    says = insert_says g (first + a) (omega (arith, found_within))

    pub asked_lacking : code_of (insert_answer p (first + a)) ≢ 0 → (asked p first l ≡ refuses NoRoom p) × (insert_words p (first + a) ≡ p)
    asked_lacking = go says
      where
        go : {b : Answer} {q : List ℕ} → Inserted (first + a) p b q → code_of b ≢ 0 → (asked p first l ≡ refuses NoRoom p) × (q ≡ p)
        go (key_present i) c = absurd (omega (arith, unmarked))
        go (room_lacking i h) c = (asked_on n ∙ rw (room_lacks p h) (unless_refused (Refused NoRoom) p _ (λ z. omega arith)), refl)
        go (inserted i h m) c = absurd (c refl)

    pub asked_yes : code_of (insert_answer p (first + a)) ≡ 0 → asked p first l ≡ gives (Done a) (insert_words p (first + a))
    asked_yes = go says
      where
        go : {b : Answer} {q : List ℕ} → Inserted (first + a) p b q → code_of b ≡ 0 → asked p first l ≡ gives (Done a) (insert_words p (first + a))
        go (key_present i) c = absurd (omega arith)
        go (room_lacking i h) c = absurd (omega arith)
        go (inserted i h m) c = asked_on n ∙ rw (room_there p h) (unless_done (Done 0) p _ refl)

-- What the search says of a key, by its code.
module _ {p : List ℕ} (g : Passing p) (x : ℕ) where
  pub search_misses : code_of (search_answer p x) ≢ 0 → member x p ≡ 0
  search_misses = go (search_says g x)
    where
      go : {a : Answer} → Searched x p a → code_of a ≢ 0 → member x p ≡ 0
      go (here i) n = absurd (n refl)
      go (nowhere i) n = i

  pub search_finds : code_of (search_answer p x) ≡ 0 → member x p ≢ 0
  search_finds h z = omega (arith, (search_codes g x).done_when.0 h)
