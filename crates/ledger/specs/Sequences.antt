-- Sequences of the send limit's calls (RULES 17.6), as a host sees them: arguments, codes and numbers. That they send no more than the
-- allowed number of texts is proved in proofs/.
use Rattle.std.specs.Prelude.{◌≡◌, Bool, true, false, ◌&&◌, ◌||◌, List, [], ◌∷◌, ◌++◌, eqb, ℕ, suc, ◌≤◌}
use Rattle.set.specs.Operations.{code_of, number_of}
use Rattle.set.specs.Set.{Passing, member}
use Rattle.ledger.specs.Ledger.{most_attempts, mark_key, may_send, clear_notice}

-- a call, with the code and number that it answered
pub data LedgerCall : Type 0 where
  send_call_case : (notice resident limit code number : ℕ) → LedgerCall
  clear_call_case : (notice code number : ℕ) → LedgerCall

abbrev pub send_call : List ℕ → (n r l : ℕ) → LedgerCall
send_call p n r l = send_call_case n r l (code_of (may_send p n r l).answer) (number_of (may_send p n r l).answer)

abbrev pub clear_call : List ℕ → (n : ℕ) → LedgerCall
clear_call p n = clear_call_case n (code_of (clear_notice p n).answer) (number_of (clear_notice p n).answer)

-- it clears notice n, with code 0
unfoldable pub clears : (n : ℕ) → LedgerCall → Bool
clears n (send_call_case m s l code a) = false
clears n (clear_call_case m code a) = eqb m n && eqb code 0

-- it is a yes to notice n and resident r
unfoldable pub is_yes : (n r : ℕ) → LedgerCall → Bool
is_yes n r (send_call_case m s l code a) = eqb m n && eqb s r && eqb code 0
is_yes n r (clear_call_case m code a) = false

-- How many yes answers notice n and resident r got since the notice was last cleared. "Clearing a notice [..] starts that notice's count
-- afresh."
unfoldable pub texts_after : (n r before : ℕ) → LedgerCall → ℕ
texts_after n r k c = elim (clears n c) [ true ↦ 0 | false ↦ elim (is_yes n r c) [ true ↦ suc k | false ↦ k ] ]

unfoldable pub texts_from : (n r before : ℕ) → List LedgerCall → ℕ
texts_from n r k [] = k
texts_from n r k (c ∷ cs) = texts_from n r (texts_after n r k c) cs

abbrev pub texts : (n r : ℕ) → List LedgerCall → ℕ
texts n r calls = texts_from n r 0 calls

-- Each yes of theirs since then was given under a limit of at most m.
unfoldable pub Within : (n r m : ℕ) → LedgerCall → Type 0
Within n r m (send_call_case o s l code a) = o ≡ n → s ≡ r → code ≡ 0 → l ≤ m
Within n r m (clear_call_case o code a) = Unit {0}

unfoldable pub cleared_in : (n : ℕ) → List LedgerCall → Bool
cleared_in n [] = false
cleared_in n (c ∷ cs) = clears n c || cleared_in n cs

unfoldable pub AllWithin : (n r m : ℕ) → List LedgerCall → Type 0
AllWithin n r m [] = Unit {0}
AllWithin n r m (c ∷ cs) = (cleared_in n cs ≡ false → Within n r m c) × AllWithin n r m cs

-- no mark of theirs is taken away
abbrev pub KeepsMarks : (n r : ℕ) → List ℕ → List ℕ → Type 0
KeepsMarks n r p q = (a : ℕ) → 1 ≤ a → a ≤ most_attempts → member (mark_key n r a) p ≤ member (mark_key n r a) q

-- Calls one after the other, from the words p to the words q: of any notices, residents and limits, refused ones among them; and between
-- them whatever leaves a pool that passes the audit and takes none of the marks of n and r away.
pub data Sending (n r : ℕ) (p : List ℕ) : List LedgerCall → List ℕ → Type 0 where
  no_send : Sending n r p [] p
  then_send : {calls : List LedgerCall} {q : List ℕ} → Sending n r p calls q → (m s l : ℕ) → Sending n r p (calls ++ (send_call q m s l ∷ [])) (may_send q m s l).left
  then_clear : {calls : List LedgerCall} {q : List ℕ} → Sending n r p calls q → (m : ℕ) → Sending n r p (calls ++ (clear_call q m ∷ [])) (clear_notice q m).left
  then_other : {calls : List LedgerCall} {q s : List ℕ} → Sending n r p calls q → Passing s → KeepsMarks n r q s → Sending n r p calls s
