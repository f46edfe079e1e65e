-- Document 02 (vii) (RULES 18): keys by their order, on a State, over the list of its keys, which rise. (The first of these definitions serves RULES 17
-- too.)
use Rattle.std.specs.Prelude.{Bool, true, false, ◌&&◌, List, [], ◌∷◌, leb, length, ℕ}
use Rattle.std.proofs.Math.Option.{Option, none, some}
use Rattle.tree.specs.declared.Refusal.TheVariants.{KeyAbsent}
use Rattle.tree.specs.declared.Answer.{Answer}
use Rattle.tree.specs.declared.Answer.TheVariants.{Done, Refused}
use Rattle.tree.specs.State.{State, Top, keys_of, Outcome, gives, delete}

-- RULES 18.2: "the smallest key at or above a given one": the first of a list that is at or above x.
unfoldable pub first_from : ℕ → List ℕ → Option ℕ
first_from x [] = none
first_from x (k ∷ ks) = elim (leb x k) [ true ↦ some k | false ↦ first_from x ks ]

-- that key, or "6 when nothing lies at or above"
unfoldable pub key_or_absent : Option ℕ → Answer
key_or_absent none = Refused KeyAbsent
key_or_absent (some k) = Done k

unfoldable pub next_key : ℕ → Top → Answer
next_key x t = key_or_absent (first_from x (keys_of t))

-- Operation 6, "answering the key".
unfoldable pub next_from : ℕ → State → Outcome
next_from x S = gives (next_key x S.top) S

-- RULES 18.3: "from a to b", both among them. "An empty span counts 0, and so does one with a above b": no key is at or above a and at or below b.
abbrev pub within : (a b k : ℕ) → Bool
within a b k = leb a k && leb k b

-- those of a list, in its order
unfoldable pub span_of : (a b : ℕ) → List ℕ → List ℕ
span_of a b [] = []
span_of a b (k ∷ ks) = elim (within a b k) [ true ↦ k ∷ span_of a b ks | false ↦ span_of a b ks ]

-- those of the set, smallest first
abbrev pub keys_from : (a b : ℕ) → State → List ℕ
keys_from a b S = span_of a b (keys_of S.top)

-- Operation 7 (RULES 18.4): "the number of keys from a to b".
unfoldable pub count_span : (a b : ℕ) → State → Outcome
count_span a b S = gives (Done (length (keys_from a b S))) S

-- single deletes, in the list's order
unfoldable pub delete_each : List ℕ → State → State
delete_each [] S = S
delete_each (k ∷ ks) S = delete_each ks (delete k S).after

-- Operation 8 (RULES 18.5): "delete all keys from a to b, smallest first, answering how many went". "The tree after 8 is the one that single deletes
-- in that order leave."
unfoldable pub delete_span : (a b : ℕ) → State → Outcome
delete_span a b S = gives (Done (length (keys_from a b S))) (delete_each (keys_from a b S) S)
