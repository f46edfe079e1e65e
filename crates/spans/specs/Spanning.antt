-- Document 02 (vii) on words (RULES 18; the smallest key at or above a given one serves RULES 17 too): what the code of this crate answers and
-- leaves on any words, the root or the header given by value. That this is `next_from`, `count_span` and `delete_span` where the words show a sound
-- State is proved in proofs/.
use Rattle.std.specs.Prelude.{ℕ, zero, suc, pred, Bool, true, false, List, [], ◌∷◌, ◌==◌, nat_le, nat_lt}
use Rattle.spans.specs.declared.Turned.{Turned}
use Rattle.spans.specs.declared.Tally.{Tally}
use Rattle.format.specs.declared.Header.{Header}
use Rattle.format.specs.declared.Slot.{Slot}
use Rattle.format.specs.Words.{header_of, slot_at, slots_in, last_slot}
use Rattle.format.specs.Performing.{Written, written, words_after}
use Rattle.tree.specs.declared.Answer.{Answer}
use Rattle.tree.specs.declared.Answer.TheVariants.{Done, Refused, Spent}
use Rattle.tree.specs.declared.Refusal.TheVariants.{KeyAbsent}
use Rattle.tree.specs.Tree.{one}
use Rattle.tree.specs.Spans.{within}
use Rattle.updates.specs.Updating.{sum, toward, way_to, delete_under, delete_words}

abbrev pub turned : ℕ → ℕ → Turned
turned slot beside = record { slot = slot; beside = beside }

-- A search's turn at the inner node c: the child where it goes on, and the right child if that is the left one, else what was
-- remembered.
unfoldable pub beside_at : ℕ → Slot → ℕ → ℕ
beside_at x c beside = elim (nat_le x c.key) [ true ↦ c.right | false ↦ beside ]

unfoldable pub turn : ℕ → Slot → ℕ → Turned
turn x c beside = turned (toward x c) (beside_at x c beside)

-- From slot s on, at most n slots down. "A leaf has left and right 0."
unfoldable pub turns : ℕ → List ℕ → ℕ → ℕ → ℕ → Turned
turns zero p x s beside = turned s beside
turns (suc n) p x s beside = elim ((slot_at p s).left == 0) [
  | true ↦ turned s beside
  | false ↦ turns n p x (toward x (slot_at p s)) (beside_at x (slot_at p s) beside)
]

-- from the root on, with nothing remembered
unfoldable pub turns_to : List ℕ → ℕ → ℕ → Turned
turns_to p root x = turns (slots_in p) p x root 0

-- The key where the search for x ends from the slot remembered on; 6 "key absent" if none is.
unfoldable pub next_beside : List ℕ → ℕ → ℕ → Answer
next_beside p x s = elim (s == 0) [ true ↦ Refused KeyAbsent | false ↦ Done (slot_at p (way_to p s x).leaf).key ]

-- RULES 18.2: "the smallest key at or above a given one". The key where the search for x ends, if it is at or above x, else that one.
unfoldable pub next_at : List ℕ → ℕ → Turned → Answer
next_at p x t = elim (nat_le x (slot_at p t.slot).key) [ true ↦ Done (slot_at p t.slot).key | false ↦ next_beside p x t.beside ]

unfoldable pub at_or_above : List ℕ → ℕ → ℕ → Answer
at_or_above p root x = elim (root == 0) [ true ↦ Refused KeyAbsent | false ↦ next_at p x (turns_to p root x) ]

-- The entry of a pool: the header is read.
unfoldable pub next_answer : List ℕ → ℕ → Answer
next_answer p x = at_or_above p (header_of p).root x

-- RULES 18.4: "the number of keys from a to b", both ends among them (RULES 18.3). What a walk finds: so many keys, and how many slots it may still
-- visit.
abbrev pub tally : ℕ → ℕ → Tally
tally keys left = record { keys = keys; left = left }

-- A slot was visited: so many keys more, and one slot fewer to go.
unfoldable pub visited : Tally → ℕ → Tally
visited t keys = tally (sum t.keys keys) (pred t.left)

-- an inner node: a router is no key
unfoldable pub at_router : Tally → Tally
at_router t = visited t 0

-- A side that is entered, or not.
unfoldable pub entering : Bool → (Tally → Tally) → Tally → Tally
entering goes side t = elim goes [ true ↦ side t | false ↦ t ]

-- Under slot s, at most n slots down, with what was found before: no key on the left of a router below a is counted, and none on the right of one
-- that is b or above, so no walk goes there.
unfoldable pub tally_from : ℕ → List ℕ → (a b s : ℕ) → Tally → Tally
tally_from zero p a b s t = t
tally_from (suc n) p a b s t = elim (t.left == 0) [
  | true ↦ t
  | false ↦ let c = slot_at p s in elim (c.left == 0) [
    | true ↦ visited t (one (within a b c.key))
    | false ↦ entering (nat_lt c.key b) (tally_from n p a b c.right) (entering (nat_le a c.key) (tally_from n p a b c.left) (at_router t))
  ]
]

-- the whole tree, none where the root is 0
unfoldable pub count_under : List ℕ → (root a b : ℕ) → Answer
count_under p root a b = elim (root == 0) [ true ↦ Done 0 | false ↦ Done (tally_from (last_slot p) p a b root (tally 0 (last_slot p))).keys ]

-- RULES 18.5: "delete all keys from a to b, smallest first". The next to go: the smallest at or above x, where that is not above b.
unfoldable pub up_to : (b k : ℕ) → Bool
up_to b k = nat_le k b

unfoldable pub not_above : ℕ → Answer → Answer
not_above b (Done k) = elim (up_to b k) [ true ↦ Done k | false ↦ Refused KeyAbsent ]
not_above b (Refused f) = Refused KeyAbsent
not_above b (Spent n) = Refused KeyAbsent

unfoldable pub next_to : List ℕ → (root x b : ℕ) → Answer
next_to p root x b = elim (nat_le x b) [ true ↦ not_above b (at_or_above p root x) | false ↦ Refused KeyAbsent ]

-- From x on, at most n keys; so many are gone.
unfoldable pub delete_from : ℕ → (x b gone : ℕ) → List ℕ → Header → Written
delete_from zero x b gone p h = written p (Done gone) h
delete_from (suc n) x b gone p h = elim (next_to p h.root x b) [
  | Done k ↦ let w = delete_under p h k in delete_from n (suc k) b (suc gone) w.words w.result.header
  | Refused f ↦ written p (Done gone) h
  | Spent m ↦ written p (Done gone) h
]

-- no span has more keys than the pool has slots
unfoldable pub delete_span_under : List ℕ → Header → (a b : ℕ) → Written
delete_span_under p h a b = delete_from (last_slot p) a b 0 p h

-- The entries of a pool.
unfoldable pub count_answer : List ℕ → (a b : ℕ) → Answer
count_answer p a b = count_under p (header_of p).root a b

unfoldable pub delete_span_answer : List ℕ → (a b : ℕ) → Answer
delete_span_answer p a b = (delete_span_under p (header_of p) a b).result.answer

unfoldable pub delete_span_words : List ℕ → (a b : ℕ) → List ℕ
delete_span_words p a b = words_after (delete_span_under p (header_of p) a b)

-- What single deletes leave, each the entry of a pool, in the list's order.
unfoldable pub deleted_each : List ℕ → List ℕ → List ℕ
deleted_each [] p = p
deleted_each (k ∷ ks) p = deleted_each ks (delete_words p k)
