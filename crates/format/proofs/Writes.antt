-- What a few writes leave: the length stays, a slot that is written once holds what was written (`got`), any other slot what it held; so
-- a tree and a chain none of whose slots is written stand as before (`kept`, `chain_kept`), and so does a tree whose root gets another
-- weight (`rehung`).
-- Why: `Wrote` lists the writes, and how often a slot stands in the list is all that each law asks. Assumes nothing.
use mathlib.Core.Path.{◌≡◌, refl, sym, ◌∙◌}
use mathlib.Core.List.{List, [], ◌∷◌}
use native.Mathlib.Omega.{arith}
use lib.Dec.{eqb}
use lib.ListN.{length}
use Prim.Native.Nat.{ℕ, ◌+◌, ◌≤◌}
use Rattle.tree.specs.Tree.{Tree, slot_of, one, count, count_in}
use Rattle.tree.proofs.Counts.{one_same, not_same}
use Rattle.format.specs.declared.Slot.{Slot}
use Rattle.format.specs.Words.{slot_at, put_slot, weighing}
use Rattle.format.specs.Shows.{At, Holds, holds_leaf, holds_node, Chain}
use Rattle.format.proofs.Slots.{slot_length, slot_other}
use Rattle.format.proofs.Frame.{root_slot, frame, chain_frame, at_written, at_other}

-- slots and the words that they get, the last write first
abbrev pub Puts : Type 0
Puts = List (ℕ × Slot)

abbrev pub slots_put : Puts → List ℕ
slots_put [] = []
slots_put (x ∷ xs) = x.0 ∷ slots_put xs

-- p became q by these writes
pub data Wrote (p : List ℕ) : Puts → List ℕ → Type 0 where
  nothing_yet : Wrote p [] p
  and_at : {xs : Puts} {q : List ℕ} {s : ℕ} {c : Slot} → Wrote p xs q → Wrote p ((s, c) ∷ xs) (put_slot q s c)

-- one of them puts c at slot s
pub data Gets : Puts → ℕ → Slot → Type 0 where
  last : {s : ℕ} {c : Slot} {xs : Puts} → Gets ((s, c) ∷ xs) s c
  before : {s : ℕ} {c : Slot} {x : ℕ × Slot} {xs : Puts} → Gets xs s c → Gets (x ∷ xs) s c

gets_count : {xs : Puts} {s : ℕ} {c : Slot} → Gets xs s c → 1 ≤ count_in s (slots_put xs)
unfolding count_in
gets_count {s} last = omega (arith, one_same s s refl)
gets_count (before g) = omega (arith, gets_count g)

module _ {p : List ℕ} where
  pub wrote_length : {xs : Puts} {q : List ℕ} → Wrote p xs q → length q ≡ length p
  wrote_length nothing_yet = refl
  wrote_length (and_at {q = q} {s = s} {c = c} w) = slot_length q s c ∙ wrote_length w

  pub wrote_other : {xs : Puts} {q : List ℕ} → Wrote p xs q → (x : ℕ) → count_in x (slots_put xs) ≡ 0 → slot_at q x ≡ slot_at p x
  unfolding count_in
  wrote_other nothing_yet x n = refl
  wrote_other (and_at {q = q} {s = s} {c = c} w) x n = slot_other q s c x (λ e. not_same x s (omega arith) (sym e)) ∙ wrote_other w x (omega arith)

  pub got : {xs : Puts} {q : List ℕ} {s : ℕ} {b c : Slot} → Wrote p xs q → At p s b → Gets xs s c → count_in s (slots_put xs) ≤ 1 → At q s c
  unfolding count_in
  got nothing_yet h x n = elim x [ ]
  got (and_at {c = c} w) h last n = at_written (record { from_one = h.from_one; inside = rw (wrote_length w) h.inside; content = refl }) c
  got {s = x} (and_at {s = s} {c = c} w) h (before g) n = at_other (got w h g (omega arith)) s c (λ e. not_same x s (omega (arith, gets_count g)) (sym e))

  pub kept : {xs : Puts} {q : List ℕ} {w : ℕ} {t : Tree} → Wrote p xs q → Holds p w t → ((s : ℕ) → count_in s (slots_put xs) + count s t ≤ 1) → Holds q w t
  kept w h n = frame h (wrote_length w) (λ s i. wrote_other w s (omega (arith, n s)))

  pub chain_kept : {xs : Puts} {q : List ℕ} {a : ℕ} {fs : List ℕ} → Wrote p xs q → Chain p a fs → ((s : ℕ) → count_in s (slots_put xs) + count_in s fs ≤ 1) → Chain q a fs
  chain_kept w c n = chain_frame c (wrote_length w) (λ s i. wrote_other w s (omega (arith, n s)))

  pub rehung : {xs : Puts} {q : List ℕ} {w x : ℕ} {t : Tree} → Wrote p xs q → Holds p w t → Gets xs (slot_of t) (weighing (root_slot w t) x)
      → ((s : ℕ) → count_in s (slots_put xs) + count s t ≤ 1 + one (eqb s (slot_of t))) → Holds q x t
  unfolding count slot_of
  rehung w (holds_leaf {s = v} h) g n = holds_leaf (got w h g (omega (arith, n v)))
  rehung w (holds_node {s = v} h hl hr) g n =
      holds_node (got w h g (omega (arith, n v))) (kept w hl (λ s. omega (arith, n s))) (kept w hr (λ s. omega (arith, n s)))
