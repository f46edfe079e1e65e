-- Of the header a step and settle move L and no other word, whatever the words: so a pool is left as with the whole header written
-- (`step_words_lem`, `settle_words_lem`).
-- Why: what a step writes is slots (`applied_header` of crate kinds), and the header after it is the one before it with another L; the slots
-- of the scan are numbered from 1. Assumes nothing.
use mathlib.Core.Path.{◌≡◌, refl, sym, ap, ◌∙◌}
use mathlib.Core.Bool.{Bool, true, false, and-eq-true_iff}
use mathlib.Core.List.{List, [], ◌∷◌}
use mathlib.Core.Option.{Option, none, some}
use native.Mathlib.Omega.{arith}
use borrow.Author.Tests.{leb-true}
use Prim.Native.Nat.{ℕ, zero, suc, ◌≤◌}
use Rattle.tree.specs.declared.Kind.{Kind}
use Rattle.tree.specs.declared.Refusal.TheVariants.{NoInnerNode, ConditionFalse, LevelLimit}
use Rattle.tree.specs.declared.Answer.TheVariants.{Done, Refused}
use Rattle.tree.specs.Codes.{kinds, kind_number, named}
use Rattle.tree.specs.Settle.{last_of}
use Rattle.format.specs.declared.Header.{Header}
use Rattle.format.specs.Words.{at_level, header_of, put_header, slot_at, last_slot}
use Rattle.format.specs.Performing.{Written, written, words_after}
use Rattle.format.proofs.Slots.{level_alone}
use Rattle.kinds.specs.declared.Around.{Around}
use Rattle.kinds.specs.Around.{around_at}
use Rattle.kinds.specs.Conditions.{fits}
use Rattle.kinds.specs.Effects.{header_after}
use Rattle.kinds.proofs.HeaderKept.{applied_header}
use Rattle.steps.specs.declared.Lowest.{Lowest}
use Rattle.std.specs.Prelude.{Option as Found, Some, None}
use Rattle.steps.specs.Steps.{lowest, inner_slot, inner_at, limit_at, taken_words, step_kind, step_named, step_under, first_kind, first_from, first_allowed, Pool, pool_of, next_pool, pools_after, settle_under, level_written, step_words, settle_words}

-- from a pool to another one: the first four words stay, and of the header all but L
record Kept (P Q : Pool) : Type 0 where
  words_kept : header_of Q.words ≡ header_of P.words
  header_kept : Q.header ≡ at_level P.header Q.header.level

kept_same : (P : Pool) → Kept P P
kept_same P = record { words_kept = refl; header_kept = refl }

kept_more : {P Q R : Pool} → Kept P Q → Kept Q R → Kept P R
kept_more {P} {Q} {R} a b = record {
  words_kept = b.words_kept ∙ a.words_kept;
  header_kept = b.header_kept ∙ ap (λ (h : Header). at_level h R.header.level) a.header_kept;
}

-- an effect at a slot
kept_step : (P : Pool) (s : ℕ) (k : Kind) (a : Around) → 1 ≤ s → Kept P (pool_of (header_after k s P.header) (taken_words P.header.root P.words s k a))
unfolding header_after
kept_step P s k a h = record { words_kept = applied_header P.words s k _ _ h; header_kept = refl }

left : Written → Pool
left w = pool_of w.result.header w.words

-- then L is all that there is to write
level_written_lem : (p : List ℕ) (w : Written) → Kept (pool_of (header_of p) p) (left w) → level_written w ≡ words_after w
unfolding left
level_written_lem p w k =
    sym (level_alone w.words w.result.header.level)
    ∙ ap (put_header w.words) (ap (λ (h : Header). at_level h w.result.header.level) k.words_kept ∙ sym k.header_kept)

-- Step.
module _ (p : List ℕ) (h : Header) (s : ℕ) where
  kind_kept : 1 ≤ s → (k : Kind) → Kept (pool_of h p) (left (step_kind p h s (slot_at p s) k))
  unfolding step_kind left
  kind_kept i k = go (fits k (around_at p s)) (limit_at k h s)
    where
      go : (a b : Bool) → Kept (pool_of h p) (left (elim a [
        | true ↦ elim b [ true ↦ written p (Refused LevelLimit) h | false ↦ written (taken_words h.root p s k (around_at p s)) (Done (kind_number k)) (header_after k s h) ]
        | false ↦ written p (Refused ConditionFalse) h
      ]))
      go true true = kept_same (pool_of h p)
      go true false = kept_step (pool_of h p) s k (around_at p s) i
      go false b = kept_same (pool_of h p)

  named_kept : 1 ≤ s → (m : Option Kind) → Kept (pool_of h p) (left (step_named p h s m))
  unfolding step_named left
  named_kept i none = kept_same (pool_of h p)
  named_kept i (some k) = kind_kept i k

  inner_from_one : inner_at p s ≡ true → 1 ≤ s
  unfolding inner_slot
  inner_from_one e = let g = simp and-eq-true_iff at e in leb-true 1 s g.0.0

  step_kept : (n : ℕ) → Kept (pool_of h p) (left (step_under p h s n))
  unfolding step_under left
  step_kept n = go (inner_at p s) refl
    where
      go : (b : Bool) → inner_at p s ≡ b → Kept (pool_of h p) (left (elim b [ true ↦ step_named p h s (named n) | false ↦ written p (Refused NoInnerNode) h ]))
      go true e = named_kept (inner_from_one e) (named n)
      go false e = kept_same (pool_of h p)

pub step_words_lem : (p : List ℕ) (s n : ℕ) → step_words p s n ≡ words_after (step_under p (header_of p) s n)
unfolding step_words
step_words_lem p s n = level_written_lem p (step_under p (header_of p) s n) (step_kept p (header_of p) s n)

found_is : {a b : Lowest} → Some a ≡ Some b → a ≡ b
found_is e = cc

some_is : {P Q : Pool} → some P ≡ some Q → P ≡ Q
some_is e = cc

-- Settle. The first slot found is not below the first one looked at.
not_below : (h : Header) (p : List ℕ) (n s : ℕ) {x : Lowest} → first_from n h p s ≡ Some x → s ≤ x.slot
unfolding first_from
not_below h p zero s {x} e = let z : ◌≡◌ {A = ℕ} 0 1 = cc in absurd (omega arith)
not_below h p (suc n) s {x} e = go (first_kind kinds h p s) e (not_below h p n (suc s))
  where
    go : (o : Option Kind) → elim o [ some j ↦ Some (lowest s j (around_at p s)) | none ↦ first_from n h p (suc s) ] ≡ Some x → (first_from n h p (suc s) ≡ Some x → suc s ≤ x.slot) → s ≤ x.slot
    go (some j) f rest = omega (arith, ap (λ (y : Lowest). y.slot) (found_is f))
    go none f rest = omega (arith, rest f)

next_kept : (P Q : Pool) → next_pool P ≡ some Q → Kept P Q
unfolding next_pool first_allowed
next_kept P Q e = go (first_allowed P.header P.words) refl e
  where
    go : (f : Found Lowest) → first_allowed P.header P.words ≡ f
        → elim f [ Some x ↦ some (pool_of (header_after x.kind x.slot P.header) (taken_words P.header.root P.words x.slot x.kind x.around)) | None ↦ none ] ≡ some Q → Kept P Q
    go (Some x) found same = rw (sym (some_is same)) (kept_step P x.slot x.kind x.around (not_below P.header P.words (last_slot P.words) 1 found))
    go None found same = let z : ◌≡◌ {A = ℕ} 0 1 = cc in absurd (omega arith)

pools_kept : (b : ℕ) (P : Pool) → Kept P (last_of P (pools_after b P))
unfolding pools_after last_of
pools_kept zero P = kept_same P
pools_kept (suc b) P = go (next_pool P) refl (pools_kept b)
  where
    go : (o : Option Pool) → next_pool P ≡ o → ((Q : Pool) → Kept Q (last_of Q (pools_after b Q))) → Kept P (last_of P (elim o [ some Q ↦ Q ∷ pools_after b Q | none ↦ [] ]))
    go (some Q) e f = kept_more (next_kept P Q e) (f Q)
    go none e f = kept_same P

pub settle_words_lem : (p : List ℕ) (budget : ℕ) → settle_words p budget ≡ words_after (settle_under p (header_of p) budget)
unfolding settle_words settle_under left
settle_words_lem p b = level_written_lem p (settle_under p (header_of p) b) (pools_kept b (pool_of (header_of p) p))
