-- Deleting a span on any words, key by key: where it ends, and that with a next key it goes on from the one after that, with one key fewer to go.
-- Assumes nothing.
use Rattle.std.proofs.Common.{◌≡◌, ℕ, zero, suc, ◌+◌, ◌<◌, ◌≤◌, true, false, List, refl, sym, add-one, arith, le-leb, eq-eqb, ne_eqb}
use borrow.Author.Tests.{lt-leb}
use Rattle.tree.specs.declared.Answer.{Answer}
use Rattle.tree.specs.declared.Answer.TheVariants.{Done, Refused}
use Rattle.tree.specs.declared.Refusal.{Refusal}
use Rattle.tree.specs.declared.Refusal.TheVariants.{KeyAbsent}
use Rattle.tree.proofs.Tests.{either_way, same_or_not}
use Rattle.format.specs.declared.Header.{Header}
use Rattle.format.specs.Words.{slot_at}
use Rattle.format.specs.Performing.{written}
use Rattle.updates.specs.Updating.{delete_under}
use Rattle.spans.specs.Spanning.{turns_to, next_beside, next_at, at_or_above, up_to, not_above, next_to, delete_from}

-- A next key, whatever its number; or none is, and it is refused for that cause alone.
data Next : Answer → Type 0 where
  key_next : {k : ℕ} → Next (Done k)
  none_next : Next (Refused KeyAbsent)

next_of : (p : List ℕ) (root x : ℕ) → Next (at_or_above p root x)
unfolding at_or_above next_at next_beside
next_of p root x = same_or_not root 0
    (λ e. rw (eq-eqb _ _ e, at_or_above) none_next)
    (λ n. let t = turns_to p root x in rw (ne_eqb _ _ n, at_or_above) (either_way x (slot_at p t.slot).key
    (λ i. rw (le-leb _ _ i, next_at) key_next)
    (λ i. rw (lt-leb _ _ i, next_at) (same_or_not t.beside 0 (λ e. rw (eq-eqb _ _ e, next_beside) none_next) (λ m. rw (ne_eqb _ _ m, next_beside) key_next)))))

refused_absent : {a : Answer} (f : Refusal) → Next a → a ≡ Refused f → f ≡ KeyAbsent
refused_absent f key_next e = let z : ◌≡◌ {A = ℕ} 0 1 = cc in absurd (omega arith)
refused_absent f none_next e = cc

-- What is not found is not there; what is found is up to b or above it.
pub none_at : (b : ℕ) (p : List ℕ) (root x : ℕ) (f : Refusal) → Refused f ≡ at_or_above p root x → Refused f ≡ not_above b (at_or_above p root x)
unfolding not_above
none_at b p root x f e = rw (sym e, not_above, refused_absent f (next_of p root x) (sym e))

pub not_above_lem : (b k : ℕ) → k ≤ b → not_above b (Done k) ≡ Done k
unfolding up_to not_above
not_above_lem b k h = let e : up_to b k ≡ true = omega (arith, le-leb) in rw (e, not_above)

pub above : (b k : ℕ) → b < k → not_above b (Done k) ≡ Refused KeyAbsent
unfolding up_to not_above
above b k h = let e : up_to b k ≡ false = omega (arith, lt-leb) in rw (e, not_above)

pub delete_ends : (n x b gone : ℕ) (p : List ℕ) (h : Header) → n < 1 → delete_from n x b gone p h ≡ written p (Done gone) h
unfolding delete_from
delete_ends n x b gone p h l = let e : n ≡ 0 = omega arith in rw e

pub delete_none : (n x b gone : ℕ) (p : List ℕ) (h : Header) (f : Refusal) → next_to p h.root x b ≡ Refused f → delete_from n x b gone p h ≡ written p (Done gone) h
unfolding delete_from
delete_none zero x b gone p h f e = refl
delete_none (suc n) x b gone p h f e = rw (e, delete_from)

pub delete_next : (n m x b gone : ℕ) (p : List ℕ) (h : Header) (k : ℕ) → n ≡ m + 1 → next_to p h.root x b ≡ Done k
    → delete_from n x b gone p h ≡ (let w = delete_under p h k in delete_from m (k + 1) b (gone + 1) w.words w.result.header)
unfolding delete_from
delete_next n m x b gone p h k l e = rw (l, add-one m, e, delete_from, add-one k, add-one gone)
