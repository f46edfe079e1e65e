-- What a log tells of a key, entry by entry; and that `told` is the sentence "inserted with code 0 and not since deleted with code 0"
-- (`told_exactly`), and `told_from`, for a pool that may have had the key before, that sentence or "it was there and has not been deleted
-- with code 0" (`told_from_exactly`), where a clearing deletes the marks that crate ledger says (`is_mark_lem`). Assumes nothing.
use mathlib.Core.Path.{◌≡◌, refl, ap, sym, ◌∙◌}
use mathlib.Core.Logic.{◌≢◌, ◌↔◌, inl, inr}
use mathlib.Core.Bool.{Bool, true, false, not, ◌&&◌, and-true, and-false}
use mathlib.Core.List.{List, [], ◌∷◌, ◌++◌}
use lib.Dec.{eqb}
use borrow.Author.Tests.{eq-eqb, ne_eqb, eqb-false, leb-true, le-leb, not-true}
use native.Mathlib.Omega.{arith}
use Prim.Native.Nat.{ℕ}
use Rattle.tree.specs.Spans.{within}
use Rattle.tree.proofs.Tests.{three_true}
use Rattle.encoding.specs.declared.Operation.TheVariants.{Insert, Delete, DeleteSpan}
use Rattle.encoding.specs.declared.Command.{Command}
use Rattle.encoding.specs.Operations.{operation_number}
use Rattle.ledger.specs.Ledger.{most_resident, most_attempts, mark_key}
use Rattle.ledger.specs.Sends.{IsMark}
use Rattle.ledger.proofs.Arguments.{mark_of}
use Rattle.demands.specs.Calls.{Entry, of_command, is_of, is_mark, puts, takes, tells, told_from, told, NoneTakes, InsertedSince, KeptOrInserted}

-- What an entry tells of x: nothing new, unless it puts or takes x.
module _ (x : ℕ) (e : Entry) (before : ℕ) where
  pub tells_kept : puts x e ≡ false → takes x e ≡ false → tells x e before ≡ before
  unfolding tells
  tells_kept f g = rw (f, tells, g) (omega arith)

  pub tells_put : puts x e ≡ true → tells x e before ≡ 1
  unfolding tells
  tells_put f = rw (f, tells)

  pub tells_taken : puts x e ≡ false → takes x e ≡ true → tells x e before ≡ 0
  unfolding tells
  tells_taken f g = rw (f, tells, g) (omega arith)

-- The same of a command's entry.
module _ (x : ℕ) (c : Command) (code number before : ℕ) where
  pub other_operation : operation_number c.operation ≢ operation_number Insert → operation_number c.operation ≢ operation_number Delete
      → operation_number c.operation ≢ operation_number DeleteSpan → tells x (of_command c code number) before ≡ before
  unfolding puts takes is_of
  other_operation f g h = tells_kept x (of_command c code number) before (rw (ne_eqb _ _ f)) (rw (ne_eqb _ _ g, ne_eqb _ _ h))

  -- an insert or a delete of another key
  pub other_key : operation_number c.operation ≢ operation_number DeleteSpan → c.first ≢ x → tells x (of_command c code number) before ≡ before
  unfolding puts takes is_of
  other_key d f = tells_kept x (of_command c code number) before (rw (ne_eqb _ _ f, and-false)) (rw (ne_eqb _ _ f, ne_eqb _ _ d, and-false))

  pub other_code : code ≢ 0 → tells x (of_command c code number) before ≡ before
  unfolding puts takes
  other_code f = tells_kept x (of_command c code number) before (rw (ne_eqb _ _ f, and-false)) (rw (ne_eqb _ _ f, and-false))

  pub tells_insert : c.operation ≡ Insert → c.first ≡ x → code ≡ 0 → tells x (of_command c code number) before ≡ 1
  unfolding puts is_of
  tells_insert o k z = tells_put x (of_command c code number) before (rw (o, eq-eqb _ _ k, eq-eqb _ _ z))

  pub tells_delete : c.operation ≡ Delete → c.first ≡ x → code ≡ 0 → tells x (of_command c code number) before ≡ 0
  unfolding puts takes is_of
  tells_delete o k z = tells_taken x (of_command c code number) before (rw o) (rw (o, eq-eqb _ _ k, eq-eqb _ _ z))

  -- a delete of a span by which keys went takes what is within it, and one by which none went takes nothing
  span_takes : c.operation ≡ DeleteSpan → code ≡ 0 → takes x (of_command c code number) ≡ (within c.first c.second x && not (eqb number 0))
  unfolding takes is_of
  span_takes o z = rw (o, eq-eqb _ _ z) (and-true (within c.first c.second x && not (eqb number 0)))

  pub tells_span : c.operation ≡ DeleteSpan → code ≡ 0 → number ≢ 0
      → tells x (of_command c code number) before ≡ elim (within c.first c.second x) [ true ↦ 0 | false ↦ before ]
  unfolding puts is_of
  tells_span o z n = go (within c.first c.second x) (span_takes o z ∙ rw (ne_eqb number 0 n) (and-true (within c.first c.second x)))
    where
      go : (b : Bool) → takes x (of_command c code number) ≡ b → tells x (of_command c code number) before ≡ elim b [ true ↦ 0 | false ↦ before ]
      go true e = tells_taken x (of_command c code number) before (rw o) e
      go false e = tells_kept x (of_command c code number) before (rw o) e

  pub tells_empty_span : c.operation ≡ DeleteSpan → code ≡ 0 → number ≡ 0 → tells x (of_command c code number) before ≡ before
  unfolding puts is_of
  tells_empty_span o z e =
      tells_kept x (of_command c code number) before (rw o) (span_takes o z ∙ rw (eq-eqb number 0 e) (and-false (within c.first c.second x)))

-- The test for a notice's marks says what the send limit's page says.
pub is_mark_lem : (n x : ℕ) → (is_mark n x ≡ true) ↔ IsMark n x
unfolding is_mark mark_key
is_mark_lem n x = (
  λ h.
      let t = three_true _ _ _ h in
      (mark_of n x).1 (leb-true _ x t.0, omega (arith, leb-true x (mark_key n most_resident most_attempts) t.1), eqb-false _ 0 (not-true _ t.2)),
  λ m.
      let k = (mark_of n x).0 m in
      rw (le-leb _ x k.0, le-leb x (mark_key n most_resident most_attempts) (omega (arith, k.1)), ne_eqb _ 0 k.2),
)

pub told_append : (x before : ℕ) (l m : List Entry) → told_from x before (l ++ m) ≡ told_from x (told_from x before l) m
unfolding told_from
told_append x before [] m = refl
told_append x before (e ∷ l) m = told_append x (tells x e before) l m

-- What is told stays as long as nothing takes x.
module _ (x : ℕ) where
  pub none_stays : (before : ℕ) (log : List Entry) → before ≡ 1 → NoneTakes x log → told_from x before log ≡ 1
  unfolding told_from NoneTakes
  none_stays before [] h n = h
  none_stays before (e ∷ log) h n = none_stays (tells x e before) log (go (puts x e) refl) n.1
    where
      go : (b : Bool) → puts x e ≡ b → tells x e before ≡ 1
      go true f = tells_put x e before f
      go false f = tells_kept x e before f n.0 ∙ h

  since_told : (before : ℕ) (log : List Entry) → InsertedSince x log → told_from x before log ≡ 1
  unfolding told_from
  since_told before log s =
      rw s.log_is
      (told_append x before s.earlier (s.insertion ∷ s.later) ∙ none_stays _ s.later (tells_put x s.insertion _ s.is_accepted) s.none_since)

  -- The other way, entry by entry: it was so before and nothing took x, or it was inserted since.
  told_either : (before : ℕ) (log : List Entry) → told_from x before log ≡ 1 → KeptOrInserted x (before ≡ 1) log
  unfolding told_from NoneTakes
  told_either before [] h = inl (h, tt)
  told_either before (e ∷ log) h = go (puts x e) refl (takes x e) refl (told_either (tells x e before) log h)
    where
      go : (a : Bool) → puts x e ≡ a → (b : Bool) → takes x e ≡ b → KeptOrInserted x (tells x e before ≡ 1) log
          → KeptOrInserted x (before ≡ 1) (e ∷ log)
      go a f b g (inr s) = inr (record {
        earlier = e ∷ s.earlier;
        insertion = s.insertion;
        later = s.later;
        log_is = ap (λ (l : List Entry). e ∷ l) s.log_is;
        is_accepted = s.is_accepted;
        none_since = s.none_since;
      })
      go true f b g (inl k) = inr (record { earlier = []; insertion = e; later = log; log_is = refl; is_accepted = f; none_since = k.1 })
      go false f true g (inl k) = absurd (omega (arith, k.0, tells_taken x e before f g))
      go false f false g (inl k) = inl (sym (tells_kept x e before f g) ∙ k.0, (g, k.1))

  pub told_from_exactly : (before : ℕ) (log : List Entry) → (told_from x before log ≡ 1) ↔ KeptOrInserted x (before ≡ 1) log
  told_from_exactly before log = (told_either before log, go)
    where
      go : KeptOrInserted x (before ≡ 1) log → told_from x before log ≡ 1
      go (inl k) = none_stays before log k.0 k.1
      go (inr s) = since_told before log s

  -- with no key before
  pub told_exactly : (log : List Entry) → (told x log ≡ 1) ↔ InsertedSince x log
  told_exactly log = (λ h. go (told_either 0 log h), since_told 0 log)
    where
      go : KeptOrInserted x (◌≡◌ {A = ℕ} 0 1) log → InsertedSince x log
      go (inl k) = absurd (omega (arith, k.0))
      go (inr s) = s
