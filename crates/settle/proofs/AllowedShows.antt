-- Which steps are allowed: in words that show a sound State, a step is allowed where the definition allows it (`allowed_shows`), and the
-- first one of all slots is the lowest (`first_shows`).
-- Why: for an inner node conditions and limit are those of ConditionShows.antt (crate kinds) and LevelShows.antt (crate steps), and no other
-- slot has a condition that holds. The scans go alike. Assumes nothing.
use Rattle.std.proofs.Common.{◌≡◌, ℕ, zero, suc, Bool, true, false, not, ◌&&◌, List, [], ◌∷◌, refl, ap, ◌∙◌}
use mathlib.Core.Bool.{and-true}
use mathlib.Core.Option.{Option, none, some}
use Rattle.tree.specs.declared.Kind.{Kind}
use Rattle.tree.specs.Codes.{kinds}
use Rattle.tree.specs.Tree.{Tree}
use Rattle.tree.specs.Kinds.{condition_at, at_limit}
use Rattle.tree.specs.State.{State, empty, full, Sound}
use Rattle.tree.specs.Settle.{allowed, lowest_kind, lowest_step}
use Rattle.tree.proofs.Steps.{inner_in}
use Rattle.format.specs.declared.Header.{Header}
use Rattle.format.specs.Shows.{Shows}
use Rattle.format.proofs.Shown.{last_slot_is}
use Rattle.kinds.specs.Around.{around_at}
use Rattle.kinds.specs.Conditions.{fits}
use Rattle.kinds.proofs.ConditionShows.{condition_shows}
use Rattle.steps.proofs.LevelShows.{limit_shows}
use Rattle.steps.specs.Steps.{inner_at, limit_at, lowest}
use Rattle.steps.proofs.AllowedShows.{lowest_of, inner_shows, inner_empty, no_condition}
use Rattle.settle.proofs.Scans.{all_false}
use Rattle.std.specs.Prelude.{Some, None}
use Rattle.settle.specs.Scanning.{slot_counts, allowed_around, allowed_words, first_kind, first_from, first_allowed}

module _ (S : State) (t : Tree) (sound : Sound S) (e : S.top ≡ full t) {h : Header} (p : List ℕ) (shows : Shows h p S) where
  pub allowed_shows : (k : Kind) (s : ℕ) → allowed_words k h p s ≡ allowed s k t
  unfolding allowed_words allowed_around slot_counts allowed
  allowed_shows k s = go (inner_in s 1 t) refl
    where
      go : (b : Bool) → inner_in s 1 t ≡ b
          → (inner_at p s && (fits k (around_at p s) && not (limit_at k h s) && true)) ≡ (condition_at k s t && not (at_limit k s t))
      go true i = rw (inner_shows S t sound e p shows s ∙ i, condition_shows S t sound e p shows k s i, limit_shows S t sound e p shows k s, and-true)
      go false i = rw (inner_shows S t sound e p shows s ∙ i, no_condition S t sound e p shows k s i)

  -- The scans go alike.
  kind_shows : (ks : List Kind) (s : ℕ) → first_kind ks h p s ≡ lowest_kind ks s t
  unfolding first_kind lowest_kind
  kind_shows [] s = refl
  kind_shows (k ∷ ks) s = rw (allowed_shows k s, first_kind) (ap (λ o. elim (allowed s k t) [ true ↦ some k | false ↦ o ]) (kind_shows ks s))

  from_shows : (n s : ℕ) → first_from n h p s ≡ lowest_of p (lowest_step n s t)
  unfolding first_from lowest_step lowest_of
  from_shows zero s = refl
  from_shows (suc n) s = rw (kind_shows kinds s, first_from) (go (lowest_kind kinds s t) (from_shows n (suc s)))
    where
      go : (o : Option Kind) → first_from n h p (suc s) ≡ lowest_of p (lowest_step n (suc s) t)
          → elim o [ some k ↦ Some (lowest s k (around_at p s)) | none ↦ first_from n h p (suc s) ] ≡ lowest_of p (elim o [ some k ↦ some (s, k) | none ↦ lowest_step n (suc s) t ])
      go (some k) rest = refl
      go none rest = rest

  pub first_shows : first_allowed h p ≡ lowest_of p (lowest_step S.slots 1 t)
  first_shows = rw (last_slot_is sound shows) (from_shows S.slots 1)

-- An empty tree has no inner node, so nothing is allowed.
module _ {h : Header} {p : List ℕ} {S : State} (sound : Sound S) (shows : Shows h p S) (e : S.top ≡ empty) where
  pub nothing_allowed : (k : Kind) (s : ℕ) → allowed_words k h p s ≡ false
  unfolding allowed_words
  nothing_allowed k s = rw (inner_empty sound shows s e)

  pub nothing_empty : (n s : ℕ) → first_from n h p s ≡ None
  unfolding first_from
  nothing_empty zero s = refl
  nothing_empty (suc n) s = rw (all_false h p s kinds (λ k. nothing_allowed k s), first_from) (nothing_empty n (suc s))
