-- Which steps are allowed: in words that show a sound State, the code's answers are the definition's. A slot is an inner node by its
-- words where it is one in the tree (`inner_shows`, `inner_empty`), a step is allowed where it is allowed (`allowed_shows`), and the
-- first one found is the lowest (`first_shows`).
-- Why: a slot of the pool stands in the tree or on the chain; a leaf and a free slot have right 0, and an inner node's right child is
-- a slot. For an inner node conditions and limit are those of ConditionShows.antt (crate kinds) and LevelShows.antt, and no other
-- slot has a condition that holds. The scans go alike. Assumes nothing.
use mathlib.Core.Path.{◌≡◌, refl, sym, ap, ◌∙◌}
use mathlib.Core.Bool.{Bool, true, false, not, ◌&&◌, false≢true}
use mathlib.Core.List.{List, [], ◌∷◌}
use mathlib.Core.Option.{Option, none, some}
use native.Mathlib.Omega.{arith}
use native.Mathlib.Decide.{dec_le}
use lib.Dec.{leb}
use borrow.Author.Tests.{le-leb, lt-leb}
use Prim.Native.Nat.{ℕ, zero, suc, ◌≤◌}
use Rattle.tree.specs.declared.Kind.{Kind}
use Rattle.tree.specs.Codes.{kinds}
use Rattle.tree.specs.Tree.{Tree, is_leaf, count, count_in}
use Rattle.tree.specs.Kinds.{condition_at, at_limit}
use Rattle.tree.specs.State.{State, empty, full, count_top, Sound}
use Rattle.tree.specs.Settle.{allowed, lowest_kind, lowest_step}
use Rattle.tree.proofs.Steps.{step_inner, made, inner_in}
use Rattle.tree.proofs.SoundStates.{tree_count, tree_slot, tree_good, tree_once}
use Rattle.format.specs.declared.Header.{Header}
use Rattle.format.specs.Words.{slot_at, last_slot}
use Rattle.format.specs.Shows.{Chain, chain_end, chain_more, Shows}
use Rattle.tree.proofs.Counts.{in_chain_lem}
use Rattle.format.proofs.Frame.{root_slot, holds_root}
use Rattle.format.proofs.Replace.{in_holds, find_slot, holds_at_none, holds_at_in}
use Rattle.format.proofs.Shown.{shows_tree, last_slot_is}
use Rattle.kinds.specs.Around.{around_at}
use Rattle.kinds.specs.Conditions.{fits}
use Rattle.kinds.proofs.ConditionShows.{condition_shows}
use Rattle.steps.specs.declared.Lowest.{Lowest}
use Rattle.std.specs.Prelude.{Option as Found, Some, None}
use Rattle.steps.specs.Steps.{lowest, has_children, inner_slot, inner_at, limit_at, allowed_around, allowed_words, first_kind, first_from, first_allowed}
use Rattle.steps.proofs.LevelShows.{children_held, limit_shows}

-- "A free slot is 0, next free slot, 0, 4,294,967,295": it has no children.
free_bare : {p : List ℕ} {a : ℕ} {fs : List ℕ} → Chain p a fs → (s : ℕ) → 1 ≤ count_in s fs → has_children (slot_at p s) ≡ false
unfolding count_in
free_bare chain_end s i = absurd (omega arith)
free_bare (chain_more {s = v} {fs = fs} h c) s i = in_chain_lem s v fs i (λ e. rw (e, h.content)) (free_bare c s)

module _ {h : Header} {p : List ℕ} {S : State} (sound : Sound S) (shows : Shows h p S) (s : ℕ) where
  inner_inside : 1 ≤ s → s ≤ S.slots → inner_at p s ≡ has_children (slot_at p s)
  unfolding inner_slot
  inner_inside a b = rw (last_slot_is sound shows, le-leb s S.slots b, le-leb 1 s a)

  -- A slot that does not stand in the tree is outside the pool or on the chain.
  inner_absent : count_top s S.top ≡ 0 → inner_at p s ≡ false
  unfolding inner_slot
  inner_absent n = go (dec_le 1 s) (dec_le s S.slots)
    where
      go : Dec (1 ≤ s) → Dec (s ≤ S.slots) → (leb 1 s && leb s (last_slot p) && has_children (slot_at p s)) ≡ false
      go (no a) d = rw (lt-leb 1 s (omega arith))
      go (yes a) (no b) = rw (last_slot_is sound shows, lt-leb s S.slots (omega arith), le-leb 1 s a)
      go (yes a) (yes b) = inner_inside a b ∙ free_bare shows.chain_held s (omega (arith, sound.once s a b))

  pub inner_empty : S.top ≡ empty → inner_at p s ≡ false
  unfolding count_top
  inner_empty e = inner_absent (rw e)

-- the lowest step, as the code says it: with what stands around it
unfoldable pub lowest_of : List ℕ → Option (ℕ × Kind) → Found Lowest
lowest_of p (some a) = Some (lowest a.0 a.1 (around_at p a.0))
lowest_of p none = None

module _ (S : State) (t : Tree) (sound : Sound S) (e : S.top ≡ full t) {h : Header} (p : List ℕ) (shows : Shows h p S) where
  pub inner_shows : (s : ℕ) → inner_at p s ≡ inner_in s 1 t
  inner_shows s = go (dec_le 1 (count s t))
    where
      go : Dec (1 ≤ count s t) → inner_at p s ≡ inner_in s 1 t
      go (no n) = inner_absent sound shows s (omega (arith, tree_count S t sound e s)) ∙ sym (holds_at_none (λ w u. not (is_leaf u)) s 1 t (omega arith))
      go (yes i) =
          let own = tree_slot S t sound e s i in
          let x = find_slot s 1 t i in
          let y = x.stands 0 t in
          let held = in_holds y.put (shows_tree shows e) in
          let here : slot_at p s ≡ root_slot x.weight x.tree = ap (slot_at p) (sym x.at) ∙ (holds_root held).content in
          inner_inside sound shows s own.numbered own.within
          ∙ (ap has_children here ∙ (children_held held ∙ sym (holds_at_in (λ w u. not (is_leaf u)) y.put x.at (tree_once S t sound e s))))

  -- A slot that is no inner node has no condition that holds.
  pub no_condition : (k : Kind) (s : ℕ) → inner_in s 1 t ≡ false → condition_at k s t ≡ false
  no_condition k s i = go (condition_at k s t) refl
    where
      go : (b : Bool) → condition_at k s t ≡ b → b ≡ false
      go true c = absurd (false≢true (sym i ∙ step_inner (made k s t (tree_good S t sound e).chromatic (tree_once S t sound e s) c).step))
      go false c = refl

  allowed_shows : (k : Kind) (s : ℕ) → allowed_words k h p s ≡ allowed s k t
  unfolding allowed_words allowed_around allowed
  allowed_shows k s = go (inner_in s 1 t) refl
    where
      go : (b : Bool) → inner_in s 1 t ≡ b
          → (inner_at p s && (fits k (around_at p s) && not (limit_at k h s))) ≡ (condition_at k s t && not (at_limit k s t))
      go true i = rw (inner_shows s ∙ i, condition_shows S t sound e p shows k s i, limit_shows S t sound e p shows k s)
      go false i = rw (inner_shows s ∙ i, no_condition k s i)

  -- The scans go alike.
  kind_shows : (ks : List Kind) (s : ℕ) → first_kind ks h p s ≡ lowest_kind ks s t
  unfolding first_kind lowest_kind
  kind_shows [] s = refl
  kind_shows (k ∷ ks) s = rw (allowed_shows k s, first_kind) (ap (λ o. elim (allowed s k t) [ true ↦ some k | false ↦ o ]) (kind_shows ks s))

  from_shows : (n s : ℕ) → first_from n h p s ≡ lowest_of p (lowest_step n s t)
  unfolding first_from lowest_step lowest_of
  from_shows zero s = refl
  from_shows (suc n) s = rw (kind_shows kinds s, first_from) (go (lowest_kind kinds s t) (from_shows n (suc s)))
    where
      go : (o : Option Kind) → first_from n h p (suc s) ≡ lowest_of p (lowest_step n (suc s) t)
          → elim o [ some k ↦ Some (lowest s k (around_at p s)) | none ↦ first_from n h p (suc s) ] ≡ lowest_of p (elim o [ some k ↦ some (s, k) | none ↦ lowest_step n (suc s) t ])
      go (some k) rest = refl
      go none rest = rest

  pub first_shows : first_allowed h p ≡ lowest_of p (lowest_step S.slots 1 t)
  unfolding first_allowed
  first_shows = rw (last_slot_is sound shows) (from_shows S.slots 1)
