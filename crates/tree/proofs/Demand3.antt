-- Demand 3, of sound States and the commands `step` and `settle`: every accepted step lowers (3N+1)D + 2NR + Q, the report's last
-- number, so that at most so many are accepted in a row, of any slots and kinds (`accepted_falls`, `accepted_bounded`); some step
-- is accepted until the tree is red-black, and then none (`some_accepted`, `none_accepted`); at L = 255 one of kind 6 is
-- (`lighten_accepted`); settle answers code 0 exactly when it leaves a red-black tree, and does so with so large a budget (`settle_code_0`,
-- `settle_enough`; its steps: SettleAnswers.antt).
-- Why: a sound State's tree is what the laws on trees ask, and an accepted step is one of theirs; an empty tree allows none.
-- Assumes nothing.
use mathlib.Core.Path.{◌≡◌, refl, ap, ◌∙◌}
use mathlib.Core.Logic.{◌↔◌, ◌⊎◌, inl, inr}
use mathlib.Core.Bool.{false}
use native.Mathlib.Omega.{arith}
use Prim.Native.Nat.{ℕ, suc, ◌+◌, ◌≤◌, ◌<◌}
use Rattle.tree.specs.declared.Kind.{Kind}
use Rattle.tree.specs.declared.Kind.TheVariants.{Lighten}
use Rattle.tree.specs.declared.Answer.TheVariants.{Done}
use Rattle.tree.specs.Codes.{most_slots, most_level, kind_number, code_of}
use Rattle.tree.specs.Tree.{Tree, size}
use Rattle.tree.specs.Distances.{bound, RedBlack}
use Rattle.tree.specs.Kinds.{at_limit}
use Rattle.tree.specs.State.{State, Top, empty, full, level_top, Sound, Outcome, step, report}
use Rattle.tree.specs.Settle.{settle}
use Rattle.tree.proofs.KindNumbers.{named_known}
use Rattle.tree.proofs.Relation.{Step}
use Rattle.tree.proofs.Steps.{step_whole}
use Rattle.tree.proofs.StepState.{tree_good, tree_once, tree_slot, StepCase, refused, taken, stepping, step_sound_state, Accepted, accepted_iff}
use Rattle.tree.proofs.Totals.{size_within}
use Rattle.tree.proofs.Excess.{excess_none}
use Rattle.tree.proofs.Bound.{bound_falls}
use Rattle.tree.proofs.Progress.{CanMake, can_make, red_black_bound, none_when_red_black, Accepts, accepts, lighten_at_limit, step_until_red_black}
use Rattle.tree.proofs.Settling.{last_after, proper_made, sound_proper, settle_after, settle_code, settle_empty}
use Rattle.tree.proofs.Settled.{Held, settle_held, none_left_exactly, settles_red_black}

-- (3N+1)D + 2NR + Q, as the report gives it
abbrev pub bound_of : State → ℕ
bound_of S = (report S.top).bound

-- the excess weight, as the report gives it
abbrev pub excess_of : State → ℕ
excess_of S = (report S.top).excess_weight

-- "Red-black means R = 0 and no overweighted edge", as the report gives them
pub record BalancedState (S : State) : Type 0 where
  pub no_conflict : (report S.top).conflicts ≡ 0
  pub no_overweight : excess_of S ≡ 0

bound_is : (S : State) (t : Tree) → S.top ≡ full t → bound_of S ≡ bound t
unfolding report
bound_is S t e = rw e

pub balanced_is : (S : State) (t : Tree) → S.top ≡ full t → BalancedState S ↔ RedBlack t
unfolding report
balanced_is S t e = (
  λ b. record { no_conflict = rw e at b.no_conflict; no_overweight = (excess_none t).0 (rw e at b.no_overweight) },
  λ r. record { no_conflict = rw e r.no_conflict; no_overweight = rw e ((excess_none t).1 r.no_overweight) },
)

balanced_empty : (S : State) → S.top ≡ empty → BalancedState S
unfolding report
balanced_empty S e = record { no_conflict = rw e; no_overweight = rw e }

-- a red-black tree's bound is 0
pub balanced_bound : (S : State) → BalancedState S → bound_of S ≡ 0
unfolding report
balanced_bound S b = go S.top refl
  where
    go : (T : Top) → S.top ≡ T → bound_of S ≡ 0
    go empty e = rw e
    go (full t) e = bound_is S t e ∙ red_black_bound t ((balanced_is S t e).0 b)

-- What the laws on trees ask of a sound State's tree
module _ (S : State) (t : Tree) (h : Sound S) (e : S.top ≡ full t) where
  pub sound_held : Held S.slots t
  sound_held = record {
    proper = sound_proper S t e h;
    low = (tree_good S t h e).low;
    inside = λ s n. let i = tree_slot S t h e s n in record { from_one = i.numbered; to_last = i.within };
  }

  pub sound_small : size t ≤ most_slots
  sound_small = omega (arith, h.few, size_within S.slots t sound_held.inside sound_held.proper.once)

-- Every accepted step lowers the bound.
pub accepted_falls : (s n m : ℕ) (S : State) → Sound S → (step s n S).answer ≡ Done m → bound_of (step s n S).after < bound_of S
unfolding report
accepted_falls s n m S h = go (stepping s n S)
  where
    go : {o : Outcome} → StepCase s n S o → o.answer ≡ Done m → bound_of o.after < bound_of S
    go (refused c) a = let z : ◌≡◌ {A = ℕ} 0 1 = cc in absurd (omega arith)
    go (taken {t} {k} e i g b) a = rw e (bound_falls (proper_made s k t (sound_proper S t e h) b).step)

-- m accepted steps in a row
pub data Accepting : ℕ → State → State → Type 0 where
  none_taken : {S : State} → Accepting 0 S S
  taken_first : (s n : ℕ) {m a : ℕ} {S T : State} → (step s n S).answer ≡ Done a → Accepting m (step s n S).after T → Accepting (suc m) S T

pub accepted_bounded : {m : ℕ} {S T : State} → Accepting m S T → Sound S → m + bound_of T ≤ bound_of S
accepted_bounded none_taken h = omega arith
accepted_bounded (taken_first s n {a} {S} d rest) h = omega (arith, accepted_falls s n a S h d, accepted_bounded rest (step_sound_state s n S h))

-- Until the tree is red-black some slot and kind are accepted ..
pub data SomeAccepted (S : State) : Type 0 where
  some_accepted_is : (s : ℕ) (k : Kind) → (step s (kind_number k) S).answer ≡ Done (kind_number k) → SomeAccepted S

-- a step of the tree that is not refused with 11
made_accepted : (S : State) (t : Tree) → Sound S → S.top ≡ full t → {k : Kind} {s q : ℕ} {u : Tree} → Step k s 1 t q u → at_limit k s t ≡ false
    → (step s (kind_number k) S).answer ≡ Done (kind_number k)
made_accepted S t h e {k} {s} g f =
    let n = kind_number k in
    let c = (step_whole g (tree_once S t h e s)).0 in
    let a : Accepted s n n t = record { kind = k; is_named = named_known k; holds = c; below_limit = f; number = refl } in
    (accepted_iff s n S h t e n).1 a

pub some_accepted : (S : State) → Sound S → BalancedState S ⊎ SomeAccepted S
some_accepted S h = go S.top refl
  where
    tree : (t : Tree) → S.top ≡ full t → RedBlack t ⊎ Accepts t → BalancedState S ⊎ SomeAccepted S
    tree t e (inl r) = inl ((balanced_is S t e).1 r)
    tree t e (inr (accepts {k} {s} g f)) = inr (some_accepted_is s k (made_accepted S t h e g f))

    go : (T : Top) → S.top ≡ T → BalancedState S ⊎ SomeAccepted S
    go empty e = inl (balanced_empty S e)
    go (full t) e = let i = sound_held S t h e in tree t e (step_until_red_black t i.proper.chromatic i.low (sound_small S t h e))

-- 02 (viii): "255 remains enough for L": where kind 1 at the root is refused for it, kind 6 is accepted somewhere.
abbrev pub AcceptedAs : Kind → State → Type 0
AcceptedAs k S = (s : ℕ) × ((step s (kind_number k) S).answer ≡ Done (kind_number k))

pub lighten_accepted : (S : State) → Sound S → level_top S.top ≡ most_level → AcceptedAs Lighten S
unfolding level_top at_limit
lighten_accepted S h high = go S.top refl
  where
    tree : (t : Tree) → S.top ≡ full t → CanMake Lighten 1 t → AcceptedAs Lighten S
    tree t e (can_make {s} g) = (s, made_accepted S t h e g refl)

    go : (T : Top) → S.top ≡ T → AcceptedAs Lighten S
    go empty e = absurd (omega (arith, ap level_top e))
    go (full t) e =
        let i = sound_held S t h e in
        tree t e (lighten_at_limit t i.proper.chromatic (omega (arith, ap level_top e)) (sound_small S t h e))

-- .. and once the tree is red-black, none.
pub none_accepted : (S : State) → Sound S → BalancedState S → (s n m : ℕ) → (step s n S).answer ≡ Done m → ⊥
none_accepted S h b s n m = go (stepping s n S)
  where
    go : {o : Outcome} → StepCase s n S o → o.answer ≡ Done m → ⊥
    go (refused c) a = let z : ◌≡◌ {A = ℕ} 0 1 = cc in absurd (omega arith)
    go (taken {t} {k} e i g d) a = none_when_red_black ((balanced_is S t e).0 b) (proper_made s k t (sound_proper S t e h) d).step

-- Settle. Its code ..
pub settle_code_0 : (S : State) (budget : ℕ) → Sound S → (code_of (settle budget S).answer ≡ 0) ↔ BalancedState (settle budget S).after
settle_code_0 S b h = go S.top refl
  where
    go : (T : Top) → S.top ≡ T → (code_of (settle b S).answer ≡ 0) ↔ BalancedState (settle b S).after
    go empty e = rw (settle_empty S e b) (λ z. balanced_empty S e, λ z. refl)
    go (full t) e =
        let u = last_after S.slots b t in
        let c = settle_code S t e b in
        let f = none_left_exactly S.slots u h.few (settle_held S.slots b t (sound_held S t h e)) in
        let g = balanced_is (settle b S).after u (ap (λ (T : State). T.top) (settle_after S t e b)) in
        (λ z. g.1 (f.0 (c.0 z)), λ d. c.1 (f.1 (g.0 d)))

-- .. and that the bound is budget enough.
pub settle_enough : (S : State) (budget : ℕ) → Sound S → bound_of S ≤ budget → BalancedState (settle budget S).after
settle_enough S b h enough = go S.top refl
  where
    go : (T : Top) → S.top ≡ T → BalancedState (settle b S).after
    go empty e = rw (settle_empty S e b) (balanced_empty S e)
    go (full t) e =
        let r = settles_red_black S.slots b t h.few (sound_held S t h e) (omega (arith, bound_is S t e)) in
        (balanced_is (settle b S).after _ (ap (λ (T : State). T.top) (settle_after S t e b))).1 r
