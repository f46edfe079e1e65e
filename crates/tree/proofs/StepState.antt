-- What the command `step` does to a State. It answers as document 01's table says, codes 8 to 11 lowest first (`stepping`); of a
-- sound State it is accepted exactly when its kind's condition holds and it is not at the limit (`accepted_iff`), and refused
-- with 8 exactly when its slot is no inner node (`no_inner_exactly`). A refused step leaves the State as it was
-- (`step_refused`); an accepted one keeps it sound (`sound_kept`, `step_sound_state`) and keeps the keys (`step_keeps_keys`).
-- Why: an accepted step is a step of the relation (Steps.antt), for in a sound State no slot stands twice; the rest is
-- StepKeys.antt and StepLevels.antt. Assumes nothing.
use mathlib.Core.Option.{Option, none, some}
use mathlib.Core.Path.{◌≡◌, refl, sym, ap, ◌∙◌}
use mathlib.Core.Logic.{◌↔◌, ◌≢◌}
use mathlib.Core.Bool.{Bool, true, false, not, ◌||◌, false≢true}
use lib.Dec.{eqb, ltb}
use borrow.Author.Tests.{eqb-true, eqb-false, eq-eqb, ne_eqb, ltb-false, le-ltb, not-true, not-false}
use native.Mathlib.Omega.{arith}
use Prim.Native.Nat.{ℕ, ◌≤◌}
use Rattle.tree.specs.declared.Refusal.{Refusal}
use Rattle.tree.specs.declared.Refusal.TheVariants.{NoInnerNode, NoSuchKind, ConditionFalse, LevelLimit}
use Rattle.tree.specs.declared.Kind.{Kind}
use Rattle.tree.specs.declared.Answer.TheVariants.{Done, Refused}
use Rattle.tree.specs.Codes.{kind_number, named}
use Rattle.tree.specs.Tree.{Tree, is_leaf, count, count_in}
use Rattle.tree.specs.Kinds.{condition_at, stepped, at_limit}
use Rattle.tree.specs.State.{Top, empty, full, State, state, keys_of, key_end, Good, Sound, Outcome, gives, refuses, leaf_at, no_inner, step_kind, step_named, step}
use Rattle.tree.specs.Settle.{allowed}
use Rattle.tree.proofs.Tests.{two_true}
use Rattle.tree.proofs.KindNumbers.{named_known, named_number}
use Rattle.tree.proofs.Steps.{inner_in, holds_at_present, holds_at_not, step_inner, made}
use Rattle.tree.proofs.StepShape.{step_slots}
use Rattle.tree.proofs.StepKeys.{step_keys, step_ordered}
pub use Rattle.tree.proofs.SoundStates.{InTree, tree_count, tree_slot, tree_once, tree_good, sound_replaced}
use Rattle.tree.proofs.StepLevels.{step_chromatic, step_low}

pub four_false : (a b c d : Bool) → (a || b || c || d) ≡ false → (a ≡ false) × (b ≡ false) × (c ≡ false) × (d ≡ false)
four_false true b c d e = absurd (false≢true (sym e))
four_false false true c d e = absurd (false≢true (sym e))
four_false false false true d e = absurd (false≢true (sym e))
four_false false false false d e = (refl, refl, refl, e)

-- A sound State and its tree
module _ (S : State) (t : Tree) (h : Sound S) (e : S.top ≡ full t) where
  -- 8: "slot is 0, above C, free or a leaf", exactly where no inner node has it
  pub no_inner_exactly : (s : ℕ) → (no_inner s S t ≡ false) ↔ (inner_in s 1 t ≡ true)
  unfolding no_inner leaf_at
  no_inner_exactly s = (
    λ f.
        let g = four_false (eqb s 0) (ltb S.slots s) (not (eqb (count_in s S.free) 0)) (leaf_at s t) f in
        let a : s ≢ 0 = eqb-false s 0 g.0 in
        let b = ltb-false S.slots s g.1 in
        let c = eqb-true (count_in s S.free) 0 (not-false _ g.2) in
        let d : count s t ≡ 1 = omega (arith, tree_count S t h e s, h.once s (omega arith) b) in
        holds_at_not (λ w u. is_leaf u) s 1 t d ∙ ap not g.3,
    λ i.
        let d = tree_slot S t h e s (holds_at_present (λ w u. not (is_leaf u)) s 1 t i) in
        let l = not-true (leaf_at s t) (sym (holds_at_not (λ w u. is_leaf u) s 1 t d.once) ∙ i) in
        rw (ne_eqb s 0 (λ z. omega arith), le-ltb S.slots s d.within, eq-eqb (count_in s S.free) 0 d.not_free, l),
  )

-- An allowed step keeps all that the audit rules ask.
pub allowed_exactly : (s : ℕ) (k : Kind) (t : Tree) → (allowed s k t ≡ true) ↔ ((condition_at k s t ≡ true) × (at_limit k s t ≡ false))
unfolding allowed
allowed_exactly s k t = (
  λ a. let f = two_true (condition_at k s t) (not (at_limit k s t)) a in (f.0, not-true (at_limit k s t) f.1),
  λ f. rw (f.0, f.1),
)

pub good_kept : (s : ℕ) (k : Kind) (t : Tree) → Good t → count s t ≤ 1 → allowed s k t ≡ true → Good (stepped k s t)
good_kept s k t g n a =
    let f = (allowed_exactly s k t).0 a in
    let m = (made k s t g.chromatic n f.0).step in
    record {
      ordered = step_ordered 0 key_end m g.ordered;
      chromatic = step_chromatic m g.chromatic;
      low = step_low m f.1 g.low;
    }

pub sound_kept : (S : State) (t : Tree) → Sound S → S.top ≡ full t → (s : ℕ) (k : Kind) → allowed s k t ≡ true
    → Sound (state S.slots (full (stepped k s t)) S.free)
sound_kept S t h e s k a =
    let g = tree_good S t h e in
    let n = tree_once S t h e s in
    let m = (made k s t g.chromatic n ((allowed_exactly s k t).0 a).0).step in
    sound_replaced S t h e (stepped k s t) (step_slots m) (good_kept s k t g n a)

-- What it takes for a step of number n at slot s of t to be accepted, with m for its answer
pub record Accepted (s n m : ℕ) (t : Tree) : Type 0 where
  pub kind : Kind
  pub is_named : named n ≡ some kind
  pub holds : condition_at kind s t ≡ true
  pub below_limit : at_limit kind s t ≡ false
  pub number : m ≡ n

-- Why a step is refused: "Codes 5 to 11 [..]; lowest code first."
pub data StepCause (s n : ℕ) (S : State) : Refusal → Type 0 where
  in_empty : S.top ≡ empty → StepCause s n S NoInnerNode
  no_inner_case : {t : Tree} → S.top ≡ full t → no_inner s S t ≡ true → StepCause s n S NoInnerNode
  no_kind : {t : Tree} → S.top ≡ full t → no_inner s S t ≡ false → named n ≡ none → StepCause s n S NoSuchKind
  condition_false : {t : Tree} {k : Kind} → S.top ≡ full t → no_inner s S t ≡ false → named n ≡ some k → condition_at k s t ≡ false
      → StepCause s n S ConditionFalse
  at_limit_case : {t : Tree} {k : Kind} → S.top ≡ full t → no_inner s S t ≡ false → named n ≡ some k → condition_at k s t ≡ true → at_limit k s t ≡ true
      → StepCause s n S LevelLimit

-- The command, case by case
pub data StepCase (s n : ℕ) (S : State) : Outcome → Type 0 where
  refused : {f : Refusal} → StepCause s n S f → StepCase s n S (refuses f S)
  taken : {t : Tree} {k : Kind} → S.top ≡ full t → no_inner s S t ≡ false → named n ≡ some k → allowed s k t ≡ true
      → StepCase s n S (gives (Done (kind_number k)) (state S.slots (full (stepped k s t)) S.free))

module _ (s n : ℕ) (S : State) where
  pub stepping_kind : (t : Tree) (k : Kind) → S.top ≡ full t → no_inner s S t ≡ false → named n ≡ some k → StepCase s n S (step_kind s k S t)
  unfolding step_kind
  stepping_kind t k e f g = go (condition_at k s t) refl (at_limit k s t) refl
    where
      go : (b : Bool) → condition_at k s t ≡ b → (c : Bool) → at_limit k s t ≡ c → StepCase s n S (elim b [
        | true ↦ elim c [ true ↦ refuses LevelLimit S | false ↦ gives (Done (kind_number k)) (state S.slots (full (stepped k s t)) S.free) ]
        | false ↦ refuses ConditionFalse S
      ])
      go true i true j = refused (at_limit_case e f g i j)
      go true i false j = taken e f g ((allowed_exactly s k t).1 (i, j))
      go false i c j = refused (condition_false e f g i)

  pub stepping_named : (t : Tree) → S.top ≡ full t → no_inner s S t ≡ false → (a : Option Kind) → named n ≡ a → StepCase s n S (step_named s a S t)
  unfolding step_named
  stepping_named t e f none g = refused (no_kind e f g)
  stepping_named t e f (some k) g = stepping_kind t k e f g

  pub stepping : StepCase s n S (step s n S)
  unfolding step
  stepping = go S.top refl
    where
      inner : (t : Tree) → S.top ≡ full t → (b : Bool) → no_inner s S t ≡ b
          → StepCase s n S (elim b [ true ↦ refuses NoInnerNode S | false ↦ step_named s (named n) S t ])
      inner t e true f = refused (no_inner_case e f)
      inner t e false f = stepping_named t e f (named n) refl

      go : (T : Top) → S.top ≡ T → StepCase s n S (elim T [
        | empty ↦ refuses NoInnerNode S
        | full t ↦ elim (no_inner s S t) [ true ↦ refuses NoInnerNode S | false ↦ step_named s (named n) S t ]
      ])
      go empty e = refused (in_empty e)
      go (full t) e = inner t e (no_inner s S t) refl

  -- The other way round: each cause gives its refusal, and with none of them the step is taken.
  pub step_caused : {f : Refusal} → StepCause s n S f → (step s n S).answer ≡ Refused f
  unfolding step step_named step_kind
  step_caused (in_empty e) = rw (e, step)
  step_caused (no_inner_case e f) = rw (e, step, f)
  step_caused (no_kind e f g) = rw (e, step, f, g)
  step_caused (condition_false e f g c) = rw (e, step, f, g, c, step_kind)
  step_caused (at_limit_case e f g c l) = rw (e, step, f, g, c, step_kind, l)

  pub step_taken : (t : Tree) (k : Kind) → S.top ≡ full t → no_inner s S t ≡ false → named n ≡ some k → allowed s k t ≡ true
      → step s n S ≡ gives (Done (kind_number k)) (state S.slots (full (stepped k s t)) S.free)
  unfolding step step_named step_kind
  step_taken t k e f g a = let i = (allowed_exactly s k t).0 a in rw (e, step, f, g, i.0, step_kind, i.1)

  -- Each code is given exactly when its cause is there.
  pub refused_iff : (f : Refusal) → ((step s n S).answer ≡ Refused f) ↔ StepCause s n S f
  refused_iff f = (go stepping, λ c. step_caused c)
    where
      go : {o : Outcome} → StepCase s n S o → o.answer ≡ Refused f → StepCause s n S f
      go (refused {f = g} c) a = let d : g ≡ f = cc in rw d at c
      go (taken e i g b) a = let z : ◌≡◌ {A = ℕ} 0 1 = cc in absurd (omega arith)

  -- "change no pool word"
  pub step_refused : (f : Refusal) → (step s n S).answer ≡ Refused f → (step s n S).after ≡ S
  step_refused f = go stepping
    where
      go : {o : Outcome} → StepCase s n S o → o.answer ≡ Refused f → o.after ≡ S
      go (refused c) a = refl
      go (taken e i g b) a = cc

  -- A sound State
  module _ (h : Sound S) where
    pub step_sound_state : Sound (step s n S).after
    step_sound_state = go stepping
      where
        go : {o : Outcome} → StepCase s n S o → Sound o.after
        go (refused c) = h
        go (taken {t} {k} e i g a) = sound_kept S t h e s k a

    pub step_keeps_keys : keys_of (step s n S).after.top ≡ keys_of S.top
    unfolding keys_of
    step_keeps_keys = go stepping
      where
        go : {o : Outcome} → StepCase s n S o → keys_of o.after.top ≡ keys_of S.top
        go (refused c) = refl
        go (taken {t} {k} e i g a) =
            rw e (step_keys (made k s t (tree_good S t h e).chromatic (tree_once S t h e s) ((allowed_exactly s k t).0 a).0).step)

    -- An accepted step answers its kind's number and puts its effect in the tree's place; and a step is accepted exactly when
    -- its number names a kind, whose condition holds and which is not at the limit.
    pub accepted_outcome : (t : Tree) → S.top ≡ full t → (m : ℕ) (a : Accepted s n m t)
        → step s n S ≡ gives (Done m) (state S.slots (full (stepped a.kind s t)) S.free)
    accepted_outcome t e m a =
        let k = a.kind in
        let x : m ≡ kind_number k = a.number ∙ named_number n k a.is_named in
        let w = made k s t (tree_good S t h e).chromatic (tree_once S t h e s) a.holds in
        let f = (no_inner_exactly S t h e s).1 (step_inner w.step) in
        rw x (step_taken t k e f a.is_named ((allowed_exactly s k t).1 (a.holds, a.below_limit)))

    pub accepted_iff : (t : Tree) → S.top ≡ full t → (m : ℕ) → ((step s n S).answer ≡ Done m) ↔ Accepted s n m t
    accepted_iff t e m = (go stepping, λ a. ap (λ (o : Outcome). o.answer) (accepted_outcome t e m a))
      where
        go : {o : Outcome} → StepCase s n S o → o.answer ≡ Done m → Accepted s n m t
        go (refused c) b = let z : ◌≡◌ {A = ℕ} 0 1 = cc in absurd (omega arith)
        go (taken {t = v} {k} d i g a) b =
            let same : v ≡ t = cc in
            let f = (allowed_exactly s k t).0 (rw same at a) in
            let x = named_number n k g in
            record { kind = k; is_named = g; holds = f.0; below_limit = f.1; number = cc }

    -- "An allowed step is a slot and kind that would be accepted."
    pub allowed_accepted : (t : Tree) → S.top ≡ full t → (k : Kind) → n ≡ kind_number k → (allowed s k t ≡ true) ↔ ((step s n S).answer ≡ Done n)
    allowed_accepted t e k f =
        let is : named n ≡ some k = rw f (named_known k) in (
          λ a. let i = (allowed_exactly s k t).0 a in (accepted_iff t e n).1 (record { kind = k; is_named = is; holds = i.0; below_limit = i.1; number = refl }),
          λ d.
              let a = (accepted_iff t e n).0 d in
              let called = a.is_named in
              let same : a.kind ≡ k = cc in
              rw same at ((allowed_exactly s a.kind t).1 (a.holds, a.below_limit)),
        )
