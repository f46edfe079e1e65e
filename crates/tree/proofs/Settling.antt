-- Settle does what document 01 says: "Settle repeats: the lowest slot with an allowed kind, and there the lowest kind, until none
-- is left or the budget is spent." Its list of trees goes by such steps (`trees_follow`, `lowest_is_allowed`, `none_allowed`), it
-- ends where none is left or the budget is spent (`settle_ends`), the answer's number is the list's length (`settle_number`) and
-- its code 0 exactly when none is left (`settle_code`). What every allowed step keeps settle keeps (`kept_by_settle`): keys and
-- routers in order, keys, size, slots, and what the audit rules ask (`settle_inorder` to `settle_sound_state`).
-- Why: by induction on the kinds, then on the slots, then on the budget. Of distances nothing is said here: see Settled.antt.
-- Assumes nothing.
use mathlib.Core.Path.{◌≡◌, refl, ap, ◌∙◌}
use mathlib.Core.Logic.{◌↔◌, ◌⊎◌, inl, inr}
use mathlib.Core.Bool.{Bool, true, false}
use mathlib.Core.List.{List, [], ◌∷◌}
use mathlib.Core.Option.{Option, none, some, some-ne-none}
use lib.ListN.{length}
use native.Mathlib.Decide.{dec_le}
use native.Mathlib.Omega.{arith}
use Prim.Native.Nat.{ℕ, zero, suc, ◌+◌, ◌≤◌, ◌<◌}
use Rattle.tree.specs.declared.Kind.{Kind}
use Rattle.tree.specs.declared.Answer.TheVariants.{Done}
use Rattle.tree.specs.Codes.{kinds, kind_number, code_of, number_of}
use Rattle.tree.specs.Tree.{Tree, size, count, inorder, keys, Chromatic}
use Rattle.tree.specs.Kinds.{stepped}
use Rattle.tree.specs.State.{State, state, Top, empty, full, Good, Sound, gives}
use Rattle.tree.specs.Settle.{allowed, lowest_kind, lowest_step, next_tree, trees_after, last_of, settled, settle}
use Rattle.tree.proofs.Tables.{Numbered}
use Rattle.tree.proofs.KindNumbers.{named_known, named_within, kinds_numbered}
use Rattle.tree.proofs.Steps.{Made, made}
use Rattle.tree.proofs.StepShape.{step_size, step_slots}
use Rattle.tree.proofs.StepKeys.{step_inorder, step_keys}
use Rattle.tree.proofs.StepLevels.{step_chromatic}
use Rattle.tree.proofs.StepState.{allowed_exactly, good_kept, tree_good, tree_once, sound_replaced}

-- "there the lowest kind". The list of kinds goes up by their numbers.
same_kind : (j k : Kind) → kind_number j ≡ kind_number k → j ≡ k
same_kind j k e = cc (named_known j, named_known k)

from_one : (k : Kind) → (1 ≤ kind_number k) × (kind_number k ≤ length kinds)
from_one k = named_within (kind_number k) k (named_known k)

-- what is found among the kinds of numbers n to below m
data KindFound (s : ℕ) (t : Tree) (n m : ℕ) : Option Kind → Type 0 where
  kind_found : {k : Kind} → allowed s k t ≡ true → ((j : Kind) → n ≤ kind_number j → kind_number j < kind_number k → allowed s j t ≡ false) → KindFound s t n m (some k)
  no_kind : ((j : Kind) → n ≤ kind_number j → kind_number j < m → allowed s j t ≡ false) → KindFound s t n m none

find_kind : (n : ℕ) (ks : List Kind) → Numbered kind_number n ks → (s : ℕ) (t : Tree) → KindFound s t n (n + length ks) (lowest_kind ks s t)
unfolding lowest_kind
find_kind n [] h s t = no_kind (λ j a b. absurd (omega arith))
find_kind n (k ∷ ks) h s t = go (allowed s k t) refl (lowest_kind ks s t) (find_kind (suc n) ks h.1 s t)
  where
    -- a kind from number n on is k, or from n + 1 on
    also : allowed s k t ≡ false → (j : Kind) → n ≤ kind_number j → (suc n ≤ kind_number j → allowed s j t ≡ false) → Dec (suc n ≤ kind_number j) → allowed s j t ≡ false
    also e j a f (yes b) = f b
    also e j a f (no b) = rw (same_kind j k (omega arith)) e

    go : (b : Bool) → allowed s k t ≡ b → (o : Option Kind) → KindFound s t (suc n) (suc n + length ks) o
        → KindFound s t n (n + suc (length ks)) (elim b [ true ↦ some k | false ↦ o ])
    go true e o f = kind_found e (λ j a b. absurd (omega arith))
    go false e (some i) (kind_found a f) = kind_found a (λ j g i. also e j g (λ b. f j b i) (dec_le (suc n) (kind_number j)))
    go false e none (no_kind f) = no_kind (λ j g i. also e j g (λ b. f j b (omega arith)) (dec_le (suc n) (kind_number j)))

lowest_kind_lem : (s : ℕ) (t : Tree) → KindFound s t 1 (1 + length kinds) (lowest_kind kinds s t)
lowest_kind_lem s t = find_kind 1 kinds kinds_numbered s t

-- "the lowest slot with an allowed kind, and there the lowest kind": s and k, among the slots from a to below e
pub record Lowest (t : Tree) (a e s : ℕ) (k : Kind) : Type 0 where
  pub slot_from : a ≤ s
  pub slot_below_holds : s < e
  pub is_allowed : allowed s k t ≡ true
  pub no_lower_slot : (x : ℕ) (j : Kind) → a ≤ x → x < s → allowed x j t ≡ false
  pub no_lower_kind : (j : Kind) → kind_number j < kind_number k → allowed s j t ≡ false

data StepFound (t : Tree) (a e : ℕ) : Option (ℕ × Kind) → Type 0 where
  step_found : {x : ℕ × Kind} → Lowest t a e x.0 x.1 → StepFound t a e (some x)
  no_step : ((x : ℕ) (j : Kind) → a ≤ x → x < e → allowed x j t ≡ false) → StepFound t a e none

find_step : (n a : ℕ) (t : Tree) → StepFound t a (a + n) (lowest_step n a t)
unfolding lowest_step
find_step zero a t = no_step (λ x j g h. absurd (omega arith))
find_step (suc n) a t = go (lowest_kind kinds a t) (lowest_kind_lem a t) (lowest_step n (suc a) t) (find_step n (suc a) t)
  where
    -- a slot from a on is a, or from a + 1 on
    also : (x : ℕ) (j : Kind) → allowed a j t ≡ false → a ≤ x → (suc a ≤ x → allowed x j t ≡ false) → Dec (suc a ≤ x) → allowed x j t ≡ false
    also x j e g f (yes b) = f b
    also x j e g f (no b) = let here : x ≡ a = omega arith in rw here e

    go : (o : Option Kind) → KindFound a t 1 (1 + length kinds) o → (p : Option (ℕ × Kind)) → StepFound t (suc a) (suc a + n) p
        → StepFound t a (a + suc n) (elim o [ some k ↦ some (a, k) | none ↦ p ])
    go (some k) (kind_found g f) p h = step_found {x = (a, k)} (record {
      slot_from = omega arith;
      slot_below_holds = omega arith;
      is_allowed = g;
      no_lower_slot = λ x j i l. absurd (omega arith);
      no_lower_kind = λ j i. f j (from_one j).0 i;
    })
    go none (no_kind f) (some y) (step_found h) = step_found {x = y} (record {
      slot_from = omega (arith, h.slot_from);
      slot_below_holds = omega (arith, h.slot_below_holds);
      is_allowed = h.is_allowed;
      no_lower_slot = λ x j i l. also x j (f j (from_one j).0 (omega (arith, (from_one j).1))) i (λ m. h.no_lower_slot x j m l) (dec_le (suc a) x);
      no_lower_kind = h.no_lower_kind;
    })
    go none (no_kind f) none (no_step h) =
        no_step (λ x j i l. also x j (f j (from_one j).0 (omega (arith, (from_one j).1))) i (λ m. h x j m (omega arith)) (dec_le (suc a) x))

-- In a pool of c slots
pub lowest_is_allowed : (c s : ℕ) (k : Kind) (t : Tree) → lowest_step c 1 t ≡ some (s, k) → Lowest t 1 (1 + c) s k
lowest_is_allowed c s k t e = go (rw e at (find_step c 1 t))
  where
    go : StepFound t 1 (1 + c) (some (s, k)) → Lowest t 1 (1 + c) s k
    go (step_found h) = h

pub none_allowed : (c : ℕ) (t : Tree) → lowest_step c 1 t ≡ none → (s : ℕ) (k : Kind) → 1 ≤ s → s ≤ c → allowed s k t ≡ false
none_allowed c t e s k a b = go (rw e at (find_step c 1 t))
  where
    go : StepFound t 1 (1 + c) none → allowed s k t ≡ false
    go (no_step f) = f s k a (omega arith)

-- The next tree is the one that this step makes; there is none if no step is allowed.
pub data Next (c : ℕ) (t : Tree) : Option Tree → Type 0 where
  next : {s : ℕ} {k : Kind} → Lowest t 1 (1 + c) s k → Next c t (some (stepped k s t))
  no_next : lowest_step c 1 t ≡ none → Next c t none

pub next_tree_lem : (c : ℕ) (t : Tree) → Next c t (next_tree c t)
unfolding next_tree
next_tree_lem c t = go (lowest_step c 1 t) refl
  where
    go : (o : Option (ℕ × Kind)) → lowest_step c 1 t ≡ o → Next c t (elim o [ some a ↦ some (stepped a.1 a.0 t) | none ↦ none ])
    go (some a) e = next (lowest_is_allowed c a.0 a.1 t e)
    go none e = no_next e

pub no_next_allowed : (c : ℕ) (t : Tree) → next_tree c t ≡ none → (s : ℕ) (k : Kind) → 1 ≤ s → s ≤ c → allowed s k t ≡ false
no_next_allowed c t e = go (rw e at (next_tree_lem c t))
  where
    go : Next c t none → (s : ℕ) (k : Kind) → 1 ≤ s → s ≤ c → allowed s k t ≡ false
    go (no_next f) = none_allowed c t f

-- The list of trees: each is what the lowest allowed step makes of the one before, and the first of t.
pub data Follows (c : ℕ) : Tree → List Tree → Type 0 where
  no_more : {t : Tree} → Follows c t []
  and_then : {t : Tree} {s : ℕ} {k : Kind} {us : List Tree} → Lowest t 1 (1 + c) s k → Follows c (stepped k s t) us → Follows c t (stepped k s t ∷ us)

pub trees_follow : (c budget : ℕ) (t : Tree) → Follows c t (trees_after c budget t)
unfolding trees_after
trees_follow c zero t = no_more
trees_follow c (suc b) t = go (next_tree c t) (next_tree_lem c t) (trees_follow c b)
  where
    go : (o : Option Tree) → Next c t o → ((u : Tree) → Follows c u (trees_after c b u)) → Follows c t (elim o [ some u ↦ u ∷ trees_after c b u | none ↦ [] ])
    go (some u) (next h) f = and_then h (f u)
    go none (no_next e) f = no_more

-- the tree that settle leaves
abbrev pub last_after : (c budget : ℕ) → Tree → Tree
last_after c b t = last_of t (trees_after c b t)

-- "until none is left or the budget is spent"
pub settle_ends : (c budget : ℕ) (t : Tree) → (length (trees_after c budget t) ≡ budget) ⊎ (next_tree c (last_after c budget t) ≡ none)
unfolding trees_after last_of
settle_ends c zero t = inl refl
settle_ends c (suc b) t = go (next_tree c t) refl (settle_ends c b)
  where
    trees : Option Tree → List Tree
    trees o = elim o [ some u ↦ u ∷ trees_after c b u | none ↦ [] ]

    more : (u : Tree) → (length (trees_after c b u) ≡ b) ⊎ (next_tree c (last_after c b u) ≡ none)
        → (length (u ∷ trees_after c b u) ≡ suc b) ⊎ (next_tree c (last_after c b u) ≡ none)
    more u (inl e) = inl (ap suc e)
    more u (inr e) = inr e

    go : (o : Option Tree) → next_tree c t ≡ o → ((u : Tree) → (length (trees_after c b u) ≡ b) ⊎ (next_tree c (last_after c b u) ≡ none))
        → (length (trees o) ≡ suc b) ⊎ (next_tree c (last_of t (trees o)) ≡ none)
    go (some u) e f = more u (f u)
    go none e f = inr e

-- .. and never after more trees than the budget
pub trees_within : (c budget : ℕ) (t : Tree) → length (trees_after c budget t) ≤ budget
unfolding trees_after
trees_within c zero t = omega arith
trees_within c (suc b) t = go (next_tree c t) (trees_within c b)
  where
    go : (o : Option Tree) → ((u : Tree) → length (trees_after c b u) ≤ b) → length {A = Tree} (elim o [ some u ↦ u ∷ trees_after c b u | none ↦ [] ]) ≤ suc b
    go none h = omega arith
    go (some u) h = omega (arith, h u)

-- What every allowed step keeps settle keeps.
kept_along : (P : Tree → Type 0) → ((s : ℕ) (k : Kind) (t : Tree) → P t → allowed s k t ≡ true → P (stepped k s t))
    → {c : ℕ} {t : Tree} {us : List Tree} → Follows c t us → P t → P (last_of t us)
unfolding last_of
kept_along P keep no_more h = h
kept_along P keep (and_then {t} {s} {k} low rest) h = kept_along P keep rest (keep s k t h low.is_allowed)

pub kept_by_settle : (P : Tree → Type 0) → ((s : ℕ) (k : Kind) (t : Tree) → P t → allowed s k t ≡ true → P (stepped k s t))
    → (c budget : ℕ) (t : Tree) → P t → P (last_after c budget t)
kept_by_settle P keep c b t h = kept_along P keep (trees_follow c b t) h

-- What makes an allowed step one of the relation: the weights are right, and no slot stands twice.
pub record Proper (t : Tree) : Type 0 where
  pub chromatic : Chromatic 1 t
  pub once : (s : ℕ) → count s t ≤ 1

pub proper_made : (s : ℕ) (k : Kind) (t : Tree) → Proper t → allowed s k t ≡ true → Made k s t
proper_made s k t h a = made k s t h.chromatic (h.once s) ((allowed_exactly s k t).0 a).0

pub proper_kept : (s : ℕ) (k : Kind) (t : Tree) → Proper t → allowed s k t ≡ true → Proper (stepped k s t)
proper_kept s k t h a =
    let m = (proper_made s k t h a).step in
    record { chromatic = step_chromatic m h.chromatic; once = λ x. rw (step_slots m x) (h.once x) }

-- So settle moves nothing that no step moves.
pub settle_keeps : {A : Type 0} (f : Tree → A) → ((s : ℕ) (k : Kind) (t : Tree) → Made k s t → f (stepped k s t) ≡ f t)
    → (c budget : ℕ) (t : Tree) → Proper t → f (last_after c budget t) ≡ f t
settle_keeps f stays c b t h = (kept_by_settle (λ u. Proper u × (f u ≡ f t)) keep c b t (h, refl)).1
  where
    keep : (s : ℕ) (k : Kind) (u : Tree) → Proper u × (f u ≡ f t) → allowed s k u ≡ true → Proper (stepped k s u) × (f (stepped k s u) ≡ f t)
    keep s k u g a = (proper_kept s k u g.0 a, stays s k u (proper_made s k u g.0 a) ∙ g.1)

module _ (c budget : ℕ) (t : Tree) (h : Proper t) where
  pub settle_inorder : inorder (last_after c budget t) ≡ inorder t
  settle_inorder = settle_keeps inorder (λ s k u m. step_inorder m.step) c budget t h

  pub settle_keys : keys (last_after c budget t) ≡ keys t
  settle_keys = settle_keeps keys (λ s k u m. step_keys m.step) c budget t h

  pub settle_size : size (last_after c budget t) ≡ size t
  settle_size = settle_keeps size (λ s k u m. step_size m.step) c budget t h

  pub settle_slots : (s : ℕ) → count s (last_after c budget t) ≡ count s t
  settle_slots s = settle_keeps (count s) (λ x k u m. step_slots m.step s) c budget t h

pub settle_good : (c budget : ℕ) (t : Tree) → Proper t → Good t → Good (last_after c budget t)
settle_good c b t h g = (kept_by_settle (λ u. Proper u × Good u) keep c b t (h, g)).1
  where
    keep : (s : ℕ) (k : Kind) (u : Tree) → Proper u × Good u → allowed s k u ≡ true → Proper (stepped k s u) × Good (stepped k s u)
    keep s k u i a = (proper_kept s k u i.0 a, good_kept s k u i.1 (i.0.once s) a)

-- Of States. The tree of a sound one is proper.
pub sound_proper : (S : State) (t : Tree) → S.top ≡ full t → Sound S → Proper t
sound_proper S t e h = record { chromatic = (tree_good S t h e).chromatic; once = tree_once S t h e }

-- The answer's number is "steps taken", and its code 0 exactly when no step is left.
module _ (S : State) (t : Tree) (e : S.top ≡ full t) (budget : ℕ) where
  pub settle_after : (settle budget S).after ≡ state S.slots (full (last_after S.slots budget t)) S.free
  unfolding settle
  settle_after = rw (e, settle)

  pub settle_answer_lem : (settle budget S).answer ≡ settled (length (trees_after S.slots budget t)) (next_tree S.slots (last_after S.slots budget t))
  unfolding settle
  settle_answer_lem = rw (e, settle)

  pub settle_number : number_of (settle budget S).answer ≡ length (trees_after S.slots budget t)
  unfolding settled
  settle_number = rw settle_answer_lem (go (next_tree S.slots (last_after S.slots budget t)))
    where
      go : (o : Option Tree) → number_of (settled (length (trees_after S.slots budget t)) o) ≡ length (trees_after S.slots budget t)
      go (some u) = refl
      go none = refl

  pub settle_code : (code_of (settle budget S).answer ≡ 0) ↔ (next_tree S.slots (last_after S.slots budget t) ≡ none)
  unfolding settled
  settle_code = rw settle_answer_lem (go (next_tree S.slots (last_after S.slots budget t)))
    where
      go : (o : Option Tree) → (code_of (settled (length (trees_after S.slots budget t)) o) ≡ 0) ↔ (o ≡ none)
      go (some u) = (λ i. absurd (omega arith), λ i. absurd (some-ne-none u i))
      go none = (λ i. refl, λ i. refl)

  settle_sound_full : Sound S → Sound (settle budget S).after
  settle_sound_full h =
      let p = sound_proper S t e h in
      rw settle_after (sound_replaced S t h e _ (settle_slots S.slots budget t p) (settle_good S.slots budget t p (tree_good S t h e)))

-- "settle 0 gives 0 0": of an empty tree there is nothing to settle.
pub settle_empty : (S : State) → S.top ≡ empty → (budget : ℕ) → settle budget S ≡ gives (Done 0) S
unfolding settle
settle_empty S e b = rw (e, settle) (ap (λ T. gives (Done 0) (state S.slots T S.free)) e)

pub settle_sound_state : (S : State) (budget : ℕ) → Sound S → Sound (settle budget S).after
settle_sound_state S b h = go S.top refl
  where
    go : (T : Top) → S.top ≡ T → Sound (settle b S).after
    go empty e = rw (settle_empty S e b) h
    go (full t) e = settle_sound_full S t e b h
