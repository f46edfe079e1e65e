-- What a command answers, by 01's table: its code is the lowest whose cause is there, and 0 where none is (`answered`); and since no two
-- codes are lowest (`first_once`), it is n exactly when n is that (`code_exactly`). Its number is the table's, of which there is one
-- (`numbered_once`). One table of cases, by the operation, of what crate tree says that each answers. Assumes nothing.
use mathlib.Core.Option.{none, some}
use mathlib.Core.Path.{◌≡◌, refl, ap, sym, ◌∙◌}
use mathlib.Core.Logic.{◌↔◌, ◌≢◌, ◌⊎◌, inl, inr}
use mathlib.Core.Bool.{Bool, true, false, not, false≢true}
use lib.Dec.{eqb, ltb}
use lib.ListN.{length}
use borrow.Author.Tests.{eqb-true, eqb-false, eq-eqb, ltb-true, ltb-false, not-false}
use native.Mathlib.Decide.{dec_lt, ℕ_discrete}
use native.Mathlib.Omega.{arith}
use Prim.Native.Nat.{ℕ, ◌≤◌, ◌<◌}
use Rattle.tree.specs.declared.Kind.{Kind}
use Rattle.tree.specs.declared.Kind.TheVariants.{Blacken, SingleLeft, SingleRight, DoubleLeft, DoubleRight, Lighten, LightenLeft, LightenRight}
use mathlib.Core.Option.{none, some}
use Rattle.tree.specs.declared.Answer.{Answer}
use Rattle.tree.specs.Codes.{most_level, kind_number, named, code_of, number_of}
use Rattle.tree.specs.Tree.{Tree, slot_of, count_in, level, LeafIn}
use Rattle.tree.specs.Kinds.{condition_at, at_limit}
use Rattle.tree.specs.State.{State, Top, empty, full, Sound, Outcome, gives, key_end, count_top, leaf_at, no_inner}
use Rattle.tree.specs.Settle.{trees_after, settle}
use Rattle.tree.specs.Spans.{next_from, count_span, delete_span}
use Rattle.tree.proofs.KindNumbers.{named_known, named_number, named_within, not_unknown}
use Rattle.tree.proofs.Tests.{two_true}
use Rattle.tree.proofs.Search.{leaf_tested, tested_leaf, leaf_reached}
use Rattle.tree.proofs.SoundStates.{tree_good}
use Rattle.tree.proofs.Updated.{SearchSays, found, missing, search_says, InsertSays, present, no_room, added, insert_says, DeleteSays, absent, removed, delete_says}
use Rattle.tree.proofs.Spans.{NextSays, next, none_above as none-at-or-above, next_says}
use Rattle.tree.proofs.SpanStates.{span_held}
use Rattle.tree.proofs.StepState.{four_false, allowed_exactly, in_empty, no_inner_case, no_kind, condition_false as step-condition-false, at_limit_case as step-at-limit, StepCase, refused, taken, stepping}
use Rattle.tree.proofs.Settling.{settle_number, settle_empty, settle_sound_state}
use Rattle.tree.proofs.Demand3.{BalancedState, SomeAccepted, some_accepted_is, some_accepted, none_accepted, settle_code_0}
use Rattle.tree.proofs.SettleAnswers.{Ended, ended_done, ended_spent, settle_ended}
use Rattle.encoding.specs.declared.Operation.{Operation}
use Rattle.encoding.specs.declared.Operation.TheVariants.{Search, Insert, Delete, Step, Settle, AtOrAbove, Count, DeleteSpan}
use Rattle.encoding.specs.Batch.{operation}
use Rattle.encoding.specs.Causes.{steps_taken, Cause, key_present, search_absent, delete_absent, none_above, room_lacking, slot_0, slot_above, slot_free, slot_leaf, kind_0, kind_above, condition_false, at_limit_case, still_allowed, FirstCause, no_cause, first_cause, Numbered, leaf_slot_case, new_slot_case, keys_left, the_kind, steps_done, smallest, keys_counted, keys_gone, steps_spent, refused_none}

-- what a command answers on S, by the table
pub record Tabled (a b : ℕ) (S : State) (o : Operation) (out : Outcome) : Type 0 where
  pub code_is : FirstCause a b S o (code_of out.answer)
  pub number_is : Numbered a b S out.after o (code_of out.answer) (number_of out.answer)

-- the lowest of an operation's codes
abbrev pub lowest_of : Operation → ℕ
lowest_of Search = 6
lowest_of Insert = 5
lowest_of Delete = 6
lowest_of Step = 8
lowest_of Settle = 12
lowest_of AtOrAbove = 6
-- of these none is refused
lowest_of Count = 13
lowest_of DeleteSpan = 13

pub from_lowest : {a b m : ℕ} {S : State} {o : Operation} → Cause a b S o m → lowest_of o ≤ m
from_lowest (key_present z) = omega arith
from_lowest (search_absent z) = omega arith
from_lowest (delete_absent z) = omega arith
from_lowest (none_above z) = omega arith
from_lowest (room_lacking z) = omega arith
from_lowest (slot_0 z) = omega arith
from_lowest (slot_above z) = omega arith
from_lowest (slot_free z) = omega arith
from_lowest (slot_leaf e z) = omega arith
from_lowest (kind_0 z) = omega arith
from_lowest (kind_above z) = omega arith
from_lowest (condition_false k e f z) = omega arith
from_lowest (at_limit_case e f g z) = omega arith
from_lowest (still_allowed s n e f) = omega arith

-- a step's cause is one of 8, 9, 10 and 11
each_step : {A : Type 0} {a b m : ℕ} {S : State} → Cause a b S Step m → (Cause a b S Step 8 → m ≡ 8 → A) → (Cause a b S Step 9 → m ≡ 9 → A)
    → (Cause a b S Step 10 → m ≡ 10 → A) → (Cause a b S Step 11 → m ≡ 11 → A) → A
each_step (slot_0 z) f g h i = f (slot_0 z) refl
each_step (slot_above z) f g h i = f (slot_above z) refl
each_step (slot_free z) f g h i = f (slot_free z) refl
each_step (slot_leaf e z) f g h i = f (slot_leaf e z) refl
each_step (kind_0 z) f g h i = g (kind_0 z) refl
each_step (kind_above z) f g h i = g (kind_above z) refl
each_step (condition_false k e f z) u v h i = h (condition_false k e f z) refl
each_step (at_limit_case e f g z) u v h i = i (at_limit_case e f g z) refl

module _ (a b : ℕ) (S : State) (sound : Sound S) where
  -- Search, insert, delete
  search_tabled : {o : Outcome} → SearchSays a S o → Tabled a b S Search o
  search_tabled (found i e f) = record { code_is = no_cause none_there; number_is = leaf_slot_case e f }
    where
      none_there : (m : ℕ) → Cause a b S Search m → ⊥
      none_there m (search_absent z) = omega arith
  search_tabled (missing i) = record { code_is = first_cause (search_absent i) (λ m h c. omega (arith, from_lowest c)); number_is = refused_none {n = 6} (omega arith) (omega arith) }

  insert_tabled : {o : Outcome} → InsertSays a S o → Tabled a b S Insert o
  insert_tabled (present i) = record { code_is = first_cause (key_present i) (λ m h c. omega (arith, from_lowest c)); number_is = refused_none {n = 5} (omega arith) (omega arith) }
  insert_tabled (no_room i h) = record { code_is = first_cause (room_lacking h) lower; number_is = refused_none {n = 7} (omega arith) (omega arith) }
    where
      lower : (m : ℕ) → m < 7 → Cause a b S Insert m → ⊥
      lower m l (key_present z) = omega arith
      lower m l (room_lacking z) = omega arith
  insert_tabled (added i h k f) = record { code_is = no_cause none_there; number_is = new_slot_case refl f }
    where
      none_there : (m : ℕ) → Cause a b S Insert m → ⊥
      none_there m (key_present z) = omega arith
      none_there m (room_lacking z) = omega arith

  delete_tabled : {o : Outcome} → DeleteSays a S o → Tabled a b S Delete o
  delete_tabled (absent i) = record { code_is = first_cause (delete_absent i) (λ m h c. omega (arith, from_lowest c)); number_is = refused_none {n = 6} (omega arith) (omega arith) }
  delete_tabled (removed i n k) = record { code_is = no_cause none_there; number_is = keys_left n }
    where
      none_there : (m : ℕ) → Cause a b S Delete m → ⊥
      none_there m (delete_absent z) = omega arith

  -- Step: 8, by its four causes ..
  free_in_empty : S.top ≡ empty → Cause a b S Step 8
  unfolding count_top
  free_in_empty e = elim (ℕ_discrete a 0) [
    | yes z ↦ slot_0 z
    | no z ↦ elim (dec_lt S.slots a) [
      | yes l ↦ slot_above l
      | no l ↦
          let once = sound.once a (omega arith) (omega arith) in
          let empty-none : count_top a S.top ≡ 0 = rw e in
          slot_free (omega arith)
    ]
  ]

  which_no_inner : (t : Tree) → S.top ≡ full t → no_inner a S t ≡ true → Cause a b S Step 8
  unfolding no_inner leaf_at
  which_no_inner t e f = go (eqb a 0) refl (ltb S.slots a) refl (eqb (count_in a S.free) 0) refl (leaf_at a t) refl
    where
      go : (x : Bool) → eqb a 0 ≡ x → (y : Bool) → ltb S.slots a ≡ y → (z : Bool) → eqb (count_in a S.free) 0 ≡ z → (w : Bool) → leaf_at a t ≡ w → Cause a b S Step 8
      go true p y q z r w s = slot_0 (eqb-true _ _ p)
      go false p true q z r w s = slot_above (ltb-true _ _ q)
      go false p false q false r w s = let n : count_in a S.free ≢ 0 = eqb-false _ _ r in slot_free (omega arith)
      go false p false q true r true s = let n = tested_leaf a 1 t s in slot_leaf e n.1
      go false p false q true r false s = absurd (false≢true (sym (rw (p, q, r, s)) ∙ f))

  -- .. none of which is there at an inner node
  no_8 : (t : Tree) → S.top ≡ full t → no_inner a S t ≡ false → Cause a b S Step 8 → ⊥
  unfolding no_inner leaf_at
  no_8 t e f c = go (four_false (eqb a 0) (ltb S.slots a) (not (eqb (count_in a S.free) 0)) (leaf_at a t) f) c
    where
      go : (eqb a 0 ≡ false) × (ltb S.slots a ≡ false) × (not (eqb (count_in a S.free) 0) ≡ false) × (leaf_at a t ≡ false) → Cause a b S Step 8 → ⊥
      go g (slot_0 z) = eqb-false a 0 g.0 z
      go g (slot_above z) = omega (arith, ltb-false S.slots a g.1)
      go g (slot_free z) = omega (arith, eqb-true (count_in a S.free) 0 (not-false _ g.2))
      go g (slot_leaf {t = u} h z) = let same : u ≡ t = cc in let l = leaf_tested 1 (rw same at z) in false≢true (sym g.3 ∙ l)

  one_kind : (j k : Kind) → kind_number j ≡ kind_number k → j ≡ k
  one_kind j k e = let x = named_known j in let y = named_known k in cc

  module _ (t : Tree) (e0 : S.top ≡ full t) (f : no_inner a S t ≡ false) (k : Kind) (g : named b ≡ some k) where
    number : b ≡ kind_number k
    number = named_number b k g

    no_9 : Cause a b S Step 9 → ⊥
    no_9 (kind_0 z) = omega (arith, named_within b k g)
    no_9 (kind_above z) = omega (arith, named_within b k g)

    no_10 : condition_at k a t ≡ true → Cause a b S Step 10 → ⊥
    no_10 c (condition_false {t = u} j h i z) =
        let same : u ≡ t = cc in
        let kind : j ≡ k = one_kind j k (sym i ∙ number) in
        false≢true (sym z ∙ rw (same, kind) c)

    no_11 : at_limit k a t ≡ false → Cause a b S Step 11 → ⊥
    unfolding at_limit
    no_11 l (at_limit_case {t = u} h i j z) =
        let same : u ≡ t = cc in
        let kind : k ≡ Blacken = one_kind k Blacken (sym number ∙ i) in
        let s : a ≡ slot_of t = j ∙ ap slot_of same in
        let v : level t ≡ most_level = rw same at z in
        let limit : at_limit Blacken a t ≡ true = rw (eq-eqb _ _ s, eq-eqb _ _ v) in
        false≢true (sym l ∙ rw kind limit)

    none_to_9 : (m : ℕ) → m < 10 → Cause a b S Step m → ⊥
    none_to_9 m l x = each_step x (λ c e. no_8 t e0 f c) (λ c e. no_9 c) (λ c e. omega arith) (λ c e. omega arith)

    none_to_10 : condition_at k a t ≡ true → (m : ℕ) → m < 11 → Cause a b S Step m → ⊥
    none_to_10 h m l x = each_step x (λ c e. no_8 t e0 f c) (λ c e. no_9 c) (λ c e. no_10 h c) (λ c e. omega arith)

    none_at_all : condition_at k a t ≡ true → at_limit k a t ≡ false → (m : ℕ) → Cause a b S Step m → ⊥
    none_at_all h i m x = each_step x (λ c e. no_8 t e0 f c) (λ c e. no_9 c) (λ c e. no_10 h c) (λ c e. no_11 i c)

    limit_is : at_limit k a t ≡ true → Cause a b S Step 11
    unfolding at_limit
    limit_is = go k number
      where
        go : (j : Kind) → b ≡ kind_number j → at_limit j a t ≡ true → Cause a b S Step 11
        go Blacken n l = let x = two_true (eqb a (slot_of t)) (eqb (level t) most_level) l in at_limit_case e0 n (eqb-true _ _ x.0) (eqb-true _ _ x.1)
        go SingleLeft n l = absurd (false≢true l)
        go SingleRight n l = absurd (false≢true l)
        go DoubleLeft n l = absurd (false≢true l)
        go DoubleRight n l = absurd (false≢true l)
        go Lighten n l = absurd (false≢true l)
        go LightenLeft n l = absurd (false≢true l)
        go LightenRight n l = absurd (false≢true l)

  unknown_is : named b ≡ none → Cause a b S Step 9
  unknown_is g = elim (ℕ_discrete b 0) [
    | yes z ↦ kind_0 z
    | no z ↦ elim (dec_lt 8 b) [ yes l ↦ kind_above l | no l ↦ absurd (not_unknown b (omega arith) (omega arith) g) ]
  ]

  no_8_below : (t : Tree) → S.top ≡ full t → no_inner a S t ≡ false → (m : ℕ) → m < 9 → Cause a b S Step m → ⊥
  no_8_below t e f m l c = let eight : m ≡ 8 = omega (arith, from_lowest c) in no_8 t e f (rw eight at c)

  step_tabled : {o : Outcome} → StepCase a b S o → Tabled a b S Step o
  step_tabled (refused (in_empty e)) =
      record { code_is = first_cause (free_in_empty e) (λ m l c. omega (arith, from_lowest c)); number_is = refused_none {n = 8} (omega arith) (omega arith) }
  step_tabled (refused (no_inner_case {t} e f)) =
      record { code_is = first_cause (which_no_inner t e f) (λ m l c. omega (arith, from_lowest c)); number_is = refused_none {n = 8} (omega arith) (omega arith) }
  step_tabled (refused (no_kind {t} e f g)) = record { code_is = first_cause (unknown_is g) (no_8_below t e f); number_is = refused_none {n = 9} (omega arith) (omega arith) }
  step_tabled (refused (step-condition-false {t} {k} e f g c)) = record {
    code_is = first_cause (condition_false k e (named_number b k g) c) (none_to_9 t e f k g);
    number_is = refused_none {n = 10} (omega arith) (omega arith);
  }
  step_tabled (refused (step-at-limit {t} {k} e f g c l)) = record {
    code_is = first_cause (limit_is t e f k g l) (none_to_10 t e f k g c);
    number_is = refused_none {n = 11} (omega arith) (omega arith);
  }
  step_tabled (taken {t} {k} e f g d) =
      let x = (allowed_exactly a k t).0 d in
      record { code_is = no_cause (none_at_all t e f k g x.0 x.1); number_is = the_kind (sym (named_number b k g)) }

  -- Settle
  taken_number : number_of (settle a S).answer ≡ steps_taken a S
  unfolding steps_taken
  taken_number = go S.top refl
    where
      go : (T : Top) → S.top ≡ T → number_of (settle a S).answer ≡ steps_taken a S
      go empty e = rw (settle_empty S e a, e, steps_taken)
      go (full t) e = let n : steps_taken a S ≡ length (trees_after S.slots a t) = rw (e, steps_taken) in settle_number S t e a ∙ sym n

  settle_tabled : {x : Answer} → Ended a x → (settle a S).answer ≡ x → Tabled a b S Settle (settle a S)
  settle_tabled (ended_done {n}) e = record { code_is = rw e (no_cause none_there); number_is = rw e (steps_done (sym (ap number_of e) ∙ taken_number)) }
    where
      balanced : BalancedState (settle a S).after
      balanced = (settle_code_0 S a sound).0 (ap code_of e)

      none_there : (m : ℕ) → Cause a b S Settle m → ⊥
      none_there m (still_allowed s n f d) = none_accepted (settle a S).after (settle_sound_state S a sound) balanced s n n d
  settle_tabled ended_spent e = record {
    code_is = rw e (first_cause (go (some_accepted (settle a S).after (settle_sound_state S a sound))) (λ m l c. omega (arith, from_lowest c)));
    number_is = rw e (steps_spent (sym (ap number_of e) ∙ taken_number));
  }
    where
      go : BalancedState (settle a S).after ⊎ SomeAccepted (settle a S).after → Cause a b S Settle 12
      go (inl d) = absurd (omega (arith, (settle_code_0 S a sound).1 d, ap code_of e))
      go (inr (some_accepted_is s k d)) = still_allowed s (kind_number k) (sym taken_number ∙ ap number_of e) d

  -- 02 (vii)
  next_tabled : {x : Answer} → NextSays a S x → Tabled a b S AtOrAbove (gives x S)
  next_tabled (next {k} l e i f) = record { code_is = no_cause none_there; number_is = smallest l i f }
    where
      none_there : (m : ℕ) → Cause a b S AtOrAbove m → ⊥
      none_there m (none_above z) = omega (arith, z k l)
  next_tabled (none-at-or-above f) = record {
    code_is = first_cause (none_above f) (λ m h c. omega (arith, from_lowest c));
    number_is = refused_none {n = 6} (omega arith) (omega arith);
  }

  count_tabled : Tabled a b S Count (count_span a b S)
  unfolding count_span
  count_tabled = record { code_is = no_cause none_there; number_is = keys_counted refl }
    where
      none_there : (m : ℕ) → Cause a b S Count m → ⊥
      none_there m c = elim c [ ]

  span_tabled : Tabled a b S DeleteSpan (delete_span a b S)
  unfolding delete_span
  span_tabled = record { code_is = no_cause none_there; number_is = keys_gone refl (span_held a b S sound) }
    where
      none_there : (m : ℕ) → Cause a b S DeleteSpan m → ⊥
      none_there m c = elim c [ ]

  pub answered : (o : Operation) → Tabled a b S o (operation o a b S)
  unfolding operation next_from
  answered Search = search_tabled (search_says a S sound)
  answered Insert = insert_tabled (insert_says a S sound)
  answered Delete = delete_tabled (delete_says a S sound)
  answered Step = step_tabled (stepping a b S)
  answered Settle = settle_tabled (settle_ended S a) refl
  answered AtOrAbove = next_tabled (next_says a S sound)
  answered Count = count_tabled
  answered DeleteSpan = span_tabled

-- No two codes are the lowest.
pub first_once : {a b m n : ℕ} {S : State} {o : Operation} → FirstCause a b S o m → FirstCause a b S o n → m ≡ n
first_once (no_cause f) (no_cause g) = refl
first_once (no_cause f) (first_cause {n = n} c h) = absurd (f n c)
first_once (first_cause {n = m} c h) (no_cause g) = absurd (g m c)
first_once (first_cause {n = m} c f) (first_cause {n = n} d g) = elim (dec_lt m n) [
  | yes l ↦ absurd (g m l c)
  | no l ↦ elim (dec_lt n m) [ yes k ↦ absurd (f n k d) | no k ↦ omega arith ]
]

-- The code is n exactly when n's cause is the first there.
pub code_exactly : (o : Operation) (a b : ℕ) (S : State) → Sound S → (n : ℕ) → (code_of (operation o a b S).answer ≡ n) ↔ FirstCause a b S o n
code_exactly o a b S sound n = let t = answered a b S sound o in (λ e. rw e at t.code_is, λ c. first_once t.code_is c)

-- The table gives one number: a key of a tree in order has one slot.
one_slot : {s u x : ℕ} {S : State} {t v : Tree} → Sound S → S.top ≡ full t → LeafIn s x t → S.top ≡ full v → LeafIn u x v → s ≡ u
one_slot {s} {u} {x} {S} {t} {v} g e f h i =
    let same : v ≡ t = cc in
    let o = (tree_good S t g e).ordered in
    let p = leaf_reached 0 key_end o f in
    let q = leaf_reached 0 key_end o (rw same at i) in
    ap (λ (w : ℕ × ℕ). w.0) (sym p ∙ q)

pub numbered_once : {a b n x y : ℕ} {S T : State} {o : Operation} → Sound S → Sound T → Numbered a b S T o n x → Numbered a b S T o n y → x ≡ y
numbered_once g h (leaf_slot_case e f) (leaf_slot_case i j) = one_slot g e f i j
numbered_once g h (new_slot_case e f) (new_slot_case i j) = one_slot h e f i j
numbered_once g h (keys_left e) (keys_left f) = e ∙ sym f
numbered_once g h (the_kind e) (the_kind f) = e ∙ sym f
numbered_once g h (steps_done e) (steps_done f) = e ∙ sym f
numbered_once g h (smallest {k} l i f) (smallest {k = j} m n o) = elim (dec_lt k j) [
  | yes b ↦ absurd (omega (arith, o k l b))
  | no b ↦ elim (dec_lt j k) [ yes c ↦ absurd (omega (arith, f j m c)) | no c ↦ omega arith ]
]
numbered_once g h (keys_counted e) (keys_counted f) = e ∙ sym f
numbered_once g h (keys_gone e i) (keys_gone f j) = e ∙ sym f
numbered_once g h (steps_spent e) (steps_spent f) = e ∙ sym f
numbered_once g h (refused_none l k) (refused_none i j) = refl
numbered_once g h (refused_none l k) (leaf_slot_case i j) = absurd (omega arith)
numbered_once g h (refused_none l k) (new_slot_case i j) = absurd (omega arith)
numbered_once g h (refused_none l k) (keys_left i) = absurd (omega arith)
numbered_once g h (refused_none l k) (the_kind i) = absurd (omega arith)
numbered_once g h (refused_none l k) (steps_done i) = absurd (omega arith)
numbered_once g h (refused_none l k) (smallest i j f) = absurd (omega arith)
numbered_once g h (refused_none l k) (keys_counted i) = absurd (omega arith)
numbered_once g h (refused_none l k) (keys_gone i j) = absurd (omega arith)
numbered_once g h (refused_none l k) (steps_spent i) = absurd (omega arith)
numbered_once g h (leaf_slot_case i j) (refused_none l k) = absurd (omega arith)
numbered_once g h (new_slot_case i j) (refused_none l k) = absurd (omega arith)
numbered_once g h (keys_left i) (refused_none l k) = absurd (omega arith)
numbered_once g h (the_kind i) (refused_none l k) = absurd (omega arith)
numbered_once g h (steps_done i) (refused_none l k) = absurd (omega arith)
numbered_once g h (smallest i j f) (refused_none l k) = absurd (omega arith)
numbered_once g h (keys_counted i) (refused_none l k) = absurd (omega arith)
numbered_once g h (keys_gone i j) (refused_none l k) = absurd (omega arith)
numbered_once g h (steps_spent i) (refused_none l k) = absurd (omega arith)
