-- Settle without scanning again. If every slot that allows a step is awake, the search for the lowest allowed step may pass over the slots
-- that are asleep (`awake_lowest`, `lowest_awake`, `none_awake`); and after a step it is enough to wake besides the slots of `woken`
-- (`covers_kept`), of which the parent and the grandparent are found by a descent with the router at the step's slot
-- (`covers_way`). So settle need not look at the whole pool again for each step.
-- Why: Near.antt, and for the descent Ways.antt. The step's own slot was awake already. Assumes nothing.
use mathlib.Core.Path.{◌≡◌, refl, sym, ap, ◌∙◌}
use mathlib.Core.Logic.{◌⊎◌, inl, inr, ⊎_elim}
use mathlib.Core.Bool.{Bool, true, false, false≢true}
use mathlib.Core.List.{List, [], ◌∷◌, ◌++◌}
use mathlib.Core.Option.{Option, none, some}
use native.Mathlib.Decide.{dec_lt}
use native.Mathlib.Omega.{arith}
use Prim.Native.Nat.{ℕ, zero, suc, ◌+◌, ◌≤◌, ◌<◌}
use Rattle.tree.specs.declared.Kind.{Kind}
use Rattle.tree.specs.declared.Kind.TheVariants.{Blacken, SingleLeft, SingleRight, DoubleLeft, DoubleRight, Lighten, LightenLeft, LightenRight}
use Rattle.tree.specs.Codes.{kinds, kind_number}
use Rattle.tree.specs.Tree.{Tree, node, slot_of, Ordered}
use Rattle.tree.specs.Kinds.{effect, stepped}
use Rattle.tree.specs.Settle.{allowed, lowest_kind, lowest_step}
use Rattle.tree.specs.Sights.{parent_sees, grand_sees}
use Rattle.tree.proofs.KindNumbers.{named_known}
use Rattle.tree.proofs.Tests.{same_or_not}
use Rattle.tree.proofs.Order.{All}
use Rattle.tree.proofs.Steps.{At}
use Rattle.tree.proofs.StepState.{allowed_exactly}
use Rattle.tree.proofs.Settling.{Lowest, lowest_is_allowed, none_allowed, Proper}
use Rattle.tree.proofs.Ways.{HangsIn, key_of, way, way_exact}
use Rattle.tree.proofs.Sight.{Far, above, all_above}
use Rattle.tree.proofs.Near.{left_slot, right_slot, touched, wakened, woken, wakes_only}

-- Every slot at which a step is allowed is awake; M says which slots are. (No slot is 0.)
abbrev pub Covers : (ℕ → Type 0) → Tree → Type 0
Covers M t = (x : ℕ) (j : Kind) → 1 ≤ x → allowed x j t ≡ true → M x

-- all of these slots are awake
abbrev pub AllAwake : (ℕ → Type 0) → List ℕ → Type 0
AllAwake M ns = All (λ n. 1 ≤ n → M n) ns

pub awake_or_far : (M : ℕ → Type 0) (x : ℕ) (ns : List ℕ) → 1 ≤ x → AllAwake M ns → M x ⊎ Far x ns
unfolding All
awake_or_far M x [] i m = inr tt
awake_or_far M x (n ∷ ns) i m = same_or_not x n
    (λ e. inl (rw e (m.0 (rw e at i))))
    (λ d. ⊎_elim (λ y. inl y) (λ f. inr (d, f)) (awake_or_far M x ns i m.1))

-- A slot may fall asleep where no step is allowed.
pub covers_fewer : (M M' : ℕ → Type 0) (t : Tree) → ((x : ℕ) (j : Kind) → M x → allowed x j t ≡ true → M' x) → Covers M t → Covers M' t
covers_fewer M M' t keep cover x j i a = keep x j (cover x j i a) a

-- After a step, with the slots awake that it can wake, every slot that allows a step is awake.
pub covers_kept : (k : Kind) {s w g p : ℕ} {u t : Tree} → Proper t → HangsIn s w u g p t → allowed s k t ≡ true
    → (M M' : ℕ → Type 0) → ((x : ℕ) → M x → M' x) → AllAwake M' (woken k w u g p) → Covers M t → Covers M' (stepped k s t)
covers_kept k {s} {w} {g} {p} {u} {t} proper hangs a M M' grow awake cover x j i e = same_or_not x s
    (λ d. grow x (rw d (cover s k (rw d at i) a)))
    (λ n. ⊎_elim (λ y. y)
    (λ f. grow x (cover x j i (wakes_only k proper hangs ((allowed_exactly s k t).0 a).0 x n f j e)))
    (awake_or_far M' x (woken k w u g p) i awake))

-- the same, with the parent and the grandparent that the descent finds
pub covers_way : (k : Kind) (lo hi : ℕ) {s w : ℕ} {u t : Tree} → Proper t → Ordered lo hi t → At s w u 1 t → allowed s k t ≡ true
    → (M M' : ℕ → Type 0) → ((x : ℕ) → M x → M' x) → AllAwake M' (woken k w u (way (key_of u) s t).0 (way (key_of u) s t).1)
    → Covers M t → Covers M' (stepped k s t)
covers_way k lo hi {s} proper o h a = covers_kept k proper (way_exact lo hi o (proper.once s) h) a

-- Of the slots above, the two tests on the weights say which have to be awake;
awake_append : (M : ℕ → Type 0) (ms ns : List ℕ) → AllAwake M ms → AllAwake M ns → AllAwake M (ms ++ ns)
unfolding All
awake_append M [] ns f g = g
awake_append M (m ∷ ms) ns f g = (f.0, awake_append M ms ns f.1 g)

pub awake_above : (M : ℕ → Type 0) (w q g p : ℕ) → (parent_sees w q ≡ true → 1 ≤ p → M p) → (grand_sees w q ≡ true → 1 ≤ g → M g) → AllAwake M (above w q g p)
awake_above M w q g p f h = all_above (λ n. 1 ≤ n → M n) w q g p f h

pub awake_woken : (M : ℕ → Type 0) (k : Kind) (w : ℕ) (u : Tree) (g p : ℕ) → AllAwake M (wakened k u)
    → (parent_sees w (effect k w u).0 ≡ true → 1 ≤ p → M p) → (grand_sees w (effect k w u).0 ≡ true → 1 ≤ g → M g) → AllAwake M (woken k w u g p)
unfolding woken
awake_woken M k w u g p below f h = awake_append M (wakened k u) _ below (awake_above M w (effect k w u).0 g p f h)

-- and whatever the kind, it is enough to wake the children of s, its middle grandchildren, its parent and its grandparent.
awake_below : (M : ℕ → Type 0) (k : Kind) (v i wl wr : ℕ) (l r : Tree) → (1 ≤ slot_of l → M (slot_of l)) → (1 ≤ slot_of r → M (slot_of r))
    → (1 ≤ right_slot l → M (right_slot l)) → (1 ≤ left_slot r → M (left_slot r)) → AllAwake M (wakened k (node v i wl l wr r))
unfolding wakened touched All
awake_below M Blacken v i wl wr l r a b c d = (a, (b, tt))
awake_below M SingleLeft v i wl wr l r a b c d = (a, tt)
awake_below M SingleRight v i wl wr l r a b c d = (b, tt)
awake_below M DoubleLeft v i wl wr l r a b c d = (a, (c, tt))
awake_below M DoubleRight v i wl wr l r a b c d = (b, (d, tt))
awake_below M Lighten v i wl wr l r a b c d = tt
awake_below M LightenLeft v i wl wr l r a b c d = (b, tt)
awake_below M LightenRight v i wl wr l r a b c d = (a, tt)

pub awake_around : (M : ℕ → Type 0) (k : Kind) (w v i wl wr g p : ℕ) (l r : Tree)
    → AllAwake M (slot_of l ∷ slot_of r ∷ right_slot l ∷ left_slot r ∷ p ∷ g ∷ []) → AllAwake M (woken k w (node v i wl l wr r) g p)
unfolding All
awake_around M k w v i wl wr g p l r m =
    awake_woken M k w (node v i wl l wr r) g p (awake_below M k v i wl wr l r m.0 m.1.0 m.1.1.0 m.1.1.1.0)
    (λ e. m.1.1.1.1.0) (λ e. m.1.1.1.1.1.0)

-- The lowest allowed step is what the definition answers.
pub lowest_is : (c s : ℕ) (k : Kind) (t : Tree) → Lowest t 1 (1 + c) s k → lowest_step c 1 t ≡ some (s, k)
lowest_is c s k t h = go (lowest_step c 1 t) refl
  where
    -- not allowed below, and allowed
    never : {A : Type 0} {b : Bool} → b ≡ false → b ≡ true → A
    never e f = absurd (false≢true (sym e ∙ f))

    kind : (i : Kind) → Lowest t 1 (1 + c) s i → Dec (kind_number i < kind_number k) → Dec (kind_number k < kind_number i) → i ≡ k
    kind i g (yes a) d = never (h.no_lower_kind i a) g.is_allowed
    kind i g (no a) (yes b) = never (g.no_lower_kind k b) h.is_allowed
    kind i g (no a) (no b) = let e : kind_number i ≡ kind_number k = omega arith in cc (named_known i, named_known k)

    slot : (x : ℕ) (i : Kind) → Lowest t 1 (1 + c) x i → Dec (x < s) → Dec (s < x) → x ≡ s
    slot x i g (yes a) d = never (h.no_lower_slot x i g.slot_from a) g.is_allowed
    slot x i g (no a) (yes b) = never (g.no_lower_slot s k h.slot_from b) h.is_allowed
    slot x i g (no a) (no b) = omega arith

    go : (o : Option (ℕ × Kind)) → lowest_step c 1 t ≡ o → o ≡ some (s, k)
    go (some a) e =
        let g = lowest_is_allowed c a.0 a.1 t e in
        let x = slot a.0 a.1 g (dec_lt a.0 s) (dec_lt s a.0) in
        let y = kind a.1 (rw x at g) (dec_lt (kind_number a.1) (kind_number k)) (dec_lt (kind_number k) (kind_number a.1)) in
        ap (λ n. some (n, a.1)) x ∙ ap (λ i. some (s, i)) y
    go none e = never (none_allowed c t e s k h.slot_from (omega (arith, h.slot_below_holds))) h.is_allowed

-- Where every slot that allows a step is awake, the lowest awake slot that allows one, and there the lowest kind, is it;
module _ (M : ℕ → Type 0) (t : Tree) (cover : Covers M t) where
  asleep : (x : ℕ) (j : Kind) → 1 ≤ x → (M x → allowed x j t ≡ false) → allowed x j t ≡ false
  asleep x j i f = go (allowed x j t) refl
    where
      go : (b : Bool) → allowed x j t ≡ b → b ≡ false
      go true e = sym e ∙ f (cover x j i e)
      go false e = refl

  pub lowest_awake : (c s : ℕ) (k : Kind) → 1 ≤ s → s ≤ c → allowed s k t ≡ true
      → ((x : ℕ) (j : Kind) → 1 ≤ x → x < s → M x → allowed x j t ≡ false)
      → ((j : Kind) → kind_number j < kind_number k → allowed s j t ≡ false) → lowest_step c 1 t ≡ some (s, k)
  lowest_awake c s k i l a slots lower = lowest_is c s k t (record {
    slot_from = i;
    slot_below_holds = omega arith;
    is_allowed = a;
    no_lower_slot = λ x j g b. asleep x j g (slots x j g b);
    no_lower_kind = lower;
  })

  -- and if no awake slot allows one, there is none.
  pub none_awake : (c : ℕ) → ((x : ℕ) (j : Kind) → 1 ≤ x → x ≤ c → M x → allowed x j t ≡ false) → lowest_step c 1 t ≡ none
  none_awake c f = go (lowest_step c 1 t) refl
    where
      go : (o : Option (ℕ × Kind)) → lowest_step c 1 t ≡ o → o ≡ none
      go (some a) e =
          let g = lowest_is_allowed c a.0 a.1 t e in
          absurd (false≢true (sym (asleep a.0 a.1 g.slot_from (f a.0 a.1 g.slot_from (omega (arith, g.slot_below_holds)))) ∙ g.is_allowed))
      go none e = refl

-- The same as a scan, of the n slots from s on, that passes over the slots that are not awake.
unfoldable pub lowest_in : (ℕ → Bool) → ℕ → ℕ → Tree → Option (ℕ × Kind)
lowest_in m zero s t = none
lowest_in m (suc n) s t = elim (m s) [
  | true ↦ elim (lowest_kind kinds s t) [ some k ↦ some (s, k) | none ↦ lowest_in m n (suc s) t ]
  | false ↦ lowest_in m n (suc s) t
]

no_kind : (ks : List Kind) (s : ℕ) (t : Tree) → ((j : Kind) → allowed s j t ≡ false) → lowest_kind ks s t ≡ none
unfolding lowest_kind
no_kind [] s t f = refl
no_kind (k ∷ ks) s t f = rw (f k, lowest_kind) (no_kind ks s t f)

pub awake_lowest : (m : ℕ → Bool) (t : Tree) → Covers (λ x. m x ≡ true) t → (n s : ℕ) → 1 ≤ s → lowest_in m n s t ≡ lowest_step n s t
unfolding lowest_in lowest_step
awake_lowest m t cover zero s i = refl
awake_lowest m t cover (suc n) s i = go (m s) refl (awake_lowest m t cover n (suc s) (omega arith))
  where
    go : (b : Bool) → m s ≡ b → lowest_in m n (suc s) t ≡ lowest_step n (suc s) t → lowest_in m (suc n) s t ≡ lowest_step (suc n) s t
    go true e rest = rw (e, lowest_in) (ap (λ (o : Option (ℕ × Kind)). elim (lowest_kind kinds s t) [ some k ↦ some (s, k) | none ↦ o ]) rest)
    go false e rest =
        let none_here = no_kind kinds s t (λ j. asleep (λ x. m x ≡ true) t cover s j i (λ h. absurd (false≢true (sym e ∙ h)))) in
        rw (e, none_here, lowest_in, lowest_step) rest
