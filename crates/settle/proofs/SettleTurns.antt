-- Settle on words, turn by turn. `Turn` says that n steps have been taken and what is left to do from here is what was left from the
-- start: the pools from there are n more, and the last one is the same. Assumes nothing.
use Rattle.std.proofs.Common.{◌≡◌, ℕ, zero, suc, ◌+◌, ◌-◌, ◌<◌, List, [], ◌∷◌, length, sym, refl, ap, ◌∙◌, add-one, arith, Bool}
use mathlib.Core.Option.{Option, none, some}
use Rattle.tree.specs.declared.Answer.{Answer}
use Rattle.tree.specs.declared.Answer.TheVariants.{Done, Spent}
use Rattle.tree.specs.Settle.{last_of, settled}
use Rattle.format.specs.declared.Header.{Header}
use Rattle.kinds.specs.Effects.{header_after}
use Rattle.steps.specs.Steps.{taken_words}
use Rattle.steps.specs.declared.Lowest.{Lowest}
use Rattle.std.specs.Prelude.{Option as Found, Some, None}
use Rattle.settle.specs.Waking.{woken}
use Rattle.settle.specs.Settling.{Pool, pool_of, scanned, next_pool, pools_after, settle_from}

module _ (P : Pool) where
  pub next_none : (scanned P).found ≡ None → next_pool P ≡ none
  unfolding next_pool
  next_none e = rw (e, next_pool)

  next_some : (x : Lowest) → (scanned P).found ≡ Some x
      → next_pool P ≡ some (pool_of (header_after x.kind x.slot P.header) (taken_words P.header.root P.words x.slot x.kind x.around) (woken P.header P.words x.slot x.kind x.around (scanned P).awake))
  unfolding next_pool
  next_some x e = rw (e, next_pool)

  pub after_none : (b : ℕ) → next_pool P ≡ none → pools_after b P ≡ []
  unfolding pools_after
  after_none zero e = refl
  after_none (suc b) e = rw (e, pools_after)

  after_spent : (b : ℕ) → b ≡ 0 → pools_after b P ≡ []
  unfolding pools_after
  after_spent b e = rw e

  after_some : (b d : ℕ) (Q : Pool) → b ≡ d + 1 → next_pool P ≡ some Q → pools_after b P ≡ Q ∷ pools_after d Q
  unfolding pools_after
  after_some b d Q e f = rw (e, add-one d, f, pools_after)

last_none : (P : Pool) {Qs : List Pool} → Qs ≡ [] → last_of P Qs ≡ P
unfolding last_of
last_none P e = rw e

last_some : (P Q : Pool) {Qs Rs : List Pool} → Qs ≡ Q ∷ Rs → last_of P Qs ≡ last_of Q Rs
unfolding last_of
last_some P Q e = rw e

module _ (h : Header) (b : ℕ) (p₀ : List ℕ) (m₀ : List Bool) where
  pub record Turn (n : ℕ) (P : Pool) : Type 0 where
    pub taken : length (pools_after b (pool_of h p₀ m₀)) ≡ n + length (pools_after (b - n) P)
    pub last : last_of (pool_of h p₀ m₀) (pools_after b (pool_of h p₀ m₀)) ≡ last_of P (pools_after (b - n) P)

  -- what settle answers, and the pool that it leaves
  pub record Ended (a : Answer) (P : Pool) : Type 0 where
    pub answer : a ≡ (settle_from m₀ p₀ h b).result.answer
    pub header : P.header ≡ (settle_from m₀ p₀ h b).result.header
    pub words : P.words ≡ (settle_from m₀ p₀ h b).words

  pub begin : Turn 0 (pool_of h p₀ m₀)
  begin = let e : b - 0 ≡ b = omega arith in record { taken = rw e (omega arith); last = rw e }

  module _ (n : ℕ) (P : Pool) (t : Turn n P) where
    pub turn : {f : Found Lowest} → f ≡ (scanned P).found → (x : Lowest) → f ≡ Some x → n < b
        → {g : Header} {q : List ℕ} {m : List Bool} → g ≡ header_after x.kind x.slot P.header → q ≡ taken_words P.header.root P.words x.slot x.kind x.around
        → m ≡ woken P.header P.words x.slot x.kind x.around (scanned P).awake → Turn (n + 1) (pool_of g q m)
    turn ef x e l {g} {q} {m} eg eq em =
        let next : next_pool P ≡ some (pool_of g q m) = rw (eg, eq, em) (next_some P x (sym ef ∙ e)) in
        let r = after_some P (b - n) (b - (n + 1)) (pool_of g q m) (omega arith) next in
        record { taken = omega (arith, t.taken, ap length r); last = t.last ∙ last_some P (pool_of g q m) r }

    -- Where the list ends, its length is n and its last pool P.
    settles : pools_after (b - n) P ≡ [] → (o : Option Pool) → next_pool P ≡ o
        → Ended (settled n o) P
    unfolding settle_from
    settles g o e =
        let x : length (pools_after b (pool_of h p₀ m₀)) ≡ n = omega (arith, t.taken, ap length g) in
        let y : last_of (pool_of h p₀ m₀) (pools_after b (pool_of h p₀ m₀)) ≡ P = t.last ∙ last_none P g in
        record { answer = rw (x, y, e); header = ap (λ (Q : Pool). Q.header) (sym y); words = ap (λ (Q : Pool). Q.words) (sym y) }

    pub done : {f : Found Lowest} → f ≡ (scanned P).found → f ≡ None
        → Ended (Done n) P
    unfolding settled
    done ef e =
        let x = next_none P (sym ef ∙ e) in
        settles (after_none P (b - n) x) none x

    pub spent : {f : Found Lowest} → f ≡ (scanned P).found → (x : Lowest) → f ≡ Some x → n ≡ b
        → Ended (Spent n) P
    unfolding settled
    spent ef x e z = settles (after_spent P (b - n) (omega arith)) _ (next_some P x (sym ef ∙ e))
