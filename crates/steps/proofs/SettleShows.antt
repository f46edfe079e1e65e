-- Settle, on words and a header that show a sound State: it answers as the definition does, so that the steps taken are the number of
-- trees after the first, and what it leaves shows the last of those trees (`settle_shows`, and `settle_entry` for a pool).
-- Why: step by step, the next pool shows the next tree, and there is none where there is none (`next_shows`): the first step found is
-- the lowest (AllowedShows.antt), its effect is the definition's (EffectShows.antt of crate kinds), and an allowed step keeps the State
-- sound (StepState.antt of crate tree). By induction on the budget. Assumes nothing.
use mathlib.Core.Path.{◌≡◌, refl, sym, ap, ◌∙◌}
use mathlib.Core.Bool.{false}
use mathlib.Core.List.{List, [], ◌∷◌}
use mathlib.Core.Option.{Option, none, some}
use lib.ListN.{length}
use Prim.Native.Nat.{ℕ, zero, suc}
use Rattle.tree.specs.declared.Kind.{Kind}
use Rattle.tree.specs.declared.Answer.TheVariants.{Done, Spent}
use Rattle.tree.specs.Codes.{kinds}
use Rattle.tree.specs.Tree.{Tree}
use Rattle.tree.specs.Kinds.{stepped}
use Rattle.tree.specs.State.{State, state, Top, empty, full, Sound}
use Rattle.tree.specs.Settle.{lowest_step, next_tree, trees_after, last_of, settled, settle}
use Rattle.tree.proofs.StepState.{allowed_exactly, sound_kept}
use Rattle.tree.proofs.Settling.{lowest_is_allowed, settle_after, settle_answer_lem, settle_empty}
use Rattle.format.specs.declared.Header.{Header}
use Rattle.format.specs.Words.{last_slot}
use Rattle.format.specs.Shows.{Shows, PoolShows}
use Rattle.format.proofs.Performing.{Does, does_pool}
use Rattle.kinds.specs.Around.{around_at}
use Rattle.kinds.specs.Effects.{header_after}
use Rattle.kinds.proofs.EffectShows.{effect_shows}
use Rattle.std.specs.Prelude.{Some, None}
use Rattle.steps.specs.Steps.{allowed_words, taken_words, first_from, first_allowed, Pool, pool_of, next_pool, pools_after, settle_under, settle_answer, settle_words}
use Rattle.steps.proofs.Scan.{all_false}
use Rattle.steps.proofs.SettleTurns.{next_none, after_none}
use Rattle.steps.proofs.HeaderKept.{settle_words_lem}
use Rattle.steps.proofs.AllowedShows.{inner_empty, lowest_of, first_shows}

-- S with the tree t in place of its own
abbrev with_tree : State → Tree → State
with_tree S t = state S.slots (full t) S.free

module _ (S : State) where
  -- a pool and the tree that it shows, in a State that is sound
  record Stands (P : Pool) (t : Tree) : Type 0 where
    pub sound : Sound (with_tree S t)
    pub shows : Shows P.header P.words (with_tree S t)

  -- the next pool and the next tree, or neither
  data Next : Option Pool → Option Tree → Type 0 where
    neither : Next none none
    both : {Q : Pool} {u : Tree} → Stands Q u → Next (some Q) (some u)

  step_stands : (P : Pool) (t : Tree) → Stands P t → (a : ℕ × Kind) → lowest_step S.slots 1 t ≡ some a
      → Stands (pool_of (header_after a.1 a.0 P.header) (taken_words P.header.root P.words a.0 a.1 (around_at P.words a.0))) (stepped a.1 a.0 t)
  step_stands P t x a e =
      let s = a.0 in
      let k = a.1 in
      let ok = (lowest_is_allowed S.slots s k t e).is_allowed in
      record {
        sound = sound_kept (with_tree S t) t x.sound refl s k ok;
        shows = effect_shows (with_tree S t) t x.sound refl P.words x.shows k s ((allowed_exactly s k t).0 ok).0;
      }

  next_shows : (P : Pool) (t : Tree) → Stands P t → Next (next_pool P) (next_tree S.slots t)
  unfolding next_pool next_tree lowest_of
  next_shows P t x = rw (first_shows (with_tree S t) t x.sound refl P.words x.shows, next_pool) (go (lowest_step S.slots 1 t) refl)
    where
      go : (o : Option (ℕ × Kind)) → lowest_step S.slots 1 t ≡ o → Next
          (elim (lowest_of P.words o) [ Some x ↦ some (pool_of (header_after x.kind x.slot P.header) (taken_words P.header.root P.words x.slot x.kind x.around)) | None ↦ none ])
          (elim o [ some a ↦ some (stepped a.1 a.0 t) | none ↦ none ])
      go (some a) e = both (step_stands P t x a e)
      go none e = neither

  -- The list of pools and the list of trees: as long as each other, and the last ones stand.
  record Ends (P : Pool) (t : Tree) (Qs : List Pool) (us : List Tree) : Type 0 where
    pub same_length : length Qs ≡ length us
    pub last_stands : Stands (last_of P Qs) (last_of t us)

  pools_show : (budget : ℕ) (P : Pool) (t : Tree) → Stands P t → Ends P t (pools_after budget P) (trees_after S.slots budget t)
  unfolding pools_after trees_after last_of
  pools_show zero P t x = record { same_length = refl; last_stands = x }
  pools_show (suc b) P t x = go (next_shows P t x) (pools_show b)
    where
      go : {o : Option Pool} {i : Option Tree} → Next o i
          → ((Q : Pool) (u : Tree) → Stands Q u → Ends Q u (pools_after b Q) (trees_after S.slots b u))
          → Ends P t (elim o [ some Q ↦ Q ∷ pools_after b Q | none ↦ [] ]) (elim i [ some u ↦ u ∷ trees_after S.slots b u | none ↦ [] ])
      go neither f = record { same_length = refl; last_stands = x }
      go (both {Q} {u} y) f = let z = f Q u y in record { same_length = ap suc z.same_length; last_stands = z.last_stands }

  -- and the answers: a step is left in both or in neither
  settled_same : {o : Option Pool} {i : Option Tree} → Next o i → {m n : ℕ} → m ≡ n → settled m o ≡ settled n i
  unfolding settled
  settled_same neither e = ap Done e
  settled_same (both y) e = ap Spent e

-- An empty tree has no inner node, so nothing is allowed.
module _ {h : Header} {p : List ℕ} {S : State} (sound : Sound S) (shows : Shows h p S) (e : S.top ≡ empty) where
  none_allowed : (k : Kind) (s : ℕ) → allowed_words k h p s ≡ false
  unfolding allowed_words
  none_allowed k s = rw (inner_empty sound shows s e)

  none_found : (n s : ℕ) → first_from n h p s ≡ None
  unfolding first_from
  none_found zero s = refl
  none_found (suc n) s = rw (all_false h p s kinds (λ k. none_allowed k s), first_from) (none_found n (suc s))

  settles_empty : (budget : ℕ) → Does (settle_under p h budget) (settle budget S)
  unfolding settle_under last_of settled first_allowed
  settles_empty b =
      let none-next = next_none (pool_of h p) (none_found (last_slot p) 1) in
      rw (settle_empty S e b, after_none (pool_of h p) b none-next, none-next) (record { answers = refl; shows = shows })

settles_full : {h : Header} {p : List ℕ} {S : State} → Sound S → Shows h p S → (t : Tree) → S.top ≡ full t → (budget : ℕ)
    → Does (settle_under p h budget) (settle budget S)
unfolding settle_under
settles_full {h} {p} {S} sound shows t e b =
    let same : S ≡ with_tree S t = ap (λ T. state S.slots T S.free) e in
    let y = pools_show S b (pool_of h p) t (record { sound = rw same at sound; shows = rw same at shows }) in
    record {
      answers = settled_same S (next_shows S _ _ y.last_stands) y.same_length ∙ sym (settle_answer_lem S t e b);
      shows = rw (settle_after S t e b) y.last_stands.shows;
    }

pub settle_shows : {h : Header} {p : List ℕ} {S : State} → Sound S → Shows h p S → (budget : ℕ) → Does (settle_under p h budget) (settle budget S)
settle_shows {h} {p} {S} sound shows b = go S.top refl
  where
    go : (T : Top) → S.top ≡ T → Does (settle_under p h b) (settle b S)
    go empty e = settles_empty sound shows e b
    go (full t) e = settles_full sound shows t e b

-- the same, of a pool
pub settle_entry : {p : List ℕ} {S : State} → Sound S → PoolShows p S → (budget : ℕ)
    → (settle_answer p budget ≡ (settle budget S).answer) × PoolShows (settle_words p budget) (settle budget S).after
unfolding settle_answer
settle_entry {p} sound shows b = let d = settle_shows sound shows b in (d.answers, rw (settle_words_lem p b) (does_pool d))
