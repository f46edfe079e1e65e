-- Settle, on words and a header that show a sound State: it answers as the definition does, so that the steps taken are the number of
-- trees after the first, and what it leaves shows the last of those trees (`settle_shows`, and `settle_entry` for a pool).
-- Why: step by step, the next pool shows the next tree, and there is none where there is none (`next_shows`): the first step found is
-- the lowest (Rows.antt, AllowedShows.antt), its effect is the definition's (EffectShows.antt of crate kinds), an allowed step keeps the State
-- sound (StepState.antt of crate tree), and what it wakes is enough (WakeShows.antt). By induction on the budget, from any beginning in which every
-- slot that allows a step is awake (`awake_shows`); the command begins with all slots awake. Assumes nothing.
use Rattle.std.proofs.Common.{◌≡◌, ℕ, zero, suc, ◌+◌, ◌/◌, ◌<◌, true, List, [], ◌∷◌, length, sym, refl, ap, ◌∙◌, arith, Bool, false}
use mathlib.Core.Option.{Option, none, some}
use lib.ListN.{length-replicate, get_or-replicate}
use Rattle.tree.specs.declared.Kind.{Kind}
use Rattle.tree.specs.declared.Answer.TheVariants.{Done, Spent}
use Rattle.tree.specs.Tree.{Tree}
use Rattle.tree.specs.Kinds.{stepped}
use Rattle.tree.specs.State.{State, state, Top, empty, full, Sound}
use Rattle.tree.specs.Settle.{lowest_step, next_tree, trees_after, last_of, settled, settle}
use Rattle.tree.proofs.StepState.{allowed_exactly, sound_kept}
use Rattle.tree.proofs.Settling.{lowest_is_allowed, settle_after, settle_answer_lem, settle_empty}
use Rattle.format.specs.declared.Header.{Header}
use Rattle.format.specs.Words.{last_slot}
use Rattle.format.specs.Shows.{Shows, PoolShows}
use Rattle.format.proofs.Performing.{Does, does_pool}
use Rattle.kinds.specs.Around.{around_at}
use Rattle.kinds.specs.Effects.{header_after}
use Rattle.kinds.proofs.EffectShows.{effect_shows}
use Rattle.steps.specs.Steps.{taken_words}
use Rattle.std.specs.Prelude.{Some, None}
use Rattle.settle.specs.Awake.{group_size, block_of, most_blocks, most_groups, group_place, is_awake, all_awake}
use Rattle.settle.specs.Waking.{woken}
use Rattle.settle.specs.Settling.{Pool, pool_of, scanned, next_pool, pools_after, settle_from, settle_under, settle_answer, settle_words}
use Rattle.settle.proofs.SettleTurns.{next_none, after_none}
use Rattle.settle.proofs.HeaderKept.{settle_words_lem}
use Rattle.steps.proofs.AllowedShows.{lowest_of}
use Rattle.settle.proofs.AllowedShows.{nothing_empty, first_shows}
use Rattle.settle.proofs.Rows.{Cover, awake_finds, awake_kept, allowed_slot}
use Rattle.settle.proofs.Wakes.{Long, scan_long}
use Rattle.settle.proofs.WakeShows.{cover_covers, covers_cover, step_covers, woken_long}

-- S with the tree t in place of its own
abbrev pub with_tree : State → Tree → State
with_tree S t = state S.slots (full t) S.free

module _ (S : State) where
  -- a pool and the tree that it shows, in a State that is sound
  pub record Stands (P : Pool) (t : Tree) : Type 0 where
    pub sound : Sound (with_tree S t)
    pub shows : Shows P.header P.words (with_tree S t)
    pub long : Long P.awake
    pub covered : Cover P.header P.words P.awake

  -- the next pool and the next tree, or neither
  data Next : Option Pool → Option Tree → Type 0 where
    neither : Next none none
    both : {Q : Pool} {u : Tree} → Stands Q u → Next (some Q) (some u)

  -- after a step of kind k at slot s
  abbrev pub stepped_pool : Pool → ℕ → Kind → Pool
  stepped_pool P s k = let a = around_at P.words s in
      pool_of (header_after k s P.header) (taken_words P.header.root P.words s k a) (woken P.header P.words s k a (scanned P).awake)

  pub step_stands : (P : Pool) (t : Tree) → Stands P t → (s : ℕ) (k : Kind) → lowest_step S.slots 1 t ≡ some (s, k) → Stands (stepped_pool P s k) (stepped k s t)
  step_stands P t x s k e =
      let ok = (lowest_is_allowed S.slots s k t e).is_allowed in
      let sound = sound_kept (with_tree S t) t x.sound refl s k ok in
      let shows = effect_shows (with_tree S t) t x.sound refl P.words x.shows k s ((allowed_exactly s k t).0 ok).0 in
      let m = (scanned P).awake in
      let long = scan_long P.header P.words P.awake x.long in
      let covers = cover_covers (with_tree S t) t x.sound refl P.words x.shows m (awake_kept P.header P.words P.awake x.covered) in
      record {
        sound = sound;
        shows = shows;
        long = woken_long P.header P.words s k (around_at P.words s) m long;
        covered = covers_cover (with_tree S (stepped k s t)) (stepped k s t) sound refl _ shows _ (step_covers (with_tree S t) t x.sound refl P.words x.shows k s ok m long covers);
      }

  next_shows : (P : Pool) (t : Tree) → Stands P t → Next (next_pool P) (next_tree S.slots t)
  unfolding next_pool next_tree lowest_of
  next_shows P t x = rw (finds, next_pool) (go (lowest_step S.slots 1 t) refl)
    where
      finds : (scanned P).found ≡ lowest_of P.words (lowest_step S.slots 1 t)
      finds = awake_finds P.header P.words P.awake x.covered ∙ first_shows (with_tree S t) t x.sound refl P.words x.shows

      go : (o : Option (ℕ × Kind)) → lowest_step S.slots 1 t ≡ o → Next
          (elim (lowest_of P.words o) [
            | Some x ↦ some (pool_of (header_after x.kind x.slot P.header) (taken_words P.header.root P.words x.slot x.kind x.around) (woken P.header P.words x.slot x.kind x.around (scanned P).awake))
            | None ↦ none
          ])
          (elim o [ some a ↦ some (stepped a.1 a.0 t) | none ↦ none ])
      go (some a) e = both (step_stands P t x a.0 a.1 e)
      go none e = neither

  -- The list of pools and the list of trees: as long as each other, and the last ones stand.
  record Ends (P : Pool) (t : Tree) (Qs : List Pool) (us : List Tree) : Type 0 where
    pub same_length : length Qs ≡ length us
    pub last_stands : Stands (last_of P Qs) (last_of t us)

  pools_show : (budget : ℕ) (P : Pool) (t : Tree) → Stands P t → Ends P t (pools_after budget P) (trees_after S.slots budget t)
  unfolding pools_after trees_after last_of
  pools_show zero P t x = record { same_length = refl; last_stands = x }
  pools_show (suc b) P t x = go (next_shows P t x) (pools_show b)
    where
      go : {o : Option Pool} {i : Option Tree} → Next o i
          → ((Q : Pool) (u : Tree) → Stands Q u → Ends Q u (pools_after b Q) (trees_after S.slots b u))
          → Ends P t (elim o [ some Q ↦ Q ∷ pools_after b Q | none ↦ [] ]) (elim i [ some u ↦ u ∷ trees_after S.slots b u | none ↦ [] ])
      go neither f = record { same_length = refl; last_stands = x }
      go (both {Q} {u} y) f = let z = f Q u y in record { same_length = ap suc z.same_length; last_stands = z.last_stands }

  -- and the answers: a step is left in both or in neither
  settled_same : {o : Option Pool} {i : Option Tree} → Next o i → {m n : ℕ} → m ≡ n → settled m o ≡ settled n i
  unfolding settled
  settled_same neither e = ap Done e
  settled_same (both y) e = ap Spent e

module _ {h : Header} {p : List ℕ} {S : State} (sound : Sound S) (shows : Shows h p S) (m : List Bool) (long : Long m) (covered : Cover h p m) (budget : ℕ) where
  -- In an empty tree nothing is allowed.
  settles_empty : S.top ≡ empty → Does (settle_from m p h budget) (settle budget S)
  unfolding settle_from last_of settled
  settles_empty e =
      let none-next = next_none (pool_of h p m) (awake_finds h p m covered ∙ nothing_empty sound shows e (last_slot p) 1) in
      rw (settle_empty S e budget, after_none (pool_of h p m) budget none-next, none-next) (record { answers = refl; shows = shows })

  settles_full : (t : Tree) → S.top ≡ full t → Does (settle_from m p h budget) (settle budget S)
  unfolding settle_from
  settles_full t e =
      let same : S ≡ with_tree S t = ap (λ T. state S.slots T S.free) e in
      let y = pools_show S budget (pool_of h p m) t (record { sound = rw same at sound; shows = rw same at shows; long = long; covered = covered }) in
      record {
        answers = settled_same S (next_shows S _ _ y.last_stands) y.same_length ∙ sym (settle_answer_lem S t e budget);
        shows = rw (settle_after S t e budget) y.last_stands.shows;
      }

  pub awake_shows : Does (settle_from m p h budget) (settle budget S)
  awake_shows = go S.top refl
    where
      go : (T : Top) → S.top ≡ T → Does (settle_from m p h budget) (settle budget S)
      go empty e = settles_empty e
      go (full t) e = settles_full t e

-- all slots awake
in_all : (i : ℕ) → i < most_blocks + most_groups → is_awake all_awake i ≡ true
unfolding is_awake
in_all i l = rw (get_or-replicate {A = Bool} (most_blocks + most_groups) i true false l)

pub all_covered : (h : Header) (p : List ℕ) → Cover h p all_awake
all_covered h p x k e =
    let inside = allowed_slot h p x k e in
    record { block = in_all (block_of x) (omega arith); group = in_all (group_place (block_of x / group_size)) (omega arith) }

pub settle_shows : {h : Header} {p : List ℕ} {S : State} → Sound S → Shows h p S → (budget : ℕ) → Does (settle_under p h budget) (settle budget S)
settle_shows {h} {p} sound shows b = awake_shows sound shows all_awake (length-replicate {A = Bool} (most_blocks + most_groups) true) (all_covered h p) b

-- the same, of a pool
pub settle_entry : {p : List ℕ} {S : State} → Sound S → PoolShows p S → (budget : ℕ)
    → (settle_answer p budget ≡ (settle budget S).answer) × PoolShows (settle_words p budget) (settle budget S).after
unfolding settle_answer
settle_entry {p} sound shows b = let d = settle_shows sound shows b in (d.answers, rw (settle_words_lem p b) (does_pool d))
