-- RULES 4.13 from pool to pool. Where kind 4 or 5 is allowed, a pool that shows a sound State and one that shows the State after that step differ in
-- the six words and in no other (`allowed_double`). So do they where the command step, of that kind, gives code 0 (`double_done`), where settle
-- with budget 1 takes that step, the lowest (`double_settled`), and so do the words of the two States (`shown_double_left`, `shown_double_right`).
-- Why: a State decides its words (format's `words_decided`), so they are those that the effect leaves, of which SixWords.antt speaks: kinds 4
-- and 5 leave L, and with it the header. Assumes nothing.
use Rattle.std.proofs.Common.{◌≡◌, ℕ, ◌^◌, ◌<◌, Bool, true, false, eqb, List, [], ◌∷◌, sym, refl, ap, ◌∙◌, mod-eq_of_lt, arith}
use mathlib.Core.Option.{Option, none, some}
use Rattle.tree.specs.declared.Kind.{Kind}
use Rattle.tree.specs.declared.Kind.TheVariants.{DoubleLeft, DoubleRight}
use Rattle.tree.specs.declared.Answer.TheVariants.{Done}
use Rattle.tree.specs.Codes.{kind_number, code_of}
use Rattle.tree.specs.Tree.{Tree, level}
use Rattle.tree.specs.Kinds.{condition, condition_at, stepped}
use Rattle.tree.specs.State.{State, state, full, level_top, Sound, Outcome, step}
use Rattle.tree.specs.Settle.{allowed, lowest_step, next_tree, trees_after, last_of, settle}
use Rattle.tree.proofs.KindNumbers.{named_known, refusal_some}
use Rattle.tree.proofs.Settling.{lowest_is_allowed, last_after, settle_after}
use Rattle.tree.proofs.Steps.{holds_at_present}
use Rattle.tree.proofs.StepState.{tree_slot, tree_good, allowed_exactly, sound_kept, StepCase, refused, taken, stepping, step_sound_state}
use Rattle.format.specs.declared.Part.TheVariants.{Left, Right}
use Rattle.format.specs.Words.{at_level, header_of, words_of}
use Rattle.format.specs.Shows.{PoolShows}
use Rattle.format.proofs.Shown.{shows_level, shows_words, words_decided}
use Rattle.kinds.specs.Around.{around_at}
use Rattle.kinds.specs.Effects.{applied, level_after, header_after}
use Rattle.kinds.specs.Doubles.{six_words, ChangedAt}
use Rattle.kinds.proofs.Sides.{Side, left, right, double, near, away}
use Rattle.kinds.proofs.EffectShows.{effect_shows}
use Rattle.kinds.proofs.HeaderKept.{applied_header}
use Rattle.kinds.proofs.SixWords.{double_changes}

-- L after either kind is L before it
double_level : (d : Side) (root : Bool) (l : ℕ) → l < 2 ^ 32 → level_after (double d) root l ≡ l
unfolding level_after
double_level left true l h = omega (arith, mod-eq_of_lt {n = l} {m = 2 ^ 32} h)
double_level left false l h = refl
double_level right true l h = omega (arith, mod-eq_of_lt {n = l} {m = 2 ^ 32} h)
double_level right false l h = refl

pub allowed_double : {S : State} {p q : List ℕ} → Sound S → PoolShows p S → (t : Tree) → S.top ≡ full t → (d : Side) (s : ℕ) → allowed s (double d) t ≡ true
    → PoolShows q (state S.slots (full (stepped (double d) s t)) S.free) → ChangedAt p q (six_words (near d) (away d) p s)
unfolding condition_at header_after header_of level_top
allowed_double {S} {p} {q} sound shows t e d s a after =
    let c = ((allowed_exactly s (double d) t).0 a).0 in
    let kept = sound_kept S t sound e s (double d) a in
    let h = header_of p in
    let r = applied p s (double d) (eqb s h.root) (around_at p s) in
    let level_is : h.level ≡ level t = shows_level shows ∙ ap level_top e in
    let small : h.level < 2 ^ 32 = omega (arith, (tree_good S t sound e).low) in
    let header_is : header_of r ≡ header_after (double d) s h =
    applied_header p s (double d) _ _ (tree_slot S t sound e s (holds_at_present (condition (double d)) s 1 t c)).numbered ∙ ap (at_level h) (sym (double_level d _ h.level small)) in
    let shown : PoolShows r (state S.slots (full (stepped (double d) s t)) S.free) = rw header_is (effect_shows S t sound e p shows (double d) s c) in
    rw (words_decided kept after ∙ sym (words_decided kept shown)) (double_changes S t sound e p shows d s c)

pub double_done : {S : State} {p q : List ℕ} → Sound S → PoolShows p S → (d : Side) (s : ℕ) → code_of (step s (kind_number (double d)) S).answer ≡ 0
    → PoolShows q (step s (kind_number (double d)) S).after → ChangedAt p q (six_words (near d) (away d) p s)
double_done {S} {p} {q} sound shows d s = go (stepping s (kind_number (double d)) S)
  where
    go : {o : Outcome} → StepCase s (kind_number (double d)) S o → code_of o.answer ≡ 0 → PoolShows q o.after → ChangedAt p q (six_words (near d) (away d) p s)
    go (refused {f} c) z after = absurd (refusal_some f z)
    go (taken {t} {k} e f g a) z after =
        let n = named_known (double d) in
        let same : k ≡ double d = cc in
        allowed_double sound shows t e d s (rw same at a) (rw same at after)

-- with budget 1 the last tree is the one that the lowest step makes
one_settled : (c s : ℕ) (k : Kind) (t : Tree) → lowest_step c 1 t ≡ some (s, k) → last_after c 1 t ≡ stepped k s t
unfolding next_tree trees_after last_of
one_settled c s k t e = let next : next_tree c t ≡ some (stepped k s t) = rw (e, next_tree) in ap (λ (o : Option Tree). last_of t (elim o [ some u ↦ u ∷ [] | none ↦ [] ])) next

pub double_settled : {S : State} {p q : List ℕ} → Sound S → PoolShows p S → (t : Tree) → S.top ≡ full t → (d : Side) (s : ℕ)
    → lowest_step S.slots 1 t ≡ some (s, double d) → PoolShows q (settle 1 S).after → ChangedAt p q (six_words (near d) (away d) p s)
double_settled {S} sound shows t e d s f after =
    allowed_double sound shows t e d s (lowest_is_allowed S.slots s (double d) t f).is_allowed
    (rw (settle_after S t e 1, one_settled S.slots s (double d) t f) at after)

module _ {S : State} (sound : Sound S) (s : ℕ) {a : ℕ} where
  pub shown_double_left : (step s (kind_number DoubleLeft) S).answer ≡ Done a
      → ChangedAt (words_of S) (words_of (step s (kind_number DoubleLeft) S).after) (six_words Left Right (words_of S) s)
  shown_double_left done = double_done sound (shows_words sound) left s (ap code_of done) (shows_words (step_sound_state s (kind_number DoubleLeft) S sound))

  pub shown_double_right : (step s (kind_number DoubleRight) S).answer ≡ Done a
      → ChangedAt (words_of S) (words_of (step s (kind_number DoubleRight) S).after) (six_words Right Left (words_of S) s)
  shown_double_right done = double_done sound (shows_words sound) right s (ap code_of done) (shows_words (step_sound_state s (kind_number DoubleRight) S sound))
