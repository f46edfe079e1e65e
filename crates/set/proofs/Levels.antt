-- 02 (v): "Keep L in the fourth header word, true after every prepare, insert, delete, step, settle". Of a pool that passes the audit that
-- word is L of the tree that the words show (`level_true`), and so it is after each of the five (`prepare_level_true` .. `settle_level_true`).
-- It is the report's second number (`level_reported`), and at most 255 (`level_low`). By the words alone, where it moves and that it moves nowhere else: an insert that is
-- done raises it by 1 where N was 1 (`insert_level_word`); a delete that is done lowers it by the sibling's weight where the leaf hung right under
-- the root (`delete_level_word`), and to 0 where N was 3 (`last_delete_level_word`); a step that is done moves it at the root alone, as the tables
-- `rises_by` and `falls_by` say (`step_level_word`): by its number, 1 up and 6 down (`step_level_by_number`). A refused command changes no word
-- (Promises.antt: `…-kept`).
-- Why: words that show a sound State have its L in their header; each operation on them is the State's, of which crate tree's Levelled.antt
-- says how L moves. Assumes nothing.
use mathlib.Core.Option.{some}
use mathlib.Core.Path.{◌≡◌, refl, ap, sym, ◌∙◌}
use mathlib.Core.Logic.{◌≢◌}
use mathlib.Core.Bool.{true, false, ◌&&◌}
use mathlib.Core.List.{List}
use lib.Dec.{eqb, leb}
use lib.ListN.{get_or}
use native.Mathlib.Omega.{arith}
use Prim.Native.Nat.{ℕ, ◌+◌, ◌≤◌, ◌<◌}
use borrow.Author.Tests.{eq-eqb, ne_eqb}
use Rattle.tree.specs.declared.Kind.{Kind}
use Rattle.tree.specs.declared.Kind.TheVariants.{Blacken, SingleLeft, SingleRight, DoubleLeft, DoubleRight, Lighten, LightenLeft, LightenRight}
use Rattle.tree.specs.declared.Answer.TheVariants.{Done}
use Rattle.tree.specs.declared.Refusal.TheVariants.{KeyAbsent}
use Rattle.tree.specs.Codes.{most_level, kind_number, named}
use Rattle.tree.specs.Tree.{Tree, slot_of, is_leaf, one}
use Rattle.tree.specs.Kinds.{rises_by, falls_by}
use Rattle.tree.specs.State.{State, Top, empty, full, level_top, key_end, Outcome, refuses, report, delete, step}
use Rattle.tree.proofs.Tests.{same_or_not}
use Rattle.tree.proofs.KindNumbers.{named_number}
use Rattle.tree.proofs.SoundStates.{sound_level}
use Rattle.tree.proofs.Delete.{root_cut}
use Rattle.tree.proofs.StepState.{in_empty, step_caused, StepCase, refused, taken, stepping}
use Rattle.tree.proofs.Levelled.{level_at_insert, level_at_delete, level_at_last_delete, level_at_step}
use Rattle.format.specs.Words.{header_of, slot_at, length_good, root_of}
use Rattle.format.specs.Shows.{Holds, holds_leaf, holds_node, PoolShows}
use Rattle.format.specs.Audit.{bare}
use Rattle.format.proofs.Frame.{holds_root, weight_of_root}
use Rattle.format.proofs.RulesFound.{not_bare}
use Rattle.format.proofs.Shown.{shows_root, shows_nodes, shows_level, shows_tree}
use Rattle.report.specs.Report.{Reported}
use Rattle.report.specs.Report.{report_of}
use Rattle.report.proofs.Exact.{report_exact}
use Rattle.pool.specs.Results.{prepared_words}
use Rattle.updates.specs.Updating.{insert_answer, insert_words, delete_answer, delete_words}
use Rattle.updates.proofs.InsertShows.{insert_entry}
use Rattle.updates.proofs.DeleteShows.{delete_entry}
use Rattle.steps.specs.Steps.{step_answer, step_words, settle_words}
use Rattle.steps.proofs.StepShows.{step_entry}
use Rattle.set.specs.Set.{Passing}
use Rattle.set.specs.Levels.{LevelTrue, sibling_weight, sibling_under_root}
use Rattle.set.proofs.Passing.{shown, passing_state, prepare_passing, insert_passing, delete_passing, step_passing, settle_passing}

pub level_true : {p : List ℕ} → Passing p → LevelTrue p
unfolding header_of
level_true g = shows_level (passing_state g).1

-- 02 (viii): "255 remains enough for L."
pub level_low : {p : List ℕ} → Passing p → get_or p 3 0 ≤ most_level
level_low g = omega (arith, level_true g, sound_level (passing_state g).0)

-- "true after every prepare, insert, delete, step, settle"
pub prepare_level_true : (p : List ℕ) → length_good p ≡ true → LevelTrue (prepared_words p)
prepare_level_true p long = level_true (prepare_passing p long)

module _ {p : List ℕ} (g : Passing p) where
  pub insert_level_true : (x : ℕ) → x < key_end → LevelTrue (insert_words p x)
  insert_level_true x h = level_true (insert_passing g x h)

  pub delete_level_true : (x : ℕ) → LevelTrue (delete_words p x)
  delete_level_true x = level_true (delete_passing g x)

  pub step_level_true : (s n : ℕ) → LevelTrue (step_words p s n)
  step_level_true s n = level_true (step_passing g s n)

  pub settle_level_true : (budget : ℕ) → LevelTrue (settle_words p budget)
  settle_level_true b = level_true (settle_passing g b)

  pub level_reported : (report_of p).figures.level ≡ (header_of p).level
  unfolding report level_top
  level_reported = ap (λ (r : Reported). r.figures.level) (report_exact (shown g).sound (shown g).shows) ∙ (go (shown g).state.top ∙ sym (shows_level (shown g).shows))
    where
      go : (t : Top) → (report t).level ≡ level_top t
      go empty = refl
      go (full t) = refl

-- `sibling_under_root` is what is cut off the tree that the words hold.
leaf_read : {p : List ℕ} {w : ℕ} {t : Tree} → Holds p w t → bare (slot_at p (slot_of t)) ≡ is_leaf t
unfolding slot_of is_leaf bare
leaf_read (holds_leaf h) = rw h.content
leaf_read (holds_node {k = k} {w = w} {r = r} h hl hr) = rw h.content (not_bare hl k (slot_of r) w)

weight_read : {p : List ℕ} {w : ℕ} {t : Tree} → Holds p w t → (slot_at p (slot_of t)).weight ≡ w
weight_read {w = w} {t} h = rw (holds_root h).content (weight_of_root w t)

cut_read : {p : List ℕ} (x : ℕ) {w : ℕ} {t : Tree} → Holds p w t → (header_of p).root ≡ slot_of t → sibling_under_root p x ≡ root_cut x t
unfolding sibling_under_root sibling_weight root_cut slot_of bare
cut_read x (holds_leaf h) e = rw (e, h.content, sibling_weight)
cut_read x (holds_node {k = k} {w = w} {r = r} h hl hr) e = rw (e, h.content) (λ i. elim (not_bare hl k (slot_of r) w i) [
  | true ↦ 0
  | false ↦ elim (leb x k) [
    | true ↦ elim (leaf_read hl i) [ true ↦ weight_read hr i | false ↦ 0 ]
    | false ↦ elim (leaf_read hr i) [ true ↦ weight_read hl i | false ↦ 0 ]
  ]
])

-- The tables of `rises_by` and `falls_by` by number, and that an accepted step's number is a kind's
rises_number : (k : Kind) → rises_by k ≡ one (eqb (kind_number k) (kind_number Blacken))
unfolding one
rises_number Blacken = refl
rises_number SingleLeft = refl
rises_number SingleRight = refl
rises_number DoubleLeft = refl
rises_number DoubleRight = refl
rises_number Lighten = refl
rises_number LightenLeft = refl
rises_number LightenRight = refl

falls_number : (k : Kind) → falls_by k ≡ one (eqb (kind_number k) (kind_number Lighten))
unfolding one
falls_number Blacken = refl
falls_number SingleLeft = refl
falls_number SingleRight = refl
falls_number DoubleLeft = refl
falls_number DoubleRight = refl
falls_number Lighten = refl
falls_number LightenLeft = refl
falls_number LightenRight = refl

done_kind : (s n : ℕ) (S : State) {a : ℕ} → (step s n S).answer ≡ Done a → (k : Kind) × (named n ≡ some k)
done_kind s n S {a} = go (stepping s n S)
  where
    go : {o : Outcome} → StepCase s n S o → o.answer ≡ Done a → (k : Kind) × (named n ≡ some k)
    go (refused c) d = let z : ◌≡◌ {A = ℕ} 0 1 = cc in absurd (omega arith)
    go (taken {k = k} e f h b) d = (k, h)

module _ {p : List ℕ} (g : Passing p) where
  -- The second key comes to a tree with N 1, and makes L 1. No other key moves it.
  pub insert_level_word : (x : ℕ) {a : ℕ} → insert_answer p x ≡ Done a → (header_of (insert_words p x)).level ≡ (header_of p).level + one (eqb (header_of p).nodes 1)
  insert_level_word x d =
      let e = insert_entry x (shown g).sound (shown g).shows in
      rw (shows_level e.1, shows_level (shown g).shows, shows_nodes (shown g).shows) (level_at_insert x (shown g).state (shown g).sound (sym e.0 ∙ d))

  -- A delete right under the root takes the sibling's weight off L, and no other moves it.
  pub delete_level_word : (x : ℕ) {a : ℕ} → delete_answer p x ≡ Done a → (header_of (delete_words p x)).level + sibling_under_root p x ≡ (header_of p).level
  unfolding delete root_of
  delete_level_word x {a} d = go (shown g).state.top refl (delete_entry x (shown g).sound (shown g).shows)
    where
      go : (T : Top) → (shown g).state.top ≡ T → (delete_answer p x ≡ (delete x (shown g).state).answer) × PoolShows (delete_words p x) (delete x (shown g).state).after
          → (header_of (delete_words p x)).level + sibling_under_root p x ≡ (header_of p).level
      go empty h e =
          let none : delete x (shown g).state ≡ refuses KeyAbsent (shown g).state = cc h in
          let is = e.0 in
          let z : ◌≡◌ {A = ℕ} 0 1 = cc in
          absurd (omega arith)
      go (full t) h e =
          let root : (header_of p).root ≡ slot_of t = rw h at (shows_root (shown g).shows) in
          omega (arith, shows_level e.1, shows_level (shown g).shows, cut_read x (shows_tree (shown g).shows h) root, level_at_delete x (shown g).state (shown g).sound (sym e.0 ∙ d) t h)

  -- Two keys are three nodes.
  pub last_delete_level_word : (x : ℕ) {a : ℕ} → delete_answer p x ≡ Done a → (header_of p).nodes ≡ 3 → (header_of (delete_words p x)).level ≡ 0
  last_delete_level_word x d three =
      let e = delete_entry x (shown g).sound (shown g).shows in
      shows_level e.1 ∙ level_at_last_delete x (shown g).state (shown g).sound (sym e.0 ∙ d) (sym (shows_nodes (shown g).shows) ∙ three)

  -- Kind 1 at the root raises L by 1 and kind 6 there lowers it by 1; kinds 7 and 8 there keep it, and so does every step below the root.
  pub step_level_word : (s n : ℕ) {a : ℕ} → step_answer p s n ≡ Done a → (k : Kind) → named n ≡ some k
      → (s ≡ (header_of p).root → (header_of (step_words p s n)).level + falls_by k ≡ (header_of p).level + rises_by k)
      × (s ≢ (header_of p).root → (header_of (step_words p s n)).level ≡ (header_of p).level)
  unfolding root_of
  step_level_word s n {a} d k f = go (shown g).state.top refl
    where
      e : (step_answer p s n ≡ (step s n (shown g).state).answer) × PoolShows (step_words p s n) (step s n (shown g).state).after
      e = step_entry (shown g).sound (shown g).shows s n

      go : (T : Top) → (shown g).state.top ≡ T
          → (s ≡ (header_of p).root → (header_of (step_words p s n)).level + falls_by k ≡ (header_of p).level + rises_by k)
          × (s ≢ (header_of p).root → (header_of (step_words p s n)).level ≡ (header_of p).level)
      go empty h =
          let none = step_caused s n (shown g).state (in_empty h) in
          let is = e.0 in
          let z : ◌≡◌ {A = ℕ} 0 1 = cc in
          absurd (omega arith)
      go (full t) h =
          let root : (header_of p).root ≡ slot_of t = rw h at (shows_root (shown g).shows) in
          rw (shows_level e.1, shows_level (shown g).shows, root) (level_at_step s n (shown g).state (shown g).sound (sym e.0 ∙ d) t h k f)

  -- the same by the kind's number
  pub step_level_by_number : (s n : ℕ) {a : ℕ} → step_answer p s n ≡ Done a
      → (header_of (step_words p s n)).level + one (eqb s (header_of p).root && eqb n (kind_number Lighten)) ≡ (header_of p).level + one (eqb s (header_of p).root && eqb n (kind_number Blacken))
  unfolding one
  step_level_by_number s n {a} d = let K = done_kind s n (shown g).state (sym (step_entry (shown g).sound (shown g).shows s n).0 ∙ d) in go K.0 K.1
    where
      go : (k : Kind) → named n ≡ some k
          → (header_of (step_words p s n)).level + one (eqb s (header_of p).root && eqb n (kind_number Lighten)) ≡ (header_of p).level + one (eqb s (header_of p).root && eqb n (kind_number Blacken))
      go k f =
          let m = step_level_word s n d k f in
          let rises : rises_by k ≡ one (eqb n (kind_number Blacken)) = rw (named_number n k f) (rises_number k) in
          let falls : falls_by k ≡ one (eqb n (kind_number Lighten)) = rw (named_number n k f) (falls_number k) in
          same_or_not s (header_of p).root
          (λ e. rw (eq-eqb _ _ e, ← rises, ← falls) (m.0 e))
          (λ e. rw (ne_eqb _ _ e) (omega (arith, m.1 e)))
