-- How much settle looks at (serves RULES 5), in words that show a sound State of c slots: at most `looks_once c` things once, and for each step
-- `looks_step c` and the depth of the tree (`settle_looks_lem`, `settle_looks_empty`); from what one update woke on, at most 201 + c / 256 things
-- once (`settle_after_looks`). A step at 16,383 slots is bounded by at most twice one at 1,023 of equal depth (`step_twice`).
-- Why: each number of a block that is awake is owed 8 looks, and of a group 32. A scan passes the groups' numbers; a block that is looked at costs
-- its 8 slots, and a group the numbers of its 32 blocks. Each falls asleep, which pays for it, but for the one block and the one group in which the step is found
-- (`scan_looks`, on any words; once for both rows in `row_costs`). A step wakes four slots at most, so four numbers of each row (`woken_owes`), and
-- the search for its parent passes fewer slots than the tree is deep (`wake_looks_lem`). By induction on the budget (`stands_looks`).
-- Assumes nothing.
use Rattle.std.proofs.Common.{◌≡◌, ℕ, zero, suc, ◌+◌, ◌*◌, ◌/◌, ◌<◌, ◌≤◌, Bool, true, false, eqb, ◌≢◌, List, [], ◌∷◌, length, get_or, set, sym, refl, ap, ◌∙◌, mul-le-mul_left, arith, length-set, get_or-set_other, get_or-set_same}
use mathlib.Core.Bool.{false≢true}
use mathlib.Core.Option.{Option, none, some}
use native.Mathlib.Decide.{dec_lt}
use lib.ListN.{length-replicate, get_or-replicate, get_or-eq_default}
use Rattle.tree.specs.declared.Kind.{Kind}
use Rattle.tree.specs.Codes.{most_slots}
use Rattle.tree.specs.Tree.{Tree, leaf, node, depth, one}
use Rattle.tree.specs.Kinds.{condition, condition_at, stepped}
use Rattle.tree.specs.State.{State, state, empty, full, Sound, key_end}
use Rattle.tree.specs.Settle.{allowed, lowest_step, next_tree, trees_after}
use Rattle.tree.specs.Sights.{parent_sees}
use Rattle.tree.proofs.Tests.{same_or_not, one_most}
use Rattle.tree.proofs.Steps.{Located, located, locate, holds_at_present}
use Rattle.tree.proofs.StepState.{allowed_exactly, tree_good}
use Rattle.tree.proofs.Settling.{lowest_is_allowed}
use Rattle.tree.proofs.Ways.{HangsIn, key_of, hang}
use Rattle.format.specs.declared.Header.{Header}
use Rattle.format.specs.declared.Slot.{Slot}
use Rattle.format.specs.Words.{slot_at, last_slot}
use Rattle.format.specs.Shows.{Shows}
use Rattle.format.proofs.Frame.{root_slot, holds_root}
use Rattle.format.proofs.Shown.{shows_tree, last_slot_is}
use Rattle.kinds.specs.declared.Around.{Around}
use Rattle.kinds.specs.Around.{around_of, around_at}
use Rattle.kinds.specs.Effects.{header_after}
use Rattle.steps.specs.Steps.{taken_words}
use Rattle.updates.proofs.SearchShows.{root_full}
use Rattle.steps.specs.declared.Lowest.{Lowest}
use Rattle.std.specs.Prelude.{Option as Found, Some, None}
use Rattle.settle.specs.declared.Pair.{Pair}
use Rattle.settle.specs.Awake.{block_size, group_size, block_of, most_blocks, most_groups, group_place, is_awake, wake_block, wake, all_awake, all_asleep}
use Rattle.settle.specs.Scanning.{Scan, scan, after, row_from, in_block, blocks_in, in_group, first_awake}
use Rattle.settle.specs.Waking.{woken_below, weight_after, kin_turns, wake_both, woken, woken_way}
use Rattle.settle.specs.Settling.{Pool, pool_of, scanned}
use Rattle.settle.specs.Looks.{wake_looks, looks_from, settle_looks, looks_once, looks_step, depths}
use Rattle.steps.proofs.AllowedShows.{lowest_of}
use Rattle.settle.proofs.AllowedShows.{nothing_empty, first_shows}
use Rattle.settle.proofs.Rows.{Cover, awake_finds}
use Rattle.settle.proofs.Wakes.{Long, both_long}
use Rattle.settle.proofs.KinShows.{hangs_held, hangs_slot, kin_short}
use Rattle.settle.proofs.SettleShows.{with_tree, Stands, step_stands, all_covered}

-- how many of the n numbers from the place `row` on are awake
unfoldable pub awake_in : (row n : ℕ) → List Bool → ℕ
awake_in row zero m = 0
awake_in row (suc n) m = one (is_awake m row) + awake_in (suc row) n m

pub awake_most : (row n : ℕ) (m : List Bool) → awake_in row n m ≤ n
unfolding awake_in
awake_most row zero m = omega arith
awake_most row (suc n) m = omega (arith, one_most (is_awake m row), awake_most (suc row) n m)

none_awake : (m : List Bool) → ((j : ℕ) → is_awake m j ≡ false) → (row n : ℕ) → awake_in row n m ≡ 0
unfolding awake_in one
none_awake m f row zero = refl
none_awake m f row (suc n) = rw (f row) (omega (arith, none_awake m f (suc row) n))

-- Nothing is awake in m' that is not in m.
abbrev Less : List Bool → List Bool → Type 0
Less m' m = (j : ℕ) → is_awake m' j ≡ true → is_awake m j ≡ true

one_less : (b c : Bool) → (b ≡ true → c ≡ true) → one b ≤ one c
unfolding one
one_less true c f = rw (f refl) (omega arith)
one_less false c f = omega arith

module _ (m' m : List Bool) (less : Less m' m) where
  less_awake : (row n : ℕ) → awake_in row n m' ≤ awake_in row n m
  unfolding awake_in
  less_awake row zero = omega arith
  less_awake row (suc n) = omega (arith, one_less (is_awake m' row) (is_awake m row) (less row), less_awake (suc row) n)

  -- and the number at the place i has fallen asleep
  fallen : (i : ℕ) → is_awake m i ≡ true → is_awake m' i ≡ false → (row n : ℕ) → row ≤ i → i < row + n → awake_in row n m' < awake_in row n m
  unfolding awake_in one
  fallen i e f row zero a b = absurd (omega arith)
  fallen i e f row (suc n) a b = same_or_not row i
      (λ s. rw (s, e, f, awake_in) (omega (arith, less_awake (suc i) n)))
      (λ d. omega (arith, one_less (is_awake m' row) (is_awake m row) (less row), fallen i e f (suc row) n (omega arith) (omega arith)))

-- A number put in its place: other places stay as they are.
put_other : (m : List Bool) (i j : ℕ) (x : Bool) → j ≢ i → is_awake (set m i x) j ≡ is_awake m j
unfolding is_awake
put_other m i j x n = rw (get_or-set_other m i j x false n)

put_asleep : (m : List Bool) (i : ℕ) → is_awake (set m i false) i ≡ false
unfolding is_awake
put_asleep m i = go (dec_lt i (length m))
  where
    go : Dec (i < length m) → get_or (set m i false) i false ≡ false
    go (yes l) = rw (get_or-set_same m i false false l)
    go (no l) = rw (get_or-eq_default (set m i false) false {n = i} (omega (arith, length-set m i false)))

put_less : (m : List Bool) (i : ℕ) → Less (set m i false) m
put_less m i j e = same_or_not j i
    (λ s. absurd (false≢true (sym (put_asleep m i) ∙ (ap (is_awake (set m i false)) (sym s) ∙ e))))
    (λ n. sym (put_other m i j false n) ∙ e)

put_apart : (m : List Bool) (i : ℕ) (x : Bool) (row n : ℕ) → ((j : ℕ) → row ≤ j → j < row + n → j ≢ i) → awake_in row n (set m i x) ≡ awake_in row n m
unfolding awake_in
put_apart m i x row zero f = refl
put_apart m i x row (suc n) f =
    rw (put_other m i row x (f row (omega arith) (omega arith)), put_apart m i x (suc row) n (λ j a b. f j (omega arith) (omega arith)))

put_awake : (m : List Bool) (i : ℕ) (x : Bool) (row n : ℕ) → awake_in row n (set m i x) ≤ 1 + awake_in row n m
unfolding awake_in
put_awake m i x row zero = omega arith
put_awake m i x row (suc n) = same_or_not row i
    (λ s. omega (arith, one_most (is_awake (set m i x) row), put_apart m i x (suc row) n (λ j a b. λ e. omega arith)))
    (λ d. rw (put_other m i row x d) (omega (arith, put_awake m i x (suc row) n)))

-- A scan that finds something may cost n more.
unfoldable if_found : ℕ → Found Lowest → ℕ
if_found n (Some x) = n
if_found n None = 0

found_most : (n : ℕ) (f : Found Lowest) → if_found n f ≤ n
unfolding if_found
found_most n (Some x) = omega arith
found_most n None = omega arith

-- The scan r, from m on, puts to sleep only; what it looks at is paid by what is owed less after it, but for `base` looks, and `extra` where it
-- finds a step.
record Costs (owed : List Bool → ℕ) (base extra : ℕ) (m : List Bool) (r : Scan) : Type 0 where
  pub less : Less r.awake m
  pub paid : r.looks + owed r.awake ≤ base + if_found extra r.found + owed m

-- One row of `most` numbers, where what one speaks for costs `size`.
module _ (row size most extra : ℕ) (below : ℕ → List Bool → Scan) (owed : List Bool → ℕ) (falls : (q m : List Bool) → Less q m → owed q ≤ owed m)
    (costs : (i : ℕ) (m : List Bool) → i < most → Costs owed size extra m (below i m)) where
  abbrev row_owes : List Bool → ℕ
  row_owes m = owed m + size * awake_in row most m

  row_costs : (n i : ℕ) (m : List Bool) → i + n ≤ most → Costs row_owes n (size + extra) m (row_from row below n i m)
  unfolding row_from if_found
  row_costs zero i m l = record { less = λ j e. e; paid = omega arith }
  row_costs (suc n) i m l = go (is_awake m (row + i)) refl (λ q. row_costs n (suc i) q (omega arith))
    where
      scans : (r : Scan) → Costs owed size extra m r → is_awake m (row + i) ≡ true
          → ((q : List Bool) → Costs row_owes n (size + extra) q (row_from row below n (suc i) q))
          → (f : Found Lowest) → r.found ≡ f → Costs row_owes (suc n) (size + extra) m (elim f [
            | Some x ↦ scan (Some x) r.awake (1 + r.looks)
            | None ↦ after (1 + r.looks) (row_from row below n (suc i) (set r.awake (row + i) false))
          ])
      scans r c e more (Some x) is =
          let paid = rw (is, if_found) at c.paid in
          let fewer = mul-le-mul_left size (less_awake r.awake m c.less row most) in
          record { less = c.less; paid = omega arith }
      scans r c e more None is =
          let q = set r.awake (row + i) false in
          let rest = more q in
          let less : Less q m = λ j a. c.less j (put_less r.awake (row + i) j a) in
          let paid = rw (is, if_found) at c.paid in
          let fewer = mul-le-mul_left size (fallen q m less (row + i) e (put_asleep r.awake (row + i)) row most (omega arith) (omega arith)) in
          let other = falls q r.awake (put_less r.awake (row + i)) in
          let then = rest.paid in
          record { less = λ j a. less j (rest.less j a); paid = omega arith }

      go : (b : Bool) → is_awake m (row + i) ≡ b → ((q : List Bool) → Costs row_owes n (size + extra) q (row_from row below n (suc i) q))
          → Costs row_owes (suc n) (size + extra) m (elim b [
            | false ↦ after 1 (row_from row below n (suc i) m)
            | true ↦ let r = below i m in elim r.found [
              | Some x ↦ scan (Some x) r.awake (1 + r.looks)
              | None ↦ after (1 + r.looks) (row_from row below n (suc i) (set r.awake (row + i) false))
            ]
          ])
      go true e more = scans (below i m) (costs i m (omega arith)) e more (below i m).found refl
      go false e more = let rest = more m in let then = rest.paid in record { less = rest.less; paid = omega arith }

-- In a pool of c slots: the blocks and the groups,
abbrev blocks : ℕ → ℕ
blocks c = 1 + block_of c

abbrev groups : ℕ → ℕ
groups c = 1 + block_of c / group_size

-- how many of their numbers are awake,
abbrev pub awake_blocks : ℕ → List Bool → ℕ
awake_blocks c m = awake_in 0 (blocks c) m

abbrev pub awake_groups : ℕ → List Bool → ℕ
awake_groups c m = awake_in (group_place 0) (groups c) m

-- and what is owed: what each speaks for.
abbrev pub owed : ℕ → List Bool → ℕ
owed c m = block_size * awake_blocks c m + group_size * awake_groups c m

-- one scan: the groups' numbers, the block and the group in which the step is found, and what is owed less
abbrev pub looks_scan : ℕ → ℕ
looks_scan c = 41 + c / 256

module _ (h : Header) (p : List ℕ) where
  block_costs : (b : ℕ) (m : List Bool) → Costs (λ q. 0) block_size 0 m (in_block h p b m)
  unfolding in_block
  block_costs b m = record { less = λ j e. e; paid = omega arith }

  group_costs : (g : ℕ) (m : List Bool) → g < groups (last_slot p)
      → Costs (λ q. 0 + block_size * awake_blocks (last_slot p) q) group_size block_size m (in_group h p g m)
  unfolding in_group
  group_costs g m l =
      let c = row_costs 0 block_size (blocks (last_slot p)) 0 (in_block h p) (λ q. 0) (λ q r f. omega arith) (λ b q i. block_costs b q)
      (blocks_in p g) (group_size * g) m (omega arith) in
      let paid = c.paid in
      record { less = c.less; paid = omega arith }

  pub scan_looks : (m : List Bool) → (first_awake h p m).looks + owed (last_slot p) (first_awake h p m).awake ≤ looks_scan (last_slot p) + owed (last_slot p) m
  unfolding first_awake
  scan_looks m =
      let last = last_slot p in
      let c = row_costs (group_place 0) group_size (groups last) block_size (in_group h p) (λ q. 0 + block_size * awake_blocks last q)
      (λ q r f. omega (arith, less_awake q r f 0 (blocks last))) group_costs (groups last) 0 m (omega arith) in
      omega (arith, c.paid, found_most (group_size + block_size) (first_awake h p m).found)

-- To wake a slot adds at most one to each row.
module _ (c : ℕ) (few : c ≤ most_slots) where
  wake_owes : (m : List Bool) (s : ℕ) → owed c (wake m s) ≤ 40 + owed c m
  unfolding wake
  wake_owes m s = go (eqb s 0)
    where
      b : ℕ
      b = block_of s

      m₁ : List Bool
      m₁ = set m b true

      more_blocks : awake_blocks c (wake_block m b) ≤ 1 + awake_blocks c m
      more_blocks = omega (arith, put_awake m b true 0 (blocks c), put_apart m₁ (group_place (b / group_size)) true 0 (blocks c) (λ j x y e. omega arith))

      -- A number past the blocks would be a group's: then the block's own group is past the groups.
      more_groups : Dec (b < most_blocks) → awake_groups c (wake_block m b) ≤ 1 + awake_groups c m
      more_groups (yes l) = omega (
        arith,
        put_apart m b true (group_place 0) (groups c) (λ j x y e. omega arith),
        put_awake m₁ (group_place (b / group_size)) true (group_place 0) (groups c),
      )
      more_groups (no l) = omega (
        arith,
        put_awake m b true (group_place 0) (groups c),
        put_apart m₁ (group_place (b / group_size)) true (group_place 0) (groups c) (λ j x y e. omega arith),
      )

      go : (t : Bool) → owed c (elim t [ true ↦ m | false ↦ wake_block m (block_of s) ]) ≤ 40 + owed c m
      go true = omega arith
      go false = omega (arith, more_blocks, more_groups (dec_lt b most_blocks))

  both_owe : (m : List Bool) (q : Pair) → owed c (wake_both m q) ≤ 80 + owed c m
  both_owe m q = omega (arith, wake_owes (wake m q.one) q.other, wake_owes m q.one)

  four_owe : (m : List Bool) (a b : Pair) → owed c (wake_both (wake_both m a) b) ≤ 160 + owed c m
  four_owe m a b = omega (arith, both_owe (wake_both m a) b, both_owe m a)

  pub woken_owes : (h : Header) (p : List ℕ) (s : ℕ) (k : Kind) (a : Around) (m : List Bool) → owed c (woken h p s k a m) ≤ 160 + owed c m
  unfolding woken
  woken_owes h p s k a m = four_owe m (woken_below k a) _

  pub way_owes : (root : ℕ) (p : List ℕ) (x : ℕ) (m : List Bool) → owed c (woken_way root p x m) ≤ 160 + owed c m
  unfolding woken_way
  way_owes root p x m = four_owe m _ _

-- the key or router of a root, in its words
key_root : (w : ℕ) (u : Tree) → (root_slot w u).key ≡ key_of u
unfolding key_of
key_root w (leaf s i) = refl
key_root w (node s i wl l wr r) = refl

-- A step that is allowed stands in the tree: the search for its router meets it.
module _ (S : State) (t : Tree) (sound : Sound S) (e : S.top ≡ full t) {h : Header} (p : List ℕ) (shows : Shows h p S) where
  hung_short : {s w g b : ℕ} {u : Tree} (n : ℕ) → HangsIn s w u g b t → kin_turns n p (slot_at p s).key s h.root < depth t
  hung_short {s} {w} {u = u} n hangs =
      let content = (holds_root (hangs_held hangs (shows_tree shows e))).content in
      let key : (slot_at p s).key ≡ key_of u = ap (λ v. (slot_at p v).key) (hangs_slot hangs) ∙ (ap (λ (c : Slot). c.key) content ∙ key_root w u) in
      rw (key, root_full shows e) (kin_short p n 0 key_end (shows_tree shows e) (tree_good S t sound e).ordered hangs)

  pub wake_looks_lem : (k : Kind) (s : ℕ) → allowed s k t ≡ true → wake_looks h p s k (around_at p s) ≤ 8 + depth t
  unfolding wake_looks around_of condition_at
  wake_looks_lem k s ok = go (parent_sees (slot_at p s).weight (weight_after k (slot_at p s).weight)) (locate s 1 t (holds_at_present (condition k) s 1 t c))
    where
      c : condition_at k s t ≡ true
      c = ((allowed_exactly s k t).0 ok).0

      go : (b : Bool) → Located s 1 t → 8 + elim b [ true ↦ kin_turns (last_slot p) p (slot_at p s).key s h.root | false ↦ 0 ] ≤ 8 + depth t
      go true (located at) = omega (arith, hung_short (last_slot p) (hang 0 0 at).hangs)
      go false i = omega arith

-- A settle that takes the trees us after t, with m awake at first: n looks for each step will do.
abbrev pub bounded : (c n : ℕ) → List Bool → Tree → List Tree → ℕ
bounded c n m t us = looks_scan c + owed c m + length us * n + depths (t ∷ us)

module _ (S : State) (n : ℕ) (enough : 168 + looks_scan S.slots ≤ n) where
  stands_scan : (P : Pool) (t : Tree) → Stands S P t
      → (scanned P).looks + owed S.slots (scanned P).awake ≤ looks_scan S.slots + owed S.slots P.awake
  stands_scan P t x = rw (last_slot_is x.sound x.shows) at (scan_looks P.header P.words P.awake)

  stands_looks : (budget : ℕ) (P : Pool) (t : Tree) → Stands S P t
      → looks_from budget P ≤ bounded S.slots n P.awake t (trees_after S.slots budget t)
  unfolding looks_from trees_after next_tree lowest_of depths
  stands_looks zero P t x = omega (arith, stands_scan P t x)
  stands_looks (suc b) P t x = rw (finds, looks_from) (go (lowest_step S.slots 1 t) refl (stands_looks b))
    where
      h : Header
      h = P.header

      p : List ℕ
      p = P.words

      m : List Bool
      m = (scanned P).awake

      finds : (scanned P).found ≡ lowest_of p (lowest_step S.slots 1 t)
      finds = awake_finds h p P.awake x.covered ∙ first_shows (with_tree S t) t x.sound refl p x.shows

      go : (o : Option (ℕ × Kind)) → lowest_step S.slots 1 t ≡ o
          → ((Q : Pool) (u : Tree) → Stands S Q u → looks_from b Q ≤ bounded S.slots n Q.awake u (trees_after S.slots b u))
          → (scanned P).looks + elim (lowest_of p o) [
            | Some x ↦ wake_looks h p x.slot x.kind x.around + looks_from b (pool_of (header_after x.kind x.slot h) (taken_words h.root p x.slot x.kind x.around) (woken h p x.slot x.kind x.around m))
            | None ↦ 0
          ] ≤ bounded S.slots n P.awake t (elim (elim o as (λ i. Option Tree) [ some a ↦ some (stepped a.1 a.0 t) | none ↦ none ]) [
            | some u ↦ u ∷ trees_after S.slots b u
            | none ↦ []
          ])
      go (some (s, k)) e rest =
          let ok = (lowest_is_allowed S.slots s k t e).is_allowed in
          omega (
            arith,
            stands_scan P t x,
            wake_looks_lem (with_tree S t) t x.sound refl p x.shows k s ok,
            woken_owes S.slots x.sound.few h p s k (around_at p s) m,
            rest _ _ (step_stands S P t x s k e),
          )
      go none e rest = omega (arith, stands_scan P t x)

-- From any beginning in which every slot that allows a step is awake.
module _ {h : Header} {p : List ℕ} {S : State} (sound : Sound S) (shows : Shows h p S) (m : List Bool) (covered : Cover h p m) (budget : ℕ) where
  pub looks_full : Long m → (t : Tree) → S.top ≡ full t
      → looks_from budget (pool_of h p m) ≤ bounded S.slots (looks_step S.slots) m t (trees_after S.slots budget t)
  looks_full long t e =
      let same : S ≡ with_tree S t = ap (λ T. state S.slots T S.free) e in
      stands_looks S (looks_step S.slots) (omega arith) budget (pool_of h p m) t
      (record { sound = rw same at sound; shows = rw same at shows; long = long; covered = covered })

  -- In an empty tree nothing is allowed: one scan.
  pub looks_empty : S.top ≡ empty → looks_from budget (pool_of h p m) ≤ looks_scan S.slots + owed S.slots m
  unfolding looks_from
  looks_empty e = go budget
    where
      first : (first_awake h p m).looks + owed S.slots (first_awake h p m).awake ≤ looks_scan S.slots + owed S.slots m
      first = rw (last_slot_is sound shows) at (scan_looks h p m)

      nothing : (first_awake h p m).found ≡ None
      nothing = awake_finds h p m covered ∙ nothing_empty sound shows e (last_slot p) 1

      go : (b : ℕ) → looks_from b (pool_of h p m) ≤ looks_scan S.slots + owed S.slots m
      go zero = omega (arith, first)
      go (suc b) = rw (nothing, looks_from) (omega (arith, first))

-- The command begins with every number awake.
all_owed : (c : ℕ) → c ≤ most_slots → looks_scan c + owed c all_awake ≤ looks_once c
all_owed c few = omega (arith, awake_most 0 (blocks c) all_awake, awake_most (group_place 0) (groups c) all_awake)

pub settle_looks_lem : {h : Header} {p : List ℕ} {S : State} → Sound S → Shows h p S → (t : Tree) → S.top ≡ full t → (budget : ℕ)
    → let us = trees_after S.slots budget t in settle_looks p h budget ≤ looks_once S.slots + length us * looks_step S.slots + depths (t ∷ us)
settle_looks_lem {h} {p} {S} sound shows t e b =
    let f = looks_full sound shows all_awake (all_covered h p) b (length-replicate {A = Bool} (most_blocks + most_groups) true) t e in
    omega (arith, f, all_owed S.slots sound.few)

pub settle_looks_empty : {h : Header} {p : List ℕ} {S : State} → Sound S → Shows h p S → S.top ≡ empty → (budget : ℕ)
    → settle_looks p h budget ≤ looks_once S.slots
settle_looks_empty {h} {p} {S} sound shows e b =
    omega (arith, looks_empty sound shows all_awake (all_covered h p) b e, all_owed S.slots sound.few)

-- A caller who knows of one update begins with every number asleep and wakes four slots.
in_none : (i : ℕ) → is_awake all_asleep i ≡ false
unfolding is_awake
in_none i = go (dec_lt i (most_blocks + most_groups))
  where
    go : Dec (i < most_blocks + most_groups) → get_or all_asleep i false ≡ false
    go (yes l) = rw (get_or-replicate {A = Bool} (most_blocks + most_groups) i false false l)
    go (no l) = rw (get_or-eq_default all_asleep false {n = i} (omega (arith, length-replicate {A = Bool} (most_blocks + most_groups) false)))

way_long : (root : ℕ) (p : List ℕ) (x : ℕ) (m : List Bool) → Long m → Long (woken_way root p x m)
unfolding woken_way
way_long root p x m l = both_long (wake_both m _) _ (both_long m _ l)

way_owed : (c : ℕ) → c ≤ most_slots → (root : ℕ) (p : List ℕ) (x : ℕ) → owed c (woken_way root p x all_asleep) ≤ 160
way_owed c few root p x =
    omega (arith, way_owes c few root p x all_asleep, none_awake all_asleep in_none 0 (blocks c), none_awake all_asleep in_none (group_place 0) (groups c))

pub settle_after_looks : {h : Header} {p : List ℕ} {S : State} → Sound S → Shows h p S → (x : ℕ) → Cover h p (woken_way h.root p x all_asleep)
    → (t : Tree) → S.top ≡ full t → (budget : ℕ)
    → let us = trees_after S.slots budget t in
    looks_from budget (pool_of h p (woken_way h.root p x all_asleep)) ≤ 201 + S.slots / 256 + length us * looks_step S.slots + depths (t ∷ us)
settle_after_looks {h} {p} {S} sound shows x covered t e b =
    let long = way_long h.root p x all_asleep (length-replicate {A = Bool} (most_blocks + most_groups) false) in
    let f = looks_full sound shows _ covered b long t e in
    omega (arith, f, way_owed S.slots sound.few h.root p x)

pub step_twice : (d : ℕ) → looks_step 16383 + d ≤ 2 * (looks_step 1023 + d)
step_twice d = omega arith
