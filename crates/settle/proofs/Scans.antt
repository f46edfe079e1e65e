-- The scans for the first allowed step, over kinds, slots and rows of numbers, and the search for a slot's parent, turn by turn: what comes of
-- them from here is what comes from the next turn.
-- Assumes nothing.
use Rattle.std.proofs.Common.{◌≡◌, ℕ, zero, suc, ◌+◌, ◌-◌, ◌*◌, ◌/◌, true, false, ◌≢◌, List, [], ◌∷◌, set, sym, refl, ap, ◌∙◌, add-one, arith, eq-eqb, ne_eqb, ◌&&◌}
use mathlib.Core.Option.{Option, none, some}
use mathlib.Core.Bool.{Bool, and-true, and-false}
use Rattle.std.specs.List.{find}
use Rattle.tree.specs.declared.Kind.{Kind}
use Rattle.tree.specs.Codes.{kinds}
use Rattle.format.specs.declared.Slot.{Slot}
use Rattle.format.specs.declared.Header.{Header}
use Rattle.format.specs.Words.{slot_at, last_slot}
use Rattle.kinds.specs.declared.Around.{Around}
use Rattle.kinds.specs.Around.{around_of, around_at}
use Rattle.updates.specs.Updating.{toward}
use Rattle.steps.specs.Steps as around
use Rattle.steps.specs.Steps.{inner_slot, inner_at, lowest, lowest_around}
use Rattle.steps.proofs.Scan.{option_of}
use Rattle.steps.specs.declared.Lowest.{Lowest}
use Rattle.std.specs.Prelude.{Option as Found, Some, None, cond}
use Rattle.settle.specs.Awake.{block_size, group_size, block_of, group_place, is_awake}
use Rattle.settle.specs.Scanning.{slot_counts, allowed_around, allowed_words, first_kind, first_from, Scan, scan, after, row_from, in_block, blocks_in, in_group, first_awake}
use Rattle.settle.specs.Waking.{two, kin_from}

module _ (h : Header) (p : List ℕ) (s : ℕ) where
  -- where no kind is allowed none is found
  pub all_false : (ks : List Kind) → ((k : Kind) → allowed_words k h p s ≡ false) → first_kind ks h p s ≡ none
  unfolding first_kind
  all_false [] f = refl
  all_false (k ∷ ks) f = rw (f k, first_kind) (all_false ks f)

  -- what the code sees at slot s: its words c, and a around it
  module _ (c : Slot) (is : c ≡ slot_at p s) where
    kinds_none : inner_slot p s c ≡ false → first_kind kinds h p s ≡ none
    unfolding allowed_words
    kinds_none e = all_false kinds (λ k. rw (rw is at e))

    -- and at an inner node the kinds that are allowed are those that are allowed around it, where the slot counts
    allowed_here : inner_slot p s c ≡ true → {a : Around} → a ≡ around_of p c → (k : Kind) → (around.allowed_around k h s a && slot_counts h p s) ≡ allowed_words k h p s
    unfolding allowed_words allowed_around around.allowed_around
    allowed_here i {a} e k =
        let inner : inner_at p s ≡ true = rw is at i in
        let same : a ≡ around_at p s = rw (e, is) in
        rw (inner, same)

    module _ (n m : ℕ) (more : n ≡ m + 1) where
      pub slots_bare : inner_slot p s c ≡ false → first_from n h p s ≡ first_from m h p (s + 1)
      unfolding first_from
      slots_bare i = rw (more, add-one m, kinds_none i, first_from, add-one s)

      module _ (i : inner_slot p s c ≡ true) {a : Around} (e : a ≡ around_of p c) where
        counts_here : slot_counts h p s ≡ true → first_kind kinds h p s ≡ option_of (lowest_around h s a)
        unfolding first_kind option_of lowest_around
        counts_here t = go kinds
          where
            go : (ks : List Kind) → first_kind ks h p s ≡ option_of (find (λ k. around.allowed_around k h s a) ks)
            go [] = refl
            go (k ∷ ks) =
                let allowed : around.allowed_around k h s a ≡ allowed_words k h p s = rw (t, and-true) at (allowed_here i e k) in
                rw allowed (each (allowed_words k h p s) (find (λ j. around.allowed_around j h s a) ks) (go ks))
              where
                each : (b : Bool) {o : Option Kind} (q : Found Kind) → o ≡ option_of q → elim b [ true ↦ some k | false ↦ o ] ≡ option_of (cond b (Some k) q)
                each true q f = refl
                each false q f = f

        pub slots_here : (k : Kind) → lowest_around h s a ≡ Some k → slot_counts h p s ≡ true → first_from n h p s ≡ Some (lowest s k a)
        unfolding first_from option_of
        slots_here k f t =
            let here : first_kind kinds h p s ≡ some k = counts_here t ∙ ap option_of f in
            let around : around_at p s ≡ a = rw (e, is) in
            rw (more, add-one m, here, first_from, around)

        pub slots_skipped : slot_counts h p s ≡ false → first_from n h p s ≡ first_from m h p (s + 1)
        unfolding first_from
        slots_skipped t =
            let here : first_kind kinds h p s ≡ none = all_false kinds (λ k. sym (rw (t, and-false) at (allowed_here i e k))) in
            rw (more, add-one m, here, first_from, add-one s)

        -- no kind fits, or the slot does not count
        pub slots_next : lowest_around h s a ≡ None → first_from n h p s ≡ first_from m h p (s + 1)
        unfolding first_from option_of
        slots_next f = go (slot_counts h p s) refl
          where
            go : (b : Bool) → slot_counts h p s ≡ b → first_from n h p s ≡ first_from m h p (s + 1)
            go true t = let here : first_kind kinds h p s ≡ none = counts_here t ∙ ap option_of f in rw (more, add-one m, here, first_from, add-one s)
            go false t = slots_skipped t

pub slots_end : (h : Header) (p : List ℕ) (n s : ℕ) → n ≡ 0 → first_from n h p s ≡ None
unfolding first_from
slots_end h p n s e = rw e

-- A row of numbers, at the number i: it is asleep, what it speaks for allows a step, or allows nothing; and the row's end.
module _ (row : ℕ) (below : ℕ → List Bool → Scan) (n m i : ℕ) (q : List Bool) where
  pub row_asleep : n ≡ m + 1 → is_awake q (row + i) ≡ false → row_from row below n i q ≡ after 1 (row_from row below m (i + 1) q)
  unfolding row_from
  row_asleep e f = rw (e, add-one m, f, row_from, add-one i)

  pub row_found : n ≡ m + 1 → is_awake q (row + i) ≡ true → (x : Lowest) → (below i q).found ≡ Some x
      → row_from row below n i q ≡ scan (Some x) (below i q).awake (1 + (below i q).looks)
  unfolding row_from
  row_found e f x g = rw (e, add-one m, f, row_from, g)

  pub row_nothing : n ≡ m + 1 → is_awake q (row + i) ≡ true → (below i q).found ≡ None
      → row_from row below n i q ≡ after (1 + (below i q).looks) (row_from row below m (i + 1) (set (below i q).awake (row + i) false))
  unfolding row_from
  row_nothing e f g = rw (e, add-one m, f, row_from, g, add-one i)

pub row_end : (row : ℕ) (below : ℕ → List Bool → Scan) (n i : ℕ) (q : List Bool) → n ≡ 0 → row_from row below n i q ≡ scan None q 0
unfolding row_from
row_end row below n i q e = rw e

-- A search for x that is to meet slot s: it meets it, goes on, or has gone down as far as it may.
pub kin_met : (n : ℕ) (q : List ℕ) (x s g p v : ℕ) → v ≡ s → kin_from n q x s g p v ≡ two p g
unfolding kin_from
kin_met zero q x s g p v e = refl
kin_met (suc n) q x s g p v e = rw (eq-eqb v s e, kin_from)

pub kin_on : (n m : ℕ) (q : List ℕ) (x s g p v : ℕ) → n ≡ m + 1 → v ≢ s → kin_from n q x s g p v ≡ kin_from m q x s p v (toward x (slot_at q v))
unfolding kin_from
kin_on n m q x s g p v e f = rw (e, add-one m, ne_eqb v s f, kin_from)

pub kin_end : (n : ℕ) (q : List ℕ) (x s g p v : ℕ) → n ≡ 0 → kin_from n q x s g p v ≡ two p g
unfolding kin_from
kin_end n q x s g p v e = rw e

-- Two scans that find the same and leave the same awake; they may look at more or less.
pub record Same (r q : Scan) : Type 0 where
  pub finds : r.found ≡ q.found
  pub leaves : r.awake ≡ q.awake

-- A row from here goes as the scan R: so does what is left of it. Its next number stands at the place j.
module _ (row : ℕ) (below : ℕ → List Bool → Scan) (n m i : ℕ) (q : List Bool) (R : Scan) (same : Same (row_from row below n i q) R) where
  module _ (j : ℕ) (place : j ≡ row + i) where
    pub same_asleep : n ≡ m + 1 → is_awake q j ≡ false → Same (row_from row below m (i + 1) q) R
    same_asleep e f =
        let x = row_asleep row below n m i q e (rw place at f) in
        record { finds = sym (ap (λ (r : Scan). r.found) x) ∙ same.finds; leaves = sym (ap (λ (r : Scan). r.awake) x) ∙ same.leaves }

    pub same_nothing : n ≡ m + 1 → is_awake q j ≡ true → (below i q).found ≡ None → {q' : List Bool} → q' ≡ set (below i q).awake j false
        → Same (row_from row below m (i + 1) q') R
    same_nothing e f g z =
        let x = row_nothing row below n m i q e (rw place at f) g in
        rw (z, place) record { finds = sym (ap (λ (r : Scan). r.found) x) ∙ same.finds; leaves = sym (ap (λ (r : Scan). r.awake) x) ∙ same.leaves }

    pub same_found : n ≡ m + 1 → is_awake q j ≡ true → (x : Lowest) → (below i q).found ≡ Some x
        → ((below i q).found ≡ R.found) × ((below i q).awake ≡ R.awake)
    same_found e f x g =
        let y = row_found row below n m i q e (rw place at f) x g in
        (g ∙ (sym (ap (λ (r : Scan). r.found) y) ∙ same.finds), sym (ap (λ (r : Scan). r.awake) y) ∙ same.leaves)

  pub same_end : n ≡ 0 → (None ≡ R.found) × (q ≡ R.awake)
  same_end e =
      let x = row_end row below n i q e in
      (sym (ap (λ (r : Scan). r.found) x) ∙ same.finds, sym (ap (λ (r : Scan). r.awake) x) ∙ same.leaves)

-- what the code finds in a block, whose slots it knows by the first and the one after the last
pub block_found : (h : Header) (p : List ℕ) (b : ℕ) (m : List Bool) → (in_block h p b m).found ≡ first_from (block_size * b + block_size - block_size * b) h p (block_size * b)
unfolding in_block
block_found h p b m = let e : block_size * b + block_size - block_size * b ≡ block_size = omega arith in rw e

pub block_leaves : (h : Header) (p : List ℕ) (b : ℕ) (m : List Bool) → (in_block h p b m).awake ≡ m
unfolding in_block
block_leaves h p b m = refl

pub group_begins : (h : Header) (p : List ℕ) (g : ℕ) (m : List Bool) {n i : ℕ} → n ≡ blocks_in p g → i ≡ group_size * g
    → Same (row_from 0 (in_block h p) n i m) (in_group h p g m)
unfolding in_group
group_begins h p g m e f = rw (e, f) record { finds = refl; leaves = refl }

pub groups_begin : (h : Header) (p : List ℕ) (m : List Bool) {n i : ℕ} → n ≡ 1 + block_of (last_slot p) / group_size → i ≡ 0
    → Same (row_from (group_place 0) (in_group h p) n i m) (first_awake h p m)
unfolding first_awake
groups_begin h p m e f = rw (e, f) record { finds = refl; leaves = refl }
