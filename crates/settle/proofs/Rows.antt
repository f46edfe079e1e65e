-- The scan of what is awake finds what a scan of all slots would (`awake_finds`), if every slot that allows a step is awake; and then it is so
-- after it too, since what it puts to sleep allows nothing (`awake_kept`). On any words.
-- Why: a scan of a range is a scan of its first part and, if that finds nothing, of the rest (`from_append`). A block or group that is asleep allows
-- nothing, and neither does slot 0 nor a slot after the last one. By induction on the numbers of a row, once for both rows (`row_finds`).
-- Assumes nothing.
use Rattle.std.proofs.Common.{◌≡◌, ℕ, zero, suc, ◌+◌, ◌-◌, ◌*◌, ◌/◌, ◌<◌, ◌≤◌, Bool, true, false, ◌≢◌, List, [], ◌∷◌, length, set, sym, refl, ap, ◌∙◌, arith, get_or-set_other, leb-true}
use mathlib.Core.Bool.{false≢true, and-eq-true_iff}
use mathlib.Core.Option.{Option, none, some}
use Rattle.tree.specs.declared.Kind.{Kind}
use Rattle.tree.specs.Codes.{kinds, kind_number}
use Rattle.tree.proofs.Tables.{Numbered}
use Rattle.tree.proofs.KindNumbers.{named_known, named_within, kinds_numbered}
use Rattle.tree.proofs.Tests.{same_or_not}
use Rattle.format.specs.declared.Header.{Header}
use Rattle.format.specs.Words.{last_slot}
use Rattle.kinds.specs.Around.{around_at}
use Rattle.steps.specs.Steps.{inner_slot, lowest}
use Rattle.steps.specs.declared.Lowest.{Lowest}
use Rattle.std.specs.Prelude.{Option as Found, Some, None}
use Rattle.settle.specs.Awake.{block_size, group_size, block_of, most_blocks, most_groups, group_place, is_awake}
use Rattle.settle.specs.Scanning.{allowed_words, first_kind, first_from, first_allowed, Scan, scan, after, row_from, in_block, blocks_in, in_group, first_awake}
use Rattle.settle.proofs.Scans.{all_false}

-- of two ranges, the first in which a step is found
unfoldable or_else : Found Lowest → Found Lowest → Found Lowest
or_else (Some x) f = Some x
or_else None f = f

-- the number of a block and of its group are those of a slot
pub record Awake (m : List Bool) (x : ℕ) : Type 0 where
  pub block : is_awake m (block_of x) ≡ true
  pub group : is_awake m (group_place (block_of x / group_size)) ≡ true

still_awake : (m : List Bool) (i j : ℕ) → j ≢ i → is_awake m j ≡ true → is_awake (set m i false) j ≡ true
unfolding is_awake
still_awake m i j n e = rw (get_or-set_other m i j false false n) e

module _ (h : Header) (p : List ℕ) where
  -- every slot that allows a step is awake
  abbrev pub Cover : List Bool → Type 0
  Cover m = (x : ℕ) (k : Kind) → allowed_words k h p x ≡ true → Awake m x

  -- no step is allowed at the n slots from s on
  abbrev Quiet : (n s : ℕ) → Type 0
  Quiet n s = (x : ℕ) (k : Kind) → s ≤ x → x < s + n → allowed_words k h p x ≡ false

  -- "from 1 to C"
  pub allowed_slot : (x : ℕ) (k : Kind) → allowed_words k h p x ≡ true → (1 ≤ x) × (x ≤ last_slot p)
  unfolding allowed_words inner_slot
  allowed_slot x k e =
      let inner = (simp and-eq-true_iff at e) in
      (leb-true 1 x inner.0.0.0, leb-true x (last_slot p) inner.0.0.1)

  -- where none of the kinds numbered from n on is found, none of them is allowed
  none_of : (n : ℕ) (ks : List Kind) → Numbered kind_number n ks → (s : ℕ) → first_kind ks h p s ≡ none → (j : Kind) → n ≤ kind_number j → kind_number j < n + length ks
      → allowed_words j h p s ≡ false
  unfolding first_kind
  none_of n [] z s e j a b = absurd (omega arith)
  none_of n (k ∷ ks) z s e j a b = go (allowed_words k h p s) refl e (none_of (suc n) ks z.1 s)
    where
      go : (c : Bool) → allowed_words k h p s ≡ c → ◌≡◌ {A = Option Kind} (elim c [ true ↦ some k | false ↦ first_kind ks h p s ]) none
          → (first_kind ks h p s ≡ none → (i : Kind) → suc n ≤ kind_number i → kind_number i < suc n + length ks → allowed_words i h p s ≡ false) → allowed_words j h p s ≡ false
      go true f g rest = let bad : ◌≡◌ {A = ℕ} 0 1 = cc in absurd (omega arith)
      go false f g rest = same_or_not (kind_number j) n
          (λ i. let same : j ≡ k = cc (named_known j, named_known k, z.0) in rw same f)
          (λ d. rest g j (omega arith) (omega arith))

  none_at : (s : ℕ) → first_kind kinds h p s ≡ none → (j : Kind) → allowed_words j h p s ≡ false
  none_at s e j = let w = named_within (kind_number j) j (named_known j) in none_of 1 kinds kinds_numbered s e j w.0 (omega arith)

  -- A scan of a range finds nothing where nothing is allowed, and only there.
  quiet_none : (n s : ℕ) → Quiet n s → first_from n h p s ≡ None
  unfolding first_from
  quiet_none zero s q = refl
  quiet_none (suc n) s q =
      rw (all_false h p s kinds (λ k. q s k (omega arith) (omega arith)), first_from) (quiet_none n (suc s) (λ x k a b. q x k (omega arith) (omega arith)))

  none_quiet : (n s : ℕ) → first_from n h p s ≡ None → Quiet n s
  unfolding first_from
  none_quiet zero s e x k a b = absurd (omega arith)
  none_quiet (suc n) s e x k a b = go (first_kind kinds h p s) refl e (none_quiet n (suc s))
    where
      go : (o : Option Kind) → first_kind kinds h p s ≡ o → ◌≡◌ {A = Found Lowest} (elim o [ some j ↦ Some (lowest s j (around_at p s)) | none ↦ first_from n h p (suc s) ]) None
          → (first_from n h p (suc s) ≡ None → Quiet n (suc s)) → allowed_words k h p x ≡ false
      go (some j) f g rest = let bad : ◌≡◌ {A = ℕ} 0 1 = cc in absurd (omega arith)
      go none f g rest = same_or_not x s (λ i. rw i (none_at s f k)) (λ d. rest g x k (omega arith) (omega arith))

  from_append : (m n s : ℕ) → first_from (m + n) h p s ≡ or_else (first_from m h p s) (first_from n h p (s + m))
  unfolding first_from or_else
  from_append zero n s = let e : s + 0 ≡ s = omega arith in let z : 0 + n ≡ n = omega arith in rw (e, z)
  from_append (suc m) n s = let e : suc m + n ≡ suc (m + n) = omega arith in rw e (go (first_kind kinds h p s) (from_append m n (suc s)))
    where
      same : suc s + m ≡ s + suc m
      same = omega arith

      go : (o : Option Kind) → first_from (m + n) h p (suc s) ≡ or_else (first_from m h p (suc s)) (first_from n h p (suc s + m))
          → elim o [ some k ↦ Some (lowest s k (around_at p s)) | none ↦ first_from (m + n) h p (suc s) ]
          ≡ or_else (elim o [ some k ↦ Some (lowest s k (around_at p s)) | none ↦ first_from m h p (suc s) ]) (first_from n h p (s + suc m))
      go (some k) rest = refl
      go none rest = rest ∙ ap (λ i. or_else (first_from m h p (suc s)) (first_from n h p i)) same

  -- a range whose end allows nothing, and one whose beginning does
  quiet_end : (m n s : ℕ) → Quiet n (s + m) → first_from (m + n) h p s ≡ first_from m h p s
  unfolding or_else
  quiet_end m n s q = rw (from_append m n s, quiet_none n (s + m) q) (go (first_from m h p s))
    where
      go : (f : Found Lowest) → or_else f None ≡ f
      go (Some x) = refl
      go None = refl

  quiet_start : (m n s : ℕ) → Quiet m s → first_from (m + n) h p s ≡ first_from n h p (s + m)
  unfolding or_else
  quiet_start m n s q = rw (from_append m n s, quiet_none m s q)

  -- a scan that finds what a scan of all n slots from s on would, and leaves every slot awake that allows a step
  record Finds (n s : ℕ) (r : Scan) : Type 0 where
    pub same : r.found ≡ first_from n h p s
    pub kept : Cover r.awake

  -- One row. Its number i speaks for the `size` slots from size * i on.
  module _ (row size most : ℕ) (below : ℕ → List Bool → Scan)
      (speaks : (m : List Bool) (i x : ℕ) → i < most → size * i ≤ x → x < size * i + size → Awake m x → is_awake m (row + i) ≡ true)
      (sleeps : (m : List Bool) (i : ℕ) → i < most → Quiet size (size * i) → Cover m → Cover (set m (row + i) false))
      (finds : (m : List Bool) (i : ℕ) → i < most → Cover m → Finds size (size * i) (below i m)) where
    row_finds : (n i : ℕ) (m : List Bool) → i + n ≤ most → Cover m → Finds (n * size) (size * i) (row_from row below n i m)
    unfolding row_from first_from or_else
    row_finds zero i m l cover = let z : 0 * size ≡ 0 = omega arith in record { same = rw z; kept = cover }
    row_finds (suc n) i m l cover = go (is_awake m (row + i)) refl (λ q k. row_finds n (suc i) q (omega arith) k)
      where
        next : size * suc i ≡ size * i + size
        next = omega arith

        parts : suc n * size ≡ size + n * size
        parts = omega arith

        -- this number's slots allow nothing, and then the rest
        rest : Quiet size (size * i) → {r : Scan} → Finds (n * size) (size * suc i) r → (j : ℕ) → Finds (suc n * size) (size * i) (after j r)
        rest q f j = record { same = f.same ∙ (ap (first_from (n * size) h p) next ∙ (sym (quiet_start size (n * size) (size * i) q) ∙ ap (λ a. first_from a h p (size * i)) (sym parts))); kept = f.kept }

        asleep : is_awake m (row + i) ≡ false → Quiet size (size * i)
        asleep e x k a b = go (allowed_words k h p x) refl
          where
            go : (c : Bool) → allowed_words k h p x ≡ c → c ≡ false
            go true f = absurd (false≢true (sym e ∙ speaks m i x (omega arith) a b (cover x k f)))
            go false f = refl

        scans : (r : Scan) → Finds size (size * i) r → ((q : List Bool) → Cover q → Finds (n * size) (size * suc i) (row_from row below n (suc i) q))
            → (f : Found Lowest) → r.found ≡ f → Finds (suc n * size) (size * i) (elim f [
              | Some x ↦ scan (Some x) r.awake (1 + r.looks)
              | None ↦ after (1 + r.looks) (row_from row below n (suc i) (set r.awake (row + i) false))
            ])
        scans r f more (Some x) e = record {
          same = ap (λ g. or_else g (first_from (n * size) h p (size * i + size))) (sym e ∙ f.same) ∙ (sym (from_append size (n * size) (size * i)) ∙ ap (λ a. first_from a h p (size * i)) (sym parts));
          kept = f.kept;
        }
        scans r f more None e =
            let q = none_quiet size (size * i) (sym f.same ∙ e) in
            rest q (more _ (sleeps r.awake i (omega arith) q f.kept)) (1 + r.looks)

        go : (b : Bool) → is_awake m (row + i) ≡ b → ((q : List Bool) → Cover q → Finds (n * size) (size * suc i) (row_from row below n (suc i) q))
            → Finds (suc n * size) (size * i) (elim b [
              | false ↦ after 1 (row_from row below n (suc i) m)
              | true ↦ let r = below i m in elim r.found [
                | Some x ↦ scan (Some x) r.awake (1 + r.looks)
                | None ↦ after (1 + r.looks) (row_from row below n (suc i) (set r.awake (row + i) false))
              ]
            ])
        go true e more = scans (below i m) (finds m i (omega arith) cover) more (below i m).found refl
        go false e more = rest (asleep e) (more m cover) 1

  -- the blocks of a group
  block_sleeps : (m : List Bool) (i : ℕ) → i < most_blocks → Quiet block_size (block_size * i) → Cover m → Cover (set m (0 + i) false)
  block_sleeps m i l q cover x k e =
      let a = cover x k e in
      let other : block_of x ≢ 0 + i = λ same. false≢true (sym (q x k (omega arith) (omega arith)) ∙ e) in
      record { block = still_awake m (0 + i) (block_of x) other a.block; group = still_awake m (0 + i) (group_place (block_of x / group_size)) (λ same. omega arith) a.group }

  block_finds : (m : List Bool) (i : ℕ) → Cover m → Finds block_size (block_size * i) (in_block h p i m)
  unfolding in_block
  block_finds m i cover = record { same = refl; kept = cover }

  blocks_find : (n i : ℕ) (m : List Bool) → i + n ≤ most_blocks → Cover m → Finds (n * block_size) (block_size * i) (row_from 0 (in_block h p) n i m)
  blocks_find n i m l cover = row_finds 0 block_size most_blocks (in_block h p)
      (λ q j x b from to a. let e : block_of x ≡ 0 + j = omega arith in rw (sym e) a.block)
      block_sleeps (λ q j b c. block_finds q j c) n i m l cover

  -- A slot after the last one allows nothing.
  beyond : (n s : ℕ) → last_slot p < s → Quiet n s
  beyond n s l x k a b = go (allowed_words k h p x) refl
    where
      go : (c : Bool) → allowed_words k h p x ≡ c → c ≡ false
      go true e = absurd (omega (arith, allowed_slot x k e))
      go false e = refl

  -- the slots of a group
  abbrev group_slots : ℕ
  group_slots = block_size * group_size

  group_sleeps : (m : List Bool) (g : ℕ) → g < most_groups → Quiet group_slots (group_slots * g) → Cover m → Cover (set m (group_place 0 + g) false)
  group_sleeps m g l q cover x k e =
      let a = cover x k e in
      let inside = allowed_slot x k e in
      let other : group_place (block_of x / group_size) ≢ group_place 0 + g = λ same. false≢true (sym (q x k (omega arith) (omega arith)) ∙ e) in
      record { block = still_awake m (group_place 0 + g) (block_of x) (λ same. omega arith) a.block; group = still_awake m (group_place 0 + g) _ other a.group }

  -- the blocks of a group after that of the last slot are not scanned
  group_finds : (m : List Bool) (g : ℕ) → g < most_groups → Cover m → Finds group_slots (group_slots * g) (in_group h p g m)
  unfolding in_group
  group_finds m g l cover =
      let f = blocks_find (blocks_in p g) (group_size * g) m (omega arith) cover in
      let rest = group_slots - blocks_in p g * block_size in
      let whole : blocks_in p g * block_size + rest ≡ group_slots = omega arith in
      let start : block_size * (group_size * g) ≡ group_slots * g = omega arith in
      record { same = f.same ∙ (ap (first_from (blocks_in p g * block_size) h p) start ∙ (sym (quiet_end (blocks_in p g * block_size) rest (group_slots * g) after_last) ∙ ap (λ n. first_from n h p (group_slots * g)) whole)); kept = f.kept }
    where
      after_last : Quiet (group_slots - blocks_in p g * block_size) (group_slots * g + blocks_in p g * block_size)
      after_last x k a b = beyond (group_slots - blocks_in p g * block_size) (group_slots * g + blocks_in p g * block_size) (omega arith) x k a b

  module _ (m : List Bool) (cover : Cover m) where
    finds_first : Finds (last_slot p) 1 (first_awake h p m)
    unfolding first_awake
    finds_first =
        let groups = 1 + block_of (last_slot p) / group_size in
        let f = row_finds (group_place 0) group_slots most_groups (in_group h p)
        (λ q g x b from to a. let e : group_place (block_of x / group_size) ≡ group_place 0 + g = omega arith in rw (sym e) a.group)
        group_sleeps group_finds groups 0 m (omega arith) cover in
        let rest = groups * group_slots - (1 + last_slot p) in
        let whole : 1 + (last_slot p + rest) ≡ groups * group_slots = omega arith in
        record {
          same = f.same ∙ (ap (λ n. first_from n h p 0) (sym whole)
              ∙ (quiet_start 1 (last_slot p + rest) 0 zero_quiet ∙ quiet_end (last_slot p) rest 1 (beyond rest (1 + last_slot p) (omega arith))));
          kept = f.kept;
        }
      where
        -- "0 is no slot."
        zero_quiet : Quiet 1 0
        zero_quiet x k a b = go (allowed_words k h p x) refl
          where
            go : (c : Bool) → allowed_words k h p x ≡ c → c ≡ false
            go true e = absurd (omega (arith, allowed_slot x k e))
            go false e = refl

    pub awake_finds : (first_awake h p m).found ≡ first_allowed h p
    awake_finds = finds_first.same

    pub awake_kept : Cover (first_awake h p m).awake
    awake_kept = finds_first.kept
