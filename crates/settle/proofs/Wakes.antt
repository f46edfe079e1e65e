-- What is awake stays awake when something is woken (`wake_grows`), and a slot that is woken is (`wake_wakes`); neither a scan nor a waking
-- changes how many numbers there are (`scan_long`, `wake_long`). Assumes nothing.
use Rattle.std.proofs.Common.{◌≡◌, ℕ, zero, suc, ◌+◌, ◌/◌, ◌<◌, ◌≤◌, Bool, true, false, eqb, List, length, get_or, set, ◌∙◌, arith, length-set, get_or-set_other, get_or-set_same, ne_eqb}
use mathlib.Core.Bool.{false≢true}
use native.Mathlib.Decide.{dec_lt}
use lib.ListN.{get_or-eq_default}
use Rattle.tree.specs.Codes.{most_slots}
use Rattle.tree.proofs.Tests.{same_or_not}
use Rattle.format.specs.declared.Header.{Header}
use Rattle.steps.specs.declared.Lowest.{Lowest}
use Rattle.std.specs.Prelude.{Option as Found, Some, None}
use Rattle.settle.specs.declared.Pair.{Pair}
use Rattle.settle.specs.Awake.{group_size, block_of, most_blocks, most_groups, group_place, is_awake, wake_block, wake}
use Rattle.settle.specs.Scanning.{Scan, scan, after, row_from, in_block, in_group, first_awake}
use Rattle.settle.specs.Waking.{wake_both}
use Rattle.settle.proofs.Rows.{Awake}

-- as many numbers as there are blocks and groups
abbrev pub Long : List Bool → Type 0
Long m = length m ≡ most_blocks + most_groups

put_grows : (m : List Bool) (i j : ℕ) → is_awake m j ≡ true → is_awake (set m i true) j ≡ true
unfolding is_awake
put_grows m i j e = same_or_not j i
    (λ s. go (dec_lt j (length m)) s)
    (λ n. rw (get_or-set_other m i j true false n) e)
  where
    go : Dec (j < length m) → j ≡ i → get_or (set m i true) j false ≡ true
    go (yes l) s = rw (← s, get_or-set_same m j true false l)
    go (no l) s = let past : get_or m j false ≡ false = get_or-eq_default m false (omega arith) in absurd (false≢true (rw past at e))

put_wakes : (m : List Bool) (i : ℕ) → i < length m → is_awake (set m i true) i ≡ true
unfolding is_awake
put_wakes m i l = rw (get_or-set_same m i true false l)

block_grows : (m : List Bool) (b j : ℕ) → is_awake m j ≡ true → is_awake (wake_block m b) j ≡ true
block_grows m b j e = put_grows (set m b true) (group_place (b / group_size)) j (put_grows m b j e)

pub wake_grows : (m : List Bool) (s x : ℕ) → Awake m x → Awake (wake m s) x
unfolding wake
wake_grows m s x a = go (eqb s 0)
  where
    go : (b : Bool) → Awake (elim b [ true ↦ m | false ↦ wake_block m (block_of s) ]) x
    go true = a
    go false = record { block = block_grows m (block_of s) _ a.block; group = block_grows m (block_of s) _ a.group }

pub wake_wakes : (m : List Bool) (s : ℕ) → Long m → 1 ≤ s → s ≤ most_slots → Awake (wake m s) s
unfolding wake
wake_wakes m s l a b =
    let long : length (set m (block_of s) true) ≡ most_blocks + most_groups = length-set m (block_of s) true ∙ l in
    rw (ne_eqb s 0 (λ e. omega arith), wake) (record {
      block = put_grows (set m (block_of s) true) _ _ (put_wakes m (block_of s) (omega arith));
      group = put_wakes (set m (block_of s) true) _ (omega arith);
    })

pub wake_long : (m : List Bool) (s : ℕ) → Long m → Long (wake m s)
unfolding wake
wake_long m s l = go (eqb s 0)
  where
    go : (b : Bool) → Long (elim b [ true ↦ m | false ↦ wake_block m (block_of s) ])
    go true = l
    go false = length-set (set m (block_of s) true) _ true ∙ (length-set m (block_of s) true ∙ l)

-- two slots
module _ (m : List Bool) (c : Pair) where
  pub both_long : Long m → Long (wake_both m c)
  both_long l = wake_long (wake m c.one) c.other (wake_long m c.one l)

  pub both_grow : (x : ℕ) → Awake m x → Awake (wake_both m c) x
  both_grow x a = wake_grows (wake m c.one) c.other x (wake_grows m c.one x a)

  pub one_wakes : Long m → {n : ℕ} → c.one ≡ n → 1 ≤ n → n ≤ most_slots → Awake (wake_both m c) n
  one_wakes l {n} is a b = wake_grows (wake m c.one) c.other n (rw is (wake_wakes m n l a b))

  pub other_wakes : Long m → {n : ℕ} → c.other ≡ n → 1 ≤ n → n ≤ most_slots → Awake (wake_both m c) n
  other_wakes l {n} is a b = rw is (wake_wakes (wake m c.one) n (wake_long m c.one l) a b)

-- scans
abbrev LongAfter : Scan → Type 0
LongAfter r = Long r.awake

row_long : (row : ℕ) (below : ℕ → List Bool → Scan) → ((i : ℕ) (m : List Bool) → Long m → Long (below i m).awake)
    → (n i : ℕ) (m : List Bool) → Long m → Long (row_from row below n i m).awake
unfolding row_from
row_long row below f zero i m l = l
row_long row below f (suc n) i m l = go (is_awake m (row + i)) (row_long row below f n (suc i))
  where
    scans : (r : Scan) → Long r.awake → ((q : List Bool) → Long q → Long (row_from row below n (suc i) q).awake) → (o : Found Lowest)
        → LongAfter (elim o [
          | Some x ↦ scan (Some x) r.awake (1 + r.looks)
          | None ↦ after (1 + r.looks) (row_from row below n (suc i) (set r.awake (row + i) false))
        ])
    scans r k rest (Some x) = k
    scans r k rest None = rest _ (length-set r.awake (row + i) false ∙ k)

    go : (b : Bool) → ((q : List Bool) → Long q → Long (row_from row below n (suc i) q).awake) → LongAfter (elim b [
      | false ↦ after 1 (row_from row below n (suc i) m)
      | true ↦ let r = below i m in elim r.found [
        | Some x ↦ scan (Some x) r.awake (1 + r.looks)
        | None ↦ after (1 + r.looks) (row_from row below n (suc i) (set r.awake (row + i) false))
      ]
    ])
    go true rest = scans (below i m) (f i m l) rest (below i m).found
    go false rest = rest m l

pub scan_long : (h : Header) (p : List ℕ) (m : List Bool) → Long m → Long (first_awake h p m).awake
unfolding first_awake in_group in_block
scan_long h p m l = row_long (group_place 0) (in_group h p) (λ g q k. row_long 0 (in_block h p) (λ b r j. j) _ _ q k) _ 0 m l
