-- Of the header settle moves L and no other word, whatever the words: so a pool is left as with the whole header written (`settle_words_lem`).
-- Why: what a scan finds is an allowed step (`found_allowed`), so at a slot that is numbered from 1; and a step there keeps the rest
-- (`kept_step` of Kept.antt). Assumes nothing.
use Rattle.std.proofs.Common.{◌≡◌, ℕ, zero, suc, ◌+◌, Bool, true, false, List, [], ◌∷◌, set, refl, arith}
use mathlib.Core.Option.{Option, none, some}
use Rattle.tree.specs.declared.Kind.{Kind}
use Rattle.tree.specs.Codes.{kinds}
use Rattle.tree.specs.Settle.{last_of}
use Rattle.format.specs.declared.Header.{Header}
use Rattle.format.specs.Words.{header_of}
use Rattle.format.specs.Performing.{words_after}
use Rattle.kinds.specs.Around.{around_at}
use Rattle.kinds.specs.Effects.{header_after}
use Rattle.steps.specs.Steps.{taken_words, lowest}
use Rattle.settle.proofs.Kept.{Kept, kept_same, kept_more, kept_step, level_written_lem}
use Rattle.steps.specs.declared.Lowest.{Lowest}
use Rattle.std.specs.Prelude.{Option as Found, Some, None}
use Rattle.settle.specs.Awake.{is_awake, group_place}
use Rattle.settle.specs.Scanning.{allowed_words, first_kind, first_from, Scan, scan, after, row_from, in_block, in_group, first_awake}
use Rattle.settle.specs.Waking.{woken}
use Rattle.settle.specs.Settling.{Pool, pool_of, scanned, next_pool, pools_after, settle_from, settle_under, settle_words}
use Rattle.settle.proofs.Rows.{allowed_slot}

some_is : {A : Type 0} {x y : A} → some x ≡ some y → x ≡ y
some_is e = cc

module _ (h : Header) (p : List ℕ) where
  -- an allowed step, or none
  data Allowing : Found Lowest → Type 0 where
    found_at : {x : Lowest} → allowed_words x.kind h p x.slot ≡ true → Allowing (Some x)
    found_none : Allowing None

  kind_allowed : (ks : List Kind) (s : ℕ) (k : Kind) → first_kind ks h p s ≡ some k → allowed_words k h p s ≡ true
  unfolding first_kind
  kind_allowed [] s k e = let bad : ◌≡◌ {A = ℕ} 0 1 = cc in absurd (omega arith)
  kind_allowed (j ∷ ks) s k e = go (allowed_words j h p s) refl e (kind_allowed ks s k)
    where
      go : (b : Bool) → allowed_words j h p s ≡ b → ◌≡◌ {A = Option Kind} (elim b [ true ↦ some j | false ↦ first_kind ks h p s ]) (some k)
          → (first_kind ks h p s ≡ some k → allowed_words k h p s ≡ true) → allowed_words k h p s ≡ true
      go true f g rest = rw (← some_is g) f
      go false f g rest = rest g

  from_found : (n s : ℕ) → Allowing (first_from n h p s)
  unfolding first_from
  from_found zero s = found_none
  from_found (suc n) s = go (first_kind kinds h p s) refl (from_found n (suc s))
    where
      go : (o : Option Kind) → first_kind kinds h p s ≡ o → Allowing (first_from n h p (suc s)) → Allowing (elim o [ some k ↦ Some (lowest s k (around_at p s)) | none ↦ first_from n h p (suc s) ])
      go (some k) e rest = found_at (kind_allowed kinds s k e)
      go none e rest = rest

  abbrev FoundBy : Scan → Type 0
  FoundBy r = Allowing r.found

  row_found : (row : ℕ) (below : ℕ → List Bool → Scan) → ((i : ℕ) (m : List Bool) → FoundBy (below i m)) → (n i : ℕ) (m : List Bool) → FoundBy (row_from row below n i m)
  unfolding row_from
  row_found row below f zero i m = found_none
  row_found row below f (suc n) i m = go (is_awake m (row + i)) (row_found row below f n (suc i))
    where
      scans : (r : Scan) → ((q : List Bool) → FoundBy (row_from row below n (suc i) q)) → (o : Found Lowest) → Allowing o → FoundBy (elim o [
        | Some x ↦ scan (Some x) r.awake (1 + r.looks)
        | None ↦ after (1 + r.looks) (row_from row below n (suc i) (set r.awake (row + i) false))
      ])
      scans r rest (Some x) g = g
      scans r rest None g = rest _

      go : (b : Bool) → ((q : List Bool) → FoundBy (row_from row below n (suc i) q)) → FoundBy (elim b [
        | false ↦ after 1 (row_from row below n (suc i) m)
        | true ↦ let r = below i m in elim r.found [
          | Some x ↦ scan (Some x) r.awake (1 + r.looks)
          | None ↦ after (1 + r.looks) (row_from row below n (suc i) (set r.awake (row + i) false))
        ]
      ])
      go true rest = scans (below i m) rest (below i m).found (f i m)
      go false rest = rest m

  found_allowed : (m : List Bool) → FoundBy (first_awake h p m)
  unfolding first_awake in_group in_block
  found_allowed m = row_found (group_place 0) (in_group h p) (λ g q. row_found 0 (in_block h p) (λ b r. from_found _ _) _ _ q) _ 0 m

-- from a pool to another one
abbrev KeptTo : Pool → Pool → Type 0
KeptTo P Q = Kept P.header P.words Q.header Q.words

next_kept : (P Q : Pool) → next_pool P ≡ some Q → KeptTo P Q
unfolding next_pool
next_kept P Q e = go (scanned P).found (found_allowed P.header P.words P.awake) e
  where
    go : (f : Found Lowest) → Allowing P.header P.words f
        → ◌≡◌ {A = Option Pool} (elim f [
          | Some x ↦ some (pool_of (header_after x.kind x.slot P.header) (taken_words P.header.root P.words x.slot x.kind x.around) (woken P.header P.words x.slot x.kind x.around (scanned P).awake))
          | None ↦ none
        ]) (some Q) → KeptTo P Q
    go (Some x) (found_at ok) same = rw (← some_is same) (kept_step P.header P.words x.slot x.kind x.around (allowed_slot P.header P.words x.slot x.kind ok).0)
    go None f same = let bad : ◌≡◌ {A = ℕ} 0 1 = cc in absurd (omega arith)

pools_kept : (b : ℕ) (P : Pool) → KeptTo P (last_of P (pools_after b P))
unfolding pools_after last_of
pools_kept zero P = kept_same P.header P.words
pools_kept (suc b) P = go (next_pool P) refl (pools_kept b)
  where
    go : (o : Option Pool) → next_pool P ≡ o → ((Q : Pool) → KeptTo Q (last_of Q (pools_after b Q))) → KeptTo P (last_of P (elim o [ some Q ↦ Q ∷ pools_after b Q | none ↦ [] ]))
    go (some Q) e f = kept_more (next_kept P Q e) (f Q)
    go none e f = kept_same P.header P.words

pub settle_words_lem : (p : List ℕ) (budget : ℕ) → settle_words p budget ≡ words_after (settle_under p (header_of p) budget)
unfolding settle_words settle_from
settle_words_lem p b = level_written_lem p (settle_under p (header_of p) b) (pools_kept b (pool_of (header_of p) p _))
