-- Counts of slots added up, and the pigeonholes: the numbers f 1 to f n are at most n together if none is above 1, and n of them
-- only if each is 1 (`total_most`, `total_all`). The counts of a tree's slots add up to its size, those of a chain's to its length
-- (`total_tree`, `total_top`, `total_chain`): so a tree has no more nodes than there are slots
-- (`size_within`).
-- Why: by induction on n, and on the tree or the chain; each slot from 1 to n adds 1 once. Assumes nothing.
use mathlib.Core.Path.{◌≡◌, refl, ap, ◌∙◌}
use mathlib.Core.List.{List, [], ◌∷◌}
use lib.Dec.{eqb}
use lib.ListN.{length}
use Prim.Native.Nat.{ℕ, zero, suc, ◌+◌, ◌*◌, ◌≤◌, ◌<◌}
use native.Mathlib.Omega.{arith}
use Rattle.tree.specs.Tree.{Tree, leaf, node, size, one, count, count_in}
use Rattle.tree.specs.State.{Top, empty, full, nodes, count_top}
use Rattle.tree.proofs.Counts.{OneOf, same_or_not, one_same, one_other}

-- The numbers f 1 to f n added up.
pub total : (ℕ → ℕ) → ℕ → ℕ
total f zero = 0
total f (suc n) = total f n + f (suc n)

pub total_add : (f g : ℕ → ℕ) (n : ℕ) → total (λ s. f s + g s) n ≡ total f n + total g n
unfolding total
total_add f g zero = refl
total_add f g (suc n) = omega (arith, total_add f g n)

pub total_same : (f g : ℕ → ℕ) (n : ℕ) → ((s : ℕ) → 1 ≤ s → s ≤ n → f s ≡ g s) → total f n ≡ total g n
unfolding total
total_same f g zero h = refl
total_same f g (suc n) h = omega (arith, total_same f g n (λ s l m. h s l (omega arith)), h (suc n) (omega arith) (omega arith))

pub total_none : (n : ℕ) → total (λ s. 0) n ≡ 0
unfolding total
total_none zero = refl
total_none (suc n) = omega (arith, total_none n)

pub total_most : (f : ℕ → ℕ) (n : ℕ) → ((s : ℕ) → f s ≤ 1) → total f n ≤ n
unfolding total
total_most f zero h = omega arith
total_most f (suc n) h = omega (arith, total_most f n h, h (suc n))

pub total_each : (f : ℕ → ℕ) (n : ℕ) → ((s : ℕ) → 1 ≤ s → s ≤ n → f s ≡ 1) → total f n ≡ n
unfolding total
total_each f zero h = refl
total_each f (suc n) h = omega (arith, total_each f n (λ s l m. h s l (omega arith)), h (suc n) (omega arith) (omega arith))

-- n numbers of at most 1 that add up to n are 1 each
pub total_all : (f : ℕ → ℕ) (n : ℕ) → ((s : ℕ) → f s ≤ 1) → total f n ≡ n → (s : ℕ) → 1 ≤ s → s ≤ n → f s ≡ 1
unfolding total
total_all f zero h e s l m = absurd (omega arith)
total_all f (suc n) h e s l m =
    let most = total_most f n h in
    let last = h (suc n) in
    same_or_not s (suc n)
    (λ d. rw d (omega arith))
    (λ d. total_all f n h (omega arith) s l (omega arith))

-- f v, once
total_past : (f : ℕ → ℕ) (v n : ℕ) → n < v → total (λ s. one (eqb s v) * f s) n ≡ 0
unfolding total
total_past f v zero h = refl
total_past f v (suc n) h = rw (one_other (suc n) v (omega arith)) (omega (arith, total_past f v n (omega arith)))

pub total_at : (f : ℕ → ℕ) (v n : ℕ) → 1 ≤ v → v ≤ n → total (λ s. one (eqb s v) * f s) n ≡ f v
unfolding total
total_at f v zero l h = absurd (omega arith)
total_at f v (suc n) l h = same_or_not (suc n) v
    (λ e. rw (one_same (suc n) v e) (omega (arith, ap f e, total_past f v n (omega arith))))
    (λ d. rw (one_other (suc n) v d) (omega (arith, total_at f v n l (omega arith))))

-- the slots of a tree, and of a chain, counted
total_one : (v n : ℕ) → 1 ≤ v → v ≤ n → total (λ s. one (eqb s v)) n ≡ 1
total_one v n l h = total_same (λ s. one (eqb s v)) (λ s. one (eqb s v) * 1) n (λ s a b. omega arith) ∙ total_at (λ s. 1) v n l h

-- a tree whose slots are from 1 to c
abbrev pub SlotsWithin : ℕ → Tree → Type 0
SlotsWithin c t = (s : ℕ) → 1 ≤ count s t → OneOf c s

pub total_tree : (t : Tree) (n : ℕ) → SlotsWithin n t → total (λ s. count s t) n ≡ size t
unfolding count size
total_tree (leaf v k) n h = let i = h v (omega (arith, one_same v v refl)) in total_one v n i.from_one i.to_last
total_tree (node v k wl l wr r) n h =
    let i = h v (omega (arith, one_same v v refl)) in
    omega (
      arith,
      total_add (λ s. one (eqb s v) + count s l) (λ s. count s r) n,
      total_add (λ s. one (eqb s v)) (λ s. count s l) n,
      total_one v n i.from_one i.to_last,
      total_tree l n (λ s j. h s (omega arith)),
      total_tree r n (λ s j. h s (omega arith)),
    )

-- A tree whose slots are from 1 to c, none of them twice, has no more nodes.
pub size_within : (c : ℕ) (t : Tree) → SlotsWithin c t → ((s : ℕ) → count s t ≤ 1) → size t ≤ c
size_within c t h once = omega (arith, total_tree t c h, total_most (λ s. count s t) c once)

-- the same of a chain
abbrev pub ChainWithin : ℕ → List ℕ → Type 0
ChainWithin c fs = (s : ℕ) → 1 ≤ count_in s fs → OneOf c s

pub total_chain : (fs : List ℕ) (n : ℕ) → ChainWithin n fs → total (λ s. count_in s fs) n ≡ length fs
unfolding count_in
total_chain [] n h = total_none n
total_chain (v ∷ fs) n h =
    let i = h v (omega (arith, one_same v v refl)) in
    omega (arith, total_add (λ s. one (eqb s v)) (λ s. count_in s fs) n, total_one v n i.from_one i.to_last, total_chain fs n (λ s j. h s (omega arith)))

-- and of a top, empty or not
pub total_top : (t : Top) (n : ℕ) → ((s : ℕ) → 1 ≤ count_top s t → OneOf n s) → total (λ s. count_top s t) n ≡ nodes t
unfolding count_top nodes
total_top empty n h = total_none n
total_top (full t) n h = total_tree t n h
