-- The reader's judgment of the whole: the tree and its end, C and N, return by return. Assumes nothing.
use mathlib.Core.Path.{◌≡◌, refl, sym, ◌∙◌}
use mathlib.Core.Logic.{◌≢◌}
use mathlib.Core.Bool.{true, false, false≢true}
use mathlib.Core.List.{List}
use mathlib.Core.Option.{none}
use lib.Dec.{leb}
use lib.ListN.{length}
use Prim.Native.Nat.{ℕ, ◌+◌, ◌-◌, ◌/◌, ◌≤◌, ◌<◌}
use native.Mathlib.Omega.{arith}
use borrow.Author.Tests.{lt-leb, le-leb}
use Rattle.tree.specs.Codes.{most_slots}
use Rattle.tree.specs.Tree.{Tree, size}
use Rattle.tree.specs.State.{State, Top, empty, full, nodes, level_top, key_end, Good, GoodTop, Sound}
use Rattle.tree.proofs.Depth.{depth_half}
use Rattle.std.specs.Prelude.{Some, None, Ok, Err}
use Rattle.encoding.specs.Numbers.{Bytes, number}
use Rattle.encoding.specs.declared.Fault.{Fault}
use Rattle.encoding.proofs.Readings.{one_read, not_wrong}
use Rattle.saved.specs.Loaded.{is_count, loaded}
use Rattle.saved.specs.There.{TreeAt, TopAt, none_at, tree_at, SavedAt}
use Rattle.saved.proofs.Alike.{alike_size}
use Rattle.saved.proofs.States.{size_pos, sound_count, count_parts}
use Rattle.saved.proofs.There.{one_tree}
use Rattle.saved.proofs.Saves.{none_there}
use Rattle.load.specs.Judging.{Fits, Found, NoneFound, FoundTop, TopSays, Loads}
use Rattle.load.proofs.Judging.{first_number_lem}

-- A good tree of n nodes fits, as a whole.
good_fits : (n : ℕ) (t : Tree) → size t ≡ n → Good t → Fits 0 key_end ((n + 1) / 2) 1 t
good_fits n t e g = record { ordered = g.ordered; chromatic = g.chromatic; low = omega (arith, g.low); deep = omega (arith, depth_half t) }

fits_good : {left w : ℕ} {t : Tree} → w ≡ 1 → Fits 0 key_end left w t → Good t
fits_good e f = record { ordered = f.ordered; chromatic = rw e at f.chromatic; low = omega (arith, f.low) }

record TopTree (bytes : List ℕ) (at n : ℕ) : Type 0 where
  pub tree : Tree
  pub there : TreeAt bytes at 1 tree (length bytes)
  pub good : Good tree
  pub nodes_are : size tree ≡ n

-- A set of no nodes is the empty one, and ends where it begins; any other is a tree.
module _ {bytes : List ℕ} {at n : ℕ} where
  top_empty : (t : Top) → FoundTop bytes at n t → n ≡ 0 → at ≡ length bytes
  unfolding nodes
  top_empty empty f e = go f.there
    where
      go : {j : ℕ} → TopAt bytes at empty j → at ≡ j
      go none_at = refl
  top_empty (full t) f e = absurd (omega (arith, f.nodes_are, size_pos t))

  top_tree : (t : Top) → FoundTop bytes at n t → n ≢ 0 → TopTree bytes at n
  unfolding nodes GoodTop
  top_tree empty f z = absurd (z (sym f.nodes_are))
  top_tree (full t) f z = record { tree = t; there = go f.there; good = f.good; nodes_are = f.nodes_are }
    where
      go : {j : ℕ} → TopAt bytes at (full t) j → TreeAt bytes at 1 t j
      go (tree_at a) = a

-- What judge_top answers.
module _ (bytes : List ℕ) (at n : ℕ) where
  module _ (no_nodes : n ≡ 0) where
    pub top_none_past : at ≢ length bytes → TopSays bytes at n None
    top_none_past f t found = f (top_empty t found no_nodes)

    pub top_none : at ≡ length bytes → {l : ℕ} → l ≡ 0 → TopSays bytes at n (Some l)
    unfolding nodes GoodTop level_top
    top_none f e = (empty, record { there = rw (← f) none_at; good = tt; nodes_are = sym no_nodes }, e)

  module _ (some-nodes : n ≢ 0) where
    pub top_cut : {f : Fault} → number bytes at ≡ Err f → TopSays bytes at n None
    top_cut e t found = not_wrong (first_number_lem (top_tree t found some-nodes).there).reads e

    module _ {a i : ℕ} (first : number bytes at ≡ Ok (a, i)) where
      pub top_weight : a / 2 ≢ 1 → TopSays bytes at n None
      top_weight z t found =
          let F = first_number_lem (top_tree t found some-nodes).there in z (omega (arith, F.weight_is, (one_read F.reads first).0))

      pub top_fault : NoneFound bytes at 0 key_end ((n + 1) / 2) n → TopSays bytes at n None
      top_fault absent t found =
          let T = top_tree t found some-nodes in
          absent 1 T.tree (length bytes) T.there (good_fits n T.tree T.nodes_are T.good) (omega (arith, T.nodes_are))

      module _ {next rest l : ℕ} (F : Found bytes at 0 key_end ((n + 1) / 2) n next rest l) where
        pub top_more : rest ≢ 0 → TopSays bytes at n None
        top_more z t found =
            let T = top_tree t found some-nodes in
            let S = one_tree T.there F.there in
            z (omega (arith, T.nodes_are, F.nodes_are, alike_size S.tree_same))

        pub top_past : next ≢ length bytes → TopSays bytes at n None
        top_past f t found = f (sym (one_tree (top_tree t found some-nodes).there F.there).end_same)

        -- The weight of the edge that it hangs from is in the sum.
        weight_is : F.weight ≡ a / 2
        weight_is = let W = first_number_lem F.there in omega (arith, W.weight_is, (one_read W.reads first).0)

        pub top_sum : a / 2 ≤ l
        top_sum = omega (arith, weight_is, F.sum_is)

        pub top_whole : rest ≡ 0 → a / 2 ≡ 1 → next ≡ length bytes → {m : ℕ} → m ≡ l - 1 → TopSays bytes at n (Some m)
        unfolding nodes GoodTop level_top
        top_whole none_left one-weight f e = (
          full F.tree,
          record {
            there = tree_at (rw (weight_is ∙ one-weight, f) at F.there);
            good = fits_good (weight_is ∙ one-weight) F.fits;
            nodes_are = omega (arith, F.nodes_are);
          },
          omega (arith, weight_is, F.sum_is),
        )

-- What is_count answers.
module _ (c n : ℕ) where
  pub count_none : c < 1 → false ≡ is_count most_slots c n
  unfolding is_count
  count_none h = rw (lt-leb 1 c h)

  pub count_many : most_slots < c → false ≡ is_count most_slots c n
  unfolding is_count
  count_many k = rw (le-leb 1 c (omega arith), lt-leb c most_slots k)

  pub count_is : 1 ≤ c → c ≤ most_slots → leb n c ≡ is_count most_slots c n
  unfolding is_count
  count_is h k = rw (le-leb 1 c h, le-leb c most_slots k)

-- What judge_all answers: nothing where no sound State stands in the bytes.
module _ (bytes : List ℕ) (b : Bytes bytes) where
  pub no_slots : {f : Fault} → number bytes 0 ≡ Err f → loaded bytes ≡ none
  no_slots e = none_there bytes b (λ S sound there. not_wrong there.slots_there e)

  module _ {c i : ℕ} (slots : number bytes 0 ≡ Ok (c, i)) where
    pub no_nodes : {f : Fault} → number bytes i ≡ Err f → loaded bytes ≡ none
    no_nodes e = none_there bytes b (λ S sound there. not_wrong (rw (one_read there.slots_there slots).1 at there.count_there) e)

    module _ {n at : ℕ} (count : number bytes i ≡ Ok (n, at)) where
      -- what a sound State that stands there has
      record Has (S : State) : Type 0 where
        pub slots_are : S.slots ≡ c
        pub nodes_are : nodes S.top ≡ n
        pub found : FoundTop bytes at n S.top

      has : (S : State) → Sound S → SavedAt bytes S.slots S.top → Has S
      has S sound there =
          let x = one_read there.slots_there slots in
          let y = one_read (rw x.1 at there.count_there) count in
          record {
            slots_are = x.0;
            nodes_are = y.0;
            found = record { there = rw y.1 at there.top_there; good = sound.good; nodes_are = y.0 };
          }

      pub no_count : is_count most_slots c n ≡ false → loaded bytes ≡ none
      no_count e = none_there bytes b (λ S sound there.
          let H = has S sound there in
          false≢true (sym e ∙ rw (H.slots_are, H.nodes_are) at (sound_count sound)))

      pub no_top : TopSays bytes at n None → loaded bytes ≡ none
      no_top absent = none_there bytes b (λ S sound there. absent S.top (has S sound there).found)

      pub all_found : is_count most_slots c n ≡ true → {l : ℕ} → TopSays bytes at n (Some l) → Loads bytes c n l at
      all_found e t = record { count_from = i; top = t.0; slots_there = slots; count_there = count; found = t.1; level_is = t.2; counts = e }

pub count_few : (c n : ℕ) → is_count most_slots c n ≡ true → n ≤ most_slots
count_few c n e = let k = count_parts c n e in omega (arith, k.few_slots, k.inside)
