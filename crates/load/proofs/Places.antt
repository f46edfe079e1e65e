-- The reader's look for the first bad number: whether numbers read, one by one, and the place that follows. Assumes nothing.
use mathlib.Core.Path.{◌≡◌, refl, ◌∙◌}
use mathlib.Core.List.{List}
use Prim.Native.Nat.{ℕ, zero, suc, ◌*◌, ◌-◌, ◌<◌}
use native.Mathlib.Numerals.{sub-one}
use native.Mathlib.Omega.{arith}
use lib.ListN.{length}
use Rattle.std.specs.Prelude.{Ok, Err}
use Rattle.encoding.specs.declared.Fault.{Fault}
use Rattle.encoding.specs.Numbers.{Reading, number}
use Rattle.saved.specs.Loaded.{before, numbers_at, node_numbers, count_numbers, numbers_in, place_in, bad_place}
use Rattle.saved.proofs.ReadLists.{at_more, at_wrong}
use Rattle.load.specs.Judging.{read_whole}

-- one number more before them
one_before : (v : ℕ) (x : Reading (List ℕ)) → read_whole (before v x) ≡ read_whole x
unfolding before
one_before v (Ok (vs, next)) = refl
one_before v (Err f) = refl

module _ (bytes : List ℕ) where
  pub whole_end : (n i : ℕ) → n ≡ 0 → Ok tt ≡ read_whole (numbers_at n bytes i)
  unfolding numbers_at
  whole_end n i e = rw e

  pub whole_next : (n i : ℕ) {v next : ℕ} → 0 < n → number bytes i ≡ Ok (v, next)
      → read_whole (numbers_at n bytes i) ≡ read_whole (numbers_at (n - 1) bytes next)
  whole_next zero i h e = absurd (omega arith)
  whole_next (suc n) i {v} {next} h e = rw (sub-one (suc n), at_more n bytes i e) (one_before v (numbers_at n bytes next))

  pub whole_stop : (n i : ℕ) {f : Fault} → 0 < n → number bytes i ≡ Err f → read_whole (numbers_at n bytes i) ≡ Err f
  whole_stop zero i h e = absurd (omega arith)
  whole_stop (suc n) i h e = rw (at_wrong n bytes i e)

  -- C, N, and the nodes
  pub slots_stop : {f : Fault} → number bytes 0 ≡ Err f → read_whole (numbers_in bytes) ≡ Err f
  unfolding numbers_in count_numbers
  slots_stop e = rw e

  module _ {c i : ℕ} (e : number bytes 0 ≡ Ok (c, i)) where
    pub count_stop : {f : Fault} → number bytes i ≡ Err f → read_whole (numbers_in bytes) ≡ Err f
    unfolding numbers_in count_numbers node_numbers
    count_stop f = rw (e, f)

    pub nodes_read : {n at count : ℕ} → number bytes i ≡ Ok (n, at) → count ≡ 2 * n → read_whole (numbers_in bytes) ≡ read_whole (numbers_at count bytes at)
    unfolding numbers_in count_numbers node_numbers
    nodes_read {n} {at} f twice = rw (e, f, twice) (one_before c (before n (numbers_at (2 * n) bytes at)) ∙ one_before n (numbers_at (2 * n) bytes at))

  -- and the place
  pub place_whole : Ok tt ≡ read_whole (numbers_in bytes) → bad_place bytes ≡ length bytes
  unfolding bad_place place_in
  place_whole e = go (numbers_in bytes) e
    where
      go : (x : Reading (List ℕ)) → Ok tt ≡ read_whole x → place_in (length bytes) x ≡ length bytes
      go (Ok (vs, next)) h = refl
      go (Err f) h = cc

  pub place_fault : {f : Fault} → Err f ≡ read_whole (numbers_in bytes) → bad_place bytes ≡ f.place
  unfolding bad_place place_in
  place_fault {f} e = go (numbers_in bytes) e
    where
      go : (x : Reading (List ℕ)) → Err f ≡ read_whole x → place_in (length bytes) x ≡ f.place
      go (Ok (vs, next)) h = cc
      go (Err g) h = let same : f ≡ g = cc in rw same
