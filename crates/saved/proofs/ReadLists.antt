-- Numbers in bytes. The bytes of a list of numbers read as the list, whatever stands around them (`reads_bytes`); what reads as a list is its
-- bytes (`reads_there`); and the reader's definition reads exactly these, or gives the byte at which the first bad one goes wrong (`reads_at`,
-- `reads_wrong`, `at_says`). Assumes nothing.
use mathlib.Core.Path.{◌≡◌, refl, ap, sym, ◌∙◌}
use mathlib.Core.List.{List, [], ◌∷◌, ◌++◌, append_assoc}
use Prim.Native.Nat.{ℕ, zero, suc, ◌+◌, ◌-◌, ◌^◌, ◌<◌}
use native.Mathlib.Omega.{arith}
use lib.ListN.{length, drop, length-append, take-append-drop}
use lib.Seq.{drop-drop}
use Rattle.encoding.specs.Numbers.{Reading, Bytes, number}
use Rattle.std.specs.Prelude.{Ok, Err}
use Rattle.numbers.specs.Shortest.{bytes_of}
use Rattle.numbers.proofs.Shortest.{number_reads, number_place, number_shortest}
use Rattle.encoding.specs.declared.Fault.{Fault}
use Rattle.saved.specs.Saved.{bytes_of_all}
use Rattle.saved.specs.Loaded.{before, numbers_at}
use Rattle.saved.specs.Misread.{Reads, reads_none, reads_more}

module _ {bytes : List ℕ} where
  pub reads_append : {i m j : ℕ} {vs us : List ℕ} → Reads bytes i vs m → Reads bytes m us j → Reads bytes i (vs ++ us) j
  reads_append reads_none t = t
  reads_append (reads_more e r) t = reads_more e (reads_append r t)

  pub reads_parts : (vs : List ℕ) {us : List ℕ} {i j : ℕ} → Reads bytes i (vs ++ us) j → (m : ℕ) × Reads bytes i vs m × Reads bytes m us j
  reads_parts [] {i = i} r = (i, reads_none, r)
  reads_parts (v ∷ vs) (reads_more e r) = let p = reads_parts vs r in (p.0, reads_more e p.1, p.2)

-- The reader's definition, one number more, by cases.
module _ (n : ℕ) (bytes : List ℕ) (i : ℕ) where
  pub at_more : {v next : ℕ} → number bytes i ≡ Ok (v, next) → numbers_at (suc n) bytes i ≡ before v (numbers_at n bytes next)
  unfolding numbers_at
  at_more e = rw (e, numbers_at)

  pub at_wrong : {f : Fault} → number bytes i ≡ Err f → numbers_at (suc n) bytes i ≡ Err f
  unfolding numbers_at
  at_wrong e = rw (e, numbers_at)

pub reads_at : {bytes vs : List ℕ} {i j : ℕ} → Reads bytes i vs j → numbers_at (length vs) bytes i ≡ Ok (vs, j)
unfolding numbers_at before
reads_at reads_none = refl
reads_at {bytes} {i = i} (reads_more {v = v} {vs = vs} e r) = at_more (length vs) bytes i e ∙ ap (before v) (reads_at r)

-- .. and after some that read, fewer than n, one goes wrong.
pub reads_wrong : {bytes vs : List ℕ} {i k : ℕ} {f : Fault} (n : ℕ) → Reads bytes i vs k → length vs < n → number bytes k ≡ Err f → numbers_at n bytes i ≡ Err f
unfolding before
reads_wrong zero r l w = absurd (omega arith)
reads_wrong {bytes} {i = i} (suc n) reads_none l w = at_wrong n bytes i w
reads_wrong {bytes} {i = i} (suc n) (reads_more {v = v} e r) l w = at_more n bytes i e ∙ ap (before v) (reads_wrong n r (omega arith) w)

-- What the reader reads of n numbers: all of them; or some, fewer than n, and then one that goes wrong.
abbrev pub AtSays : List ℕ → ℕ → ℕ → Reading (List ℕ) → Type 0
AtSays bytes n i (Err f) = (vs : List ℕ) × (k : ℕ) × Reads bytes i vs k × (length vs < n) × (number bytes k ≡ Err f)
AtSays bytes n i (Ok (vs, j)) = Reads bytes i vs j × (length vs ≡ n)

pub at_says : (bytes : List ℕ) (n i : ℕ) → AtSays bytes n i (numbers_at n bytes i)
unfolding numbers_at before
at_says bytes zero i = (reads_none, refl)
at_says bytes (suc n) i = go (number bytes i) refl (at_says bytes n)
  where
    one_more : (v m : ℕ) → number bytes i ≡ Ok (v, m) → (x : Reading (List ℕ)) → AtSays bytes n m x → AtSays bytes (suc n) i (before v x)
    one_more v m e (Err f) h = (v ∷ h.0, h.1, reads_more e h.2, omega (arith, h.3), h.4)
    one_more v m e (Ok (vs, j)) h = (reads_more e h.0, omega (arith, h.1))

    go : (x : Reading ℕ) → number bytes i ≡ x → ((k : ℕ) → AtSays bytes n k (numbers_at n bytes k)) → AtSays bytes (suc n) i (numbers_at (suc n) bytes i)
    go (Ok (v, m)) e f = rw (at_more n bytes i e) (one_more v m e (numbers_at n bytes m) (f m))
    go (Err g) e f = rw (at_wrong n bytes i e) ([], i, reads_none, omega arith, e)

-- numbers that 32 bits hold
pub data Small : List ℕ → Type 0 where
  small_none : Small []
  small_more : {v : ℕ} {vs : List ℕ} → v < 2 ^ 32 → Small vs → Small (v ∷ vs)

pub small_append : {vs us : List ℕ} → Small vs → Small us → Small (vs ++ us)
small_append small_none t = t
small_append (small_more h s) t = small_more h (small_append s t)

pub all_none : bytes_of_all [] ≡ []
unfolding bytes_of_all
all_none = refl

pub all_more : (v : ℕ) (vs : List ℕ) → bytes_of_all (v ∷ vs) ≡ bytes_of v ++ bytes_of_all vs
unfolding bytes_of_all
all_more v vs = refl

pub all_append : (vs us : List ℕ) → bytes_of_all (vs ++ us) ≡ bytes_of_all vs ++ bytes_of_all us
all_append [] us = rw all_none
all_append (v ∷ vs) us = rw (all_more v (vs ++ us), all_more v vs, append_assoc, all_append vs us)

-- The bytes of a list read as the list, whatever stands before and after them.
pub reads_bytes : (xs ys : List ℕ) {vs : List ℕ} → Small vs → Reads (xs ++ (bytes_of_all vs ++ ys)) (length xs) vs (length xs + length (bytes_of_all vs))
reads_bytes xs ys small_none = let e : length xs + 0 ≡ length xs = omega arith in rw (all_none, e) reads_none
reads_bytes xs ys (small_more {v = v} {vs = vs} h s) =
    let whole = xs ++ (bytes_of v ++ (bytes_of_all vs ++ ys)) in
    let next = length xs + length (bytes_of v) in
    let first : number whole (length xs) ≡ Ok (v, next) = rw append_assoc at (number_reads xs (bytes_of_all vs ++ ys) v h) in
    let later : Reads whole next vs (next + length (bytes_of_all vs)) = rw (append_assoc, length-append) at (reads_bytes (xs ++ bytes_of v) ys s) in
    let end : length xs + length (bytes_of v ++ bytes_of_all vs) ≡ next + length (bytes_of_all vs) = omega (arith, length-append (bytes_of v) (bytes_of_all vs)) in
    rw (all_more, end, append_assoc) (reads_more first later)

-- What reads as a list is its bytes.
module _ (bytes : List ℕ) (b : Bytes bytes) where
  stands : (i v next : ℕ) → number bytes i ≡ Ok (v, next) → drop i bytes ≡ bytes_of v ++ drop next bytes
  stands i v next e =
      let p = number_place bytes i e in
      let q : i + (next - i) ≡ next = omega arith in
      sym (take-append-drop (next - i) (drop i bytes)) ∙ rw (number_shortest bytes i b e, drop-drop, q)

  pub reads_there : {i j : ℕ} {vs : List ℕ} → Reads bytes i vs j → drop i bytes ≡ bytes_of_all vs ++ drop j bytes
  reads_there reads_none = rw all_none
  reads_there {i = i} (reads_more {m = m} {v = v} e r) = stands i v m e ∙ rw (all_more, append_assoc, reads_there r)
