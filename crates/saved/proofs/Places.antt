-- 02 (ii), the byte at which saved bytes go wrong. They are refused at byte j exactly when they go wrong there: all numbers before one read and it
-- goes wrong at j, or all that are asked for read, no writer produces the whole, and j is the count of bytes (`place_exactly`). So there is one such
-- byte (`place_once`), and it is one of the bytes or their end (`place_inside`). By what the reader read, and the other way by reading it again.
-- Assumes nothing.
use mathlib.Core.Path.{◌≡◌, refl, sym, ◌∙◌}
use mathlib.Core.Logic.{◌↔◌}
use mathlib.Core.List.{List}
use mathlib.Core.Option.{none}
use lib.ListN.{length}
use Prim.Native.Nat.{ℕ, zero, suc, ◌*◌, ◌-◌, ◌≤◌, ◌<◌}
use native.Mathlib.Numerals.{sub-one}
use native.Mathlib.Omega.{arith}
use Rattle.std.specs.Prelude.{Ok, Err}
use Rattle.encoding.specs.Numbers.{Reading, Bytes, number}
use Rattle.numbers.proofs.Faults.{bad_near, number_bad}
use Rattle.encoding.specs.declared.Fault.{Fault}
use Rattle.saved.specs.Loaded.{before, numbers_at, node_numbers, count_numbers, numbers_in, loaded_numbers, loaded_up_to, loaded, place_in, bad_place}
use Rattle.saved.specs.Misread.{Reads, reads_none, reads_more, asked, Unwritten, MisreadAt, bad_number, no_whole}
use Rattle.saved.specs.Calls.{last_word, place_word}
use Rattle.saved.proofs.ReadLists.{at_more, at_wrong, reads_wrong}
use Rattle.saved.proofs.Saves.{in_reads, InSays, numbers_in_lem, refused_exactly}

module _ (bytes : List ℕ) where
  -- what is read, and the place
  place_misread : {f : Fault} → numbers_in bytes ≡ Err f → (loaded bytes ≡ none) × (bad_place bytes ≡ f.place)
  unfolding loaded_up_to loaded_numbers bad_place place_in
  place_misread e = (rw e, rw e)

  place_read : {vs : List ℕ} {next : ℕ} → numbers_in bytes ≡ Ok (vs, next) → bad_place bytes ≡ length bytes
  unfolding bad_place place_in
  place_read e = rw e

  -- Some numbers that stand in the bytes: fewer than are asked for, and the next goes wrong; or all.
  wrong_in : {vs : List ℕ} {i : ℕ} {f : Fault} → Reads bytes 0 vs i → length vs < asked vs → number bytes i ≡ Err f → numbers_in bytes ≡ Err f
  unfolding numbers_in count_numbers node_numbers before
  wrong_in reads_none l w = rw w
  wrong_in (reads_more e reads_none) l w = rw (e, w)
  wrong_in (reads_more e (reads_more {v = n} f r)) l w = rw (e, f, reads_wrong (2 * n) r (omega arith) w)

  all_in : {vs : List ℕ} {i : ℕ} → Reads bytes 0 vs i → length vs ≡ asked vs → numbers_in bytes ≡ Ok (vs, i)
  all_in reads_none l = absurd (omega arith)
  all_in (reads_more e reads_none) l = absurd (omega arith)
  all_in (reads_more e (reads_more {v = n} {vs = vs} f r)) l = in_reads (reads_more e (reads_more f r)) (omega arith)

  module _ (b : Bytes bytes) where
    misread_there : Unwritten bytes → (x : Reading (List ℕ)) → InSays bytes x → MisreadAt bytes (place_in (length bytes) x)
    unfolding place_in
    misread_there h (Err f) s = bad_number s.2 s.3 ((number_bad bytes s.1 f.place).0 s.4)
    misread_there h (Ok (vs, next)) s = no_whole s.0 s.1 h

    pub place_there : loaded bytes ≡ none → MisreadAt bytes (bad_place bytes)
    unfolding bad_place
    place_there e = misread_there ((refused_exactly bytes b).0 e) (numbers_in bytes) (numbers_in_lem bytes)

    there_place : {j : ℕ} → MisreadAt bytes j → (loaded bytes ≡ none) × (bad_place bytes ≡ j)
    there_place {j} (bad_number {i = i} r l w) = place_misread (wrong_in r l ((number_bad bytes i j).1 w))
    there_place (no_whole r l h) = ((refused_exactly bytes b).1 h, place_read (all_in r l))

    pub place_exactly : (j : ℕ) → ((loaded bytes ≡ none) × (bad_place bytes ≡ j)) ↔ MisreadAt bytes j
    place_exactly j = (λ h. rw h.1 at (place_there h.0), there_place)

    pub place_once : {j k : ℕ} → MisreadAt bytes j → MisreadAt bytes k → j ≡ k
    place_once x y = sym (there_place x).1 ∙ (there_place y).1

  pub place_inside : {j : ℕ} → MisreadAt bytes j → j ≤ length bytes
  place_inside (bad_number {i = i} r l w) = (bad_near bytes i w).0
  place_inside (no_whole r l h) = omega arith

-- The place, one number more, by cases: how the reader's code finds it.
module _ (bytes : List ℕ) where
  one_placed : (v : ℕ) (x : Reading (List ℕ)) → place_in (length bytes) (before v x) ≡ place_in (length bytes) x
  unfolding before place_in
  one_placed v (Err f) = refl
  one_placed v (Ok (vs, next)) = refl

  pub place_end : (n i : ℕ) → n ≡ 0 → place_in (length bytes) (numbers_at n bytes i) ≡ length bytes
  unfolding numbers_at place_in
  place_end n i e = rw e

  pub place_next : (n i : ℕ) {v next : ℕ} → 0 < n → number bytes i ≡ Ok (v, next)
      → place_in (length bytes) (numbers_at n bytes i) ≡ place_in (length bytes) (numbers_at (n - 1) bytes next)
  place_next zero i h e = absurd (omega arith)
  place_next (suc n) i {v} {next} h e = rw (sub-one (suc n), at_more n bytes i e) (one_placed v (numbers_at n bytes next))

  pub place_stop : (n i : ℕ) {f : Fault} → 0 < n → number bytes i ≡ Err f → place_in (length bytes) (numbers_at n bytes i) ≡ f.place
  unfolding place_in
  place_stop zero i h e = absurd (omega arith)
  place_stop (suc n) i h e = rw (at_wrong n bytes i e)

  -- C, N, and the nodes
  pub slots_wrong : {f : Fault} → number bytes 0 ≡ Err f → bad_place bytes ≡ f.place
  unfolding bad_place place_in numbers_in count_numbers
  slots_wrong e = rw e

  module _ {c i : ℕ} (e : number bytes 0 ≡ Ok (c, i)) where
    pub count_wrong : {f : Fault} → number bytes i ≡ Err f → bad_place bytes ≡ f.place
    unfolding bad_place place_in numbers_in count_numbers node_numbers
    count_wrong f = rw (e, f)

    pub nodes_wrong : {n at count : ℕ} → number bytes i ≡ Ok (n, at) → count ≡ 2 * n → bad_place bytes ≡ place_in (length bytes) (numbers_at count bytes at)
    unfolding bad_place numbers_in count_numbers node_numbers
    nodes_wrong {n} {at} f twice = rw (e, f, twice) (one_placed c (before n (numbers_at (2 * n) bytes at)) ∙ one_placed n (numbers_at (2 * n) bytes at))

-- As a 32-bit word it is the place itself, up to 4,294,967,295, and past that 4,294,967,295.
pub word_small : (j : ℕ) → place_word j ≤ last_word
unfolding place_word
word_small j = omega arith

pub word_last : (j : ℕ) → last_word ≤ j → place_word j ≡ last_word
unfolding place_word
word_last j h = omega arith

pub word_same : (j : ℕ) → j ≤ last_word → place_word j ≡ j
unfolding place_word
word_same j h = omega arith
