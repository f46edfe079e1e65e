-- The saved form: the reader's definition gives back what was written, renumbered (`loaded_saved`), and takes exactly what a sound State is
-- written as (`accepted_exactly`, `refused_exactly`); what is read is written again as the same bytes (`renumbered_saved`), and two sound
-- States are written alike exactly when they are alike (`same_bytes`). Assumes nothing.
use mathlib.Core.Path.{◌≡◌, refl, ap, sym, ◌∙◌}
use mathlib.Core.Logic.{◌↔◌}
use mathlib.Core.Bool.{Bool, true, false}
use mathlib.Core.List.{List, [], ◌∷◌, append-nil}
use mathlib.Core.Option.{Option, none, some}
use lib.Dec.{eqb}
use lib.ListN.{length}
use lib.Seq.{drop-length}
use Prim.Native.Nat.{ℕ, ◌+◌, ◌*◌, ◌<◌}
use native.Mathlib.Omega.{arith}
use borrow.Author.Tests.{eqb-true, eq-eqb}
use Rattle.tree.specs.Codes.{most_slots}
use Rattle.tree.specs.State.{State, Top, empty, full, nodes, GoodTop, Sound}
use Rattle.tree.proofs.SoundStates.{sound_total}
use Rattle.encoding.specs.Numbers.{Reading, Bytes, number}
use Rattle.std.specs.Prelude.{Ok, Err}
use Rattle.saved.specs.Saved.{top_numbers, saved_numbers, bytes_of_all, saved_bytes, renumbered_top, with_rest, renumbered_state, AlikeTop}
use Rattle.saved.specs.Loaded.{before, numbers_at, node_numbers, count_numbers, numbers_in, is_count, state_from, loaded_numbers, loaded_up_to, loaded}
use Rattle.saved.specs.There.{SavedAt}
use Rattle.saved.specs.Misread.{Reads, reads_none, reads_more, asked, Unwritten}
use Rattle.saved.proofs.ReadLists.{reads_at, AtSays, at_says, reads_bytes, reads_there}
use Rattle.saved.proofs.Alike.{renumbered_like, top_nodes, top_numbers_lem, alike_back, top_alike}
use Rattle.saved.proofs.Grown.{numbers_length}
use Rattle.saved.proofs.States.{state_read, state_from_lem, StateSays, state_says, rest_sound}
use Rattle.saved.proofs.Lengths.{saved_small}
use Rattle.saved.proofs.There.{top_reads, reads_top}

top_count : (t : Top) → length (top_numbers t) ≡ 2 * nodes t
unfolding top_numbers nodes
top_count empty = refl
top_count (full t) = numbers_length 1 t

-- C and N once read, the reader reads 2N + 2 numbers in all.
pub in_reads : {bytes vs : List ℕ} {c n j : ℕ} → Reads bytes 0 (c ∷ (n ∷ vs)) j → length vs ≡ 2 * n → numbers_in bytes ≡ Ok (c ∷ (n ∷ vs), j)
unfolding numbers_in count_numbers node_numbers before
in_reads {bytes} (reads_more e (reads_more f r)) l = rw (e, f, ← l, reads_at r)

-- What the reader reads are numbers that stand in the bytes, as many as are asked for; or fewer, and then one that goes wrong.
abbrev pub InSays : List ℕ → Reading (List ℕ) → Type 0
InSays bytes (Err f) = (vs : List ℕ) × (k : ℕ) × Reads bytes 0 vs k × (length vs < asked vs) × (number bytes k ≡ Err f)
InSays bytes (Ok (vs, j)) = Reads bytes 0 vs j × (length vs ≡ asked vs)

pub numbers_in_lem : (bytes : List ℕ) → InSays bytes (numbers_in bytes)
unfolding numbers_in count_numbers node_numbers before
numbers_in_lem bytes = first (number bytes 0) refl
  where
    third : (c n i j : ℕ) → number bytes 0 ≡ Ok (c, i) → number bytes i ≡ Ok (n, j) → (x : Reading (List ℕ)) → AtSays bytes (2 * n) j x → InSays bytes (before c (before n x))
    third c n i j e f (Err g) h = (c ∷ (n ∷ h.0), h.1, reads_more e (reads_more f h.2), omega (arith, h.3), h.4)
    third c n i j e f (Ok (vs, k)) h = (reads_more e (reads_more f h.0), omega (arith, h.1))

    second : (c i : ℕ) → number bytes 0 ≡ Ok (c, i) → (x : Reading ℕ) → number bytes i ≡ x → InSays bytes (numbers_in bytes)
    second c i e (Err g) f = rw (e, f, numbers_in) (c ∷ [], i, reads_more e reads_none, omega arith, f)
    second c i e (Ok (n, j)) f = rw (e, f, numbers_in) (third c n i j e f (numbers_at (2 * n) bytes j) (at_says bytes (2 * n) j))

    first : (x : Reading ℕ) → number bytes 0 ≡ x → InSays bytes (numbers_in bytes)
    first (Err f) e = rw (e, numbers_in) ([], 0, reads_none, omega arith, e)
    first (Ok (c, i)) e = second c i e (number bytes i) refl

loaded_as : (bytes vs : List ℕ) → numbers_in bytes ≡ Ok (vs, length bytes) → loaded bytes ≡ state_from most_slots vs
unfolding loaded_up_to loaded_numbers
loaded_as bytes vs e = rw (e, eq-eqb (length bytes) (length bytes) refl, loaded_numbers)

-- Bytes in which a good set stands, number by number, are taken.
pub there_loaded : (bytes : List ℕ) (c : ℕ) (t : Top) → SavedAt bytes c t → is_count most_slots c (nodes t) ≡ true → GoodTop t → loaded bytes ≡ some (with_rest c (renumbered_top t))
there_loaded bytes c t there count good =
    loaded_as bytes (c ∷ (nodes t ∷ top_numbers t)) (in_reads (reads_more there.slots_there (reads_more there.count_there (top_reads there.top_there))) (top_count t))
    ∙ state_from_lem c t count good

-- The bytes of a sound State are such bytes.
saved_reads : {S : State} → Sound S → Reads (saved_bytes S) 0 (saved_numbers S) (length (saved_bytes S))
unfolding saved_bytes
saved_reads {S} sound =
    let end : 0 + length (bytes_of_all (saved_numbers S)) ≡ length (bytes_of_all (saved_numbers S)) = omega arith in
    rw (append-nil, end) at (reads_bytes [] [] (saved_small sound))

pub saved_there : {S : State} → Sound S → SavedAt (saved_bytes S) S.slots S.top
unfolding saved_numbers
saved_there {S} sound = go (saved_reads sound)
  where
    go : Reads (saved_bytes S) 0 (S.slots ∷ (nodes S.top ∷ top_numbers S.top)) (length (saved_bytes S)) → SavedAt (saved_bytes S) S.slots S.top
    go (reads_more {m = i} e (reads_more {m = j} f r)) =
        record { count_from = i; nodes_from = j; slots_there = e; count_there = f; top_there = reads_top S.top r }

-- "Reading back what was written": the State renumbered.
pub loaded_saved : {S : State} → Sound S → loaded (saved_bytes S) ≡ some (renumbered_state S)
unfolding saved_numbers
loaded_saved {S} sound =
    loaded_as (saved_bytes S) (saved_numbers S) (in_reads (saved_reads sound) (top_count S.top)) ∙ state_read sound

-- A State that bytes give: sound, numbered by the reader, and written as the bytes.
pub record Stored (bytes : List ℕ) (T : State) : Type 0 where
  pub sound : Sound T
  pub written : saved_bytes T ≡ bytes
  pub numbered : renumbered_state T ≡ T

abbrev LoadedSays : List ℕ → Option State → Type 0
LoadedSays bytes none = Unit {0}
LoadedSays bytes (some T) = Stored bytes T

state_loaded : (bytes vs : List ℕ) → bytes_of_all vs ≡ bytes → (x : Option State) → StateSays vs x → LoadedSays bytes x
unfolding saved_bytes
state_loaded bytes vs e none h = tt
state_loaded bytes vs e (some T) h = record { sound = h.sound; written = rw h.written e; numbered = h.numbered }

numbers_loaded : (bytes : List ℕ) → Bytes bytes → (x : Reading (List ℕ)) → InSays bytes x → LoadedSays bytes (loaded_numbers most_slots (length bytes) x)
unfolding loaded_numbers
numbers_loaded bytes b (Err f) h = tt
numbers_loaded bytes b (Ok (vs, next)) h = go (eqb next (length bytes)) refl
  where
    go : (x : Bool) → eqb next (length bytes) ≡ x → LoadedSays bytes (loaded_numbers most_slots (length bytes) (Ok (vs, next)))
    go false e = rw (e, loaded_numbers) tt
    go true e =
        let all : bytes_of_all vs ≡ bytes = sym (rw (eqb-true next (length bytes) e, drop-length bytes, append-nil) at (reads_there bytes b h.0)) in
        rw (e, loaded_numbers) (state_loaded bytes vs all (state_from most_slots vs) (state_says vs))

loaded_says : (bytes : List ℕ) → Bytes bytes → LoadedSays bytes (loaded bytes)
unfolding loaded_up_to
loaded_says bytes b = numbers_loaded bytes b (numbers_in bytes) (numbers_in_lem bytes)

pub loaded_stored : (bytes : List ℕ) {T : State} → Bytes bytes → loaded bytes ≡ some T → Stored bytes T
loaded_stored bytes b e = rw e at (loaded_says bytes b)

-- 13 "for bytes that no writer produces", and for no others.
pub accepted_exactly : (bytes : List ℕ) → Bytes bytes
    → ((T : State) × (loaded bytes ≡ some T)) ↔ ((S : State) × Sound S × (saved_bytes S ≡ bytes))
accepted_exactly bytes b = (
  λ x. let h = loaded_stored bytes b x.1 in (x.0, h.sound, h.written),
  λ x. (renumbered_state x.0, rw x.2 at (loaded_saved x.1)),
)

pub refused_exactly : (bytes : List ℕ) → Bytes bytes → (loaded bytes ≡ none) ↔ Unwritten bytes
refused_exactly bytes b = (refused, go (loaded bytes) refl)
  where
    refused : loaded bytes ≡ none → Unwritten bytes
    refused f S sound e =
        let g : loaded bytes ≡ some (renumbered_state S) = rw e at (loaded_saved sound) in
        let z : ◌≡◌ {A = ℕ} 0 1 = cc in omega arith

    go : (x : Option State) → loaded bytes ≡ x → Unwritten bytes → loaded bytes ≡ none
    go none e h = e
    go (some T) e h = let s = loaded_stored bytes b e in absurd (h T s.sound s.written)

-- So bytes in which no sound State stands, number by number, are not taken.
pub none_there : (bytes : List ℕ) → Bytes bytes → ((S : State) → Sound S → SavedAt bytes S.slots S.top → ⊥) → loaded bytes ≡ none
none_there bytes b absent = (refused_exactly bytes b).1 (λ S sound e. absent S sound (rw e at (saved_there sound)))

-- "Writing that again gives the same bytes."
alike_saved : (S T : State) → S.slots ≡ T.slots → AlikeTop S.top T.top → saved_bytes T ≡ saved_bytes S
unfolding saved_bytes saved_numbers
alike_saved S T e a = rw (e, top_nodes a, top_numbers_lem a)

pub renumbered_saved : (S : State) → saved_bytes (renumbered_state S) ≡ saved_bytes S
unfolding renumbered_state with_rest
renumbered_saved S = alike_saved S (renumbered_state S) refl (renumbered_like S.top)

pub renumbered_sound : {S : State} → Sound S → Sound (renumbered_state S)
unfolding renumbered_state
renumbered_sound {S} sound = rest_sound S.slots S.top sound.some sound.few (omega (arith, sound_total sound)) sound.good

-- "Reading back what was written gives the same keys, routers, shape and weights".
pub renumbered_keeps : (S : State) → AlikeTop S.top (renumbered_state S).top
unfolding renumbered_state with_rest
renumbered_keeps S = renumbered_like S.top

pub renumbered_slots : (S : State) → (renumbered_state S).slots ≡ S.slots
unfolding renumbered_state with_rest
renumbered_slots S = refl

-- Two sound States are written as the same bytes exactly when they have the same C and are alike.
pub same_bytes : {S T : State} → Sound S → Sound T → (saved_bytes S ≡ saved_bytes T) ↔ ((S.slots ≡ T.slots) × AlikeTop S.top T.top)
same_bytes {S} {T} s t = (same, λ x. sym (alike_saved S T x.0 x.1))
  where
    same : saved_bytes S ≡ saved_bytes T → (S.slots ≡ T.slots) × AlikeTop S.top T.top
    same e =
        let f : loaded (saved_bytes S) ≡ some (renumbered_state T) = rw e (loaded_saved t) in
        let g = loaded_saved s in
        let h : renumbered_state S ≡ renumbered_state T = cc in (
          sym (renumbered_slots S) ∙ (ap (λ (x : State). x.slots) h ∙ renumbered_slots T),
          top_alike (renumbered_keeps S) (rw (ap (λ (x : State). x.top) h) (alike_back (renumbered_keeps T))),
        )
