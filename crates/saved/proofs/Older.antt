-- 02 (viii): "A saved form written before reads as it did. An installation not yet updated refuses a saved C above 1,023 with 13 and writes
-- nothing." A reader with a lower limit takes exactly the bytes that name a C within it, and makes the same State of them (`up_to_exactly`).
-- So an installation not yet updated refuses bytes that begin with a larger C with 13, whatever follows, and leaves every word
-- (`before_refuses`), the count of bytes being beside it where today's reader takes them (`before_refuses_form`); and today's load, into a
-- pool of a size that it knew, answers and leaves what its load did, but for such a form, which gets 14 now (`load_as_before`; what it took
-- is taken, `read_as_before`).
-- Why: the limit is asked in one place of the reader, of C alone. Assumes nothing.
use mathlib.Core.Path.{◌≡◌, refl, ap, sym, ◌∙◌}
use mathlib.Core.Logic.{◌↔◌, ◌⊎◌, inl, inr}
use mathlib.Core.Bool.{Bool, true, false, ◌&&◌}
use mathlib.Core.List.{List, [], ◌∷◌}
use mathlib.Core.Option.{Option, none, some}
use lib.Dec.{eqb, leb}
use lib.ListN.{length}
use Prim.Native.Nat.{ℕ, ◌*◌, ◌≤◌, ◌<◌}
use native.Mathlib.Omega.{arith}
use native.Mathlib.Decide.{dec_lt}
use borrow.Author.Tests.{leb-true, le-leb, lt-leb}
use Rattle.tree.specs.declared.Refusal.TheVariants.{BadSaved, NoFit}
use Rattle.tree.specs.Codes.{most_slots}
use Rattle.tree.specs.State.{State, Top}
use Rattle.format.specs.Words.{length_good, slots_in}
use Rattle.encoding.specs.Numbers.{Reading, number}
use Rattle.std.specs.Prelude.{Ok, Err}
use Rattle.saved.specs.Saved.{with_rest}
use Rattle.saved.specs.Loaded.{before, numbers_at, node_numbers, count_numbers, numbers_in, top_from, is_count, with_top, state_from, loaded_numbers, loaded_up_to, loaded, place_in, bad_place}
use Rattle.saved.specs.Calls.{refuses, load_state, load_call, place_word}
use Rattle.saved.specs.Older.{most_before, load_before}
use Rattle.saved.proofs.Restarts.{load_differs}

-- What a lower limit leaves.
unfoldable cut : ℕ → Option State → Option State
cut most none = none
cut most (some S) = elim (leb S.slots most) [ true ↦ some S | false ↦ none ]

cut_within : (most c : ℕ) → c ≤ most → (x : Option Top) → cut most (with_top c x) ≡ with_top c x
unfolding cut with_top with_rest
cut_within most c h none = refl
cut_within most c h (some t) = rw (le-leb c most h, cut)

cut_above : (most c : ℕ) → most < c → (x : Option Top) → cut most (with_top c x) ≡ none
unfolding cut with_top with_rest
cut_above most c h none = refl
cut_above most c h (some t) = rw (lt-leb c most h, cut)

none_above : (most c n : ℕ) → most < c → is_count most c n ≡ false
unfolding is_count
none_above most c n h = rw (lt-leb c most h) (go (leb 1 c))
  where
    go : (b : Bool) → (b && (false && leb n c)) ≡ false
    go true = refl
    go false = refl

module _ (few most : ℕ) (h : few ≤ most) where
  same_within : (c n : ℕ) → c ≤ few → is_count few c n ≡ is_count most c n
  unfolding is_count
  same_within c n k = rw (le-leb c few k, le-leb c most (omega arith))

  state_cut : (vs : List ℕ) → state_from few vs ≡ cut few (state_from most vs)
  unfolding cut state_from
  state_cut [] = refl
  state_cut (c ∷ []) = refl
  state_cut (c ∷ (n ∷ vs)) = go (dec_lt few c) (is_count most c n) refl
    where
      go : Dec (few < c) → (b : Bool) → is_count most c n ≡ b → state_from few (c ∷ (n ∷ vs)) ≡ cut few (state_from most (c ∷ (n ∷ vs)))
      go (yes k) true e = rw (none_above few c n k, e, state_from, cut_above few c k (top_from n vs))
      go (yes k) false e = rw (none_above few c n k, e, state_from)
      go (no k) true e = rw (same_within c n (omega arith), e, state_from, cut_within few c (omega arith) (top_from n vs))
      go (no k) false e = rw (same_within c n (omega arith), e, state_from)

  numbers_cut : (end : ℕ) (x : Reading (List ℕ)) → loaded_numbers few end x ≡ cut few (loaded_numbers most end x)
  unfolding cut loaded_numbers
  numbers_cut end (Err f) = refl
  numbers_cut end (Ok (vs, next)) = go (eqb next end) refl
    where
      go : (b : Bool) → eqb next end ≡ b → loaded_numbers few end (Ok (vs, next)) ≡ cut few (loaded_numbers most end (Ok (vs, next)))
      go true e = rw (e, loaded_numbers, state_cut vs)
      go false e = rw (e, loaded_numbers)

  loaded_cut : (bytes : List ℕ) → loaded_up_to few bytes ≡ cut few (loaded_up_to most bytes)
  unfolding loaded_up_to
  loaded_cut bytes = numbers_cut (length bytes) (numbers_in bytes)

  pub up_to_exactly : (bytes : List ℕ) {S : State} → (loaded_up_to few bytes ≡ some S) ↔ ((loaded_up_to most bytes ≡ some S) × (S.slots ≤ few))
  unfolding cut
  up_to_exactly bytes {S} = (
    λ e. go (loaded_up_to most bytes) refl (sym (loaded_cut bytes) ∙ e),
    λ b. loaded_cut bytes ∙ rw (b.0, le-leb S.slots few b.1, cut),
  )
    where
      within : (T : State) (b : Bool) → leb T.slots few ≡ b → cut few (some T) ≡ some S → (some T ≡ some S) × (S.slots ≤ few)
      within T true f e =
          let g : some T ≡ some S = rw (f, cut) at e in
          let same : T ≡ S = cc in
          (g, omega (arith, leb-true T.slots few f, ap (λ (U : State). U.slots) same))
      within T false f e = let g : none ≡ some S = rw (f, cut) at e in let z : ◌≡◌ {A = ℕ} 0 1 = cc in absurd (omega arith)

      go : (x : Option State) → loaded_up_to most bytes ≡ x → cut few x ≡ some S → (loaded_up_to most bytes ≡ some S) × (S.slots ≤ few)
      go none f e = let z : ◌≡◌ {A = ℕ} 0 1 = cc in absurd (omega arith)
      go (some T) f e = let w = within T (leb T.slots few) refl e in (f ∙ w.0, w.1)

-- Bytes that begin with a C above the limit.
module _ (most c n : ℕ) (h : most < c) where
  above_none : (end : ℕ) (x : Reading (List ℕ)) → loaded_numbers most end (before c (before n x)) ≡ none
  unfolding loaded_numbers before state_from
  above_none end (Err f) = refl
  above_none end (Ok (vs, next)) = go (eqb next end) refl
    where
      go : (b : Bool) → eqb next end ≡ b → loaded_numbers most end (Ok (c ∷ (n ∷ vs), next)) ≡ none
      go true e = rw (e, loaded_numbers, none_above most c n h, state_from)
      go false e = rw (e, loaded_numbers)

above_unread : (most : ℕ) (bytes : List ℕ) {c next : ℕ} → number bytes 0 ≡ Ok (c, next) → most < c → loaded_up_to most bytes ≡ none
unfolding loaded_up_to numbers_in count_numbers node_numbers loaded_numbers
above_unread most bytes {c} {next} e h = rw e (go (number bytes next))
  where
    go : (x : Reading ℕ) → loaded_numbers most (length bytes) (node_numbers bytes c x) ≡ none
    go (Ok (n, after)) = above_none most c n h (length bytes) (numbers_at (2 * n) bytes after)
    go (Err f) = refl

-- Of bytes that are read no number goes wrong.
read_place : (most : ℕ) (bytes : List ℕ) {S : State} → loaded_up_to most bytes ≡ some S → bad_place bytes ≡ length bytes
unfolding loaded_up_to loaded_numbers bad_place place_in
read_place most bytes {S} = go (numbers_in bytes)
  where
    go : (x : Reading (List ℕ)) → loaded_numbers most (length bytes) x ≡ some S → place_in (length bytes) x ≡ length bytes
    go (Err f) e = let z : ◌≡◌ {A = ℕ} 0 1 = cc in absurd (omega arith)
    go (Ok (vs, next)) e = refl

-- "A saved form written before reads as it did."
pub read_as_before : (bytes : List ℕ) {S : State} → loaded_up_to most_before bytes ≡ some S → loaded bytes ≡ some S
read_as_before bytes e = ((up_to_exactly most_before most_slots (omega arith) bytes).0 e).0

-- The form of a larger C, then and now; into a pool of a size that was known then it fits neither time.
pub record LargerForm (p bytes : List ℕ) : Type 0 where
  pub state : State
  pub is_read : loaded bytes ≡ some state
  pub large : most_before < state.slots
  pub then_13 : load_before p bytes ≡ refuses (BadSaved (place_word (length bytes))) p
  pub now_14 : load_call p bytes ≡ refuses NoFit p

-- A pool of a size that the installation knew.
module _ (p bytes : List ℕ) (long : length_good p ≡ true) (known : slots_in p ≤ most_before) where
  before_is : load_before p bytes ≡ load_state (loaded_up_to most_before bytes) (bad_place bytes) p
  unfolding load_before
  before_is = rw (long, le-leb (slots_in p) most_before known, load_before)

  -- "An installation not yet updated refuses a saved C above 1,023 with 13 and writes nothing."
  pub before_refuses : {c next : ℕ} → number bytes 0 ≡ Ok (c, next) → most_before < c → load_before p bytes ≡ refuses (BadSaved (place_word (bad_place bytes))) p
  unfolding load_state
  before_refuses e large = before_is ∙ rw (above_unread most_before bytes e large)

  module _ {S : State} (e : loaded bytes ≡ some S) (large : most_before < S.slots) where
    unread : loaded_up_to most_before bytes ≡ none
    unfolding cut
    unread = loaded_cut most_before most_slots (omega arith) bytes ∙ rw (e, lt-leb S.slots most_before large, cut)

    pub before_refuses_form : load_before p bytes ≡ refuses (BadSaved (place_word (length bytes))) p
    unfolding load_state
    before_refuses_form = before_is ∙ rw (unread, read_place most_slots bytes e)

    now_refuses : load_call p bytes ≡ refuses NoFit p
    now_refuses = load_differs p bytes long e (λ f. omega arith)

  now_is : load_call p bytes ≡ load_state (loaded bytes) (bad_place bytes) p
  unfolding load_call
  now_is = rw (long, load_call)

  same_call : loaded_up_to most_before bytes ≡ loaded bytes → load_call p bytes ≡ load_before p bytes
  same_call f = now_is ∙ (ap (λ (x : Option State). load_state x (bad_place bytes) p) (sym f) ∙ sym before_is)

  pub load_as_before : (load_call p bytes ≡ load_before p bytes) ⊎ LargerForm p bytes
  unfolding cut
  load_as_before = go (loaded bytes) refl
    where
      go : (x : Option State) → loaded bytes ≡ x → (load_call p bytes ≡ load_before p bytes) ⊎ LargerForm p bytes
      go none e = inl (same_call (loaded_cut most_before most_slots (omega arith) bytes ∙ rw e))
      go (some S) e = elim (dec_lt most_before S.slots) [
        | yes k ↦ inr (record { state = S; is_read = e; large = k; then_13 = before_refuses_form e k; now_14 = now_refuses e k })
        | no k ↦ inl (same_call ((up_to_exactly most_before most_slots (omega arith) bytes).1 (e, omega arith) ∙ sym e))
      ]
