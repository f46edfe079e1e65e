-- Request (i) over its two calls, for any words, bytes and room. Each code is given exactly for its cause, and a refused call leaves all as
-- it was (`save_codes`, `load_codes`, `save_refused`, `load_refused`); 13 gives the byte at which the bytes go wrong (`load_place`). Load
-- after save gives the State renumbered, whatever words the pool held (`load_after_save`); save after that gives the same bytes (`save_again`); what load leaves passes the audit (`load_says`); load takes
-- exactly the bytes that save leaves (`load_takes`); two pools save to the same bytes exactly when they are alike (`save_same`); and the bytes
-- are few (`save_few`). Assumes nothing.
use mathlib.Core.Path.{◌≡◌, refl, ap, sym, ◌∙◌}
use mathlib.Core.Logic.{◌↔◌, ◌≢◌}
use mathlib.Core.Bool.{Bool, true, false}
use mathlib.Core.List.{List, ◌++◌}
use mathlib.Core.Option.{Option, none, some}
use lib.Dec.{eqb, leb}
use lib.ListN.{length, take, drop}
use lib.Seq.{take_at, drop_at}
use Prim.Native.Nat.{ℕ, ◌+◌, ◌*◌, ◌-◌, ◌≤◌, ◌<◌}
use native.Mathlib.Omega.{arith}
use borrow.Author.Tests.{eq-eqb, ne_eqb, eqb-true, eqb-false, le-leb, lt-leb, leb-true, leb-false}
use Rattle.tree.specs.declared.Refusal.TheVariants.{PoolLength, RulesBroken, BadSaved, NoFit}
use Rattle.tree.specs.declared.Answer.{Answer}
use Rattle.tree.specs.declared.Answer.TheVariants.{Done}
use Rattle.tree.specs.Codes.{code_of, number_of}
use Rattle.tree.specs.State.{State, Top, empty, full, nodes, prepared, Sound}
use Rattle.format.specs.Words.{header_of, slots_in, length_good, words_of}
use Rattle.format.specs.Shows.{PoolShows}
use Rattle.format.specs.Audit.{rules_hold, state_under, state_of}
use Rattle.format.proofs.Shown.{shows_words}
use Rattle.format.proofs.SmallWords.{words_small}
use Rattle.format.proofs.Rules.{rules_show, show_rules}
use Rattle.format.proofs.AuditCases.{Words32}
use Rattle.encoding.specs.Numbers.{Bytes}
use Rattle.saved.specs.Saved.{saved_bytes, renumbered_top, with_rest, renumbered_state, AlikeTop}
use Rattle.saved.specs.Loaded.{loaded, bad_place}
use Rattle.saved.specs.Misread.{Unwritten, MisreadAt}
use Rattle.saved.specs.Calls.{Call, place_word, gives, refuses, save_into, save_call, load_state, load_call}
use Rattle.saved.proofs.Alike.{top_nodes}
use Rattle.saved.proofs.States.{size_pos}
use Rattle.saved.proofs.Lengths.{saved_length}
use Rattle.saved.proofs.Places.{place_there, place_exactly}
use Rattle.saved.proofs.Saves.{loaded_saved, loaded_stored, Stored, refused_exactly, renumbered_saved, renumbered_sound, renumbered_keeps, renumbered_slots, same_bytes}

pub slots_are : (p : List ℕ) → (state_of p).slots ≡ slots_in p
unfolding state_under
slots_are p = refl

-- what a call answers and leaves, for the code's contracts
pub both : {a : Answer} {lent : List ℕ} {r : Call} → r ≡ gives a lent → (a ≡ r.answer) × (lent ≡ r.left)
both e = (sym (ap (λ (c : Call). c.answer) e), sym (ap (λ (c : Call). c.left) e))

-- The writer, by cases.
module _ (p out : List ℕ) where
  pub save_length : length_good p ≡ false → save_call p out ≡ refuses PoolLength out
  unfolding save_call
  save_length h = rw (h, save_call)

  pub save_broken : length_good p ≡ true → rules_hold p ≡ false → save_call p out ≡ refuses RulesBroken out
  unfolding save_call
  save_broken h f = rw (h, f, save_call)

  pub save_kept : length_good p ≡ true → rules_hold p ≡ true → save_call p out ≡ save_into (saved_bytes (state_of p)) out
  unfolding save_call
  save_kept h f = rw (h, f, save_call)

pub into_fits : (bytes out : List ℕ) → length bytes ≤ length out → save_into bytes out ≡ gives (Done (length bytes)) (bytes ++ drop (length bytes) out)
unfolding save_into
into_fits bytes out h = rw (le-leb _ _ h, save_into)

pub into_short : (bytes out : List ℕ) → length out < length bytes → save_into bytes out ≡ refuses NoFit out
unfolding save_into
into_short bytes out h = rw (lt-leb _ _ h, save_into)

-- The reader, by cases.
module _ (p bytes : List ℕ) where
  pub load_length : length_good p ≡ false → load_call p bytes ≡ refuses PoolLength p
  unfolding load_call
  load_length h = rw (h, load_call)

  module _ (long : length_good p ≡ true) where
    pub load_bad : {j : ℕ} → loaded bytes ≡ none → j ≡ place_word (bad_place bytes) → load_call p bytes ≡ refuses (BadSaved j) p
    unfolding load_call load_state
    load_bad e f = rw (long, e, f, load_call)

    module _ {S : State} (e : loaded bytes ≡ some S) where
      pub load_differs : S.slots ≢ slots_in p → load_call p bytes ≡ refuses NoFit p
      unfolding load_call load_state
      load_differs z = rw (long, e, ne_eqb S.slots (slots_in p) z, load_call, load_state)

      pub load_done : S.slots ≡ slots_in p → load_call p bytes ≡ gives (Done (nodes S.top)) (words_of S)
      unfolding load_call load_state
      load_done f = rw (long, e, eq-eqb S.slots (slots_in p) f, load_call, load_state)

-- How each call ends: one case for each code, and no other.
pub data SaveEnds (p out : List ℕ) : Call → Type 0 where
  save_ends_1 : length_good p ≡ false → SaveEnds p out (refuses PoolLength out)
  save_ends_2 : length_good p ≡ true → rules_hold p ≡ false → SaveEnds p out (refuses RulesBroken out)
  save_ends_14 : length_good p ≡ true → rules_hold p ≡ true → length out < length (saved_bytes (state_of p)) → SaveEnds p out (refuses NoFit out)
  save_ends_0 : length_good p ≡ true → rules_hold p ≡ true → length (saved_bytes (state_of p)) ≤ length out
      → SaveEnds p out (gives (Done (length (saved_bytes (state_of p)))) (saved_bytes (state_of p) ++ drop (length (saved_bytes (state_of p))) out))

pub save_ends : (p out : List ℕ) → SaveEnds p out (save_call p out)
save_ends p out = go (length_good p) (rules_hold p) (leb (length bytes) (length out)) refl refl refl
  where
    bytes : List ℕ
    bytes = saved_bytes (state_of p)

    go : (a b c : Bool) → length_good p ≡ a → rules_hold p ≡ b → leb (length bytes) (length out) ≡ c → SaveEnds p out (save_call p out)
    go false b c e f g = rw (save_length p out e) (save_ends_1 e)
    go true false c e f g = rw (save_broken p out e f) (save_ends_2 e f)
    go true true false e f g = let h = leb-false _ _ g in rw (save_kept p out e f, into_short bytes out h) (save_ends_14 e f h)
    go true true true e f g = let h = leb-true _ _ g in rw (save_kept p out e f, into_fits bytes out h) (save_ends_0 e f h)

pub data LoadEnds (p bytes : List ℕ) : Call → Type 0 where
  load_ends_1 : length_good p ≡ false → LoadEnds p bytes (refuses PoolLength p)
  load_ends_13 : {j : ℕ} → length_good p ≡ true → Unwritten bytes → MisreadAt bytes j → LoadEnds p bytes (refuses (BadSaved (place_word j)) p)
  load_ends_14 : length_good p ≡ true → (S : State) → Stored bytes S → S.slots ≢ slots_in p → LoadEnds p bytes (refuses NoFit p)
  load_ends_0 : length_good p ≡ true → (S : State) → Stored bytes S → S.slots ≡ slots_in p → LoadEnds p bytes (gives (Done (nodes S.top)) (words_of S))

pub load_ends : (p bytes : List ℕ) → Bytes bytes → LoadEnds p bytes (load_call p bytes)
load_ends p bytes b = go (length_good p) (loaded bytes) refl refl
  where
    fits : length_good p ≡ true → (S : State) → loaded bytes ≡ some S → (x : Bool) → eqb S.slots (slots_in p) ≡ x → LoadEnds p bytes (load_call p bytes)
    fits e S f true g = let h = eqb-true _ _ g in rw (load_done p bytes e f h) (load_ends_0 e S (loaded_stored bytes b f) h)
    fits e S f false g = let h = eqb-false _ _ g in rw (load_differs p bytes e f h) (load_ends_14 e S (loaded_stored bytes b f) h)

    go : (a : Bool) (x : Option State) → length_good p ≡ a → loaded bytes ≡ x → LoadEnds p bytes (load_call p bytes)
    go false x e f = rw (load_length p bytes e) (load_ends_1 e)
    go true none e f = rw (load_bad p bytes e f refl) (load_ends_13 e ((refused_exactly bytes b).0 f) (place_there bytes b f))
    go true (some S) e f = fits e S f (eqb S.slots (slots_in p)) refl

-- "nothing is written on any of them", and number 0 with each, but for 13's.
pub save_refused : (p out : List ℕ) → code_of (save_call p out).answer ≢ 0 → ((save_call p out).left ≡ out) × (number_of (save_call p out).answer ≡ 0)
save_refused p out = go (save_ends p out)
  where
    go : {r : Call} → SaveEnds p out r → code_of r.answer ≢ 0 → (r.left ≡ out) × (number_of r.answer ≡ 0)
    go (save_ends_1 e) z = (refl, refl)
    go (save_ends_2 e f) z = (refl, refl)
    go (save_ends_14 e f g) z = (refl, refl)
    go (save_ends_0 e f g) z = absurd (z refl)

pub load_refused : (p bytes : List ℕ) → Bytes bytes → code_of (load_call p bytes).answer ≢ 0
    → ((load_call p bytes).left ≡ p) × (code_of (load_call p bytes).answer ≢ 13 → number_of (load_call p bytes).answer ≡ 0)
load_refused p bytes b = go (load_ends p bytes b)
  where
    go : {r : Call} → LoadEnds p bytes r → code_of r.answer ≢ 0 → (r.left ≡ p) × (code_of r.answer ≢ 13 → number_of r.answer ≡ 0)
    go (load_ends_1 e) z = (refl, λ h. refl)
    go (load_ends_13 e f g) z = (refl, λ h. absurd (h refl))
    go (load_ends_14 e S f g) z = (refl, λ h. refl)
    go (load_ends_0 e S f g) z = absurd (z refl)

-- 02 (ii): 13 with its place, both ways.
pub load_place : (p bytes : List ℕ) → Bytes bytes → (n : ℕ)
    → ((code_of (load_call p bytes).answer ≡ 13) × (number_of (load_call p bytes).answer ≡ n))
    ↔ ((length_good p ≡ true) × ((j : ℕ) × MisreadAt bytes j × (place_word j ≡ n)))
load_place p bytes b n = (λ h. go (load_ends p bytes b) h.0 h.1, back)
  where
    go : {r : Call} → LoadEnds p bytes r → code_of r.answer ≡ 13 → number_of r.answer ≡ n
        → (length_good p ≡ true) × ((j : ℕ) × MisreadAt bytes j × (place_word j ≡ n))
    go (load_ends_1 e) z h = absurd (omega arith)
    go (load_ends_13 {j} e f g) z h = (e, (j, g, h))
    go (load_ends_14 e S f g) z h = absurd (omega arith)
    go (load_ends_0 e S f g) z h = absurd (omega arith)

    back : (length_good p ≡ true) × ((j : ℕ) × MisreadAt bytes j × (place_word j ≡ n))
        → (code_of (load_call p bytes).answer ≡ 13) × (number_of (load_call p bytes).answer ≡ n)
    back h =
        let w = (place_exactly bytes b h.1.0).1 h.1.1 in
        let e = load_bad p bytes h.0 w.0 (sym (ap place_word w.1 ∙ h.1.2)) in
        (ap (λ (c : Call). code_of c.answer) e, ap (λ (c : Call). number_of c.answer) e)

-- 02 (i)'s codes, each exactly for its cause, in the order 1, 2, 14; and the number beside 0.
pub record SaveCodes (p out : List ℕ) (r : Call) : Type 0 where
  pub done_when : (code_of r.answer ≡ 0) ↔ ((length_good p ≡ true) × (rules_hold p ≡ true) × (length (saved_bytes (state_of p)) ≤ length out))
  pub length_when : (code_of r.answer ≡ 1) ↔ (length_good p ≡ false)
  pub broken_when : (code_of r.answer ≡ 2) ↔ ((length_good p ≡ true) × (rules_hold p ≡ false))
  pub room_when : (code_of r.answer ≡ 14) ↔ ((length_good p ≡ true) × (rules_hold p ≡ true) × (length out < length (saved_bytes (state_of p))))

pub save_codes : (p out : List ℕ) → SaveCodes p out (save_call p out)
save_codes p out = record {
  done_when = (done (save_ends p out), λ h. ap code (save_kept p out h.0 h.1 ∙ into_fits (saved_bytes (state_of p)) out h.2));
  length_when = (wrong (save_ends p out), λ h. ap code (save_length p out h));
  broken_when = (broken (save_ends p out), λ h. ap code (save_broken p out h.0 h.1));
  room_when = (short (save_ends p out), λ h. ap code (save_kept p out h.0 h.1 ∙ into_short (saved_bytes (state_of p)) out h.2));
}
  where
    code : Call → ℕ
    code r = code_of r.answer

    done : {r : Call} → SaveEnds p out r → code_of r.answer ≡ 0 → (length_good p ≡ true) × (rules_hold p ≡ true) × (length (saved_bytes (state_of p)) ≤ length out)
    done (save_ends_1 e) z = absurd (omega arith)
    done (save_ends_2 e f) z = absurd (omega arith)
    done (save_ends_14 e f g) z = absurd (omega arith)
    done (save_ends_0 e f g) z = (e, f, g)

    wrong : {r : Call} → SaveEnds p out r → code_of r.answer ≡ 1 → length_good p ≡ false
    wrong (save_ends_1 e) z = e
    wrong (save_ends_2 e f) z = absurd (omega arith)
    wrong (save_ends_14 e f g) z = absurd (omega arith)
    wrong (save_ends_0 e f g) z = absurd (omega arith)

    broken : {r : Call} → SaveEnds p out r → code_of r.answer ≡ 2 → (length_good p ≡ true) × (rules_hold p ≡ false)
    broken (save_ends_1 e) z = absurd (omega arith)
    broken (save_ends_2 e f) z = (e, f)
    broken (save_ends_14 e f g) z = absurd (omega arith)
    broken (save_ends_0 e f g) z = absurd (omega arith)

    short : {r : Call} → SaveEnds p out r → code_of r.answer ≡ 14 → (length_good p ≡ true) × (rules_hold p ≡ true) × (length out < length (saved_bytes (state_of p)))
    short (save_ends_1 e) z = absurd (omega arith)
    short (save_ends_2 e f) z = absurd (omega arith)
    short (save_ends_14 e f g) z = (e, f, g)
    short (save_ends_0 e f g) z = absurd (omega arith)

pub record LoadCodes (p bytes : List ℕ) (r : Call) : Type 0 where
  pub done_when : (code_of r.answer ≡ 0) ↔ ((length_good p ≡ true) × ((S : State) × Sound S × (saved_bytes S ≡ bytes) × (S.slots ≡ slots_in p)))
  pub length_when : (code_of r.answer ≡ 1) ↔ (length_good p ≡ false)
  pub bytes_when : (code_of r.answer ≡ 13) ↔ ((length_good p ≡ true) × Unwritten bytes)
  pub slots_when : (code_of r.answer ≡ 14) ↔ ((length_good p ≡ true) × ((S : State) × Sound S × (saved_bytes S ≡ bytes) × (S.slots ≢ slots_in p)))

pub load_codes : (p bytes : List ℕ) → Bytes bytes → LoadCodes p bytes (load_call p bytes)
load_codes p bytes b = record {
  done_when = (done (load_ends p bytes b), λ h. let w = h.1 in ap code (load_done p bytes h.0 (read w.0 w.1 w.2) (renumbered_slots w.0 ∙ w.3)));
  length_when = (wrong (load_ends p bytes b), λ h. ap code (load_length p bytes h));
  bytes_when = (unwritten (load_ends p bytes b), λ h. ap code (load_bad p bytes h.0 ((refused_exactly bytes b).1 h.1) refl));
  slots_when = (other (load_ends p bytes b), λ h. let w = h.1 in ap code (load_differs p bytes h.0 (read w.0 w.1 w.2) (λ e. w.3 (sym (renumbered_slots w.0) ∙ e))));
}
  where
    code : Call → ℕ
    code r = code_of r.answer

    read : (S : State) → Sound S → saved_bytes S ≡ bytes → loaded bytes ≡ some (renumbered_state S)
    read S sound e = rw e at (loaded_saved sound)

    done : {r : Call} → LoadEnds p bytes r → code_of r.answer ≡ 0 → (length_good p ≡ true) × ((S : State) × Sound S × (saved_bytes S ≡ bytes) × (S.slots ≡ slots_in p))
    done (load_ends_1 e) z = absurd (omega arith)
    done (load_ends_13 e f g) z = absurd (omega arith)
    done (load_ends_14 e S f g) z = absurd (omega arith)
    done (load_ends_0 e S f g) z = (e, (S, f.sound, f.written, g))

    wrong : {r : Call} → LoadEnds p bytes r → code_of r.answer ≡ 1 → length_good p ≡ false
    wrong (load_ends_1 e) z = e
    wrong (load_ends_13 e f g) z = absurd (omega arith)
    wrong (load_ends_14 e S f g) z = absurd (omega arith)
    wrong (load_ends_0 e S f g) z = absurd (omega arith)

    unwritten : {r : Call} → LoadEnds p bytes r → code_of r.answer ≡ 13 → (length_good p ≡ true) × Unwritten bytes
    unwritten (load_ends_1 e) z = absurd (omega arith)
    unwritten (load_ends_13 e f g) z = (e, f)
    unwritten (load_ends_14 e S f g) z = absurd (omega arith)
    unwritten (load_ends_0 e S f g) z = absurd (omega arith)

    other : {r : Call} → LoadEnds p bytes r → code_of r.answer ≡ 14 → (length_good p ≡ true) × ((S : State) × Sound S × (saved_bytes S ≡ bytes) × (S.slots ≢ slots_in p))
    other (load_ends_1 e) z = absurd (omega arith)
    other (load_ends_13 e f g) z = absurd (omega arith)
    other (load_ends_14 e S f g) z = (e, (S, f.sound, f.written, g))
    other (load_ends_0 e S f g) z = absurd (omega arith)

-- A pool that passes the audit, saved: the call answers 0 and n, and its first n bytes are the pool's.
pub record Saving (p out : List ℕ) (n : ℕ) : Type 0 where
  pub long : length_good p ≡ true
  pub rules : rules_hold p ≡ true
  pub count_is : n ≡ length (saved_bytes (state_of p))
  pub bytes_are : take n (save_call p out).left ≡ saved_bytes (state_of p)
  pub later_stay : drop n (save_call p out).left ≡ drop n out

pub save_says : (p out : List ℕ) (n : ℕ) → (save_call p out).answer ≡ Done n → Saving p out n
save_says p out n = go (save_ends p out) refl
  where
    go : {r : Call} → SaveEnds p out r → save_call p out ≡ r → r.answer ≡ Done n → Saving p out n
    go (save_ends_1 e) q z = absurd (omega (arith, ap code_of z))
    go (save_ends_2 e f) q z = absurd (omega (arith, ap code_of z))
    go (save_ends_14 e f g) q z = absurd (omega (arith, ap code_of z))
    go (save_ends_0 e f g) q z =
        let count : length (saved_bytes (state_of p)) ≡ n = ap number_of z in
        record {
          long = e;
          rules = f;
          count_is = sym count;
          bytes_are = rw (q, ← count) (take_at (saved_bytes (state_of p)) (drop (length (saved_bytes (state_of p))) out) _ refl);
          later_stay = rw (q, ← count) (drop_at (saved_bytes (state_of p)) (drop (length (saved_bytes (state_of p))) out) _ refl);
        }

-- A pool that passes the audit.
module _ (p : List ℕ) (words : Words32 p) (long : length_good p ≡ true) (rules : rules_hold p ≡ true) where
  sound : Sound (state_of p)
  sound = (rules_show (header_of p) p long rules words).0

  -- At most 7N + 4 bytes.
  pub save_few : length (saved_bytes (state_of p)) ≤ 7 * nodes (state_of p).top + 4
  save_few = saved_length sound

  -- "Reading back what was written gives the same keys, routers, shape and weights": the State renumbered, in any words of the same C.
  pub load_after_save : (q : List ℕ) → length_good q ≡ true → slots_in q ≡ slots_in p
      → load_call q (saved_bytes (state_of p)) ≡ gives (Done (nodes (state_of p).top)) (words_of (renumbered_state (state_of p)))
  load_after_save q h e =
      let S = state_of p in
      load_done q (saved_bytes S) h (loaded_saved sound) (renumbered_slots S ∙ (slots_are p ∙ sym e)) ∙ rw (top_nodes (renumbered_keeps S))

  -- "Writing that again gives the same bytes."
  pub save_again : (out : List ℕ) → save_call (words_of (renumbered_state (state_of p))) out ≡ save_call p out
  save_again out =
      let S = state_of p in
      let T = renumbered_state S in
      let t = renumbered_sound sound in
      let r = show_rules t (shows_words t) in
      save_kept (words_of T) out r.0 r.1
      ∙ (ap (λ (x : State). save_into (saved_bytes x) out) r.2 ∙ (rw (renumbered_saved S) (sym (save_kept p out long rules))))

-- Two pools that are saved: the bytes that the two calls leave are the same exactly when the pools have the same C, keys, routers, shape and
-- weights.
pub save_same : (p q out room : List ℕ) (n m : ℕ) → Words32 p → Words32 q → (save_call p out).answer ≡ Done n → (save_call q room).answer ≡ Done m
    → (take n (save_call p out).left ≡ take m (save_call q room).left) ↔ ((slots_in p ≡ slots_in q) × AlikeTop (state_of p).top (state_of q).top)
save_same p q out room n m v w a b =
    let A = save_says p out n a in
    let B = save_says q room m b in
    let e = same_bytes (sound p v A.long A.rules) (sound q w B.long B.rules) in
    rw (A.bytes_are, B.bytes_are) (
      λ h. let x = e.0 h in (sym (slots_are p) ∙ (x.0 ∙ slots_are q), x.1),
      λ h. e.1 (slots_are p ∙ (h.0 ∙ sym (slots_are q)), h.1),
    )

-- What load leaves: with code 0 the words of a State that is sound, written as the bytes, and numbered 1, 2, .. in their order. They pass the
-- audit.
pub record Loading (p bytes : List ℕ) (n : ℕ) : Type 0 where
  pub state : State
  pub stored : Stored bytes state
  pub slots_same : state.slots ≡ slots_in p
  pub count_is : n ≡ nodes state.top
  pub words_are : (load_call p bytes).left ≡ words_of state
  pub shows : PoolShows (load_call p bytes).left state

pub load_says : (p bytes : List ℕ) (n : ℕ) → Bytes bytes → (load_call p bytes).answer ≡ Done n → Loading p bytes n
load_says p bytes n b = go (load_ends p bytes b) refl
  where
    go : {r : Call} → LoadEnds p bytes r → load_call p bytes ≡ r → r.answer ≡ Done n → Loading p bytes n
    go (load_ends_1 e) q z = absurd (omega (arith, ap code_of z))
    go (load_ends_13 e f g) q z = absurd (omega (arith, ap code_of z))
    go (load_ends_14 e S f g) q z = absurd (omega (arith, ap code_of z))
    go (load_ends_0 e S f g) q z =
        let left : (load_call p bytes).left ≡ words_of S = ap (λ (x : Call). x.left) q in
        record { state = S; stored = f; slots_same = g; count_is = sym (ap number_of z); words_are = left; shows = rw left (shows_words f.sound) }

-- What a sound State was written as, loaded with code 0: the State renumbered.
pub load_back : {S : State} → Sound S → (w : List ℕ) {n : ℕ} → (load_call w (saved_bytes S)).answer ≡ Done n → (load_call w (saved_bytes S)).left ≡ words_of (renumbered_state S)
load_back {S} sound w {n} = go (length_good w) refl
  where
    bytes : List ℕ
    bytes = saved_bytes S

    Goal : Type 0
    Goal = (load_call w bytes).answer ≡ Done n → (load_call w bytes).left ≡ words_of (renumbered_state S)

    differs : length_good w ≡ true → (x : Bool) → eqb (renumbered_state S).slots (slots_in w) ≡ x → Goal
    differs e true f z = ap (λ (c : Call). c.left) (load_done w bytes e (loaded_saved sound) (eqb-true _ _ f))
    differs e false f z = absurd (omega (arith, ap code_of (sym (ap (λ (c : Call). c.answer) (load_differs w bytes e (loaded_saved sound) (eqb-false _ _ f))) ∙ z)))

    go : (x : Bool) → length_good w ≡ x → Goal
    go false e z = absurd (omega (arith, ap code_of (sym (ap (λ (c : Call). c.answer) (load_length w bytes e)) ∙ z)))
    go true e z = differs e (eqb (renumbered_state S).slots (slots_in w)) refl z

-- Load takes exactly what save leaves: bytes that some pool of the same C was saved as, in some room.
pub record SavedFrom (w bytes : List ℕ) : Type 0 where
  pub pool : List ℕ
  pub words : Words32 pool
  pub out : List ℕ
  pub count : ℕ
  pub is_saved : (save_call pool out).answer ≡ Done count
  pub bytes_are : take count (save_call pool out).left ≡ bytes
  pub slots_same : slots_in pool ≡ slots_in w

pub load_takes : (w bytes : List ℕ) → Bytes bytes → length_good w ≡ true → ((n : ℕ) × ((load_call w bytes).answer ≡ Done n)) ↔ SavedFrom w bytes
load_takes w bytes b long = (
  λ x. taken (load_says w bytes x.0 b x.1),
  λ x.
      let S = save_says x.pool x.out x.count x.is_saved in
      let e = load_after_save x.pool x.words S.long S.rules w long (sym x.slots_same) in
      (nodes (state_of x.pool).top, rw (sym S.bytes_are ∙ x.bytes_are) at (ap (λ (c : Call). c.answer) e)),
)
  where
    taken : {n : ℕ} → Loading w bytes n → SavedFrom w bytes
    taken L =
        let T = L.state in
        let p = words_of T in
        let shows = shows_words L.stored.sound in
        let r = show_rules L.stored.sound shows in
        let bytes-is : saved_bytes (state_of p) ≡ bytes = ap saved_bytes r.2 ∙ L.stored.written in
        let room : length (saved_bytes (state_of p)) ≤ length bytes = omega (arith, ap length bytes-is) in
        let call = save_kept p bytes r.0 r.1 ∙ into_fits (saved_bytes (state_of p)) bytes room in
        let answered : (save_call p bytes).answer ≡ Done (length (saved_bytes (state_of p))) = ap (λ (c : Call). c.answer) call in
        record {
          pool = p;
          words = words_small L.stored.sound shows;
          out = bytes;
          count = length (saved_bytes (state_of p));
          is_saved = answered;
          bytes_are = (save_says p bytes (length (saved_bytes (state_of p))) answered).bytes_are ∙ bytes-is;
          slots_same = sym (slots_are p) ∙ (ap (λ (x : State). x.slots) r.2 ∙ L.slots_same);
        }

-- N = 0: the pool is then as prepared.
none_saved : (c : ℕ) → with_rest c empty ≡ prepared c
unfolding nodes with_rest prepared
none_saved c = let e : c - 0 ≡ c = omega arith in rw e

no_nodes : (t : Top) → nodes t ≡ 0 → renumbered_top t ≡ empty
unfolding nodes renumbered_top
no_nodes empty e = refl
no_nodes (full t) e = absurd (omega (arith, size_pos t))

pub load_empty : (p bytes : List ℕ) → Bytes bytes → (load_call p bytes).answer ≡ Done 0 → (load_call p bytes).left ≡ words_of (prepared (slots_in p))
unfolding renumbered_state
load_empty p bytes b e =
    let L = load_says p bytes 0 b e in
    let T = L.state in
    let top : renumbered_top T.top ≡ empty = no_nodes T.top (sym L.count_is) in
    L.words_are ∙ ap words_of (sym L.stored.numbered ∙ (ap (with_rest T.slots) top ∙ (none_saved T.slots ∙ ap prepared L.slots_same)))
