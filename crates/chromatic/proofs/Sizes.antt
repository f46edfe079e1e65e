-- 02 (viii) as a host sees it. "Raise C to 16,383. [..] Code 1 follows the new limit": the exported audit gives 1 exactly where the pool has
-- 4 + 4C words for no C from 1 to 16,383 (`code_1_exactly`); every other call asks the same of the length (`length_exactly` in format's
-- Shown.antt). Of each such C prepare answers 0, and its pool passes the audit (`prepared_passes`). "All figures of the report must be shown to
-- fit 64 bits at the new size": each number that the exported report returns is below 2 ^ 64, for any words (`number_fits`). "255 remains enough
-- for L": the fourth word of a pool for which the audit gives 0 is at most 255 (`level_low_returned`), and so is that of a pool that was loaded,
-- from whatever bytes (`level_low_after_load`); over sequences of calls, and that no tree gets stuck there: demands' Levels and StepsLeft.
-- "A saved form written before reads as it did": into a pool of a size that was known then, the exported load returns the word and leaves the
-- words of then, on any bytes, but for a form of a larger C, for which it returned 13 and the count of bytes, and returns 14 now; both leave the
-- pool (`load_returned_as_before`). "An installation not yet updated refuses a saved C above 1,023 with 13 and writes nothing", whatever follows
-- that C (`before_returned`). The load of then: saved's Older. Assumes nothing.
use mathlib.Core.Path.{◌≡◌, refl, ap, sym, ◌∙◌}
use mathlib.Core.Logic.{◌≢◌, ◌↔◌, ◌⊎◌, inl, inr}
use mathlib.Core.Bool.{Bool, true, false, false≢true}
use mathlib.Core.List.{List}
use lib.ListN.{length, get_or}
use native.Mathlib.Omega.{arith}
use Prim.Native.Nat.{ℕ, ◌+◌, ◌*◌, ◌^◌, ◌≤◌, ◌<◌}
use Rattle.tree.specs.declared.Answer.TheVariants.{Done}
use Rattle.tree.specs.State.{prepared}
use Rattle.tree.proofs.SoundStates.{sound_level}
use Rattle.format.specs.Words.{header_of, slots_in, length_good}
use Rattle.format.specs.Audit.{audit_code}
use Rattle.format.proofs.Shown.{slots_in_lem, length_is_good, shows_length_good, shows_level, length_exactly}
use Rattle.format.proofs.AuditCases.{Words32, audit_codes}
use Rattle.pool.specs.Results.{prepare_code, prepared_words}
use Rattle.pool.proofs.Prepares.{prepared_shows, prepared_accepted}
use Rattle.report.proofs.Exact.{report_fits_64}
use Rattle.std.specs.Prelude.{Ok}
use Rattle.encoding.specs.Numbers.{Bytes, number}
use Rattle.saved.specs.Loaded.{bad_place}
use Rattle.saved.specs.Calls.{Call, place_word, load_call}
use Rattle.saved.specs.Older.{most_before, load_before}
use Rattle.saved.proofs.Restarts.{load_says}
use Rattle.saved.proofs.Older.{LargerForm, before_refuses, load_as_before}
use Rattle.set.proofs.Promises.{audit_passes}
use Rattle.set.proofs.Levels.{level_low}
use Rattle.chromatic.specs.Exports.{number_at, code_unit, in_one_word, returned_answer}

-- Which lengths are refused
pub code_1_exactly : (p : List ℕ) → (audit_code p ≡ 1) ↔ ((c : ℕ) → 1 ≤ c → c ≤ 16383 → length p ≢ 4 + 4 * c)
code_1_exactly p = (
  λ e c l h f. none ((length_exactly p).1 (c, l, h, f)) ((audit_codes p).length_when.0 e),
  λ g. (audit_codes p).length_when.1 (go g (length_good p) refl),
)
  where
    none : length_good p ≡ true → length_good p ≡ false → ⊥
    none e f = false≢true (sym f ∙ e)

    go : ((c : ℕ) → 1 ≤ c → c ≤ 16383 → length p ≢ 4 + 4 * c) → (b : Bool) → length_good p ≡ b → length_good p ≡ false
    go g false e = e
    go g true e = let c = (length_exactly p).0 e in absurd (g c.0 c.1 c.2 c.3)

pub prepared_passes : (p : List ℕ) (c : ℕ) → 1 ≤ c → c ≤ 16383 → length p ≡ 4 + 4 * c
    → (prepare_code p ≡ 0) × (audit_code (prepared_words p) ≡ 0) × (slots_in (prepared_words p) ≡ c)
unfolding prepare_code prepared
prepared_passes p c l h e =
    let long = length_is_good p c e l h in
    let s = prepared_shows p long in
    (rw (long, prepare_code), prepared_accepted p long, (shows_length_good s.0 s.1).1 ∙ slots_in_lem p c e)

pub number_fits : (p : List ℕ) → Words32 p → (i : ℕ) → number_at p i < 2 ^ 64
unfolding number_at
number_fits = report_fits_64

pub level_low_returned : (p : List ℕ) → Words32 p → audit_code p ≡ 0 → get_or p 3 0 ≤ 255
level_low_returned p words passed = level_low ((audit_passes p words).0 passed)

pub level_low_after_load : (p bytes : List ℕ) → Bytes bytes → {n : ℕ} → (load_call p bytes).answer ≡ Done n → get_or (load_call p bytes).left 3 0 ≤ 255
unfolding header_of
level_low_after_load p bytes b {n} done = let L = load_says p bytes n b done in omega (arith, shows_level L.shows, sound_level L.stored.sound)

-- What the exported load returned and left then, and does now: the same; or, where the bytes are the form of a larger C, a refusal each.
pub record SameReturned (p bytes : List ℕ) : Type 0 where
  pub same_word : returned_answer (load_call p bytes).answer ≡ returned_answer (load_before p bytes).answer
  pub same_left : (load_call p bytes).left ≡ (load_before p bytes).left

pub record LargerReturned (p bytes : List ℕ) : Type 0 where
  pub then_returned : returned_answer (load_before p bytes).answer ≡ 13 * code_unit + place_word (length bytes)
  pub then_kept : (load_before p bytes).left ≡ p
  pub now_returned : returned_answer (load_call p bytes).answer ≡ 14 * code_unit
  pub now_kept : (load_call p bytes).left ≡ p

module _ (p bytes : List ℕ) (long : length_good p ≡ true) (known : slots_in p ≤ most_before) where
  pub load_returned_as_before : SameReturned p bytes ⊎ LargerReturned p bytes
  unfolding returned_answer in_one_word
  load_returned_as_before = go (load_as_before p bytes long known)
    where
      go : (load_call p bytes ≡ load_before p bytes) ⊎ LargerForm p bytes → SameReturned p bytes ⊎ LargerReturned p bytes
      go (inl e) = inl (record { same_word = ap (λ (c : Call). returned_answer c.answer) e; same_left = ap (λ (c : Call). c.left) e })
      go (inr f) = inr (record {
        then_returned = rw f.then_13;
        then_kept = rw f.then_13;
        now_returned = rw f.now_14 (omega arith);
        now_kept = rw f.now_14;
      })

  pub before_returned : {c next : ℕ} → number bytes 0 ≡ Ok (c, next) → most_before < c
      → (returned_answer (load_before p bytes).answer ≡ 13 * code_unit + place_word (bad_place bytes)) × ((load_before p bytes).left ≡ p)
  unfolding returned_answer in_one_word
  before_returned e large = rw (before_refuses p bytes long known e large) (refl, refl)
