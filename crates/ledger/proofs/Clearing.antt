-- Clearing, on any words and any notice: how it ends (`clear_ends`); each code exactly when its cause is there (`clear_codes`); a refusal gives
-- number 0 and changes no word (`clear_refused`); else the notice's marks are gone, every other key is as before, keys with attempt 0 and
-- other notices' marks among them, and the number is how many went (`clear_says`); where none went no word changes
-- (`clear_none`).
-- Why: `from_says`, over the notice's 65,536 keys, of which `mark_of` says which are marks. Assumes nothing.
use mathlib.Core.Path.{◌≡◌, refl, sym, ◌∙◌}
use mathlib.Core.Logic.{◌≢◌}
use mathlib.Core.Bool.{true, false≢true}
use mathlib.Core.List.{List}
use native.Mathlib.Omega.{arith}
use native.Mathlib.Decide.{ℕ_discrete}
use Prim.Native.Nat.{ℕ, ◌+◌, ◌≤◌, ◌<◌}
use Rattle.set.specs.Operations.{code_of, number_of, Call}
use Rattle.set.specs.Set.{Passing}
use Rattle.set.proofs.Promises.{Words32}
use Rattle.ledger.specs.Ledger.{notice_keys, notice_good, mark_key, attempt_of, cleared_from, clearing, clear_notice}
use Rattle.ledger.specs.Sends.{NoticeIn, IsMark, Cleaned, ClearEnds, clears_15, clears_1, clears_2, clears_0, ClearCodes}
use Rattle.ledger.proofs.Arguments.{notice_good_is, mark_of}
use Rattle.ledger.proofs.Judging.{Judged, outside, no_length, no_pool, goes_on, judged_ends, early_outside, early_length, early_broken, early_none, wrong_not_passing}
use Rattle.ledger.proofs.Cleared.{FromSays, from_says}

-- A notice of a pool that passes.
cleaned : {p : List ℕ} {n : ℕ} → NoticeIn n → Passing p → let c = cleared_from notice_keys (mark_key n 0 0) p in Cleaned p n c.count c.words
cleaned {p} {n} i g = record {
  notice_in = i;
  passed = g;
  passes = f.passes;
  none_left = λ x m. let w = (mark_of n x).0 m in f.marks_gone x w.0 w.1 w.2;
  others_stay = λ x no-mark. f.others_stay x (λ j k. attempt_0 x no-mark j k (ℕ_discrete (attempt_of x) 0));
  keys_gone = f.keys_gone;
}
  where
    f : FromSays notice_keys (mark_key n 0 0) p (cleared_from notice_keys (mark_key n 0 0) p)
    f = from_says notice_keys (mark_key n 0 0) g

    attempt_0 : (x : ℕ) → (IsMark n x → ⊥) → mark_key n 0 0 ≤ x → x < mark_key n 0 0 + notice_keys → Dec (attempt_of x ≡ 0) → attempt_of x ≡ 0
    attempt_0 x no-mark j k (yes e) = e
    attempt_0 x no-mark j k (no d) = absurd (no-mark ((mark_of n x).1 (j, k, d)))

module _ (p : List ℕ) (n : ℕ) (words : Words32 p) where
  pub clear_ends : ClearEnds p n (clear_notice p n)
  unfolding clear_notice clearing
  clear_ends = go (judged_ends p words (clearing p (mark_key n 0 0)) (notice_good n))
    where
      in_range : notice_good n ≡ true → NoticeIn n
      in_range e = (notice_good_is n).0 e

      go : {c : Call} → Judged p (clearing p (mark_key n 0 0)) (notice_good n) c → ClearEnds p n c
      go (outside e) = clears_15 (λ i. false≢true (sym e ∙ (notice_good_is n).1 i))
      go (no_length e h) = clears_1 (in_range e) h
      go (no_pool e h f) = clears_2 (in_range e) h f
      go (goes_on e g) = clears_0 (cleaned (in_range e) g)

  pub clear_codes : ClearCodes p n (code_of (clear_notice p n).answer)
  clear_codes = go clear_ends
    where
      go : {c : Call} → ClearEnds p n c → ClearCodes p n (code_of c.answer)
      go (clears_15 o) = record { early = early_outside o; done_when = (λ z. absurd (omega arith), λ h. absurd (o h.0)) }
      go (clears_1 i k) = record { early = early_length i k; done_when = (λ z. absurd (omega arith), λ h. absurd (wrong_not_passing k h.1)) }
      go (clears_2 i k f) = record { early = early_broken i k f; done_when = (λ z. absurd (omega arith), λ h. absurd (f h.1)) }
      go (clears_0 w) = record {
        early = early_none w.notice_in w.passed 0 (λ z. omega arith) (λ z. omega arith) (λ z. omega arith);
        done_when = (λ z. (w.notice_in, w.passed), λ h. refl);
      }

  -- "each gives 0 and changes nothing"
  pub clear_refused : code_of (clear_notice p n).answer ≢ 0 → (number_of (clear_notice p n).answer ≡ 0) × ((clear_notice p n).left ≡ p)
  clear_refused = go clear_ends
    where
      go : {c : Call} → ClearEnds p n c → code_of c.answer ≢ 0 → (number_of c.answer ≡ 0) × (c.left ≡ p)
      go (clears_15 o) d = (refl, refl)
      go (clears_1 i k) d = (refl, refl)
      go (clears_2 i k f) d = (refl, refl)
      go (clears_0 w) d = absurd (d refl)

  pub clear_says : code_of (clear_notice p n).answer ≡ 0 → Cleaned p n (number_of (clear_notice p n).answer) (clear_notice p n).left
  clear_says = go clear_ends
    where
      go : {c : Call} → ClearEnds p n c → code_of c.answer ≡ 0 → Cleaned p n (number_of c.answer) c.left
      go (clears_15 o) z = absurd (omega arith)
      go (clears_1 i k) z = absurd (omega arith)
      go (clears_2 i k f) z = absurd (omega arith)
      go (clears_0 w) z = w

  pub clear_passing : Passing p → Passing (clear_notice p n).left
  clear_passing g = go clear_ends
    where
      go : {c : Call} → ClearEnds p n c → Passing c.left
      go (clears_15 o) = g
      go (clears_1 i k) = g
      go (clears_2 i k f) = g
      go (clears_0 w) = w.passes

  -- where no mark went, no word changed
  pub clear_none : number_of (clear_notice p n).answer ≡ 0 → (clear_notice p n).left ≡ p
  unfolding clear_notice clearing
  clear_none = go (judged_ends p words (clearing p (mark_key n 0 0)) (notice_good n))
    where
      go : {c : Call} → Judged p (clearing p (mark_key n 0 0)) (notice_good n) c → number_of c.answer ≡ 0 → c.left ≡ p
      go (outside e) z = refl
      go (no_length e h) z = refl
      go (no_pool e h f) z = refl
      go (goes_on e g) z = (from_says notice_keys (mark_key n 0 0) g).none_kept z

  -- how many went, at most
  pub clear_few : number_of (clear_notice p n).answer ≤ notice_keys
  unfolding clear_notice clearing
  clear_few = go (judged_ends p words (clearing p (mark_key n 0 0)) (notice_good n))
    where
      go : {c : Call} → Judged p (clearing p (mark_key n 0 0)) (notice_good n) c → number_of c.answer ≤ notice_keys
      go (outside e) = omega arith
      go (no_length e h) = omega arith
      go (no_pool e h f) = omega arith
      go (goes_on e g) = (from_says notice_keys (mark_key n 0 0) g).few
