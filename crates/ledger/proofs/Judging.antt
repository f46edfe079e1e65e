-- A call is refused, or goes on (`unless_refused`, `unless_done`). The order of refusals that both calls share: 15, then the audit's 1 or 2, then
-- what the call does (`judged_outside`, `judged_unaudited`, `judged_on`), how a judged call ends (`judged_ends`), and their codes, each exactly for its cause (`early_outside` to `early_none`); and of each of the two, with the first key as the code computes it. Assumes
-- nothing.
use mathlib.Core.Path.{◌≡◌, refl, ap, sym, ◌∙◌}
use mathlib.Core.Logic.{◌≢◌}
use mathlib.Core.Bool.{Bool, true, false, false≢true}
use mathlib.Core.List.{List}
use borrow.Author.Tests.{eq-eqb, ne_eqb}
use native.Mathlib.Omega.{arith}
use Prim.Native.Nat.{ℕ, ◌+◌, ◌*◌}
use Rattle.tree.specs.declared.Answer.{Answer}
use Rattle.tree.specs.declared.Answer.TheVariants.{Done, Refused}
use Rattle.tree.specs.declared.Refusal.TheVariants.{PoolLength, RulesBroken, OutOfRange}
use Rattle.set.specs.Operations.{code_of, Call, gives, refuses, length_good, audit_answer}
use Rattle.set.specs.Set.{Passing, Audits, wrong_length, rules_broken, audit_passed}
use Rattle.set.proofs.Promises.{Words32, passing_length, audit_says}
use Rattle.ledger.specs.Sends.{EarlyCodes}
use Rattle.ledger.specs.Ledger.{notice_keys, resident_keys, notice_good, arguments_good, mark_key, unless, range_answer, judged, asked, may_send, clearing, clear_notice}

-- refused, or on
module _ (a : Answer) (p : List ℕ) (next : Call) where
  pub unless_refused : code_of a ≢ 0 → unless a p next ≡ gives a p
  unfolding unless
  unless_refused n = rw (ne_eqb _ _ n, unless)

  pub unless_done : code_of a ≡ 0 → unless a p next ≡ next
  unfolding unless
  unless_done e = rw (eq-eqb _ _ e, unless)

module _ (p : List ℕ) (next : Call) {b : Bool} where
  pub judged_outside : b ≡ false → judged b p next ≡ refuses OutOfRange p
  unfolding judged range_answer
  judged_outside e = rw e (unless_refused (Refused OutOfRange) p (unless (audit_answer p) p next) (λ z. omega arith))

  in_range : b ≡ true → judged b p next ≡ unless (audit_answer p) p next
  unfolding judged range_answer
  in_range e = rw e (unless_done (Done 0) p (unless (audit_answer p) p next) refl)

  pub judged_unaudited : b ≡ true → code_of (audit_answer p) ≢ 0 → judged b p next ≡ gives (audit_answer p) p
  judged_unaudited e n = in_range e ∙ unless_refused (audit_answer p) p next n

  pub judged_on : b ≡ true → code_of (audit_answer p) ≡ 0 → judged b p next ≡ next
  judged_on e z = in_range e ∙ unless_done (audit_answer p) p next z

-- The audit's code 0: the pool passes.
pub audit_passing : (p : List ℕ) → Words32 p → code_of (audit_answer p) ≡ 0 → Passing p
audit_passing p words = go (audit_says p words)
  where
    go : {a : Answer} → Audits p a → code_of a ≡ 0 → Passing p
    go (wrong_length l) e = absurd (omega arith)
    go (rules_broken l n) e = absurd (omega arith)
    go (audit_passed l g) e = g

-- How a judged call ends, `good` being whether its arguments are in their ranges.
pub data Judged (p : List ℕ) (done : Call) (good : Bool) : Call → Type 0 where
  outside : good ≡ false → Judged p done good (refuses OutOfRange p)
  no_length : good ≡ true → length_good p ≡ false → Judged p done good (refuses PoolLength p)
  no_pool : good ≡ true → length_good p ≡ true → (Passing p → ⊥) → Judged p done good (refuses RulesBroken p)
  goes_on : good ≡ true → Passing p → Judged p done good done

pub judged_ends : (p : List ℕ) → Words32 p → (done : Call) (good : Bool) → Judged p done good (judged good p done)
judged_ends p words done false = rw (judged_outside p done refl) (outside refl)
judged_ends p words done true = go (audit_says p words) refl
  where
    refused : code_of (audit_answer p) ≢ 0 → judged true p done ≡ gives (audit_answer p) p
    refused = judged_unaudited p done refl

    go : {a : Answer} → Audits p a → audit_answer p ≡ a → Judged p done true (judged true p done)
    go (wrong_length l) e = rw (refused (λ z. omega (arith, ap code_of e)), e) (no_length refl l)
    go (rules_broken l n) e = rw (refused (λ z. omega (arith, ap code_of e)), e) (no_pool refl l n)
    go (audit_passed l g) e = rw (judged_on p done refl (ap code_of e)) (goes_on refl g)

-- The codes that both calls share, by what the call came to.
module _ {I : Type 0} {p : List ℕ} where
  pub early_outside : (I → ⊥) → EarlyCodes I p 15
  early_outside o = record {
    outside_when = (λ z. o, λ h. refl);
    length_when = (λ z. absurd (omega arith), λ h. absurd (o h.0));
    broken_when = (λ z. absurd (omega arith), λ h. absurd (o h.0));
  }

  pub early_length : I → length_good p ≡ false → EarlyCodes I p 1
  early_length i k = record {
    outside_when = (λ z. absurd (omega arith), λ h. absurd (h i));
    length_when = (λ z. (i, k), λ h. refl);
    broken_when = (λ z. absurd (omega arith), λ h. absurd (false≢true (sym k ∙ h.1)));
  }

  pub early_broken : I → length_good p ≡ true → (Passing p → ⊥) → EarlyCodes I p 2
  early_broken i k f = record {
    outside_when = (λ z. absurd (omega arith), λ h. absurd (h i));
    length_when = (λ z. absurd (omega arith), λ h. absurd (false≢true (sym h.1 ∙ k)));
    broken_when = (λ z. (i, k, f), λ h. refl);
  }

  pub early_none : I → Passing p → (code : ℕ) → code ≢ 15 → code ≢ 1 → code ≢ 2 → EarlyCodes I p code
  early_none i g code x y z = record {
    outside_when = (λ e. absurd (x e), λ h. absurd (h i));
    length_when = (λ e. absurd (y e), λ h. absurd (false≢true (sym h.1 ∙ passing_length g)));
    broken_when = (λ e. absurd (z e), λ h. absurd (h.2 g));
  }

-- a pool of a wrong length does not pass
pub wrong_not_passing : {p : List ℕ} → length_good p ≡ false → Passing p → ⊥
wrong_not_passing k g = false≢true (sym k ∙ passing_length g)

-- May send, test by test.
module _ (p : List ℕ) (n r l : ℕ) where
  pub sending_outside : arguments_good n r l ≡ false → may_send p n r l ≡ refuses OutOfRange p
  unfolding may_send
  sending_outside e = judged_outside p _ e

  pub sending_unaudited : arguments_good n r l ≡ true → code_of (audit_answer p) ≢ 0 → may_send p n r l ≡ gives (audit_answer p) p
  unfolding may_send
  sending_unaudited e d = judged_unaudited p _ e d

  pub sending_asks : arguments_good n r l ≡ true → code_of (audit_answer p) ≡ 0 → may_send p n r l ≡ asked p (n * notice_keys + r * resident_keys) l
  unfolding may_send mark_key
  sending_asks e z =
      let first : n * notice_keys + r * resident_keys + 0 ≡ n * notice_keys + r * resident_keys = omega arith in
      judged_on p _ e z ∙ ap (λ (k : ℕ). asked p k l) first

-- Clearing, in the same way.
module _ (p : List ℕ) (n : ℕ) where
  pub clearing_outside : notice_good n ≡ false → clear_notice p n ≡ refuses OutOfRange p
  unfolding clear_notice
  clearing_outside e = judged_outside p _ e

  pub clearing_unaudited : notice_good n ≡ true → code_of (audit_answer p) ≢ 0 → clear_notice p n ≡ gives (audit_answer p) p
  unfolding clear_notice
  clearing_unaudited e d = judged_unaudited p _ e d

  pub clearing_clears : notice_good n ≡ true → code_of (audit_answer p) ≡ 0 → clear_notice p n ≡ clearing p (n * notice_keys)
  unfolding clear_notice mark_key
  clearing_clears e z =
      let first : n * notice_keys + 0 * resident_keys + 0 ≡ n * notice_keys = omega arith in
      judged_on p _ e z ∙ ap (clearing p) first
