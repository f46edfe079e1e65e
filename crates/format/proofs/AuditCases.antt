-- What each answer of the audit says of the words, for all who begin with it: 1 and 2 by their causes (`length_wrong`,
-- `rules_are_broken`), and that words which pass show a sound State under the header that the audit answers (`rules_are_kept`). The code
-- is 0 exactly where the words show one (`audit_exact`), and each code is given exactly for its cause (`audit_codes`). Assumes nothing.
use mathlib.Core.Path.{◌≡◌, refl, sym, ◌∙◌}
use mathlib.Core.Logic.{◌↔◌, ◌≢◌}
use mathlib.Core.Bool.{Bool, true, false, false≢true}
use mathlib.Core.List.{List}
use Prim.Native.Nat.{ℕ, ◌<◌, ◌^◌}
use native.Mathlib.Omega.{arith}
use lib.ListN.{get_or}
use Rattle.tree.specs.declared.Refusal.TheVariants.{RulesBroken}
use Rattle.tree.specs.State.{State, Sound}
use Rattle.format.specs.declared.Header.{Header}
use Rattle.std.specs.Prelude.{Result, Ok, Err}
use Rattle.format.specs.declared.Unsound.{Unsound}
use Rattle.format.specs.declared.Unsound.TheVariants.{Length, Broken}
use Rattle.format.specs.Words.{header_of, length_good}
use Rattle.format.specs.Shows.{Shows, PoolShows}
use Rattle.format.specs.Audit.{rules_hold, state_of, audited, audited_code, refusal_of, audit_code}
use Rattle.format.proofs.Rules.{rules_show, show_rules}

-- every word is a 32-bit number
abbrev pub Words32 : List ℕ → Type 0
Words32 p = (i : ℕ) → get_or p i 0 < 2 ^ 32

pub data Case (p : List ℕ) : Result Header Unsound → Type 0 where
  wrong_length : length_good p ≡ false → Case p (Err Length)
  rules_broken : length_good p ≡ true → rules_hold p ≡ false → Case p (Err Broken)
  rules_kept : length_good p ≡ true → rules_hold p ≡ true → Case p (Ok (header_of p))

-- Where nothing more is given, the code tells all.
pub told_by_code : (r s : Result (Unit {0}) Unsound) → audited_code r ≡ audited_code s → r ≡ s
told_by_code (Ok a) (Ok b) e = refl
told_by_code (Ok a) (Err Length) e = absurd (omega arith)
told_by_code (Ok a) (Err Broken) e = absurd (omega arith)
told_by_code (Err Length) (Ok b) e = absurd (omega arith)
told_by_code (Err Length) (Err Length) e = refl
told_by_code (Err Length) (Err Broken) e = absurd (omega arith)
told_by_code (Err Broken) (Ok b) e = absurd (omega arith)
told_by_code (Err Broken) (Err Length) e = absurd (omega arith)
told_by_code (Err Broken) (Err Broken) e = refl

module _ (p : List ℕ) where
  pub audited_case : Case p (audited p)
  unfolding audited
  audited_case = go (length_good p) (rules_hold p) refl refl
    where
      go : (a b : Bool) → length_good p ≡ a → rules_hold p ≡ b → Case p (audited p)
      go false b e f = rw (e, audited) (wrong_length e)
      go true false e f = rw (e, f, audited) (rules_broken e f)
      go true true e f = rw (e, f, audited) (rules_kept e f)

  -- the other way round
  pub audited_length : length_good p ≡ false → audited p ≡ Err Length
  unfolding audited
  audited_length h = rw (h, audited)

  pub audited_broken : length_good p ≡ true → rules_hold p ≡ false → audited p ≡ Err Broken
  unfolding audited
  audited_broken h e = rw (h, e, audited)

  pub audited_kept : length_good p ≡ true → rules_hold p ≡ true → audited p ≡ Ok (header_of p)
  unfolding audited
  audited_kept h e = rw (h, e, audited)

  pub audited_passed : {S : State} → Sound S → PoolShows p S → audited p ≡ Ok (header_of p)
  audited_passed sound shows = let g = show_rules sound shows in audited_kept g.0 g.1

-- What a caller knows of the words by the answer.
case_length : {p : List ℕ} → Case p (Err Length) → length_good p ≡ false
case_length (wrong_length h) = h

pub length_wrong : (p : List ℕ) → audited p ≡ Err Length → length_good p ≡ false
length_wrong p e = case_length (rw e at (audited_case p))

case_broken : {p : List ℕ} → Case p (Err Broken) → (length_good p ≡ true) × (rules_hold p ≡ false)
case_broken (rules_broken h f) = (h, f)

pub rules_are_broken : (p : List ℕ) → audited p ≡ Err Broken → (length_good p ≡ true) × (rules_hold p ≡ false)
rules_are_broken p e = case_broken (rw e at (audited_case p))

pub record Kept (p : List ℕ) (h : Header) : Type 0 where
  pub length_good_holds : length_good p ≡ true
  pub rules_hold_holds : rules_hold p ≡ true
  pub header_is : h ≡ header_of p
  pub sound : Sound (state_of p)
  pub shows : Shows h p (state_of p)

case_kept : {p : List ℕ} {h : Header} → Words32 p → Case p (Ok h) → Kept p h
case_kept {p} words (rules_kept g f) =
    let S = rules_show (header_of p) p g f words in
    record { length_good_holds = g; rules_hold_holds = f; header_is = refl; sound = S.0; shows = S.1 }

pub rules_are_kept : (p : List ℕ) {h : Header} → Words32 p → audited p ≡ Ok h → Kept p h
rules_are_kept p words e = case_kept words (rw e at (audited_case p))

-- The same by the code.
pub code_kept : (p : List ℕ) → Words32 p → audit_code p ≡ 0 → Kept p (header_of p)
unfolding audit_code
code_kept p words = go (audited_case p)
  where
    go : {r : Result Header Unsound} → Case p r → audited_code r ≡ 0 → Kept p (header_of p)
    go (wrong_length h) e = absurd (omega arith)
    go (rules_broken h f) e = absurd (omega arith)
    go (rules_kept h f) e = case_kept words (rules_kept h f)

pub code_broken : (p : List ℕ) → length_good p ≡ true → audit_code p ≢ 0 → rules_hold p ≡ false
unfolding audit_code
code_broken p l = go (audited_case p)
  where
    go : {r : Result Header Unsound} → Case p r → audited_code r ≢ 0 → rules_hold p ≡ false
    go (wrong_length h) n = absurd (false≢true (sym h ∙ l))
    go (rules_broken h f) n = f
    go (rules_kept h f) n = absurd (n refl)

-- Where the length is good, the audit has one cause to refuse.
pub broken_told : (p : List ℕ) → length_good p ≡ true → (u : Unsound) → audited p ≡ Err u → (rules_hold p ≡ false) × (refusal_of u ≡ RulesBroken)
broken_told p l Length e = absurd (false≢true (sym (length_wrong p e) ∙ l))
broken_told p l Broken e = ((rules_are_broken p e).1, refl)

-- Code 0 exactly when the words show a sound State. (They show no other: `shows_one`.)
pub audit_exact : (p : List ℕ) → Words32 p → (audit_code p ≡ 0) ↔ ((S : State) × Sound S × PoolShows p S)
unfolding audit_code
audit_exact p words = (λ e. let k = code_kept p words e in (state_of p, k.sound, k.shows), λ g. rw (audited_passed p g.1 g.2))

-- The three codes, each exactly for its cause.
pub record AuditCodes (p : List ℕ) : Type 0 where
  pub passed_when : (audit_code p ≡ 0) ↔ ((length_good p ≡ true) × (rules_hold p ≡ true))
  pub length_when : (audit_code p ≡ 1) ↔ (length_good p ≡ false)
  pub broken_when : (audit_code p ≡ 2) ↔ ((length_good p ≡ true) × (rules_hold p ≡ false))

pub audit_codes : (p : List ℕ) → AuditCodes p
unfolding audit_code
audit_codes p = record {
  passed_when = (passed (audited_case p), λ h. rw (audited_kept p h.0 h.1));
  length_when = (wrong (audited_case p), λ h. rw (audited_length p h));
  broken_when = (broken (audited_case p), λ h. rw (audited_broken p h.0 h.1));
}
  where
    passed : {r : Result Header Unsound} → Case p r → audited_code r ≡ 0 → (length_good p ≡ true) × (rules_hold p ≡ true)
    passed (wrong_length h) e = absurd (omega arith)
    passed (rules_broken h f) e = absurd (omega arith)
    passed (rules_kept h f) e = (h, f)

    wrong : {r : Result Header Unsound} → Case p r → audited_code r ≡ 1 → length_good p ≡ false
    wrong (wrong_length h) e = h
    wrong (rules_broken h f) e = absurd (omega arith)
    wrong (rules_kept h f) e = absurd (omega arith)

    broken : {r : Result Header Unsound} → Case p r → audited_code r ≡ 2 → (length_good p ≡ true) × (rules_hold p ≡ false)
    broken (wrong_length h) e = absurd (omega arith)
    broken (rules_broken h f) e = (h, f)
    broken (rules_kept h f) e = absurd (omega arith)
