-- A call, test by test as the code makes them: what was found in the bytes, whether the answers suffice, what the audit says.
-- Assumes nothing.
use mathlib.Core.Path.{◌≡◌, refl, sym, ◌∙◌}
use mathlib.Core.Bool.{Bool, true, false, not}
use mathlib.Core.List.{List}
use Prim.Native.Nat.{ℕ, ◌*◌, ◌≤◌, ◌<◌}
use native.Mathlib.Omega.{arith}
use lib.ListN.{length}
use borrow.Author.Tests.{not-true, not-false}
use Rattle.tree.specs.declared.Refusal.{Refusal}
use Rattle.tree.specs.declared.Refusal.TheVariants.{PoolLength, RulesBroken, BadCommand, FewAnswers}
use Rattle.format.specs.declared.Header.{Header}
use Rattle.format.specs.Words.{length_good}
use Rattle.format.specs.declared.Unsound.{Unsound}
use Rattle.format.specs.Audit.{audited, refusal_of}
use Rattle.format.proofs.AuditCases.{Kept, broken_told}
use Rattle.encoding.specs.Batch.{most_commands, read_batch, called, refused, batch}
use Rattle.encoding.proofs.Endings.{length_ends, bad_ends, few_ends, broken_ends, ran_ends}
use Rattle.std.specs.Prelude.{Result, Ok, Err}
use Rattle.encoding.specs.declared.Fault.{Fault}
use Rattle.commands.specs.Scanned.{scanned}
use Rattle.commands.proofs.Running.{scanned_commands, scanned_bad, batch_size, batch_bad}
use Rattle.batch.specs.Answered.{call_code, call_number}
use Rattle.batch.specs.Ready.{Ready}

-- "refuse the call [..] and change no word"
pub call_refuses : (f : Refusal) (p out : List ℕ)
    → ((refused f p out).code ≡ call_code (Err f)) × (((refused f p out).number ≡ call_number (Err f)) × (((refused f p out).pool ≡ p) × ((refused f p out).answers ≡ out)))
unfolding refused call_code call_number
call_refuses f p out = (refl, (refl, (refl, refl)))

module _ (bytes : List ℕ) (found : Result ℕ Fault) (scan : found ≡ scanned (read_batch bytes)) where
  -- the byte at which a batch goes wrong fits a word, and so does twice the number of commands
  pub place_fits : (f : Fault) → found ≡ Err f → f.place ≤ 2816
  place_fits f e = (batch_bad bytes (scanned_bad (read_batch bytes) (sym scan ∙ e))).1

  pub count_fits : (n : ℕ) → found ≡ Ok n → n ≤ most_commands
  count_fits n e =
      let x = scanned_commands (read_batch bytes) (sym scan ∙ e) in omega (arith, x.2, (batch_size bytes x.1).0)

  pub finds_bad : (p out : List ℕ) → length_good p ≡ true → (f : Fault) → found ≡ Err f → batch p bytes out ≡ refused (BadCommand f.place) p out
  finds_bad p out good f e = bad_ends p bytes out good (scanned_bad (read_batch bytes) (sym scan ∙ e))

  -- nothing refuses the call
  module _ (p out : List ℕ) (n : ℕ) (e : found ≡ Ok n) (enough : 2 * n ≤ length out) {h : Header} (k : Kept p h) where
    pub finds_ready : Ready p h bytes out
    finds_ready =
        let x = scanned_commands (read_batch bytes) (sym scan ∙ e) in
        record {
          cs = x.0;
          read = x.1;
          enough = omega (arith, x.2);
          length_good_holds = k.length_good_holds;
          rules_hold_holds = k.rules_hold_holds;
          sound = k.sound;
          shows = k.shows;
        }

    -- the call gives 0 and number 0 itself
    pub finds_none : (call_code (Ok tt) ≡ (batch p bytes out).code) × (call_number (Ok tt) ≡ (batch p bytes out).number)
    unfolding called call_code call_number
    finds_none =
        let r = finds_ready in
        rw (ran_ends p bytes out r.length_good_holds r.read r.enough r.rules_hold_holds) (refl, refl)

-- The same from the tests as the code makes them, for a `search` that takes what stands before a return, wherever it stands: `long` is
-- what the test of the length gave, `found` what was found in the bytes, `given` what the audit answered.
module _ (p bytes out : List ℕ) {long : Bool} (l : long ≡ length_good p) where
  pub test_length : not long ≡ true → batch p bytes out ≡ refused PoolLength p out
  test_length t = length_ends p bytes out (sym l ∙ not-true long t)

  module _ (t : not long ≡ false) {found : Result ℕ Fault} (scan : found ≡ scanned (read_batch bytes)) {n : ℕ} (e : found ≡ Ok n) where
    pub test_few : length out < 2 * n → batch p bytes out ≡ refused FewAnswers p out
    test_few h =
        let x = scanned_commands (read_batch bytes) (sym scan ∙ e) in
        few_ends p bytes out (sym l ∙ not-false long t) x.1 (omega (arith, x.2))

    -- 2: of the audit's two causes one is left
    module _ (h : 2 * n ≤ length out) {u : Unsound} (b : audited p ≡ Err u) where
      broken_refused : (refusal_of u ≡ RulesBroken) × (batch p bytes out ≡ refused RulesBroken p out)
      broken_refused =
          let x = scanned_commands (read_batch bytes) (sym scan ∙ e) in
          let good = sym l ∙ not-false long t in
          let w = broken_told p good u b in
          (w.1, broken_ends p bytes out good x.1 (omega (arith, x.2)) w.0)

      pub broken_code : call_code (Err (refusal_of u)) ≡ (batch p bytes out).code
      broken_code = rw (broken_refused.0, broken_refused.1) (sym (call_refuses RulesBroken p out).0)

      pub broken_number : call_number (Err (refusal_of u)) ≡ (batch p bytes out).number
      broken_number = rw (broken_refused.0, broken_refused.1) (sym (call_refuses RulesBroken p out).1.0)

      pub broken_pool : p ≡ (batch p bytes out).pool
      broken_pool = rw broken_refused.1 (sym (call_refuses RulesBroken p out).1.1.0)

      pub broken_answers : out ≡ (batch p bytes out).answers
      broken_answers = rw broken_refused.1 (sym (call_refuses RulesBroken p out).1.1.1)
