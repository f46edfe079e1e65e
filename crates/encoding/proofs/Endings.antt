-- How a batch call ends, case by case (`ending`), and the other way round: 01's causes in the order 1, 3, 4, 2, and then the call that
-- runs. Why: the audit's answer is 1, or 2, or the State of the words; 3 and 4 are asked before the last two. Assumes nothing.
use mathlib.Core.Path.{◌≡◌, refl, sym, ◌∙◌}
use mathlib.Core.Bool.{Bool, true, false, false≢true}
use mathlib.Core.List.{List}
use lib.Dec.{ltb}
use lib.ListN.{length}
use borrow.Author.Tests.{ltb-true, ltb-false, lt-ltb, le-ltb}
use Prim.Native.Nat.{ℕ, ◌*◌, ◌≤◌, ◌<◌}
use Rattle.std.specs.Prelude.{Result, Ok, Err}
use Rattle.tree.specs.declared.Refusal.TheVariants.{PoolLength, RulesBroken, BadCommand, FewAnswers}
use Rattle.format.specs.declared.Header.{Header}
use Rattle.format.specs.declared.Unsound.{Unsound}
use Rattle.format.specs.declared.Unsound.TheVariants.{Length, Broken}
use Rattle.format.specs.Words.{length_good}
use Rattle.format.specs.Audit.{rules_hold, audited}
use Rattle.format.proofs.AuditCases.{Case, wrong_length, rules_broken, rules_kept, audited_case, audited_length, audited_broken, audited_kept}
use Rattle.encoding.specs.declared.Command.{Command}
use Rattle.encoding.specs.Batch.{Batch, commands, bad_at, read_batch, Call, called, refused, batch_read, batch}

-- How a call ends: 01's causes in their order.
pub data Ending (p bytes out : List ℕ) : Call → Type 0 where
  length_refused : length_good p ≡ false → Ending p bytes out (refused PoolLength p out)
  bad_command : {i : ℕ} → length_good p ≡ true → read_batch bytes ≡ bad_at i → Ending p bytes out (refused (BadCommand i) p out)
  few_answers : {cs : List Command} → length_good p ≡ true → read_batch bytes ≡ commands cs → length out < 2 * length cs
      → Ending p bytes out (refused FewAnswers p out)
  rules_refused : {cs : List Command} → length_good p ≡ true → read_batch bytes ≡ commands cs → 2 * length cs ≤ length out → rules_hold p ≡ false
      → Ending p bytes out (refused RulesBroken p out)
  ran : {cs : List Command} → length_good p ≡ true → read_batch bytes ≡ commands cs → 2 * length cs ≤ length out → rules_hold p ≡ true
      → Ending p bytes out (called cs p out)

module _ (p bytes out : List ℕ) where
  -- once the length is good, and `rest` says how a call ends that neither 3 nor 4 refuses
  read_ending : length_good p ≡ true → (rest : List Command → Call)
      → ((cs : List Command) → read_batch bytes ≡ commands cs → 2 * length cs ≤ length out → Ending p bytes out (rest cs))
      → Ending p bytes out (batch_read (read_batch bytes) p out rest)
  unfolding batch_read
  read_ending l rest f = go (read_batch bytes) refl
    where
      go : (b : Batch) → read_batch bytes ≡ b → Ending p bytes out (batch_read b p out rest)
      go (bad_at i) e = bad_command l e
      go (commands cs) e = enough (ltb (length out) (2 * length cs)) refl
        where
          enough : (a : Bool) → ltb (length out) (2 * length cs) ≡ a → Ending p bytes out (elim a [ true ↦ refused FewAnswers p out | false ↦ rest cs ])
          enough true h = few_answers l e (ltb-true _ _ h)
          enough false h = f cs e (ltb-false _ _ h)

  pub ending : Ending p bytes out (batch p bytes out)
  unfolding batch
  ending = go (audited_case p)
    where
      go : {a : Result Header Unsound} → Case p a → Ending p bytes out (elim a [
        | Err Length ↦ refused PoolLength p out
        | Err Broken ↦ batch_read (read_batch bytes) p out (λ cs. refused RulesBroken p out)
        | Ok h ↦ batch_read (read_batch bytes) p out (λ cs. called cs p out)
      ])
      go (wrong_length h) = length_refused h
      go (rules_broken h f) = read_ending h _ (λ cs e r. rules_refused h e r f)
      go (rules_kept h f) = read_ending h _ (λ cs e r. ran h e r f)

  -- The other way round.
  pub length_ends : length_good p ≡ false → batch p bytes out ≡ refused PoolLength p out
  unfolding batch
  length_ends h = rw (audited_length p h, batch)

  -- beyond 1, what was read decides first, whatever the audit says of the rules
  beyond : length_good p ≡ true → (rest : List Command → Call) × (batch p bytes out ≡ batch_read (read_batch bytes) p out rest)
  unfolding batch
  beyond l = go (audited_case p) refl
    where
      go : {a : Result Header Unsound} → Case p a → audited p ≡ a → (rest : List Command → Call) × (batch p bytes out ≡ batch_read (read_batch bytes) p out rest)
      go (wrong_length h) e = absurd (false≢true (sym h ∙ l))
      go (rules_broken h f) e = ((λ cs. refused RulesBroken p out), rw (e, batch))
      go (rules_kept h f) e = ((λ cs. called cs p out), rw (e, batch))

  module _ (l : length_good p ≡ true) where
    pub bad_ends : {i : ℕ} → read_batch bytes ≡ bad_at i → batch p bytes out ≡ refused (BadCommand i) p out
    unfolding batch_read
    bad_ends e = (beyond l).1 ∙ rw (e, batch_read)

    module _ {cs : List Command} (e : read_batch bytes ≡ commands cs) where
      pub few_ends : length out < 2 * length cs → batch p bytes out ≡ refused FewAnswers p out
      unfolding batch_read
      few_ends h = (beyond l).1 ∙ rw (e, lt-ltb _ _ h, batch_read)

      pub broken_ends : 2 * length cs ≤ length out → rules_hold p ≡ false → batch p bytes out ≡ refused RulesBroken p out
      unfolding batch batch_read
      broken_ends h r = rw (audited_broken p l r, batch, e, le-ltb _ _ h, batch_read)

      pub ran_ends : 2 * length cs ≤ length out → rules_hold p ≡ true → batch p bytes out ≡ called cs p out
      unfolding batch batch_read
      ran_ends h r = rw (audited_kept p l r, batch, e, le-ltb _ _ h, batch_read)
