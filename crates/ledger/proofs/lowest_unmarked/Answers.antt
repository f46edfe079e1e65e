-- Where the attempt is marked, the lowest from the next one on is the lowest. Assumes nothing.
use Rattle.std.proofs.Common.{◌≡◌, ℕ, ◌+◌, ◌-◌, false, Result, Ok, Err, is_err, sym, ◌∙◌, arith}
use Rattle.tree.specs.declared.Answer.{Answer}
use Rattle.tree.specs.declared.Refusal.{Refusal}
use Rattle.set.specs.Operations.{answer_of, code_of}
use Rattle.ledger.proofs.Asking.{lowest_on, search_finds}
use Rattle.ledger.proofs.lowest_unmarked.Goals as goal

ok_done : (r : Result ℕ Refusal) {a : Answer} → answer_of r ≡ a → is_err r ≡ false → code_of a ≡ 0
ok_done (Ok n) e h = rw (sym e)
ok_done (Err f) e h = absurd cc

pub loop-attempt-preserved : goal.loop-attempt-preserved
loop-attempt-preserved c =
    let found = search_finds c.requires.passes _ (ok_done _ c.search.ensures.answer (sym c.is_err.ensures.value ∙ c.if-is_err.false)) in
    let less : c.args.limit + 1 - c.loop-attempt.attempt - 1 ≡ c.args.limit + 1 - (c.loop-attempt.attempt + 1) = omega arith in
    (omega arith, c.loop-attempt.invariant.1 ∙ (lowest_on _ _ _ _ (omega (arith, c.loop-attempt.invariant.0)) found ∙ rw less))
