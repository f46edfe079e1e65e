-- Code 3, with its number, as the definition gives it. Assumes nothing.
use Rattle.std.proofs.Common.{sym}
use Rattle.tree.specs.declared.Refusal.TheVariants.{BadCommand}
use Rattle.batch.proofs.CallTests.{call_refuses, finds_bad}
use Rattle.batch.proofs.batch.Goals as goal

pub returns-in-Err : goal.returns-in-Err
returns-in-Err c =
    let bad = finds_bad _ _ c.scan.ensures c.args.pool.now c.args.answers.now (sym c.if-not-length_good.ensures) _ c.in-Err.is in
    let t = call_refuses (BadCommand _) c.args.pool.now c.args.answers.now in
    rw bad (record { code = sym t.0; number = sym t.1.0; pool = sym t.1.1.0; answers = sym t.1.1.1 })
