-- C, N and the nodes, one after the other, are the State's bytes. Assumes nothing.
use Rattle.std.proofs.Common.{arith}
use Rattle.format.proofs.AuditCases.{rules_are_kept}
use Rattle.save.proofs.Whole.{saved_wrote, saved_small}
use Rattle.save.proofs.Kept.put_saved.Goals as goal

pub returns : goal.returns
returns c =
    let kept = rules_are_kept _ c.args.self.words_small c.args.self.passed in
    let whole = saved_wrote kept c.last_slot-slots.ensures c.put_pair-at.ensures c.put_nodes.ensures in
    let few = saved_small kept in
    record { count = whole.0; few = omega (arith, few, whole.0); out = whole.1 }
