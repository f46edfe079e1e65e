-- No root, nothing to write; else the tree at the root. Assumes nothing.
use Rattle.format.proofs.AuditCases.{rules_are_kept}
use Rattle.save.proofs.Whole.{put_none, nodes_put, root_placed}
use Rattle.save.proofs.Kept.put_nodes.Goals as goal

pub returns-then-h-eq0 : goal.returns-then-h-eq0
returns-then-h-eq0 c = put_none (rules_are_kept _ c.args.self.words_small c.args.self.passed) c.if-h-eq0.true _ _

pub returns : goal.returns
returns c = nodes_put (rules_are_kept _ c.args.self.words_small c.args.self.passed) c.if-h-eq0.false c.allowance.ensures c.put_tree.ensures

pub put_tree-requires : goal.put_tree-requires
put_tree-requires c =
    root_placed (rules_are_kept _ c.args.self.words_small c.args.self.passed) c.if-h-eq0.false c.allowance.ensures c.requires
