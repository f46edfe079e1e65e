-- The contract of the function that makes the code of prepare and of the audit, 0, 1 or 2, decides its result. It is not public, so this stands
-- beside Decides. Assumes nothing.
use Rattle.tree.proofs.Deciding.{DecidesResult, equal}
use Rattle.chromatic.proofs.code.Kinds as audited-code-kinds
use Rattle.chromatic.proofs.code.Reads as audited-code-reads

pub audited_code_decides : DecidesResult 0 audited-code-kinds.ps audited-code-kinds.r audited-code-reads.Post
audited_code_decides κs a x y e f p q = equal p q
