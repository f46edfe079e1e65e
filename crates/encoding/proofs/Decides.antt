-- Each public contract of this crate decides its result. Assumes nothing.
use Rattle.tree.proofs.Deciding.{DecidesResult, equal}
use Rattle.encoding.proofs.Operation.number.Kinds as operation-number-kinds
use Rattle.encoding.proofs.Operation.number.Reads as operation-number-reads
use Rattle.encoding.proofs.Operation.arguments.Kinds as operation-arguments-kinds
use Rattle.encoding.proofs.Operation.arguments.Reads as operation-arguments-reads
use Rattle.encoding.proofs.Operation.named.Kinds as operation-named-kinds
use Rattle.encoding.proofs.Operation.named.Reads as operation-named-reads

pub operation_number_decides : DecidesResult 0 operation-number-kinds.ps operation-number-kinds.r operation-number-reads.Post
operation_number_decides κs a x y e f p q = equal p q

pub operation_arguments_decides : DecidesResult 0 operation-arguments-kinds.ps operation-arguments-kinds.r operation-arguments-reads.Post
operation_arguments_decides κs a x y e f p q = equal p q

pub operation_named_decides : DecidesResult 0 operation-named-kinds.ps operation-named-kinds.r operation-named-reads.Post
operation_named_decides κs a x y e f p q = equal p q
