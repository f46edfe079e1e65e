-- The public contract decides its result. Assumes nothing.
use Rattle.tree.proofs.Deciding.{DecidesResult, answered}
use Rattle.set.proofs.audit_answer.Kinds as audit-answer-kinds
use Rattle.set.proofs.audit_answer.Reads as audit-answer-reads

pub audit_answer_decides : DecidesResult 1 audit-answer-kinds.ps audit-answer-kinds.r audit-answer-reads.Post
audit_answer_decides κs a x y e f p q = answered p q
