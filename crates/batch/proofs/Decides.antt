-- The public contract decides the result, every pool word and every answer word. Assumes nothing.
use Rattle.tree.proofs.Deciding.{DecidesResult, DecidesWords, equal}
use Rattle.batch.proofs.Answers.{told}
use Rattle.batch.proofs.batch.Kinds as batch-kinds
use Rattle.batch.proofs.batch.Reads as batch-reads

pub batch_decides : DecidesResult 3 batch-kinds.ps batch-kinds.r batch-reads.Post
batch_decides κs a x y e f p q = told x y (equal p.0 q.0) (equal p.1.0 q.1.0)

pub batch_decides_pool : DecidesWords 3 batch-kinds.ps batch-kinds.r (λ κs e. e.0.now) batch-reads.Post
batch_decides_pool κs a x y e f p q = equal p.1.1.0 q.1.1.0

pub batch_decides_answers : DecidesWords 3 batch-kinds.ps batch-kinds.r (λ κs e. e.1.1.0.now) batch-reads.Post
batch_decides_answers κs a x y e f p q = equal p.1.1.1 q.1.1.1
