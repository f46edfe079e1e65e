-- Each public contract decides its result and every lent byte. Assumes nothing.
use Rattle.tree.proofs.Deciding.{DecidesResult, DecidesWords, equal, answered}
use Rattle.save.proofs.save.Kinds as save-kinds
use Rattle.save.proofs.save.Reads as save-reads

pub save_decides : DecidesResult 2 save-kinds.ps save-kinds.r save-reads.Post
save_decides κs a x y e f p q = answered p.0 q.0

pub save_decides_out : DecidesWords 2 save-kinds.ps save-kinds.r (λ κs e. e.1.0.now) save-reads.Post
save_decides_out κs a x y e f p q = equal p.1 q.1
