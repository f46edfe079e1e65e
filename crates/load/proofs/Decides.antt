-- Each public contract decides its result and every lent word. Assumes nothing.
use Rattle.tree.proofs.Deciding.{DecidesResult, DecidesWords, equal, answered}
use Rattle.load.proofs.load.Kinds as load-kinds
use Rattle.load.proofs.load.Reads as load-reads

pub load_decides : DecidesResult 2 load-kinds.ps load-kinds.r load-reads.Post
load_decides κs a x y e f p q = answered p.0 q.0

pub load_decides_pool : DecidesWords 2 load-kinds.ps load-kinds.r (λ κs e. e.0.now) load-reads.Post
load_decides_pool κs a x y e f p q = equal p.1 q.1
