-- Each public contract decides its result and every lent word. Assumes nothing.
use Rattle.tree.proofs.Deciding.{DecidesResult, DecidesWords, equal}
use Rattle.settle.proofs.settle_under.Kinds as settle-under-kinds
use Rattle.settle.proofs.settle_under.Reads as settle-under-reads
use Rattle.settle.proofs.settle_after.Kinds as settle-after-kinds
use Rattle.settle.proofs.settle_after.Reads as settle-after-reads
use Rattle.settle.proofs.settle.Kinds as settle-kinds
use Rattle.settle.proofs.settle.Reads as settle-reads

pub settle_under_decides_result : DecidesResult 2 settle-under-kinds.ps settle-under-kinds.r settle-under-reads.Post
settle_under_decides_result κs a x y e f p q = equal p.0 q.0

pub settle_under_decides_header : DecidesWords 2 settle-under-kinds.ps settle-under-kinds.r (λ κs e. e.1.0.now) settle-under-reads.Post
settle_under_decides_header κs a x y e f p q = equal p.1.0 q.1.0

pub settle_under_decides_pool : DecidesWords 2 settle-under-kinds.ps settle-under-kinds.r (λ κs e. e.0.now) settle-under-reads.Post
settle_under_decides_pool κs a x y e f p q = equal p.1.1 q.1.1

pub settle_after_decides_result : DecidesResult 2 settle-after-kinds.ps settle-after-kinds.r settle-after-reads.Post
settle_after_decides_result κs a x y e f p q = equal p.0 q.0

pub settle_after_decides_header : DecidesWords 2 settle-after-kinds.ps settle-after-kinds.r (λ κs e. e.1.0.now) settle-after-reads.Post
settle_after_decides_header κs a x y e f p q = equal p.1.0 q.1.0

pub settle_after_decides_pool : DecidesWords 2 settle-after-kinds.ps settle-after-kinds.r (λ κs e. e.0.now) settle-after-reads.Post
settle_after_decides_pool κs a x y e f p q = equal p.1.1 q.1.1

pub settle_decides_answer : DecidesResult 1 settle-kinds.ps settle-kinds.r settle-reads.Post
settle_decides_answer κs a x y e f p q = equal p.0 q.0

pub settle_decides_pool : DecidesWords 1 settle-kinds.ps settle-kinds.r (λ κs e. e.0.now) settle-reads.Post
settle_decides_pool κs a x y e f p q = equal p.1 q.1
