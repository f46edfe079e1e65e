-- Each public contract decides its result and every lent byte. Assumes nothing.
use Rattle.tree.proofs.Deciding.{DecidesResult, DecidesWords, equal}
use Rattle.lines.proofs.render.Kinds as render-kinds
use Rattle.lines.proofs.render.Reads as render-reads

pub render_decides : DecidesResult 2 render-kinds.ps render-kinds.r render-reads.Post
render_decides κs a x y e f p q = equal p.0 q.0

pub render_decides_out : DecidesWords 2 render-kinds.ps render-kinds.r (λ κs e. e.1.0.now) render-reads.Post
render_decides_out κs a x y e f p q = equal p.1.0 q.1.0
