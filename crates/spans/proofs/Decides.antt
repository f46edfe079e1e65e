-- Each public contract decides its result and every lent word. Assumes nothing.
use Rattle.tree.proofs.Deciding.{DecidesResult, DecidesWords, equal, answered, counted}
use Rattle.spans.proofs.at_or_above.Kinds as at-or-above-kinds
use Rattle.spans.proofs.at_or_above.Reads as at-or-above-reads
use Rattle.spans.proofs.next_key.Kinds as next-key-kinds
use Rattle.spans.proofs.next_key.Reads as next-key-reads
use Rattle.spans.proofs.count_under.Kinds as count-under-kinds
use Rattle.spans.proofs.count_under.Reads as count-under-reads
use Rattle.spans.proofs.count.Kinds as count-kinds
use Rattle.spans.proofs.count.Reads as count-reads
use Rattle.spans.proofs.delete_span_under.Kinds as delete-span-under-kinds
use Rattle.spans.proofs.delete_span_under.Reads as delete-span-under-reads
use Rattle.spans.proofs.delete_span.Kinds as delete-span-kinds
use Rattle.spans.proofs.delete_span.Reads as delete-span-reads

pub at_or_above_decides : DecidesResult 1 at-or-above-kinds.ps at-or-above-kinds.r at-or-above-reads.Post
at_or_above_decides κs a x y e f p q = answered p q

pub next_key_decides : DecidesResult 1 next-key-kinds.ps next-key-kinds.r next-key-reads.Post
next_key_decides κs a x y e f p q = answered p q

pub count_under_decides : DecidesResult 1 count-under-kinds.ps count-under-kinds.r count-under-reads.Post
count_under_decides κs a x y e f p q = counted p q

pub count_decides : DecidesResult 1 count-kinds.ps count-kinds.r count-reads.Post
count_decides κs a x y e f p q = counted p q

pub delete_span_under_decides_result : DecidesResult 2 delete-span-under-kinds.ps delete-span-under-kinds.r delete-span-under-reads.Post
delete_span_under_decides_result κs a x y e f p q = counted p.0 q.0

pub delete_span_under_decides_header : DecidesWords 2 delete-span-under-kinds.ps delete-span-under-kinds.r (λ κs e. e.1.0.now) delete-span-under-reads.Post
delete_span_under_decides_header κs a x y e f p q = equal p.1.0 q.1.0

pub delete_span_under_decides_pool : DecidesWords 2 delete-span-under-kinds.ps delete-span-under-kinds.r (λ κs e. e.0.now) delete-span-under-reads.Post
delete_span_under_decides_pool κs a x y e f p q = equal p.1.1 q.1.1

pub delete_span_decides_answer : DecidesResult 1 delete-span-kinds.ps delete-span-kinds.r delete-span-reads.Post
delete_span_decides_answer κs a x y e f p q = counted p.0 q.0

pub delete_span_decides_pool : DecidesWords 1 delete-span-kinds.ps delete-span-kinds.r (λ κs e. e.0.now) delete-span-reads.Post
delete_span_decides_pool κs a x y e f p q = equal p.1 q.1
