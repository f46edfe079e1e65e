-- Each public contract decides its result and every lent word. Assumes nothing.
use Rattle.tree.proofs.Deciding.{DecidesResult, DecidesWords, equal, answered}
use Rattle.ledger.proofs.may_send.Kinds as may-send-kinds
use Rattle.ledger.proofs.may_send.Reads as may-send-reads
use Rattle.ledger.proofs.clear_notice.Kinds as clear-notice-kinds
use Rattle.ledger.proofs.clear_notice.Reads as clear-notice-reads

pub may_send_decides_answer : DecidesResult 1 may-send-kinds.ps may-send-kinds.r may-send-reads.Post
may_send_decides_answer κs a x y e f p q = answered p.0 q.0

pub may_send_decides_pool : DecidesWords 1 may-send-kinds.ps may-send-kinds.r (λ κs e. e.0.now) may-send-reads.Post
may_send_decides_pool κs a x y e f p q = equal p.1 q.1

pub clear_notice_decides_answer : DecidesResult 1 clear-notice-kinds.ps clear-notice-kinds.r clear-notice-reads.Post
clear_notice_decides_answer κs a x y e f p q = answered p.0 q.0

pub clear_notice_decides_pool : DecidesWords 1 clear-notice-kinds.ps clear-notice-kinds.r (λ κs e. e.0.now) clear-notice-reads.Post
clear_notice_decides_pool κs a x y e f p q = equal p.1 q.1
