-- Each export's contract decides its result and every lent word and byte. Assumes nothing.
use Rattle.tree.proofs.Deciding.{DecidesResult, DecidesWords, equal}
use Rattle.chromatic.proofs.chromatic_interface_8.Kinds as interface-kinds
use Rattle.chromatic.proofs.chromatic_interface_8.Reads as interface-reads
use Rattle.chromatic.proofs.chromatic_prepare.Kinds as prepare-kinds
use Rattle.chromatic.proofs.chromatic_prepare.Reads as prepare-reads
use Rattle.chromatic.proofs.chromatic_audit.Kinds as audit-kinds
use Rattle.chromatic.proofs.chromatic_audit.Reads as audit-reads
use Rattle.chromatic.proofs.chromatic_report.Kinds as report-kinds
use Rattle.chromatic.proofs.chromatic_report.Reads as report-reads
use Rattle.chromatic.proofs.chromatic_batch.Kinds as batch-kinds
use Rattle.chromatic.proofs.chromatic_batch.Reads as batch-reads
use Rattle.chromatic.proofs.chromatic_save.Kinds as save-kinds
use Rattle.chromatic.proofs.chromatic_save.Reads as save-reads
use Rattle.chromatic.proofs.chromatic_load.Kinds as load-kinds
use Rattle.chromatic.proofs.chromatic_load.Reads as load-reads
use Rattle.chromatic.proofs.chromatic_may_send.Kinds as may-send-kinds
use Rattle.chromatic.proofs.chromatic_may_send.Reads as may-send-reads
use Rattle.chromatic.proofs.chromatic_clear_notice.Kinds as clear-notice-kinds
use Rattle.chromatic.proofs.chromatic_clear_notice.Reads as clear-notice-reads

pub interface_decides : DecidesResult 0 interface-kinds.ps interface-kinds.r interface-reads.Post
interface_decides κs a x y e f p q = equal p q

pub prepare_decides : DecidesResult 1 prepare-kinds.ps prepare-kinds.r prepare-reads.Post
prepare_decides κs a x y e f p q = equal p.0 q.0

pub prepare_decides_pool : DecidesWords 1 prepare-kinds.ps prepare-kinds.r (λ κs e. e.0.now) prepare-reads.Post
prepare_decides_pool κs a x y e f p q = equal p.1 q.1

pub audit_decides : DecidesResult 1 audit-kinds.ps audit-kinds.r audit-reads.Post
audit_decides κs a x y e f p q = equal p q

pub report_decides : DecidesResult 1 report-kinds.ps report-kinds.r report-reads.Post
report_decides κs a x y e f p q = equal p q

pub batch_decides : DecidesResult 3 batch-kinds.ps batch-kinds.r batch-reads.Post
batch_decides κs a x y e f p q = equal p.0 q.0

pub batch_decides_pool : DecidesWords 3 batch-kinds.ps batch-kinds.r (λ κs e. e.0.now) batch-reads.Post
batch_decides_pool κs a x y e f p q = equal p.1.0 q.1.0

pub batch_decides_answers : DecidesWords 3 batch-kinds.ps batch-kinds.r (λ κs e. e.1.1.0.now) batch-reads.Post
batch_decides_answers κs a x y e f p q = equal p.1.1 q.1.1

pub save_decides : DecidesResult 2 save-kinds.ps save-kinds.r save-reads.Post
save_decides κs a x y e f p q = equal p.0 q.0

pub save_decides_out : DecidesWords 2 save-kinds.ps save-kinds.r (λ κs e. e.1.0.now) save-reads.Post
save_decides_out κs a x y e f p q = equal p.1 q.1

pub load_decides : DecidesResult 2 load-kinds.ps load-kinds.r load-reads.Post
load_decides κs a x y e f p q = equal p.0 q.0

pub load_decides_pool : DecidesWords 2 load-kinds.ps load-kinds.r (λ κs e. e.0.now) load-reads.Post
load_decides_pool κs a x y e f p q = equal p.1 q.1

pub may_send_decides : DecidesResult 1 may-send-kinds.ps may-send-kinds.r may-send-reads.Post
may_send_decides κs a x y e f p q = equal p.0 q.0

pub may_send_decides_pool : DecidesWords 1 may-send-kinds.ps may-send-kinds.r (λ κs e. e.0.now) may-send-reads.Post
may_send_decides_pool κs a x y e f p q = equal p.1 q.1

pub clear_notice_decides : DecidesResult 1 clear-notice-kinds.ps clear-notice-kinds.r clear-notice-reads.Post
clear_notice_decides κs a x y e f p q = equal p.0 q.0

pub clear_notice_decides_pool : DecidesWords 1 clear-notice-kinds.ps clear-notice-kinds.r (λ κs e. e.0.now) clear-notice-reads.Post
clear_notice_decides_pool κs a x y e f p q = equal p.1 q.1
