-- Each public contract decides its result. It is said of the contract as the check reads it from src/: two results that it allows
-- of the same arguments are equal. Every contract here gives its result by an equation, so one law serves: two things equal to a
-- third are equal. Assumes nothing.
use Rattle.tree.proofs.Deciding.{DecidesResult, DecidesWords, equal}
use Rattle.numbers.proofs.number.Kinds as number-kinds
use Rattle.numbers.proofs.number.Reads as number_reads
use Rattle.numbers.proofs.number_length.Kinds as number-length-kinds
use Rattle.numbers.proofs.number_length.Reads as number-length-reads
use Rattle.numbers.proofs.put_number.Kinds as put-number-kinds
use Rattle.numbers.proofs.put_number.Reads as put-number-reads

pub number_decides : DecidesResult 1 number-kinds.ps number-kinds.r number_reads.Post
number_decides κs a x y e f p q = equal p q

pub number_length_decides : DecidesResult 0 number-length-kinds.ps number-length-kinds.r number-length-reads.Post
number_length_decides κs a x y e f p q = equal p q

pub put_number_decides : DecidesResult 1 put-number-kinds.ps put-number-kinds.r put-number-reads.Post
put_number_decides κs a x y e f p q = equal p.0 q.0

pub put_number_decides_out : DecidesWords 1 put-number-kinds.ps put-number-kinds.r (λ κs e. e.0.now) put-number-reads.Post
put_number_decides_out κs a x y e f p q = equal p.1 q.1
