-- Each public contract decides its result: two results that it allows of the same arguments are equal. Assumes nothing.
use Rattle.tree.proofs.Deciding.{DecidesResult, equal}
use Rattle.commands.proofs.command_at.Kinds as command-at-kinds
use Rattle.commands.proofs.command_at.Reads as command-at-reads
use Rattle.commands.proofs.scan.Kinds as scan-kinds
use Rattle.commands.proofs.scan.Reads as scan-reads

pub command_at_decides : DecidesResult 1 command-at-kinds.ps command-at-kinds.r command-at-reads.Post
command_at_decides κs a x y e f p q = equal p q

pub scan_decides : DecidesResult 1 scan-kinds.ps scan-kinds.r scan-reads.Post
scan_decides κs a x y e f p q = equal p q
