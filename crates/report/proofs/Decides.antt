-- Each public contract decides its result. Assumes nothing.
use Rattle.tree.proofs.Deciding.{DecidesResult, equal}
use Rattle.report.proofs.Told.{told_once}
use Rattle.report.proofs.report.Kinds as report-kinds
use Rattle.report.proofs.report.Reads as report-reads
use Rattle.report.proofs.figure_at.Kinds as number-kinds
use Rattle.report.proofs.figure_at.Reads as number_reads

pub report_decides : DecidesResult 1 report-kinds.ps report-kinds.r report-reads.Post
report_decides κs a x y e f p q = told_once x y (equal p q)

pub number_decides : DecidesResult 0 number-kinds.ps number-kinds.r number_reads.Post
number_decides κs a x y e f p q = equal p q
