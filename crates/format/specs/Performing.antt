-- Commands on words, the header given by value: what one leaves before its header is written, and what an entry of a pool leaves, which
-- reads the header at the beginning and writes it at the end; and what a whole call answers and leaves. This page serves RULES 8, 16 and 17.
use Rattle.std.specs.Prelude.{List, ℕ}
use Rattle.tree.specs.declared.Answer.{Answer}
use Rattle.tree.specs.declared.Answer.TheVariants.{Refused}
use Rattle.tree.specs.declared.Refusal.{Refusal}
use Rattle.format.specs.declared.Header.{Header}
use Rattle.format.specs.Words.{put_header}

-- What a command answers, and the header that it leaves: who calls it has read the header and will write it.
pub record Performed : Type 0 where
  pub answer : Answer
  pub header : Header

-- the words, and the answer with the header
pub record Written : Type 0 where
  pub words : List ℕ
  pub result : Performed

abbrev pub performed : Answer → Header → Performed
performed a h = record { answer = a; header = h }

abbrev pub written : List ℕ → Answer → Header → Written
written p a h = record { words = p; result = performed a h }

-- the pool once the header is written
abbrev pub words_after : Written → List ℕ
words_after w = put_header w.words w.result.header

-- A whole call: its answer, and what it leaves of the words or bytes that it may write.
pub record Call : Type 0 where
  pub answer : Answer
  pub left : List ℕ

abbrev pub gives : Answer → List ℕ → Call
gives a lent = record { answer = a; left = lent }

-- a refusal leaves all as it was (the number beside it is tree's `number_of`)
abbrev pub refuses : Refusal → List ℕ → Call
refuses f lent = gives (Refused f) lent
