-- Document 01, The batch: commands and their reading (RULES 7), a call's refusals in order, and what a call leaves in the pool and the
-- answers (RULES 8, 9); 02 (vii)'s commands among them (RULES 18).
use Rattle.std.specs.Prelude.{true, false, List, [], ◌∷◌, ◌++◌, eqb, leb, ltb, length, drop, ℕ, zero, suc, ◌*◌, Option, Some, None, Ok, Err}
use Rattle.encoding.specs.declared.Operation.{Operation}
use Rattle.encoding.specs.declared.Operation.TheVariants.{Search, Insert, Delete, Step, Settle, AtOrAbove, Count, DeleteSpan}
use Rattle.encoding.specs.declared.Command.{Command}
use Rattle.encoding.specs.Operations.{arguments, which}
use Rattle.format.specs.declared.Unsound.TheVariants.{Length, Broken}
use Rattle.format.specs.Words.{words_of}
use Rattle.format.specs.Audit.{state_of, audited}
use Rattle.encoding.specs.Numbers.{Reading, fault, number}
use Rattle.tree.specs.declared.Refusal.{Refusal}
use Rattle.tree.specs.declared.Refusal.TheVariants.{PoolLength, RulesBroken, BadCommand, FewAnswers}
use Rattle.tree.specs.declared.Answer.{Answer}
use Rattle.tree.specs.Codes.{code, number_beside, code_of, number_of}
use Rattle.tree.specs.State.{State, Outcome, search, insert, delete, step}
use Rattle.tree.specs.Settle.{settle}
use Rattle.tree.specs.Spans.{next_from, count_span, delete_span}

-- RULES 7.5: "At most 256 commands."
abbrev pub most_commands : ℕ
most_commands = 256

-- an operation and its arguments; one that it does not have is 0
abbrev pub command : Operation → ℕ → ℕ → Command
command op a b = record { operation = op; first = a; second = b }

-- the last argument of operation op, and the first of two
unfoldable pub last_argument : Operation → ℕ → Reading ℕ → Reading Command
last_argument op a (Ok (b, next)) = Ok (command op a b, next)
last_argument op a (Err f) = Err f

unfoldable pub only_argument : Operation → Reading ℕ → Reading Command
only_argument op (Ok (a, next)) = Ok (command op a 0, next)
only_argument op (Err f) = Err f

unfoldable pub two_arguments : List ℕ → Operation → Reading ℕ → Reading Command
two_arguments bytes op (Ok (a, next)) = last_argument op a (number bytes next)
two_arguments bytes op (Err f) = Err f

-- the arguments of operation op, one or two, from place `next` on
unfoldable pub arguments_at : List ℕ → Operation → ℕ → Reading Command
arguments_at bytes op next = elim (eqb (arguments op) 1) [ true ↦ only_argument op (number bytes next) | false ↦ two_arguments bytes op (number bytes next) ]

-- the operation whose number began at place i and ended before `next`, with its arguments
unfoldable pub meant_at : List ℕ → ℕ → ℕ → Option Operation → Reading Command
meant_at bytes i next None = Err (fault i)
meant_at bytes i next (Some op) = arguments_at bytes op next

unfoldable pub operation_at : List ℕ → ℕ → Reading ℕ → Reading Command
operation_at bytes i (Ok (n, next)) = meant_at bytes i next (which n)
operation_at bytes i (Err f) = Err f

-- RULES 7.4: "A command is an operation number and its arguments."
unfoldable pub command_at : List ℕ → ℕ → Reading Command
command_at bytes i = operation_at bytes i (number bytes i)

-- a batch read whole: its commands, or the byte at which it goes wrong
pub data Batch : Type 0 where
  commands : List Command → Batch
  bad_at : ℕ → Batch

unfoldable pub after : Command → Batch → Batch
after c (commands cs) = commands (c ∷ cs)
after c (bad_at i) = bad_at i

-- RULES 7.6: the commands from place i on, at most n. Code 3: "a command is unknown, cut short, not in shortest form, too large, or the
-- 257th", by 02 (ii) with "the byte at which a number goes wrong"; "an unknown operation number gives the byte where its number begins, as
-- does a 257th command, which counts before any fault inside it".
unfoldable pub read_from : ℕ → List ℕ → ℕ → Batch
read_from zero bytes i = elim (leb (length bytes) i) [ true ↦ commands [] | false ↦ bad_at i ]
read_from (suc n) bytes i = elim (leb (length bytes) i) [
  | true ↦ commands []
  | false ↦ elim (command_at bytes i) [ Ok (c, next) ↦ after c (read_from n bytes next) | Err f ↦ bad_at f.place ]
]

unfoldable pub read_batch : List ℕ → Batch
read_batch bytes = read_from most_commands bytes 0

-- What a command does (RULES 7.3, 18.1): the one table of what the operations mean.
unfoldable pub operation : Operation → ℕ → ℕ → State → Outcome
operation Search a b S = search a S
operation Insert a b S = insert a S
operation Delete a b S = delete a S
operation Step a b S = step a b S
operation Settle a b S = settle a S
operation AtOrAbove a b S = next_from a S
operation Count a b S = count_span a b S
operation DeleteSpan a b S = delete_span a b S

unfoldable pub perform : Command → State → Outcome
perform c S = operation c.operation c.first c.second S

-- RULES 8.2: "Commands run in order and a refused command does not stop the rest": the answers, and the State after the last.
unfoldable pub answers_of : List Command → State → List Answer
answers_of [] S = []
answers_of (c ∷ cs) S = (perform c S).answer ∷ answers_of cs (perform c S).after

unfoldable pub run_all : List Command → State → State
run_all [] S = S
run_all (c ∷ cs) S = run_all cs (perform c S).after

-- RULES 8.3: "Each command fills two answer words, code and number; later words stay."
unfoldable pub answer_words : List Answer → List ℕ
answer_words [] = []
answer_words (a ∷ rest) = code_of a ∷ number_of a ∷ answer_words rest

unfoldable pub filled : List Answer → List ℕ → List ℕ
filled ans words = answer_words ans ++ drop (2 * length ans) words

-- a call's code and number, the pool's words and the answer words after it
pub record Call : Type 0 where
  pub code : ℕ
  pub number : ℕ
  pub pool : List ℕ
  pub answers : List ℕ

-- RULES 8.2 and 9.0: "A call that is not refused gives 0 and number 0 itself."
unfoldable pub called : List Command → List ℕ → List ℕ → Call
called cs p out =
    let S = state_of p in
    record { code = 0; number = 0; pool = words_of (run_all cs S); answers = filled (answers_of cs S) out }

-- RULES 8.1: "Codes 1 to 4 refuse the call, in the order 1, 3, 4, 2, and change no word."
unfoldable pub refused : Refusal → List ℕ → List ℕ → Call
refused f p out = record { code = code f; number = number_beside f; pool = p; answers = out }

-- 3, then 4 (RULES 9.3 and 9.4); where neither is there, `rest` of the commands.
unfoldable pub batch_read : Batch → List ℕ → List ℕ → (List Command → Call) → Call
batch_read (bad_at i) p out rest = refused (BadCommand i) p out
batch_read (commands cs) p out rest = elim (ltb (length out) (2 * length cs)) [ true ↦ refused FewAnswers p out | false ↦ rest cs ]

-- The audit says 1 before them and 2 after them (RULES 9.1 and 9.2).
unfoldable pub batch : List ℕ → List ℕ → List ℕ → Call
batch p bytes out = elim (audited p) [
  | Err Length ↦ refused PoolLength p out
  | Err Broken ↦ batch_read (read_batch bytes) p out (λ cs. refused RulesBroken p out)
  | Ok h ↦ batch_read (read_batch bytes) p out (λ cs. called cs p out)
]
