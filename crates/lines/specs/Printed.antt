-- Document 01 (RULES 11): what the program prints, as a function of the bytes that it reads. Bytes are ASCII.
use Rattle.std.specs.Prelude.{true, false, List, [], ◌∷◌, ◌++◌, eqb, ltb, length, get_or, replicate, ℕ, zero, suc, ◌+◌, ◌*◌, ◌/◌, ◌%◌}
use Rattle.tree.specs.State.{prepared}
use Rattle.format.specs.Words.{words_of}
use Rattle.encoding.specs.Batch.{Batch, commands, bad_at, read_batch, most_commands, Call, batch}

abbrev pub space : ℕ
space = 32

abbrev pub newline : ℕ
newline = 10

-- x in decimal digits, the highest first, with no 0 before them; at most n digits
unfoldable pub digits : ℕ → ℕ → List ℕ
digits zero x = []
digits (suc n) x = elim (ltb x 10) [ true ↦ (48 + x) ∷ [] | false ↦ digits n (x / 10) ++ ((48 + x % 10) ∷ []) ]

-- a word has at most ten
abbrev pub most_digits : ℕ
most_digits = 10

unfoldable pub decimal : ℕ → List ℕ
decimal x = digits most_digits x

-- RULES 11.3: "one line, code, space, number"
unfoldable pub line : ℕ → ℕ → List ℕ
line code number = decimal code ++ (space ∷ decimal number ++ (newline ∷ []))

-- a line of two words has at most
abbrev pub line_bytes : ℕ
line_bytes = 22

-- and a batch at most
abbrev pub most_printed : ℕ
most_printed = most_commands * line_bytes

-- RULES 11.3: "for a call refused whole, "refused", space, code, space, number"
abbrev pub refused_word : List ℕ
refused_word = 114 ∷ 101 ∷ 102 ∷ 117 ∷ 115 ∷ 101 ∷ 100 ∷ []

unfoldable pub refused_line : ℕ → ℕ → List ℕ
refused_line code number = refused_word ++ (space ∷ line code number)

-- RULES 11.3: "prints per command one line": of n commands, from their answer words, two for each
unfoldable pub lines : ℕ → List ℕ → List ℕ
lines zero words = []
lines (suc n) words = lines n words ++ line (get_or words (2 * n) 0) (get_or words (2 * n + 1) 0)

unfoldable pub how_many : Batch → ℕ
how_many (commands cs) = length cs
how_many (bad_at i) = 0

-- RULES 11.2: "The program prepares 127 slots"
abbrev pub program_slots : ℕ
program_slots = 127

-- RULES 11.2: the one call that it makes, with two answer words for each command of any batch
unfoldable pub program_call : List ℕ → Call
program_call bytes = batch (words_of (prepared program_slots)) bytes (replicate (2 * most_commands) 0)

unfoldable pub printed_of : Call → ℕ → List ℕ
printed_of k n = elim (eqb k.code 0) [ true ↦ lines n k.answers | false ↦ refused_line k.code k.number ]

-- RULES 11.3: "It prints no header": nothing but these.
unfoldable pub printed : List ℕ → List ℕ
printed bytes = printed_of (program_call bytes) (how_many (read_batch bytes))
