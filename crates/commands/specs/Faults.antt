-- Document 01, code 3, and 02 (ii): in which ways a command is bad, and at which byte a batch goes wrong (RULES 7). (That the reader refuses
-- exactly these, and gives that byte, is `bad_exactly`.)
use Rattle.std.specs.Prelude.{◌≡◌, ◌≢◌, List, [], ◌∷◌, length, ℕ, ◌<◌, Ok}
use Rattle.encoding.specs.declared.Operation.{Operation}
use Rattle.encoding.specs.declared.Command.{Command}
use Rattle.encoding.specs.Numbers.{number}
use Rattle.encoding.specs.Operations.{operation_number, arguments}
use Rattle.encoding.specs.Batch.{most_commands, command_at}
use Rattle.numbers.specs.Faults.{BadNumber}

-- RULES 7.6: "a command is unknown, cut short, not in shortest form, too large": the command that begins at place i goes wrong at byte j, in its
-- first bad number. 02 (ii): "An unknown operation number gives the byte where its number begins".
pub data BadCommand (bytes : List ℕ) (i : ℕ) : ℕ → Type 0 where
  bad_operation : {j : ℕ} → BadNumber bytes i j → BadCommand bytes i j
  unknown : {n next : ℕ} → number bytes i ≡ Ok (n, next) → ((o : Operation) → n ≢ operation_number o) → BadCommand bytes i i
  bad_first : (o : Operation) {next j : ℕ} → number bytes i ≡ Ok (operation_number o, next) → BadNumber bytes next j → BadCommand bytes i j
  bad_second : (o : Operation) {next a mid j : ℕ} → arguments o ≢ 1 → number bytes i ≡ Ok (operation_number o, next) → number bytes next ≡ Ok (a, mid)
      → BadNumber bytes mid j → BadCommand bytes i j

-- the commands cs stand one after the other in the bytes, from place i up to place j
pub data StandTo (bytes : List ℕ) : ℕ → List Command → ℕ → Type 0 where
  none_stand : {i : ℕ} → StandTo bytes i [] i
  one_stands : {i next j : ℕ} {c : Command} {cs : List Command} → command_at bytes i ≡ Ok (c, next) → StandTo bytes next cs j → StandTo bytes i (c ∷ cs) j

-- From place i on, where at most n commands may stand: good ones up to a place where a bad one begins, which goes wrong at byte j; or n good
-- ones up to place j, where one more begins, whatever stands in it.
pub data BadFrom (bytes : List ℕ) (n i j : ℕ) : Type 0 where
  bad_one : {k : ℕ} {cs : List Command} → StandTo bytes i cs k → length cs < n → k < length bytes → BadCommand bytes k j → BadFrom bytes n i j
  too_many : {cs : List Command} → StandTo bytes i cs j → length cs ≡ n → j < length bytes → BadFrom bytes n i j

-- RULES 7.6: ".. or the 257th", by 02 (ii) with "the byte where its number begins [..], which counts before any fault inside it"
abbrev pub FirstBad : List ℕ → ℕ → Type 0
FirstBad bytes j = BadFrom bytes most_commands 0 j
