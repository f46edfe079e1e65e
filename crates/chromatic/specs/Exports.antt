-- Documents 01 and 02 (RULES 10): what the exported report, batch, save, load, may send and clear notice return. And the number of the interface, which is ours.
use Rattle.std.specs.Prelude.{List, ℕ, ◌+◌, ◌*◌}
use Rattle.tree.specs.declared.Answer.{Answer}
use Rattle.tree.specs.Codes.{code_of, number_of}
use Rattle.encoding.specs.Batch.{Call}
use Rattle.report.specs.Report.{report_of, figure_at}

-- 01 (RULES 10.2): "The exported report takes an index, 1 first, and returns that number, 0 for a refused pool or any other index."
unfoldable pub number_at : List ℕ → ℕ → ℕ
number_at p index = figure_at index (report_of p).figures

-- 01 (RULES 10.3): "The exported batch returns its code times 4,294,967,296 plus its number."
abbrev pub code_unit : ℕ
code_unit = 4294967296

unfoldable pub in_one_word : ℕ → ℕ → ℕ
in_one_word code number = code * code_unit + number

unfoldable pub returned : Call → ℕ
returned k = in_one_word k.code k.number

-- Save, load and the send limit's two calls return theirs in the same way.
unfoldable pub returned_answer : Answer → ℕ
returned_answer a = in_one_word (code_of a) (number_of a)

-- RULES 10.4: the number that the name of `chromatic_interface_8` carries (docs/INTERFACE.md).
abbrev pub interface_number : ℕ
interface_number = 8
