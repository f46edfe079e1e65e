-- What prepare answers and leaves in the pool, for any words (RULES 1, 10). (What the audit answers is format's `audited`.)
use Rattle.std.specs.Prelude.{true, false, List, ℕ}
use Rattle.tree.specs.declared.Refusal.TheVariants.{PoolLength}
use Rattle.tree.specs.Codes.{code}
use Rattle.tree.specs.State.{prepared}
use Rattle.format.specs.Words.{slots_in, length_good, words_of}

-- RULES 10.1: "Prepare gives 0 or 1": 1 when "pool length is not 4 + 4C".
unfoldable pub prepare_code : List ℕ → ℕ
prepare_code p = elim (length_good p) [ true ↦ 0 | false ↦ code PoolLength ]

-- RULES 1.7: "Prepare makes a pool empty"; refused, it changes no word.
unfoldable pub prepared_words : List ℕ → List ℕ
prepared_words p = elim (length_good p) [ true ↦ words_of (prepared (slots_in p)) | false ↦ p ]
