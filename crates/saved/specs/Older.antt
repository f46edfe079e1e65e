-- 02 (viii), the saved form between two installations (RULES 16.9): load as it was before C was raised to 16,383. It is ours with the limit of then.
use Rattle.std.specs.Prelude.{true, false, ◌&&◌, List, leb, ℕ}
use Rattle.tree.specs.declared.Refusal.TheVariants.{PoolLength}
use Rattle.format.specs.Words.{length_good, slots_in}
use Rattle.saved.specs.Loaded.{loaded_up_to, bad_place}
use Rattle.saved.specs.Calls.{Call, refuses, load_state}

-- RULES 16.9: "An installation not yet updated refuses a saved C above 1,023"
abbrev pub most_before : ℕ
most_before = 1023

-- ".. with 13 and writes nothing"; "A saved form written before reads as it did."
unfoldable pub load_before : List ℕ → List ℕ → Call
load_before p bytes = elim (length_good p && leb (slots_in p) most_before) [
  | false ↦ refuses PoolLength p
  | true ↦ load_state (loaded_up_to most_before bytes) (bad_place bytes) p
]
