-- 02 (ii) as a host sees it, from the word that an export returns: batch returns 3 and j exactly when the batch goes wrong at byte j
-- (`batch_returns_place`, `batch_place_near`, `batch_place_first`), load 13 and n exactly when the saved bytes go wrong at the byte that n
-- stands for (`load_returns_place`), which is n itself up to 4,294,967,295 bytes (`load_place_is`). Assumes nothing.
use mathlib.Core.Path.{◌≡◌, refl, sym, ◌∙◌}
use mathlib.Core.Logic.{◌↔◌, ◌⊎◌}
use mathlib.Core.Bool.{true}
use mathlib.Core.List.{List}
use lib.ListN.{length}
use Prim.Native.Nat.{ℕ, ◌/◌, ◌%◌, ◌≤◌}
use native.Mathlib.Omega.{arith}
use Rattle.format.specs.Words.{length_good}
use Rattle.encoding.specs.Numbers.{Bytes}
use Rattle.encoding.specs.Batch.{batch}
use Rattle.commands.specs.Faults.{FirstBad}
use Rattle.commands.proofs.Faults.{bad_exactly, bad_call}
use Rattle.commands.proofs.Running.{batch_bad}
use Rattle.commands.proofs.Prefix.{Stops, LongOperation, place_exact}
use Rattle.saved.specs.Misread.{MisreadAt}
use Rattle.saved.specs.Calls.{last_word, place_word, load_call}
use Rattle.saved.proofs.Places.{place_inside, word_same}
use Rattle.saved.proofs.Restarts.{load_place}
use Rattle.chromatic.specs.Exports.{code_unit, returned, returned_answer}
use Rattle.chromatic.proofs.Exports.{number_small, returned_parts}
use Rattle.chromatic.proofs.Restart.{answer_parts, load_small}

pub batch_returns_place : (p bytes out : List ℕ) (j : ℕ)
    → ((returned (batch p bytes out) / code_unit ≡ 3) × (returned (batch p bytes out) % code_unit ≡ j)) ↔ ((length_good p ≡ true) × FirstBad bytes j)
batch_returns_place p bytes out j =
    let parts = returned_parts (batch p bytes out) (omega (arith, number_small p bytes out)) in
    rw (parts.0, parts.1) (bad_call p bytes out j)

-- .. which is at most 2,816, whatever the length of the batch, and at most its end
pub batch_place_near : (p bytes out : List ℕ) → returned (batch p bytes out) / code_unit ≡ 3
    → (returned (batch p bytes out) % code_unit ≤ 2816) × (returned (batch p bytes out) % code_unit ≤ length bytes)
batch_place_near p bytes out e =
    let j = returned (batch p bytes out) % code_unit in
    let near = batch_bad bytes ((bad_exactly bytes j).1 ((batch_returns_place p bytes out j).0 (e, refl)).1) in
    (near.1, near.0)

-- .. and then j is the first byte at which no good batch can go on; but an operation's number of several bytes gives the one at which it goes wrong.
pub batch_place_first : (p bytes out : List ℕ) → returned (batch p bytes out) / code_unit ≡ 3
    → Stops bytes (returned (batch p bytes out) % code_unit) ⊎ LongOperation bytes (returned (batch p bytes out) % code_unit)
batch_place_first p bytes out e =
    let j = returned (batch p bytes out) % code_unit in
    place_exact bytes ((bad_exactly bytes j).1 ((batch_returns_place p bytes out j).0 (e, refl)).1)

pub load_returns_place : (p bytes : List ℕ) → Bytes bytes → (n : ℕ)
    → ((returned_answer (load_call p bytes).answer / code_unit ≡ 13) × (returned_answer (load_call p bytes).answer % code_unit ≡ n))
    ↔ ((length_good p ≡ true) × ((j : ℕ) × MisreadAt bytes j × (place_word j ≡ n)))
load_returns_place p bytes b n =
    let parts = answer_parts (load_call p bytes).answer (load_small p bytes b) in
    rw (parts.0, parts.1) (load_place p bytes b n)

pub load_place_is : (p bytes : List ℕ) → Bytes bytes → length bytes ≤ last_word → (n : ℕ)
    → ((returned_answer (load_call p bytes).answer / code_unit ≡ 13) × (returned_answer (load_call p bytes).answer % code_unit ≡ n))
    ↔ ((length_good p ≡ true) × MisreadAt bytes n)
load_place_is p bytes b few n =
    let both = load_returns_place p bytes b n in (
      λ h. let x = both.0 h in let m = x.1.1 in (x.0, rw (sym (same m) ∙ x.1.2) at m),
      λ h. both.1 (h.0, (n, h.1, same h.1)),
    )
  where
    same : {j : ℕ} → MisreadAt bytes j → place_word j ≡ j
    same {j} m = word_same j (omega (arith, place_inside bytes m))
