-- 02 (i), the two calls (RULES 16) and their codes (RULES 9.13 and 9.14): what each answers and leaves, for any words and bytes, with the
-- refusals in their order.
use Rattle.std.specs.Prelude.{true, false, List, ◌++◌, eqb, leb, length, drop, ℕ, min}
use Rattle.std.proofs.Math.Option.{Option, none, some}
use Rattle.tree.specs.declared.Refusal.TheVariants.{PoolLength, RulesBroken, BadSaved, NoFit}
use Rattle.tree.specs.declared.Answer.TheVariants.{Done}
use Rattle.tree.specs.State.{State, nodes}
use Rattle.format.specs.Words.{length_good, slots_in, words_of}
use Rattle.format.specs.Audit.{rules_hold, state_of}
use Rattle.saved.specs.Saved.{saved_bytes}
use Rattle.saved.specs.Loaded.{loaded, bad_place}
-- RULES 16.4 and 16.5: "nothing is written on any of them": `refuses` leaves what was lent as it was.
pub use Rattle.format.specs.Performing.{Call, gives, refuses}

-- RULES 16.4: "The writer answers 0 and the byte count [..]; output bytes past the count stay." 14 is "for too little output room".
unfoldable pub save_into : List ℕ → List ℕ → Call
save_into bytes out = elim (leb (length bytes) (length out)) [ true ↦ gives (Done (length bytes)) (bytes ++ drop (length bytes) out) | false ↦ refuses NoFit out ]

-- "the writer's order is 1, 2, 14"; "The writer takes any pool that passes the audit."
unfoldable pub save_call : List ℕ → List ℕ → Call
save_call p out = elim (length_good p) [
  | false ↦ refuses PoolLength out
  | true ↦ elim (rules_hold p) [ false ↦ refuses RulesBroken out | true ↦ save_into (saved_bytes (state_of p)) out ]
]

-- RULES 16.8: a place as the number beside 13, a 32-bit word: a place past 32 bits gives 4,294,967,295 (ours: 02 has no place there)
abbrev pub last_word : ℕ
last_word = 4294967295

unfoldable pub place_word : ℕ → ℕ
place_word j = min j last_word

-- RULES 16.5: "the reader [answers] 0 and N"; its order is "1, 13, 14", and 14 is for "a pool whose C differs from the saved one". "The
-- reader's pool may hold any words": of p only its length counts.
unfoldable pub load_state : Option State → ℕ → List ℕ → Call
load_state none place p = refuses (BadSaved (place_word place)) p
load_state (some S) place p = elim (eqb S.slots (slots_in p)) [ true ↦ gives (Done (nodes S.top)) (words_of S) | false ↦ refuses NoFit p ]

unfoldable pub load_call : List ℕ → List ℕ → Call
load_call p bytes = elim (length_good p) [ false ↦ refuses PoolLength p | true ↦ load_state (loaded bytes) (bad_place bytes) p ]
