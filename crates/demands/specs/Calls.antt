-- Sequences of batch calls, restarts and calls of the send limit, and their log (RULES 13, RULES 17.6, RULES 18): each command that ran, with the two answer
-- words that it got, and each call of the send limit, with its code and number. All of it can be seen from outside: bytes, arguments, answer
-- words, codes. What the demands say of such sequences is proved in proofs/.
use Rattle.std.specs.Prelude.{◌≡◌, ◌≢◌, ◌↔◌, ◌⊎◌, Bool, true, false, not, ◌&&◌, ◌||◌, List, [], ◌∷◌, ◌++◌, eqb, leb, get_or, take, drop, ℕ, ◌+◌}
use Rattle.tree.specs.declared.Refusal.TheVariants.{KeyAbsent}
use Rattle.tree.specs.declared.Answer.TheVariants.{Done}
use Rattle.tree.specs.Codes.{code}
use Rattle.tree.specs.Spans.{within}
use Rattle.encoding.specs.declared.Operation.{Operation}
use Rattle.encoding.specs.declared.Operation.TheVariants.{Insert, Delete, Step, Settle, DeleteSpan}
use Rattle.encoding.specs.declared.Command.{Command}
use Rattle.encoding.specs.Numbers.{Bytes}
use Rattle.encoding.specs.Operations.{operation_number}
use Rattle.format.specs.Words.{words_of}
use Rattle.format.specs.Audit.{state_of}
use Rattle.saved.specs.Calls.{save_call, load_call}
use Rattle.encoding.specs.Batch.{Batch, commands, bad_at, read_batch, run_all, Call, batch}
use Rattle.ledger.specs.Ledger.{most_resident, most_attempts, mark_key, attempt_of, may_send, clear_notice}
use Rattle.ledger.specs.Sequences.{LedgerCall, send_call_case, clear_call_case, send_call, clear_call}

-- a command that ran, with its answer's code and number; or a call of the send limit, with its own
pub data Entry : Type 0 where
  of_command : (command : Command) (code number : ℕ) → Entry
  of_ledger : LedgerCall → Entry

-- "Each command fills two answer words, code and number": the commands with their words, in order
unfoldable pub entries : List Command → List ℕ → List Entry
entries [] words = []
entries (c ∷ cs) words = of_command c (get_or words 0 0) (get_or words 1 0) ∷ entries cs (drop 2 words)

-- The log of one call: of a call that is refused, nothing ran.
unfoldable pub log_read : Batch → Call → List Entry
log_read (bad_at i) r = []
log_read (commands cs) r = elim (eqb r.code 0) [ true ↦ entries cs r.answers | false ↦ [] ]

unfoldable pub log_of : (p bytes out : List ℕ) → List Entry
log_of p bytes out = log_read (read_batch bytes) (batch p bytes out)

-- 02 (i) (RULES 13.2, 13.3): a restart from the words q to the words r. The words q are saved into `out`, and its first bytes, as many as save
-- answers, are loaded into any words; both calls answer 0.
pub record Restart (q r : List ℕ) : Type 0 where
  pub out : List ℕ
  pub words : List ℕ
  pub count : ℕ
  pub nodes : ℕ
  pub is_saved : (save_call q out).answer ≡ Done count
  pub is_loaded : (load_call words (take count (save_call q out).left)).answer ≡ Done nodes
  pub leaves : r ≡ (load_call words (take count (save_call q out).left)).left

-- Calls one after the other, from the words p to the words q: batch calls with any bytes and any answer words and may send and clearing with
-- any arguments, refused ones among them; and restarts between them, which no log shows.
pub data Calls (p : List ℕ) : List Entry → List ℕ → Type 0 where
  no_call : Calls p [] p
  then_call : {log : List Entry} {q : List ℕ} → Calls p log q → (bytes out : List ℕ) → Bytes bytes → Calls p (log ++ log_of q bytes out) (batch q bytes out).pool
  then_restart : {log : List Entry} {q r : List ℕ} → Calls p log q → Restart q r → Calls p log r
  then_send : {log : List Entry} {q : List ℕ} → Calls p log q → (n r l : ℕ) → Calls p (log ++ (of_ledger (send_call q n r l) ∷ [])) (may_send q n r l).left
  then_clear : {log : List Entry} {q : List ℕ} → Calls p log q → (n : ℕ) → Calls p (log ++ (of_ledger (clear_call q n) ∷ [])) (clear_notice q n).left

-- a command that is this operation
unfoldable pub is_of : Operation → Command → Bool
is_of o c = eqb (operation_number c.operation) (operation_number o)

-- the key x is a mark of notice n: one of the notice's keys, and of an attempt from 1 on
unfoldable pub is_mark : (n x : ℕ) → Bool
is_mark n x = leb (mark_key n 0 0) x && leb x (mark_key n most_resident most_attempts) && not (eqb (attempt_of x) 0)

-- An entry with code 0 that puts the key x into the set: an insert of it, or a yes that marks it ..
unfoldable pub puts : ℕ → Entry → Bool
puts x (of_command c code number) = is_of Insert c && eqb c.first x && eqb code 0
puts x (of_ledger (send_call_case n r l code a)) = eqb (mark_key n r a) x && eqb code 0
puts x (of_ledger (clear_call_case n code count)) = false

-- .. and one that takes it out: a delete of it, by 02 (vii) (RULES 18.6) a delete of a span with it by which keys went, or a clearing of its notice.
unfoldable pub takes : ℕ → Entry → Bool
takes x (of_command c code number) = (is_of Delete c && eqb c.first x || is_of DeleteSpan c && within c.first c.second x && not (eqb number 0)) && eqb code 0
takes x (of_ledger (send_call_case n r l code a)) = false
takes x (of_ledger (clear_call_case n code count)) = is_mark n x && eqb code 0

-- Demand 2 (RULES 13.2), in the demand's own words: the keys "inserted with code 0 and not since deleted with code 0", by whichever
-- call. Whether x is one after an entry (1, or 0), if `before` says whether it was one before; and after a whole log.
unfoldable pub tells : ℕ → Entry → ℕ → ℕ
tells x e before = elim (puts x e) [ true ↦ 1 | false ↦ elim (takes x e) [ true ↦ 0 | false ↦ before ] ]

unfoldable pub told_from : ℕ → ℕ → List Entry → ℕ
told_from x before [] = before
told_from x before (e ∷ log) = told_from x (tells x e before) log

abbrev pub told : ℕ → List Entry → ℕ
told x log = told_from x 0 log

-- The same as a sentence: somewhere an entry that puts x, and since then none that takes it. (`told_exactly`: it is the same.)
unfoldable pub NoneTakes : ℕ → List Entry → Type 0
NoneTakes x [] = Unit {0}
NoneTakes x (e ∷ log) = (takes x e ≡ false) × NoneTakes x log

pub record InsertedSince (x : ℕ) (log : List Entry) : Type 0 where
  pub earlier : List Entry
  pub insertion : Entry
  pub later : List Entry
  pub log_is : log ≡ earlier ++ (insertion ∷ later)
  pub is_accepted : puts x insertion ≡ true
  pub none_since : NoneTakes x later

-- The same from a pool that may have keys, a pool that is taken up again: x was in it and since then nothing took it, or it was inserted
-- since. (`told_from_exactly`: it is the same.)
abbrev pub KeptOrInserted : ℕ → Type 0 → List Entry → Type 0
KeptOrInserted x was-in log = (was-in × NoneTakes x log) ⊎ InsertedSince x log

-- A search's code, by what is told of its key: 0 exactly when that is 1; 6, "key absent", exactly when it is 0.
pub record SearchTells (is-told given : ℕ) : Type 0 where
  pub done_when : (given ≡ 0) ↔ (is-told ≡ 1)
  pub absent_when : (given ≡ code KeyAbsent) ↔ (is-told ≡ 0)

-- Demand 3 (RULES 13.3): the accepted steps of an entry, a step with code 0 or the steps that a settle reports (the send limit takes none); and
-- of a whole log.
unfoldable pub steps_of : Entry → ℕ
steps_of (of_command c code number) = elim (is_of Step c && eqb code 0) [ true ↦ 1 | false ↦ elim (is_of Settle c) [ true ↦ number | false ↦ 0 ] ]
steps_of (of_ledger call) = 0

unfoldable pub steps_in : List Entry → ℕ
steps_in [] = 0
steps_in (e ∷ log) = steps_of e + steps_in log

-- none of the accepted ones that change the set: no insert and no delete, no delete of a span by which a key went, no yes, and no clearing by which
-- a mark went
unfoldable pub NoUpdate : Entry → Type 0
NoUpdate (of_command c code number) = code ≡ 0 → (c.operation ≢ Insert) × (c.operation ≢ Delete) × (c.operation ≡ DeleteSpan → number ≡ 0)
NoUpdate (of_ledger (send_call_case n r l code a)) = code ≢ 0
NoUpdate (of_ledger (clear_call_case n code count)) = code ≡ 0 → count ≡ 0

unfoldable pub NoUpdates : List Entry → Type 0
NoUpdates [] = Unit {0}
NoUpdates (e ∷ log) = NoUpdate e × NoUpdates log

-- Demand 1 (RULES 13.1) of a command: the pool's words after these commands, which run on words that pass the audit
unfoldable pub pool_after : List Command → List ℕ → List ℕ
pool_after cs p = words_of (run_all cs (state_of p))
