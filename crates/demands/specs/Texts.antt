-- The send limit over sequences of all calls (RULES 17.6): what of a log it goes by, and 02's "one limit and no clearing". That no more than the
-- allowed number of texts go is proved in proofs/.
use Rattle.std.specs.Prelude.{◌≡◌, ◌≢◌, false, List, [], ◌∷◌, ℕ, ◌+◌, ◌≤◌}
use Rattle.tree.specs.Tree.{one}
use Rattle.ledger.specs.Ledger.{most_attempts, mark_key}
use Rattle.ledger.specs.Sequences.{LedgerCall, send_call_case, clear_call_case, is_yes}
use Rattle.demands.specs.Calls.{Entry, of_command, of_ledger, takes}

-- the calls of the send limit, in their order
unfoldable pub ledger_calls : List Entry → List LedgerCall
ledger_calls [] = []
ledger_calls (of_command c code number ∷ log) = ledger_calls log
ledger_calls (of_ledger call ∷ log) = call ∷ ledger_calls log

-- No command takes a mark of notice n and resident r: no delete of one, and no delete of a span by which keys went and in which one lies. (A clearing
-- may: it starts the count afresh.)
unfoldable pub NoMarkDeleted : (n r : ℕ) → List Entry → Type 0
NoMarkDeleted n r [] = Unit {0}
NoMarkDeleted n r (of_command c code number ∷ log) =
    ((a : ℕ) → 1 ≤ a → a ≤ most_attempts → takes (mark_key n r a) (of_command c code number) ≡ false) × NoMarkDeleted n r log
NoMarkDeleted n r (of_ledger call ∷ log) = NoMarkDeleted n r log

-- "any sequence of such calls with one limit and no clearing": may send with the limit l alone, and no clearing of notice n with code 0
unfoldable pub OneLimit : (n l : ℕ) → List LedgerCall → Type 0
OneLimit n l [] = Unit {0}
OneLimit n l (send_call_case m s k code a ∷ calls) = (k ≡ l) × OneLimit n l calls
OneLimit n l (clear_call_case m code count ∷ calls) = (m ≡ n → code ≢ 0) × OneLimit n l calls

-- all the "yes answers" that notice n and resident r got
unfoldable pub yes_answers : (n r : ℕ) → List LedgerCall → ℕ
yes_answers n r [] = 0
yes_answers n r (c ∷ calls) = one (is_yes n r c) + yes_answers n r calls
