-- No more than the allowed number of texts, over the sequences of all calls. Between the calls of the send limit, of any notices, residents and
-- limits, there may stand batch calls with searches, steps, settles, inserts, next keys, counts, and deletes of other keys and of spans without a mark
-- of theirs, refused calls, and restarts. From any pool that passes the audit the yes answers to a notice and resident since that notice was last
-- cleared are at most m, if each of those was given under a limit of at most m (`texts_in_calls`); with one limit and no clearing all of them are at
-- most that limit (`yes_at_most`), and so from an empty set (`texts_from_empty`).
-- Why: such calls are a sequence as crate ledger has them (`calls_sending`): what stands between leaves a pool that passes, and takes none of the
-- marks, since what the log tells of a key stays as long as nothing takes it. Assumes nothing.
use mathlib.Core.Path.{◌≡◌, refl, ap, ◌∙◌}
use mathlib.Core.Bool.{Bool, true, false, ◌&&◌, and-false}
use mathlib.Core.List.{List, [], ◌∷◌, ◌++◌}
use lib.Dec.{eqb}
use borrow.Author.Tests.{ne_eqb}
use native.Mathlib.Omega.{arith}
use Prim.Native.Nat.{ℕ, suc, ◌+◌, ◌≤◌}
use Rattle.tree.specs.State.{State}
use Rattle.tree.specs.Tree.{one}
use Rattle.tree.proofs.Tests.{same_or_not}
use Rattle.encoding.specs.declared.Command.{Command}
use Rattle.encoding.specs.Numbers.{Bytes}
use Rattle.encoding.specs.Batch.{perform, batch}
use Rattle.format.specs.Audit.{state_of}
use Rattle.pool.specs.Results.{prepare_code, prepared_words}
use Rattle.set.specs.Set.{Passing, member}
use Rattle.set.proofs.Promises.{member_once}
use Rattle.ledger.specs.Ledger.{most_attempts, mark_key}
use Rattle.ledger.specs.Sequences.{LedgerCall, send_call_case, clear_call_case, send_call, clear_call, clears, is_yes, texts_after, texts_from, texts, Within, AllWithin}
use Rattle.ledger.specs.Sequences.{KeepsMarks, Sending, no_send, then_send as ledger-send, then_clear as ledger-clear, then_other}
use Rattle.ledger.proofs.Limit.{texts_at_most}
use Rattle.demands.specs.Calls.{Entry, of_command, of_ledger, log_of, Calls, no_call, then_call, then_restart, then_send, then_clear, NoneTakes}
use Rattle.demands.specs.Texts.{ledger_calls, NoMarkDeleted, OneLimit, yes_answers}
use Rattle.demands.proofs.Runs.{entries_of}
use Rattle.demands.proofs.Restarting.{restart_passing, restart_keys}
use Rattle.demands.proofs.Called.{Result, call_kept, call_did, call_result, call_passing, calls_passing}
use Rattle.demands.proofs.Told.{none_stays}
use Rattle.demands.proofs.History.{history_from, prepared_empty}

-- The calls of the send limit in a log that goes on: by commands alone, or by one of them.
ledger_none : (l m : List Entry) → ledger_calls m ≡ [] → ledger_calls (l ++ m) ≡ ledger_calls l
unfolding ledger_calls
ledger_none [] m e = e
ledger_none (of_command c code number ∷ l) m e = ledger_none l m e
ledger_none (of_ledger call ∷ l) m e = ap (λ (cs : List LedgerCall). call ∷ cs) (ledger_none l m e)

ledger_one : (l : List Entry) (c : LedgerCall) → ledger_calls (l ++ (of_ledger c ∷ [])) ≡ ledger_calls l ++ (c ∷ [])
unfolding ledger_calls
ledger_one [] c = refl
ledger_one (of_command d code number ∷ l) c = ledger_one l c
ledger_one (of_ledger call ∷ l) c = ap (λ (cs : List LedgerCall). call ∷ cs) (ledger_one l c)

module _ (n r : ℕ) where
  no_mark_append : (l m : List Entry) → NoMarkDeleted n r (l ++ m) → NoMarkDeleted n r l × NoMarkDeleted n r m
  unfolding NoMarkDeleted
  no_mark_append [] m h = (tt, h)
  no_mark_append (of_command c code number ∷ l) m h = let s = no_mark_append l m h.1 in ((h.0, s.0), s.1)
  no_mark_append (of_ledger call ∷ l) m h = no_mark_append l m h

  -- The log of a batch call: commands alone, so that nothing in it takes a mark if no command does.
  pub record CommandsOnly (log : List Entry) : Type 0 where
    pub none : ledger_calls log ≡ []
    pub marks_stay : NoMarkDeleted n r log → (a : ℕ) → 1 ≤ a → a ≤ most_attempts → NoneTakes (mark_key n r a) log

  run_commands : (cs : List Command) (S : State) → CommandsOnly (entries_of cs S)
  unfolding entries_of ledger_calls NoMarkDeleted NoneTakes
  run_commands [] S = record { none = refl; marks_stay = λ h a i j. tt }
  run_commands (c ∷ cs) S =
      let k = run_commands cs (perform c S).after in
      record { none = k.none; marks_stay = λ h a i j. (h.0 a i j, k.marks_stay h.1 a i j) }

  module _ {p : List ℕ} (g : Passing p) (bytes out : List ℕ) (b : Bytes bytes) where
    call_commands : CommandsOnly (log_of p bytes out)
    unfolding ledger_calls NoneTakes
    call_commands = go (call_result g bytes out b)
      where
        go : Result p bytes out → CommandsOnly (log_of p bytes out)
        go (call_kept d q l) = rw l (record { none = refl; marks_stay = λ h a i j. tt })
        go (call_did {cs} z f R) = rw R.log_is (run_commands cs (state_of p))

    call_keeps : NoMarkDeleted n r (log_of p bytes out) → KeepsMarks n r p (batch p bytes out).pool
    call_keeps h a i j =
        let x = mark_key n r a in
        let now = history_from g (then_call no_call bytes out b) x in
        same_or_not (member x p) 1
        (λ e. omega (arith, now, none_stays x (member x p) (log_of p bytes out) e (call_commands.marks_stay h a i j)))
        (λ d. omega (arith, member_once g x))

  -- The calls are a sequence of the send limit's calls.
  pub calls_sending : {p q : List ℕ} {log : List Entry} → Passing p → Calls p log q → NoMarkDeleted n r log → Sending n r p (ledger_calls log) q
  unfolding ledger_calls
  calls_sending g no_call h = no_send
  calls_sending g (then_call {log} {q} calls bytes out b) h =
      let k = calls_passing g calls in
      let s = no_mark_append log (log_of q bytes out) h in
      rw (ledger_none log (log_of q bytes out) (call_commands k bytes out b).none)
      (then_other (calls_sending g calls s.0) (call_passing k bytes out b) (call_keeps k bytes out b s.1))
  calls_sending g (then_restart calls R) h =
      let k = calls_passing g calls in
      then_other (calls_sending g calls h) (restart_passing k R) (λ a i j. omega (arith, restart_keys k R (mark_key n r a)))
  calls_sending g (then_send {log} {q} calls m s l) h =
      rw (ledger_one log (send_call q m s l)) (ledger-send (calls_sending g calls (no_mark_append log (of_ledger (send_call q m s l) ∷ []) h).0) m s l)
  calls_sending g (then_clear {log} {q} calls m) h =
      rw (ledger_one log (clear_call q m)) (ledger-clear (calls_sending g calls (no_mark_append log (of_ledger (clear_call q m) ∷ []) h).0) m)

  -- With no clearing of the notice all yes answers count ..
  texts_all : (l : ℕ) (calls : List LedgerCall) (before : ℕ) → OneLimit n l calls → texts_from n r before calls ≡ before + yes_answers n r calls
  unfolding texts_from texts_after clears is_yes OneLimit yes_answers one
  texts_all l [] before h = omega arith
  texts_all l (send_call_case m s k code a ∷ calls) before h = texts_all l calls _ h.1 ∙ go (eqb m n && eqb s r && eqb code 0)
    where
      go : (b : Bool) → elim b [ true ↦ suc before | false ↦ before ] + yes_answers n r calls ≡ before + (one b + yes_answers n r calls)
      go true = omega arith
      go false = omega arith
  texts_all l (clear_call_case m code count ∷ calls) before h = rw (not_cleared, texts_after) (texts_all l calls before h.1 ∙ none)
    where
      none : before + yes_answers n r calls ≡ before + (0 + yes_answers n r calls)
      none = omega arith

      not_cleared : (eqb m n && eqb code 0) ≡ false
      not_cleared = same_or_not m n (λ e. rw (ne_eqb code 0 (h.0 e), and-false)) (λ d. rw (ne_eqb m n d))

  -- .. and each was given under the one limit.
  one_within : (l : ℕ) (calls : List LedgerCall) → OneLimit n l calls → AllWithin n r l calls
  unfolding OneLimit AllWithin Within
  one_within l [] h = tt
  one_within l (send_call_case m s k code a ∷ calls) h = (λ u e f z. omega (arith, h.0), one_within l calls h.1)
  one_within l (clear_call_case m code count ∷ calls) h = (λ u. tt, one_within l calls h.1)

-- The send limit, from any pool that passes the audit.
module _ (n r : ℕ) {p q : List ℕ} {log : List Entry} (g : Passing p) (calls : Calls p log q) (stay : NoMarkDeleted n r log) where
  -- since the notice was last cleared
  pub texts_in_calls : (m : ℕ) → AllWithin n r m (ledger_calls log) → texts n r (ledger_calls log) ≤ m
  texts_in_calls m within = texts_at_most g (calls_sending n r g calls stay) within

  -- "with one limit and no clearing"
  pub yes_at_most : (l : ℕ) → OneLimit n l (ledger_calls log) → yes_answers n r (ledger_calls log) ≤ l
  yes_at_most l one-limit =
      omega (arith, texts_all n r l (ledger_calls log) 0 one-limit, texts_in_calls l (one_within n r l (ledger_calls log) one-limit))

-- "Over any sequence of such calls with one limit and no clearing, from an empty set, each notice and resident get at most that many yes answers."
pub texts_from_empty : (w : List ℕ) {q : List ℕ} {log : List Entry} → prepare_code w ≡ 0 → Calls (prepared_words w) log q
    → (n r l : ℕ) → NoMarkDeleted n r log → OneLimit n l (ledger_calls log) → yes_answers n r (ledger_calls log) ≤ l
texts_from_empty w z calls n r l stay one-limit = yes_at_most n r (prepared_empty w z).0 calls stay l one-limit
