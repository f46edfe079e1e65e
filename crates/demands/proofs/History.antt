-- Demand 2's last sentence. From any empty pool that passes the audit, a prepared one (`history_prepared`) or another, and after any
-- number of batch calls, with any bytes and any answer words, and calls of the send limit, with any arguments, refused calls, steps and
-- settles among them, the set has exactly the keys that were inserted with code 0 and not since deleted with code 0 (`history`,
-- `history_keys`): by commands, by a yes, which inserts its mark, and by a clearing, which deletes its notice's marks. Search finds exactly
-- those (`history_search`), and so does a search command anywhere in a further call (`search_tells`). From any pool that passes the audit
-- it has these, and of the keys that were there those not since deleted with code 0 (`history_from`, `history_from_keys`, and so on).
-- Restarts may come between the calls: they move no key.
-- Why: an insert with code 0 adds its key and no other, a delete with code 0 takes its key and no other, a delete of a span those within it and no
-- other (crate tree), a yes and a clearing do so with marks (crate ledger), and nothing else moves a key; so after each entry the set is what the log
-- tells. Assumes nothing.
use mathlib.Core.Path.{◌≡◌, refl, ap, sym, ◌∙◌}
use mathlib.Core.Logic.{◌↔◌, ◌≢◌, inl, inr}
use mathlib.Core.Bool.{Bool, true, false, false≢true, and-false}
use mathlib.Core.List.{List, [], ◌∷◌, ◌++◌}
use lib.ListN.{length, get_or}
use borrow.Author.Tests.{eq-eqb, ne_eqb}
use native.Mathlib.Omega.{arith}
use Prim.Native.Nat.{ℕ, ◌*◌}
use Rattle.tree.specs.declared.Answer.{Answer}
use Rattle.tree.specs.Codes.{code_of, number_of}
use Rattle.tree.specs.Tree.{count_in}
use Rattle.tree.specs.State.{State, is_in, Sound, Outcome, search, step}
use Rattle.tree.specs.Settle.{settle}
use Rattle.tree.specs.Spans.{next_from, keys_from, count_span, delete_span}
use Rattle.tree.proofs.Tests.{same_or_not, one_same, one_other}
use Rattle.tree.proofs.Updated.{search_kept, search_codes as search-codes-state, InsertSays, present, no_room, added, insert_says, DeleteSays, absent, removed, delete_says}
use Rattle.tree.proofs.StepState.{step_keeps_keys}
use Rattle.tree.proofs.SpanStates.{span_members, span_none}
use Rattle.encoding.specs.declared.Operation.{Operation}
use Rattle.encoding.specs.declared.Operation.TheVariants.{Search, Insert, Delete, Step, Settle, AtOrAbove, Count, DeleteSpan}
use Rattle.encoding.specs.declared.Command.{Command}
use Rattle.encoding.specs.Numbers.{Bytes}
use Rattle.encoding.specs.Operations.{operation_number}
use Rattle.format.specs.Audit.{state_of}
use Rattle.encoding.specs.Batch.{commands, read_batch, operation, perform, run_all, batch}
use Rattle.encoding.proofs.Performs.{AllSmall, perform_sound, run_sound, small_append}
use Rattle.format.specs.Words.{header_of, length_good}
use Rattle.pool.specs.Results.{prepare_code, prepared_words}
use Rattle.updates.specs.Updating.{search_answer}
use Rattle.set.specs.Set.{Passing, member}
use Rattle.tree.proofs.Moves.{settle_keeps_keys}
use Rattle.ledger.specs.Ledger.{mark_key, may_send, clear_notice}
use Rattle.ledger.specs.Sends.{Sent, Cleaned}
use Rattle.ledger.specs.Sequences.{send_call, clear_call}
use Rattle.ledger.proofs.Sending.{send_says, send_refused}
use Rattle.ledger.proofs.Clearing.{clear_says, clear_refused}
use Rattle.set.proofs.Members.{member_shown}
use Rattle.set.proofs.Passing.{passing_state}
use Rattle.set.proofs.Promises.{passing_words, more_here, more_elsewhere, nodes_exact, empty_says, prepare_passing, prepare_says, search_codes}
use Rattle.demands.specs.Calls.{Entry, of_ledger, entries, log_of, Calls, no_call, then_call, then_restart, then_send, then_clear, is_mark, puts, takes, tells, told_from, told, InsertedSince, KeptOrInserted, SearchTells}
use Rattle.demands.proofs.Told.{tells_kept, tells_put, tells_taken, other_operation, other_key, other_code, tells_insert, tells_delete, tells_span, tells_empty_span, is_mark_lem, told_append, told_from_exactly, told_exactly}
use Rattle.demands.proofs.Runs.{entry, entries_of}
use Rattle.demands.proofs.Called.{Result, call_kept, call_did, call_result, call_ran, calls_passing}
use Rattle.demands.proofs.Ends.{command_words}
use Rattle.demands.proofs.Restarting.{restart_keys}

-- no insert, no delete and no delete of a span
abbrev Other : Operation → Type 0
Other o =
    (operation_number o ≢ operation_number Insert) × (operation_number o ≢ operation_number Delete) × (operation_number o ≢ operation_number DeleteSpan)

-- One command: what is in the set after it is what its entry tells.
module _ (x : ℕ) (c : Command) (S : State) (sound : Sound S) where
  no_span : {o : Operation} → c.operation ≡ o → operation_number o ≢ operation_number DeleteSpan
      → operation_number c.operation ≢ operation_number DeleteSpan
  no_span e d z = d (sym (ap operation_number e) ∙ z)

  insert_told : {o : Outcome} → c.operation ≡ Insert → InsertSays c.first S o → is_in x o.after ≡ tells x (entry c o.answer) (is_in x S)
  insert_told op (present i) = sym (other_code x c _ _ (is_in x S) (λ z. omega arith))
  insert_told op (no_room i h) = sym (other_code x c _ _ (is_in x S) (λ z. omega arith))
  insert_told op (added {s} i h k f) = same_or_not c.first x
      (λ e. let z : is_in x S ≡ 0 = rw e at i in omega (arith, k x, one_same x c.first (sym e), tells_insert x c 0 s (is_in x S) op e refl))
      (λ n. omega (arith, k x, one_other x c.first (λ e. n (sym e)), other_key x c 0 s (is_in x S) (no_span op (λ z. omega arith)) n))

  delete_told : {o : Outcome} → c.operation ≡ Delete → DeleteSays c.first S o → is_in x o.after ≡ tells x (entry c o.answer) (is_in x S)
  delete_told op (absent i) = sym (other_code x c _ _ (is_in x S) (λ z. omega arith))
  delete_told op (removed {n = m} i l k) = same_or_not c.first x
      (λ e. let z : is_in x S ≡ 1 = rw e at i in omega (arith, k x, one_same x c.first (sym e), tells_delete x c 0 m (is_in x S) op e refl))
      (λ n. omega (arith, k x, one_other x c.first (λ e. n (sym e)), other_key x c 0 m (is_in x S) (no_span op (λ z. omega arith)) n))

  span_told : c.operation ≡ DeleteSpan
      → is_in x (delete_span c.first c.second S).after ≡ tells x (entry c (delete_span c.first c.second S).answer) (is_in x S)
  unfolding delete_span
  span_told op =
      let number = length (keys_from c.first c.second S) in
      same_or_not number 0
      (λ z. ap (is_in x) (span_none c.first c.second S z) ∙ sym (tells_empty_span x c 0 number (is_in x S) op refl z))
      (λ d. span_members x c.first c.second S sound ∙ sym (tells_span x c 0 number (is_in x S) op refl d))

  perform_told : is_in x (perform c S).after ≡ tells x (entry c (perform c S).answer) (is_in x S)
  unfolding perform operation next_from count_span
  perform_told = go c.operation refl
    where
      -- such a command moves no key
      same : (o : Operation) → c.operation ≡ o → Other o → (a : Answer) {n : ℕ} → n ≡ is_in x S → n ≡ tells x (entry c a) (is_in x S)
      same o e f a h =
          let number = ap operation_number e in
          h ∙ sym (other_operation x c _ _ (is_in x S) (λ z. f.0 (sym number ∙ z)) (λ z. f.1 (sym number ∙ z)) (λ z. f.2 (sym number ∙ z)))

      go : (o : Operation) → c.operation ≡ o
          → is_in x (operation o c.first c.second S).after ≡ tells x (entry c (operation o c.first c.second S).answer) (is_in x S)
      go Search e = same Search e (omega arith) (search c.first S).answer (ap (is_in x) (search_kept c.first S sound))
      go Insert e = insert_told e (insert_says c.first S sound)
      go Delete e = delete_told e (delete_says c.first S sound)
      go Step e = same Step e (omega arith) (step c.first c.second S).answer (ap (count_in x) (step_keeps_keys c.first c.second S sound))
      go Settle e = same Settle e (omega arith) (settle c.first S).answer (ap (count_in x) (settle_keeps_keys S c.first sound))
      go AtOrAbove e = same AtOrAbove e (omega arith) (next_from c.first S).answer refl
      go Count e = same Count e (omega arith) (count_span c.first c.second S).answer refl
      go DeleteSpan e = span_told e

-- a search command searches
searches : (c : Command) (S : State) → c.operation ≡ Search → (perform c S).answer ≡ (search c.first S).answer
unfolding perform operation
searches c S op = rw op

-- All commands of a call.
run_told : (x : ℕ) (cs : List Command) (S : State) → AllSmall cs → Sound S → is_in x (run_all cs S) ≡ told_from x (is_in x S) (entries_of cs S)
unfolding run_all entries_of told_from AllSmall
run_told x [] S h g = refl
run_told x (c ∷ cs) S h g =
    run_told x cs (perform c S).after h.1 (perform_sound c S h.0 g)
    ∙ ap (λ (n : ℕ). told_from x n (entries_of cs (perform c S).after)) (perform_told x c S g)

member_state : {p : List ℕ} → Passing p → (x : ℕ) → member x p ≡ is_in x (state_of p)
member_state g x = let S = passing_state g in member_shown S.0 S.1 x

-- One call.
call_told : {p : List ℕ} → Passing p → (bytes out : List ℕ) → Bytes bytes → (x : ℕ) → member x (batch p bytes out).pool ≡ told_from x (member x p) (log_of p bytes out)
unfolding told_from
call_told {p} g bytes out b x = go (call_result g bytes out b)
  where
    go : Result p bytes out → member x (batch p bytes out).pool ≡ told_from x (member x p) (log_of p bytes out)
    go (call_kept n q l) = rw (q, l)
    go (call_did {cs} z f r) =
        rw (r.log_is, member_state g x) (member_shown r.sound_after r.shows_after x ∙ run_told x cs (state_of p) r.small r.sound)

-- One call of the send limit: a yes marks its key, a clearing takes its notice's marks, and a refusal moves nothing.
module _ {p : List ℕ} (g : Passing p) (n r l x : ℕ) where
  abbrev sent : Entry
  sent = of_ledger (send_call p n r l)

  abbrev key : ℕ
  key = mark_key n r (number_of (may_send p n r l).answer)

  send_kept : puts x sent ≡ false → tells x sent (member x p) ≡ member x p
  unfolding takes
  send_kept f = tells_kept x sent (member x p) f refl

  yes_told : Sent p n r l (number_of (may_send p n r l).answer) (may_send p n r l).left → code_of (may_send p n r l).answer ≡ 0
      → member x (may_send p n r l).left ≡ tells x sent (member x p)
  unfolding puts
  yes_told s z = same_or_not key x
      (λ e. rw e at here ∙ sym (tells_put x sent (member x p) (rw (eq-eqb _ _ e, eq-eqb _ _ z))))
      (λ d. more_elsewhere s.one_more x (λ e. d (sym e)) ∙ sym (send_kept (rw (ne_eqb _ _ d))))
    where
      here : member key (may_send p n r l).left ≡ 1
      here = omega (arith, more_here s.one_more, s.attempt_is.unmarked)

  send_told : member x (may_send p n r l).left ≡ tells x sent (member x p)
  unfolding puts
  send_told = same_or_not (code_of (may_send p n r l).answer) 0
      (λ z. yes_told (send_says p n r l (passing_words g) z) z)
      (λ d. ap (member x) (send_refused p n r l (passing_words g) d).1 ∙ sym (send_kept (rw (ne_eqb _ _ d, and-false))))

module _ {p : List ℕ} (g : Passing p) (n x : ℕ) where
  abbrev cleared : Entry
  cleared = of_ledger (clear_call p n)

  clear_kept : takes x cleared ≡ false → tells x cleared (member x p) ≡ member x p
  unfolding puts
  clear_kept f = tells_kept x cleared (member x p) refl f

  done_told : {c : ℕ} → Cleaned p n c (clear_notice p n).left → code_of (clear_notice p n).answer ≡ 0
      → member x (clear_notice p n).left ≡ tells x cleared (member x p)
  unfolding puts takes
  done_told s z = go (is_mark n x) refl
    where
      go : (b : Bool) → is_mark n x ≡ b → member x (clear_notice p n).left ≡ tells x cleared (member x p)
      go true e = s.none_left x ((is_mark_lem n x).0 e) ∙ sym (tells_taken x cleared (member x p) refl (rw (e, eq-eqb _ _ z)))
      go false e = s.others_stay x (λ m. false≢true (sym e ∙ (is_mark_lem n x).1 m)) ∙ sym (clear_kept (rw e))

  clear_told : member x (clear_notice p n).left ≡ tells x cleared (member x p)
  unfolding takes
  clear_told = same_or_not (code_of (clear_notice p n).answer) 0
      (λ z. done_told (clear_says p n (passing_words g) z) z)
      (λ d. ap (member x) (clear_refused p n (passing_words g) d).1 ∙ sym (clear_kept (rw (ne_eqb _ _ d, and-false))))

-- Any number of calls.
calls_told : {p q : List ℕ} {log : List Entry} → Passing p → Calls p log q → (x : ℕ) → member x q ≡ told_from x (member x p) log
unfolding told_from
calls_told g no_call x = refl
calls_told {p} g (then_call {log} {q} calls bytes out b) x =
    call_told (calls_passing g calls) bytes out b x
    ∙ (ap (λ (n : ℕ). told_from x n (log_of q bytes out)) (calls_told g calls x) ∙ sym (told_append x (member x p) log (log_of q bytes out)))
calls_told g (then_restart calls R) x = restart_keys (calls_passing g calls) R x ∙ calls_told g calls x
calls_told {p} g (then_send {log} {q} calls n r l) x =
    send_told (calls_passing g calls) n r l x
    ∙ (ap (tells x (of_ledger (send_call q n r l))) (calls_told g calls x) ∙ sym (told_append x (member x p) log (of_ledger (send_call q n r l) ∷ [])))
calls_told {p} g (then_clear {log} {q} calls n) x =
    clear_told (calls_passing g calls) n x
    ∙ (ap (tells x (of_ledger (clear_call q n))) (calls_told g calls x) ∙ sym (told_append x (member x p) log (of_ledger (clear_call q n) ∷ [])))

-- From any pool that passes the audit, with its keys: a pool that is taken up again.
module _ {p q : List ℕ} {log : List Entry} (g : Passing p) (calls : Calls p log q) where
  pub history_from : (x : ℕ) → member x q ≡ told_from x (member x p) log
  history_from = calls_told g calls

  -- the same, as the sentence
  pub history_from_keys : (x : ℕ) → (member x q ≡ 1) ↔ KeptOrInserted x (member x p ≡ 1) log
  history_from_keys x = let k = told_from_exactly x (member x p) log in (λ h. k.0 (sym (history_from x) ∙ h), λ s. history_from x ∙ k.1 s)

  pub history_passing : Passing q
  history_passing = calls_passing g calls

  -- The set's search, on the words that are left;
  pub history_from_search : (x : ℕ) → SearchTells (told_from x (member x p) log) (code_of (search_answer q x))
  history_from_search x = rw (← history_from x) (let k = search_codes history_passing x in record { done_when = k.done_when; absent_when = k.absent_when })

  -- and by what it answered on the words before: it finds x exactly when it did so then and nothing took x, or x was inserted since.
  pub history_of_searches : (x : ℕ) → (code_of (search_answer q x) ≡ 0) ↔ KeptOrInserted x (code_of (search_answer p x) ≡ 0) log
  history_of_searches x =
      let now = (search_codes history_passing x).done_when in
      let then = (search_codes g x).done_when in
      let k = history_from_keys x in
      (λ z. kept then.1 (k.0 (now.0 z)), λ s. now.1 (k.1 (kept then.0 s)))
    where
      kept : {A B : Type 0} → (A → B) → KeptOrInserted x A log → KeptOrInserted x B log
      kept f (inl k) = inl (f k.0, k.1)
      kept f (inr s) = inr s

  -- A search for x in a further call, after the commands `before` of that call: its code goes by what the log up to there tells of x.
  module _ (bytes out : List ℕ) (b : Bytes bytes) (given : (batch q bytes out).code ≡ 0) where
    pub search_tells_from : (before : List Command) (c : Command) (rest : List Command) → read_batch bytes ≡ commands (before ++ (c ∷ rest))
        → c.operation ≡ Search
        → SearchTells (told_from c.first (member c.first p) (log ++ entries before (batch q bytes out).answers)) (get_or (batch q bytes out).answers (2 * length before) 0)
    search_tells_from before c rest read op =
        let x = c.first in
        let R = call_ran history_passing bytes out b given read in
        let S = run_all before (state_of q) in
        let small = (small_append before (c ∷ rest) R.small).0 in
        let w = command_words history_passing bytes out b given before c rest read in
        let code_is : get_or (batch q bytes out).answers (2 * length before) 0 ≡ code_of (search x S).answer = w.code_word_holds ∙ ap code_of (searches c S op) in
        let in_is : told_from x (member x p) (log ++ entries before (batch q bytes out).answers) ≡ is_in x S =
        ap (λ (l : List Entry). told_from x (member x p) (log ++ l)) w.first_entries
        ∙ (told_append x (member x p) log (entries_of before (state_of q))
        ∙ (ap (λ (n : ℕ). told_from x n (entries_of before (state_of q))) (sym (history_from x) ∙ member_state history_passing x)
        ∙ sym (run_told x before (state_of q) small R.sound))) in
        let k = search-codes-state x S (run_sound before (state_of q) small R.sound) in
        rw (code_is, in_is) (record { done_when = k.done; absent_when = k.key_absent })

-- From any empty pool that passes the audit: its header's N is 0. Its free chain may be any.
module _ {p q : List ℕ} {log : List Entry} (g : Passing p) (none : (header_of p).nodes ≡ 0) (calls : Calls p log q) where
  not_before : (x : ℕ) → member x p ≡ 0
  not_before = (empty_says g none).no_member

  pub history : (x : ℕ) → member x q ≡ told x log
  history x = rw (not_before x) at (history_from g calls x)

  pub history_keys : (x : ℕ) → (member x q ≡ 1) ↔ InsertedSince x log
  history_keys x = (λ h. (told_exactly x log).0 (sym (history x) ∙ h), λ s. history x ∙ (told_exactly x log).1 s)

  pub history_search : (x : ℕ) → SearchTells (told x log) (code_of (search_answer q x))
  history_search x = rw (not_before x) at (history_from_search g calls x)

  module _ (bytes out : List ℕ) (b : Bytes bytes) (given : (batch q bytes out).code ≡ 0) where
    pub search_tells : (before : List Command) (c : Command) (rest : List Command) → read_batch bytes ≡ commands (before ++ (c ∷ rest))
        → c.operation ≡ Search
        → SearchTells (told c.first (log ++ entries before (batch q bytes out).answers)) (get_or (batch q bytes out).answers (2 * length before) 0)
    search_tells before c rest read op = rw (not_before c.first) at (search_tells_from g calls bytes out b given before c rest read op)

-- "Prepare gives 0 or 1": with 0 the pool is prepared, and is such a pool.
prepared_good : (w : List ℕ) → prepare_code w ≡ 0 → length_good w ≡ true
unfolding prepare_code
prepared_good w h = go (length_good w) refl
  where
    go : (b : Bool) → length_good w ≡ b → length_good w ≡ true
    go true e = e
    go false e = absurd (omega (arith, rw (e, prepare_code) at h))

pub prepared_empty : (w : List ℕ) → prepare_code w ≡ 0 → Passing (prepared_words w) × ((header_of (prepared_words w)).nodes ≡ 0)
prepared_empty w h =
    let l = prepared_good w h in
    let g = prepare_passing w l in
    (g, omega (arith, nodes_exact g, (prepare_says w l).none_held))

pub history_prepared : (w : List ℕ) {q : List ℕ} {log : List Entry} → prepare_code w ≡ 0 → Calls (prepared_words w) log q → (x : ℕ) → member x q ≡ told x log
history_prepared w h calls = let e = prepared_empty w h in history e.0 e.1 calls
