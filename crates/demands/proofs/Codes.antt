-- Demand 1 for the commands of a call, on its answer words: the code word of each command is n exactly when 01's cause for n is the first
-- that is there, in the pool that the commands before it left, and 0 exactly when none is (`command_code`); its number word is 01's
-- (`command_number`), of which there is one (`command_number_once`). That pool is what a call with the bytes of those commands alone
-- leaves (`pool_before`; and of a whole call `pool_after_lem`).
-- Why: the words are the State's answer (`command_words`), and crate encoding says what that is, over all operations. Assumes nothing.
use mathlib.Core.Path.{◌≡◌, ap, sym, ◌∙◌}
use mathlib.Core.Logic.{◌↔◌}
use mathlib.Core.List.{List, [], ◌∷◌, ◌++◌}
use lib.ListN.{length, get_or, length-append}
use native.Mathlib.Omega.{arith}
use Prim.Native.Nat.{ℕ, ◌+◌, ◌*◌, ◌≤◌}
use Rattle.tree.specs.State.{Sound}
use Rattle.format.specs.Audit.{state_of}
use Rattle.format.proofs.AuditCases.{Words32}
use Rattle.format.proofs.Rules.{show_rules}
use Rattle.format.proofs.Shown.{shows_words}
use Rattle.encoding.specs.declared.Command.{Command}
use Rattle.encoding.specs.Numbers.{Bytes}
use Rattle.encoding.specs.Batch.{commands, read_batch, perform, run_all, Call, called, batch}
use Rattle.encoding.specs.Causes.{FirstCause, Numbered}
use Rattle.encoding.proofs.Endings.{ran_ends}
use Rattle.encoding.proofs.Performs.{AllSmall, perform_sound, run_sound, small_append}
use Rattle.encoding.proofs.AnswerWords.{run_append}
use Rattle.encoding.proofs.Causes.{answered, code_exactly, numbered_once}
use Rattle.commands.specs.Written.{batch_bytes}
use Rattle.commands.proofs.Written.{front_read}
use Rattle.set.specs.Set.{Passing}
use Rattle.demands.specs.Calls.{pool_after}
use Rattle.demands.proofs.Called.{call_ran}
use Rattle.demands.proofs.Ends.{code_0, ran_passing, command_words}

-- the State of the pool that commands leave
after_state : (cs : List Command) (p : List ℕ) → Sound (run_all cs (state_of p)) → state_of (pool_after cs p) ≡ run_all cs (state_of p)
unfolding pool_after
after_state cs p sound = (show_rules sound (shows_words sound)).2

-- Any words, any bytes, any answer words, of a call that is not refused; the command c stands after `before` and is followed by `rest`.
module _ (p bytes out : List ℕ) (words : Words32 p) (b : Bytes bytes) (given : (batch p bytes out).code ≡ 0) where
  -- what a call leaves, by its commands
  pub pool_after_lem : {cs : List Command} → read_batch bytes ≡ commands cs → (batch p bytes out).pool ≡ pool_after cs p
  unfolding called pool_after
  pool_after_lem read = ap (λ (r : Call). r.pool) (call_ran (ran_passing p bytes out words given) bytes out b given read).call_is

  module _ (before : List Command) (c : Command) (rest : List Command) (read : read_batch bytes ≡ commands (before ++ (c ∷ rest))) where
    abbrev code_word : ℕ
    code_word = get_or (batch p bytes out).answers (2 * length before) 0

    abbrev number_word : ℕ
    number_word = get_or (batch p bytes out).answers (2 * length before + 1) 0

    -- the pool that the commands before left is what a call with their bytes alone leaves
    pub pool_before : ((batch p (batch_bytes before) out).code ≡ 0) × ((batch p (batch_bytes before) out).pool ≡ pool_after before p)
    unfolding called pool_after
    pool_before =
        let c0 = (code_0 p bytes out).0 given in
        let same : commands c0.1.0 ≡ commands (before ++ (c ∷ rest)) = sym c0.1.1 ∙ read in
        let list : c0.1.0 ≡ before ++ (c ∷ rest) = cc in
        let room : 2 * length before ≤ length out = omega (arith, ap length list, c0.1.2, length-append before (c ∷ rest)) in
        let alone = ran_ends p (batch_bytes before) out c0.0 (front_read bytes b before (c ∷ rest) read) room c0.2 in
        (ap (λ (r : Call). r.code) alone, ap (λ (r : Call). r.pool) alone)

    g : Passing p
    g = ran_passing p bytes out words given

    small : AllSmall before × AllSmall (c ∷ rest)
    small = small_append before (c ∷ rest) (call_ran g bytes out b given read).small

    sound : Sound (run_all before (state_of p))
    sound = run_sound before (state_of p) small.0 (call_ran g bytes out b given read).sound

    -- the State of the pool that the commands before left
    pub state_before : state_of (pool_after before p) ≡ run_all before (state_of p)
    state_before = after_state before p sound

    sound_after : Sound (run_all (before ++ (c ∷ [])) (state_of p))
    unfolding run_all AllSmall
    sound_after = rw (run_append before (c ∷ []) (state_of p)) (perform_sound c (run_all before (state_of p)) small.1.0 sound)

    pub command_code : (n : ℕ) → (code_word ≡ n) ↔ FirstCause c.first c.second (state_of (pool_after before p)) c.operation n
    unfolding perform
    command_code n =
        let w = (command_words g bytes out b given before c rest read).code_word_holds in
        let x = code_exactly c.operation c.first c.second (run_all before (state_of p)) sound n in
        rw (after_state before p sound) (λ e. x.0 (sym w ∙ e), λ f. w ∙ x.1 f)

    pub command_number : Numbered c.first c.second (state_of (pool_after before p)) (state_of (pool_after (before ++ (c ∷ [])) p)) c.operation code_word number_word
    unfolding perform run_all
    command_number =
        let S = run_all before (state_of p) in
        let w = command_words g bytes out b given before c rest read in
        let after : run_all (before ++ (c ∷ [])) (state_of p) ≡ (perform c S).after = run_append before (c ∷ []) (state_of p) in
        rw (w.code_word_holds, w.number_word_holds, after_state before p sound, after_state (before ++ (c ∷ [])) p sound_after, after)
        (answered c.first c.second S sound c.operation).number_is

    -- no other number is the table's
    pub command_number_once : (n : ℕ) → Numbered c.first c.second (state_of (pool_after before p)) (state_of (pool_after (before ++ (c ∷ [])) p)) c.operation code_word n
        → number_word ≡ n
    command_number_once n m =
        numbered_once (rw (after_state before p sound) sound) (rw (after_state (before ++ (c ∷ [])) p sound_after) sound_after) command_number m
