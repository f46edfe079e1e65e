-- Code 3, exactly. A command goes wrong at a byte exactly when it is bad there in one of 01's ways (`command_bad`); a batch goes wrong at byte j
-- exactly when good commands stand in it, fewer than 256, and the next goes wrong at j, or 256, and the 257th begins at j (`bad_exactly`); then, and
-- only then, a call gives 3 and j (`bad_call`).
-- By the cases of how a command and a batch were read, and the other way by reading them again. Assumes nothing.
use mathlib.Core.Path.{◌≡◌, refl, ap, ◌∙◌}
use mathlib.Core.Logic.{◌↔◌, ◌≢◌}
use mathlib.Core.Bool.{true}
use mathlib.Core.List.{List}
use lib.ListN.{length}
use Prim.Native.Nat.{ℕ, suc, ◌-◌, ◌≤◌, ◌<◌}
use native.Mathlib.Omega.{arith}
use Rattle.format.specs.Words.{length_good}
use Rattle.encoding.specs.declared.Operation.{Operation}
use Rattle.std.specs.Prelude.{Some, Err}
use Rattle.encoding.specs.Numbers.{fault}
use Rattle.encoding.specs.declared.Command.{Command}
use Rattle.encoding.specs.Operations.{operation_number, which}
use Rattle.encoding.specs.Batch.{most_commands, last_argument, meant_at, operation_at, command_at, bad_at, after, read_from, read_batch, Call, called, refused, batch}
use Rattle.commands.specs.Faults.{BadCommand, bad_operation, unknown, bad_first, bad_second, StandTo, none_stand, one_stands, BadFrom, bad_one, too_many, FirstBad}
use Rattle.encoding.proofs.Endings.{Ending, length_refused, bad_command, few_answers, rules_refused, ran, ending, bad_ends}
use Rattle.encoding.proofs.OperationNumbers.{which_known, which_number, which_unknown}
use Rattle.numbers.proofs.Faults.{number_bad}
use Rattle.commands.proofs.Commands.{Parsed, wrong_operation, unknown as unknown-parsed, wrong_first, wrong_last, two, first_wrong, meant, parsed, command_place}
use Rattle.commands.proofs.Reading.{Taken, taken, taken_over, taken_fault, taken_bad, read_over, read_fault, read_good}

module _ (bytes : List ℕ) (i : ℕ) where
  fault_bad : {j : ℕ} → Parsed bytes i (Err (fault j)) → BadCommand bytes i j
  fault_bad {j} (wrong_operation e) = bad_operation ((number_bad bytes i j).0 e)
  fault_bad (unknown-parsed {n} e k) = unknown e no_operation
    where
      no_operation : (o : Operation) → n ≢ operation_number o
      no_operation o s = let w = which_known o in let z : which n ≡ Some o = rw s w in let y : ◌≡◌ {A = ℕ} 0 1 = cc in absurd (omega arith)
  fault_bad {j} (wrong_first {n} {next} {op = o} e k f) =
      bad_first o (rw (which_number n o k) at e) ((number_bad bytes next j).0 f)
  fault_bad {j} (wrong_last {n} {mid = mid} {op = o} e k h f g) =
      bad_second o h (rw (which_number n o k) at e) f ((number_bad bytes mid j).0 g)

  bad_fault : {j : ℕ} → BadCommand bytes i j → command_at bytes i ≡ Err (fault j)
  unfolding command_at operation_at meant_at last_argument
  bad_fault {j} (bad_operation b) = rw ((number_bad bytes i j).1 b)
  bad_fault (unknown {n} e h) = rw (e, which_unknown n h)
  bad_fault {j} (bad_first o {next} e b) = meant bytes i e (which_known o) ∙ first_wrong bytes o next (fault j) ((number_bad bytes next j).1 b)
  bad_fault {j} (bad_second o {next} {a} {mid} h e f b) = meant bytes i e (which_known o) ∙ two bytes o next a mid h f ∙ rw ((number_bad bytes mid j).1 b)

  pub command_bad : (j : ℕ) → (command_at bytes i ≡ Err (fault j)) ↔ BadCommand bytes i j
  command_bad j = (λ e. fault_bad (rw e at (parsed bytes i)), bad_fault)

module _ (bytes : List ℕ) where
  taken_bad_from : {n i j : ℕ} → Taken bytes n i (bad_at j) → BadFrom bytes n i j
  taken_bad_from (taken_over h) = too_many none_stand refl h
  taken_bad_from {n = suc n} {i} {j} (taken_fault h e) = bad_one none_stand (omega arith) h ((command_bad bytes i j).0 e)
  taken_bad_from {n = suc n} {i} {j} (taken_bad {n = m} {next = next} h e t) = go (taken_bad_from t)
    where
      go : BadFrom bytes m next j → BadFrom bytes (suc m) i j
      go (bad_one s f l b) = bad_one (one_stands e s) (omega arith) l b
      go (too_many s f l) = too_many (one_stands e s) (omega arith) l

  -- what is read from a place where commands stand, is read from the place after them
  stand_on : {i k : ℕ} {cs : List Command} (n : ℕ) → StandTo bytes i cs k → length cs ≤ n → k < length bytes → (j : ℕ) → read_from (n - length cs) bytes k ≡ bad_at j
      → read_from n bytes i ≡ bad_at j
  unfolding after
  stand_on n none_stand f l j r = let e : n - 0 ≡ n = omega arith in rw e at r
  stand_on {i} n (one_stands {next = next} {c = c} {cs = cs} e s) f l j r =
      let m : n - 1 - length cs ≡ n - suc (length cs) = omega arith in
      read_good bytes n i c next (omega (arith, command_place bytes i e)) (λ z. omega arith) e
      ∙ rw (stand_on (n - 1) s (omega arith) l j (rw m r))

  bad_from_read : {n i j : ℕ} → BadFrom bytes n i j → read_from n bytes i ≡ bad_at j
  bad_from_read {n} {j = j} (bad_one {k = k} s f l b) = stand_on n s (omega arith) l j (read_fault bytes _ k j l (λ z. omega arith) ((command_bad bytes k j).1 b))
  bad_from_read {n} {j = j} (too_many s f l) = stand_on n s (omega arith) l j (read_over bytes _ j l (omega arith))

  pub bad_exactly : (j : ℕ) → (read_batch bytes ≡ bad_at j) ↔ FirstBad bytes j
  unfolding read_batch
  bad_exactly j = (λ e. taken_bad_from (rw e at (taken bytes most_commands 0)), bad_from_read)

-- The same of a call: code 3, and its number.
pub bad_call : (p bytes out : List ℕ) (j : ℕ) → (((batch p bytes out).code ≡ 3) × ((batch p bytes out).number ≡ j)) ↔ ((length_good p ≡ true) × FirstBad bytes j)
unfolding refused called
bad_call p bytes out j = (λ h. go (ending p bytes out) h.0 h.1, back)
  where
    go : {r : Call} → Ending p bytes out r → r.code ≡ 3 → r.number ≡ j → (length_good p ≡ true) × FirstBad bytes j
    go (length_refused l) c n = absurd (omega arith)
    go (bad_command l e) c n = (l, (bad_exactly bytes j).0 (rw n at e))
    go (few_answers l e h) c n = absurd (omega arith)
    go (rules_refused l e h r) c n = absurd (omega arith)
    go (ran l e h r) c n = absurd (omega arith)

    back : (length_good p ≡ true) × FirstBad bytes j → ((batch p bytes out).code ≡ 3) × ((batch p bytes out).number ≡ j)
    back h =
        let e = bad_ends p bytes out h.0 ((bad_exactly bytes j).1 h.1) in
        (ap (λ (r : Call). r.code) e, ap (λ (r : Call). r.number) e)
