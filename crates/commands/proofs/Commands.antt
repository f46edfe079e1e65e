-- One command: the cases of its arguments, how `command_at` comes to its answer, and what follows of its places. Assumes nothing.
use mathlib.Core.Path.{◌≡◌, refl, ◌∙◌}
use mathlib.Core.Logic.{◌≢◌}
use mathlib.Core.List.{List}
use borrow.Author.Tests.{eq-eqb, ne_eqb}
use Prim.Native.Nat.{ℕ, ◌+◌, ◌≤◌, ◌<◌}
use native.Mathlib.Omega.{arith}
use lib.ListN.{length}
use Rattle.tree.proofs.Tests.{same_or_not}
use Rattle.encoding.specs.Numbers.{Reading, fault, number}
use Rattle.std.specs.Prelude.{Ok, Err, Option, Some, None}
use Rattle.encoding.specs.declared.Operation.{Operation}
use Rattle.encoding.specs.declared.Command.{Command}
use Rattle.encoding.specs.declared.Fault.{Fault}
use Rattle.encoding.specs.Operations.{arguments, which}
use Rattle.encoding.specs.Batch.{command, last_argument, only_argument, two_arguments, arguments_at, meant_at, operation_at, command_at}
use Rattle.encoding.proofs.OperationNumbers.{which_number, operation_small}
use Rattle.numbers.proofs.Shortest.{number_place, number_short}
use Rattle.numbers.proofs.Faults.{bad_near, number_bad}

-- one argument or two
module _ (bytes : List ℕ) (op : Operation) (next : ℕ) where
  pub only : (a end : ℕ) → arguments op ≡ 1 → number bytes next ≡ Ok (a, end) → arguments_at bytes op next ≡ Ok (command op a 0, end)
  unfolding arguments_at only_argument
  only a end e r = rw (eq-eqb _ _ e, arguments_at, r)

  pub two : (a end : ℕ) → arguments op ≢ 1 → number bytes next ≡ Ok (a, end) → arguments_at bytes op next ≡ last_argument op a (number bytes end)
  unfolding arguments_at two_arguments
  two a end n r = rw (ne_eqb _ _ n, arguments_at, r)

  pub first_wrong : (f : Fault) → number bytes next ≡ Err f → arguments_at bytes op next ≡ Err f
  unfolding arguments_at only_argument two_arguments
  first_wrong f e = same_or_not (arguments op) 1 (λ o. rw (eq-eqb _ _ o, arguments_at, e)) (λ n. rw (ne_eqb _ _ n, arguments_at, e))

  pub both : (a mid b end : ℕ) → arguments op ≢ 1 → number bytes next ≡ Ok (a, mid) → number bytes mid ≡ Ok (b, end)
      → arguments_at bytes op next ≡ Ok (command op a b, end)
  unfolding last_argument
  both a mid b end n r s = two a mid n r ∙ rw s

  pub second_wrong : (a mid : ℕ) (f : Fault) → arguments op ≢ 1 → number bytes next ≡ Ok (a, mid) → number bytes mid ≡ Err f
      → arguments_at bytes op next ≡ Err f
  unfolding last_argument
  second_wrong a mid f n r s = two a mid n r ∙ rw s

-- a command whose operation was read
pub meant : (bytes : List ℕ) (i : ℕ) {n next : ℕ} {o : Operation} → number bytes i ≡ Ok (n, next) → which n ≡ Some o → command_at bytes i ≡ arguments_at bytes o next
unfolding command_at operation_at meant_at
meant bytes i e k = rw (e, k)

-- How `command_at` comes to its answer.
pub data Parsed (bytes : List ℕ) (i : ℕ) : Reading Command → Type 0 where
  wrong_operation : {f : Fault} → number bytes i ≡ Err f → Parsed bytes i (Err f)
  unknown : {n next : ℕ} → number bytes i ≡ Ok (n, next) → which n ≡ None → Parsed bytes i (Err (fault i))
  wrong_first : {n next : ℕ} {op : Operation} {f : Fault} → number bytes i ≡ Ok (n, next) → which n ≡ Some op → number bytes next ≡ Err f → Parsed bytes i (Err f)
  wrong_last : {n next a mid : ℕ} {op : Operation} {f : Fault} → number bytes i ≡ Ok (n, next) → which n ≡ Some op → arguments op ≢ 1
      → number bytes next ≡ Ok (a, mid) → number bytes mid ≡ Err f → Parsed bytes i (Err f)
  one_argument : {n next a end : ℕ} {op : Operation} → number bytes i ≡ Ok (n, next) → which n ≡ Some op → arguments op ≡ 1
      → number bytes next ≡ Ok (a, end) → Parsed bytes i (Ok (command op a 0, end))
  two_arguments_case : {n next a mid b end : ℕ} {op : Operation} → number bytes i ≡ Ok (n, next) → which n ≡ Some op → arguments op ≢ 1
      → number bytes next ≡ Ok (a, mid) → number bytes mid ≡ Ok (b, end) → Parsed bytes i (Ok (command op a b, end))

module _ (bytes : List ℕ) (i : ℕ) where
  last_parsed : {n next a mid : ℕ} {op : Operation} → number bytes i ≡ Ok (n, next) → which n ≡ Some op → arguments op ≢ 1
      → number bytes next ≡ Ok (a, mid) → (x : Reading ℕ) → number bytes mid ≡ x → Parsed bytes i (last_argument op a x)
  unfolding last_argument
  last_parsed o k h f (Ok (b, end)) e = two_arguments_case o k h f e
  last_parsed o k h f (Err g) e = wrong_last o k h f e

  first_parsed : {n next : ℕ} (op : Operation) → number bytes i ≡ Ok (n, next) → which n ≡ Some op → (x : Reading ℕ) → number bytes next ≡ x
      → Parsed bytes i (arguments_at bytes op next)
  first_parsed {next = next} op o k (Ok (a, mid)) e = same_or_not (arguments op) 1
      (λ h. rw (only bytes op next a mid h e) (one_argument o k h e))
      (λ h. rw (two bytes op next a mid h e) (last_parsed o k h e (number bytes mid) refl))
  first_parsed {next = next} op o k (Err f) e = rw (first_wrong bytes op next f e) (wrong_first o k e)

  meant_parsed : {n next : ℕ} → number bytes i ≡ Ok (n, next) → (w : Option Operation) → which n ≡ w → Parsed bytes i (meant_at bytes i next w)
  unfolding meant_at
  meant_parsed o None k = unknown o k
  meant_parsed {next = next} o (Some op) k = first_parsed op o k (number bytes next) refl

  begun_parsed : (x : Reading ℕ) → number bytes i ≡ x → Parsed bytes i (operation_at bytes i x)
  unfolding operation_at
  begun_parsed (Ok (n, next)) e = meant_parsed e (which n) refl
  begun_parsed (Err f) e = wrong_operation e

  pub parsed : Parsed bytes i (command_at bytes i)
  unfolding command_at
  parsed = begun_parsed (number bytes i) refl

-- The other way round, of good commands.
pub reads : (bytes : List ℕ) (i : ℕ) {c : Command} {end : ℕ} → Parsed bytes i (Ok (c, end)) → command_at bytes i ≡ Ok (c, end)
reads bytes i (one_argument {next = next} {a = a} {end = end} {op = o} e k h f) = meant bytes i e k ∙ only bytes o next a end h f
reads bytes i (two_arguments_case {next = next} {a = a} {mid = mid} {b = b} {end = end} {op = o} e k h f g) = meant bytes i e k ∙ both bytes o next a mid b end h f g

-- an operation's number is one byte long
operation_short : (bytes : List ℕ) (i n next : ℕ) {op : Operation} → number bytes i ≡ Ok (n, next) → which n ≡ Some op → next ≡ i + 1
operation_short bytes i n next {op} o k = number_short bytes i o (omega (arith, which_number n op k, operation_small op))

parsed_place : {bytes : List ℕ} {i : ℕ} {c : Command} {next : ℕ} → Parsed bytes i (Ok (c, next))
    → (i < next) × (next ≤ length bytes) × (next ≤ i + 11)
parsed_place {bytes} {i} (one_argument {n = n} {next = mid} o k a f) = omega (arith, operation_short bytes i n mid o k, number_place bytes mid f)
parsed_place {bytes} {i} (two_arguments_case {n = n} {next = first} {mid = mid} o k a f g) =
    omega (arith, operation_short bytes i n first o k, number_place bytes first f, number_place bytes mid g)

wrong_near : (bytes : List ℕ) (i : ℕ) {j : ℕ} → number bytes i ≡ Err (fault j) → (j ≤ length bytes) × (j ≤ i + 4)
wrong_near bytes i {j} e = bad_near bytes i ((number_bad bytes i j).0 e)

parsed_fault : {bytes : List ℕ} {i j : ℕ} → Parsed bytes i (Err (fault j)) → (j ≤ length bytes) × (j ≤ i + 10)
parsed_fault {bytes} {i} (wrong_operation e) = omega (arith, wrong_near bytes i e)
parsed_fault {bytes} {i} (unknown e k) = omega (arith, number_place bytes i e)
parsed_fault {bytes} {i} (wrong_first {n = n} {next = next} o k e) = omega (arith, operation_short bytes i n next o k, wrong_near bytes next e)
parsed_fault {bytes} {i} (wrong_last {n = n} {next = next} {mid = mid} o k a f e) =
    omega (arith, operation_short bytes i n next o k, number_place bytes next f, wrong_near bytes mid e)

module _ (bytes : List ℕ) (i : ℕ) where
  -- a command has at most 11 bytes: an operation of one byte and two numbers of five
  pub command_place : {c : Command} {next : ℕ} → command_at bytes i ≡ Ok (c, next) → (i < next) × (next ≤ length bytes) × (next ≤ i + 11)
  command_place e = parsed_place (rw e at (parsed bytes i))

  -- a command goes wrong within 11 bytes, and at the end of the input at the latest
  pub fault_place : {j : ℕ} → command_at bytes i ≡ Err (fault j) → (j ≤ length bytes) × (j ≤ i + 10)
  fault_place e = parsed_fault (rw e at (parsed bytes i))
