-- A batch is good exactly when its bytes are those of its commands, at most 256 of them (`read_written`): one form, and no other. So the
-- commands of a good batch can be taken out or put together, and the bytes of the result are a good batch again (`written_read`).
-- By "only the shortest form" of numbers (crate numbers' `number_reads`, `number_shortest`), command by command. Assumes nothing.
use mathlib.Core.Path.{◌≡◌, refl, ap, sym, ◌∙◌}
use mathlib.Core.Logic.{◌↔◌, ◌≢◌}
use mathlib.Core.Bool.{Bool, true, false}
use mathlib.Core.List.{List, [], ◌∷◌, ◌++◌, append_assoc, append-nil}
use lib.Dec.{eqb}
use lib.ListN.{length, drop, length-append, take-append-drop, drop_of_length-le}
use lib.Seq.{drop-drop}
use borrow.Author.Tests.{eq-eqb, ne_eqb}
use Prim.Native.Nat.{ℕ, zero, suc, ◌+◌, ◌-◌, ◌≤◌, ◌<◌}
use native.Mathlib.Omega.{arith}
use Rattle.tree.specs.State.{key_end}
use Rattle.tree.proofs.Tests.{same_or_not}
use Rattle.std.specs.Prelude.{Ok}
use Rattle.encoding.specs.declared.Operation.{Operation}
use Rattle.encoding.specs.declared.Command.{Command}
use Rattle.encoding.specs.Numbers.{Bytes, number}
use Rattle.encoding.specs.Operations.{operation_number, arguments}
use Rattle.encoding.specs.Batch.{most_commands, command, last_argument, arguments_at, command_at, commands, read_batch}
use Rattle.encoding.proofs.OperationNumbers.{which_known, which_number, operation_small}
use Rattle.numbers.specs.Shortest.{bytes_of}
use Rattle.numbers.proofs.Took.{shortest_some, shortest_bytes}
use Rattle.numbers.proofs.Shortest.{number_place, number_value, number_shortest, number_reads}
use Rattle.commands.specs.Written.{second_bytes, command_bytes, batch_bytes, Fits, AllFit}
use Rattle.commands.proofs.Commands.{Parsed, one_argument, two_arguments_case, only, two, meant, parsed, command_place}
use Rattle.commands.proofs.Running.{StandFrom, stand_none, stand_some, read_exactly}

-- What is written is read.
module _ (xs ys : List ℕ) where
  -- a number, with its place given by an equation
  number_at : (i v : ℕ) → i ≡ length xs → v < key_end → number (xs ++ (bytes_of v ++ ys)) i ≡ Ok (v, i + length (bytes_of v))
  number_at i v e h = rw (e, ← append_assoc) (number_reads xs ys v h)

bytes_some : (v : ℕ) → 0 < length (bytes_of v)
unfolding bytes_of
bytes_some v = shortest_some 4 v

module _ (xs ys : List ℕ) (o : Operation) (a b : ℕ) (ha : a < key_end) (hb : b < key_end) where
  abbrev ob : List ℕ
  ob = bytes_of (operation_number o)

  abbrev ab : List ℕ
  ab = bytes_of a

  abbrev whole : List ℕ → List ℕ
  whole rest = xs ++ (ob ++ (ab ++ rest))

  read_operation : (rest : List ℕ) → number (whole rest) (length xs) ≡ Ok (operation_number o, length xs + length ob)
  read_operation rest = number_at xs (ab ++ rest) (length xs) (operation_number o) refl (omega (arith, operation_small o))

  read_first : (rest : List ℕ) → number (whole rest) (length xs + length ob) ≡ Ok (a, length xs + length ob + length ab)
  read_first rest = rw (← append_assoc xs ob (ab ++ rest)) (number_at (xs ++ ob) rest (length xs + length ob) a (sym (length-append xs ob)) ha)

  read_meant : (rest : List ℕ) → command_at (whole rest) (length xs) ≡ arguments_at (whole rest) o (length xs + length ob)
  read_meant rest = meant (whole rest) (length xs) (read_operation rest) (which_known o)

  pub one_read : arguments o ≡ 1 → command_at (whole ys) (length xs) ≡ Ok (command o a 0, length xs + length ob + length ab)
  one_read e = read_meant ys ∙ only (whole ys) o (length xs + length ob) a _ e (read_first ys)

  pub two_read : arguments o ≢ 1
      → command_at (whole (bytes_of b ++ ys)) (length xs) ≡ Ok (command o a b, length xs + length ob + length ab + length (bytes_of b))
  unfolding last_argument
  two_read n =
      let rest = bytes_of b ++ ys in
      let place : length (xs ++ (ob ++ ab)) ≡ length xs + length ob + length ab = length-append xs (ob ++ ab) ∙ omega (arith, length-append ob ab) in
      let form : (xs ++ (ob ++ ab)) ++ rest ≡ whole rest = append_assoc xs (ob ++ ab) rest ∙ ap (λ (l : List ℕ). xs ++ l) (append_assoc ob ab rest) in
      let last : number (whole rest) (length xs + length ob + length ab) ≡ Ok (b, length xs + length ob + length ab + length (bytes_of b)) =
      rw (← form) (number_at (xs ++ (ob ++ ab)) ys _ b (sym place) hb) in
      read_meant rest ∙ two (whole rest) o (length xs + length ob) a _ n (read_first rest) ∙ rw last

command_written : (xs ys : List ℕ) (c : Command) → Fits c → command_at (xs ++ (command_bytes c ++ ys)) (length xs) ≡ Ok (c, length xs + length (command_bytes c))
unfolding command_bytes second_bytes
command_written xs ys c f =
    let o = c.operation in let a = c.first in let b = c.second in
    let ob = bytes_of (operation_number o) in let ab = bytes_of a in
    same_or_not (arguments o) 1
    (λ e.
    let none : second_bytes o b ≡ [] = rw (eq-eqb _ _ e, second_bytes) in
    let form : command_bytes c ≡ ob ++ ab = rw none (ap (λ (l : List ℕ). ob ++ l) (append-nil ab)) in
    let same : command o a 0 ≡ c = ap (command o a) (sym (f.second_none e)) in
    let place : length xs + length (command_bytes c) ≡ length xs + length ob + length ab = omega (arith, ap length form, length-append ob ab) in
    rw (place, form, append_assoc ob ab ys) (one_read xs ys o a b f.first_small f.second_small e ∙ ap (λ (d : Command). Ok (d, length xs + length ob + length ab)) same))
    (λ n.
    let some : second_bytes o b ≡ bytes_of b = rw (ne_eqb _ _ n, second_bytes) in
    let form : command_bytes c ≡ ob ++ (ab ++ bytes_of b) = rw some refl in
    let place : length xs + length (command_bytes c) ≡ length xs + length ob + length ab + length (bytes_of b) =
    omega (arith, ap length form, length-append ob (ab ++ bytes_of b), length-append ab (bytes_of b)) in
    rw (place, form, append_assoc ob (ab ++ bytes_of b) ys, append_assoc ab (bytes_of b) ys) (two_read xs ys o a b f.first_small f.second_small n))

stands_written : (xs : List ℕ) (cs : List Command) → AllFit cs → StandFrom (xs ++ batch_bytes cs) (length xs) cs
unfolding batch_bytes AllFit
stands_written xs [] f = stand_none {i = length xs} (omega (arith, length-append xs []))
stands_written xs (c ∷ cs) f =
    let r = command_written xs (batch_bytes cs) c f.0 in
    let p = command_place (xs ++ (command_bytes c ++ batch_bytes cs)) (length xs) r in
    let on : StandFrom (xs ++ (command_bytes c ++ batch_bytes cs)) (length xs + length (command_bytes c)) cs =
    rw (append_assoc, length-append) at (stands_written (xs ++ command_bytes c) cs f.1) in
    stand_some {i = length xs} (omega arith) r on

pub written_read : (cs : List Command) → AllFit cs → length cs ≤ most_commands → read_batch (batch_bytes cs) ≡ commands cs
unfolding read_batch
written_read cs f h = (read_exactly most_commands (batch_bytes cs) 0 cs).1 (stands_written [] cs f, h)

pub one_command : (c : Command) → Fits c → read_batch (command_bytes c) ≡ commands (c ∷ [])
unfolding batch_bytes AllFit
one_command c f = rw (← append-nil (command_bytes c)) (written_read (c ∷ []) (f, tt) (omega arith))

-- What is read was written.
module _ (bytes : List ℕ) (b : Bytes bytes) where
  number_drop : (at : ℕ) {v next : ℕ} → number bytes at ≡ Ok (v, next) → drop at bytes ≡ bytes_of v ++ drop next bytes
  number_drop at {v} {next} e =
      let p = number_place bytes at e in
      let n : at + (next - at) ≡ next = omega arith in
      let d : drop (next - at) (drop at bytes) ≡ drop next bytes = drop-drop (next - at) at bytes ∙ ap (λ (k : ℕ). drop k bytes) n in
      sym (take-append-drop (next - at) (drop at bytes)) ∙ rw (number_shortest bytes at b e, d)

  pub record Parts (i : ℕ) (c : Command) (next : ℕ) : Type 0 where
    pub fits : Fits c
    pub parts : drop i bytes ≡ command_bytes c ++ drop next bytes

  parsed_parts : {i next : ℕ} {c : Command} → Parsed bytes i (Ok (c, next)) → Parts i c next
  unfolding command_bytes second_bytes
  parsed_parts {i} {next} (one_argument {n = n} {next = mid} {op = o} e k h f) =
      let none : second_bytes o 0 ≡ [] = rw (eq-eqb _ _ h, second_bytes) in record {
        fits = record { first_small = omega (arith, number_value bytes mid b f); second_small = omega arith; second_none = λ z. refl };
        parts = number_drop i (rw (which_number n o k) at e) ∙ rw (number_drop mid f, none, append-nil, append_assoc);
      }
  parsed_parts {i} {next} (two_arguments_case {n = n} {next = mid} {mid = last} {b = z} {op = o} e k h f g) =
      let some : second_bytes o z ≡ bytes_of z = rw (ne_eqb _ _ h, second_bytes) in record {
        fits = record {
          first_small = omega (arith, number_value bytes mid b f);
          second_small = omega (arith, number_value bytes last b g);
          second_none = λ y. absurd (h y);
        };
        parts = number_drop i (rw (which_number n o k) at e) ∙ rw (number_drop mid f, number_drop last g, some, append_assoc, append_assoc);
      }

  stand_parts : {i : ℕ} {cs : List Command} → StandFrom bytes i cs → AllFit cs × (drop i bytes ≡ batch_bytes cs)
  unfolding batch_bytes AllFit
  stand_parts (stand_none h) = (tt, drop_of_length-le bytes h)
  stand_parts {i} (stand_some e f s) =
      let p = parsed_parts (rw f at (parsed bytes i)) in let r = stand_parts s in ((p.fits, r.0), rw (← r.1) p.parts)

  pub read_written : (cs : List Command) → (read_batch bytes ≡ commands cs) ↔ ((bytes ≡ batch_bytes cs) × AllFit cs × (length cs ≤ most_commands))
  unfolding read_batch
  read_written cs = (
    λ e. let s = (read_exactly most_commands bytes 0 cs).0 e in let p = stand_parts s.0 in (p.1, p.0, s.1),
    λ w. rw w.0 (written_read cs w.1 w.2),
  )

-- One command taken out.
bytes_append : (xs ys : List Command) → batch_bytes (xs ++ ys) ≡ batch_bytes xs ++ batch_bytes ys
unfolding batch_bytes
bytes_append [] ys = refl
bytes_append (c ∷ xs) ys = ap (λ (l : List ℕ). command_bytes c ++ l) (bytes_append xs ys) ∙ sym (append_assoc (command_bytes c) (batch_bytes xs) (batch_bytes ys))

fit_without : (xs : List Command) (c : Command) (ys : List Command) → AllFit (xs ++ (c ∷ ys)) → AllFit (xs ++ ys)
unfolding AllFit
fit_without [] c ys f = f.1
fit_without (d ∷ xs) c ys f = (f.0, fit_without xs c ys f.1)

-- The first commands alone.
fit_front : (xs ys : List Command) → AllFit (xs ++ ys) → AllFit xs
unfolding AllFit
fit_front [] ys f = tt
fit_front (c ∷ xs) ys f = (f.0, fit_front xs ys f.1)

pub front_read : (bytes : List ℕ) → Bytes bytes → (xs ys : List Command) → read_batch bytes ≡ commands (xs ++ ys) → read_batch (batch_bytes xs) ≡ commands xs
front_read bytes b xs ys read =
    let w = (read_written bytes b (xs ++ ys)).0 read in written_read xs (fit_front xs ys w.1) (omega (arith, w.2, length-append xs ys))

pub struck_out : (bytes : List ℕ) → Bytes bytes → (xs : List Command) (c : Command) (ys : List Command) → read_batch bytes ≡ commands (xs ++ (c ∷ ys))
    → (bytes ≡ batch_bytes xs ++ (command_bytes c ++ batch_bytes ys)) × (read_batch (batch_bytes xs ++ batch_bytes ys) ≡ commands (xs ++ ys))
unfolding batch_bytes
struck_out bytes b xs c ys read =
    let w = (read_written bytes b (xs ++ (c ∷ ys))).0 read in
    let fewer : length (xs ++ ys) ≤ most_commands = omega (arith, w.2, length-append xs (c ∷ ys), length-append xs ys) in
    (w.0 ∙ bytes_append xs (c ∷ ys), rw (← bytes_append xs ys) (written_read (xs ++ ys) (fit_without xs c ys w.1) fewer))

-- They are bytes.
small_append : (xs ys : List ℕ) → Bytes xs → Bytes ys → Bytes (xs ++ ys)
small_append [] ys f g i = g i
small_append (x ∷ xs) ys f g zero = f 0
small_append (x ∷ xs) ys f g (suc i) = small_append xs ys (λ j. f (suc j)) g i

pub number_bytes : (v : ℕ) → v < key_end → Bytes (bytes_of v)
unfolding bytes_of
number_bytes v h = shortest_bytes 4 v h

pub command_bytes_lem : (c : Command) → Fits c → Bytes (command_bytes c)
unfolding command_bytes second_bytes
command_bytes_lem c f =
    let o = c.operation in
    small_append (bytes_of (operation_number o)) (bytes_of c.first ++ second_bytes o c.second) (number_bytes (operation_number o) (omega (arith, operation_small o)))
    (small_append (bytes_of c.first) (second_bytes o c.second) (number_bytes c.first f.first_small) (last (eqb (arguments o) 1)))
  where
    last : (x : Bool) → Bytes (elim x [ true ↦ [] | false ↦ bytes_of c.second ])
    last true i = omega arith
    last false i = number_bytes c.second f.second_small i
