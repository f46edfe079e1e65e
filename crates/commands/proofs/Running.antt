-- What a second reading may rely on, which runs a good batch's commands one by one: the commands that were read stand one after the
-- other in the bytes. And how long a good batch is, and at which byte a bad one can go wrong. Assumes nothing.
use mathlib.Core.Path.{◌≡◌, refl, sym, ap, ◌∙◌}
use mathlib.Core.List.{List, [], ◌∷◌, ◌++◌, append_assoc, append-nil}
use mathlib.Core.Logic.{◌↔◌}
use Prim.Native.Nat.{ℕ, ◌+◌, ◌*◌, ◌-◌, ◌≤◌, ◌<◌}
use native.Mathlib.Omega.{arith}
use lib.ListN.{length, length-append}
use Rattle.encoding.specs.declared.Command.{Command}
use Rattle.encoding.specs.declared.Fault.{Fault}
use Rattle.std.specs.Prelude.{Ok, Err}
use Rattle.encoding.specs.Batch.{most_commands, command_at, Batch, commands, bad_at, after, read_from, read_batch}
use Rattle.commands.specs.Scanned.{scanned}
use Rattle.tree.specs.State.{key_end}
use Rattle.encoding.specs.Numbers.{fault, Bytes}
use Rattle.encoding.proofs.Performs.{AllSmall}
use Rattle.encoding.proofs.Readings.{one_read, not_wrong}
use Rattle.numbers.proofs.Shortest.{number_value}
use Rattle.commands.proofs.Commands.{Parsed, one_argument, two_arguments_case, parsed, command_place, fault_place}
use Rattle.commands.proofs.Reading.{Taken, taken, taken_end, taken_over, taken_fault, taken_good, taken_bad, read_end, read_good}

-- the commands cs stand in the bytes from place i to the end
pub data StandFrom (bytes : List ℕ) : ℕ → List Command → Type 0 where
  stand_none : {i : ℕ} → length bytes ≤ i → StandFrom bytes i []
  stand_some : {i next : ℕ} {c : Command} {cs : List Command} → i < length bytes → command_at bytes i ≡ Ok (c, next) → StandFrom bytes next cs
      → StandFrom bytes i (c ∷ cs)

taken_stand : {bytes : List ℕ} {n i : ℕ} {cs : List Command} → Taken bytes n i (commands cs) → StandFrom bytes i cs × (length cs ≤ n)
taken_stand (taken_end h) = (stand_none h, omega arith)
taken_stand (taken_good h e t) = (stand_some h e (taken_stand t).0, omega (arith, (taken_stand t).1))

stand_read : {bytes : List ℕ} {i : ℕ} {cs : List Command} (n : ℕ) → StandFrom bytes i cs → length cs ≤ n → read_from n bytes i ≡ commands cs
unfolding after
stand_read {bytes} {i} n (stand_none h) k = read_end bytes n i h
stand_read {bytes} {i} n (stand_some {next = next} {c = c} h e s) k =
    read_good bytes n i c next h (λ z. omega arith) e ∙ rw (stand_read (n - 1) s (omega arith))

-- A batch is good exactly where commands stand in it from its first byte to its end, "at most 256 commands".
pub read_exactly : (n : ℕ) (bytes : List ℕ) (i : ℕ) (cs : List Command)
    → (read_from n bytes i ≡ commands cs) ↔ (StandFrom bytes i cs × (length cs ≤ n))
read_exactly n bytes i cs = (λ e. taken_stand (rw e at (taken bytes n i)), λ s. stand_read n s.0 s.1)

-- The loop at place `at` of a good batch with the commands cs: it has run `done`, and `rest` stand from here on.
pub record Running (bytes : List ℕ) (cs done rest : List Command) (at : ℕ) : Type 0 where
  pub all : cs ≡ done ++ rest
  pub ahead : StandFrom bytes at rest

pub running_starts : {bytes : List ℕ} {cs : List Command} → read_batch bytes ≡ commands cs → Running bytes cs [] cs 0
unfolding read_batch
running_starts {bytes} {cs} e = record { all = refl; ahead = ((read_exactly most_commands bytes 0 cs).0 e).0 }

good_next : {bytes : List ℕ} {i next : ℕ} {c : Command} {cs : List Command} → StandFrom bytes i cs → i < length bytes
    → command_at bytes i ≡ Ok (c, next) → (rest : List Command) × (cs ≡ c ∷ rest) × StandFrom bytes next rest
good_next (stand_none h) k e = absurd (omega arith)
good_next (stand_some {cs = cs} h g s) k e =
    let same = one_read g e in (cs, ap (λ (d : Command). d ∷ cs) same.0, rw same.1 at s)

no_fault : {bytes : List ℕ} {i j : ℕ} {cs : List Command} → StandFrom bytes i cs → i < length bytes → command_at bytes i ≡ Err (fault j) → ⊥
no_fault (stand_none h) k e = omega arith
no_fault (stand_some h g s) k e = not_wrong g e

ends : {bytes : List ℕ} {i : ℕ} {cs : List Command} → StandFrom bytes i cs → length bytes ≤ i → cs ≡ []
ends (stand_none h) k = refl
ends (stand_some h g s) k = absurd (omega arith)

left : {bytes : List ℕ} {i : ℕ} {cs : List Command} → StandFrom bytes i cs → i < length bytes → 0 < length cs
left (stand_none h) k = absurd (omega arith)
left (stand_some h g s) k = omega arith

goes_on : {bytes : List ℕ} {i : ℕ} {cs : List Command} → StandFrom bytes i cs → 0 < length cs → i < length bytes
goes_on (stand_none h) k = absurd (omega arith)
goes_on (stand_some h g s) k = h

module _ {bytes : List ℕ} {cs done rest : List Command} {at : ℕ} (w : Running bytes cs done rest at) where
  -- the command that is read here is the first of the rest, and the loop goes on behind it
  pub running_good : {c : Command} {next : ℕ} → at < length bytes → command_at bytes at ≡ Ok (c, next)
      → (more : List Command) × (rest ≡ c ∷ more) × Running bytes cs (done ++ (c ∷ [])) more next
  running_good {c} {next} h e =
      let g = good_next w.ahead h e in
      let all = w.all ∙ ap (λ (l : List Command). done ++ l) g.1 ∙ sym (append_assoc done (c ∷ []) g.0) in
      (g.0, g.1, record { all = all; ahead = g.2 })

  pub running_fault : {j : ℕ} → at < length bytes → command_at bytes at ≡ Err (fault j) → ⊥
  running_fault h e = no_fault w.ahead h e

  pub running_ends : length bytes ≤ at → (rest ≡ []) × (cs ≡ done)
  running_ends h = let e = ends w.ahead h in (e, w.all ∙ ap (λ (l : List Command). done ++ l) e ∙ append-nil done)

  counts : length cs ≡ length done + length rest
  counts = ap length w.all ∙ length-append done rest

  -- bytes are left exactly while commands are left
  pub running_more : (at < length bytes) ↔ (length done < length cs)
  running_more = (λ h. omega (arith, counts, left w.ahead h), λ h. goes_on w.ahead (omega (arith, counts)))

-- "a good batch has at most 2,816" bytes: 256 commands of 11. A batch goes wrong no later, and at its end at the latest.
stand_size : {bytes : List ℕ} {i : ℕ} {cs : List Command} → StandFrom bytes i cs → length bytes ≤ i + 11 * length cs
stand_size (stand_none h) = omega arith
stand_size {bytes} {i} (stand_some h e s) = omega (arith, stand_size s, command_place bytes i e)

bad_place_lem : {bytes : List ℕ} {n i j : ℕ} → Taken bytes n i (bad_at j) → (j ≤ length bytes) × (j ≤ i + 11 * n)
bad_place_lem (taken_over h) = omega arith
bad_place_lem {bytes} {i = i} (taken_fault h e) = omega (arith, fault_place bytes i e)
bad_place_lem {bytes} {i = i} (taken_bad h e t) = omega (arith, bad_place_lem t, command_place bytes i e)

pub batch_size : (bytes : List ℕ) {cs : List Command} → read_batch bytes ≡ commands cs
    → (length cs ≤ most_commands) × (length bytes ≤ 2816)
unfolding read_batch
batch_size bytes {cs} e = let s = (read_exactly most_commands bytes 0 cs).0 e in omega (arith, s.1, stand_size s.0)

pub batch_bad : (bytes : List ℕ) {j : ℕ} → read_batch bytes ≡ bad_at j → (j ≤ length bytes) × (j ≤ 2816)
unfolding read_batch
batch_bad bytes e = bad_place_lem (rw e at (taken bytes most_commands 0))

-- what was found says what was read
pub scanned_commands : {k : ℕ} (b : Batch) → scanned b ≡ Ok k → (cs : List Command) × (b ≡ commands cs) × (length cs ≡ k)
unfolding scanned
scanned_commands (commands cs) e = (cs, refl, cc)
scanned_commands (bad_at i) e = absurd (let z : ◌≡◌ {A = ℕ} 0 1 = cc in omega arith)

pub scanned_bad : {i : ℕ} (b : Batch) → scanned b ≡ Err (fault i) → b ≡ bad_at i
unfolding scanned
scanned_bad (commands cs) e = absurd (let z : ◌≡◌ {A = ℕ} 0 1 = cc in omega arith)
scanned_bad {i} (bad_at j) e = let same : fault j ≡ fault i = cc in ap (λ (f : Fault). bad_at f.place) same

-- Arguments read from bytes are "at most 4,294,967,295".
parsed_small : {bytes : List ℕ} {i : ℕ} {c : Command} {next : ℕ} → Bytes bytes → Parsed bytes i (Ok (c, next)) → c.first < key_end
parsed_small {bytes} b (one_argument {next = mid} o k a f) = omega (arith, number_value bytes mid b f)
parsed_small {bytes} b (two_arguments_case {next = mid} o k a f g) = omega (arith, number_value bytes mid b f)

stand_small : {bytes : List ℕ} {i : ℕ} {cs : List Command} → Bytes bytes → StandFrom bytes i cs → AllSmall cs
unfolding AllSmall
stand_small b (stand_none h) = tt
stand_small {bytes} {i} b (stand_some h e s) = (parsed_small b (rw e at (parsed bytes i)), stand_small b s)

pub read_small : (bytes : List ℕ) {cs : List Command} → Bytes bytes → read_batch bytes ≡ commands cs → AllSmall cs
unfolding read_batch
read_small bytes {cs} b e = stand_small b ((read_exactly most_commands bytes 0 cs).0 e).0
