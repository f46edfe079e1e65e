-- The byte at which a batch goes wrong is exact (02 (ii)). With that byte, if there is one there, no good batch can go on, whatever follows
-- (`place_bad_after`); and what
-- stands before it begins a good batch (`place_good_before`), but for one case, which is apart (`long_apart`): an operation's number of several
-- bytes, which goes wrong at a byte of its own although no good batch can go on from its first one. There is one first such byte (`stops_once`).
-- Why: a command depends on no byte behind its last one (`command_local`), a number that goes wrong reads with a 01 in place of the byte at which
-- it does (crate numbers' Local.antt), arguments that are missing can be added, and no operation has a number above 127. Assumes nothing.
use mathlib.Core.Path.{◌≡◌, refl}
use mathlib.Core.Logic.{◌⊎◌, inl, inr}
use mathlib.Core.List.{List, [], ◌∷◌, ◌++◌, append_assoc}
use lib.ListN.{length, get_or, take, drop, length-append}
use lib.Seq.{length-take-le, get_or-append-add, take-add}
use Prim.Native.Nat.{ℕ, ◌+◌, ◌-◌, ◌≤◌, ◌<◌}
use native.Mathlib.Decide.{dec_lt}
use native.Mathlib.Omega.{arith}
use Rattle.tree.proofs.Tests.{same_or_not}
use Rattle.encoding.specs.Numbers.{Reading, number}
use Rattle.std.specs.Prelude.{Ok, Err}
use Rattle.encoding.specs.declared.Command.{Command}
use Rattle.encoding.specs.Operations.{operation_number, arguments}
use Rattle.encoding.specs.Batch.{most_commands, command_at, commands, bad_at, read_batch}
use Rattle.encoding.proofs.Readings.{one_read}
use Rattle.encoding.proofs.OperationNumbers.{which_known, operation_small}
use Rattle.numbers.specs.Faults.{BadNumber}
use Rattle.numbers.proofs.Shortest.{number_place}
use Rattle.numbers.proofs.Faults.{bad_near, number_bad}
use Rattle.numbers.proofs.Local.{Same, same_taken, number_local, number_byte, number_long, bad_after, bad_long, bad_stays, bad_mended}
use Rattle.commands.specs.Faults.{BadCommand, bad_operation, unknown, bad_first, bad_second}
use Rattle.commands.specs.Faults.{StandTo, none_stand, one_stands, bad_one, too_many, FirstBad}
use Rattle.commands.proofs.Commands.{Parsed, one_argument, two_arguments_case, parsed, reads, command_place}
use Rattle.commands.proofs.Running.{StandFrom, stand_none, stand_some, read_exactly}
use Rattle.commands.proofs.Faults.{bad_exactly}

-- The first m bytes begin a good batch.
abbrev pub Begins : List ℕ → ℕ → Type 0
Begins bytes m = (ys : List ℕ) × (cs : List Command) × (read_batch (take m bytes ++ ys) ≡ commands cs)

-- Byte j is the first at which no good batch can go on, or the end if there is none.
pub record Stops (bytes : List ℕ) (j : ℕ) : Type 0 where
  pub good_before : Begins bytes j
  pub bad_after : j < length bytes → Begins bytes (j + 1) → ⊥

-- Behind good commands an operation's number of several bytes goes wrong at byte j; no good batch can go on from the byte where it begins.
pub record LongOperation (bytes : List ℕ) (j : ℕ) : Type 0 where
  pub begins : ℕ
  pub good : List Command
  pub stand : StandTo bytes 0 good begins
  pub earlier : begins < j
  pub wrong : BadNumber bytes begins j
  pub stops : Stops bytes begins

parsed_local : {bytes other : List ℕ} {m i end : ℕ} {c : Command} → Same bytes other m → Parsed bytes i (Ok (c, end)) → end ≤ m
    → Parsed other i (Ok (c, end))
parsed_local {bytes} {i = i} s (one_argument {next = next} e k h f) l =
    one_argument (number_local bytes i s e (omega (arith, number_place bytes next f))) k h (number_local bytes next s f l)
parsed_local {bytes} {i = i} s (two_arguments_case {next = next} {mid = mid} e k h f g) l =
    let p = number_place bytes mid g in let q = number_place bytes next f in
    two_arguments_case (number_local bytes i s e (omega arith)) k h (number_local bytes next s f (omega arith)) (number_local bytes mid s g l)

command_local : {bytes other : List ℕ} {m : ℕ} (i : ℕ) {end : ℕ} {c : Command} → Same bytes other m → command_at bytes i ≡ Ok (c, end) → end ≤ m
    → command_at other i ≡ Ok (c, end)
command_local {bytes} {other} i s e l = reads other i (parsed_local s (rw e at (parsed bytes i)) l)

-- commands that stand one after the other
stand_place : {bytes : List ℕ} {i k : ℕ} {cs : List Command} → StandTo bytes i cs k → i ≤ k
stand_place none_stand = omega arith
stand_place {bytes} {i} (one_stands e r) = omega (arith, stand_place r, command_place bytes i e)

stand_local : {bytes other : List ℕ} {m i k : ℕ} {cs : List Command} → Same bytes other m → StandTo bytes i cs k → k ≤ m → StandTo other i cs k
stand_local s none_stand l = none_stand
stand_local {i = i} s (one_stands e r) l = one_stands (command_local i s e (omega (arith, stand_place r))) (stand_local s r l)

stand_more : {bytes : List ℕ} {i k end : ℕ} {c : Command} {cs : List Command} → StandTo bytes i cs k → command_at bytes k ≡ Ok (c, end)
    → StandTo bytes i (cs ++ (c ∷ [])) end
stand_more none_stand e = one_stands e none_stand
stand_more (one_stands f r) e = one_stands f (stand_more r e)

stand_end : {bytes : List ℕ} {i k : ℕ} {cs : List Command} → StandTo bytes i cs k → length bytes ≤ k → StandFrom bytes i cs
stand_end none_stand l = stand_none l
stand_end {bytes} {i} (one_stands e r) l = stand_some {i = i} (omega (arith, command_place bytes i e)) e (stand_end r l)

-- A command goes wrong at its first byte or behind it.
command_after : {bytes : List ℕ} {i j : ℕ} → BadCommand bytes i j → i < length bytes → i ≤ j
command_after {bytes} {i} (bad_operation b) l = bad_after bytes i b (omega arith)
command_after (unknown e h) l = omega arith
command_after {bytes} {i} (bad_first o {next} e b) l = let p = number_place bytes i e in omega (arith, bad_after bytes next b p.1)
command_after {bytes} {i} (bad_second o {next} {mid = mid} h e f b) l =
    let p = number_place bytes next f in omega (arith, number_place bytes i e, bad_after bytes mid b p.1)

-- A number of several bytes is no operation's.
long_bad : (bytes : List ℕ) (i : ℕ) → 128 ≤ get_or bytes i 0 → (j : ℕ) × BadCommand bytes i j
long_bad bytes i h = go (number bytes i) refl
  where
    go : (x : Reading ℕ) → number bytes i ≡ x → (j : ℕ) × BadCommand bytes i j
    go (Ok (v, next)) e = (i, unknown e (λ o z. omega (arith, number_long bytes i e h, operation_small o)))
    go (Err f) e = (f.place, bad_operation ((number_bad bytes i f.place).0 e))

-- Where a command goes wrong at byte j, one goes wrong in all bytes that are the same up to that one.
bad_local : {bytes other : List ℕ} {i j : ℕ} → Same bytes other (j + 1) → i < length bytes → BadCommand bytes i j → (k : ℕ) × BadCommand other i k
bad_local {bytes} {i = i} {j} s l (bad_operation b) = (j, bad_operation (bad_stays bytes i s b))
bad_local {bytes} {other} {i} {j} s l (unknown {n} {next} e h) = elim (dec_lt (get_or bytes i 0) 128) [
  | yes k ↦ let end : i + 1 ≡ next = (one_read (number_byte bytes i l k) e).1 in (i, unknown (number_local bytes i s e (omega arith)) h)
  | no k ↦ long_bad other i (omega (arith, s.same i (omega arith)))
]
bad_local {bytes} {i = i} {j} s l (bad_first o {next} e b) =
    let p = number_place bytes i e in let q = bad_after bytes next b p.1 in
    (j, bad_first o (number_local bytes i s e (omega arith)) (bad_stays bytes next s b))
bad_local {bytes} {i = i} {j} s l (bad_second o {next} {mid = mid} h e f b) =
    let p = number_place bytes next f in let q = bad_after bytes mid b p.1 in
    (j, bad_second o h (number_local bytes i s e (omega arith)) (number_local bytes next s f (omega arith)) (bad_stays bytes mid s b))

-- .. and so with batches.
carried : {bytes other : List ℕ} {m k : ℕ} {cs : List Command} → Same bytes other m → StandTo bytes 0 cs k → length cs < most_commands → k < m
    → (l : ℕ) × BadCommand other k l → (l : ℕ) × FirstBad other l
carried s r f h b = (b.0, bad_one (stand_local s r (omega arith)) f (omega (arith, s.in_other)) b.1)

batch_local : {bytes other : List ℕ} {j : ℕ} → Same bytes other (j + 1) → FirstBad bytes j → (l : ℕ) × FirstBad other l
batch_local s (bad_one r f h b) = carried s r f (omega (arith, command_after b h)) (bad_local s h b)
batch_local {j = j} s (too_many r f h) = (j, too_many (stand_local s r (omega arith)) f (omega (arith, s.in_other)))

-- What goes wrong in all bytes that are the same up to byte k begins no good batch.
refuses : (bytes : List ℕ) (k : ℕ) → ((other : List ℕ) → Same bytes other (k + 1) → (l : ℕ) × FirstBad other l) → k < length bytes
    → Begins bytes (k + 1) → ⊥
refuses bytes k bad h (ys, cs, e) =
    let b = bad (take (k + 1) bytes ++ ys) (same_taken bytes ys (k + 1) (omega arith)) in
    let r = (bad_exactly (take (k + 1) bytes ++ ys) b.0).1 b.1 in
    let z : ◌≡◌ {A = ℕ} 0 1 = cc in omega arith

pub place_bad_after : (bytes : List ℕ) {j : ℕ} → read_batch bytes ≡ bad_at j → j < length bytes → Begins bytes (j + 1) → ⊥
place_bad_after bytes {j} e = refuses bytes j (λ other s. batch_local s ((bad_exactly bytes j).0 e))

-- Good commands up to the end are a good batch, and so are those before a place ..
all_good : {bytes : List ℕ} {k : ℕ} {cs : List Command} → StandTo bytes 0 cs k → length cs ≤ most_commands → length bytes ≤ k
    → read_batch bytes ≡ commands cs
unfolding read_batch
all_good {bytes} {cs = cs} r f l = (read_exactly most_commands bytes 0 cs).1 (stand_end r l, f)

stood : {bytes : List ℕ} {k : ℕ} {cs : List Command} → StandTo bytes 0 cs k → length cs ≤ most_commands → k ≤ length bytes → Begins bytes k
stood {bytes} {k} {cs} r f h =
    let end = length-append (take k bytes) [] in let t = length-take-le k bytes h in
    ([], cs, all_good (stand_local (same_taken bytes [] k h) r (omega arith)) f (omega arith))

-- .. and with one more, which may have been mended
mended : {bytes : List ℕ} {k j end : ℕ} {c : Command} {cs : List Command} → StandTo bytes 0 cs k → length cs < most_commands → k ≤ j
    → j ≤ length bytes → (ys : List ℕ) → Parsed (take j bytes ++ ys) k (Ok (c, end)) → j + length ys ≤ end → Begins bytes j
mended {bytes} {k} {j} {c = c} {cs} r f h l ys p e =
    let size = length-append (take j bytes) ys in let t = length-take-le j bytes l in
    let more = stand_more (stand_local (same_taken bytes ys j l) r h) (reads (take j bytes ++ ys) k p) in
    (ys, cs ++ (c ∷ []), all_good more (omega (arith, length-append cs (c ∷ []))) (omega arith))

-- An operation's number of several bytes stops a good batch at its first byte.
long_stops : {bytes : List ℕ} {k : ℕ} {cs : List Command} → StandTo bytes 0 cs k → length cs < most_commands → k < length bytes
    → 128 ≤ get_or bytes k 0 → Stops bytes k
long_stops {bytes} {k} r f h b = record {
  good_before = stood r (omega arith) (omega arith);
  bad_after = refuses bytes k (λ other s. carried s r f (omega arith) (long_bad other k (omega (arith, s.same k (omega arith)))));
}

-- the argument 0 behind a 01
last_zero : (bytes : List ℕ) (j : ℕ) → j ≤ length bytes
    → let whole = take j bytes ++ (1 ∷ 0 ∷ []) in number whole (j + 1) ≡ Ok (get_or whole (j + 1) 0, j + 1 + 1)
last_zero bytes j l =
    let t = length-take-le j bytes l in let zero-there = rw t at (get_or-append-add (take j bytes) (1 ∷ 0 ∷ []) 1 0) in
    number_byte (take j bytes ++ (1 ∷ 0 ∷ [])) (j + 1) (omega (arith, length-append (take j bytes) (1 ∷ 0 ∷ []))) (omega arith)

-- What stands before the byte at which a command goes wrong begins a good batch, if it is not in a long operation's number.
before : {bytes : List ℕ} {k j : ℕ} {cs : List Command} → StandTo bytes 0 cs k → length cs < most_commands → k < length bytes → BadCommand bytes k j
    → Begins bytes j ⊎ LongOperation bytes j
before {bytes} {k} {cs = cs} r f h (bad_operation b) =
    let p = bad_long bytes k b h in
    inr (record { begins = k; good = cs; stand = r; earlier = p.1; wrong = b; stops = long_stops r f h p.0 })
before r f h (unknown e n) = inl (stood r (omega arith) (omega arith))
before {bytes} {k} {j} r f h (bad_first o {next} e b) =
    let p = number_place bytes k e in let q = bad_after bytes next b p.1 in let l = (bad_near bytes next b).0 in
    let known : (ys : List ℕ) → number (take j bytes ++ (1 ∷ ys)) k ≡ Ok (operation_number o, next) =
    λ ys. number_local bytes k (same_taken bytes (1 ∷ ys) j l) e q in
    let first = bad_mended bytes next b p.1 in let o' = which_known o in
    inl (same_or_not (arguments o) 1
    (λ n. mended r f (omega arith) l (1 ∷ []) (one_argument (known []) o' n (first []).1) (omega arith))
    (λ n.
    let zero-read = last_zero bytes j l in
    mended r f (omega arith) l (1 ∷ 0 ∷ []) (two_arguments_case (known (0 ∷ [])) o' n (first (0 ∷ [])).1 zero-read) (omega arith)))
before {bytes} {k} {j} r f h (bad_second o {next} {mid = mid} n e g b) =
    let i = number_place bytes k e in let p = number_place bytes next g in let q = bad_after bytes mid b p.1 in let l = (bad_near bytes mid b).0 in
    let s = same_taken bytes (1 ∷ []) j l in
    let known = number_local bytes k s e (omega arith) in let first = number_local bytes next s g q in
    let last = (bad_mended bytes mid b p.1 []).1 in
    inl (mended r f (omega arith) l (1 ∷ []) (two_arguments_case known (which_known o) n first last) (omega arith))

module _ (bytes : List ℕ) {j : ℕ} (bad : read_batch bytes ≡ bad_at j) where
  pub place_good_before : Begins bytes j ⊎ LongOperation bytes j
  place_good_before = go ((bad_exactly bytes j).0 bad)
    where
      go : FirstBad bytes j → Begins bytes j ⊎ LongOperation bytes j
      go (bad_one r f h b) = before r f h b
      go (too_many r f h) = inl (stood r (omega arith) (omega arith))

  pub place_exact : Stops bytes j ⊎ LongOperation bytes j
  place_exact = go place_good_before
    where
      go : Begins bytes j ⊎ LongOperation bytes j → Stops bytes j ⊎ LongOperation bytes j
      go (inl b) = inl (record { good_before = b; bad_after = place_bad_after bytes bad })
      go (inr b) = inr b

-- What begins so, begins with less. So there is one first byte at which no good batch can go on ..
begins_less : (bytes : List ℕ) (m n : ℕ) → m ≤ n → Begins bytes n → Begins bytes m
begins_less bytes m n h (ys, cs, e) =
    let k : m + (n - m) ≡ n = omega arith in
    let cut = rw k at (take-add m (n - m) bytes) in
    (take (n - m) (drop m bytes) ++ ys, cs, rw (cut, append_assoc) at e)

none_later : {bytes : List ℕ} {j k : ℕ} → k ≤ length bytes → Stops bytes j → Stops bytes k → j < k → ⊥
none_later {bytes} {j} {k} l s t h = s.bad_after (omega arith) (begins_less bytes (j + 1) k (omega arith) t.good_before)

pub stops_once : {bytes : List ℕ} {j k : ℕ} → j ≤ length bytes → k ≤ length bytes → Stops bytes j → Stops bytes k → j ≡ k
stops_once {j = j} {k} h l s t = elim (dec_lt j k) [
  | yes a ↦ absurd (none_later l s t a)
  | no a ↦ elim (dec_lt k j) [ yes b ↦ absurd (none_later h t s b) | no b ↦ omega arith ]
]

-- .. and before the byte at which an operation's number of several bytes goes wrong, none can any more.
pub long_apart : (bytes : List ℕ) {j : ℕ} → LongOperation bytes j → Begins bytes j → ⊥
long_apart bytes {j} o b =
    let k = o.begins in let l = (bad_near bytes k o.wrong).0 in let e = o.earlier in
    o.stops.bad_after (omega arith) (begins_less bytes (k + 1) j (omega arith) b)
