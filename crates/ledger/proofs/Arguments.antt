-- The tests of the arguments: what each says (`notice_good_is`, `arguments_good_is`, both ways), and what is left of them after each test of
-- the code. And their keys: those of different notices, residents and attempts are different (`key_once`), all are 32-bit numbers
-- (`key_small`), and a notice's marks are its 65,536 keys less those with attempt 0 (`mark_of`). Assumes nothing.
use mathlib.Core.Path.{◌≡◌, refl}
use mathlib.Core.Logic.{◌↔◌, ◌≢◌}
use mathlib.Core.Bool.{Bool, true, false, false≢true, ◌&&◌}
use lib.Dec.{leb}
use borrow.Author.Tests.{leb-true, le-leb, lt-leb}
use native.Mathlib.Omega.{arith}
use Prim.Native.Nat.{ℕ, ◌+◌, ◌*◌, ◌-◌, ◌/◌, ◌≤◌, ◌<◌}
use Rattle.set.specs.Operations.{key_end}
use Rattle.ledger.specs.Ledger.{most_notice, most_resident, most_attempts, notice_good, arguments_good, notice_keys, resident_keys, mark_key, attempt_of}
use Rattle.ledger.specs.Sends.{NoticeIn, ArgumentsIn, IsMark}

-- test by test
pub notice_low : (n : ℕ) → n < 1 → notice_good n ≡ false
unfolding notice_good
notice_low n h = rw (lt-leb 1 n h, notice_good)

pub notice_from_one : (n : ℕ) → 1 ≤ n → notice_good n ≡ leb n most_notice
unfolding notice_good
notice_from_one n h = rw (le-leb 1 n h, notice_good)

module _ (n r l : ℕ) where
  pub notice_refused : notice_good n ≡ false → arguments_good n r l ≡ false
  unfolding arguments_good
  notice_refused h = rw (h, arguments_good)

  pub resident_refused : notice_good n ≡ true → most_resident < r → arguments_good n r l ≡ false
  unfolding arguments_good
  resident_refused h i = rw (h, arguments_good, lt-leb r most_resident i)

  pub limit_refused : notice_good n ≡ true → r ≤ most_resident → l < 1 → arguments_good n r l ≡ false
  unfolding arguments_good
  limit_refused h i j = rw (h, arguments_good, le-leb r most_resident i, lt-leb 1 l j)

  pub limit_decides : notice_good n ≡ true → r ≤ most_resident → 1 ≤ l → arguments_good n r l ≡ leb l most_attempts
  unfolding arguments_good
  limit_decides h i j = rw (h, arguments_good, le-leb r most_resident i, le-leb 1 l j)

-- what both tests of an `and` say
pub both : (a b : Bool) → (a && b) ≡ true → (a ≡ true) × (b ≡ true)
both true b h = (refl, h)
both false b h = absurd (false≢true h)

pub notice_good_is : (n : ℕ) → (notice_good n ≡ true) ↔ NoticeIn n
unfolding notice_good
notice_good_is n = (
  λ h. let b = both _ _ h in record { from_one = leb-true 1 n b.0; to_last = leb-true n most_notice b.1 },
  λ i. rw (le-leb 1 n i.from_one, notice_good, le-leb n most_notice i.to_last),
)

pub arguments_good_is : (n r l : ℕ) → (arguments_good n r l ≡ true) ↔ ArgumentsIn n r l
unfolding arguments_good
arguments_good_is n r l = (
  λ h.
      let a = both _ _ h in
      let b = both _ _ a.0 in
      let c = both _ _ b.0 in
      record { notice_in = (notice_good_is n).0 c.0; resident_in = leb-true r most_resident c.1; some = leb-true 1 l b.1; few = leb-true l most_attempts a.1 },
  λ i. rw ((notice_good_is n).1 i.notice_in, arguments_good, le-leb r most_resident i.resident_in, le-leb 1 l i.some, le-leb l most_attempts i.few),
)

-- The keys. Two that are the same are of one notice, resident and attempt (attempt 0 with them).
pub key_once : (n r a m s b : ℕ) → r ≤ most_resident → a ≤ most_attempts → s ≤ most_resident → b ≤ most_attempts → mark_key n r a ≡ mark_key m s b
    → (n ≡ m) × (r ≡ s) × (a ≡ b)
unfolding mark_key
key_once n r a m s b i j k l e = (omega arith, omega arith, omega arith)

pub key_small : (n r a : ℕ) → n ≤ most_notice → r ≤ most_resident → a ≤ most_attempts → mark_key n r a < key_end
unfolding mark_key
key_small n r a i j k = omega arith

-- from the key of attempt 0 on
pub key_from : (n r a : ℕ) → mark_key n r 0 + a ≡ mark_key n r a
unfolding mark_key
key_from n r a = omega arith

-- A notice's marks: the 65,536 keys from its first on, but for those with attempt 0.
pub mark_of : (n x : ℕ) → IsMark n x ↔ ((mark_key n 0 0 ≤ x) × (x < mark_key n 0 0 + notice_keys) × (attempt_of x ≢ 0))
unfolding mark_key
mark_of n x = (
  λ m. (omega (arith, m.key_is, m.resident_in, m.to_last), omega (arith, m.key_is, m.resident_in, m.to_last), λ z. omega (arith, m.key_is, m.from_one, m.to_last)),
  λ h. record {
    resident = (x - n * notice_keys) / resident_keys;
    attempt = attempt_of x;
    resident_in = omega (arith, h.0, h.1);
    from_one = omega (arith, h.2);
    to_last = omega arith;
    key_is = omega (arith, h.0, h.1);
  },
)
