-- 02 (iv), the send limit (RULES 17): what the two calls answer and leave, for any words and arguments. It says so by the set's operations and
-- by what the set promises of them, and by nothing behind these.
use Rattle.std.specs.Prelude.{Bool, true, false, not, ◌&&◌, List, eqb, leb, ℕ, zero, suc, ◌+◌, ◌*◌, ◌%◌}
use Rattle.tree.specs.declared.Answer.{Answer}
use Rattle.tree.specs.declared.Answer.TheVariants.{Done, Refused}
use Rattle.tree.specs.declared.Refusal.TheVariants.{NoRoom, OutOfRange, AllUsed}
use Rattle.set.specs.Operations.{code_of, Call, gives, audit_answer, insert_words, delete_words}
use Rattle.set.specs.Set.{member, room, needed}

-- RULES 17.1: "A notice number from 1 to 65,535 and a resident number from 0 to 8,191 are given, with a limit from 1 to 7."
abbrev pub most_notice : ℕ
most_notice = 65535

abbrev pub most_resident : ℕ
most_resident = 8191

abbrev pub most_attempts : ℕ
most_attempts = 7

unfoldable pub notice_good : ℕ → Bool
notice_good n = leb 1 n && leb n most_notice

unfoldable pub arguments_good : (notice resident limit : ℕ) → Bool
arguments_good n r l = notice_good n && leb r most_resident && leb 1 l && leb l most_attempts

-- RULES 17.2: "The key is notice times 65,536 plus resident times 8 plus the attempt, 1 to 7." A notice has 65,536 keys, a resident of it 8,
-- of which the first, with attempt 0, is no mark.
abbrev pub notice_keys : ℕ
notice_keys = 65536

abbrev pub resident_keys : ℕ
resident_keys = 8

unfoldable pub mark_key : (notice resident attempt : ℕ) → ℕ
mark_key n r a = n * notice_keys + r * resident_keys + a

-- a call that is refused leaves all as it was, and another goes on
unfoldable pub unless : Answer → List ℕ → Call → Call
unless a p next = elim (eqb (code_of a) 0) [ true ↦ next | false ↦ gives a p ]

-- RULES 17.4 and 17.5, the refusals in their order: "15 for an argument outside its range, before 1 and 2", which are the audit's own; then what
-- the call does.
unfoldable pub range_answer : Bool → Answer
range_answer true = Done 0
range_answer false = Refused OutOfRange

unfoldable pub judged : Bool → List ℕ → Call → Call
judged good p next = unless (range_answer good) p (unless (audit_answer p) p next)

-- RULES 17.3: "the lowest unmarked attempt", from attempt a on, of so many; 0 if all of them are marked. The key of attempt 0 is given.
unfoldable pub lowest_from : (left a first : ℕ) → List ℕ → ℕ
lowest_from zero a first p = 0
lowest_from (suc left) a first p = elim (eqb (member (first + a) p) 0) [ true ↦ a | false ↦ lowest_from left (suc a) first p ]

-- RULES 17.4: "16 when all attempts are marked, then 7 for no room"; else "yes", and the attempt "is marked in the same call before the
-- answer is yes".
unfoldable pub used_answer : ℕ → Answer
used_answer a = elim (eqb a 0) [ true ↦ Refused AllUsed | false ↦ Done 0 ]

unfoldable pub room_answer : List ℕ → Answer
room_answer p = elim (leb (needed p) (room p)) [ true ↦ Done 0 | false ↦ Refused NoRoom ]

unfoldable pub marked : List ℕ → (first attempt : ℕ) → Call
marked p first a = unless (used_answer a) p (unless (room_answer p) p (gives (Done a) (insert_words p (first + a))))

-- in a pool that passes the audit, from the key of attempt 0 on
unfoldable pub asked : List ℕ → (first limit : ℕ) → Call
asked p first l = marked p first (lowest_from l 1 first p)

-- RULES 17.4: "May send".
unfoldable pub may_send : List ℕ → (notice resident limit : ℕ) → Call
may_send p n r l = judged (arguments_good n r l) p (asked p (mark_key n r 0) l)

-- RULES 17.5: "Clearing a notice deletes its marks (attempts 1 to 7), smallest first". How many went, and the words that are left.
pub record Cleared : Type 0 where
  pub count : ℕ
  pub words : List ℕ

abbrev pub cleared : ℕ → List ℕ → Cleared
cleared n p = record { count = n; words = p }

-- the attempt of a key
abbrev pub attempt_of : ℕ → ℕ
attempt_of x = x % resident_keys

-- one key: a mark in the set is deleted
unfoldable pub cleared_at : ℕ → List ℕ → Cleared
cleared_at x p = elim (not (eqb (attempt_of x) 0) && eqb (member x p) 1) [ true ↦ cleared 1 (delete_words p x) | false ↦ cleared 0 p ]

-- and then others: how many went in all, and what is left in the end
abbrev pub and_then : Cleared → Cleared → Cleared
and_then c d = cleared (c.count + d.count) d.words

-- the keys x, x + 1 and so on, n of them
unfoldable pub cleared_from : (n x : ℕ) → List ℕ → Cleared
cleared_from zero x p = cleared 0 p
cleared_from (suc n) x p = let c = cleared_at x p in and_then c (cleared_from n (suc x) c.words)

unfoldable pub clearing : List ℕ → ℕ → Call
clearing p first = let c = cleared_from notice_keys first p in gives (Done c.count) c.words

unfoldable pub clear_notice : List ℕ → (notice : ℕ) → Call
clear_notice p n = judged (notice_good n) p (clearing p (mark_key n 0 0))
