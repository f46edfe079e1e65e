-- What the set promises, to the crates above it: on words that pass the audit, what its operations answer and what set the words then
-- show. This page, specs/Set.antt and specs/Operations.antt are all that they cite; nothing behind these is theirs.
--
-- `member x p` is 1 if x is in the set that the words p show, else 0; `held p` is the number of keys; `room p` is the number of free
-- slots, of which the next key needs `needed p`. For each operation: that the pool passes the audit afterwards (`…-passing`); what it
-- answers, with what then holds (`…-says`); each code exactly when its cause holds (`…-codes`); the same by the answer, for code that
-- matches on it (`…-done`, `…-refused`); which slot it answers (`…-slot`); and that a refusal changes no word, whatever the words
-- (`…-kept`). Assumes nothing.
use mathlib.Core.Path.{◌≡◌}
use mathlib.Core.Logic.{◌↔◌, ◌≢◌}
use mathlib.Core.Bool.{true}
use mathlib.Core.List.{List}
use Prim.Native.Nat.{ℕ, pred, ◌+◌, ◌*◌, ◌≤◌, ◌<◌}
use Rattle.tree.specs.declared.Answer.TheVariants.{Done, Refused}
use Rattle.tree.specs.declared.Refusal.{Refusal}
use Rattle.tree.specs.declared.Refusal.TheVariants.{NoRoom}
use Rattle.tree.specs.Codes.{code_of, number_of}
use Rattle.tree.specs.State.{key_end}
use Rattle.format.specs.Words.{header_of, slots_in, length_good}
use Rattle.format.specs.Audit.{audit_code}
use Rattle.pool.specs.Results.{prepared_words}
pub use Rattle.format.proofs.AuditCases.{Words32}
use Rattle.updates.specs.Updating.{search_answer, insert_answer, insert_words, delete_answer, delete_words}
use Rattle.updates.proofs.Kept as kept
use Rattle.spans.specs.Spanning.{next_answer, count_answer, delete_span_answer, delete_span_words}
use Rattle.report.specs.Report.{report_of}
use Rattle.steps.specs.Steps.{step_answer, step_words, settle_answer, settle_words}
use Rattle.steps.proofs.StepShows as steps
use Rattle.set.specs.Operations.{audit_answer}
use Rattle.set.specs.Set.{Passing, member, held, room, needed, Audits, LeafSlot, OneMore, SameSet, Prepared, Searched, NextSays, members_in, SpanGone, Inserted, Deleted, Settles, KeyCodes, InsertCodes}
use Rattle.set.specs.Balance.{bound_number}
use Rattle.set.proofs.Passing as passing
use Rattle.set.proofs.Members as members
use Rattle.set.proofs.Answers as answers
use Rattle.set.proofs.Leaves as leaves
use Rattle.set.proofs.Balancing as balancing
use Rattle.set.proofs.SpanAnswers as spans

-- The audit gives code 0 exactly to the pools that pass; the length of one is good, and every word of it a 32-bit number.
pub audit_passes : (p : List ℕ) → Words32 p → (audit_code p ≡ 0) ↔ Passing p
audit_passes = passing.audit_passes

-- The audit as an answer, by cases: 1, 2, or the pool passes.
pub audit_says : (p : List ℕ) → Words32 p → Audits p (audit_answer p)
audit_says = passing.audit_says

pub passing_audited : {p : List ℕ} → Passing p → audit_code p ≡ 0
passing_audited g = passing.passing_audited g

pub passing_length : {p : List ℕ} → Passing p → length_good p ≡ true
passing_length g = passing.passing_length g

pub passing_words : {p : List ℕ} → Passing p → Words32 p
passing_words g = passing.passing_words g

-- A set: no key is in it twice. k keys take 2k - 1 slots.
pub member_once : {p : List ℕ} → Passing p → (x : ℕ) → member x p ≤ 1
member_once g = answers.member_once g

pub room_exact : {p : List ℕ} → Passing p → pred (2 * held p) + room p ≡ slots_in p
room_exact g = answers.room_exact g

-- The next key needs 1 free slot if the set is empty, else 2.
pub needed_exact : {p : List ℕ} → Passing p → (held p ≡ 0 → needed p ≡ 1) × (held p ≢ 0 → needed p ≡ 2)
needed_exact g = answers.needed_exact g

-- The header's N is those slots, and so is the report's first number. A pool is empty exactly when N is 0, and then its root is 0: no
-- key, and C free slots, on whatever chain.
module _ {p : List ℕ} (g : Passing p) where
  pub nodes_exact : (header_of p).nodes ≡ pred (2 * held p)
  nodes_exact = answers.nodes_exact g

  pub report_nodes : (report_of p).figures.nodes ≡ (header_of p).nodes
  report_nodes = answers.report_nodes g

  pub root_none : ((header_of p).root ≡ 0) ↔ ((header_of p).nodes ≡ 0)
  root_none = answers.root_none g

  pub empty_says : (header_of p).nodes ≡ 0 → Prepared p (slots_in p)
  empty_says = answers.empty_says g

-- What one key more is: that key is there once more, and every other as before.
module _ {x : ℕ} {p q : List ℕ} (m : OneMore x p q) where
  pub more_here : member x q ≡ member x p + 1
  more_here = members.more_here m

  pub more_elsewhere : (y : ℕ) → y ≢ x → member y q ≡ member y p
  more_elsewhere = members.more_elsewhere m

-- Prepare: no key, and C free slots.
pub prepare_passing : (p : List ℕ) → length_good p ≡ true → Passing (prepared_words p)
prepare_passing = passing.prepare_passing

pub prepare_says : (p : List ℕ) → length_good p ≡ true → Prepared (prepared_words p) (slots_in p)
prepare_says = answers.prepare_says

module _ {p : List ℕ} (g : Passing p) (x : ℕ) where
  -- Search: done exactly when the key is in the set, else "key absent".
  pub search_says : Searched x p (search_answer p x)
  search_says = answers.search_says g x

  pub search_codes : KeyCodes x p (code_of (search_answer p x))
  search_codes = answers.search_codes g x

  pub search_done : {s : ℕ} → search_answer p x ≡ Done s → member x p ≡ 1
  search_done = answers.search_done g x

  pub search_refused : {f : Refusal} → search_answer p x ≡ Refused f → member x p ≡ 0
  search_refused = answers.search_refused g x

  -- The slot that is answered: exactly that of a leaf with the key.
  pub search_slot : (s : ℕ) → (search_answer p x ≡ Done s) ↔ LeafSlot x s p
  search_slot = leaves.search_slot g x

  -- The next key: the smallest of the set that is at or above x; "key absent" exactly when none is.
  pub next_says : NextSays x p (next_answer p x)
  next_says = answers.next_says g x

  -- Insert: "key present" exactly when the key is in the set; "fewer free slots than needed" exactly when it is not and there are; else
  -- done, and the set has that key more, and no other.
  pub insert_passing : x < key_end → Passing (insert_words p x)
  insert_passing = passing.insert_passing g x

  pub insert_says : x < key_end → Inserted x p (insert_answer p x) (insert_words p x)
  insert_says = answers.insert_says g x

  pub insert_codes : x < key_end → InsertCodes x p (code_of (insert_answer p x))
  insert_codes = answers.insert_codes g x

  pub insert_done : {s : ℕ} → x < key_end → insert_answer p x ≡ Done s → (member x p ≡ 0) × OneMore x p (insert_words p x)
  insert_done = answers.insert_done g x

  pub insert_refused : {f : Refusal} → x < key_end → member x p ≡ 0 → insert_answer p x ≡ Refused f → (f ≡ NoRoom) × (room p < needed p)
  insert_refused = answers.insert_refused g x

  -- The slot that is answered: that of a leaf with the key, in the words that are left.
  pub insert_slot : (s : ℕ) → x < key_end → insert_answer p x ≡ Done s → LeafSlot x s (insert_words p x)
  insert_slot = leaves.insert_slot g x

  -- Delete: "key absent" exactly when the key is not in the set; else done, with the number of keys left, and the set had that key more,
  -- and no other.
  pub delete_passing : Passing (delete_words p x)
  delete_passing = passing.delete_passing g x

  pub delete_says : Deleted x p (delete_answer p x) (delete_words p x)
  delete_says = answers.delete_says g x

  pub delete_codes : KeyCodes x p (code_of (delete_answer p x))
  delete_codes = answers.delete_codes g x

  pub delete_done : {n : ℕ} → delete_answer p x ≡ Done n → (n ≡ held (delete_words p x)) × (member x p ≡ 1) × OneMore x (delete_words p x) p
  delete_done = answers.delete_done g x

  pub delete_refused : {f : Refusal} → delete_answer p x ≡ Refused f → member x p ≡ 0
  delete_refused = answers.delete_refused g x

-- A span: how many of the numbers from a to b are in the set; deleted, these are gone, as many as are answered, and no other key; where there is none,
-- no word changes.
module _ {p : List ℕ} (g : Passing p) (a b : ℕ) where
  pub count_says : count_answer p a b ≡ Done (members_in a b p)
  count_says = spans.count_says g a b

  pub delete_span_passing : Passing (delete_span_words p a b)
  delete_span_passing = spans.delete_span_passing g a b

  pub delete_span_answer_lem : delete_span_answer p a b ≡ Done (members_in a b p)
  delete_span_answer_lem = spans.delete_span_answer_lem g a b

  pub delete_span_says : SpanGone a b p (delete_span_words p a b)
  delete_span_says = spans.delete_span_says g a b

  pub delete_span_none : members_in a b p ≡ 0 → delete_span_words p a b ≡ p
  delete_span_none = spans.delete_span_none g a b

-- Settle: the set and its room stay. It is done with at most as many steps as the report's seventh number, or its budget is spent; that
-- number is budget enough, and it falls by the steps taken. These are at most the budget, and with code 12 all of it.
module _ {p : List ℕ} (g : Passing p) (budget : ℕ) where
  pub settle_passing : Passing (settle_words p budget)
  settle_passing = passing.settle_passing g budget

  pub settle_same : SameSet p (settle_words p budget)
  settle_same = answers.settle_same g budget

  pub settle_says : Settles budget (bound_number p) (settle_answer p budget)
  settle_says = balancing.settle_answers g budget

  pub settle_enough : bound_number p ≤ budget → code_of (settle_answer p budget) ≡ 0
  settle_enough = balancing.settle_enough g budget

  pub settle_falls : number_of (settle_answer p budget) + bound_number (settle_words p budget) ≤ bound_number p
  settle_falls = balancing.settle_falls g budget

  pub settle_within : number_of (settle_answer p budget) ≤ budget
  settle_within = balancing.settle_within g budget

  pub settle_spent : code_of (settle_answer p budget) ≡ 12 → number_of (settle_answer p budget) ≡ budget
  settle_spent = balancing.settle_spent g budget

-- Step: the set and its room stay.
module _ {p : List ℕ} (g : Passing p) (s n : ℕ) where
  pub step_passing : Passing (step_words p s n)
  step_passing = passing.step_passing g s n

  pub step_same : SameSet p (step_words p s n)
  step_same = answers.step_same g s n

-- "Codes 5 to 11 change no pool word", whatever the words.
pub insert_kept : (p : List ℕ) (x : ℕ) (f : Refusal) → insert_answer p x ≡ Refused f → insert_words p x ≡ p
insert_kept = kept.insert_kept

pub delete_kept : (p : List ℕ) (x : ℕ) (f : Refusal) → delete_answer p x ≡ Refused f → delete_words p x ≡ p
delete_kept = kept.delete_kept

pub step_kept : (p : List ℕ) (s n : ℕ) (f : Refusal) → step_answer p s n ≡ Refused f → step_words p s n ≡ p
step_kept = steps.refused_keeps_words
