-- 02 (iv) as a host sees it, from the word that an export returns and the words that it leaves. That word is code and number and nothing is lost
-- (`send_parts`, `clear_parts`), so a sequence's calls are read off the words (`send_call_returned`, `clear_call_returned`), and each code is
-- returned exactly for its cause (`send_codes_returned`, `clear_codes_returned`). A yes returns the attempt itself, and then a search finds its
-- key, which it did not find before, and of every other key what it found before (`yes_returned`); every other word means that nothing changed
-- (`no_returned`). A clearing returns how many marks went (`clear_returned`). **Of a full pool every call with arguments in their ranges returns 16 or 7, and no word changes** (`full_returned`), full being
-- read off C and the report's N. Assumes nothing.
use mathlib.Core.Path.{◌≡◌, ap, sym, ◌∙◌}
use mathlib.Core.Logic.{◌≢◌, ◌⊎◌, inl, inr}
use mathlib.Core.List.{List}
use Prim.Native.Nat.{ℕ, pred, ◌+◌, ◌*◌, ◌/◌, ◌%◌, ◌≤◌, ◌<◌}
use native.Mathlib.Omega.{arith}
use native.Mathlib.Decide.{ℕ_discrete}
use Rattle.tree.specs.declared.Refusal.TheVariants.{KeyAbsent}
use Rattle.tree.specs.Codes.{code, code_of, number_of}
use Rattle.tree.specs.State.{figures}
use Rattle.format.specs.Words.{slots_in}
use Rattle.format.specs.Performing.{Call}
use Rattle.format.specs.Audit.{audit_code}
use Rattle.report.specs.Report.{figure_at}
use Rattle.set.specs.Operations.{search_answer}
use Rattle.set.specs.Set.{Passing, member, held, room, needed}
use Rattle.set.proofs.Promises.{Words32, audit_passes, passing_audited, room_exact, needed_exact, nodes_exact, report_nodes, member_once, more_here, more_elsewhere, search_codes}
use Rattle.ledger.specs.Ledger.{mark_key, may_send, clear_notice}
use Rattle.ledger.specs.Sends.{ArgumentsIn, SendEnds, sends_15, sends_1, sends_2, sends_16, sends_7, sends_0, SendCodes, Cleaned, ClearCodes}
use Rattle.ledger.specs.Sequences.{send_call_case, clear_call_case, send_call, clear_call}
use Rattle.ledger.proofs.Sending.{send_ends, send_codes, send_says, send_refused, full_sends_nothing}
use Rattle.ledger.proofs.Clearing.{clear_codes, clear_says, clear_refused, clear_few}
use Rattle.chromatic.specs.Exports.{number_at, code_unit, returned_answer}
use Rattle.chromatic.proofs.Restart.{answer_parts}

-- What is beside the code: an attempt, at most 7; how many marks went, at most 65,536; beside a refusal 0.
send_small : (p : List ℕ) (n r l : ℕ) → Words32 p → number_of (may_send p n r l).answer < code_unit
send_small p n r l words = go (send_ends p n r l words)
  where
    go : {c : Call} → SendEnds p n r l c → number_of c.answer < code_unit
    go (sends_15 o) = omega arith
    go (sends_1 i k) = omega arith
    go (sends_2 i k f) = omega arith
    go (sends_16 i g m) = omega arith
    go (sends_7 i g w f) = omega arith
    go (sends_0 i g w f q m) = omega (arith, w.to_limit, i.few)

-- the word, as a host takes it apart
abbrev pub send_word : List ℕ → (n r l : ℕ) → ℕ
send_word p n r l = returned_answer (may_send p n r l).answer

abbrev pub clear_word : List ℕ → (n : ℕ) → ℕ
clear_word p n = returned_answer (clear_notice p n).answer

-- A yes: the word is the attempt, from 1 to the limit. The pool passes the audit before and after, the attempt's key, which a search did
-- not find, is found, and every other key is found as before.
pub record YesReturned (p : List ℕ) (n r l : ℕ) : Type 0 where
  pub from_one : 1 ≤ send_word p n r l
  pub to_limit : send_word p n r l ≤ l
  pub passed : audit_code p ≡ 0
  pub passes : audit_code (may_send p n r l).left ≡ 0
  pub not_found : code_of (search_answer p (mark_key n r (send_word p n r l))) ≡ code KeyAbsent
  pub is_found : code_of (search_answer (may_send p n r l).left (mark_key n r (send_word p n r l))) ≡ 0
  pub others_stay : (y : ℕ) → y ≢ mark_key n r (send_word p n r l) → code_of (search_answer (may_send p n r l).left y) ≡ code_of (search_answer p y)

-- A key that is in both or in neither is found in both or in neither.
same_code : {p q : List ℕ} → Passing p → Passing q → (y : ℕ) → member y p ≡ member y q → code_of (search_answer q y) ≡ code_of (search_answer p y)
same_code {p} {q} g h y e = go (ℕ_discrete (member y p) 0)
  where
    go : Dec (member y p ≡ 0) → code_of (search_answer q y) ≡ code_of (search_answer p y)
    go (yes z) = (search_codes h y).absent_when.1 (sym e ∙ z) ∙ sym ((search_codes g y).absent_when.1 z)
    go (no d) =
        let there : member y p ≡ 1 = omega (arith, member_once g y) in
        (search_codes h y).done_when.1 (sym e ∙ there) ∙ sym ((search_codes g y).done_when.1 there)

module _ (p : List ℕ) (n r l : ℕ) (words : Words32 p) where
  pub send_parts : (send_word p n r l / code_unit ≡ code_of (may_send p n r l).answer) × (send_word p n r l % code_unit ≡ number_of (may_send p n r l).answer)
  send_parts = answer_parts (may_send p n r l).answer (send_small p n r l words)

  pub send_codes_returned : SendCodes p n r l (send_word p n r l / code_unit)
  send_codes_returned = rw send_parts.0 (send_codes p n r l words)

  pub send_call_returned : send_call p n r l ≡ send_call_case n r l (send_word p n r l / code_unit) (send_word p n r l % code_unit)
  send_call_returned = rw (send_parts.0, send_parts.1)

  pub yes_returned : send_word p n r l / code_unit ≡ 0 → YesReturned p n r l
  yes_returned z =
      let yes : code_of (may_send p n r l).answer ≡ 0 = sym send_parts.0 ∙ z in
      let s = send_says p n r l words yes in
      let is : send_word p n r l ≡ number_of (may_send p n r l).answer = omega (arith, z, send_parts.1) in
      record {
        from_one = omega (arith, is, s.attempt_is.from_one);
        to_limit = omega (arith, is, s.attempt_is.to_limit);
        passed = passing_audited s.passed;
        passes = passing_audited s.passes;
        not_found = rw is ((search_codes s.passed _).absent_when.1 s.attempt_is.unmarked);
        is_found = rw is ((search_codes s.passes _).done_when.1 (omega (arith, more_here s.one_more, s.attempt_is.unmarked)));
        others_stay = λ y d. same_code s.passed s.passes y (sym (more_elsewhere s.one_more y (λ e. d (e ∙ sym (ap (mark_key n r) is)))));
      }

  pub no_returned : send_word p n r l / code_unit ≢ 0 → (send_word p n r l % code_unit ≡ 0) × ((may_send p n r l).left ≡ p)
  no_returned d = let s = send_refused p n r l words (λ z. d (send_parts.0 ∙ z)) in (send_parts.1 ∙ s.0, s.1)

-- A full pool: it passes the audit, holds a key, and has not two slots more than N.
pub full_returned : (p : List ℕ) → Words32 p → audit_code p ≡ 0 → 1 ≤ number_at p 1 → slots_in p < number_at p 1 + 2 → (n r l : ℕ) → ArgumentsIn n r l
    → ((send_word p n r l ≡ 16 * code_unit) ⊎ (send_word p n r l ≡ 7 * code_unit)) × ((may_send p n r l).left ≡ p)
unfolding number_at figure_at figures
full_returned p words passed some few n r l i = (go s.0, s.1)
  where
    g : Passing p
    g = (audit_passes p words).0 passed

    nodes : number_at p 1 ≡ pred (2 * held p)
    nodes = report_nodes g ∙ nodes_exact g

    full : room p < needed p
    full = omega (arith, nodes, room_exact g, (needed_exact g).1 (λ z. omega (arith, nodes, z)))

    s : ((code_of (may_send p n r l).answer ≡ 16) ⊎ (code_of (may_send p n r l).answer ≡ 7)) × ((may_send p n r l).left ≡ p)
    s = full_sends_nothing g full n r l i

    parts : (send_word p n r l / code_unit ≡ code_of (may_send p n r l).answer) × (send_word p n r l % code_unit ≡ number_of (may_send p n r l).answer)
    parts = send_parts p n r l words

    -- a refusal's number is 0
    none : code_of (may_send p n r l).answer ≢ 0 → send_word p n r l % code_unit ≡ 0
    none d = parts.1 ∙ (send_refused p n r l words d).0

    go : (code_of (may_send p n r l).answer ≡ 16) ⊎ (code_of (may_send p n r l).answer ≡ 7) → (send_word p n r l ≡ 16 * code_unit) ⊎ (send_word p n r l ≡ 7 * code_unit)
    go (inl e) = inl (omega (arith, parts.0, none (λ z. omega (arith, e, z))))
    go (inr e) = inr (omega (arith, parts.0, none (λ z. omega (arith, e, z))))

module _ (p : List ℕ) (n : ℕ) (words : Words32 p) where
  pub clear_parts : (clear_word p n / code_unit ≡ code_of (clear_notice p n).answer) × (clear_word p n % code_unit ≡ number_of (clear_notice p n).answer)
  clear_parts = answer_parts (clear_notice p n).answer (omega (arith, clear_few p n words))

  pub clear_codes_returned : ClearCodes p n (clear_word p n / code_unit)
  clear_codes_returned = rw clear_parts.0 (clear_codes p n words)

  -- the notice's marks are gone, all other keys are as before, and the word is how many went
  pub clear_returned : clear_word p n / code_unit ≡ 0 → Cleaned p n (clear_word p n) (clear_notice p n).left
  clear_returned z =
      let is : clear_word p n ≡ number_of (clear_notice p n).answer = omega (arith, z, clear_parts.1) in
      rw is (clear_says p n words (sym clear_parts.0 ∙ z))

  pub clear_no_returned : clear_word p n / code_unit ≢ 0 → (clear_word p n % code_unit ≡ 0) × ((clear_notice p n).left ≡ p)
  clear_no_returned d = let s = clear_refused p n words (λ z. d (clear_parts.0 ∙ z)) in (clear_parts.1 ∙ s.0, s.1)

  pub clear_call_returned : clear_call p n ≡ clear_call_case n (clear_word p n / code_unit) (clear_word p n % code_unit)
  clear_call_returned = rw (clear_parts.0, clear_parts.1)
