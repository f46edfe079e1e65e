-- May send, on any words and arguments: how it ends (`send_ends`); each code exactly when its cause is there (`send_codes`); a refusal gives
-- number 0 and changes no word (`send_refused`); a yes is the lowest unmarked attempt, and the set then has its mark and every other key as
-- before (`send_says`). **A full set sends nothing**: where there is no room for one more mark every call with arguments in their ranges is 16
-- or 7, and no word changes (`full_sends_nothing`).
-- Why: the order of refusals is `judged`'s, the attempt is what `lowest_found` says, and the insert does what the set promises. Assumes
-- nothing.
use mathlib.Core.Path.{◌≡◌, refl, ap, sym, ◌∙◌}
use mathlib.Core.Logic.{◌≢◌, ◌⊎◌, inl, inr}
use mathlib.Core.Bool.{true, false≢true}
use mathlib.Core.List.{List}
use native.Mathlib.Omega.{arith}
use Prim.Native.Nat.{ℕ, zero, suc, pred, ◌+◌, ◌≤◌, ◌<◌}
use Rattle.tree.specs.declared.Answer.{Answer}
use Rattle.set.specs.Operations.{key_end, code_of, number_of, Call, insert_answer}
use Rattle.set.specs.Set.{Passing, member, room, needed, Inserted, key_present, room_lacking, inserted}
use Rattle.set.proofs.Promises.{Words32, passing_words, member_once, insert_says, insert_done, insert_passing}
use Rattle.ledger.specs.Ledger.{arguments_good, mark_key, lowest_from, asked, may_send}
use Rattle.ledger.specs.Sends.{ArgumentsIn, marks_to, AllMarked, Lowest, SendEnds, sends_15, sends_1, sends_2, sends_16, sends_7, sends_0, SendCodes, Sent}
use Rattle.ledger.proofs.Arguments.{arguments_good_is, key_from, key_small}
use Rattle.ledger.proofs.Judging.{Judged, outside, no_length, no_pool, goes_on, judged_ends, early_outside, early_length, early_broken, early_none, wrong_not_passing}
use Rattle.ledger.proofs.Asking.{Found, all_marked, lowest, lowest_found, asked_used, asked_lacking, asked_yes}

-- In a pool that passes, with arguments in their ranges.
module _ {p : List ℕ} {n r l : ℕ} (args : ArgumentsIn n r l) (g : Passing p) where
  abbrev first : ℕ
  first = mark_key n r 0

  -- a mark that is met is in the set once
  met : (b : ℕ) → member (first + b) p ≢ 0 → member (mark_key n r b) p ≡ 1
  met b h = rw (← key_from n r b) (omega (arith, member_once g (first + b)))

  -- where all of attempts 1 to m are marked there are m marks
  marks_all : (m : ℕ) → ((b : ℕ) → 1 ≤ b → b ≤ m → member (mark_key n r b) p ≡ 1) → marks_to m n r p ≡ m
  unfolding marks_to
  marks_all zero h = refl
  marks_all (suc m) h = omega (arith, marks_all m (λ b i j. h b i (omega arith)), h (suc m) (omega arith) (omega arith))

  -- the attempt a is the lowest that is not marked
  module _ (a : ℕ) (low : 1 ≤ a) (high : a < 1 + l) (unmarked : member (first + a) p ≡ 0) (lower : (b : ℕ) → 1 ≤ b → b < a → member (first + b) p ≢ 0)
      (is : a ≡ lowest_from l 1 first p) where
    lower_are : (b : ℕ) → 1 ≤ b → b < a → member (mark_key n r b) p ≡ 1
    lower_are b i j = met b (lower b i j)

    is_lowest : Lowest p n r l a
    is_lowest = record { from_one = low; to_limit = omega arith; unmarked = rw (← key_from n r a) unmarked; lower_marked = lower_are; lower_count = omega (arith, marks_all (pred a) (λ b i j. lower_are b i (omega arith))) }

    small : mark_key n r a < key_end
    small = key_small n r a args.notice_in.to_last args.resident_in (omega (arith, args.few))

    at_lowest : SendEnds p n r l (asked p first l)
    at_lowest = go (insert_says g (mark_key n r a) small) refl
      where
        fits : first + l < key_end
        fits = rw (key_from n r l) (key_small n r l args.notice_in.to_last args.resident_in args.few)

        code : code_of (insert_answer p (first + a)) ≡ code_of (insert_answer p (mark_key n r a))
        code = ap (λ (x : ℕ). code_of (insert_answer p x)) (key_from n r a)

        go : {b : Answer} {q : List ℕ} → Inserted (mark_key n r a) p b q → insert_answer p (mark_key n r a) ≡ b → SendEnds p n r l (asked p first l)
        go (key_present i) e = absurd (omega (arith, is_lowest.unmarked))
        go (room_lacking i h) e =
            rw (asked_lacking p first l a is g (λ z. omega arith) fits (λ z. omega (arith, code, ap code_of e))).0
            (sends_7 args g is_lowest h)
        go (inserted i h m) e =
            rw (asked_yes p first l a is g (λ z. omega arith) fits (code ∙ ap code_of e), key_from n r a)
            (sends_0 args g is_lowest h (insert_passing g (mark_key n r a) small) (insert_done g (mark_key n r a) small e).1)

  asked_ends : SendEnds p n r l (asked p first l)
  asked_ends = go (lowest_found first p l 1) refl
    where
      go : {a : ℕ} → Found first p l 1 a → lowest_from l 1 first p ≡ a → SendEnds p n r l (asked p first l)
      go (all_marked h) e = rw (asked_used p first l 0 (sym e) refl) (sends_16 args g (λ b i j. met b (h b i (omega arith))))
      go (lowest {r = a} i j u h) e = at_lowest a i j u h (sym e)

module _ (p : List ℕ) (n r l : ℕ) (words : Words32 p) where
  -- How it ends.
  pub send_ends : SendEnds p n r l (may_send p n r l)
  unfolding may_send
  send_ends = go (judged_ends p words (asked p (mark_key n r 0) l) (arguments_good n r l))
    where
      args : arguments_good n r l ≡ true → ArgumentsIn n r l
      args e = (arguments_good_is n r l).0 e

      go : {c : Call} → Judged p (asked p (mark_key n r 0) l) (arguments_good n r l) c → SendEnds p n r l c
      go (outside e) = sends_15 (λ i. false≢true (sym e ∙ (arguments_good_is n r l).1 i))
      go (no_length e h) = sends_1 (args e) h
      go (no_pool e h f) = sends_2 (args e) h f
      go (goes_on e g) = asked_ends (args e) g

  -- Each code exactly when its cause is there.
  pub send_codes : SendCodes p n r l (code_of (may_send p n r l).answer)
  send_codes = go send_ends
    where
      -- the lowest is unmarked, so not all are marked
      not_all : {a : ℕ} → Lowest p n r l a → AllMarked p n r l → ⊥
      not_all {a} w m = omega (arith, w.unmarked, m a w.from_one w.to_limit)

      go : {c : Call} → SendEnds p n r l c → SendCodes p n r l (code_of c.answer)
      go (sends_15 o) = record {
        early = early_outside o;
        yes_when = (λ z. absurd (omega arith), λ h. absurd (o h.0));
        used_when = (λ z. absurd (omega arith), λ h. absurd (o h.0));
        lacking_when = (λ z. absurd (omega arith), λ h. absurd (o h.0));
      }
      go (sends_1 i k) = record {
        early = early_length i k;
        yes_when = (λ z. absurd (omega arith), λ h. absurd (wrong_not_passing k h.1));
        used_when = (λ z. absurd (omega arith), λ h. absurd (wrong_not_passing k h.1));
        lacking_when = (λ z. absurd (omega arith), λ h. absurd (wrong_not_passing k h.1));
      }
      go (sends_2 i k f) = record {
        early = early_broken i k f;
        yes_when = (λ z. absurd (omega arith), λ h. absurd (f h.1));
        used_when = (λ z. absurd (omega arith), λ h. absurd (f h.1));
        lacking_when = (λ z. absurd (omega arith), λ h. absurd (f h.1));
      }
      go (sends_16 i g m) = record {
        early = early_none i g 16 (λ z. omega arith) (λ z. omega arith) (λ z. omega arith);
        yes_when = (λ z. absurd (omega arith), λ h. absurd (h.2 m));
        used_when = (λ z. (i, g, m), λ h. refl);
        lacking_when = (λ z. absurd (omega arith), λ h. absurd (h.2 m));
      }
      go (sends_7 i g w f) = record {
        early = early_none i g 7 (λ z. omega arith) (λ z. omega arith) (λ z. omega arith);
        yes_when = (λ z. absurd (omega arith), λ h. absurd (omega (arith, h.3)));
        used_when = (λ z. absurd (omega arith), λ h. absurd (not_all w h.2));
        lacking_when = (λ z. (i, g, not_all w, f), λ h. refl);
      }
      go (sends_0 i g w f q m) = record {
        early = early_none i g 0 (λ z. omega arith) (λ z. omega arith) (λ z. omega arith);
        yes_when = (λ z. (i, g, not_all w, f), λ h. refl);
        used_when = (λ z. absurd (omega arith), λ h. absurd (not_all w h.2));
        lacking_when = (λ z. absurd (omega arith), λ h. absurd (omega (arith, h.3)));
      }

  -- "each gives 0 and changes nothing"
  pub send_refused : code_of (may_send p n r l).answer ≢ 0 → (number_of (may_send p n r l).answer ≡ 0) × ((may_send p n r l).left ≡ p)
  send_refused = go send_ends
    where
      go : {c : Call} → SendEnds p n r l c → code_of c.answer ≢ 0 → (number_of c.answer ≡ 0) × (c.left ≡ p)
      go (sends_15 o) d = (refl, refl)
      go (sends_1 i k) d = (refl, refl)
      go (sends_2 i k f) d = (refl, refl)
      go (sends_16 i g m) d = (refl, refl)
      go (sends_7 i g w f) d = (refl, refl)
      go (sends_0 i g w f q m) d = absurd (d refl)

  -- A yes: the number is the lowest unmarked attempt; the pool passes, and has that mark more and every other key as before.
  pub send_says : code_of (may_send p n r l).answer ≡ 0 → Sent p n r l (number_of (may_send p n r l).answer) (may_send p n r l).left
  send_says = go send_ends
    where
      go : {c : Call} → SendEnds p n r l c → code_of c.answer ≡ 0 → Sent p n r l (number_of c.answer) c.left
      go (sends_15 o) z = absurd (omega arith)
      go (sends_1 i k) z = absurd (omega arith)
      go (sends_2 i k f) z = absurd (omega arith)
      go (sends_16 i g m) z = absurd (omega arith)
      go (sends_7 i g w f) z = absurd (omega arith)
      go (sends_0 i g w f q m) z = record { arguments_in = i; passed = g; attempt_is = w; had_room = f; passes = q; one_more = m }

  -- The pool passes the audit afterwards, if it did before.
  pub send_passing : Passing p → Passing (may_send p n r l).left
  send_passing g = go send_ends
    where
      go : {c : Call} → SendEnds p n r l c → Passing c.left
      go (sends_15 o) = g
      go (sends_1 i k) = g
      go (sends_2 i k f) = g
      go (sends_16 i h m) = g
      go (sends_7 i h w f) = g
      go (sends_0 i h w f q m) = q

-- **No resident gets a text again because the set is full**: then every call with arguments in their ranges that is not 16 is 7, and no word
-- changes.
pub full_sends_nothing : {p : List ℕ} → Passing p → room p < needed p → (n r l : ℕ) → ArgumentsIn n r l
    → ((code_of (may_send p n r l).answer ≡ 16) ⊎ (code_of (may_send p n r l).answer ≡ 7)) × ((may_send p n r l).left ≡ p)
full_sends_nothing {p} g full n r l i = go (send_ends p n r l (passing_words g))
  where
    go : {c : Call} → SendEnds p n r l c → ((code_of c.answer ≡ 16) ⊎ (code_of c.answer ≡ 7)) × (c.left ≡ p)
    go (sends_15 o) = absurd (o i)
    go (sends_1 j k) = absurd (wrong_not_passing k g)
    go (sends_2 j k f) = absurd (f g)
    go (sends_16 j h m) = (inl refl, refl)
    go (sends_7 j h w f) = (inr refl, refl)
    go (sends_0 j h w f q m) = absurd (omega arith)
