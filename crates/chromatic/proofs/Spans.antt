-- 02 (vii) as a host sees it. On a pool for which the exported audit gives 0, of a batch that reads as one command over a span and has room for its
-- answer, by its two answer words and the pool's words after the call: 6 gives the smallest key at or above (`batch_at_or_above`), 7 how many of the
-- numbers from a to b are in the set (`batch_counts`), and neither changes a word of the pool; 8 gives that number too, takes these keys and no other
-- (`batch_deletes_span`), and leaves the words that exported batches of one delete each leave, called for each of these keys, smallest first
-- (`batch_deletes_singly`; there is one list of these, `keys_are`). Where no number from a to b is in the set, as where a is above b (`crossed_none`),
-- 7 and 8 give 0 and 0 and change no word (`batch_counts_none`, `batch_deletes_none`). Amid other commands: crate demands' SpanCalls.antt, and the table of Codes.antt there.
-- Why: the call's answers are the State's, and the words that it leaves are those of the State after. Assumes nothing.
use mathlib.Core.Path.{◌≡◌, refl, ap, sym, ◌∙◌}
use mathlib.Core.List.{List, [], ◌∷◌}
use mathlib.Core.Bool.{false≢true}
use lib.ListN.{length, get_or}
use native.Mathlib.Omega.{arith}
use Prim.Native.Nat.{ℕ, suc, ◌-◌, ◌≤◌, ◌<◌}
use Rattle.tree.specs.declared.Answer.{Answer}
use Rattle.tree.specs.Codes.{code_of, number_of}
use Rattle.tree.specs.Tree.{count_in}
use Rattle.tree.specs.State.{State, keys_of, is_in, key_end, Sound, delete}
use Rattle.tree.specs.Spans.{next_from, keys_from, count_span, delete_each, delete_span}
use Rattle.tree.proofs.Order.{All, Rising}
use Rattle.tree.proofs.Updated.{delete_sound}
use Rattle.tree.proofs.Spans.{NextSays, next, none_above, keys_rise, next_says}
use Rattle.tree.proofs.SpanStates.{inside, within_or_not, rising_same, span_inside, span_outside, span_rises, span_small, span_sound}
use Rattle.format.specs.Words.{words_of}
use Rattle.format.specs.Audit.{state_of, audit_code}
use Rattle.format.proofs.Rules.{show_rules}
use Rattle.format.proofs.Shown.{words_decided, shows_words}
use Rattle.format.proofs.AuditCases.{Words32, code_kept}
use Rattle.encoding.specs.declared.Operation.TheVariants.{Delete, AtOrAbove, Count, DeleteSpan}
use Rattle.encoding.specs.declared.Command.{Command}
use Rattle.encoding.specs.Batch.{command, commands, read_batch, operation, perform, answers_of, run_all, answer_words, filled, called, batch}
use Rattle.encoding.proofs.Endings.{ran_ends}
use Rattle.commands.specs.Written.{command_bytes}
use Rattle.commands.proofs.Written.{one_command}
use Rattle.set.specs.Set.{member, members_from, members_in, SpanGone}
use Rattle.set.proofs.Members.{member_shown}
use Rattle.set.proofs.SpanAnswers.{span_number, span_gone, span_kept}
use Rattle.chromatic.specs.Spans.{NextWords, next_word, none_word, singly}

-- "smallest first": the list ks rises, and has just the numbers from a to b that are in the set
pub record SpanKeys (a b : ℕ) (p ks : List ℕ) : Type 0 where
  pub rising : Rising ks
  pub within_span : (y : ℕ) → a ≤ y → y ≤ b → count_in y ks ≡ member y p
  pub none_outside : (y : ℕ) → (a ≤ y → y ≤ b → ⊥) → count_in y ks ≡ 0

-- One delete by a call, on the words of a sound State: the words of the State after it. And several, one call each.
delete_call : (k : ℕ) (S : State) → Sound S → k < key_end → (batch (words_of S) (command_bytes (command Delete k 0)) (0 ∷ 0 ∷ [])).pool ≡ words_of (delete k S).after
unfolding called run_all perform operation
delete_call k S sound small =
    let c = command Delete k 0 in
    let rules = show_rules sound (shows_words sound) in
    let reads = one_command c (record { first_small = small; second_small = omega arith; second_none = λ e. refl }) in
    rw (ran_ends (words_of S) (command_bytes c) (0 ∷ 0 ∷ []) rules.0 reads (omega arith) rules.1, rules.2)

each_singly : (ks : List ℕ) (S : State) → Sound S → All (λ k. k < key_end) ks → singly ks (words_of S) ≡ words_of (delete_each ks S)
unfolding singly delete_each All
each_singly [] S sound small = refl
each_singly (k ∷ ks) S sound small =
    ap (singly ks) (delete_call k S sound small.0) ∙ each_singly ks (delete k S).after (delete_sound k S sound) small.1

module _ (p : List ℕ) (words : Words32 p) (passed : audit_code p ≡ 0) (bytes out : List ℕ) (room : 2 ≤ length out) where
  abbrev code_word : ℕ
  code_word = get_or (batch p bytes out).answers 0 0

  abbrev number_word : ℕ
  number_word = get_or (batch p bytes out).answers 1 0

  -- a call of one command
  ran : {c : Command} → read_batch bytes ≡ commands (c ∷ []) → batch p bytes out ≡ called (c ∷ []) p out
  ran reads = let k = code_kept p words passed in ran_ends p bytes out k.length_good_holds reads room k.rules_hold_holds

  -- code and number 0, and the pool as it was
  abbrev NothingThere : Type 0
  NothingThere = (code_word ≡ 0) × (number_word ≡ 0) × ((batch p bytes out).pool ≡ p)

  -- a pool whose State stays
  stays : words_of (state_of p) ≡ p
  stays = let k = code_kept p words passed in sym (words_decided k.sound k.shows)

  pub batch_at_or_above : (x : ℕ) → read_batch bytes ≡ commands (command AtOrAbove x 0 ∷ []) → NextWords x p code_word number_word × ((batch p bytes out).pool ≡ p)
  unfolding called run_all answers_of perform operation filled answer_words next_from
  batch_at_or_above x reads = rw (ran reads) (go (next_says x (state_of p) (code_kept p words passed).sound), stays)
    where
      is : (y : ℕ) → member y p ≡ is_in y (state_of p)
      is = member_shown (code_kept p words passed).sound (code_kept p words passed).shows

      go : {a : Answer} → NextSays x (state_of p) a → NextWords x p (code_of a) (number_of a)
      go (next {k} h s i f) = next_word h (is k ∙ i) (λ y l u. is y ∙ f y l u)
      go (none_above f) = none_word (λ y l. is y ∙ f y l)

  module _ (a b : ℕ) where
    pub batch_counts : read_batch bytes ≡ commands (command Count a b ∷ []) → (code_word ≡ 0) × (number_word ≡ members_in a b p) × ((batch p bytes out).pool ≡ p)
    unfolding called run_all answers_of perform operation filled answer_words count_span
    batch_counts reads = let k = code_kept p words passed in rw (ran reads) (refl, span_number k.sound k.shows a b, stays)

    pub batch_deletes_span : read_batch bytes ≡ commands (command DeleteSpan a b ∷ [])
        → (code_word ≡ 0) × (number_word ≡ members_in a b p) × SpanGone a b p (batch p bytes out).pool
    unfolding called run_all answers_of perform operation filled answer_words delete_span
    batch_deletes_span reads =
        let k = code_kept p words passed in
        rw (ran reads) (refl, span_number k.sound k.shows a b, span_gone k.sound k.shows a b (shows_words (span_sound a b (state_of p) k.sound)))

    -- a span without a key: 0 and 0, and not a word changes; among them one with a above b
    pub batch_counts_none : members_in a b p ≡ 0 → read_batch bytes ≡ commands (command Count a b ∷ []) → NothingThere
    batch_counts_none z reads = let c = batch_counts reads in (c.0, c.1 ∙ z, c.2)

    pub batch_deletes_none : members_in a b p ≡ 0 → read_batch bytes ≡ commands (command DeleteSpan a b ∷ []) → NothingThere
    unfolding called run_all perform operation
    batch_deletes_none z reads =
        let k = code_kept p words passed in
        let d = batch_deletes_span reads in
        (d.0, d.1 ∙ z, rw (ran reads) (span_kept k.sound k.shows a b (shows_words (span_sound a b (state_of p) k.sound)) z))

    pub crossed_none : b < a → members_in a b p ≡ 0
    unfolding members_from
    crossed_none h = let e : suc b - a ≡ 0 = omega arith in rw e

    -- the keys of the span, smallest first, and single deletes of these
    pub keys_are : SpanKeys a b p (keys_from a b (state_of p))
    keys_are = let k = code_kept p words passed in record {
      rising = span_rises a b (keys_of (state_of p).top) (keys_rise (state_of p) k.sound);
      within_span = λ y h i. span_inside y a b (keys_of (state_of p).top) h i ∙ sym (member_shown k.sound k.shows y);
      none_outside = λ y n. span_outside y a b (keys_of (state_of p).top) (within_or_not a b y (λ h i. absurd (n h i)) (λ e. e));
    }

    keys_one : {ks : List ℕ} → SpanKeys a b p ks → ks ≡ keys_from a b (state_of p)
    keys_one {ks} s = rising_same ks (keys_from a b (state_of p)) s.rising keys_are.rising (λ y. within_or_not a b y
        (λ h i. s.within_span y h i ∙ sym (keys_are.within_span y h i))
        (λ e. let out : a ≤ y → y ≤ b → ⊥ = λ h i. false≢true (sym e ∙ inside a b y h i) in s.none_outside y out ∙ sym (keys_are.none_outside y out)))

    pub batch_deletes_singly : read_batch bytes ≡ commands (command DeleteSpan a b ∷ []) → (ks : List ℕ) → SpanKeys a b p ks → (batch p bytes out).pool ≡ singly ks p
    unfolding called run_all perform operation delete_span
    batch_deletes_singly reads ks s =
        let k = code_kept p words passed in
        rw (ran reads, keys_one s)
        (sym (ap (singly (keys_from a b (state_of p))) (sym stays) ∙ each_singly (keys_from a b (state_of p)) (state_of p) k.sound (span_small a b (state_of p) k.sound)))
