-- Pools that pass the audit. They do exactly when the audit's code is 0 (`audit_passes`, `passing_audited`), every word of theirs is a
-- 32-bit number (`passing_words`), and every operation leaves one: insert, delete, step, settle, and prepare (`…-passing`; of a span, SpanAnswers.antt).
-- Why: each operation on words that show a sound State shows the State that the definition gives (the crates' `…-shows`), and that
-- one is sound (crate tree's `…-sound`). Assumes nothing.
use Rattle.std.specs.Prelude.{Result}
use mathlib.Core.Path.{◌≡◌, sym, ◌∙◌}
use mathlib.Core.Logic.{◌↔◌}
use mathlib.Core.Bool.{true, false≢true}
use mathlib.Core.List.{List}
use Prim.Native.Nat.{ℕ, ◌<◌}
use Rattle.tree.specs.State.{State, key_end, Sound}
use Rattle.tree.proofs.Updated.{insert_sound, delete_sound}
use Rattle.tree.proofs.StepState.{step_sound_state}
use Rattle.tree.proofs.Settling.{settle_sound_state}
use Rattle.format.specs.declared.Header.{Header}
use Rattle.format.specs.declared.Unsound.{Unsound}
use Rattle.format.specs.Words.{header_of, length_good}
use Rattle.format.specs.Shows.{PoolShows}
use Rattle.format.specs.Audit.{state_of, audit_code}
use Rattle.format.proofs.Rules.{rules_show, show_rules}
use Rattle.pool.specs.Results.{prepared_words}
use Rattle.format.proofs.AuditCases.{Words32, Case, wrong_length as length-case, rules_broken as broken-case, rules_kept as Kept-case, audited_case, audit_exact}
use Rattle.format.proofs.SmallWords.{words_small}
use Rattle.pool.proofs.Prepares.{prepared_shows}
use Rattle.updates.specs.Updating.{insert_words, delete_words}
use Rattle.updates.proofs.InsertShows.{insert_entry}
use Rattle.updates.proofs.DeleteShows.{delete_entry}
use Rattle.steps.specs.Steps.{step_words, settle_words}
use Rattle.steps.proofs.StepShows.{step_entry}
use Rattle.steps.proofs.SettleShows.{settle_entry}
use Rattle.set.specs.Inside.{Shown, ShowsSound, Passing, audited_answer, audit_answer}
use Rattle.set.specs.Set.{Audits, wrong_length, rules_broken, audit_passed}

-- Words that show a sound State pass, and those that pass show one.
pub passing : {p : List ℕ} {S : State} → Sound S → PoolShows p S → Passing p
unfolding ShowsSound
passing {S = S} sound shows = record { shows_sound = record { state = S; sound = sound; shows = shows } }

pub shown : {p : List ℕ} → Passing p → Shown p
unfolding ShowsSound
shown g = g.shows_sound

-- Code 0 exactly when the pool passes; on words, of which each is a 32-bit number.
pub audit_passes : (p : List ℕ) → Words32 p → (audit_code p ≡ 0) ↔ Passing p
audit_passes p words =
    let e = audit_exact p words in
    (λ z. let s = e.0 z in passing s.1 s.2, λ g. e.1 ((shown g).state, (shown g).sound, (shown g).shows))

pub passing_words : {p : List ℕ} → Passing p → Words32 p
passing_words g = words_small (shown g).sound (shown g).shows

pub passing_length : {p : List ℕ} → Passing p → length_good p ≡ true
passing_length g = (show_rules (shown g).sound (shown g).shows).0

pub passing_audited : {p : List ℕ} → Passing p → audit_code p ≡ 0
passing_audited {p} g = (audit_passes p (passing_words g)).1 g

-- The audit's answer, by cases.
pub audit_says : (p : List ℕ) → Words32 p → Audits p (audit_answer p)
unfolding audit_answer
audit_says p words = go (audited_case p)
  where
    go : {a : Result Header Unsound} → Case p a → Audits p (audited_answer a)
    go (length-case l) = wrong_length l
    go (broken-case l r) = rules_broken l (λ g. absurd (false≢true (sym r ∙ (show_rules (shown g).sound (shown g).shows).1)))
    go (Kept-case l r) = let s = rules_show (header_of p) p l r words in audit_passed l (passing s.0 s.1)

-- A passing pool shows one State: the one that is read off its words.
pub passing_state : {p : List ℕ} → Passing p → Sound (state_of p) × PoolShows p (state_of p)
passing_state g = rw (show_rules (shown g).sound (shown g).shows).2 ((shown g).sound, (shown g).shows)

-- Every operation leaves a pool that passes.
pub prepare_passing : (p : List ℕ) → length_good p ≡ true → Passing (prepared_words p)
prepare_passing p h = let s = prepared_shows p h in passing s.0 s.1

module _ {p : List ℕ} (g : Passing p) where
  pub insert_passing : (x : ℕ) → x < key_end → Passing (insert_words p x)
  insert_passing x h = passing (insert_sound x (shown g).state (shown g).sound h) (insert_entry x (shown g).sound (shown g).shows).1

  pub delete_passing : (x : ℕ) → Passing (delete_words p x)
  delete_passing x = passing (delete_sound x (shown g).state (shown g).sound) (delete_entry x (shown g).sound (shown g).shows).1

  pub step_passing : (s n : ℕ) → Passing (step_words p s n)
  step_passing s n = passing (step_sound_state s n (shown g).state (shown g).sound) (step_entry (shown g).sound (shown g).shows s n).1

  pub settle_passing : (budget : ℕ) → Passing (settle_words p budget)
  settle_passing b = passing (settle_sound_state (shown g).state b (shown g).sound) (settle_entry (shown g).sound (shown g).shows b).1
