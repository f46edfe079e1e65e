-- Save and load as a host sees them: the word that each returns is its code and its number and nothing is lost (`answer_parts`, with
-- `save_small` and `load_small`); and a whole restart, from the words that the exports return and leave (`restart_returned`). Assumes nothing.
use mathlib.Core.Path.{◌≡◌, ap, ◌∙◌}
use mathlib.Core.Bool.{true}
use mathlib.Core.List.{List}
use Prim.Native.Nat.{ℕ, ◌+◌, ◌*◌, ◌/◌, ◌%◌, ◌≤◌, ◌<◌}
use native.Mathlib.Omega.{arith}
use lib.ListN.{length, take, drop}
use Rattle.tree.specs.declared.Answer.{Answer}
use Rattle.tree.specs.declared.Answer.TheVariants.{Done}
use Rattle.tree.specs.Codes.{code_of, number_of}
use Rattle.tree.specs.State.{nodes, Sound}
use Rattle.tree.proofs.SoundStates.{sound_total}
use Rattle.format.specs.Words.{header_of, slots_in, length_good, words_of}
use Rattle.format.specs.Audit.{state_of, audit_code}
use Rattle.format.proofs.Shown.{shows_words}
use Rattle.format.proofs.Rules.{rules_show}
use Rattle.format.proofs.AuditCases.{Words32, Kept, code_kept, audited_passed}
use Rattle.encoding.specs.Numbers.{Bytes}
use Rattle.saved.specs.Saved.{saved_bytes, renumbered_state, AlikeTop}
use Rattle.saved.specs.Calls.{Call, gives, save_call, load_call}
use Rattle.saved.proofs.Lengths.{saved_length}
use Rattle.saved.proofs.Places.{word_small}
use Rattle.saved.proofs.Saves.{renumbered_sound, renumbered_keeps}
use Rattle.saved.proofs.Restarts.{SaveEnds, save_ends_1, save_ends_2, save_ends_14, save_ends_0, save_ends, LoadEnds, load_ends_1, load_ends_13, load_ends_14, load_ends_0, load_ends, save_kept, into_fits, Saving, save_says, load_after_save, save_again}
use Rattle.chromatic.specs.Exports.{code_unit, in_one_word, returned_answer}
use Rattle.chromatic.proofs.Exports.{word_parts}

pub answer_parts : (a : Answer) → number_of a < code_unit → (returned_answer a / code_unit ≡ code_of a) × (returned_answer a % code_unit ≡ number_of a)
unfolding returned_answer
answer_parts a h = word_parts (code_of a) (number_of a) h

-- What is beside 0: a byte count of at most 7N + 4, and N; beside 13 a place as a word; beside any other refusal 0.
pub save_small : (p out : List ℕ) → Words32 p → number_of (save_call p out).answer < code_unit
save_small p out words = go (save_ends p out)
  where
    go : {r : Call} → SaveEnds p out r → number_of r.answer < code_unit
    go (save_ends_1 e) = omega arith
    go (save_ends_2 e f) = omega arith
    go (save_ends_14 e f g) = omega arith
    go (save_ends_0 e f g) = let sound = (rules_show (header_of p) p e f words).0 in omega (arith, saved_length sound, sound_total sound, sound.few)

pub load_small : (p bytes : List ℕ) → Bytes bytes → number_of (load_call p bytes).answer < code_unit
load_small p bytes b = go (load_ends p bytes b)
  where
    go : {r : Call} → LoadEnds p bytes r → number_of r.answer < code_unit
    go (load_ends_1 e) = omega arith
    go (load_ends_13 {j} e f g) = omega (arith, word_small j)
    go (load_ends_14 e S f g) = omega arith
    go (load_ends_0 e S f g) = omega (arith, sound_total f.sound, f.sound.few)

done_word : (n : ℕ) → returned_answer (Done n) ≡ n
unfolding returned_answer in_one_word
done_word n = omega arith

-- A restart: save into room enough (7N + 4 bytes are, by `few`), then load of the bytes that it wrote into any words of the same C. It leaves the
-- words of the State renumbered, with the same keys, routers, shape and weights.
pub record Restarted (p out w : List ℕ) : Type 0 where
  pub count : ℕ
  pub few : count ≤ 7 * nodes (state_of p).top + 4
  pub save_returns : returned_answer (save_call p out).answer ≡ count
  pub later_stay : drop count (save_call p out).left ≡ drop count out
  pub load_returns : returned_answer (load_call w (take count (save_call p out).left)).answer ≡ nodes (state_of p).top
  pub words_are : (load_call w (take count (save_call p out).left)).left ≡ words_of (renumbered_state (state_of p))
  pub alike : AlikeTop (state_of p).top (renumbered_state (state_of p)).top
  pub audit_passes : audit_code (load_call w (take count (save_call p out).left)).left ≡ 0
  pub same_again : (room : List ℕ) → save_call (load_call w (take count (save_call p out).left)).left room ≡ save_call p room

pub restart_returned : (p out w : List ℕ) → Words32 p → audit_code p ≡ 0 → length (saved_bytes (state_of p)) ≤ length out → length_good w ≡ true → slots_in w ≡ slots_in p
    → Restarted p out w
unfolding audit_code
restart_returned p out w words passes room long same = record {
  count = length bytes;
  few = saved_length sound;
  save_returns = ap returned_answer answered ∙ done_word (length bytes);
  later_stay = S.later_stay;
  load_returns = ap (λ (c : Call). returned_answer c.answer) loaded ∙ done_word (nodes (state_of p).top);
  words_are = ap (λ (c : Call). c.left) loaded;
  alike = renumbered_keeps (state_of p);
  audit_passes = ap (λ (c : Call). audit_code c.left) loaded ∙ renumbered_passes;
  same_again = λ room. ap (λ (c : Call). save_call c.left room) loaded ∙ save_again p words K.length_good_holds K.rules_hold_holds room;
}
  where
    K : Kept p (header_of p)
    K = code_kept p words passes

    sound : Sound (state_of p)
    sound = K.sound

    bytes : List ℕ
    bytes = saved_bytes (state_of p)

    answered : (save_call p out).answer ≡ Done (length bytes)
    answered = ap (λ (c : Call). c.answer) (save_kept p out K.length_good_holds K.rules_hold_holds ∙ into_fits bytes out room)

    S : Saving p out (length bytes)
    S = save_says p out (length bytes) answered

    loaded : load_call w (take (length bytes) (save_call p out).left) ≡ gives (Done (nodes (state_of p).top)) (words_of (renumbered_state (state_of p)))
    loaded = rw S.bytes_are (load_after_save p words K.length_good_holds K.rules_hold_holds w long same)

    renumbered_passes : audit_code (words_of (renumbered_state (state_of p))) ≡ 0
    renumbered_passes = let t = renumbered_sound sound in rw (audited_passed (words_of (renumbered_state (state_of p))) t (shows_words t))
