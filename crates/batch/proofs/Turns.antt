-- The run of a good batch, command by command. The invariant, `Turn`: the commands that are left stand from here on; the pool shows
-- a sound State under the header of now; and what they leave from here is what the call leaves. Assumes nothing.
use mathlib.Core.Path.{◌≡◌, refl, sym, ap, ◌∙◌}
use mathlib.Core.List.{List, [], ◌∷◌, ◌++◌}
use Prim.Native.Nat.{ℕ, ◌+◌, ◌*◌, ◌≤◌, ◌<◌}
use native.Mathlib.Omega.{arith}
use lib.ListN.{length, length-append}
use Rattle.tree.specs.State.{State, key_end, Sound}
use Rattle.format.specs.declared.Header.{Header}
use Rattle.tree.specs.declared.Answer.{Answer}
use Rattle.format.specs.Words.{put_header, words_of}
use Rattle.format.specs.Audit.{state_of}
use Rattle.format.specs.Shows.{Shows}
use Rattle.format.proofs.Shown.{written_decided}
use Rattle.encoding.specs.declared.Command.{Command}
use Rattle.std.specs.Prelude.{Ok, Err}
use Rattle.encoding.specs.declared.Fault.{Fault}
use Rattle.encoding.specs.Batch.{most_commands, command_at, perform, answers_of, run_all, Call, called, batch}
use Rattle.encoding.proofs.Endings.{ran_ends}
use Rattle.encoding.proofs.Performs.{perform_sound}
use Rattle.encoding.proofs.AnswerWords.{answers_length}
use Rattle.commands.proofs.Running.{Running, running_starts, running_good, running_fault, running_ends, running_more, batch_size}
use Rattle.batch.specs.Operated.{perform_on, put_answer}
use Rattle.batch.specs.Ready.{Ready}
use Rattle.batch.proofs.PerformShows.{perform_shows}
use Rattle.batch.proofs.AnswersPut.{put_answers, put_filled}

-- The commands `left` are to run from place `at` on, on the pool p under the header h and the answers out from word `place` on; k is what
-- the call leaves.
pub record Turn (bytes : List ℕ) (k : Call) (h : Header) (p out : List ℕ) (at place : ℕ) : Type 0 where
  pub cs : List Command
  pub done : List Command
  pub left : List Command
  pub shown : State
  pub running : Running bytes cs done left at
  pub few : length cs ≤ most_commands
  pub place_is : place ≡ 2 * length done
  pub sound : Sound shown
  pub shows : Shows h p shown
  pub pool_comes : words_of (run_all left shown) ≡ k.pool
  pub answers_come : put_answers out place (answers_of left shown) ≡ k.answers

pub turn_starts : {h : Header} {p bytes out : List ℕ} → Ready p h bytes out → Turn bytes (batch p bytes out) h p out 0 0
unfolding called
turn_starts {h} {p} {bytes} {out} r =
    let e = ran_ends p bytes out r.length_good_holds r.read r.enough r.rules_hold_holds in
    let enough : 2 * length (answers_of r.cs (state_of p)) ≤ length out = omega (arith, r.enough, answers_length r.cs (state_of p)) in
    record {
      cs = r.cs;
      done = [];
      left = r.cs;
      shown = state_of p;
      running = running_starts r.read;
      few = (batch_size bytes r.read).0;
      place_is = refl;
      sound = r.sound;
      shows = r.shows;
      pool_comes = sym (ap (λ (k : Call). k.pool) e);
      answers_come = put_filled (answers_of r.cs (state_of p)) out enough ∙ sym (ap (λ (k : Call). k.answers) e);
    }

module _ {bytes : List ℕ} {k : Call} {h : Header} {p out : List ℕ} {at place : ℕ} (w : Turn bytes k h p out at place) where
  pub turn_fault : {f : Fault} → at < length bytes → command_at bytes at ≡ Err f → ⊥
  turn_fault l e = running_fault w.running l e

  -- two more answer words, of at most 512
  pub turn_place : at < length bytes → place + 2 ≤ 2 * most_commands
  turn_place l = omega (arith, w.place_is, w.few, (running_more w.running).0 l)

  pub turn_good : (c : Command) (next : ℕ) → at < length bytes → command_at bytes at ≡ Ok (c, next) → c.first < key_end
      → (a : Answer) (g : Header) (q : List ℕ) → a ≡ (perform_on c p h).result.answer → g ≡ (perform_on c p h).result.header → q ≡ (perform_on c p h).words
      → Turn bytes k g q (put_answer out place a) next (place + 2)
  unfolding run_all answers_of put_answers
  turn_good c next l e f a g q ea eg eq =
      let r = running_good w.running l e in
      let S = w.shown in
      let x = perform_shows c w.sound w.shows in
      record {
        cs = w.cs;
        done = w.done ++ (c ∷ []);
        left = r.0;
        shown = (perform c S).after;
        running = r.2;
        few = w.few;
        place_is = omega (arith, w.place_is, length-append w.done (c ∷ []));
        sound = perform_sound c S f w.sound;
        shows = rw (eg, eq) x.shows;
        pool_comes = rw r.1 at w.pool_comes;
        answers_come = rw (ea ∙ x.answers) (rw r.1 at w.answers_come);
      }

  pub turn_ends : length bytes ≤ at → (put_header p h ≡ k.pool) × (out ≡ k.answers)
  unfolding run_all answers_of put_answers
  turn_ends l =
      let e = (running_ends w.running l).0 in
      (written_decided w.sound w.shows ∙ (rw e at w.pool_comes), rw e at w.answers_come)
