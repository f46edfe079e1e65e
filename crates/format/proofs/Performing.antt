-- When what a command leaves on words is the outcome of the definition: the answer is the outcome's, and its header and words show the
-- State after it (`Does`). A refusal leaves all as it was (`does_refused`); else it is enough that the words hold the tree and the chain
-- and that the header is the State's (`does_done`). Once the header is written the pool shows that State (`does_pool`). And when a command
-- that is refused leaves everything as it was, on any words at all (`Ends`, `ends_kept`), so that the entry of a pool changes no word
-- (`entry_kept`). Assumes nothing.
use mathlib.Core.Path.{◌≡◌, refl}
use mathlib.Core.List.{List}
use lib.ListN.{length}
use native.Mathlib.Omega.{arith}
use Prim.Native.Nat.{ℕ, ◌+◌, ◌*◌}
use Rattle.tree.specs.declared.Answer.TheVariants.{Done, Refused}
use Rattle.tree.specs.declared.Refusal.{Refusal}
use Rattle.tree.specs.State.{State, Outcome, gives, refuses}
use Rattle.format.specs.declared.Header.{Header}
use Rattle.format.specs.Words.{head_of, header_of, shown_header}
use Rattle.format.specs.Shows.{HoldsTop, Chain, Shows, PoolShows}
use Rattle.format.specs.Performing.{Written, written, words_after}
use Rattle.format.proofs.Slots.{header_kept}
use Rattle.format.proofs.Shown.{shows_written}

-- what w leaves is the outcome o
pub record Does (w : Written) (o : Outcome) : Type 0 where
  pub answers : w.result.answer ≡ o.answer
  pub shows : Shows w.result.header w.words o.after

pub does_refused : {h : Header} {p : List ℕ} {S : State} (f : Refusal) → Shows h p S → Does (written p (Refused f) h) (refuses f S)
does_refused f s = record { answers = refl; shows = s }

pub does_done : (q : List ℕ) (n : ℕ) (h : Header) (S : State) → length q ≡ 4 + 4 * S.slots → h ≡ shown_header S
    → HoldsTop q S.top → Chain q (head_of S.free) S.free → Does (written q (Done n) h) (gives (Done n) S)
does_done q n h S l e t c = record { answers = refl; shows = record { length_is = l; header_is = e; tree_held = t; chain_held = c } }

pub does_pool : {w : Written} {o : Outcome} → Does w o → PoolShows (words_after w) o.after
does_pool d = shows_written d.shows

-- what was begun with the words p and the header h ended in w: refused, with all as it was, or done
pub data Ends (p : List ℕ) (h : Header) : Written → Type 0 where
  refused : {f : Refusal} → Ends p h (written p (Refused f) h)
  done : {q : List ℕ} {n : ℕ} {g : Header} → Ends p h (written q (Done n) g)

pub ends_kept : {p : List ℕ} {h : Header} {w : Written} {f : Refusal} → Ends p h w → w.result.answer ≡ Refused f → w ≡ written p (Refused f) h
ends_kept refused e = rw e
ends_kept done e = let z : ◌≡◌ {A = ℕ} 0 1 = cc in absurd (omega arith)

pub entry_kept : {p : List ℕ} {w : Written} {f : Refusal} → Ends p (header_of p) w → w.result.answer ≡ Refused f → words_after w ≡ p
entry_kept {p} w e = rw (ends_kept w e) (header_kept p)
