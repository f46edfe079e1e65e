-- What a pool's words mean to the set (RULES 13.2), read off the State that they show, and the audit as an answer (serves RULES 2, 9 and 17).
-- The pages Set.antt and Operations.antt pass these names on, so that a crate above cites them there and cannot unfold them; this page is the set's
-- own, and of those who prove what it promises.
use Rattle.std.specs.Prelude.{List, length, ℕ, Result, Err, Ok}
use Rattle.tree.specs.declared.Answer.{Answer}
use Rattle.tree.specs.declared.Answer.TheVariants.{Done, Refused}
use Rattle.tree.specs.declared.Refusal.TheVariants.{PoolLength, RulesBroken}
use Rattle.tree.specs.State.{State, keys_of, is_in, Sound, slots_needed}
use Rattle.format.specs.declared.Header.{Header}
use Rattle.format.specs.declared.Unsound.{Unsound}
use Rattle.format.specs.declared.Unsound.TheVariants.{Length, Broken}
use Rattle.format.specs.Shows.{PoolShows}
use Rattle.format.specs.Audit.{state_of, audited}

-- the words show a sound State
pub record Shown (p : List ℕ) : Type 0 where
  pub state : State
  pub sound : Sound state
  pub shows : PoolShows p state

-- The pool passes the audit: its words show a sound State. (`audit_passes`: exactly when the audit's code is 0.) What stands in the record can be
-- looked into here alone.
unfoldable pub ShowsSound : List ℕ → Type 0
ShowsSound p = Shown p

pub record Passing (p : List ℕ) : Type 0 where
  pub shows_sound : ShowsSound p

-- whether the key x is in the set: 1, or 0
unfoldable pub member : ℕ → List ℕ → ℕ
member x p = is_in x (state_of p)

-- how many keys it has, and how many slots are free
unfoldable pub held : List ℕ → ℕ
held p = length (keys_of (state_of p).top)

unfoldable pub room : List ℕ → ℕ
room p = length (state_of p).free

-- how many slots the next key needs: 1 if the set is empty, else 2
unfoldable pub needed : List ℕ → ℕ
needed p = slots_needed (state_of p).top

-- The audit (RULES 2.8) as an answer (RULES 9.1 and 9.2): 1, 2, or nothing to say.
abbrev pub audited_answer : Result Header Unsound → Answer
audited_answer (Err Length) = Refused PoolLength
audited_answer (Err Broken) = Refused RulesBroken
audited_answer (Ok h) = Done 0

unfoldable pub audit_answer : List ℕ → Answer
audit_answer p = audited_answer (audited p)
