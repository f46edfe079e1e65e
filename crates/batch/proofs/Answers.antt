-- A call's code and number tell its whole answer. Why: each refusal has a code of its own, and a number beside it is its place.
-- Assumes nothing.
use mathlib.Core.Path.{◌≡◌, refl, sym, ap, ◌∙◌}
use mathlib.Core.List.{List, [], ◌∷◌}
use Prim.Native.Nat.{ℕ, zero, suc}
use Rattle.std.specs.Prelude.{Result, Ok, Err}
use Rattle.std.proofs.Math.Option.{none, some}
use Rattle.std.proofs.Math.ListN.{get_elem?}
use Rattle.tree.specs.declared.Refusal.{Refusal}
use Rattle.tree.specs.declared.Refusal.TheVariants.{PoolLength, RulesBroken, BadCommand, FewAnswers, KeyPresent, KeyAbsent, NoRoom, NoInnerNode, NoSuchKind, ConditionFalse, LevelLimit, BadSaved, NoFit, OutOfRange, AllUsed}
use Rattle.batch.specs.Answered.{call_code, call_number}

-- in the order of the codes; 12 is no refusal
refusals : ℕ → List Refusal
refusals place = PoolLength ∷ RulesBroken ∷ BadCommand place ∷ FewAnswers ∷ KeyPresent ∷ KeyAbsent ∷ NoRoom ∷ NoInnerNode ∷ NoSuchKind ∷ ConditionFalse ∷ LevelLimit ∷ LevelLimit ∷ BadSaved place ∷ NoFit ∷ OutOfRange ∷ AllUsed ∷ []

answer : ℕ → ℕ → Result (Unit {0}) Refusal
answer zero place = Ok tt
answer (suc n) place = elim (get_elem? (refusals place) n) [ some f ↦ Err f | none ↦ Ok tt ]

answer_is : (r : Result (Unit {0}) Refusal) → answer (call_code r) (call_number r) ≡ r
unfolding call_code call_number answer refusals
answer_is (Ok done) = refl
answer_is (Err PoolLength) = refl
answer_is (Err RulesBroken) = refl
answer_is (Err (BadCommand place)) = refl
answer_is (Err FewAnswers) = refl
answer_is (Err KeyPresent) = refl
answer_is (Err KeyAbsent) = refl
answer_is (Err NoRoom) = refl
answer_is (Err NoInnerNode) = refl
answer_is (Err NoSuchKind) = refl
answer_is (Err ConditionFalse) = refl
answer_is (Err LevelLimit) = refl
answer_is (Err (BadSaved place)) = refl
answer_is (Err NoFit) = refl
answer_is (Err OutOfRange) = refl
answer_is (Err AllUsed) = refl

pub told : (r s : Result (Unit {0}) Refusal) → call_code r ≡ call_code s → call_number r ≡ call_number s → r ≡ s
told r s c n = sym (answer_is r) ∙ (ap (λ c. answer c (call_number r)) c ∙ (ap (answer (call_code s)) n ∙ answer_is s))
