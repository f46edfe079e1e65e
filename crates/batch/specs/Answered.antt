-- What a whole call answers, as its code and number. This page serves RULES 8.1 and 9.0: codes 1 to 4 refuse the call; "A call that is not
-- refused gives 0 and number 0 itself."
use Rattle.std.specs.Prelude.{ℕ, Result, Ok, Err}
use Rattle.tree.specs.declared.Refusal.{Refusal}
use Rattle.tree.specs.Codes.{code, number_beside}

unfoldable pub call_code : Result (Unit {0}) Refusal → ℕ
call_code (Ok done) = 0
call_code (Err f) = code f

unfoldable pub call_number : Result (Unit {0}) Refusal → ℕ
call_number (Ok done) = 0
call_number (Err f) = number_beside f
