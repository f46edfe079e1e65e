-- What reading standard input may answer. This page serves RULES 11.1.
use Rattle.std.specs.Prelude.{ℕ, ◌≤◌, Result, IfOk}

-- a count within n bytes, or a read that failed
abbrev pub Within : {E : Type 0} → Result ℕ E → ℕ → Type 0
Within r n = IfOk r (λ k. k ≤ n)
