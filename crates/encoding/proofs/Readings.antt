-- A place reads as one value at most (`one_read`), and where it reads it does not go wrong (`not_wrong`). Assumes nothing.
use mathlib.Core.Path.{◌≡◌, ap}
use Prim.Native.Nat.{ℕ}
use native.Mathlib.Omega.{arith}
use Rattle.std.specs.Prelude.{Ok, Err}
use Rattle.encoding.specs.declared.Fault.{Fault}
use Rattle.encoding.specs.Numbers.{Reading}

pub one_read : {A : Type 0} {x : Reading A} {v u : A} {m n : ℕ} → x ≡ Ok (v, m) → x ≡ Ok (u, n) → (v ≡ u) × (m ≡ n)
one_read {A} {v = v} {u} {m} {n} e f =
    let both : ◌≡◌ {A = A × ℕ} (v, m) (u, n) = cc in (ap (λ (p : A × ℕ). p.0) both, ap (λ (p : A × ℕ). p.1) both)

pub not_wrong : {A : Type 0} {x : Reading A} {v : A} {m : ℕ} {f : Fault} → x ≡ Ok (v, m) → x ≡ Err f → ⊥
not_wrong e f = let z : ◌≡◌ {A = ℕ} 0 1 = cc in omega arith
