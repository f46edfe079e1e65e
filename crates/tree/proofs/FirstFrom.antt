-- The first of a list that is at or above x: its first number, or one further on. Assumes nothing.
use mathlib.Core.Path.{◌≡◌}
use mathlib.Core.List.{List, ◌∷◌}
use mathlib.Core.Option.{some}
use borrow.Author.Tests.{le-leb, lt-leb}
use Prim.Native.Nat.{ℕ, ◌≤◌, ◌<◌}
use Rattle.tree.specs.Spans.{first_from}

pub first_here : (x k : ℕ) (ks : List ℕ) → x ≤ k → first_from x (k ∷ ks) ≡ some k
unfolding first_from
first_here x k ks h = rw (le-leb x k h, first_from)

pub first_later : (x k : ℕ) (ks : List ℕ) → k < x → first_from x (k ∷ ks) ≡ first_from x ks
unfolding first_from
first_later x k ks h = rw (lt-leb x k h, first_from)
