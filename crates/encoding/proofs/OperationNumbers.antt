-- The operations and their numbers: an operation's number names it, no other number does, and any number that is no operation's names
-- nothing; each is one byte long. By cases on the operation, and else by crate tree's laws of tables. Assumes nothing.
use mathlib.Core.Path.{◌≡◌, refl, ap}
use mathlib.Core.Logic.{◌≢◌}
use mathlib.Core.Option.{Option as Element, none, some}
use lib.ListN.{get_elem?}
use native.Mathlib.Omega.{arith}
use Prim.Native.Nat.{ℕ, zero, suc, ◌<◌}
use Rattle.tree.proofs.Tables.{Numbered, listed_number}
use Rattle.encoding.specs.declared.Operation.{Operation}
use Rattle.encoding.specs.declared.Operation.TheVariants.{Search, Insert, Delete, Step, Settle, AtOrAbove, Count, DeleteSpan}
use Rattle.std.specs.Prelude.{Option, Some, None}
use Rattle.encoding.specs.Operations.{operation_number, operations, which}

pub which_known : (o : Operation) → which (operation_number o) ≡ Some o
which_known Search = refl
which_known Insert = refl
which_known Delete = refl
which_known Step = refl
which_known Settle = refl
which_known AtOrAbove = refl
which_known Count = refl
which_known DeleteSpan = refl

numbered : Numbered operation_number 1 operations
numbered = (refl, (refl, (refl, (refl, (refl, (refl, (refl, (refl, tt))))))))

pub which_number : (n : ℕ) (o : Operation) → which n ≡ Some o → n ≡ operation_number o
which_number zero o e = cc
which_number (suc n) o e = go (get_elem? operations n) refl e
  where
    go : (x : Element Operation) → get_elem? operations n ≡ x → elim x [ some o ↦ Some o | none ↦ None ] ≡ Some o → suc n ≡ operation_number o
    go none f e = cc
    go (some p) f e = let same : p ≡ o = cc in omega (arith, listed_number operation_number 1 operations numbered n f, ap operation_number same)

pub which_unknown : (n : ℕ) → ((o : Operation) → n ≢ operation_number o) → which n ≡ None
which_unknown n h = go (which n) refl
  where
    go : (w : Option Operation) → which n ≡ w → w ≡ None
    go None e = refl
    go (Some o) e = absurd (h o (which_number n o e))

pub operation_small : (o : Operation) → operation_number o < 128
operation_small Search = omega arith
operation_small Insert = omega arith
operation_small Delete = omega arith
operation_small Step = omega arith
operation_small Settle = omega arith
operation_small AtOrAbove = omega arith
operation_small Count = omega arith
operation_small DeleteSpan = omega arith
