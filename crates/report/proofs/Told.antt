-- A report as code and numbers tells the code's whole answer: 0, 1 and 2 are its three cases. Assumes nothing.
use mathlib.Core.Path.{◌≡◌, refl, ap}
use native.Mathlib.Omega.{arith}
use Rattle.std.specs.Prelude.{Result, Ok, Err}
use Rattle.tree.specs.declared.Figures.{Figures}
use Rattle.format.specs.declared.Unsound.{Unsound}
use Rattle.format.specs.declared.Unsound.TheVariants.{Length, Broken}
use Rattle.report.specs.Report.{Reported, told}

codes : {x y : Reported} → x ≡ y → x.code ≡ y.code
codes e = ap (λ (r : Reported). r.code) e

pub told_once : (x y : Result Figures Unsound) → told x ≡ told y → x ≡ y
told_once (Ok f) (Ok g) e = ap Ok (ap (λ (r : Reported). r.figures) e)
told_once (Ok f) (Err Length) e = absurd (omega (arith, codes e))
told_once (Ok f) (Err Broken) e = absurd (omega (arith, codes e))
told_once (Err Length) (Ok g) e = absurd (omega (arith, codes e))
told_once (Err Length) (Err Length) e = refl
told_once (Err Length) (Err Broken) e = absurd (omega (arith, codes e))
told_once (Err Broken) (Ok g) e = absurd (omega (arith, codes e))
told_once (Err Broken) (Err Length) e = absurd (omega (arith, codes e))
told_once (Err Broken) (Err Broken) e = refl
