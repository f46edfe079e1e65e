use Rattle.std.proofs.Math.Numerals.{sub-one}
use Rattle.kinds.specs.Effects.{lightened}
use Rattle.kinds.proofs.lightened.Goals as goal

pub returns : goal.returns
unfolding lightened
returns c = let l = sub-one c.args.a.l.weight in let r = sub-one c.args.a.r.weight in cc
