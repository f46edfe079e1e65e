use Rattle.save.proofs.Writing.{put_both}
use Rattle.save.proofs.put_pair.Goals as goal

pub returns : goal.returns
returns c = put_both _ _ c.put_number.ensures.out c.put_number.ensures.count c.put_number-2.ensures.out c.put_number-2.ensures.count
