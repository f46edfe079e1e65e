-- The text is copied to the buffer. Assumes nothing.
use Rattle.std.proofs.Common.{◌∙◌, ap, length, arith}
use Rattle.lines.proofs.Rendering.{copied, copied_first}
use Rattle.lines.proofs.render.Goals as goal

pub returns : goal.returns
returns c =
    let is = c.text_of-text.ensures in
    let count = c.len-count.ensures.value ∙ ap length is in
    let copy = c.copy_from_slice.ensures.after ∙ c.as_bytes.ensures.value ∙ c.deref.ensures.0 ∙ is in
    record { count = count; out = copied c.args.out.now count copy (omega arith); text = copied_first c.args.out.now count copy (omega arith) }
