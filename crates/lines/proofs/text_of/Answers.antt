-- One call on a prepared pool, and then its lines or the one that says `refused`. Assumes nothing.
use Rattle.std.proofs.Common.{◌∙◌, rules}
use Rattle.lines.proofs.Rendering.{text_ran, text_refused}
use Rattle.lines.proofs.text_of.Goals as goal

pub returns-in-Ok : goal.returns-in-Ok
returns-in-Ok c =
    let e = c.in-Ok.ensures in
    let said = text_ran c.args.bytes.now c.prepare.ensures.pool e.code e.answers (search rules) c.commands_in-count.result c.commands_in-count.ensures.few c.commands_in-count.ensures.count in
    c.put_lines.ensures ∙ search (said, rules)

pub returns-in-Err : goal.returns-in-Err
returns-in-Err c =
    let e = c.in-Err.ensures in
    c.put_refused.ensures ∙ rw c.new-text.ensures (text_refused c.args.bytes.now c.prepare.ensures.pool c.in-Err.refusal e.code e.number)
