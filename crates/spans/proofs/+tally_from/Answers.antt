-- At an inner node: what was found on the left, where that has been walked or passed over, is what the definition finds there, and so is what is found
-- on the right. Assumes nothing.
use Rattle.std.proofs.Common.{◌≡◌, ℕ, ◌-◌, ◌≢◌, ltb, leb, List, sym, ◌∙◌, arith, le-leb, lt-ltb}
use borrow.Author.Tests.{lt-leb}
use Rattle.format.specs.declared.Slot.{Slot}
use Rattle.format.specs.Words.{slot_at}
use Rattle.spans.specs.declared.Tally.{Tally}
use Rattle.spans.specs.Spanning.{at_router, entering, tally_from}
use Rattle.spans.proofs.Tallies.{tally_inner}
use Rattle.spans.proofs.+tally_from.Goals as goal
use Rattle.spans.proofs.+tally_from.Goals.{then-a-c, else-a-c}

inner_is : (n : ℕ) (p : List ℕ) (a b s : ℕ) (t : Tally) {c : Slot} {here l : Tally} → n ≢ 0 → t.left ≢ 0 → c ≡ slot_at p s → c.left ≢ 0 → here ≡ at_router t
    → l ≡ entering (leb a c.key) (tally_from (n - 1) p a b c.left) here
    → tally_from n p a b s t ≡ entering (ltb c.key b) (tally_from (n - 1) p a b c.right) l
inner_is n p a b s t d m e z g h = rw (h, g, e) (tally_inner n p a b s t (omega arith) (omega arith) (rw e at z))

pub returns-then-c-b : goal.returns-then-c-b
unfolding at_router entering
returns-then-c-b t c =
    let left : c.if-a-c.l ≡ entering (leb c.args.a c.get_slot-c.result.key)
    (tally_from (c.args.deep - 1) c.args.pool.now c.args.a c.args.b c.get_slot-c.result.left)
    c.visited-here.result = elim c.if-a-c.branch [
      | then-a-c w ↦ rw (le-leb _ _ w.if-a-c.true, entering) (w.l-is ∙ w.tally_from-l.ensures)
      | else-a-c w ↦ rw (lt-leb _ _ w.if-a-c.false, entering) w.l-is
    ] in
    let walk = inner_is c.args.deep c.args.pool.now c.args.a c.args.b c.args.s c.args.t c.if-deep-eq0.false c.if-t-eq0.false c.get_slot-c.ensures c.if-c-eq0.false c.visited-here.ensures left in
    c.tally_from.ensures ∙ sym (walk ∙ rw (lt-ltb _ _ c.if-c-b.true, entering))
