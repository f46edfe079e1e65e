-- How much settle looks at (serves RULES 5): the slots, the numbers of blocks and groups, and the slots that its searches for a parent pass. No
-- public contract cites this page.
use Rattle.std.specs.Prelude.{ℕ, zero, suc, ◌+◌, ◌/◌, true, false, List, [], ◌∷◌}
use Rattle.tree.specs.declared.Kind.{Kind}
use Rattle.tree.specs.Tree.{Tree, depth}
use Rattle.tree.specs.Sights.{parent_sees}
use Rattle.format.specs.declared.Header.{Header}
use Rattle.format.specs.Words.{last_slot}
use Rattle.kinds.specs.declared.Around.{Around}
use Rattle.kinds.specs.Effects.{header_after}
use Rattle.steps.specs.Steps.{taken_words}
use Rattle.std.specs.Prelude.{Some, None}
use Rattle.settle.specs.Awake.{all_awake}
use Rattle.settle.specs.Waking.{weight_after, kin_turns, woken}
use Rattle.settle.specs.Settling.{Pool, pool_of, scanned}

-- To wake what a step of kind k at slot s can make allowed: the slots that the search for its parent passes, if one is made, and two numbers for each
-- of four slots.
unfoldable pub wake_looks : Header → List ℕ → ℕ → Kind → Around → ℕ
wake_looks h p s k a = 8 + elim (parent_sees a.v.weight (weight_after k a.v.weight)) [ true ↦ kin_turns (last_slot p) p a.v.key s h.root | false ↦ 0 ]

-- A settle that may take `budget` steps: its scans, of which the last finds nothing or is one more than the budget, and its wakings.
unfoldable pub looks_from : ℕ → Pool → ℕ
looks_from zero P = (scanned P).looks
looks_from (suc budget) P = let h = P.header in let p = P.words in let r = scanned P in r.looks + elim r.found [
  | Some x ↦ wake_looks h p x.slot x.kind x.around + looks_from budget (pool_of (header_after x.kind x.slot h) (taken_words h.root p x.slot x.kind x.around) (woken h p x.slot x.kind x.around r.awake))
  | None ↦ 0
]

abbrev pub settle_looks : List ℕ → Header → ℕ → ℕ
settle_looks p h budget = looks_from budget (pool_of h p all_awake)

-- What bounds it, in a pool of c slots: once c and c / 8 and a little, and for each step a number that c moves by at most 63,
abbrev pub looks_once : ℕ → ℕ
looks_once c = c + c / 8 + 144

abbrev pub looks_step : ℕ → ℕ
looks_step c = 209 + c / 256

-- and the depths of the trees that it goes through
unfoldable pub depths : List Tree → ℕ
depths [] = 0
depths (t ∷ ts) = depth t + depths ts
