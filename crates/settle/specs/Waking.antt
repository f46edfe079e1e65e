-- What a step wakes (serves RULES 5): the slots at which it can have made another step allowed (`woken` in tree's Near). Below it they are two at
-- most, by the kind; above it the parent and the grandparent, if they see a difference, found by a search for the slot's router.
use Rattle.std.specs.Prelude.{ℕ, zero, suc, pred, ◌+◌, ◌%◌, ◌^◌, true, false, List, ◌==◌, Bool}
use Rattle.tree.specs.declared.Kind.{Kind}
use Rattle.tree.specs.declared.Kind.TheVariants.{Blacken, SingleLeft, SingleRight, DoubleLeft, DoubleRight, Lighten, LightenLeft, LightenRight}
use Rattle.tree.specs.Sights.{parent_sees, grand_sees}
use Rattle.format.specs.declared.Header.{Header}
use Rattle.format.specs.Words.{slot_at, last_slot}
use Rattle.kinds.specs.declared.Around.{Around}
use Rattle.updates.specs.Updating.{toward, way_to}
use Rattle.settle.specs.declared.Pair.{Pair}
use Rattle.settle.specs.Awake.{wake}

-- two slots; 0 is no slot
abbrev pub two : ℕ → ℕ → Pair
two a b = record { one = a; other = b }

-- The slots below v that kind k can wake: those that it turns, and of kind 1 both children. 6, 7 and 8 make lighter what they do not turn.
unfoldable pub woken_below : Kind → Around → Pair
woken_below Blacken a = two a.v.left a.v.right
woken_below SingleLeft a = two a.v.left 0
woken_below SingleRight a = two a.v.right 0
woken_below DoubleLeft a = two a.v.left a.l.right
woken_below DoubleRight a = two a.v.right a.r.left
woken_below Lighten a = two 0 0
woken_below LightenLeft a = two a.v.right 0
woken_below LightenRight a = two a.v.left 0

-- the weight of v, w before, after kind k below the root
unfoldable pub weight_after : Kind → ℕ → ℕ
weight_after Blacken w = pred w
weight_after SingleLeft w = w
weight_after SingleRight w = w
weight_after DoubleLeft w = w
weight_after DoubleRight w = w
weight_after Lighten w = (w + 1) % 2 ^ 32
weight_after LightenLeft w = w
weight_after LightenRight w = w

-- A search for x from slot v on, until it meets slot s, at most n slots down: the last two slots before s, its parent's and its grandparent's. (g, p: before v.)
unfoldable pub kin_from : ℕ → List ℕ → (x s g p v : ℕ) → Pair
kin_from zero q x s g p v = two p g
kin_from (suc n) q x s g p v = elim (v == s) [ true ↦ two p g | false ↦ kin_from n q x s p v (toward x (slot_at q v)) ]

-- the slots that it passes
unfoldable pub kin_turns : ℕ → List ℕ → (x s v : ℕ) → ℕ
kin_turns zero q x s v = 0
kin_turns (suc n) q x s v = elim (v == s) [ true ↦ 0 | false ↦ suc (kin_turns n q x s (toward x (slot_at q v))) ]

unfoldable pub kin_of : List ℕ → (root x s : ℕ) → Pair
kin_of q root x s = kin_from (last_slot q) q x s 0 0 root

-- The slots above that see a difference where the weight of slot s goes from w to w'; x is its router.
unfoldable pub woken_above : List ℕ → (root x s w w' : ℕ) → Pair
woken_above q root x s w w' = elim (parent_sees w w') [
  | true ↦ let kin = kin_of q root x s in elim (grand_sees w w') [ true ↦ kin | false ↦ two kin.one 0 ]
  | false ↦ two 0 0
]

abbrev pub wake_both : List Bool → Pair → List Bool
wake_both m c = wake (wake m c.one) c.other

-- what is awake after kind k at slot s, around which a stands in the words q
unfoldable pub woken : Header → List ℕ → ℕ → Kind → Around → List Bool → List Bool
woken h q s k a m = wake_both (wake_both m (woken_below k a)) (woken_above q h.root a.v.key s a.v.weight (weight_after k a.v.weight))

-- What an insert or delete of x can have woken in a tree that was red-black: the leaf where a search for x ends now, and the three slots before it.
unfoldable pub woken_way : (root : ℕ) → List ℕ → (x : ℕ) → List Bool → List Bool
woken_way root q x m = let way = way_to q root x in wake_both (wake_both m (two way.leaf way.parent)) (kin_of q root x way.parent)
