-- Document 01, on words: the command step (RULES 4); the first allowed step, and settle as the list of pools that it goes through
-- (RULES 5); the header given by value; and the same for a pool whose header lies in its first words.
use Rattle.std.specs.Prelude.{Bool, true, false, not, ◌&&◌, List, [], ◌∷◌, eqb, leb, length, ℕ, zero, suc}
use Rattle.std.specs.Prelude.{Option as Found, Some, None}
use Rattle.std.specs.List.{find}
use Rattle.std.proofs.Math.Option.{Option, none, some}
use Rattle.tree.specs.declared.Kind.{Kind}
use Rattle.tree.specs.declared.Kind.TheVariants.{Blacken}
use Rattle.tree.specs.declared.Refusal.TheVariants.{NoInnerNode, NoSuchKind, ConditionFalse, LevelLimit}
use Rattle.tree.specs.declared.Answer.{Answer}
use Rattle.tree.specs.declared.Answer.TheVariants.{Done, Refused}
use Rattle.tree.specs.Codes.{most_level, kinds, kind_number, named}
use Rattle.tree.specs.Settle.{last_of, settled}
use Rattle.format.specs.declared.Header.{Header}
use Rattle.format.specs.declared.Slot.{Slot}
use Rattle.format.specs.Words.{header_of, put_level, slot_at, last_slot}
use Rattle.format.specs.Performing.{Written, written}
use Rattle.kinds.specs.declared.Around.{Around}
use Rattle.kinds.specs.Around.{around_of, around_at}
use Rattle.kinds.specs.Conditions.{fits}
use Rattle.kinds.specs.Effects.{applied, header_after}
use Rattle.steps.specs.declared.Lowest.{Lowest}

-- A leaf and a free slot have right 0, an inner node has not.
abbrev pub has_children : Slot → Bool
has_children c = not (eqb c.right 0)

-- "Slot is 0, above C, free or a leaf", the other way round, of slot s with words c
unfoldable pub inner_slot : List ℕ → ℕ → Slot → Bool
inner_slot p s c = leb 1 s && leb s (last_slot p) && has_children c

abbrev pub inner_at : List ℕ → ℕ → Bool
inner_at p s = inner_slot p s (slot_at p s)

-- RULES 4.11: "Kind 1 at the root raises L. At L = 255 it is refused with 11."
unfoldable pub limit_at : Kind → Header → ℕ → Bool
limit_at k h s = eqb (kind_number k) (kind_number Blacken) && eqb s h.root && eqb h.level most_level

-- RULES 5.1: "An allowed step is a slot and kind that would be accepted." At an inner node, around which a stands; and at any slot.
unfoldable pub allowed_around : Kind → Header → ℕ → Around → Bool
allowed_around k h s a = fits k a && not (limit_at k h s)

unfoldable pub allowed_words : Kind → Header → List ℕ → ℕ → Bool
allowed_words k h p s = inner_at p s && allowed_around k h s (around_at p s)

-- the words after the effect of kind k at slot s, around which a stands
abbrev pub taken_words : ℕ → List ℕ → ℕ → Kind → Around → List ℕ
taken_words root p s k a = applied p s k (eqb s root) a

-- RULES 4.10: kind k at an inner node in slot s, whose words are c. "Codes 5 to 11 change no pool word; lowest code first." 10: "condition
-- false"; 11: "kind 1 at the root with L = 255".
unfoldable pub step_kind : List ℕ → Header → ℕ → Slot → Kind → Written
step_kind p h s c k =
    let a = around_of p c in
    elim (fits k a) [
      | true ↦ elim (limit_at k h s) [
        | true ↦ written p (Refused LevelLimit) h
        | false ↦ written (taken_words h.root p s k a) (Done (kind_number k)) (header_after k s h)
      ]
      | false ↦ written p (Refused ConditionFalse) h
    ]

-- 9: "kind not 1 to 8"
unfoldable pub step_named : List ℕ → Header → ℕ → Option Kind → Written
step_named p h s none = written p (Refused NoSuchKind) h
step_named p h s (some k) = step_kind p h s (slot_at p s) k

-- 8: "slot is 0, above C, free or a leaf"
unfoldable pub step_under : List ℕ → Header → ℕ → ℕ → Written
step_under p h s n = elim (inner_at p s) [ true ↦ step_named p h s (named n) | false ↦ written p (Refused NoInnerNode) h ]

-- the lowest of these kinds that is allowed at slot s
unfoldable pub first_kind : List Kind → Header → List ℕ → ℕ → Option Kind
first_kind [] h p s = none
first_kind (k ∷ ks) h p s = elim (allowed_words k h p s) [ true ↦ some k | false ↦ first_kind ks h p s ]

-- the same of an inner node, around which a stands
unfoldable pub lowest_around : Header → ℕ → Around → Found Kind
lowest_around h s a = find (λ k. allowed_around k h s a) kinds

abbrev pub lowest : ℕ → Kind → Around → Lowest
lowest s k a = record { slot = s; kind = k; around = a }

-- RULES 5.2: "the lowest slot with an allowed kind, and there the lowest kind", among the n slots from s on, with what stands around it
unfoldable pub first_from : ℕ → Header → List ℕ → ℕ → Found Lowest
first_from zero h p s = None
first_from (suc n) h p s = elim (first_kind kinds h p s) [ some k ↦ Some (lowest s k (around_at p s)) | none ↦ first_from n h p (suc s) ]

unfoldable pub first_allowed : Header → List ℕ → Found Lowest
first_allowed h p = first_from (last_slot p) h p 1

-- words, and the header that they stand under
pub record Pool : Type 0 where
  pub header : Header
  pub words : List ℕ

abbrev pub pool_of : Header → List ℕ → Pool
pool_of h p = record { header = h; words = p }

unfoldable pub next_pool : Pool → Option Pool
next_pool P = let h = P.header in let p = P.words in elim (first_allowed h p) [
  | Some x ↦ some (pool_of (header_after x.kind x.slot h) (taken_words h.root p x.slot x.kind x.around))
  | None ↦ none
]

-- RULES 5.2 and 5.3: "Settle repeats [..] until none is left or the budget is spent": the pools after the first.
unfoldable pub pools_after : ℕ → Pool → List Pool
pools_after zero P = []
pools_after (suc budget) P = elim (next_pool P) [ some Q ↦ Q ∷ pools_after budget Q | none ↦ [] ]

unfoldable pub settle_under : List ℕ → Header → ℕ → Written
settle_under p h budget =
    let Qs = pools_after budget (pool_of h p) in
    let Q = last_of (pool_of h p) Qs in
    written Q.words (settled (length Qs) (next_pool Q)) Q.header

-- The entries of a pool: the header is read once, at the beginning, and L written once, at the end (RULES 4.12); a step moves no other word of
-- the header (`step_words_lem`, `settle_words_lem` in proofs/HeaderKept.antt).
abbrev pub level_written : Written → List ℕ
level_written w = put_level w.words w.result.header.level

unfoldable pub step_answer : List ℕ → ℕ → ℕ → Answer
step_answer p s n = (step_under p (header_of p) s n).result.answer

unfoldable pub step_words : List ℕ → ℕ → ℕ → List ℕ
step_words p s n = level_written (step_under p (header_of p) s n)

unfoldable pub settle_answer : List ℕ → ℕ → Answer
settle_answer p budget = (settle_under p (header_of p) budget).result.answer

unfoldable pub settle_words : List ℕ → ℕ → List ℕ
settle_words p budget = level_written (settle_under p (header_of p) budget)
