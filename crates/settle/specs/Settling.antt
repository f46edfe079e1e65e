-- Document 01, on words: settle as the list of pools that it goes through (serves RULES 5), the header given by value, with what is awake at the
-- beginning; and the same for a pool whose header lies in its first words.
use Rattle.std.specs.Prelude.{ℕ, zero, suc, List, [], ◌∷◌, length, Bool}
use Rattle.std.proofs.Math.Option.{Option, none, some}
use Rattle.tree.specs.declared.Answer.{Answer}
use Rattle.tree.specs.Settle.{last_of, settled}
use Rattle.format.specs.declared.Header.{Header}
use Rattle.format.specs.Words.{header_of}
use Rattle.format.specs.Performing.{Written, written}
use Rattle.kinds.specs.Effects.{header_after}
use Rattle.steps.specs.Steps.{taken_words, level_written}
use Rattle.std.specs.Prelude.{Some, None}
use Rattle.settle.specs.Awake.{all_awake, all_asleep}
use Rattle.settle.specs.Scanning.{Scan, first_awake}
use Rattle.settle.specs.Waking.{woken, woken_way}

-- words, the header that they stand under, and what is awake
pub record Pool : Type 0 where
  pub header : Header
  pub words : List ℕ
  pub awake : List Bool

abbrev pub pool_of : Header → List ℕ → List Bool → Pool
pool_of h p m = record { header = h; words = p; awake = m }

abbrev pub scanned : Pool → Scan
scanned P = first_awake P.header P.words P.awake

unfoldable pub next_pool : Pool → Option Pool
next_pool P = let h = P.header in let p = P.words in let r = scanned P in elim r.found [
  | Some x ↦ some (pool_of (header_after x.kind x.slot h) (taken_words h.root p x.slot x.kind x.around) (woken h p x.slot x.kind x.around r.awake))
  | None ↦ none
]

-- RULES 5.2 and 5.3: "Settle repeats [..] until none is left or the budget is spent": the pools after the first.
unfoldable pub pools_after : ℕ → Pool → List Pool
pools_after zero P = []
pools_after (suc budget) P = elim (next_pool P) [ some Q ↦ Q ∷ pools_after budget Q | none ↦ [] ]

unfoldable pub settle_from : List Bool → List ℕ → Header → ℕ → Written
settle_from m p h budget =
    let Qs = pools_after budget (pool_of h p m) in
    let Q = last_of (pool_of h p m) Qs in
    written Q.words (settled (length Qs) (next_pool Q)) Q.header

-- The command begins with every slot awake.
abbrev pub settle_under : List ℕ → Header → ℕ → Written
settle_under p h budget = settle_from all_awake p h budget

-- Settle for a caller who knows that the tree was red-black before one insert or delete of x (`settle_after_insert` and `settle_after_delete` in proofs/AfterUpdate.antt).
abbrev pub settled_after : List ℕ → Header → (x budget : ℕ) → Written
settled_after p h x budget = settle_from (woken_way h.root p x all_asleep) p h budget

-- The entries of a pool: the header is read once, at the beginning, and L written once, at the end; a step moves no other word of the header
-- (`settle_words_lem` in proofs/HeaderKept.antt).
unfoldable pub settle_answer : List ℕ → ℕ → Answer
settle_answer p budget = (settle_under p (header_of p) budget).result.answer

unfoldable pub settle_words : List ℕ → ℕ → List ℕ
settle_words p budget = level_written (settle_under p (header_of p) budget)
