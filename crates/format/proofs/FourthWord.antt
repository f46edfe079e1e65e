-- 02 (v): "Keep L in the fourth header word [..]. The audit checks it against the weights". Of words that pass the audit the fourth is L of
-- the tree that they show (`level_word`), and that is each leaf's sum of weights (`level_of_each_leaf`). Of any words of a good length whose
-- fourth is not the sum that is found at the first leaf the code is 2 (`level_checked`), so that no other word may stand in the place of L
-- (`other_level_refused`). Words of before this request had 0 there: with an L above 0 the code is 2 (`before_refused`), and with L 0 they
-- are the words of now (`before_same`).
-- Why: words that pass show a sound State, whose header has L. Writing L moves no slot, so that the tree that is found, and its sums, stay.
-- Assumes nothing.
use mathlib.Core.Path.{◌≡◌, refl, sym, ap, ◌∙◌}
use mathlib.Core.Logic.{◌≢◌}
use mathlib.Core.Bool.{Bool, true, false}
use mathlib.Core.List.{List, Memᴰ}
use Prim.Native.Nat.{ℕ}
use native.Mathlib.Omega.{arith}
use lib.ListN.{get_or}
use lib.Seq.{set-get_or}
use Rattle.format.specs.declared.Header.{Header}
use Rattle.format.specs.Words.{at_level, header_of, put_header, put_level, length_good, head_of}
use Rattle.format.specs.Shows.{Shows}
use Rattle.format.specs.Audit.{tree_found, root_sums, rules_under, rules_hold, state_under, state_of, audit_code}
use Rattle.tree.specs.Tree.{Tree, level, sums_from}
use Rattle.tree.specs.State.{State, full, level_top}
use Rattle.tree.proofs.SoundStates.{tree_good}
use Rattle.tree.proofs.StepLevels.{sums_equal}
use Rattle.format.proofs.Slots.{header_length, header_same, level_alone}
use Rattle.format.proofs.Frame.{top_header, chain_header}
use Rattle.format.proofs.Shown.{shows_level}
use Rattle.format.proofs.RulesFacts.{rules_facts}
use Rattle.format.proofs.Rules.{show_rules}
use Rattle.format.proofs.AuditCases.{Words32, Kept, code_kept, audit_codes}

pub level_word : (p : List ℕ) → Words32 p → audit_code p ≡ 0 → get_or p 3 0 ≡ level_top (state_of p).top
unfolding header_of
level_word p words passed = shows_level (code_kept p words passed).shows

-- "From root to leaf the weights, root's left out, add up to the same number L for every leaf": that number is the word.
pub level_of_each_leaf : (p : List ℕ) → Words32 p → audit_code p ≡ 0 → (t : Tree) → (state_of p).top ≡ full t
    → (x : ℕ) → Memᴰ x (sums_from 0 t) → x ≡ get_or p 3 0
unfolding level_top
level_of_each_leaf p words passed t e x m =
    let good = tree_good (state_of p) t (code_kept p words passed).sound e in
    let is : get_or p 3 0 ≡ level t = rw e at (level_word p words passed) in
    omega (arith, sums_equal 0 1 t good.chromatic x m)

-- Any words of a good length, whatever is found by following them: `head_of` of the sums is the first leaf's, and 0 where no leaf is found.
pub level_checked : (p : List ℕ) → length_good p ≡ true → get_or p 3 0 ≢ head_of (root_sums (tree_found (header_of p) p)) → audit_code p ≡ 2
unfolding header_of
level_checked p long other = go (rules_hold p) refl
  where
    go : (b : Bool) → rules_hold p ≡ b → audit_code p ≡ 2
    go true r = absurd (other (rules_facts (header_of p) p r).level)
    go false r = (audit_codes p).broken_when.1 (long, r)

-- Another word in the place of L: slots stay, and with them the tree that is found.
still_shown : {h : Header} {p : List ℕ} {S : State} → Shows h p S → (d : Header) → Shows h (put_header p d) S
still_shown {p = p} {S} shows d = record {
  length_is = header_length p d ∙ shows.length_is;
  header_is = shows.header_is;
  tree_held = top_header p S.top d shows.tree_held;
  chain_held = chain_header shows.chain_held d;
}

module _ (p : List ℕ) (words : Words32 p) (passed : audit_code p ≡ 0) where
  pub other_level_refused : (l : ℕ) → get_or p 3 0 ≢ l → audit_code (put_level p l) ≡ 2
  unfolding header_of tree_found
  other_level_refused l d = rw (← level_alone p l) (level_checked q g.0 (λ e. d (sums ∙ sym e ∙ ap (λ (h : Header). h.level) written)))
    where
      K : Kept p (header_of p)
      K = code_kept p words passed

      q : List ℕ
      q = put_header p (at_level (header_of p) l)

      written : header_of q ≡ at_level (header_of p) l
      written = header_same p (at_level (header_of p) l) (omega (arith, K.shows.length_is))

      g : (length_good q ≡ true) × (rules_under (header_of p) q ≡ true) × (state_under (header_of p) q ≡ state_of p)
      g = show_rules K.sound (still_shown K.shows (at_level (header_of p) l))

      -- the root's slot stays too
      sums : get_or p 3 0 ≡ head_of (root_sums (tree_found (header_of q) q))
      sums = (rules_facts (header_of p) q g.1).level ∙ sym (ap (λ (h : Header). head_of (root_sums (tree_found h q))) written)

  -- A pool of before: 0 in the fourth word, and an L above 0.
  pub before_refused : get_or p 3 0 ≢ 0 → audit_code (put_level p 0) ≡ 2
  before_refused = other_level_refused 0

-- With L 0 the words of before are those of now.
pub before_same : (p : List ℕ) → get_or p 3 0 ≡ 0 → put_level p 0 ≡ p
unfolding put_level
before_same p e = ap (λ (l : ℕ). put_level p l) (sym e) ∙ set-get_or p 3 0
