-- The audit rules of document 01, read on the words, hold exactly where the words show a sound State, and that State is the one read off
-- what is found. One way: each slot is found once, so fewer than C + 1 are found, and what is found is all of a tree and of a chain. The
-- other way: a tree and a chain in C slots are found whole. Assumes nothing.
use mathlib.Core.Path.{◌≡◌, refl, ap, ◌∙◌, sym}
use mathlib.Core.Bool.{Bool, true, false}
use mathlib.Core.List.{List, ◌++◌}
use Prim.Native.Nat.{ℕ, suc, ◌+◌, ◌≤◌, ◌<◌, ◌^◌}
use native.Mathlib.Omega.{arith}
use lib.ListN.{length, get_or, length-append}
use borrow.Author.Tests.{eqb-true}
use Rattle.format.specs.declared.Header.{Header}
use Rattle.format.specs.Words.{slots_in, length_good, root_of, head_of}
use Rattle.format.specs.Shows.{HoldsTop, Chain, Shows}
use Rattle.format.specs.Audit.{is_slot, Found, chain_ends, tree_found, chain_found, slots_of, root_sums, rules_under, top_of, state_under}
use Rattle.tree.specs.Tree.{count_in}
use Rattle.tree.specs.State.{State, state, Top, empty, full, nodes, level_top, Sound}
use Rattle.tree.proofs.Counts.{OneOf}
use Rattle.tree.proofs.Order.{count_in_append}
use Rattle.tree.proofs.Totals.{total_each, total_chain}
use Rattle.tree.proofs.SoundStates.{state_eq}
use Rattle.format.proofs.Shown.{shows_length_good}
use Rattle.format.proofs.Cover.{LocalFacts, local_facts, facts_shows, facts_sound, sound_local}
use Rattle.format.proofs.RulesTests.{same_true}
use Rattle.format.proofs.RulesSlots.{slot_range}
use Rattle.format.proofs.RulesFound.{follow_out, found_slots, found_holds}
use Rattle.format.proofs.RulesChain.{chain_slots, chain_free, chain_found_lem, found_chain}
use Rattle.format.proofs.RulesSums.{root_weight}
use Rattle.format.proofs.RulesTop.{found_top, count_top_lem, length_top, top_found, top_rules, rules_top, top_level, top_root, top_follow, top_children}
use Rattle.format.proofs.RulesFacts.{times_found, Facts, rules_facts, facts_rules}

-- Rules to State.
-- What is found is all of T, of which the words hold each slot.
record Seen (h : Header) (p : List ℕ) (T : Top) : Type 0 where
  pub holds : HoldsTop p T
  pub root : h.root ≡ root_of T
  pub is : tree_found h p ≡ found_top T

module _ (h : Header) (p : List ℕ) (good : length_good p ≡ true) (f : Facts h p) where
  only_slots : (s : ℕ) → is_slot p s ≡ false → times_found h p s ≡ 0
  unfolding times_found tree_found chain_found
  only_slots s o = omega (arith, found_slots p s o (suc (slots_in p)) h.root, chain_slots p s o (suc (slots_in p)) h.free)

  -- As many slots are found as there are: those from 1 to C, once each.
  all_found : length (slots_of (tree_found h p)) + length (chain_found h p) ≡ slots_in p
  unfolding times_found
  all_found = omega (arith, total_chain (xs ++ ys) (slots_in p) (λ s. within s (is_slot p s) refl), total_each (λ s. count_in s (xs ++ ys)) (slots_in p) once, length-append xs ys)
    where
      xs : List ℕ
      xs = slots_of (tree_found h p)

      ys : List ℕ
      ys = chain_found h p

      once : (s : ℕ) → 1 ≤ s → s ≤ slots_in p → count_in s (xs ++ ys) ≡ 1
      once s a b = omega (arith, count_in_append s xs ys, f.once s a b)

      within : (s : ℕ) (b : Bool) → is_slot p s ≡ b → 1 ≤ count_in s (xs ++ ys) → OneOf (slots_in p) s
      within s true o i = let g = slot_range p s o in record { from_one = g.0; to_last = g.1 }
      within s false o i = absurd (omega (arith, count_in_append s xs ys, only_slots s o))

  chain_seen : Chain p h.free (chain_found h p)
  unfolding chain_found
  chain_seen = found_chain p (suc (slots_in p)) h.free (omega (arith, all_found)) f.ends f.free

  empty_seen : is_slot p h.root ≡ false → Seen h p empty
  unfolding tree_found found_top HoldsTop root_of slots_of
  empty_seen o =
      let e = follow_out p (suc (slots_in p)) h.root o in
      let n : h.nodes ≡ 0 = f.nodes ∙ ap (λ (x : Found). length (slots_of x)) e in
      record { holds = tt; root = eqb-true h.root 0 (rw (n, same_true) at f.root); is = e }

  full_seen : is_slot p h.root ≡ true → (T : Top) × Seen h p T
  unfolding tree_found found_top HoldsTop root_of
  full_seen o =
      let R = found_holds p (suc (slots_in p)) h.root o (omega (arith, all_found)) f.inner in
      let e : R.weight ≡ 1 = root_weight R.weight R.tree (rw R.is at f.tree.weights) in
      (full R.tree, record { holds = rw e at R.holds; root = sym R.at; is = rw e at R.is })

  top_seen : (b : Bool) → is_slot p h.root ≡ b → (T : Top) × Seen h p T
  top_seen true o = full_seen o
  top_seen false o = (empty, empty_seen o)

  module _ (T : Top) (v : Seen h p T) where
    state_seen : state_under h p ≡ state (slots_in p) T (chain_found h p)
    unfolding state_under
    state_seen = ap (λ (x : Top). state (slots_in p) x (chain_found h p)) (ap top_of v.is ∙ top_found p T v.holds)

    nodes_seen : length (slots_of (tree_found h p)) ≡ nodes T
    nodes_seen = ap (λ (x : Found). length (slots_of x)) v.is ∙ length_top T

    level_seen : head_of (root_sums (tree_found h p)) ≡ level_top T
    level_seen = ap (λ (x : Found). head_of (root_sums x)) v.is ∙ top_level p T v.holds

    seen_local : ((i : ℕ) → get_or p i 0 < 2 ^ 32) → LocalFacts h p T (chain_found h p)
    seen_local words =
        local_facts good v.root (f.nodes ∙ nodes_seen) (f.level ∙ level_seen) v.holds (rules_top p T words v.holds (rw v.is at f.tree)) chain_seen
        (omega (arith, all_found, nodes_seen))

-- A pool in which the rules hold shows a sound State. (Its words are 32-bit numbers, and so are its keys.)
pub rules_show : (h : Header) (p : List ℕ) → length_good p ≡ true → rules_under h p ≡ true → ((i : ℕ) → get_or p i 0 < 2 ^ 32) → Sound (state_under h p) × Shows h p (state_under h p)
rules_show h p good r words =
    let f = rules_facts h p r in
    let T = top_seen h p good f (is_slot p h.root) refl in
    let l = seen_local h p good f T.0 T.1 words in
    rw (state_seen h p good f T.0 T.1) (facts_sound l, facts_shows l)

-- State to rules.
module _ {h : Header} {p : List ℕ} {S : State} (sound : Sound S) (shows : Shows h p S) where
  local : LocalFacts h p S.top S.free
  local = sound_local sound shows

  slots_same : slots_in p ≡ S.slots
  slots_same = (shows_length_good sound shows).1

  tree_is : tree_found h p ≡ found_top S.top
  unfolding tree_found
  tree_is = rw local.root_is (top_follow p S.top shows.tree_held (suc (slots_in p)) (omega (arith, local.all_slots)))

  chain_is : (chain_found h p ≡ S.free) × (chain_ends (suc (slots_in p)) p h.free ≡ true)
  unfolding chain_found
  chain_is = chain_found_lem p local.chain_held (suc (slots_in p)) (omega (arith, local.all_slots))

  facts : Facts h p
  unfolding times_found
  facts = record {
    level = rw (tree_is, top_level p S.top shows.tree_held) local.level_is;
    once = λ s a b. rw (tree_is, chain_is.0, count_top_lem) (sound.once s a (omega (arith, slots_same)));
    nodes = rw (tree_is, length_top) local.nodes_is;
    root = rw (local.root_is, local.nodes_is) (top_root p S.top shows.tree_held);
    free = rw chain_is.0 (chain_free p shows.chain_held);
    ends = chain_is.1;
    inner = rw tree_is (top_children p S.top shows.tree_held);
    tree = rw tree_is (top_rules p S.top shows.tree_held sound.good);
  }

  state_same : state_under h p ≡ S
  unfolding state_under
  state_same = state_eq slots_same (ap top_of tree_is ∙ top_found p S.top shows.tree_held) chain_is.0

  -- In a pool that shows a sound State the rules hold, and that is the State that is read off.
  pub show_rules : (length_good p ≡ true) × (rules_under h p ≡ true) × (state_under h p ≡ S)
  show_rules = (local.length_good_holds, facts_rules h p facts, state_same)
