-- The writer's whole: what it may ask of the tree of words that passed the audit, and that what it answers and writes is the definition's.
-- Assumes nothing.
use mathlib.Core.Path.{◌≡◌, ap, ◌∙◌}
use mathlib.Core.Logic.{◌≢◌}
use mathlib.Core.List.{List, [], ◌∷◌, ◌++◌}
use lib.ListN.{length}
use lib.Seq.{sets, sets-eq}
use Prim.Native.Nat.{ℕ, ◌+◌, ◌*◌, ◌^◌, ◌≤◌, ◌<◌}
use native.Mathlib.Omega.{arith}
use Rattle.tree.specs.declared.Refusal.TheVariants.{NoFit}
use Rattle.tree.specs.declared.Answer.TheVariants.{Done, Refused}
use Rattle.tree.specs.Codes.{most_slots}
use Rattle.tree.specs.Tree.{Tree}
use Rattle.tree.specs.State.{Top, full}
use Rattle.tree.proofs.SoundStates.{sound_total}
use Rattle.format.specs.declared.Header.{Header}
use Rattle.format.specs.Words.{last_slot}
use Rattle.std.specs.Prelude.{Err}
use Rattle.format.specs.declared.Unsound.{Unsound}
use Rattle.format.specs.declared.Unsound.TheVariants.{Length, Broken}
use Rattle.format.specs.Audit.{state_of, audited, refusal_of}
use Rattle.format.proofs.Shown.{shows_nodes}
use Rattle.format.proofs.AuditCases.{Kept, length_wrong, rules_are_broken}
use Rattle.pool.specs.Standing.{Standing, allowance}
use Rattle.pool.proofs.Standing.{Rooted, no_root, root_standing}
use Rattle.saved.specs.Saved.{tree_numbers, top_numbers, saved_numbers, bytes_of_all, saved_bytes}
use Rattle.saved.specs.Calls.{save_into, save_call}
use Rattle.saved.proofs.ReadLists.{all_none}
use Rattle.saved.proofs.Lengths.{saved_length}
use Rattle.saved.proofs.Restarts.{both, slots_are, into_fits, into_short, save_length, save_broken}
use Rattle.save.specs.Writing.{Stands, Placed, Put, Puts}
use Rattle.save.proofs.Writing.{put_then}

abbrev widen : {p : List ℕ} {s n left : ℕ} → Standing p s n left → Stands p s left
widen S = record { lo = S.lo; hi = S.hi; weight = S.weight; tree = S.tree; fine = S.fine; inside = omega (arith, S.inside, S.few); few = omega arith }

top_tree : {t : Top} {w : ℕ} {u : Tree} → t ≡ full u → w ≡ 1 → tree_numbers w u ≡ top_numbers t
unfolding top_numbers
top_tree e f = rw (e, f)

module _ {p : List ℕ} {h : Header} (K : Kept p h) where
  -- No root, no nodes.
  module _ (none : h.root ≡ 0) where
    no_numbers : top_numbers (state_of p).top ≡ []
    unfolding top_numbers
    no_numbers = rw (no_root K none)

    pub put_none : (out : List ℕ) (at : ℕ) → Put (top_numbers (state_of p).top) out out at at
    put_none out at = record { next = rw (no_numbers, all_none) (omega arith); wrote = rw (no_numbers, all_none) }

  -- Else the tree at the root.
  module _ (some-root : h.root ≢ 0) {left : ℕ} (allowed : left ≡ allowance p) where
    rooted : Rooted p h
    rooted = root_standing K some-root

    numbers_are : tree_numbers rooted.standing.weight rooted.standing.tree ≡ top_numbers (state_of p).top
    numbers_are = top_tree rooted.top_is rooted.weight_is

    pub root_placed : {at : ℕ} → at < 2 ^ 32 → Placed p h.root left at
    root_placed few = rw allowed (record { standing = widen rooted.standing; room = omega (arith, rooted.standing.inside, rooted.standing.few) })

    pub nodes_put : {out end : List ℕ} {at r : ℕ} → Puts p h.root left out end at r → Put (top_numbers (state_of p).top) out end at r
    nodes_put {out} {end} {at} {r} f = rw numbers_are at ((rw allowed at f) (widen rooted.standing))

  -- C, N and the nodes.
  module _ {c : ℕ} (slots : c ≡ last_slot p) where
    slots_same : c ≡ (state_of p).slots
    slots_same = omega (arith, slots_are p, K.sound.few)

    saved_is : saved_bytes (state_of p) ≡ bytes_of_all ((c ∷ (h.nodes ∷ [])) ++ top_numbers (state_of p).top)
    unfolding saved_bytes saved_numbers
    saved_is = rw (slots_same, shows_nodes K.shows)

    pub saved_wrote : {i r : ℕ} {out mid end : List ℕ} → Put (c ∷ (h.nodes ∷ [])) out mid 0 i → Put (top_numbers (state_of p).top) mid end i r
        → (r ≡ length (saved_bytes (state_of p))) × (end ≡ sets out 0 (saved_bytes (state_of p)))
    saved_wrote a b = let all = put_then a b in rw saved_is (omega (arith, all.next), all.wrote)

  pub saved_small : length (saved_bytes (state_of p)) ≤ 7 * most_slots + 4
  saved_small = omega (arith, saved_length K.sound, sound_total K.sound, K.sound.few)

-- What the call answers and leaves.
module _ (bytes out : List ℕ) {n : ℕ} (count : n ≡ length bytes) where
  pub no_fit : length out < n → (Refused NoFit ≡ (save_into bytes out).answer) × (out ≡ (save_into bytes out).left)
  no_fit h = both (into_short bytes out (omega arith))

  pub fit : {end : List ℕ} → n ≤ length out → end ≡ sets out 0 bytes → (Done n ≡ (save_into bytes out).answer) × (end ≡ (save_into bytes out).left)
  fit h w =
      let z : 0 + length bytes ≡ length bytes = omega arith in
      let b = both (into_fits bytes out (omega arith)) in
      (ap Done count ∙ b.0, w ∙ (sets-eq bytes out 0 (omega arith) ∙ rw z b.1))

-- What the audit refuses, and what it does not.
pub unsound_refused : (p out : List ℕ) {u : Unsound} → audited p ≡ Err u
    → (Refused (refusal_of u) ≡ (save_call p out).answer) × (out ≡ (save_call p out).left)
unsound_refused p out {u} e = go u e
  where
    go : (v : Unsound) → audited p ≡ Err v → (Refused (refusal_of v) ≡ (save_call p out).answer) × (out ≡ (save_call p out).left)
    go Length f = both (save_length p out (length_wrong p f))
    go Broken f = let x = rules_are_broken p f in both (save_broken p out x.0 x.1)
