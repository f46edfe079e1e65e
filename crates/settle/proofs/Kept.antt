-- What a step keeps of the header, whatever the words: its effect writes slots (`applied_header` of crate kinds), and the header after it is the
-- one before it with another L. Where only such steps were made, L is all that there is to write (`level_written_lem`). Assumes nothing.
use mathlib.Core.Path.{◌≡◌, refl, sym, ap, ◌∙◌}
use mathlib.Core.List.{List}
use Prim.Native.Nat.{ℕ, ◌≤◌}
use Rattle.tree.specs.declared.Kind.{Kind}
use Rattle.format.specs.declared.Header.{Header}
use Rattle.format.specs.Words.{at_level, header_of, put_header}
use Rattle.format.specs.Performing.{Written, words_after}
use Rattle.format.proofs.Slots.{level_alone}
use Rattle.kinds.specs.declared.Around.{Around}
use Rattle.kinds.specs.Effects.{header_after}
use Rattle.kinds.proofs.HeaderKept.{applied_header}
use Rattle.steps.specs.Steps.{taken_words, level_written}

-- from a header and words to others: the first four words stay, and of the header all but L
pub record Kept (h : Header) (p : List ℕ) (g : Header) (q : List ℕ) : Type 0 where
  words_kept : header_of q ≡ header_of p
  header_kept : g ≡ at_level h g.level

pub kept_same : (h : Header) (p : List ℕ) → Kept h p h p
kept_same h p = record { words_kept = refl; header_kept = refl }

pub kept_more : {h g f : Header} {p q r : List ℕ} → Kept h p g q → Kept g q f r → Kept h p f r
kept_more {f = f} a b = record {
  words_kept = b.words_kept ∙ a.words_kept;
  header_kept = b.header_kept ∙ ap (λ (h : Header). at_level h f.level) a.header_kept;
}

-- an effect at a slot
pub kept_step : (h : Header) (p : List ℕ) (s : ℕ) (k : Kind) (a : Around) → 1 ≤ s → Kept h p (header_after k s h) (taken_words h.root p s k a)
unfolding header_after
kept_step h p s k a i = record { words_kept = applied_header p s k _ _ i; header_kept = refl }

-- from them to what an operation leaves
abbrev pub KeptBy : Header → List ℕ → Written → Type 0
KeptBy h p w = Kept h p w.result.header w.words

-- then L is all that there is to write
pub level_written_lem : (p : List ℕ) (w : Written) → KeptBy (header_of p) p w → level_written w ≡ words_after w
level_written_lem p w k =
    sym (level_alone w.words w.result.header.level)
    ∙ ap (put_header w.words) (ap (λ (h : Header). at_level h w.result.header.level) k.words_kept ∙ sym k.header_kept)
