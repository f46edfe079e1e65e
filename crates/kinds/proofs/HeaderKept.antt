-- What a step writes is slots: on any words it leaves the first four, where a pool's header lies (`applied_header`). Assumes nothing.
use Rattle.std.proofs.Common.{◌≡◌, ℕ, ◌≤◌, Bool, List, ◌∙◌, arith, eq-eqb, ne_eqb}
use Rattle.tree.specs.declared.Kind.{Kind}
use Rattle.tree.specs.declared.Kind.TheVariants.{Blacken, SingleLeft, SingleRight, DoubleLeft, DoubleRight, Lighten, LightenLeft, LightenRight}
use Rattle.tree.proofs.Counts.{same_or_not}
use Rattle.format.specs.declared.Part.{Part}
use Rattle.format.specs.declared.Part.TheVariants.{Key, Left, Right}
use Rattle.format.specs.Words.{header_of}
use Rattle.format.proofs.Slots.{header_after_slot}
use Rattle.format.proofs.Parts.{part_header}
use Rattle.kinds.specs.declared.Around.{Around}
use Rattle.kinds.specs.declared.Write.{Write}
use Rattle.kinds.specs.declared.Change.{Change}
use Rattle.kinds.specs.Effects.{effect, put_write, put_change, put_only, put_double, put_effect, applied}

write_header : (p : List ℕ) (w : Write) → header_of (put_write p w) ≡ header_of p
unfolding put_write
write_header p w = same_or_not w.slot 0
    (λ e. rw (eq-eqb w.slot 0 e, put_write))
    (λ n. rw (ne_eqb w.slot 0 n, put_write) (header_after_slot p w.slot w.words (omega arith)))

only_header : (p : List ℕ) (w : Write) (x : Part) → header_of (put_only p w x) ≡ header_of p
unfolding put_only
only_header p w x = same_or_not w.slot 0
    (λ e. rw (eq-eqb w.slot 0 e, put_only))
    (λ n. rw (ne_eqb w.slot 0 n, put_only) (part_header p w.slot x w.words (omega arith)))

module _ (p : List ℕ) (s : ℕ) (h : 1 ≤ s) (c : Change) where
  change_header : header_of (put_change p s c) ≡ header_of p
  unfolding put_change
  change_header = write_header _ _ ∙ (write_header _ _ ∙ (write_header _ _ ∙ header_after_slot p s c.v h))

  double_header : (x : Part) → header_of (put_double p s c x) ≡ header_of p
  unfolding put_double
  double_header x =
      only_header _ _ _ ∙ (only_header _ _ _ ∙ (only_header _ _ _ ∙ (only_header _ _ _ ∙ (part_header _ s x c.v h ∙ part_header p s Key c.v h))))

  effect_header : (k : Kind) → header_of (put_effect k p s c) ≡ header_of p
  unfolding put_effect
  effect_header Blacken = change_header
  effect_header SingleLeft = change_header
  effect_header SingleRight = change_header
  effect_header DoubleLeft = double_header Right
  effect_header DoubleRight = double_header Left
  effect_header Lighten = change_header
  effect_header LightenLeft = change_header
  effect_header LightenRight = change_header

pub applied_header : (p : List ℕ) (s : ℕ) (k : Kind) (root : Bool) (a : Around) → 1 ≤ s → header_of (applied p s k root a) ≡ header_of p
unfolding applied
applied_header p s k root a h = effect_header p s h (effect k root a) k
