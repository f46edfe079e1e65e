-- What an update says of slot v: one thing where v is the root, another where v is below it. Assumes nothing.
use Rattle.std.proofs.Common.{◌≡◌, ℕ, ◌≢◌, refl, eq-eqb, ne_eqb}
use Rattle.updates.specs.Updating.{by_root}

pub by_root_lem : (v there below : ℕ) → by_root v v there below ≡ there
unfolding by_root
by_root_lem v there below = rw (eq-eqb v v refl, by_root)

pub by_below : (root v there below : ℕ) → root ≢ v → by_root root v there below ≡ below
unfolding by_root
by_below root v there below n = rw (ne_eqb root v n, by_root)
