-- What a net sheet keeps true of its figures.
use Rattle.std.specs.Prelude.{ℕ, List, ℤ, pos, neg_ℤ, ◌≤ℤ◌, slice_index_or}

-- each figure lies between -n and n
abbrev pub Within : ℕ → List ℤ → Type 0
Within n figures = (k : ℕ) → (neg_ℤ (pos n) ≤ℤ slice_index_or figures k (pos 0)) × (slice_index_or figures k (pos 0) ≤ℤ pos n)
