-- What the table of lines and blocks means.
use Rattle.std.specs.Prelude.{◌≡◌, ℕ, ◌+◌, ◌*◌, false, cond, List, map, slice_index_or}
use Rattle.lines.specs.Credit.{Credit, set_at}
use Rattle.lines.specs.Rules.{two_houses}
use Rattle.lines.specs.declared.table.Stance.{Stance}
use Rattle.lines.specs.declared.table.Lines.{Lines}

-- a figure of what g has on k, and `none` where they are not two houses
abbrev pub figure_at : {X : Type 0} → (Stance → X) → X → List Stance → (g k : ℕ) → X
figure_at figure none stances g k = cond (two_houses g k) (slice_index_or (map figure stances) (g * 16 + k) none) none

unfoldable pub credit : Lines → Credit
credit l = record {
  limit = figure_at (λ s. s.line.limit) 0 l.stances;
  used = figure_at (λ s. s.line.used) 0 l.stances;
  blocked = figure_at (λ s. s.blocked) false l.stances;
}

-- s is what a has on b
pub record Has (c : Credit) (a b : ℕ) (s : Stance) : Type 0 where
  pub limit : s.line.limit ≡ c.limit a b
  pub used : s.line.used ≡ c.used a b
  pub blocked : s.blocked ≡ c.blocked a b

-- a has s on b, and all else is as it was
pub record Put (old : Credit) (a b : ℕ) (s : Stance) (new : Credit) : Type 0 where
  pub limit : (g k : ℕ) → new.limit g k ≡ set_at old.limit a b s.line.limit g k
  pub used : (g k : ℕ) → new.used g k ≡ set_at old.used a b s.line.used g k
  pub blocked : (g k : ℕ) → new.blocked g k ≡ set_at old.blocked a b s.blocked g k
