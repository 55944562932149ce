-- Credit between houses: lines in pesos, and blocks.
use Rattle.std.specs.Prelude.{◌≡◌, ℕ, ◌+◌, ◌-◌, Bool, false, cond, ◌&&◌, ◌==◌}

-- the line of a granter on a counterparty, and whether a house blocks another
pub record Credit : Type 0 where
  pub limit : (granter counterparty : ℕ) → ℕ
  pub used : (granter counterparty : ℕ) → ℕ
  pub blocked : (house other : ℕ) → Bool

-- g and k are the houses a and b, in this order
abbrev pub is : (a b g k : ℕ) → Bool
is a b g k = g == a && k == b

-- every line at nothing, and no block
pub record Clear (new : Credit) : Type 0 where
  pub limit : (g k : ℕ) → new.limit g k ≡ 0
  pub used : (g k : ℕ) → new.used g k ≡ 0
  pub blocked : (g k : ℕ) → new.blocked g k ≡ false

-- every line and every block as it was
pub record Same (old new : Credit) : Type 0 where
  pub limit : (g k : ℕ) → new.limit g k ≡ old.limit g k
  pub used : (g k : ℕ) → new.used g k ≡ old.used g k
  pub blocked : (g k : ℕ) → new.blocked g k ≡ old.blocked g k

-- f, but x at a and b
abbrev pub set_at : {X : Type 0} → (f : (g k : ℕ) → X) (a b : ℕ) → X → (g k : ℕ) → X
set_at f a b x g k = cond (is a b g k) x (f g k)

-- the line of a on b has the limit `pesos`, and all else is as it was
pub record Limited (old : Credit) (a b pesos : ℕ) (new : Credit) : Type 0 where
  pub limit : (g k : ℕ) → new.limit g k ≡ set_at old.limit a b pesos g k
  pub used : (g k : ℕ) → new.used g k ≡ old.used g k
  pub blocked : (g k : ℕ) → new.blocked g k ≡ old.blocked g k

-- the house a blocks b, or does not, as `on` says, and all else is as it was
pub record Barred (old : Credit) (a b : ℕ) (on : Bool) (new : Credit) : Type 0 where
  pub limit : (g k : ℕ) → new.limit g k ≡ old.limit g k
  pub used : (g k : ℕ) → new.used g k ≡ old.used g k
  pub blocked : (g k : ℕ) → new.blocked g k ≡ set_at old.blocked a b on g k

-- of each line as much is used as `draw` says, and all else is as it was
pub record Drawn (old : Credit) (draw : (g k : ℕ) → ℕ) (new : Credit) : Type 0 where
  pub limit : (g k : ℕ) → new.limit g k ≡ old.limit g k
  pub used : (g k : ℕ) → new.used g k ≡ draw g k
  pub blocked : (g k : ℕ) → new.blocked g k ≡ old.blocked g k

-- `value` more is used of each line that `on` names, and all else is as it was
abbrev pub Grown : (old : Credit) (on : (g k : ℕ) → Bool) (value : ℕ) (new : Credit) → Type 0
Grown old on value new = Drawn old (λ g k. old.used g k + cond (on g k) value 0) new

-- `value` less is used of each line that `on` names, and all else is as it was
abbrev pub Freed : (old : Credit) (on : (g k : ℕ) → Bool) (value : ℕ) (new : Credit) → Type 0
Freed old on value new = Drawn old (λ g k. old.used g k - cond (on g k) value 0) new
