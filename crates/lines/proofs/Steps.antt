-- What the two writes of a freed deal make of what is used of each line.
use Rattle.std.proofs.Common.{◌≡◌, ℕ, ◌-◌, Bool, cond, ◌&&◌, ◌||◌, arith}
use Rattle.std.proofs.lemmas.Bool.Decides.{nat_tests}
use Rattle.lines.specs.Credit.{is, set_at}

-- f says what was used before, m between the two and h after them
pub less_both : (f m h : ℕ → ℕ → ℕ) (p q : Bool) (b s v x y : ℕ) → (b ≡ s → f b s ≡ 0) → x ≡ f b s - cond p v 0 → y ≡ f s b - cond q v 0 → (g k : ℕ)
    → m g k ≡ set_at f b s x g k → h g k ≡ set_at m s b y g k → h g k ≡ f g k - cond ((p && is b s g k) || (q && is s b g k)) v 0
less_both f m h p q b s v x y own buyers sellers g k first second = grind (arith, nat_tests)
