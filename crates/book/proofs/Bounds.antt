-- How far an acceptable posting goes.
use Rattle.std.proofs.Common.{◌≡◌, ℕ, ◌<◌, ◌≤◌, true, pos, neg_ℤ, ◌≤ℤ◌, None, arith}
use Rattle.std.proofs.lemmas.Int.{ints}
use Rattle.std.proofs.lemmas.Bool.Decides.{nat_tests}
use Rattle.book.specs.Sheet.{acceptable, first_refusal, moved}
use Rattle.book.specs.declared.posting.Posting.{Posting}

pub record Bounds (x : Posting) : Type 0 where
  pub buyer : x.buyer < 16
  pub seller : x.seller < 16
  pub paper : x.paper < 8
  pub lots : x.lots ≤ 1000000
  pub pesos : x.pesos ≤ 200000000000

pub bounds : (x : Posting) → acceptable x ≡ true → Bounds x
unfolding acceptable
bounds x e = grind (arith, nat_tests)

pub allowed : (places : ℕ) (x : Posting) → first_refusal places x ≡ None → acceptable x ≡ true
allowed places x e = grind (arith, nat_tests)

-- what a posting adds to a balance is no more than it moves
pub moved_within : (to from n k : ℕ) → (neg_ℤ (pos n) ≤ℤ moved to from n k) × (moved to from n k ≤ℤ pos n)
moved_within to from n k = grind (arith, ints, nat_tests)
