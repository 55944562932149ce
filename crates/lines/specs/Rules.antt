-- The rules of credit: who may trade, what is refused, and in which order.
use Rattle.std.specs.Prelude.{◌≡◌, ℕ, ◌+◌, ◌-◌, ◌^◌, ◌<◌, ◌≤◌, Bool, true, false, cond, not, ◌&&◌, ◌||◌, ◌⊎◌, List, [], ◌∷◌, Some, None, Ok, Err, Option, Result, MatchResult, ◌==◌, nat_lt}
use Rattle.std.specs.Option.{option_or}
use Rattle.lines.specs.Credit.{Credit, is, Same, Limited, Barred, Grown, Freed}
use Rattle.lines.specs.declared.table.Fault.{Fault}
use Rattle.lines.specs.declared.table.Fault.TheVariants.{OwnHouse, Blocked, Short}
use Rattle.lines.specs.declared.table.Refusal.{Refusal}
use Rattle.lines.specs.declared.table.Refusal.TheVariants.{NoHouse, OneHouse, BadLimit}
use Rattle.lines.specs.declared.table.LessUsed.{LessUsed}
use Rattle.lines.specs.declared.table.Line.{Line}
use Rattle.lines.specs.declared.table.Deal.{Deal}

-- two houses: each below 16, and not one house twice
abbrev pub two_houses : (a b : ℕ) → Bool
two_houses a b = nat_lt a 16 && (nat_lt b 16 && not (a == b))

-- what holds of the lines and blocks at all times: no line is used above its limit, no limit is above the ceiling, and there are lines and blocks between two houses alone
pub record Sound (c : Credit) : Type 0 where
  pub within : (g k : ℕ) → c.used g k ≤ c.limit g k
  pub capped : (g k : ℕ) → c.limit g k ≤ 10 ^ 15
  pub no_line : (g k : ℕ) → two_houses g k ≡ false → c.limit g k ≡ 0
  pub no_block : (g k : ℕ) → two_houses g k ≡ false → c.blocked g k ≡ false

-- done, unless something stands against it
abbrev pub answered : {E : Type 0} → Option E → Result (Unit {0}) E
answered None = Ok tt
answered (Some e) = Err e

-- the number of a refusal
abbrev pub refusal_number : Refusal → ℕ
refusal_number NoHouse = 1
refusal_number OneHouse = 2
refusal_number BadLimit = 9

-- the case of a fault, and its particulars: who blocks; granter, counterparty and the pesos missing
abbrev pub fault_case : Fault → ℕ
fault_case OwnHouse = 1
fault_case (Blocked by) = 2
fault_case (Short granter counterparty pesos) = 3

abbrev pub fault_figures : Fault → List ℕ
fault_figures OwnHouse = []
fault_figures (Blocked by) = by ∷ []
fault_figures (Short granter counterparty pesos) = granter ∷ counterparty ∷ pesos ∷ []

-- why a call that names these two is refused, by the first rule that it breaks
abbrev pub pair_refused : (a b : ℕ) → Option Refusal
pair_refused a b =
    cond (not (nat_lt a 16) || not (nat_lt b 16)) (Some NoHouse)
    (cond (a == b) (Some OneHouse) None)

abbrev pub limit_refused : Credit → (a b pesos : ℕ) → Option Refusal
limit_refused c a b pesos =
    option_or (pair_refused a b) (cond (nat_lt pesos (c.used a b) || nat_lt (10 ^ 15) pesos) (Some BadLimit) None)

-- the limit of the line of a on b is set to `pesos`, and r answered
pub record LimitSet (old : Credit) (a b pesos : ℕ) (r : Result (Unit {0}) Refusal) (new : Credit) : Type 0 where
  pub answer : r ≡ answered (limit_refused old a b pesos)
  pub after : MatchResult r (λ _. Limited old a b pesos new) (λ _. Same old new)

-- the block of a on b is set or lifted, and r answered
pub record BlockSet (old : Credit) (a b : ℕ) (on : Bool) (r : Result (Unit {0}) Refusal) (new : Credit) : Type 0 where
  pub answer : r ≡ answered (pair_refused a b)
  pub after : MatchResult r (λ _. Barred old a b on new) (λ _. Same old new)

-- r is the line of a on b, or why none is shown
abbrev pub Shown : Credit → (a b : ℕ) → Result Line Refusal → Type 0
Shown c a b (Ok line) = (pair_refused a b ≡ None) × (line.limit ≡ c.limit a b) × (line.used ≡ c.used a b)
Shown c a b (Err e) = pair_refused a b ≡ Some e

-- the line of a on b has no room for the value
abbrev pub lacks : Credit → (a b value : ℕ) → Bool
lacks c a b value = nat_lt (c.limit a b) (c.used a b + value)

-- the pesos that it has too few
abbrev pub missing : Credit → (a b value : ℕ) → ℕ
missing c a b value = c.used a b + value - c.limit a b

-- why the value may not be used of the line of a on b
abbrev pub short : Credit → (a b value : ℕ) → Option Fault
short c a b value = cond (lacks c a b value) (Some (Short a b (missing c a b value))) None

-- why the two may not trade, by the first rule that stands against it
abbrev pub fault : Credit → Deal → Option Fault
fault c d =
    cond (d.buyer == d.seller) (Some OwnHouse)
    (cond (c.blocked d.buyer d.seller) (Some (Blocked d.buyer))
    (cond (c.blocked d.seller d.buyer) (Some (Blocked d.seller))
    (cond (d.pledges.0 && lacks c d.buyer d.seller d.value) (Some (Short d.buyer d.seller (missing c d.buyer d.seller d.value)))
    (cond (d.pledges.1 && lacks c d.seller d.buyer d.value) (Some (Short d.seller d.buyer (missing c d.seller d.buyer d.value))) None))))

-- they may trade: two houses, neither blocks the other, and each pledging side's line on the other has the room
pub record MayTrade (c : Credit) (d : Deal) : Type 0 where
  pub apart : d.buyer ≡ d.seller → ⊥
  pub buyer_open : c.blocked d.buyer d.seller ≡ false
  pub seller_open : c.blocked d.seller d.buyer ≡ false
  pub buyer_room : d.pledges.0 ≡ true → c.used d.buyer d.seller + d.value ≤ c.limit d.buyer d.seller
  pub seller_room : d.pledges.1 ≡ true → c.used d.seller d.buyer + d.value ≤ c.limit d.seller d.buyer

-- a trade falls on the line of g on k, since it is a pledging side's line on the other
abbrev pub falls_on : (pledges : Bool × Bool) (buyer seller g k : ℕ) → Bool
falls_on pledges buyer seller g k = (pledges.0 && is buyer seller g k) || (pledges.1 && is seller buyer g k)

-- what a fault says is so
abbrev pub Stands : Credit → Deal → Fault → Type 0
Stands c d OwnHouse = d.buyer ≡ d.seller
Stands c d (Blocked by) =
    ((by ≡ d.buyer) × (c.blocked d.buyer d.seller ≡ true)) ⊎ ((by ≡ d.seller) × (c.blocked d.seller d.buyer ≡ true))
Stands c d (Short granter counterparty pesos) =
    (falls_on d.pledges d.buyer d.seller granter counterparty ≡ true) × (c.used granter counterparty + d.value ≡ c.limit granter counterparty + pesos) × (0 < pesos)

-- no fault is found exactly where they may trade, and one that is found stands
abbrev pub Exact : Credit → Deal → Result (Unit {0}) Fault → Type 0
Exact c d (Ok done) = MayTrade c d
Exact c d (Err f) = (MayTrade c d → ⊥) × Stands c d f

-- a use of the lines by a trade, which takes `before` to `after`
pub record Used (before : Credit) (d : Deal) (after : Credit) : Type 0 where
  pub may : fault before d ≡ None
  pub grown : Grown before (falls_on d.pledges d.buyer d.seller) d.value after

-- the lines of a trade are to be used, and r answered
pub record Uses (old : Credit) (d : Deal) (r : Result (Unit {0}) Fault) (new : Credit) : Type 0 where
  pub answer : r ≡ answered (fault old d)
  pub after : MatchResult r (λ _. Used old d new) (λ _. Same old new)

-- the line of a on b with what is used of it
abbrev pub less_used : Credit → (a b : ℕ) → LessUsed
less_used c a b = record { granter = a; counterparty = b; used = c.used a b }

-- why a value is not freed: the line, or the first of a trade's lines, with less used
abbrev pub free_refused : Credit → (a b value : ℕ) → Option LessUsed
free_refused c a b value = cond (nat_lt (c.used a b) value) (Some (less_used c a b)) None

abbrev pub pair_free_refused : Credit → Deal → Option LessUsed
pair_free_refused c d =
    cond (d.pledges.0 && nat_lt (c.used d.buyer d.seller) d.value) (Some (less_used c d.buyer d.seller))
    (cond (d.pledges.1 && nat_lt (c.used d.seller d.buyer) d.value) (Some (less_used c d.seller d.buyer)) None)

-- the line of a on b is to be freed of a value, and r answered
pub record Frees (old : Credit) (a b value : ℕ) (r : Result (Unit {0}) LessUsed) (new : Credit) : Type 0 where
  pub answer : r ≡ answered (free_refused old a b value)
  pub after : MatchResult r (λ _. Freed old (is a b) value new) (λ _. Same old new)

-- the lines of a trade are to be freed, and r answered
pub record FreesPair (old : Credit) (d : Deal) (r : Result (Unit {0}) LessUsed) (new : Credit) : Type 0 where
  pub answer : r ≡ answered (pair_free_refused old d)
  pub after : MatchResult r (λ _. Freed old (falls_on d.pledges d.buyer d.seller) d.value new) (λ _. Same old new)

-- THE LAW: what a use took from `before` to `old`, freeing it takes back, line by line and block by block
abbrev pub Restores : (old : Credit) (d : Deal) (r : Result (Unit {0}) LessUsed) (new : Credit) → Type 0
Restores old d r new = (before : Credit) → Used before d old → (r ≡ Ok tt) × Same before new
