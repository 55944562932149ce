-- What a market means, and the law that binds every market.
use Rattle.std.specs.Prelude.{◌≡◌, ℕ, ◌*◌, ◌≤◌, Bool, true, false, ◌&&◌, nat_le}

-- a market, as everything above it sees it
pub record Meaning : Type 0 where
  pub lowest : ℕ
  pub highest : ℕ
  pub rank : (quote : ℕ) → ℕ
  pub value : (lots quote days : ℕ) → ℕ
  -- whether the buyer pledges a line, and whether the seller does
  pub pledges : Bool × Bool

abbrev pub between : (least most n : ℕ) → Bool
between least most n = nat_le least n && nat_le n most

-- lots from 1 to a million, a quote of the market, and days from 0 to 365
abbrev pub tradable : (lowest highest lots quote days : ℕ) → Bool
tradable lowest highest lots quote days = between 1 1000000 lots && (between lowest highest quote && nat_le days 365)

-- the bounds of quotes, ranks and values; outside them rank and value are 0
pub record Ranged (m : Meaning) : Type 0 where
  pub lowest_quote : 1 ≤ m.lowest
  pub some_quote : m.lowest ≤ m.highest
  pub highest_quote : m.highest ≤ 1000000
  pub rank_inside : (quote : ℕ) → between m.lowest m.highest quote ≡ true → (1 ≤ m.rank quote) × (m.rank quote ≤ 1000000)
  pub rank_outside : (quote : ℕ) → between m.lowest m.highest quote ≡ false → m.rank quote ≡ 0
  pub value_inside : (lots quote days : ℕ) → tradable m.lowest m.highest lots quote days ≡ true → (1 ≤ m.value lots quote days) × (m.value lots quote days ≤ 200000 * lots)
  pub value_outside : (lots quote days : ℕ) → tradable m.lowest m.highest lots quote days ≡ false → m.value lots quote days ≡ 0

-- the law: for the same lots and days, a quote whose rank is at least another's never has the smaller value
abbrev pub Dearer : Meaning → Type 0
Dearer m = (lots days quote other : ℕ) → m.rank other ≤ m.rank quote → m.value lots other days ≤ m.value lots quote days
