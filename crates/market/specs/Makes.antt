-- The three markets.
use Rattle.std.specs.Prelude.{ℕ, ◌+◌, ◌-◌, ◌*◌, ◌/◌, ◌%◌, Bool, true, false, cond, nat_le}
use Rattle.market.specs.Meaning.{Meaning, between, tradable}

-- what sets one market apart, for what is in range
pub record Formulas : Type 0 where
  pub highest : ℕ
  pub rank : (quote : ℕ) → ℕ
  pub value : (lots quote days : ℕ) → ℕ
  pub pledges : Bool × Bool

-- a market of the quotes from 1 up, by its formulas
abbrev pub market : Formulas → Meaning
market f = record {
  lowest = 1;
  highest = f.highest;
  rank = λ quote. cond (between 1 f.highest quote) (f.rank quote) 0;
  value = λ lots quote days. cond (tradable 1 f.highest lots quote days) (f.value lots quote days) 0;
  pledges = f.pledges;
}

-- quotes are prices, in thousandths of one per cent of nominal
abbrev pub price_formulas : Formulas
price_formulas = record { highest = 200000; rank = λ quote. quote; value = λ lots quote days. lots * quote; pledges = (true, true) }

-- quotes are yearly rates in basis points: the higher the rate, the cheaper the paper
abbrev pub rate_formulas : Formulas
rate_formulas = record {
  highest = 5000;
  rank = λ quote. 5001 - quote;
  value = λ lots quote days. lots * (365000000000 / (3650000 + quote * days));
  pledges = (true, true);
}

-- a quotient to the nearest whole number, halves up
abbrev pub nearest : (amount by : ℕ) → ℕ
nearest amount by = cond (nat_le by (2 * (amount % by))) (amount / by + 1) (amount / by)

-- the buyer borrows 100,000 pesos a lot, at a yearly rate in basis points, and only the seller pledges
abbrev pub interbank_formulas : Formulas
interbank_formulas = record {
  highest = 5000;
  rank = λ quote. quote;
  value = λ lots quote days. lots * 100000 + nearest (lots * 100000 * (quote * days)) 3650000;
  pledges = (false, true);
}

abbrev pub price : Meaning
price = market price_formulas

abbrev pub rate : Meaning
rate = market rate_formulas

abbrev pub interbank : Meaning
interbank = market interbank_formulas
