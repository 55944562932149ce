-- What is printed.
use Rattle.std.specs.Prelude.{ℕ, List, ◌++◌, ℤ, codes, decimal}
use Rattle.std.specs.Fmt.{signed_decimal}
use Rattle.lines.specs.declared.table.Fault.{Fault}
use Rattle.lines.specs.Printed.{cause}
use Rattle.blotter.specs.declared.entry.Field.{Field}
use Rattle.blotter.specs.declared.entry.Field.TheVariants.{Buyer, Seller, Paper, Lots, Quote, Days, Granter, Counterparty, Pesos, House, Other, Switch}
use Rattle.trades.specs.Trades.{value, terms}
use Rattle.trades.specs.declared.trade.Trade.{Trade}

-- the line of the trade of that number
abbrev pub trade_line : (number : ℕ) → Trade → List ℕ
trade_line number t = codes "trade " ++ (decimal number ++ (codes ": " ++ (terms t ++ (codes " value " ++ decimal (value t)))))

-- the line of a trade that is passed over
abbrev pub passed_line : (number : ℕ) → Trade → Fault → List ℕ
passed_line number t f = trade_line number t ++ (codes " passed over: " ++ cause f)

-- what a house has to receive or to deliver
abbrev pub lots_line : (house paper : ℕ) → ℤ → List ℕ
lots_line house paper lots = codes "house " ++ (decimal house ++ (codes " paper " ++ (decimal paper ++ (codes " lots " ++ signed_decimal lots))))

abbrev pub cash_line : (house : ℕ) → ℤ → List ℕ
cash_line house pesos = codes "house " ++ (decimal house ++ (codes " cash " ++ signed_decimal pesos))

-- what a word of a line is called
abbrev pub called : Field → List ℕ
called Buyer = codes "buyer"
called Seller = codes "seller"
called Paper = codes "paper"
called Lots = codes "lots"
called Quote = codes "quote"
called Days = codes "days"
called Granter = codes "granter"
called Counterparty = codes "counterparty"
called Pesos = codes "pesos"
called House = codes "house"
called Other = codes "the other house"
called Switch = codes "on or off"
