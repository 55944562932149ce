-- How a pair closes.
use Rattle.std.specs.Prelude.{ℕ, Bool, false, not, [], ◌∷◌, ◌++◌, is_some, Option}
use Rattle.lines.specs.Rules.{fault}
use Rattle.lines.specs.declared.table.Deal.{Deal}
use Rattle.lines.specs.declared.table.Fault.{Fault}
use Rattle.rules.specs.declared.closes.Close.{Close}
use Rattle.rules.specs.declared.closes.Stage.TheVariants.{Live}
use Rattle.rules.specs.State.{Session, State, credit}
use Rattle.rules.specs.Board.{Pair, lesser, reduced}

-- what the pair's lesser lots are worth at a price
abbrev pub worth : Session → State → Pair → (price : ℕ) → ℕ
worth n s p price = n.market.value (lesser p) price (s.days p.buy.paper)

-- the pair's lesser lots at a price, as the lines see them
abbrev pub deal_at : Session → State → Pair → (price : ℕ) → Deal
deal_at n s p price = record { pledges = n.market.pledges; buyer = p.buy.house; seller = p.sell.house; value = worth n s p price }

-- why the pair may not trade so, if it may not
abbrev pub pair_fault : Session → State → Pair → (price : ℕ) → Option Fault
pair_fault n s p price = fault (credit n s) (deal_at n s p price)

-- it may
abbrev pub may_trade : Session → State → Pair → (price : ℕ) → Bool
may_trade n s p price = not (is_some (pair_fault n s p price))

-- the record of the close
abbrev pub close_at : Session → State → Pair → (price : ℕ) → Close
close_at n s p price = record {
  buyer = p.buy.house;
  seller = p.sell.house;
  buy = p.buy.number;
  sell = p.sell.number;
  paper = p.buy.paper;
  lots = lesser p;
  price = price;
  bid = p.buy.quote;
  ask = p.sell.quote;
  value = worth n s p price;
  stage = Live false;
}

-- the close is recorded, and its lots are taken from both offers
abbrev pub struck : Session → State → Pair → (price : ℕ) → State
struck n s p price =
    record s {
      offers = reduced p.buy.number (lesser p) (reduced p.sell.number (lesser p) s.offers);
      closes = s.closes ++ (close_at n s p price ∷ []);
    }
