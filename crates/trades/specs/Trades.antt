-- What a trade is worth, what is wrong with the figures of one, and how it is printed.
use Rattle.std.specs.Prelude.{ℕ, cond, not, List, ◌++◌, Some, None, Ok, Err, codes, decimal, Option, Result, ◌==◌, nat_lt}
use Rattle.std.specs.Str.{bytes_eq}
use Rattle.market.specs.Meaning.{Meaning, between}
use Rattle.market.specs.Makes.{price, rate, interbank}
use Rattle.trades.specs.declared.trade.Kind.{Kind}
use Rattle.trades.specs.declared.trade.Kind.TheVariants.{Price, Rate, Interbank}
use Rattle.trades.specs.declared.trade.Trade.{Trade}
use Rattle.trades.specs.declared.trade.Figures.{Figures}
use Rattle.trades.specs.declared.trade.Flaw.{Flaw}
use Rattle.trades.specs.declared.trade.Flaw.TheVariants.{NoBuyer, NoSeller, OneHouse, NoPaper, Lots, Quote, Days}

-- the market of a trade
abbrev pub market : Kind → Meaning
market Price = price
market Rate = rate
market Interbank = interbank

-- the word for it
abbrev pub name : Kind → List ℕ
name Price = codes "price"
name Rate = codes "rate"
name Interbank = codes "interbank"

-- the market that a word names
abbrev pub kind : List ℕ → Option Kind
kind w =
    cond (bytes_eq w (codes "price")) (Some Price)
    (cond (bytes_eq w (codes "rate")) (Some Rate)
    (cond (bytes_eq w (codes "interbank")) (Some Interbank) None))

abbrev pub value : Trade → ℕ
value t = (market t.kind).value t.lots t.quote t.days

-- the first figure that is out of range
abbrev pub flaw : Figures → Option Flaw
flaw f =
    cond (nat_lt 15 f.buyer) (Some NoBuyer)
    (cond (nat_lt 15 f.seller) (Some NoSeller)
    (cond (f.buyer == f.seller) (Some OneHouse)
    (cond (nat_lt 7 f.paper) (Some NoPaper)
    (cond (not (between 1 1000000 f.lots)) (Some Lots)
    (cond (not (between (market f.kind).lowest (market f.kind).highest f.quote)) (Some (Quote (market f.kind).highest))
    (cond (nat_lt 365 f.days) (Some Days) None))))))

-- the trade that these figures tell
abbrev pub told : Figures → Trade
told f = record { kind = f.kind; buyer = f.buyer; seller = f.seller; paper = f.paper; lots = f.lots; quote = f.quote; days = f.days }

abbrev pub checked : {X : Type 0} → Option Flaw → X → Result X Flaw
checked None x = Ok x
checked (Some f) x = Err f

-- the terms of a trade, as a line has them
abbrev pub terms : Trade → List ℕ
terms t =
    name t.kind ++ (codes " buyer " ++ (decimal t.buyer ++ (codes " seller " ++ (decimal t.seller ++ (codes " paper " ++ (decimal t.paper
    ++ (codes " lots " ++ (decimal t.lots ++ (codes " quote " ++ (decimal t.quote ++ (codes " days " ++ decimal t.days)))))))))))
